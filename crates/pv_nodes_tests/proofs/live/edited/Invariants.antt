use Rattle.pv_nodes_tests.proofs.live.edited.Given as goal

-- the run is that of this node, with what it starts with
abbrev pub ghosts-edit_each-N-Run : goal.ghosts-edit_each-N-Run
ghosts-edit_each-N-Run g a = record {
  opening = a.node.state.records;
  limits = a.node.state.limits;
  passes = a.passes;
  told = a.start.told;
  failed = a.start.failed;
}

abbrev pub ghosts-edit_each-N-HistoryName : goal.ghosts-edit_each-N-HistoryName
ghosts-edit_each-N-HistoryName g a = record { book = a.start.book }
