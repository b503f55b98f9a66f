use Rattle.pv_nodes_tests.proofs.group.edited.Given as goal

-- the run is that of this node, with what it starts with
abbrev pub ghosts-edit_at-N-Run : goal.ghosts-edit_at-N-Run
ghosts-edit_at-N-Run g a = record {
  opening = a.node.state.records;
  limits = a.node.state.limits;
  passes = 2;
  told = a.start.told;
  failed = a.start.failed;
}

abbrev pub ghosts-edit_at-N-HistoryName : goal.ghosts-edit_at-N-HistoryName
ghosts-edit_at-N-HistoryName g a = record { book = a.start.book }

abbrev pub ghosts-edit_at-N-GroupRun : goal.ghosts-edit_at-N-GroupRun
ghosts-edit_at-N-GroupRun g a = record { taken = a.start.taken }
