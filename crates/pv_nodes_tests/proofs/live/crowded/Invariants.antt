use Rattle.pv_nodes_tests.proofs.live.crowded.Given as goal

-- the run is that of this node, with what it starts with
abbrev pub ghosts-crowd-N-Run : goal.ghosts-crowd-N-Run
ghosts-crowd-N-Run g a = record {
  opening = a.node.state.records;
  limits = a.node.state.limits;
  passes = a.passes;
  told = a.start.told;
  failed = a.start.failed;
}

abbrev pub ghosts-crowd-N-HistoryName : goal.ghosts-crowd-N-HistoryName
ghosts-crowd-N-HistoryName g a = record { book = a.start.book }
