use Rattle.pv_nodes_tests.proofs.group.passes_in_turn_get_the_replies_of_a_live_node.Given as goal

-- each run is that of its node, with what it starts with
abbrev pub ghosts-in_turn-N-Run : goal.ghosts-in_turn-N-Run
ghosts-in_turn-N-Run g a = record {
  opening = a.node.state.records;
  limits = a.node.state.limits;
  passes = 3;
  told = a.start.told;
  failed = a.start.failed;
}

abbrev pub ghosts-in_turn-N-HistoryName : goal.ghosts-in_turn-N-HistoryName
ghosts-in_turn-N-HistoryName g a = record { book = a.start.book }

abbrev pub ghosts-in_turn-N-GroupRun : goal.ghosts-in_turn-N-GroupRun
ghosts-in_turn-N-GroupRun g a = record { taken = a.start.taken }

abbrev pub ghosts-in_turn_single-N-Run : goal.ghosts-in_turn_single-N-Run
ghosts-in_turn_single-N-Run g a = record {
  opening = a.node.state.records;
  limits = a.node.state.limits;
  passes = 3;
  told = a.start.told;
  failed = a.start.failed;
}

abbrev pub ghosts-in_turn_single-N-HistoryName : goal.ghosts-in_turn_single-N-HistoryName
ghosts-in_turn_single-N-HistoryName g a = record { book = a.start.book }
