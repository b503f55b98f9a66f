use Rattle.pv_node.specs.Trail.{trail_records}
use Rattle.pv_ports_tests.proofs.looks.key_is_answered_from_its_own_look.Given as goal

-- the run is that of this node, with what it starts with
abbrev pub ghosts-key_late-N-Run : goal.ghosts-key_late-N-Run
ghosts-key_late-N-Run g a = record {
  opening = trail_records a.centre.trail.items;
  limits = a.centre.node.state.limits;
  passes = 2;
  told = a.start.told;
  failed = a.start.failed;
}

abbrev pub ghosts-key_late-N-HistoryName : goal.ghosts-key_late-N-HistoryName
ghosts-key_late-N-HistoryName g a = record { book = a.start.book }

abbrev pub ghosts-key_late-N-GroupRun : goal.ghosts-key_late-N-GroupRun
ghosts-key_late-N-GroupRun g a = record { taken = a.start.taken }
