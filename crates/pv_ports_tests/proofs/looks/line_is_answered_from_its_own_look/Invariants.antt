use Rattle.pv_node.specs.Trail.{trail_records}
use Rattle.pv_ports_tests.proofs.looks.line_is_answered_from_its_own_look.Given as goal

-- the run is that of this node, with what it starts with
abbrev pub ghosts-say_late-N-Run : goal.ghosts-say_late-N-Run
ghosts-say_late-N-Run g a = record {
  opening = trail_records a.udc.trail.items;
  limits = a.udc.node.state.limits;
  passes = 2;
  told = a.start.told;
  failed = a.start.failed;
}

abbrev pub ghosts-say_late-N-HistoryName : goal.ghosts-say_late-N-HistoryName
ghosts-say_late-N-HistoryName g a = record { book = a.start.book }

abbrev pub ghosts-say_late-N-GroupRun : goal.ghosts-say_late-N-GroupRun
ghosts-say_late-N-GroupRun g a = record { taken = a.start.taken }
