use Rattle.pv_node.specs.Trail.{trail_records}
use Rattle.pv_ports_tests.proofs.late.second_look_finds_what_was_applied_since.Given as goal

-- the run is that of this node, with what it starts with
abbrev pub ghosts-look_twice-N-Run : goal.ghosts-look_twice-N-Run
ghosts-look_twice-N-Run g a = record {
  opening = trail_records a.centre.trail.items;
  limits = a.centre.node.state.limits;
  passes = 2;
  told = a.start.told;
  failed = a.start.failed;
}

abbrev pub ghosts-look_twice-N-HistoryName : goal.ghosts-look_twice-N-HistoryName
ghosts-look_twice-N-HistoryName g a = record { book = a.start.book }

abbrev pub ghosts-look_twice-N-GroupRun : goal.ghosts-look_twice-N-GroupRun
ghosts-look_twice-N-GroupRun g a = record { taken = a.start.taken }
