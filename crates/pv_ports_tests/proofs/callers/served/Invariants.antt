use Rattle.pv_node.specs.Trail.{trail_records}
use Rattle.pv_ports_tests.proofs.callers.served.Given as goal

-- the run is that of this node, with what it starts with
abbrev pub ghosts-called-N-Run : goal.ghosts-called-N-Run
ghosts-called-N-Run g a = record {
  opening = trail_records a.centre.trail.items;
  limits = a.centre.node.state.limits;
  passes = 1;
  told = a.start.told;
  failed = a.start.failed;
}

abbrev pub ghosts-called-N-HistoryName : goal.ghosts-called-N-HistoryName
ghosts-called-N-HistoryName g a = record { book = a.start.book }

abbrev pub ghosts-called-N-GroupRun : goal.ghosts-called-N-GroupRun
ghosts-called-N-GroupRun g a = record { taken = a.start.taken }
