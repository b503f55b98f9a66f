use Rattle.pv_node.specs.Trail.{trail_records}
use Rattle.pv_ports_tests.proofs.editors.session.Given as goal

-- the run is that of this node, with what it starts with
abbrev pub ghosts-one_session-N-Run : goal.ghosts-one_session-N-Run
ghosts-one_session-N-Run g a = record {
  opening = trail_records a.udc.trail.items;
  limits = a.udc.node.state.limits;
  passes = 1;
  told = a.start.told;
  failed = a.start.failed;
}

abbrev pub ghosts-one_session-N-HistoryName : goal.ghosts-one_session-N-HistoryName
ghosts-one_session-N-HistoryName g a = record { book = a.start.book }

abbrev pub ghosts-one_session-N-GroupRun : goal.ghosts-one_session-N-GroupRun
ghosts-one_session-N-GroupRun g a = record { taken = a.start.taken }
