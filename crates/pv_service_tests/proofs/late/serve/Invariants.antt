use Rattle.pv_node.specs.Trail.{trail_records}
use Rattle.pv_service_tests.proofs.late.serve.Given as goal

-- the run of the Update Centre is that of this node, with what it starts with
abbrev pub ghosts-serve_named-U-Run : goal.ghosts-serve_named-U-Run
ghosts-serve_named-U-Run g a = record {
  opening = trail_records a.udc.trail.items;
  limits = a.udc.node.state.limits;
  passes = 2;
  told = a.udc_start.told;
  failed = a.udc_start.failed;
}

abbrev pub ghosts-serve_named-U-HistoryName : goal.ghosts-serve_named-U-HistoryName
ghosts-serve_named-U-HistoryName g a = record { book = a.udc_start.book }

abbrev pub ghosts-serve_named-U-GroupRun : goal.ghosts-serve_named-U-GroupRun
ghosts-serve_named-U-GroupRun g a = record { taken = a.udc_start.taken }

-- and so is that of the centre
abbrev pub ghosts-serve_named-N-Run : goal.ghosts-serve_named-N-Run
ghosts-serve_named-N-Run g a = record {
  opening = trail_records a.centre.trail.items;
  limits = a.centre.node.state.limits;
  passes = 3;
  told = a.centre_start.told;
  failed = a.centre_start.failed;
}

abbrev pub ghosts-serve_named-N-HistoryName : goal.ghosts-serve_named-N-HistoryName
ghosts-serve_named-N-HistoryName g a = record { book = a.centre_start.book }

abbrev pub ghosts-serve_named-N-GroupRun : goal.ghosts-serve_named-N-GroupRun
ghosts-serve_named-N-GroupRun g a = record { taken = a.centre_start.taken }
