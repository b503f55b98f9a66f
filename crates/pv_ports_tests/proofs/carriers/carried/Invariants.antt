use Rattle.pv_node.specs.Trail.{trail_records}
use Rattle.pv_ports_tests.proofs.carriers.carried.Given as goal

-- the runs are those of these nodes, with what they start with
abbrev pub ghosts-rounds-U-Run : goal.ghosts-rounds-U-Run
ghosts-rounds-U-Run g a = record {
  opening = trail_records a.udc.trail.items;
  limits = a.udc.node.state.limits;
  passes = 1;
  told = a.udc_start.told;
  failed = a.udc_start.failed;
}

abbrev pub ghosts-rounds-U-HistoryName : goal.ghosts-rounds-U-HistoryName
ghosts-rounds-U-HistoryName g a = record { book = a.udc_start.book }

abbrev pub ghosts-rounds-U-GroupRun : goal.ghosts-rounds-U-GroupRun
ghosts-rounds-U-GroupRun g a = record { taken = a.udc_start.taken }

abbrev pub ghosts-rounds-N-Run : goal.ghosts-rounds-N-Run
ghosts-rounds-N-Run g a = record {
  opening = trail_records a.centre.trail.items;
  limits = a.centre.node.state.limits;
  passes = 1;
  told = a.centre_start.told;
  failed = a.centre_start.failed;
}

abbrev pub ghosts-rounds-N-HistoryName : goal.ghosts-rounds-N-HistoryName
ghosts-rounds-N-HistoryName g a = record { book = a.centre_start.book }

abbrev pub ghosts-rounds-N-GroupRun : goal.ghosts-rounds-N-GroupRun
ghosts-rounds-N-GroupRun g a = record { taken = a.centre_start.taken }
