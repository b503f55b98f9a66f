-- The names of the nodes' runs: by what they start with, and by what the nodes were opened with.
use Rattle.std.specs.Prelude.{[]}
use Rattle.std.specs.Option.{option_map, unwrap_or}
use Rattle.pv_node.specs.Trail.{trail_records}
use Rattle.pv_running.proofs.serving.serve_nodes.Given as goal

abbrev pub ghosts-serve_named-U-Run : goal.ghosts-serve_named-U-Run
ghosts-serve_named-U-Run g a = record {
  opening = trail_records a.nodes.update.trail.items;
  limits = a.limits;
  passes = a.starts.update.passes;
  told = a.starts.update.told;
  failed = a.starts.update.failed;
}

abbrev pub ghosts-serve_named-U-HistoryName : goal.ghosts-serve_named-U-HistoryName
ghosts-serve_named-U-HistoryName g a = record { book = a.starts.update.book }

abbrev pub ghosts-serve_named-U-GroupRun : goal.ghosts-serve_named-U-GroupRun
ghosts-serve_named-U-GroupRun g a = record { taken = a.starts.update.taken }

abbrev pub ghosts-serve_named-N0-Run : goal.ghosts-serve_named-N0-Run
ghosts-serve_named-N0-Run g a = record {
  opening = unwrap_or (option_map (λ o. trail_records o.trail.items) a.nodes.first) [];
  limits = a.limits;
  passes = a.starts.first.passes;
  told = a.starts.first.told;
  failed = a.starts.first.failed;
}

abbrev pub ghosts-serve_named-N0-HistoryName : goal.ghosts-serve_named-N0-HistoryName
ghosts-serve_named-N0-HistoryName g a = record { book = a.starts.first.book }

abbrev pub ghosts-serve_named-N0-GroupRun : goal.ghosts-serve_named-N0-GroupRun
ghosts-serve_named-N0-GroupRun g a = record { taken = a.starts.first.taken }

abbrev pub ghosts-serve_named-N1-Run : goal.ghosts-serve_named-N1-Run
ghosts-serve_named-N1-Run g a = record {
  opening = unwrap_or (option_map (λ o. trail_records o.trail.items) a.nodes.second) [];
  limits = a.limits;
  passes = a.starts.second.passes;
  told = a.starts.second.told;
  failed = a.starts.second.failed;
}

abbrev pub ghosts-serve_named-N1-HistoryName : goal.ghosts-serve_named-N1-HistoryName
ghosts-serve_named-N1-HistoryName g a = record { book = a.starts.second.book }

abbrev pub ghosts-serve_named-N1-GroupRun : goal.ghosts-serve_named-N1-GroupRun
ghosts-serve_named-N1-GroupRun g a = record { taken = a.starts.second.taken }

abbrev pub ghosts-serve_named-N2-Run : goal.ghosts-serve_named-N2-Run
ghosts-serve_named-N2-Run g a = record {
  opening = unwrap_or (option_map (λ o. trail_records o.trail.items) a.nodes.third) [];
  limits = a.limits;
  passes = a.starts.third.passes;
  told = a.starts.third.told;
  failed = a.starts.third.failed;
}

abbrev pub ghosts-serve_named-N2-HistoryName : goal.ghosts-serve_named-N2-HistoryName
ghosts-serve_named-N2-HistoryName g a = record { book = a.starts.third.book }

abbrev pub ghosts-serve_named-N2-GroupRun : goal.ghosts-serve_named-N2-GroupRun
ghosts-serve_named-N2-GroupRun g a = record { taken = a.starts.third.taken }

abbrev pub ghosts-serve_named-N3-Run : goal.ghosts-serve_named-N3-Run
ghosts-serve_named-N3-Run g a = record {
  opening = unwrap_or (option_map (λ o. trail_records o.trail.items) a.nodes.fourth) [];
  limits = a.limits;
  passes = a.starts.fourth.passes;
  told = a.starts.fourth.told;
  failed = a.starts.fourth.failed;
}

abbrev pub ghosts-serve_named-N3-HistoryName : goal.ghosts-serve_named-N3-HistoryName
ghosts-serve_named-N3-HistoryName g a = record { book = a.starts.fourth.book }

abbrev pub ghosts-serve_named-N3-GroupRun : goal.ghosts-serve_named-N3-GroupRun
ghosts-serve_named-N3-GroupRun g a = record { taken = a.starts.fourth.taken }
