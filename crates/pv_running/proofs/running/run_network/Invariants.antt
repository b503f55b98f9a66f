-- The rows are named by what they begin with.
use Rattle.pv_running.proofs.running.run_network.Given as goal

abbrev pub ghosts-run_rows-B0-RowStart : goal.ghosts-run_rows-B0-RowStart
ghosts-run_rows-B0-RowStart g a = record {
  stands = a.ports.first.items;
  shown = g.K.Clock.moment a.clock.now;
}

abbrev pub ghosts-run_rows-B1-RowStart : goal.ghosts-run_rows-B1-RowStart
ghosts-run_rows-B1-RowStart g a = record {
  stands = a.ports.second.items;
  shown = g.K.Clock.moment a.clock.now;
}

abbrev pub ghosts-run_rows-B2-RowStart : goal.ghosts-run_rows-B2-RowStart
ghosts-run_rows-B2-RowStart g a = record {
  stands = a.ports.third.items;
  shown = g.K.Clock.moment a.clock.now;
}

abbrev pub ghosts-run_rows-B3-RowStart : goal.ghosts-run_rows-B3-RowStart
ghosts-run_rows-B3-RowStart g a = record {
  stands = a.ports.fourth.items;
  shown = g.K.Clock.moment a.clock.now;
}

abbrev pub ghosts-run_rows-BE-RowStart : goal.ghosts-run_rows-BE-RowStart
ghosts-run_rows-BE-RowStart g a = record {
  stands = a.ports.editors.items;
  shown = g.K.Clock.moment a.clock.now;
}
