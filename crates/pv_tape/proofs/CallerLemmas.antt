-- What a proof in a crate above may cite: the records after a run before which nothing else was stored.
pub use Rattle.pv_tape.proofs.Runs.{after_run, after_whole_run, whole_run}
