-- What a door reports, and what becomes of it while connections are served.
use Rattle.std.specs.Prelude.{◌≡◌, ℕ, ◌+◌, ◌≤◌, List, ◌++◌, length, Option}
use Rattle.std.specs.Option.{option_map}
use Rattle.pv_outside.specs.Counts.{Rose}

-- a door: the connections that were given back, if it can report them, and how many lines it has accepted, how many were given back, and
-- how often an accept has failed
pub record DoorReport (L : Type 0) : Type 0 where
  pub lines : Option (List L)
  pub accepted : ℕ
  pub finished : ℕ
  pub faults : ℕ

-- what a door reports, by what each of its reports is
abbrev pub door_of : {O L : Type 0} → (O → Option (List L)) → (O → ℕ) → (O → ℕ) → (O → ℕ) → O → DoorReport L
door_of lines accepted finished faults door = record {
  lines = lines door;
  accepted = accepted door;
  finished = finished door;
  faults = faults door;
}

-- these connections came in and were given back, in this order
pub record GivesBack {L : Type 0} (lines : List L) (old new : DoorReport L) : Type 0 where
  pub back : new.lines ≡ option_map (λ before. before ++ lines) old.lines
  pub accepted : new.accepted ≡ old.accepted + length lines
  pub finished : new.finished ≡ old.finished + length lines
  pub faults : old.faults ≤ new.faults

-- no connection came in: an accept failed
pub record LetsNoneIn {L : Type 0} (old new : DoorReport L) : Type 0 where
  pub back : new.lines ≡ old.lines
  pub accepted : new.accepted ≡ old.accepted
  pub finished : new.finished ≡ old.finished
  pub counted : old.faults ≤ new.faults
  pub rose : Rose old.faults new.faults
