use Rattle.std.proofs.Common.{◌≡◌, ◌≤◌, take, drop, length}
use Rattle.pv_post.specs.Boxes.{without_letter}
use Rattle.pv_post.proofs.letter.keep_others.Given as goal

-- the letters so far are sorted out, and the others are as they were
abbrev pub invariant-loop-place : goal.invariant-loop-place
invariant-loop-place l =
    record {
      kept : take l.kept l.places ≡ without_letter (take l.place l.initial.places) l.number;
      within : l.kept ≤ l.place;
      len : length l.places ≡ length l.initial.places;
      rest : drop l.place l.places ≡ drop l.place l.initial.places;
    }
