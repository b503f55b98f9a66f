-- What an `Out` shows of itself: the bytes written, the rest of its slice, and which slice it is.
use Rattle.std.specs.Prelude.{◌≡◌, ℕ, ◌+◌, ◌<◌, List, Result, Ok, Err, ◌++◌, length, take, drop}
use Rattle.std.specs.Borrow.{GName}
use Rattle.pv_fields.specs.declared.writing.Out.{Out}

-- the bytes written so far, at the beginning of the slice
abbrev pub written_of : Out → List ℕ
written_of out = take out.count out.into.now

-- the rest of the slice, which is as it was at first
abbrev pub rest_of : Out → List ℕ
rest_of out = drop out.count out.into.now

-- how many bytes still fit
abbrev pub room_of : Out → ℕ
room_of out = length (rest_of out)

-- which of the caller's slices it is
abbrev pub slice_of : Out → GName
slice_of out = out.into.ghost_name

-- these bytes were appended, and nothing else was done: the rest of the room is as it was
pub record Appends (old new : Out) (bytes : List ℕ) : Type 0 where
  pub written : written_of new ≡ written_of old ++ bytes
  pub rest : rest_of new ≡ drop (length bytes) (rest_of old)
  pub room : room_of new + length bytes ≡ room_of old
  pub slice : slice_of new ≡ slice_of old

-- these bytes were appended, or there was no room for them
abbrev pub Puts : {T E : Type 0} → Result T E → Out → Out → List ℕ → Type 0
Puts (Ok x) old new bytes = Appends old new bytes
Puts (Err e) old new bytes = room_of old < length bytes
