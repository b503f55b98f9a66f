-- How many edits of an editor and how many frames there are, as the list grows.
use Rattle.std.proofs.Common.{◌≡◌, ℕ, ◌+◌, ◌-◌, ◌<◌, ◌≤◌, Bool, true, false, cond, ◌&&◌, ◌||◌, ltb, List, [], ◌∷◌, ◌++◌, take, drop, get_or, Option, Some, None, refl, sym, ap, ◌∙◌, arith}
use Rattle.std.specs.Prelude.{is_some, slice_get}
use Rattle.std.specs.List.{count_by}
use Rattle.std.proofs.lemmas.Bool.{ltb-true}
use Rattle.std.proofs.lemmas.List.{take-take, take-append-drop}
use Rattle.std.proofs.lemmas.List.Sums.{count_by_more_yes, sum_by-append}
use Rattle.std.proofs.lemmas.Option.{slice_get_within, get_or_from_slice_get}
use Rattle.pv_outside.specs.declared.limits.Limits.{Limits}
use Rattle.pv_frame.specs.Content.{Content}
use Rattle.pv_edits.specs.declared.record.Record.{Record}
use Rattle.pv_edits.specs.declared.record.Record.TheVariants.{Put, Drop, Account, Lease, Taken}
use Rattle.pv_edits.specs.Edits.{frame_at}
use Rattle.pv_edits.specs.Room.{frame_count, has_editor, has_room}
use Rattle.pv_edits.proofs.CallerLemmas.{frame_count-push}

-- more elements pass a test before a later place than before one that passes
pub count_by-grows : {X : Type 0} (p : X → Bool) (xs : List X) (a b : ℕ) (x : X) → slice_get xs a ≡ Some x → p x ≡ true → a < b
    → count_by p (take a xs) < count_by p (take b xs)
count_by-grows p xs a b x is passes less =
    let here : p (get_or xs a x) ≡ true = ap p (get_or_from_slice_get xs a x x is) ∙ passes in
    let more = count_by_more_yes p xs a x (slice_get_within xs a x is) here in
    let prefix : take (a + 1) (take b xs) ≡ take (a + 1) xs = take-take (a + 1) b xs (omega arith) in
    let parts = ap (count_by p) (sym (take-append-drop (a + 1) (take b xs)))
    ∙ sum_by-append (λ y. cond (p y) 1 0) (take (a + 1) (take b xs)) (drop (a + 1) (take b xs)) in
    omega (arith, more, parts, ap (count_by p) prefix)

-- ---- how many names have a frame

-- no record leaves no frame
pub frame_count-none : frame_count [] ≡ 0
unfolding frame_count
frame_count-none = refl

-- the second of two tests that both hold
second_test : (one other : Bool) → (one && other) ≡ true → other ≡ true
second_test true other is = is
second_test false other is = absurd cc

-- a record for which there is room leaves the number of frames within its limit
pub frames_within : (limits : Limits) (edits : List Record) (edit : Record) → frame_count edits ≤ limits.frames
    → has_room limits edits edit ≡ true
    → frame_count (edits ++ edit ∷ []) ≤ limits.frames
frames_within limits edits (Put editor q name frame) within room =
    by (frame_at edits name) (frame_count-push edits (Put editor q name frame)) (second_test (has_editor edits editor) _ room)
  where
    by : (before : Option Content) → frame_count (edits ++ Put editor q name frame ∷ []) ≡ cond (is_some before) (frame_count edits)
        (frame_count edits + 1)
        → (is_some before || ltb (frame_count edits) limits.frames) ≡ true
        → frame_count (edits ++ Put editor q name frame ∷ []) ≤ limits.frames
    by None count fits = omega (arith, count, ltb-true (frame_count edits) limits.frames fits)
    by (Some other) count fits = omega (arith, count, within)
frames_within limits edits (Drop editor q name) within room = by (frame_at edits name) (frame_count-push edits (Drop editor q name))
  where
    by : (before : Option Content) → frame_count (edits ++ Drop editor q name ∷ []) ≡ cond (is_some before) (frame_count edits - 1)
        (frame_count edits)
        → frame_count (edits ++ Drop editor q name ∷ []) ≤ limits.frames
    by None count = omega (arith, count, within)
    by (Some other) count = omega (arith, count, within)
frames_within limits edits (Account editor q account) within room = omega (arith, frame_count-push edits (Account editor q account), within)
frames_within limits edits (Lease editor q root account) within room = omega
    (arith, frame_count-push edits (Lease editor q root account), within)
frames_within limits edits (Taken taken) within room = omega (arith, frame_count-push edits (Taken taken), within)
