-- What one record more does to the counts of frames, accounts and leases.
use Rattle.std.proofs.Common.{◌≡◌, ℕ, ◌<◌, Bool, true, false, ltb, ◌&&◌, ◌||◌, List, [], ◌∷◌, ◌++◌, ap, ◌∙◌}
use Rattle.std.specs.Prelude.{reverse}
use Rattle.std.proofs.lemmas.Bool.{ltb-true}
use Rattle.std.proofs.lemmas.List.{reverse-append, reverse-reverse}
use Rattle.pv_edits.specs.declared.record.Record.{Record}
use Rattle.pv_edits.specs.Room.{count_from, frames_after, accounts_after, leases_after, frame_count, account_count, lease_count}

-- if there is room and the thing is not there, the count is below its limit
pub below : (editor there : Bool) (count limit : ℕ) → (editor && (there || ltb count limit)) ≡ true → there ≡ false → count < limit
below true false count limit room missing = ltb-true count limit room
below true true count limit room missing = absurd cc
below false there count limit room missing = absurd cc

-- a count over one record more
count_from-push : (start : ℕ) (after : List Record → ℕ → Record → ℕ) (records : List Record) (edit : Record)
    → count_from start after (reverse (records ++ edit ∷ [])) ≡ after records (count_from start after (reverse records)) edit
count_from-push start after records edit =
    ap (count_from start after) (reverse-append records (edit ∷ []))
    ∙ ap (λ before. after before (count_from start after (reverse records)) edit) (reverse-reverse records)

pub frame_count-push : (records : List Record) (edit : Record)
    → frame_count (records ++ edit ∷ []) ≡ frames_after records (frame_count records) edit
unfolding frame_count
frame_count-push records edit = count_from-push 0 frames_after records edit

pub account_count-push : (records : List Record) (edit : Record)
    → account_count (records ++ edit ∷ []) ≡ accounts_after records (account_count records) edit
unfolding account_count
account_count-push records edit = count_from-push 1 accounts_after records edit

pub lease_count-push : (records : List Record) (edit : Record)
    → lease_count (records ++ edit ∷ []) ≡ leases_after records (lease_count records) edit
unfolding lease_count
lease_count-push records edit = count_from-push 0 leases_after records edit
