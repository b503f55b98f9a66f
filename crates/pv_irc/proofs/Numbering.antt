-- In a list that a centre stored, what was applied has the places 0, 1, 2 and on.
use Rattle.std.proofs.Common.{◌≡◌, ℕ, zero, suc, ◌+◌, ◌≤◌, List, [], ◌∷◌, ◌++◌, length, None, refl, ap, sym, subst, ◌∙◌, append_assoc, append-nil, arith}
use Rattle.std.specs.List.{range_with_len}
use Rattle.std.proofs.lemmas.Bool.{ltb-false}
use Rattle.std.proofs.lemmas.List.{length-append}
use Rattle.std.proofs.lemmas.List.Elements.{filter_map-append}
use Rattle.pv_outside.specs.declared.limits.Limits.{Limits}
use Rattle.pv_fields.specs.Refusals.{first_of}
use Rattle.pv_fields.proofs.CallerLemmas.{some_if-none, all_missing}
use Rattle.pv_post.specs.Boxes.{has_letter}
use Rattle.pv_edits.specs.declared.down.DownRecord.{DownRecord}
use Rattle.pv_node.specs.declared.decision.Decision.TheVariants.{Store}
use Rattle.pv_irc.specs.History.{applied_in, applied_records, applied_of, CentreState, centre_state_of, letters_for}
use Rattle.pv_irc.specs.Deciding.{reasons_against, centre_judgement}
use Rattle.pv_irc.specs.Numbers.{IsCentreRun, place_in, applied_places, first_places}
use Rattle.pv_irc.specs.Ruling.{is_applied, is_removed, stored_or}
use Rattle.pv_irc.specs.declared.record.CentreRecord.{CentreRecord}
use Rattle.pv_irc.specs.declared.record.CentreRecord.TheVariants as records
use Rattle.pv_irc.specs.declared.reply.IrcReply.{IrcReply}
use Rattle.pv_irc.specs.declared.reply.IrcReply.TheVariants.{Old, Early}
use Rattle.pv_irc.specs.declared.request.IrcRequest.{IrcRequest}
use Rattle.pv_irc.specs.declared.request.IrcRequest.TheVariants.{Apply, LogOn, Keep, Remove}

-- one place more
range_with_len-push : (a n : ℕ) → range_with_len a (suc n) ≡ range_with_len a n ++ (a + n) ∷ []
range_with_len-push a zero = ap (λ b. b ∷ []) (omega arith)
range_with_len-push a (suc n) = ap (λ l. a ∷ l) (range_with_len-push (a + 1) n ∙ ap (λ b. range_with_len (a + 1) n ++ b ∷ []) (omega arith))

-- what came down is applied only under the count of what was
is_next : (state : CentreState) (n : ℕ) (down : DownRecord) → first_of (reasons_against state n down) ≡ None → n ≡ state.applied
is_next state n down none =
    let missing = all_missing (reasons_against state n down) none in
    let high : state.applied ≤ n = ltb-false _ _ (some_if-none _ (Old state.applied) missing.0) in
    let low : n ≤ state.applied = ltb-false _ _ (some_if-none _ (Early state.applied) missing.1.0) in
    omega (arith, high, low)

-- the places are 0, 1, 2 and on
abbrev Counts : List CentreRecord → Type 0
Counts records = applied_places records ≡ first_places (applied_of records)

-- a record that applies nothing leaves them as they were
others : (stored : List CentreRecord) (rec : CentreRecord) → place_in rec ≡ None → applied_in rec ≡ None → Counts stored
    → Counts (stored ++ rec ∷ [])
others stored rec no_place nothing counts =
    let places : applied_places (stored ++ rec ∷ []) ≡ applied_places stored =
    filter_map-append place_in stored (rec ∷ []) ∙ rw no_place (append-nil (applied_places stored)) in
    let same : applied_records (stored ++ rec ∷ []) ≡ applied_records stored =
    filter_map-append applied_in stored (rec ∷ []) ∙ rw nothing (append-nil (applied_records stored)) in
    places ∙ counts ∙ ap (λ (l : List DownRecord). first_places (length l)) (sym same)

-- the next one has the next place
next : (stored : List CentreRecord) (n : ℕ) (down : DownRecord) → n ≡ applied_of stored → Counts stored
    → Counts (stored ++ records.Applied n down ∷ [])
next stored n down is counts =
    let one = records.Applied n down in
    let more : length (applied_records stored ++ down ∷ []) ≡ suc (applied_of stored) =
    omega (arith, length-append (applied_records stored) (down ∷ [])) in
    let last : n ≡ 0 + applied_of stored = omega (arith, is) in
    filter_map-append place_in stored (one ∷ [])
    ∙ ap (λ l. l ++ n ∷ []) counts
    ∙ ap (λ place. first_places (applied_of stored) ++ place ∷ []) last
    ∙ sym (range_with_len-push 0 (applied_of stored))
    ∙ ap first_places (sym more)
    ∙ ap (λ (l : List DownRecord). first_places (length l)) (sym (filter_map-append applied_in stored (one ∷ [])))

module _ (centre : ℕ) (limits : Limits) where
  -- a record that is stored
  one_more : (before : List CentreRecord) (rec : CentreRecord) (request : IrcRequest) (reply : IrcReply)
      → centre_judgement (centre_state_of centre limits before) request ≡ Store rec reply → Counts before → Counts (before ++ rec ∷ [])
  one_more before rec (Apply n down) reply is counts =
      let state = centre_state_of centre limits before in
      let done = is_applied (first_of (reasons_against state n down)) n down rec reply is in
      subst (λ r. Counts (before ++ r ∷ [])) done.1 (next before n down (is_next state n down done.0) counts)
  one_more before rec (LogOn account) reply is counts =
      subst (λ r. Counts (before ++ r ∷ [])) (ap (stored_or rec) is) (others before (records.LogOn account) refl refl counts)
  one_more before rec (Keep item) reply is counts =
      subst (λ r. Counts (before ++ r ∷ [])) (ap (stored_or rec) is) (others before (records.Kept item) refl refl counts)
  one_more before rec (Remove account number) reply is counts =
      let waits = has_letter (letters_for (centre_state_of centre limits before) account) number in
      subst (λ r. Counts (before ++ r ∷ [])) (is_removed waits account number rec reply is)
      (others before (records.Removed account number) refl refl counts)

  -- and so on to the end of the list
  on : (before later stored : List CentreRecord) → stored ≡ before ++ later → IsCentreRun centre limits stored
      → Counts before → Counts stored
  on before [] stored is run counts = subst Counts (sym (append-nil before) ∙ sym is) counts
  on before (rec ∷ later) stored is run counts =
      let here = run before later rec is in
      on (before ++ rec ∷ []) later stored (is ∙ sym (append_assoc before (rec ∷ []) later)) run
      (one_more before rec here.0 here.1 here.2 counts)

-- in a list that a centre stored
pub places-of_run : (centre : ℕ) (limits : Limits) (stored : List CentreRecord) → IsCentreRun centre limits stored
    → applied_places stored ≡ first_places (applied_of stored)
places-of_run centre limits stored run = on centre limits [] stored stored refl run refl
