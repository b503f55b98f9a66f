-- The keys of bytes that make no entry are kept.
use Rattle.std.proofs.Common.{◌≡◌, ℕ, ◌+◌, Bool, true, false, List, [], ◌∷◌, ◌++◌, Option, Some, None, sym, ap, subst, ◌∙◌, arith, append_assoc}
use Rattle.std.specs.Prelude.{flat_map, if◌then◌else◌}
use Rattle.std.proofs.lemmas.List.{append-nil}
use Rattle.std.proofs.lemmas.List.Concat.{flat_map-cons}
use Rattle.pv_edits.specs.Sight.{View}
use Rattle.pv_session.specs.declared.entry.Entry.{Entry}
use Rattle.pv_session.specs.declared.step.Phase.{Phase}
use Rattle.pv_session.specs.declared.step.Phase.TheVariants.{Listening, Over}
use Rattle.pv_session.specs.declared.step.Step.{Step}
use Rattle.pv_session.specs.Entries.{Mode, mode_keys, leaves_mode, kept_keys}
use Rattle.pv_session.specs.Filling.{browsing_call}
use Rattle.pv_session.specs.State.{CallState}
use Rattle.pv_session.specs.Turns.{Goes, Listens, IsTurnIn, is_spent, reading_call, read_turn, byte_turn}
use Rattle.pv_session.specs.Calls.{IsWaiting, AreWaiting}
use Rattle.pv_session.proofs.Kept.{kept-more}
use Rattle.pv_session.proofs.Laws.{byte_raises}

-- the mode stays, and the keys of the byte are kept
abbrev Keeps_keys : CallState → ℕ → CallState → Type 0
Keeps_keys call byte next =
    (next.mode ≡ call.mode) × (next.keyed ≡ kept_keys call.mode (call.keyed ++ mode_keys call.mode byte))

-- a byte that is heard
hears_waiting : (call next : CallState) (byte : ℕ) (view : View) (moment : ℕ) (step : Step) (entry : Option Entry)
    → leaves_mode call.mode byte ≡ false → Goes (byte_turn call byte view moment entry) next step → next.entries ≡ call.entries
    → Keeps_keys call byte next
hears_waiting call next byte view moment step None stays goes same =
    let here : reading_call call byte ≡ call = ap (λ (leaves : Bool). if leaves then browsing_call call else call) stays in
    let after : next ≡ (read_turn call byte view moment None).0 =
    goes.after_is ∙ ap (λ (c : CallState). (read_turn c byte view moment None).0) here in
    (ap (λ (c : CallState). c.mode) after, ap (λ (c : CallState). c.keyed) after)
hears_waiting call next byte view moment step (Some entry) stays goes same =
    let more : next.entries ≡ call.entries + 1 =
    ap (λ (c : CallState). c.entries) goes.after_is ∙ byte_raises call byte view moment entry in
    absurd (omega arith)

-- a byte at a seat that takes keys
listens_waiting : (spent : Bool) (call next : CallState) (byte : ℕ) (view : View) (moment : ℕ) (step : Step)
    → leaves_mode call.mode byte ≡ false → Listens spent call byte view moment next step → next.phase ≡ Listening
    → next.entries ≡ call.entries → Keeps_keys call byte next
listens_waiting true call next byte view moment step stays goes listening same =
    let over : next.phase ≡ Over = ap (λ (c : CallState). c.phase) goes.after_is in
    let both : Listening ≡ Over = sym listening ∙ over in
    absurd cc
listens_waiting false call next byte view moment step stays hears listening same =
    hears_waiting call next byte view moment step hears.entry stays hears.goes same

-- a byte that makes no entry
waiting : (call next : CallState) (byte : ℕ) → IsWaiting call byte next → Keeps_keys call byte next
waiting call next byte is =
    let turns = subst (λ (phase : Phase). IsTurnIn phase call byte is.view is.moment next is.step) is.listening.0 is.turns in
    listens_waiting (is_spent call) call next byte is.view is.moment is.step is.stays turns is.listening.1 is.no_entry

-- many of them
pub all_kept : (bytes : List ℕ) (call after : CallState) → kept_keys call.mode call.keyed ≡ call.keyed → AreWaiting call bytes after
    → (after.mode ≡ call.mode) × (after.keyed ≡ kept_keys call.mode (call.keyed ++ flat_map (mode_keys call.mode) bytes))
all_kept [] call after kept same = (
  ap (λ (c : CallState). c.mode) (sym same),
  ap (λ (c : CallState). c.keyed) (sym same) ∙ sym kept ∙ ap (kept_keys call.mode) (sym (append-nil call.keyed)),
)
all_kept (byte ∷ bytes) call after kept (next, here, more) =
    let mode = call.mode in
    let keys = mode_keys mode byte in
    let later = flat_map (mode_keys mode) bytes in
    let first = waiting call next byte here in
    let still : kept_keys next.mode next.keyed ≡ next.keyed =
    ap (λ (m : Mode). kept_keys m next.keyed) first.0
    ∙ ap (kept_keys mode) (first.1 ∙ sym (append-nil (kept_keys mode (call.keyed ++ keys))))
    ∙ kept-more mode (call.keyed ++ keys) []
    ∙ ap (kept_keys mode) (append-nil (call.keyed ++ keys))
    ∙ sym first.1 in
    let rest = all_kept bytes next after still more in (
      rest.0 ∙ first.0,
      rest.1
          ∙ ap (λ (m : Mode). kept_keys m (next.keyed ++ flat_map (mode_keys m) bytes)) first.0
          ∙ ap (λ all. kept_keys mode (all ++ later)) first.1
          ∙ kept-more mode (call.keyed ++ keys) later
          ∙ ap (kept_keys mode) (append_assoc call.keyed keys later
          ∙ ap (λ all. call.keyed ++ all) (sym (flat_map-cons (mode_keys mode) byte bytes))),
    )
