-- What is sent to a caller is a function of his keys and of what he may see at his entries.
use Rattle.std.proofs.Common.{◌≡◌, ℕ, ◌+◌, Bool, true, false, List, [], ◌∷◌, Option, Some, None, if◌then◌else◌, refl, sym, ap, subst, ◌∙◌, inl, inr, arith}
use Rattle.std.proofs.lemmas.Bool.{cases_eq}
use Rattle.pv_words.specs.Parts.{Exactly}
use Rattle.pv_edits.specs.Sight.{View}
use Rattle.pv_session.specs.declared.entry.Entry.{Entry}
use Rattle.pv_session.specs.declared.step.Phase.{Phase}
use Rattle.pv_session.specs.declared.step.Phase.TheVariants as phases
use Rattle.pv_session.specs.declared.step.Step.{Step}
use Rattle.pv_session.specs.State.{CallState}
use Rattle.pv_session.specs.Turns.{Goes, Listens, IsTurnIn, IsTurn, is_spent, entry_turn, byte_turn, call_at_entry, reading_call}
use Rattle.pv_session.specs.Entries.{leaves_mode}
use Rattle.pv_session.specs.Filling.{browsing_call}
use Rattle.pv_session.proofs.EachTurn.{entry_holds}
use Rattle.pv_session.specs.Calls.{CallEvent, Keyed, Stored, Refused, Happens, AreSteps, IsLike, AreStepsOfLike}

-- ---- what an entry does changes no count of entries

-- it leaves the count as it was
pub entry_keeps : (call : CallState) (view : View) (moment : ℕ) (entry : Entry)
    → (entry_turn call view moment entry).0.entries ≡ call.entries
entry_keeps call view moment entry =
    entry_holds (λ c. c.entries ≡ call.entries) (λ turn. turn.0.entries ≡ call.entries) moment (λ _ _ is. is) (λ _ _ is. is)
    (λ _ _ is. is) (λ _ _ _ is. is) (λ _ _ is. is) (λ _ _ is. is) (λ _ _ _ _ is. is) (λ _ is. is) (λ _ _ _ _ _ is. is) (λ _ _ is. is)
    call view entry refl

-- a byte that leaves a mode changes no count either
pub reading_keeps : (leaves : Bool) (call : CallState) → (if leaves then browsing_call call else call).entries ≡ call.entries
reading_keeps true call = refl
reading_keeps false call = refl

-- so a byte that makes an entry raises the count
pub byte_raises : (call : CallState) (byte : ℕ) (view : View) (moment : ℕ) (entry : Entry)
    → (byte_turn call byte view moment (Some entry)).0.entries ≡ call.entries + 1
byte_raises call byte view moment entry =
    entry_keeps (call_at_entry (reading_call call byte)) view moment entry
    ∙ ap (λ n. n + 1) (reading_keeps (leaves_mode call.mode byte) call)

-- ---- a byte that makes no entry

module _ (view other : View) (moment later : ℕ) where
  -- a byte that makes an entry raises the count, so it is none that leaves it
  hears_unseen : (call after : CallState) (byte : ℕ) (step : Step) (entry : Option Entry)
      → Goes (byte_turn call byte view moment entry) after step → after.entries ≡ call.entries
      → Goes (byte_turn call byte other later entry) after step
  hears_unseen call after byte step None goes same = record { after_is = goes.after_is; step_is = goes.step_is }
  hears_unseen call after byte step (Some entry) goes same =
      let more : after.entries ≡ call.entries + 1 =
      ap (λ (c : CallState). c.entries) goes.after_is ∙ byte_raises call byte view moment entry in
      absurd (omega arith)

  -- a byte at a seat that takes keys
  listens_unseen : (spent : Bool) (call after : CallState) (byte : ℕ) (step : Step)
      → Listens spent call byte view moment after step → after.entries ≡ call.entries → Listens spent call byte other later after step
  listens_unseen true call after byte step goes same = goes
  listens_unseen false call after byte step hears same = record {
    entry = hears.entry;
    says = hears.says;
    goes = hears_unseen call after byte step hears.entry hears.goes same;
  }

  -- a byte at any seat
  turns_unseen : (phase : Phase) (call after : CallState) (byte : ℕ) (step : Step)
      → IsTurnIn phase call byte view moment after step → after.entries ≡ call.entries
      → IsTurnIn phase call byte other later after step
  turns_unseen phases.Listening call after byte step turns same = listens_unseen (is_spent call) call after byte step turns same
  turns_unseen (phases.Owing wish) call after byte step turns same = turns
  turns_unseen phases.Over call after byte step turns same = turns

-- neither the sight nor the moment counts at a byte that makes no entry
pub unseen : (call after : CallState) (byte : ℕ) (view other : View) (moment later : ℕ) (step : Step)
    → IsTurn call byte view moment after step → after.entries ≡ call.entries → IsTurn call byte other later after step
unseen call after byte view other moment later step turns same =
    turns_unseen view other moment later call.phase call after byte step turns same

-- ---- one way

-- what comes of one turn comes in one way
one_end : (turn : CallState × Step) (x y : CallState) (a b : Step) → Goes turn x a → Goes turn y b → (x ≡ y) × (a ≡ b)
one_end turn x y a b is_x is_y = (is_x.after_is ∙ sym is_y.after_is, is_x.step_is ∙ sym is_y.step_is)

-- a value that is found exactly is one
one_value : {A : Type 0} (Is : A → Type 0) (a b : Option A) → Exactly Is a → Exactly Is b → a ≡ b
one_value Is None None is_a is_b = refl
one_value Is None (Some b) is_a is_b = is_a.only b is_b.found
one_value Is (Some a) b is_a is_b = sym (is_b.only a is_a.found)

-- a byte at a seat that takes keys, in one way
listens_once : (spent : Bool) (call x y : CallState) (byte : ℕ) (view : View) (moment : ℕ) (a b : Step)
    → Listens spent call byte view moment x a → Listens spent call byte view moment y b → (x ≡ y) × (a ≡ b)
listens_once true call x y byte view moment a b is_x is_y = one_end _ x y a b is_x is_y
listens_once false call x y byte view moment a b is_x is_y =
    let same = one_value _ is_x.entry is_y.entry is_x.says is_y.says in
    one_end (byte_turn call byte view moment is_y.entry) x y a b
    (subst (λ (entry : Option Entry). Goes (byte_turn call byte view moment entry) x a) same is_x.goes) is_y.goes

-- a byte at any seat, in one way
turns_once : (phase : Phase) (call x y : CallState) (byte : ℕ) (view : View) (moment : ℕ) (a b : Step)
    → IsTurnIn phase call byte view moment x a → IsTurnIn phase call byte view moment y b → (x ≡ y) × (a ≡ b)
turns_once phases.Listening call x y byte view moment a b is_x is_y = listens_once (is_spent call) call x y byte view moment a b is_x is_y
turns_once (phases.Owing wish) call x y byte view moment a b is_x is_y = one_end _ x y a b is_x is_y
turns_once phases.Over call x y byte view moment a b is_x is_y = one_end _ x y a b is_x is_y

-- whatever happens, in one way
happens_once : (call x y : CallState) (event : CallEvent) (a b : Step) → Happens call event x a → Happens call event y b
    → (x ≡ y) × (a ≡ b)
happens_once call x y (Keyed byte view moment) a b is_x is_y = turns_once call.phase call x y byte view moment a b is_x is_y
happens_once call x y (Stored reply) a b is_x is_y = one_end _ x y a b is_x is_y
happens_once call x y Refused a b is_x is_y = one_end _ x y a b is_x is_y

-- so does a whole call
pub one_call : (events : List CallEvent) (call x y : CallState) (one other : List Step)
    → AreSteps call events one x → AreSteps call events other y → (one ≡ other) × (x ≡ y)
one_call [] call x y [] [] is_x is_y = (refl, sym is_x ∙ is_y)
one_call [] call x y [] (b ∷ other) is_x is_y = absurd is_y
one_call [] call x y (a ∷ one) other is_x is_y = absurd is_x
one_call (event ∷ events) call x y [] other is_x is_y = absurd is_x
one_call (event ∷ events) call x y (a ∷ one) [] is_x is_y = absurd is_y
one_call (event ∷ events) call x y (a ∷ one) (b ∷ other) (next, first, more) (after, second, rest) =
    let head = happens_once call next after event a b first second in
    let tail = one_call events after x y one other (subst (λ (c : CallState). AreSteps c events one x) head.0 more) rest in
    ((λ i. head.1 i ∷ tail.0 i), tail.1)

-- ---- calls that are alike

-- an event has the effect of one that is like it
like_event : (call next : CallState) (event other : CallEvent) (step : Step) → Happens call event next step → IsLike call next event other
    → Happens call other next step
like_event call next (Keyed byte view moment) (Keyed other seen later) step happens like =
    let here : IsTurn call byte seen later next step =
    elim (cases_eq next.entries call.entries) [
      | inl same ↦ unseen call next byte view seen moment later step happens same
      | inr raised ↦
          let both = like.1 raised in
          subst (λ (m : ℕ). IsTurn call byte seen m next step) both.1
          (subst (λ (v : View). IsTurn call byte v moment next step) both.0 happens)
    ] in
    subst (λ (b : ℕ). IsTurn call b seen later next step) like.0 here
like_event call next (Keyed byte view moment) (Stored reply) step happens like =
    subst (λ (e : CallEvent). Happens call e next step) like happens
like_event call next (Keyed byte view moment) Refused step happens like =
    subst (λ (e : CallEvent). Happens call e next step) like happens
like_event call next (Stored reply) other step happens like = subst (λ (e : CallEvent). Happens call e next step) like happens
like_event call next Refused other step happens like = subst (λ (e : CallEvent). Happens call e next step) like happens

-- so has a call
pub like_calls : (events others : List CallEvent) (call after : CallState) (steps : List Step)
    → AreStepsOfLike call events others steps after → AreSteps call others steps after
like_calls [] [] call after [] is = is
like_calls [] [] call after (step ∷ steps) is = absurd is
like_calls [] (other ∷ others) call after steps is = absurd is
like_calls (event ∷ events) [] call after steps is = absurd is
like_calls (event ∷ events) (other ∷ others) call after [] is = absurd is
like_calls (event ∷ events) (other ∷ others) call after (step ∷ steps) (next, happens, like, more) =
    (next, like_event call next event other step happens like, like_calls events others next after steps more)
