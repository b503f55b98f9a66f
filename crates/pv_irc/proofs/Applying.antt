-- What is kept beside a centre's base, when a record of the edit list is applied and when a letter is removed.
use Rattle.std.proofs.Common.{◌≡◌, ℕ, zero, suc, ◌+◌, ◌<◌, ◌≤◌, cond, eqb, true, true≢false, replicate, List, [], ◌∷◌, ◌++◌, length, get_or, refl, ap, sym, subst, ◌∙◌, lit≤, arith}
use Rattle.std.specs.List.{All, IsDistinct, list_any}
use Rattle.std.proofs.lemmas.List.{length-append}
use Rattle.std.proofs.lemmas.List.Elements.{All-append, All-cons, All-nil, All-weaker}
use Rattle.pv_outside.specs.declared.limits.Limits.{Limits}
use Rattle.pv_post.specs.Boxes.{WaitingLetter, Boxes, no_boxes, letters_of, without_letter}
use Rattle.pv_post.specs.Waiting.{letters_with_arrival}
use Rattle.pv_post.specs.declared.removal.Removal.{Removal}
use Rattle.pv_post.proofs.CallerLemmas.{waiting-removed}
use Rattle.pv_edits.specs.Letters.{letter_brought}
use Rattle.pv_edits.specs.Room.{account_count, has_room}
use Rattle.pv_edits.specs.Standing.{with_record_at}
use Rattle.pv_edits.specs.declared.base.Base.{Base}
use Rattle.pv_edits.specs.declared.record.Record.{Record}
use Rattle.pv_edits.specs.declared.room.TheConstants.{MAX_ACCOUNTS}
use Rattle.pv_edits.proofs.CallerLemmas.{account_stays, accounts-within}
use Rattle.pv_irc.specs.History.{letter_of_place}
use Rattle.pv_irc.specs.Room.{IsWithinLimits, HaveRoom, HaveLetters}
use Rattle.pv_irc.proofs.Placing.{waiting-blank, waiting-whole}

-- one record more is applied
pub IsWithinLimits-applied : (base next : Base) (limits : Limits) (applied kept log_ons removed items_room removals_room : ℕ)
    → IsWithinLimits base limits applied kept log_ons removed items_room removals_room → next.limits ≡ base.limits
    → length next.records ≤ length base.records + 1 → applied + kept + log_ons + removed < limits.records
    → IsWithinLimits next limits (applied + 1) kept log_ons removed items_room removals_room
IsWithinLimits-applied base next limits applied kept log_ons removed items_room removals_room is same more below = record {
  same_limits = is.same_limits ∙ sym same;
  whole = omega (arith, more, is.whole);
  within = omega (arith, below);
  items_fit = is.items_fit;
  removals_fit = is.removals_fit;
}

-- no account has a box at first
pub HaveRoom-none : (mail : Boxes) (records : List Record) → mail ≡ no_boxes MAX_ACCOUNTS → records ≡ [] → HaveRoom mail records
unfolding IsDistinct account_count
HaveRoom-none mail records no_mail no_records = rw (no_mail, no_records) (record {
  room = refl;
  accounts = lit≤ tt;
  distinct = tt;
  owners = λ account has. absurd (true≢false (sym has));
})

-- and nothing waits
pub HaveLetters-none : (centre count : ℕ) (base : Base) (removals : List Removal) (mail : Boxes) → base.records ≡ [] → base.places ≡ []
    → removals ≡ [] → mail ≡ no_boxes count → HaveLetters centre base 0 removals mail
HaveLetters-none centre count base removals mail no_records no_places no_removals no_mail = record {
  paired = ap length no_places ∙ sym (ap length no_records);
  placed = rw no_places (All-nil (λ place. place < 0));
  stored = rw no_removals (All-nil (λ (removal : Removal). removal.place < 1));
  letters = λ account. rw no_mail (first_box count);
}
  where
    first_box : (n : ℕ) → get_or (replicate {A = List WaitingLetter} n []) 0 [] ≡ []
    first_box zero = refl
    first_box (suc n) = refl

-- boxes of the same owners have the same room
pub HaveRoom-kept : (mail next : Boxes) (records : List Record) → next.owners ≡ mail.owners → next.room ≡ mail.room
    → HaveRoom mail records → HaveRoom next records
HaveRoom-kept mail next records owners room is = record {
  room = room ∙ is.room;
  accounts = is.accounts;
  distinct = subst (IsDistinct eqb) (sym owners) is.distinct;
  owners = λ account has. is.owners account (ap (list_any (eqb account)) (sym owners) ∙ has);
}

-- a record that has room leaves room for the boxes
pub HaveRoom-absorbed : (mail : Boxes) (base : Base) (edit : Record) → has_room base.limits base.records edit ≡ true
    → HaveRoom mail base.records → HaveRoom mail (base.records ++ edit ∷ [])
HaveRoom-absorbed mail base edit fits is = record {
  room = is.room;
  accounts = accounts-within base.limits base.records edit fits is.accounts;
  distinct = is.distinct;
  owners = λ account has. account_stays base.records edit account (is.owners account has);
}

-- places below a count are below the next
placed-next : (places : List ℕ) (applied : ℕ) → All (λ place. place < applied) places → All (λ place. place < applied + 1) places
placed-next places applied placed =
    All-weaker (λ place. place < applied) (λ place. place < applied + 1) (λ place below. omega (arith, below)) places placed

stored-next : (removals : List Removal) (applied : ℕ) → All (λ (removal : Removal). removal.place < suc applied) removals
    → All (λ (removal : Removal). removal.place < suc (applied + 1)) removals
stored-next removals applied stored =
    All-weaker (λ (removal : Removal). removal.place < suc applied) (λ (removal : Removal). removal.place < suc (applied + 1))
    (λ removal below. omega (arith, below)) removals stored

module _ (centre : ℕ) (base : Base) (applied : ℕ) (removals : List Removal) (mail : Boxes)
    (is : HaveLetters centre base applied removals mail) where
  -- a record that was left out brings no letter
  pub HaveLetters-blank : HaveLetters centre base (applied + 1) removals mail
  HaveLetters-blank = record {
    paired = is.paired;
    placed = placed-next base.places applied is.placed;
    stored = stored-next removals applied is.stored;
    letters = λ account. is.letters account
        ∙ waiting-blank centre account base.records base.places is.paired removals applied is.placed is.stored;
  }

  -- a whole record may bring one
  pub HaveLetters-whole : (next : Boxes) (edit : Record)
      → ((account : ℕ) → letters_of next account
      ≡ letters_with_arrival (letters_of mail account) (letter_brought centre account base.records applied edit))
      → HaveLetters centre (with_record_at base edit applied) (applied + 1) removals next
  HaveLetters-whole next edit brought = record {
    paired = omega (arith, is.paired, length-append base.places (applied ∷ []), length-append base.records (edit ∷ []));
    placed = All-append (λ place. place < applied + 1) base.places (applied ∷ []) (placed-next base.places applied is.placed)
        (All-cons (λ place. place < applied + 1) applied [] (omega arith) (All-nil (λ place. place < applied + 1)));
    stored = stored-next removals applied is.stored;
    letters = λ account. brought account
        ∙ ap (λ letters. letters_with_arrival letters (letter_brought centre account base.records applied edit)) (is.letters account)
        ∙ waiting-whole centre account base.records base.places is.paired removals applied is.placed is.stored edit;
  }

  -- a letter is taken out
  pub HaveLetters-removed : (next : Boxes) (account number : ℕ)
      → ((other : ℕ) → letters_of next other
      ≡ cond (eqb other account) (without_letter (letters_of mail other) number) (letters_of mail other))
      → HaveLetters centre base applied (removals ++ record { account = account; number = number; place = applied } ∷ []) next
  HaveLetters-removed next account number left = record {
    paired = is.paired;
    placed = is.placed;
    stored = All-append (λ (removal : Removal). removal.place < suc applied) removals _ is.stored
        (All-cons (λ (removal : Removal). removal.place < suc applied) _ [] (omega arith)
        (All-nil (λ (removal : Removal). removal.place < suc applied)));
    letters = λ other. left other
        ∙ ap (λ letters. cond (eqb other account) (without_letter letters number) letters) (is.letters other)
        ∙ sym (waiting-removed other (letter_of_place centre other base.records base.places) removals account number applied);
  }
