-- What the nodes decide on a record that came down, and on an item that came up.
use Rattle.std.proofs.Common.{◌≡◌, ℕ, ◌+◌, ◌≤◌, Bool, true, false, true≢false, not, cond, List, [], ◌∷◌, length, Option, Some, None, MatchOption, refl, ap, sym, ◌∙◌, subst, arith}
use Rattle.std.specs.Prelude.{IfSome, nat_lt}
use mathlib.Core.List.{IsPrefix}
use Rattle.std.proofs.lemmas.Bool.{ltb-true, ltb-false, le-ltb, eq-eqb}
use denote.Param.{number}
use Rattle.pv_outside.specs.declared.limits.Limits.{Limits}
use Rattle.pv_fields.specs.Refusals.{first_of, some_if}
use Rattle.pv_node.specs.declared.decision.Decision.{Decision}
use Rattle.pv_node.specs.declared.decision.Decision.TheVariants.{Answer, Store}
use Rattle.pv_node.specs.declared.decision.Told.{Told}
use Rattle.pv_post.specs.declared.item.Item.{Item}
use Rattle.pv_edits.specs.Edits.{taken_of}
use Rattle.pv_edits.specs.declared.down.DownRecord.{DownRecord}
use Rattle.pv_edits.specs.declared.record.Record.{Record}
use Rattle.pv_edits.specs.declared.record.Record.TheVariants.{Taken}
use Rattle.pv_irc.specs.Deciding.{applied_unless, down_fits}
use Rattle.pv_irc.specs.History.{CentreState, applied_of, centre_state_of}
use Rattle.pv_irc.specs.contracts.rules.IrcRulesRules.TheImpl as irc
use Rattle.pv_irc.specs.declared.record.CentreRecord.{CentreRecord}
use Rattle.pv_irc.specs.declared.record.CentreRecord.TheVariants as records
use Rattle.pv_irc.specs.declared.reply.IrcReply.{IrcReply}
use Rattle.pv_irc.specs.declared.reply.IrcReply.TheVariants as centre_replies
use Rattle.pv_irc.specs.declared.request.IrcRequest.TheVariants.{Apply}
use Rattle.pv_live.specs.Asking.{HasAsked, HasAnswered, HasStoredFor}
use Rattle.pv_live.specs.Entries.{with_opening}
use Rattle.pv_live.specs.Pass.{Standing}
use Rattle.pv_live.specs.declared.entry.Entry.{Entry}
use Rattle.pv_udc.specs.Judgement.{decision_of}
use Rattle.pv_udc.specs.contracts.rules.UdcRulesRules.TheImpl as udc
use Rattle.pv_udc.specs.declared.reply.UdcReply.{UdcReply}
use Rattle.pv_udc.specs.declared.reply.UdcReply.TheVariants as udc_replies
use Rattle.pv_udc.specs.declared.request.UdcRequest.TheVariants.{TakeUp}
use Rattle.pv_packet.specs.declared.packet.Packet.TheVariants.{Down, Up}
use Rattle.pv_ports.specs.Cargo.{IsBroughtDown, IsBroughtUp}
use Rattle.pv_ports.specs.Outcomes.{RisesByTold}
use Rattle.pv_ports.specs.Round.{applied_by, taken_by, records_in_reply, items_in_reply}
use Rattle.pv_ports.proofs.Growing.{with_more, taken_more, applied_more, applied_grows, taken_grows}

module _ {Rec Reply : Type 0} where
  -- the reply of an answer, or this one; and the record and the reply that are stored, or these
  abbrev reply_or : Reply → Decision Rec Reply → Reply
  reply_or other (Answer reply) = reply
  reply_or other (Store rec reply) = reply

  abbrev record_or : Rec → Decision Rec Reply → Rec
  record_or other (Answer reply) = other
  record_or other (Store rec reply) = rec

  abbrev IsAnswer : Decision Rec Reply → Type 0
  IsAnswer (Answer reply) = Unit {0}
  IsAnswer (Store rec reply) = ⊥

  abbrev IsStore : Decision Rec Reply → Type 0
  IsStore (Answer reply) = ⊥
  IsStore (Store rec reply) = Unit {0}

-- ---- a record that came down

-- what is decided by these tests: the record is old, is early, has no room
abbrev by_tests : Bool → Bool → Bool → ℕ → ℕ → DownRecord → Decision CentreRecord IrcReply
by_tests old early full count n rec =
    applied_unless (first_of (some_if old (centre_replies.Old count)
    ∷ some_if early (centre_replies.Early count) ∷ some_if full (centre_replies.NoRoom count) ∷ [])) n rec

-- a reply that applies nothing acknowledges no more than was applied
abbrev AppliesNone : ℕ → ℕ → IrcReply → Type 0
AppliesNone count n reply = IfSome (applied_by n reply) (λ m. m ≤ count) × (records_in_reply reply ≡ 0)

answered : (old early full : Bool) (count n : ℕ) (rec : DownRecord) (reply : IrcReply)
    → by_tests old early full count n rec ≡ Answer reply → AppliesNone count n reply
answered true early full count n rec reply is = subst (AppliesNone count n) (ap (reply_or reply) is) (omega arith, refl)
answered false true full count n rec reply is = subst (AppliesNone count n) (ap (reply_or reply) is) (omega arith, refl)
answered false false true count n rec reply is = subst (AppliesNone count n) (ap (reply_or reply) is) (tt, refl)
answered false false false count n rec reply is = absurd (subst IsStore is tt)

-- a record that is not stored, was not early and has room is old
old_else : (old early full : Bool) (count n : ℕ) (rec : DownRecord) (reply : IrcReply)
    → by_tests old early full count n rec ≡ Answer reply → early ≡ false → full ≡ false → old ≡ true
old_else true early full count n rec reply is due room = refl
old_else false true full count n rec reply is due room = absurd (true≢false due)
old_else false false true count n rec reply is due room = absurd (true≢false room)
old_else false false false count n rec reply is due room = absurd (subst IsStore is tt)

-- a record that is stored is the one that came down, and was not early
stored : (old early full : Bool) (count n : ℕ) (rec : DownRecord) (kept : CentreRecord) (reply : IrcReply)
    → by_tests old early full count n rec ≡ Store kept reply
    → (early ≡ false) × (records.Applied n rec ≡ kept) × (centre_replies.Applied ≡ reply)
stored true early full count n rec kept reply is = absurd (subst IsAnswer is tt)
stored false true full count n rec kept reply is = absurd (subst IsAnswer is tt)
stored false false true count n rec kept reply is = absurd (subst IsAnswer is tt)
stored false false false count n rec kept reply is = (refl, ap (record_or kept) is, ap (reply_or reply) is)

module _ (C : ℕ) (limits : Limits) (opening : List CentreRecord) where
  -- What an ask for a record has done. What its reply acknowledges was applied, and the pass counted what it applied and has seen it. If the
  -- record is within reach and has room, it is applied.
  pub record IsApplied (n : ℕ) (rec : DownRecord) (old new : Standing CentreRecord) (reply : IrcReply) : Type 0 where
    pub heard : IfSome (applied_by n reply) (λ m. m ≤ applied_of (with_opening opening new.seen))
    pub told : new.told ≡ old.told + records_in_reply reply
    pub seen : RisesByTold applied_of opening old new
    pub brought : IsBroughtDown C limits (with_opening opening new.seen) (with_opening opening new.seen) (Down C n rec)

  by_place : (place : Option ℕ) (n : ℕ) (rec : DownRecord) (old new : Standing CentreRecord) (reply : IrcReply)
      → IsPrefix old.seen new.seen
      → MatchOption place (HasAnswered (irc.ghosts (number C)) limits opening (Apply n rec) old new reply)
      (HasStoredFor (irc.ghosts (number C)) limits opening (Apply n rec) old new reply)
      → IsApplied n rec old new reply
  by_place None n rec old new reply prefix is =
      let state = is.judged.0 in
      let count = ap (λ (s : CentreState). s.applied) is.judged.1.stands in
      let none = answered (nat_lt n state.applied) (nat_lt state.applied n) (not (down_fits state rec)) state.applied n rec reply
      is.judged.2 in
      record {
        heard = subst (λ (a : ℕ). IfSome (applied_by n reply) (λ m. m ≤ a)) count none.0;
        told = omega (arith, is.told, none.1);
        seen = omega (arith, is.told, applied_grows opening old.seen new.seen prefix);
        brought = λ due room.
            let at : state ≡ centre_state_of C limits (with_opening opening new.seen) =
            is.judged.1.stands ∙ ap (λ (l : Limits). centre_state_of C l (with_opening opening new.seen)) is.judged.1.limited in
            let old = old_else (nat_lt n state.applied) (nat_lt state.applied n) (not (down_fits state rec)) state.applied n rec reply
            is.judged.2 (le-ltb state.applied n (omega (arith, due, count)))
            (ap not (ap (λ (s : CentreState). down_fits s rec) at ∙ room)) in
            omega (arith, ltb-true n state.applied old, count);
      }
  by_place (Some place) n rec old new reply prefix is =
      let state = is.judged.0 in
      let count = ap (λ (s : CentreState). s.applied) is.judged.1.stands in
      let kept = stored (nat_lt n state.applied) (nat_lt state.applied n) (not (down_fits state rec)) state.applied n rec is.entry.rec reply
      is.judged.2 in
      let grown : applied_of (with_opening opening new.seen) ≡ applied_of (with_opening opening is.before) + 1 =
      ap (λ (l : List (Entry CentreRecord)). applied_of (with_opening opening l)) is.stored.last
      ∙ ap applied_of (with_more opening is.before (is.entry ∷ []))
      ∙ applied_more (with_opening opening is.before) (is.entry.rec ∷ [])
      ∙ ap (λ (r : CentreRecord). applied_of (with_opening opening is.before) + applied_of (r ∷ [])) (sym kept.1) in
      let early : n ≤ state.applied = ltb-false state.applied n kept.0 in
      record {
        heard = subst (λ (r : IrcReply). IfSome (applied_by n r) (λ m. m ≤ applied_of (with_opening opening new.seen))) kept.2
            (omega (arith, grown, count, early));
        told = omega (arith, is.told, ap records_in_reply kept.2);
        seen = omega (arith, is.told, grown, applied_grows opening old.seen is.before is.stored.known);
        brought = λ due room. omega (arith, grown, count, early);
      }

  pub applied_answer : (n : ℕ) (rec : DownRecord) (old new : Standing CentreRecord) (told : Told IrcReply)
      → IsPrefix old.seen new.seen → HasAsked (irc.ghosts (number C)) limits opening (Apply n rec) old new told → IsApplied n rec old new told.reply
  applied_answer n rec old new told prefix is = by_place told.number n rec old new told.reply prefix is

-- ---- an item that came up

-- what is decided by these tests: the item is old, is early
abbrev by_two : Bool → Bool → ℕ → ℕ → ℕ → Item → ℕ → Decision Record UdcReply
by_two old early count C k item place =
    decision_of (first_of (some_if old (udc_replies.Old count) ∷ some_if early (udc_replies.Early count) ∷ []))
    (Taken (record { centre = C; k = k; item = item })) place

-- a reply that takes nothing up acknowledges no more than was taken up
abbrev TakesNone : ℕ → ℕ → UdcReply → Type 0
TakesNone count k reply = IfSome (taken_by k reply) (λ m. m ≤ count) × (items_in_reply reply ≡ 0)

answered_item : (old early : Bool) (count C k : ℕ) (item : Item) (place : ℕ) (reply : UdcReply)
    → by_two old early count C k item place ≡ Answer reply → TakesNone count k reply
answered_item true early count C k item place reply is = subst (TakesNone count k) (ap (reply_or reply) is) (omega arith, refl)
answered_item false true count C k item place reply is = subst (TakesNone count k) (ap (reply_or reply) is) (omega arith, refl)
answered_item false false count C k item place reply is = absurd (subst IsStore is tt)

-- an item that is not stored and was not early is old
old_item_else : (old early : Bool) (count C k : ℕ) (item : Item) (place : ℕ) (reply : UdcReply)
    → by_two old early count C k item place ≡ Answer reply → early ≡ false → old ≡ true
old_item_else true early count C k item place reply is due = refl
old_item_else false true count C k item place reply is due = absurd (true≢false due)
old_item_else false false count C k item place reply is due = absurd (subst IsStore is tt)

-- an item that is stored is the one that came up, and was not early
stored_item : (old early : Bool) (count C k : ℕ) (item : Item) (place : ℕ) (kept : Record) (reply : UdcReply)
    → by_two old early count C k item place ≡ Store kept reply
    → (early ≡ false) × (Taken (record { centre = C; k = k; item = item }) ≡ kept) × (udc_replies.Stored place ≡ reply)
stored_item true early count C k item place kept reply is = absurd (subst IsAnswer is tt)
stored_item false true count C k item place kept reply is = absurd (subst IsAnswer is tt)
stored_item false false count C k item place kept reply is = (refl, ap (record_or kept) is, ap (reply_or reply) is)

-- such a record is of its centre
one_taken : (C k : ℕ) (item : Item) → taken_of (Taken (record { centre = C; k = k; item = item }) ∷ []) C ≡ 1
one_taken C k item = ap (λ (b : Bool). 0 + cond b 1 0) (eq-eqb C C refl)

module _ (C : ℕ) (limits : Limits) (opening : List Record) where
  -- What an ask for an item has done. What its reply acknowledges was taken up, and the pass counted what it took up and has seen it. If the
  -- item is within reach, it is taken up.
  pub record IsTakenIn (k : ℕ) (item : Item) (old new : Standing Record) (reply : UdcReply) : Type 0 where
    pub heard : IfSome (taken_by k reply) (λ m. m ≤ taken_of (with_opening opening new.seen) C)
    pub told : new.told ≡ old.told + items_in_reply reply
    pub seen : RisesByTold (λ records. taken_of records C) opening old new
    pub brought : IsBroughtUp C (with_opening opening new.seen) (with_opening opening new.seen) (Up C k item)

  item_by_place : (place : Option ℕ) (k : ℕ) (item : Item) (old new : Standing Record) (reply : UdcReply)
      → IsPrefix old.seen new.seen
      → MatchOption place (HasAnswered udc.ghosts limits opening (TakeUp C k item) old new reply)
      (HasStoredFor udc.ghosts limits opening (TakeUp C k item) old new reply)
      → IsTakenIn k item old new reply
  item_by_place None k item old new reply prefix is =
      let state = is.judged.0 in
      let taken = taken_of state.records C in
      let none = answered_item (nat_lt k taken) (nat_lt taken k) taken C k item (length state.records) reply is.judged.2 in
      record {
        heard = subst (λ (l : List Record). IfSome (taken_by k reply) (λ m. m ≤ taken_of l C)) is.judged.1.stands none.0;
        told = omega (arith, is.told, none.1);
        seen = omega (arith, is.told, taken_grows C opening old.seen new.seen prefix);
        brought = λ due.
            let count = ap (λ (l : List Record). taken_of l C) is.judged.1.stands in
            let old = old_item_else (nat_lt k taken) (nat_lt taken k) taken C k item (length state.records) reply is.judged.2
            (le-ltb taken k (omega (arith, due, count))) in
            omega (arith, ltb-true k taken old, count);
      }
  item_by_place (Some place) k item old new reply prefix is =
      let state = is.judged.0 in
      let taken = taken_of state.records C in
      let count = ap (λ (l : List Record). taken_of l C) is.judged.1.stands in
      let kept = stored_item (nat_lt k taken) (nat_lt taken k) taken C k item (length state.records) is.entry.rec reply is.judged.2 in
      let grown : taken_of (with_opening opening new.seen) C ≡ taken_of (with_opening opening is.before) C + 1 =
      ap (λ (l : List (Entry Record)). taken_of (with_opening opening l) C) is.stored.last
      ∙ ap (λ (l : List Record). taken_of l C) (with_more opening is.before (is.entry ∷ []))
      ∙ taken_more C (with_opening opening is.before) (is.entry.rec ∷ [])
      ∙ ap (λ (r : Record). taken_of (with_opening opening is.before) C + taken_of (r ∷ []) C) (sym kept.1)
      ∙ ap (λ n. taken_of (with_opening opening is.before) C + n) (one_taken C k item) in
      let early : k ≤ taken = ltb-false taken k kept.0 in
      record {
        heard = subst (λ (r : UdcReply). IfSome (taken_by k r) (λ m. m ≤ taken_of (with_opening opening new.seen) C)) kept.2
            (omega (arith, grown, count, early));
        told = omega (arith, is.told, ap items_in_reply kept.2);
        seen = omega (arith, is.told, grown, taken_grows C opening old.seen is.before is.stored.known);
        brought = λ due. omega (arith, grown, count, early);
      }

  pub taken_answer : (k : ℕ) (item : Item) (old new : Standing Record) (told : Told UdcReply)
      → IsPrefix old.seen new.seen → HasAsked udc.ghosts limits opening (TakeUp C k item) old new told → IsTakenIn k item old new told.reply
  taken_answer k item old new told prefix is = item_by_place told.number k item old new told.reply prefix is
