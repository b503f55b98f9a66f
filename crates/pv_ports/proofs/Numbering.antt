-- The charges of a call are numbered in order, and have its serial.
use Rattle.std.proofs.Common.{◌≡◌, ℕ, zero, suc, ◌+◌, List, [], ◌∷◌, ◌++◌, length, map, All, Option, Some, None, refl, ap, sym, ◌∙◌, subst, arith, append-nil, length-append}
use Rattle.std.specs.Prelude.{IfSome}
use Rattle.std.specs.Option.{option_to_list}
use Rattle.std.specs.List.{range_with_len}
use Rattle.std.proofs.lemmas.List.{map-append}
use Rattle.std.proofs.lemmas.List.Elements.{All-append}
use denote.Param.{number}
use Rattle.pv_outside.specs.declared.limits.Limits.{Limits}
use Rattle.pv_charge.specs.Line.{Charge}
use Rattle.pv_node.specs.declared.decision.Told.{Told}
use Rattle.pv_irc.specs.contracts.rules.IrcRulesRules.TheImpl as irc
use Rattle.pv_irc.specs.declared.record.CentreRecord.{CentreRecord}
use Rattle.pv_irc.specs.declared.reply.IrcReply.{IrcReply}
use Rattle.pv_irc.specs.declared.reply.IrcReply.TheVariants as answers
use Rattle.pv_live.specs.Pass.{Standing}
use Rattle.pv_session.specs.Callers.{IsCallState, IsOwn}
use Rattle.pv_session.specs.Calls.{CallEvent, Keyed, Stored, Refused, Happens, serial_after, lines_after, IsSameCaller}
use Rattle.pv_session.specs.State.{CallState, new_call, wish_in}
use Rattle.pv_session.specs.declared.step.Paid.{Paid}
use Rattle.pv_session.specs.declared.step.Paid.TheVariants as replies
use Rattle.pv_session.specs.declared.step.Phase.{Phase}
use Rattle.pv_session.specs.declared.step.Phase.TheVariants.{Listening, Owing, Over}
use Rattle.pv_session.specs.declared.step.Step.{Step}
use Rattle.pv_session.specs.declared.step.Wish.{Wish}
use Rattle.pv_session.specs.declared.step.Wish.TheVariants as wishes
use Rattle.pv_ports.specs.Lines.{reply_serial, serials_of, AreItsCharges}
use Rattle.pv_ports.specs.Talk.{Happening, KeyTaken, WishAnswered, TurnedAway, Talked, IsTalk, charges_of, shown_by}
use Rattle.pv_wishes.specs.Wishes.{paid_by}
use Rattle.pv_ports.proofs.Settling.{FitsWish, answer_fits}

-- one number more
range_with_len-push : (a n : ℕ) → range_with_len a (suc n) ≡ range_with_len a n ++ (a + n) ∷ []
range_with_len-push a zero = ap (λ b. b ∷ []) (omega arith)
range_with_len-push a (suc n) =
    ap (λ l. a ∷ l) (range_with_len-push (a + 1) n ∙ ap (λ b. range_with_len (a + 1) n ++ b ∷ []) (omega arith))

-- the serial in a reply is the one that the call goes on with
abbrev serial_of_paid : Paid → Option ℕ
serial_of_paid (replies.Serial serial) = Some serial
serial_of_paid replies.Stored = None

serial_told : (reply : IrcReply) → reply_serial reply ≡ serial_of_paid (paid_by reply)
serial_told answers.Applied = refl
serial_told (answers.Old count) = refl
serial_told (answers.Early count) = refl
serial_told (answers.NoRoom count) = refl
serial_told (answers.Serial serial) = refl
serial_told (answers.Kept count) = refl
serial_told answers.Nothing = refl

owing_is : (phase : Phase) (wish : Wish) → wish_in phase ≡ Some wish → phase ≡ Owing wish
owing_is Listening wish is = absurd cc
owing_is (Owing other) wish is = let same : other ≡ wish = cc in ap Owing same
owing_is Over wish is = absurd cc

-- what is known of a call, of what happened in it
record IsCounted (happened : List Happening) (call : CallState) : Type 0 where
  own : IsCallState call
  count : length (charges_of happened) ≡ call.lines
  numbers : map (λ (charge : Charge). charge.number) (charges_of happened) ≡ range_with_len 0 call.lines
  told : serials_of happened ≡ option_to_list call.serial
  serials : All (λ charge. call.serial ≡ Some charge.serial) (charges_of happened)

-- nothing that counts has changed
same_counted : (happened later : List Happening) (call after : CallState) → charges_of later ≡ charges_of happened
    → serials_of later ≡ serials_of happened → IsCallState after → after.lines ≡ call.lines → after.serial ≡ call.serial
    → IsCounted happened call → IsCounted later after
same_counted happened later call after charges serials own lines serial is = record {
  own = own;
  count = ap length charges ∙ is.count ∙ sym lines;
  numbers = ap (map (λ (charge : Charge). charge.number)) charges ∙ is.numbers ∙ ap (range_with_len 0) (sym lines);
  told = serials ∙ is.told ∙ ap option_to_list (sym serial);
  serials = subst (λ (l : List Charge). All (λ charge. after.serial ≡ Some charge.serial) l) (sym charges)
      (subst (λ (s : Option ℕ). All (λ charge. s ≡ Some charge.serial) (charges_of happened)) (sym serial) is.serials);
}

-- nothing has been charged before there is a serial
none_charged : (happened : List Happening) (call : CallState) → IsCounted happened call → call.serial ≡ None
    → charges_of happened ≡ []
none_charged happened call is none =
    empty (charges_of happened) (is.count ∙ is.own.lines none)
  where
    empty : (charges : List Charge) → length charges ≡ 0 → charges ≡ []
    empty [] zeros = refl
    empty (charge ∷ charges) zeros = absurd (omega (arith, zeros))

none_of : (P : Charge → Type 0) → All P []
none_of P = λ k d below. absurd (omega (arith, below))

only : (P : Charge → Type 0) (x : Charge) → P x → All P (x ∷ [])
only P x p zero d below = p
only P x p (suc k) d below = absurd (omega (arith, below))

module _ (C : ℕ) (limits : Limits) (opening : List CentreRecord) (shown : Option ℕ) (start : Standing CentreRecord)
    (begins : IsCallState new_call)
    (lasts : (call after : CallState) (event : CallEvent) (step : Step) → IsCallState call → Happens call event after step → IsCallState after)
    (stays : (call after : CallState) (event : CallEvent) (step : Step) → IsCallState call → Happens call event after step
    → IsSameCaller call event after) where
  -- with a wish that is answered
  answered : (earlier : List Happening) (wish : Wish) (told : Told IrcReply) (call after : CallState) (reply : Paid)
      → call.phase ≡ Owing wish → paid_by told.reply ≡ reply → FitsWish wish reply → IsOwn call wish → IsCallState after
      → after.serial ≡ serial_after (Stored reply) (Owing wish) call.serial
      → after.lines ≡ lines_after (Stored reply) (Owing wish) call.lines
      → IsCounted earlier call → IsCounted (WishAnswered wish told ∷ earlier) after
  answered earlier (wishes.LogOn account) told call after (replies.Serial serial) phase by fits own now_own serials lines is =
      let none = none_charged earlier call is own.1 in
      let no_charges = append-nil (charges_of earlier) ∙ none in
      record {
        own = now_own;
        count = ap length no_charges ∙ sym (is.own.lines own.1) ∙ sym lines;
        numbers = ap (map (λ (charge : Charge). charge.number)) no_charges
            ∙ ap (range_with_len 0) (sym (is.own.lines own.1) ∙ sym lines);
        told = ap (λ (l : List ℕ). l ++ option_to_list (reply_serial told.reply)) (is.told ∙ ap option_to_list own.1)
            ∙ ap option_to_list (serial_told told.reply ∙ ap serial_of_paid by ∙ sym serials);
        serials = subst (λ (l : List Charge). All (λ charge. after.serial ≡ Some charge.serial) l) (sym no_charges)
            (none_of (λ charge. after.serial ≡ Some charge.serial));
      }
  answered earlier (wishes.LogOn account) told call after replies.Stored phase by fits own now_own serials lines is =
      let is = fits.1 in absurd cc
  answered earlier (wishes.Charge charge) told call after (replies.Serial serial) phase by fits own now_own serials lines is = absurd cc
  answered earlier (wishes.Charge charge) told call after replies.Stored phase by fits own now_own serials lines is =
      let at : charge.number ≡ 0 + call.lines = omega (arith, own.number) in
      let more : suc call.lines ≡ after.lines = omega (arith, lines) in record {
        own = now_own;
        count = length-append (charges_of earlier) (charge ∷ []) ∙ ap (λ (n : ℕ). n + 1) is.count ∙ sym lines;
        numbers = map-append (λ (c : Charge). c.number) (charges_of earlier) (charge ∷ [])
            ∙ ap (λ (l : List ℕ). l ++ charge.number ∷ []) is.numbers
            ∙ ap (λ (n : ℕ). range_with_len 0 call.lines ++ n ∷ []) at
            ∙ sym (range_with_len-push 0 call.lines)
            ∙ ap (range_with_len 0) more;
        told = ap (λ (l : List ℕ). serials_of earlier ++ l)
            (ap option_to_list (serial_told told.reply ∙ ap serial_of_paid by))
            ∙ append-nil (serials_of earlier) ∙ is.told ∙ ap option_to_list (sym serials);
        serials = subst (λ (s : Option ℕ). All (λ c. s ≡ Some c.serial) (charges_of earlier ++ charge ∷ [])) (sym serials)
            (All-append (λ c. call.serial ≡ Some c.serial) (charges_of earlier) (charge ∷ []) is.serials
            (only (λ c. call.serial ≡ Some c.serial) charge own.serial));
      }
  answered earlier (wishes.Post item) told call after (replies.Serial serial) phase by fits own now_own serials lines is = absurd cc
  answered earlier (wishes.Post item) told call after replies.Stored phase by fits own now_own serials lines is =
      same_counted earlier (WishAnswered (wishes.Post item) told ∷ earlier) call after (append-nil (charges_of earlier))
      (ap (λ (l : List ℕ). serials_of earlier ++ l) (ap option_to_list (serial_told told.reply ∙ ap serial_of_paid by))
      ∙ append-nil (serials_of earlier)) now_own lines serials is
  answered earlier (wishes.Remove account letter) told call after (replies.Serial serial) phase by fits own now_own serials lines is =
      absurd cc
  answered earlier (wishes.Remove account letter) told call after replies.Stored phase by fits own now_own serials lines is =
      same_counted earlier (WishAnswered (wishes.Remove account letter) told ∷ earlier) call after (append-nil (charges_of earlier))
      (ap (λ (l : List ℕ). serials_of earlier ++ l) (ap option_to_list (serial_told told.reply ∙ ap serial_of_paid by))
      ∙ append-nil (serials_of earlier)) now_own lines serials is

  counted : (happened : List Happening) (pass : Standing CentreRecord) (call : CallState) (step : Step) (talked : Talked)
      → IsTalk (irc.ghosts (number C)) limits opening shown happened start pass call step talked → IsCounted happened call
  counted [] pass call step talked is = subst (IsCounted []) (sym is.1) (record {
    own = begins;
    count = refl;
    numbers = refl;
    told = refl;
    serials = none_of (λ charge. new_call.serial ≡ Some charge.serial);
  })
  counted (KeyTaken byte moment ∷ earlier) pass call step talked is =
      let before = counted earlier is.0 is.1 is.2 is.3 is.4 in
      let taken = is.5.1 in
      let event = Keyed byte (shown_by taken.state is.1) moment in
      let same = stays is.1 call event step before.own taken.turns in
      same_counted earlier (KeyTaken byte moment ∷ earlier) is.1 call (append-nil (charges_of earlier)) (append-nil (serials_of earlier))
      (lasts is.1 call event step before.own taken.turns) same.lines same.serial before
  counted (WishAnswered wish told ∷ earlier) pass call step talked is =
      let before = counted earlier is.0 is.1 is.2 is.3 is.4 in
      let stored = is.5 in
      let owing = owing_is is.1.phase wish stored.owed in
      let event = Stored (paid_by told.reply) in
      let same = stays is.1 call event step before.own stored.goes in
      answered earlier wish told is.1 call (paid_by told.reply) owing refl
      (answer_fits C limits opening wish is.0 pass told stored.asked)
      (subst (λ (w : Option Wish). IfSome w (IsOwn is.1)) stored.owed before.own.owed)
      (lasts is.1 call event step before.own stored.goes)
      (same.serial ∙ ap (λ (p : Phase). serial_after event p is.1.serial) owing)
      (same.lines ∙ ap (λ (p : Phase). lines_after event p is.1.lines) owing) before
  counted (TurnedAway count ∷ earlier) pass call step talked is =
      let before = counted earlier is.0 is.1 is.2 is.3 is.4 in
      let same = stays is.1 call Refused step before.own is.5.goes in
      same_counted earlier (TurnedAway count ∷ earlier) is.1 call (append-nil (charges_of earlier)) (append-nil (serials_of earlier))
      (lasts is.1 call Refused step before.own is.5.goes) same.lines same.serial before

  -- the charges of a call are its own
  pub its_charges : (happened : List Happening) (pass : Standing CentreRecord) (call : CallState) (step : Step) (talked : Talked)
      → IsTalk (irc.ghosts (number C)) limits opening shown happened start pass call step talked → AreItsCharges happened
  its_charges happened pass call step talked is =
      let known = counted happened pass call step talked is in record {
        numbers = known.numbers ∙ ap (range_with_len 0) (sym known.count);
        serials = λ k d below. known.told ∙ ap option_to_list (known.serials k d below);
      }
