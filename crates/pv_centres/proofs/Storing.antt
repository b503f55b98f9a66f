-- What carriers have stored, in the counts of what they have brought.
use Rattle.std.proofs.Common.{◌≡◌, ℕ, ◌+◌, ◌≤◌, List, [], ◌∷◌, ◌++◌, Option, Some, None, refl, ap, ◌∙◌, subst, arith, append-nil}
use Rattle.std.specs.Prelude.{IfSome, Ok, Err, option_to_list}
use Rattle.std.specs.Option.{option_map}
use Rattle.pv_outside.specs.declared.limits.Limits.{Limits}
use Rattle.pv_outside.specs.declared.reports.Reports as reports
use Rattle.pv_node.specs.declared.rules.Rules as rules
use Rattle.pv_node.specs.Parts.{Parts}
use Rattle.pv_edits.specs.Edits.{taken_of}
use Rattle.pv_edits.specs.declared.record.Record.{Record}
use Rattle.pv_irc.specs.History.{applied_of}
use Rattle.pv_irc.specs.declared.record.CentreRecord.{CentreRecord}
use Rattle.pv_live.specs.Closing.{IsClosed}
use Rattle.pv_live.specs.Entries.{with_opening}
use Rattle.pv_live.specs.Pass.{Standing, told_count, failed_count, EachHasSeenPrefix}
use Rattle.pv_live.specs.declared.entry.Entry.{Entry}
use Rattle.pv_ports.specs.Outcomes.{HaveSeenTold, NoAskFailed}
use Rattle.pv_ports.specs.Round.{CarrierState}
use Rattle.pv_ports.proofs.Growing.{applied_grows, taken_grows}
use Rattle.pv_centres.specs.Carried.{HasStoredNoMore, taken_count}
use Rattle.pv_centres.specs.Served.{ClosedNode, IsClosedWith, IsGivenBack, IsNewPass}

module _ (udc_opening : List Record) (centre_opening : List CentreRecord) (C : ℕ) where
  -- nothing was stored for new passes
  pub none_stored : (carrier : CarrierState) → IsNewPass carrier.udc → IsNewPass carrier.centre
      → HasStoredNoMore udc_opening centre_opening C carrier
  none_stored carrier udc centre = record {
    applied = omega (
      arith,
      ap (λ (p : Standing CentreRecord). p.told) centre,
      ap (λ (p : Standing CentreRecord). applied_of (with_opening centre_opening p.seen)) centre,
      ap applied_of (append-nil centre_opening),
    );
    taken_up = omega (
      arith,
      ap (λ (p : Standing Record). p.told) udc,
      ap (λ (p : Standing Record). taken_of (with_opening udc_opening p.seen) C) udc,
      ap (λ (l : List Record). taken_of l C) (append-nil udc_opening),
    );
    centre_unfailed = ap (λ (p : Standing CentreRecord). p.failed) centre;
    udc_unfailed = ap (λ (p : Standing Record). p.failed) udc;
  }

  -- what was stored in more rounds has been brought, too
  pub stored_more : (old new : CarrierState) → HasStoredNoMore udc_opening centre_opening C old
      → HaveSeenTold udc_opening centre_opening C old new → NoAskFailed old new → HasStoredNoMore udc_opening centre_opening C new
  stored_more old new was seen none = record {
    applied = omega (arith, was.applied, seen.applied);
    taken_up = omega (arith, was.taken_up, seen.taken_up);
    centre_unfailed = none.centre ∙ was.centre_unfailed;
    udc_unfailed = none.udc ∙ was.udc_unfailed;
  }

-- ---- the counts of some passes and more

module _ {T : Type 0} where
  told_append : (one other : List (Standing T)) → told_count (one ++ other) ≡ told_count one + told_count other
  told_append [] other = omega arith
  told_append (pass ∷ one) other = omega (arith, told_append one other)

  failed_append : (one other : List (Standing T)) → failed_count (one ++ other) ≡ failed_count one + failed_count other
  failed_append [] other = omega arith
  failed_append (pass ∷ one) other = omega (arith, failed_append one other)

  seen_append : (log : List (Entry T)) (one other : List (Standing T)) → EachHasSeenPrefix log (one ++ other)
      → EachHasSeenPrefix log one × EachHasSeenPrefix log other
  seen_append log [] other seen = (tt, seen)
  seen_append log (pass ∷ one) other (first, seen) =
      let each = seen_append log one other seen in ((first, each.0), each.1)

-- ---- at a closing

module _ {S State Request Reply D : Type 0} (r : rules.Ghosts S State Request CentreRecord Reply) (d : reports.Ghosts D) (limits : Limits)
    (udc_opening : List Record) (opening : List CentreRecord) (C : ℕ) (ports : List (Standing CentreRecord)) where
  -- all records of a centre but those that were brought are its ports'
  few_at_centre : (carrier : Option CarrierState) (node : Parts D State CentreRecord) (asked : ℕ)
      (closed : IsClosed r d limits opening (ports ++ option_to_list (option_map (λ c. c.centre) carrier)) node asked)
      → IfSome carrier (HasStoredNoMore udc_opening opening C)
      → asked + applied_of opening ≤ told_count ports + failed_count ports + applied_of (with_opening opening closed.log)
  few_at_centre None node asked closed none = omega (
    arith,
    closed.most,
    told_append ports [],
    failed_append ports [],
    applied_grows opening [] closed.log (closed.log, refl),
    ap applied_of (append-nil opening),
  )
  few_at_centre (Some carrier) node asked closed stored =
      let own = carrier.centre ∷ [] in
      let seen = seen_append closed.log ports own closed.seen in
      omega (
        arith,
        closed.most,
        told_append ports own,
        failed_append ports own,
        stored.applied,
        stored.centre_unfailed,
        applied_grows opening carrier.centre.seen closed.log seen.1.0,
      )

  -- a centre was closed with the passes of its ports and that of its carrier
  pub centre_closed : {F : Type 0} (Quiet : Type 0) (carrier : Option CarrierState) (node : ClosedNode D F State CentreRecord)
      → IsGivenBack r d limits opening (ports ++ option_to_list (option_map (λ c. c.centre) carrier)) node
      → (Quiet → IfSome carrier (HasStoredNoMore udc_opening opening C)) → IsClosedWith r d limits opening applied_of Quiet ports node
  centre_closed Quiet carrier (Ok node) back stored = record {
    carriers = option_to_list (option_map (λ c. c.centre) carrier);
    asked = back.0;
    closed = back.1;
    few = λ quiet. few_at_centre carrier node back.0 back.1 (stored quiet);
  }
  centre_closed Quiet carrier (Err disk) back stored =
      record { carriers = option_to_list (option_map (λ c. c.centre) carrier); left = back }

-- the pass of the Update Centre that a carrier has, as a list: no carrier, no pass
abbrev pub udc_pass : Option CarrierState → List (Standing Record)
udc_pass carrier = option_to_list (option_map (λ c. c.udc) carrier)

-- what it was told of is taken up from its centre
record IsPartTaken (opening : List Record) (C : ℕ) (passes : List (Standing Record)) (log : List (Entry Record)) : Type 0 where
  told : told_count passes + taken_of opening C ≤ taken_of (with_opening opening log) C
  failed : failed_count passes ≡ 0

part_taken : (opening : List Record) (centre_opening : List CentreRecord) (C : ℕ) (carrier : Option CarrierState)
    (log : List (Entry Record)) → EachHasSeenPrefix log (udc_pass carrier)
    → IfSome carrier (HasStoredNoMore opening centre_opening C) → IsPartTaken opening C (udc_pass carrier) log
part_taken opening centre_opening C None log seen none = record {
  told = omega (arith, taken_grows C opening [] log (log, refl), ap (λ (l : List Record). taken_of l C) (append-nil opening));
  failed = refl;
}
part_taken opening centre_opening C (Some carrier) log seen stored = record {
  told = omega (arith, stored.taken_up, taken_grows C opening carrier.udc.seen log seen.0);
  failed = omega (arith, stored.udc_unfailed);
}

module _ {S State Request Reply D : Type 0} (r : rules.Ghosts S State Request Record Reply) (d : reports.Ghosts D) (limits : Limits)
    (opening : List Record) (one other third fourth : List CentreRecord) (ports : List (Standing Record))
    (a b c e : Option CarrierState) where
  -- all records of the Update Centre but items that were taken up are its ports'
  few_at_update : (carriers : List (Standing Record)) (node : Parts D State Record) (asked : ℕ)
      (closed : IsClosed r d limits opening (ports ++ carriers) node asked)
      → carriers ≡ udc_pass a ++ (udc_pass b ++ (udc_pass c ++ udc_pass e))
      → IfSome a (HasStoredNoMore opening one 0) → IfSome b (HasStoredNoMore opening other 1)
      → IfSome c (HasStoredNoMore opening third 2) → IfSome e (HasStoredNoMore opening fourth 3)
      → asked + taken_count opening ≤ told_count ports + failed_count ports + taken_count (with_opening opening closed.log)
  few_at_update carriers node asked closed same stored_a stored_b stored_c stored_e =
      let log = closed.log in
      let all = (seen_append log ports carriers closed.seen).1 in
      let from_a = seen_append log (udc_pass a) (udc_pass b ++ (udc_pass c ++ udc_pass e)) (subst (EachHasSeenPrefix log) same all) in
      let from_b = seen_append log (udc_pass b) (udc_pass c ++ udc_pass e) from_a.1 in
      let from_c = seen_append log (udc_pass c) (udc_pass e) from_b.1 in
      let at_a = part_taken opening one 0 a log from_a.0 stored_a in
      let at_b = part_taken opening other 1 b log from_b.0 stored_b in
      let at_c = part_taken opening third 2 c log from_c.0 stored_c in
      let at_e = part_taken opening fourth 3 e log from_c.1 stored_e in
      omega (
        arith,
        closed.most,
        told_append ports carriers,
        failed_append ports carriers,
        ap told_count same,
        ap failed_count same,
        told_append (udc_pass a) (udc_pass b ++ (udc_pass c ++ udc_pass e)),
        told_append (udc_pass b) (udc_pass c ++ udc_pass e),
        told_append (udc_pass c) (udc_pass e),
        failed_append (udc_pass a) (udc_pass b ++ (udc_pass c ++ udc_pass e)),
        failed_append (udc_pass b) (udc_pass c ++ udc_pass e),
        failed_append (udc_pass c) (udc_pass e),
        at_a.told,
        at_b.told,
        at_c.told,
        at_e.told,
        at_a.failed,
        at_b.failed,
        at_c.failed,
        at_e.failed,
      )

  -- the Update Centre was closed with the passes of its ports and those that the carriers had
  pub update_closed : {F : Type 0} (Quiet : Type 0) (carriers : List (Standing Record)) (node : ClosedNode D F State Record)
      → IsGivenBack r d limits opening (ports ++ carriers) node → carriers ≡ udc_pass a ++ (udc_pass b ++ (udc_pass c ++ udc_pass e))
      → (Quiet → IfSome a (HasStoredNoMore opening one 0) × IfSome b (HasStoredNoMore opening other 1)
      × IfSome c (HasStoredNoMore opening third 2) × IfSome e (HasStoredNoMore opening fourth 3))
      → IsClosedWith r d limits opening taken_count Quiet ports node
  update_closed Quiet carriers (Ok node) back same stored = record {
    carriers = carriers;
    asked = back.0;
    closed = back.1;
    few = λ quiet.
        let all = stored quiet in few_at_update carriers node back.0 back.1 same all.0 all.1 all.2 all.3;
  }
  update_closed Quiet carriers (Err disk) back same stored = record { carriers = carriers; left = back }
