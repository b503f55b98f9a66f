-- The nodes of a server that has ended.
use denote.Param.{number}
use Rattle.std.proofs.Common.{◌≡◌, ℕ, ◌+◌, ◌≤◌, Bool, List, Option, None, Some, ◌⊎◌, inl, inr, refl, sym, subst, ◌∙◌, arith}
use Rattle.std.specs.Prelude.{IfSome, IsSome}
use Rattle.pv_edits.specs.declared.record.Record.{Record}
use Rattle.pv_irc.specs.History.{CentreState}
use Rattle.pv_irc.specs.contracts.rules.IrcRulesRules.TheImpl as irc
use Rattle.pv_irc.specs.declared.record.CentreRecord.{CentreRecord}
use Rattle.pv_live.specs.Entries.{with_opening}
use Rattle.pv_live.specs.Run.{IsMade, IsRun}
use Rattle.pv_live.specs.declared.entry.Entry.{Entry}
use Rattle.pv_node.specs.Parts.{Parts}
use Rattle.pv_node.specs.Standing.{DiskStands, Stands, StandsEither, StandsFor}
use Rattle.pv_node.specs.declared.rules.Rules as rules
use Rattle.pv_outside.specs.declared.limits.Limits.{Limits}
use Rattle.pv_outside.specs.declared.reports.Reports as reports
use Rattle.pv_udc.specs.EditList.{EditList}
use Rattle.pv_udc.specs.contracts.rules.UdcRulesRules.TheImpl as udc
use Rattle.pv_centres.specs.Opening.{IsOpenedOver, IsReady, count_of, weigh}
use Rattle.pv_centres.specs.Parts.{IfThere}
use Rattle.pv_centres.specs.Rest.{AddsRecords, AddsRun, AreCarried, StandsOn}
use Rattle.pv_serve.specs.Ended.{HasEnded, IsBrought, WouldBeBrought}
use Rattle.pv_serve.specs.Serving.{HasNoDiskFault}
use Rattle.pv_serve.specs.declared.status.ServeStatus.{ServeStatus}

module _ {S State Request Rec Reply D : Type 0} (r : rules.Ghosts S State Request Rec Reply) (g : reports.Ghosts D) where
  -- an image of a disk that stands for these, and perhaps one in hand, of which there is none
  none_in_hand : (records : List Rec) (hand : Option Rec) (image : List ℕ) → hand ≡ None → StandsEither r records hand image
      → Stands r image records
  none_in_hand records None image none stands = stands
  none_in_hand records (Some rec) image none stands = absurd cc

  -- what is there is there
  some_is : {X : Type 0} (o : Option X) (x : X) → o ≡ Some x → IsSome o
  some_is None x is = absurd cc
  some_is (Some y) x is = refl

  -- the records that a node was opened with are those that its disk stood for
  pub opening_is : ((image : List ℕ) (one other : List Rec) → Stands r image one → Stands r image other → one ≡ other)
      → ((disk : D) → IfSome (g.reads disk) (g.may_leave disk)) → (disk : D) (node : Parts D State Rec) (opening records : List Rec)
      → IsOpenedOver r g disk node → StandsFor r g node opening → node.hand ≡ None → DiskStands r g disk records → opening ≡ records
  opening_is one_list left disk node opening records over stands none (text, reads, stood) =
      let reads_now : g.reads node.journal.disk ≡ Some text = over.same ∙ reads in
      let leaves : g.may_leave node.journal.disk text = subst (λ (o : Option (List ℕ)). IfSome o (g.may_leave node.journal.disk)) reads_now
      (left node.journal.disk) in
      one_list text opening records
      (none_in_hand opening node.hand text none (stands.images (some_is (g.reads node.journal.disk) text reads_now) text leaves)) stood

-- what was brought to a centre, if the network has it
module _ {D F : Type 0} (g : reports.Ghosts D) (status : ServeStatus D F) (noted : Bool) (centre : ℕ)
    (update_closed update : Parts D EditList Record) where
  pub would_be_brought : (closed ended : Option (Parts D CentreState CentreRecord))
      → IfThere (AddsRecords (irc.ghosts (number centre)) g) closed ended
      → (HasNoDiskFault status → IfThere (AreCarried udc.ghosts (irc.ghosts
      (number centre)) g noted centre update_closed update) closed ended)
      → (HasNoDiskFault status → IfSome ended (λ n. n.hand ≡ None))
      → (HasNoDiskFault status → IfThere (AddsRun (irc.ghosts (number centre)) g) closed ended)
      → IfThere (WouldBeBrought g status centre update_closed update) closed ended
  would_be_brought None None adds carried rests runs = tt
  would_be_brought (Some closed) (Some ended) adds carried rests runs = (adds, λ held. (noted, carried held), rests, runs)
  would_be_brought None (Some ended) adds carried rests runs = absurd adds
  would_be_brought (Some closed) None adds carried rests runs = absurd adds

-- a reason that is noted is a reason
unnoted : {A N B : Type 0} → A ⊎ (N × B) → A ⊎ B
unnoted (inl done) = inl done
unnoted (inr (noted, why)) = inr why

module _ {D F : Type 0} (g : reports.Ghosts D) (status : ServeStatus D F) (centre : ℕ) (update_closed update : Parts D EditList Record)
    (edits : List Record) (update_stands : StandsFor udc.ghosts g update_closed edits) where
  -- what a centre and the Update Centre stood for when they were closed is known: so it was brought
  pub is_brought : (closed ended : Parts D CentreState CentreRecord) (records : List CentreRecord)
      → StandsFor (irc.ghosts (number centre)) g closed records → WouldBeBrought g status centre update_closed update closed ended
      → IsBrought g status centre update closed ended
  is_brought closed ended records stands (adds, carried, rests, runs) = (
    adds,
    λ held.
        let both = (carried held).1 edits update_stands records stands in
        record { taken = unnoted both.0; applied = unnoted both.1 },
    rests,
    runs,
  )

-- What is known of a node that was closed: its log is a run, it stands for all records, and by these it was served so.
module _ {S State Request Rec Reply D : Type 0} (r : rules.Ghosts S State Request Rec Reply) (g : reports.Ghosts D) (limits : Limits)
    (Served : List (Entry Rec) → Parts D State Rec → Type 0) where
  pub record ClosesSo (opening : List Rec) (closed : Parts D State Rec) : Type 0 where
    pub log : List (Entry Rec)
    pub run : IsRun r limits opening log
    pub stands : StandsFor r g closed (with_opening opening log)
    pub hand : IfSome closed.hand (IsMade r limits (with_opening opening log))
    pub limited : r.limits_of closed.state ≡ limits
    pub served : Served log closed

-- A node that was opened over its disk, if it is there, was served and then closed, and brought what it lacked.
module _ {S State Request Rec Reply D : Type 0} (r : rules.Ghosts S State Request Rec Reply) (g : reports.Ghosts D)
    (one_list : (image : List ℕ) (one other : List Rec) → Stands r image one → Stands r image other → one ≡ other)
    (left : (disk : D) → IfSome (g.reads disk) (g.may_leave disk)) (limits : Limits)
    (Serves : List Rec → Parts D State Rec → Type 0) (Served : List Rec → List (Entry Rec) → Parts D State Rec → Type 0)
    (Would Brings : Parts D State Rec → Parts D State Rec → Type 0)
    (closes : (opening : List Rec) (closed : Parts D State Rec) → Serves opening closed → ClosesSo r g limits (Served opening) opening closed)
    (adds : (closed ended : Parts D State Rec) → Would closed ended → AddsRecords r g closed ended)
    (then : (opening : List Rec) (closed ended : Parts D State Rec) → Serves opening closed → Would closed ended
    → Brings closed ended)
    (Held : Type 0) (run : (closed ended : Parts D State Rec) → Would closed ended → Held → AddsRun r g closed ended) where
  pub node_has_ended : {B : Type 0} (opened : Option B) (node_of : B → Parts D State Rec) (opening_of : B → List Rec) (disk : Option D)
      (closed ended : Option (Parts D State Rec))
      → IfThere (λ one o. IsOpenedOver r g one (node_of o)) disk opened
      → IfSome opened (λ o. IsReady r g (opening_of o) limits (node_of o))
      → IfThere (λ o n. Serves (opening_of o) n) opened closed → IfThere Would closed ended
      → IfThere (HasEnded r g limits Served Brings Held) disk ended
  node_has_ended None node_of opening_of None None None over ready served would = tt
  node_has_ended (Some o) node_of opening_of (Some disk) (Some n) (Some end) over ready served would =
      let close = closes (opening_of o) n served in
      let records = with_opening (opening_of o) close.log in
      let all = (adds n end would).stands records close.stands in
      record {
        opening = opening_of o;
        opened = λ records stood. opening_is r g one_list left disk (node_of o)
            (opening_of o) records over ready.stands ready.at_rest stood;
        closed = n;
        log = close.log;
        run = close.run;
        served = close.served;
        brought = then (opening_of o) n end served would;
        more = all.0;
        stands = all.1;
        runs = λ held. subst (λ (l : Limits). StandsOn r g l records end) close.limited (run n end would held records close.stands
            (subst (λ (l : Limits). IfSome n.hand (IsMade r l records)) (sym close.limited) close.hand));
      }
  node_has_ended (Some o) node_of opening_of None closed ended over ready served would = absurd over
  node_has_ended None node_of opening_of (Some disk) closed ended over ready served would = absurd over
  node_has_ended None node_of opening_of None (Some n) ended over ready served would = absurd served
  node_has_ended (Some o) node_of opening_of (Some disk) None ended over ready served would = absurd served
  node_has_ended None node_of opening_of None None (Some end) over ready served would = absurd would
  node_has_ended (Some o) node_of opening_of (Some disk) (Some n) None over ready served would = absurd would

-- what is so if there is a first centre is so, if there are centres and they come in order
pub first_is : {A B C E : Type 0} (P : Type 0) (one : Option A) (other : Option B) (third : Option C) (fourth : Option E)
    → count_of other ≤ count_of one → count_of third ≤ count_of other → count_of fourth ≤ count_of third
    → 1 ≤ count_of one + count_of other + count_of third + count_of fourth → IfSome one (λ there. P) → P
first_is P (Some x) other third fourth in2 in3 in4 some is = is
first_is P None other third fourth in2 in3 in4 some is = absurd (omega (arith, in2, in3, in4, some))

-- what is there weighs as much as what became of it
pub same_weight : {A B : Type 0} (n : ℕ) (a : Option A) (b : Option B) (Becomes : A → B → Type 0) → IfThere Becomes a b
    → weigh (λ there. n) a ≡ weigh (λ there. n) b
same_weight n None None Becomes is = refl
same_weight n (Some a) (Some b) Becomes is = refl
same_weight n None (Some b) Becomes is = absurd is
same_weight n (Some a) None Becomes is = absurd is
