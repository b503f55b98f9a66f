-- A node that was brought what it lacked stands for more.
use Rattle.std.proofs.Common.{◌≡◌, List, [], ◌∷◌, ◌++◌, Option, Some, None, inl, inr, take, ◌∙◌, subst, append_assoc}
use Rattle.std.specs.Prelude.{IfSome}
use Rattle.pv_outside.specs.declared.reports.Reports as reports
use Rattle.pv_node.specs.Asking.{records_with}
use Rattle.pv_node.specs.Parts.{Parts}
use Rattle.pv_node.specs.Standing.{StandsFor}
use Rattle.pv_node.specs.declared.rules.Rules as rules
use Rattle.pv_closing.specs.Bringing.{settled_state, EndsBringing, StandsBrought}
use Rattle.pv_closing.specs.declared.rest_end.RestEnd.{RestEnd}
use Rattle.pv_closing.specs.declared.rest_end.RestEnd.TheVariants.{Brought, Full, NoRoom, DiskFault}
use Rattle.pv_centres.specs.Ends.{rest_end}
use Rattle.pv_centres.specs.Parts.{IfThere}
use Rattle.pv_centres.specs.Rest.{AddsRecords}

module _ {S State Request Rec Reply D : Type 0} (r : rules.Ghosts S State Request Rec Reply) (g : reports.Ghosts D) where
  -- what comes after the records: the one that was in hand, if it was found stored, and then those that were brought
  stands_more : (new : Parts D State Rec) (records more : List Rec) (found : Option Rec)
      → StandsFor r g new (records_with records found ++ more) → (all : List Rec) × StandsFor r g new (records ++ all)
  stands_more new records more None stands = (more, stands)
  stands_more new records more (Some rec) stands =
      (rec ∷ more, subst (StandsFor r g new) (append_assoc records (rec ∷ []) more) stands)

  pub adds_brought : (old new : Parts D State Rec) (lacked_at : State → List Rec) → StandsBrought r g old new lacked_at
      → r.limits_of new.state ≡ r.limits_of old.state → AddsRecords r g old new
  adds_brought old new lacked_at brought limits = record {
    stands = λ records stands.
        let now = brought records stands in
        stands_more new records (take now.2 (lacked_at (settled_state r old now.0))) now.0 now.3;
    limits = limits;
  }

  -- it was brought twice
  pub adds_trans : (old mid new : Parts D State Rec) → AddsRecords r g old mid → AddsRecords r g mid new → AddsRecords r g old new
  adds_trans old mid new one other = record {
    stands = λ records stands.
        let first = one.stands records stands in
        let second = other.stands (records ++ first.0) first.1 in
        (first.0 ++ second.0, subst (StandsFor r g new) (append_assoc records first.0 second.0) second.1);
    limits = other.limits ∙ one.limits;
  }

  -- nothing is in hand then, unless its disk failed
  pub rests : {F : Type 0} (old new : Parts D State Rec) (lacked_at : State → List Rec) (end : RestEnd D F)
      → EndsBringing r g old new lacked_at end → rest_end end ≡ None → new.hand ≡ None
  rests old new lacked_at Brought (inl unsettled) none = absurd unsettled.1
  rests old new lacked_at Brought (inr brought) none = brought.1.1
  rests old new lacked_at (Full count) (inl unsettled) none = absurd unsettled.1
  rests old new lacked_at (Full count) (inr some) none = some.1.why.0
  rests old new lacked_at NoRoom (inl unsettled) none = absurd unsettled.1
  rests old new lacked_at NoRoom (inr some) none = some.1.why.0
  rests old new lacked_at (DiskFault failure) ends none = absurd cc

-- what holds of whatever is there holds of this one
pub at_some : {X : Type 0} (there : Option X) (x : X) → there ≡ Some x → (P : X → Type 0) → IfSome there P → P x
at_some {X} there x is P holds = subst (λ (o : Option X). IfSome o P) is holds

-- what follows if anything is there
pub if_some_later : {X : Type 0} (there : Option X) (P Q : Type 0) → (P → Q) → IfSome there (λ x. P) → IfSome there (λ x. Q)
if_some_later None P Q later is = tt
if_some_later (Some x) P Q later is = later is

-- so it is of what it became
pub if_some_there : {X Y : Type 0} (B : X → Y → Type 0) (P : Type 0) (old : Option X) (new : Option Y) → IfThere B old new
    → IfSome old (λ x. P) → IfSome new (λ x. P)
if_some_there B P None None there is = tt
if_some_there B P (Some x) (Some y) there is = is
if_some_there B P None (Some y) there is = absurd there
if_some_there B P (Some x) None there is = absurd there
