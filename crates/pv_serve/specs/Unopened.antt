-- A server that was not begun, since a node was not opened.
use denote.Param.{number}
use Rattle.std.specs.Prelude.{◌≡◌, ℕ, zero, suc, ◌<◌, List, length, slice_get, IfSome}
use Rattle.pv_irc.specs.contracts.rules.IrcRulesRules.TheImpl as irc
use Rattle.pv_node.specs.Opening.{FaultShows, IsOpenFault, IsOutside}
use Rattle.pv_node.specs.declared.fault.NodeFault.{NodeFault}
use Rattle.pv_outside.specs.declared.limits.Limits.{Limits}
use Rattle.pv_outside.specs.declared.reports.Reports as reports
use Rattle.pv_udc.specs.contracts.rules.UdcRulesRules.TheImpl as udc
use Rattle.pv_centres.specs.Opening.{KeepsDisks}

-- what these bytes of a node's disk show, if the node is not opened for this fault: node 0 is the Update Centre, and c + 1 is centre c
abbrev pub NodeShows : {D F : Type 0} → Limits → ℕ → List ℕ → NodeFault D F → Type 0
NodeShows limits zero text fault = FaultShows udc.ghosts limits text fault
NodeShows limits (suc centre) text fault = FaultShows (irc.ghosts (number centre)) limits text fault

module _ {D F : Type 0} (g : reports.Ghosts D) where
  -- One of these disks is why its node was not opened: no allocation and no call failed, and if it reports its bytes, they show the fault.
  pub record IsUnreadable (limits : Limits) (disks : List D) (node : ℕ) (fault : NodeFault D F) : Type 0 where
    pub there : node < length disks
    pub inside : IsOutside fault → ⊥
    pub known : IsOpenFault limits fault
    pub shown : IfSome (slice_get disks node) (λ disk. IfSome (g.reads disk) (λ text. NodeShows limits node text fault))

-- Nobody was served: a crash leaves of each disk only what it might have left before, and the doors are as they were.
pub record IsUnserved {D O E : Type 0} (g : reports.Ghosts D) (disks disks' : List D) (callers callers' : O)
    (editors editors' : E) : Type 0 where
  pub disks_kept : KeepsDisks g disks disks'
  pub callers_same : callers' ≡ callers
  pub editors_same : editors' ≡ editors
