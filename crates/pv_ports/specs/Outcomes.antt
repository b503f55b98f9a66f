-- How a round ends, and what is known then.
use Rattle.std.specs.Prelude.{◌≡◌, ◌⊎◌, ℕ, ◌+◌, ◌-◌, ◌<◌, ◌≤◌, List, length, IfSome}
use Rattle.pv_outside.specs.declared.limits.Limits.{Limits}
use Rattle.pv_outside.specs.declared.link.Link as links
use Rattle.pv_outside.specs.Counts.{Rose}
use Rattle.pv_node.specs.declared.rules.Rules as rules
use Rattle.pv_edits.specs.Edits.{taken_of}
use Rattle.pv_edits.specs.declared.record.Record.{Record}
use Rattle.pv_irc.specs.History.{CentreState, applied_of, items_of}
use Rattle.pv_irc.specs.declared.record.CentreRecord.{CentreRecord}
use Rattle.pv_irc.specs.declared.reply.IrcReply.{IrcReply}
use Rattle.pv_irc.specs.declared.request.IrcRequest.{IrcRequest}
use Rattle.pv_live.specs.Asking.{IsFullFor}
use Rattle.pv_live.specs.Entries.{with_opening}
use Rattle.pv_live.specs.Pass.{Standing}
use Rattle.pv_udc.specs.EditList.{EditList}
use Rattle.pv_udc.specs.declared.reply.UdcReply.{UdcReply}
use Rattle.pv_udc.specs.declared.request.UdcRequest.{UdcRequest}
use Rattle.pv_ports.specs.Round.{CarrierState, Stop, centre_node}
use Rattle.pv_ports.specs.Talk.{PassLooks}
use Rattle.pv_ports.specs.declared.round_end.RoundEnd.TheVariants as stops

-- the pass counted this many stored records, and none of its asks failed
abbrev pub IsTold : {Rec : Type 0} → Standing Rec → Standing Rec → ℕ → Type 0
IsTold old new count = (new.told ≡ old.told + count) × (new.failed ≡ old.failed)

-- a record of the pass was stored at this place, after all that it had seen before, and not published
abbrev pub KeepsRecord : {Rec : Type 0} → List Rec → Standing Rec → Standing Rec → ℕ → Type 0
KeepsRecord opening old new place = (old.told < new.told) × (length opening + length old.seen ≤ place)

-- this count, of what a pass has seen, rose by the number of records that were stored for the pass, or by more
abbrev pub RisesByTold : {Rec : Type 0} → (List Rec → ℕ) → List Rec → Standing Rec → Standing Rec → Type 0
RisesByTold count opening old new = count (with_opening opening old.seen) + (new.told - old.told) ≤ count (with_opening opening new.seen)

-- The passes have seen what was stored for them. The centre has applied at least that many records more, and the Update Centre has taken
-- up at least that many items of the centre more.
pub record HaveSeenTold (udc_opening : List Record) (centre_opening : List CentreRecord) (C : ℕ) (old new : CarrierState) : Type 0 where
  pub applied : RisesByTold applied_of centre_opening old.centre new.centre
  pub taken_up : RisesByTold (λ records. taken_of records C) udc_opening old.udc new.udc

-- what a round has stored is published: it did not run out of memory
abbrev pub HasMemory : Stop → Type 0
HasMemory (stops.Memory stored) = ⊥
HasMemory _ = Unit {0}

-- no call of a disk has failed in a round that ended so
abbrev pub DisksHeld : Stop → Type 0
DisksHeld (stops.DiskFault failure) = ⊥
DisksHeld _ = Unit {0}

-- no ask of the two passes has failed on its disk
pub record NoAskFailed (old new : CarrierState) : Type 0 where
  pub centre : new.centre.failed ≡ old.centre.failed
  pub udc : new.udc.failed ≡ old.udc.failed

module _ {L : Type 0} (k : links.Ghosts L) where
  -- a link was given a packet or handed one out
  abbrev pub LinkIsUsed : L → L → Type 0
  LinkIsUsed old new = Rose (k.given old) (k.given new) ⊎ Rose (k.taken old) (k.taken new)

  -- a link was given no packet and handed none out
  abbrev pub LinkIsUnused : L → L → Type 0
  LinkIsUnused old new = (k.given new ≡ k.given old) × (k.taken new ≡ k.taken old)

module _ {SU SC L : Type 0} (u : rules.Ghosts SU EditList UdcRequest Record UdcReply)
    (c : rules.Ghosts SC CentreState IrcRequest CentreRecord IrcReply) (k : links.Ghosts L) (udc_limits centre_limits : Limits)
    (udc_opening : List Record) (centre_opening : List CentreRecord) (C : ℕ) where
  -- Nothing went: both looks found all records and all items acknowledged, and no link was used.
  pub record WasIdle (old : CarrierState) (old_down old_up : L) (new : CarrierState) (new_down new_up : L) : Type 0 where
    pub udc : PassLooks old.udc new.udc
    pub centre : PassLooks old.centre new.centre
    pub sent : length (with_opening udc_opening new.udc.seen) ≤ old.sending.acknowledged
    pub posted : length (items_of (with_opening centre_opening new.centre.seen)) ≤ old.posting.acknowledged
    pub ends : (new.sending ≡ old.sending) × (new.posting ≡ old.posting)
    pub links : LinkIsUnused k old_down new_down × LinkIsUnused k old_up new_up

  -- Why a round ended so. With `Moved` some link was used, and each pass counted as many stored records as it says.
  abbrev pub HasRoundCause : CarrierState → L → L → CarrierState → L → L → Stop → Type 0
  HasRoundCause old old_down old_up new new_down new_up (stops.Moved records items) =
      (LinkIsUsed k old_down new_down ⊎ LinkIsUsed k old_up new_up) × IsTold old.centre new.centre records × IsTold old.udc new.udc items
  HasRoundCause old old_down old_up new new_down new_up stops.Idle = WasIdle old old_down old_up new new_down new_up
  HasRoundCause old old_down old_up new new_down new_up stops.LinkFault =
      Rose (k.faults old_down) (k.faults new_down) ⊎ Rose (k.faults old_up) (k.faults new_up)
  HasRoundCause old old_down old_up new new_down new_up (stops.DiskFault failure) =
      (new.udc.failed ≡ old.udc.failed + 1) ⊎ (new.centre.failed ≡ old.centre.failed + 1)
  HasRoundCause old old_down old_up new new_down new_up (stops.Full node count) =
      ((node ≡ 0) × (request : UdcRequest) × IsFullFor u udc_limits udc_opening request new.udc count)
      ⊎ ((node ≡ centre_node C) × (request : IrcRequest) × IsFullFor c centre_limits centre_opening request new.centre count)
  HasRoundCause old old_down old_up new new_down new_up (stops.Memory stored) =
      IfSome stored (KeepsRecord udc_opening old.udc new.udc) ⊎ IfSome stored (KeepsRecord centre_opening old.centre new.centre)
