-- A carrier's rounds, one after another.
use Rattle.std.specs.Prelude.{◌≡◌, Bool, true, false, List, [], ◌∷◌, Option, None, Some, ℕ}
use Rattle.pv_outside.specs.declared.limits.Limits.{Limits}
use Rattle.pv_outside.specs.declared.link.Link as links
use Rattle.pv_node.specs.declared.rules.Rules as rules
use Rattle.pv_edits.specs.declared.record.Record.{Record}
use Rattle.pv_irc.specs.History.{CentreState}
use Rattle.pv_irc.specs.declared.record.CentreRecord.{CentreRecord}
use Rattle.pv_irc.specs.declared.reply.IrcReply.{IrcReply}
use Rattle.pv_irc.specs.declared.request.IrcRequest.{IrcRequest}
use Rattle.pv_udc.specs.EditList.{EditList}
use Rattle.pv_udc.specs.declared.reply.UdcReply.{UdcReply}
use Rattle.pv_udc.specs.declared.request.UdcRequest.{UdcRequest}
use Rattle.pv_ports.specs.Cargo.{WentThrough, HasBrought}
use Rattle.pv_ports.specs.Outcomes.{HasRoundCause, HasMemory, HaveSeenTold}
use Rattle.pv_ports.specs.Rights.{HoldRightPackets}
use Rattle.pv_ports.specs.Round.{CarrierState, Stop, IsRound}
use Rattle.pv_ports.specs.declared.round_end.RoundEnd.TheVariants as stops
use Rattle.pv_service.specs.Chain.{IsChain, any_is}
use Rattle.pv_service.specs.declared.carrier_report.CarrierFault.{CarrierFault}
use Rattle.pv_service.specs.declared.carrier_report.CarrierFault.TheVariants as faults
use Rattle.pv_service.specs.declared.carrier_report.CarrierReport.{CarrierReport}
use Rattle.pv_service.specs.declared.after_round.AfterRound.{AfterRound}
use Rattle.pv_service.specs.declared.after_round.AfterRound.TheVariants as after

-- a carrier with its two links
pub record CarrierPlace (L : Type 0) : Type 0 where
  pub carrier : CarrierState
  pub down : L
  pub up : L

-- these parts of it
abbrev pub carrier_at : {L : Type 0} → CarrierState → L → L → CarrierPlace L
carrier_at carrier down up = record { carrier = carrier; down = down; up = up }

-- no call of a link or a disk failed in a round that ended so
abbrev pub RoundGoesOn : Stop → Type 0
RoundGoesOn stops.LinkFault = ⊥
RoundGoesOn (stops.DiskFault failure) = ⊥
RoundGoesOn _ = Unit {0}

-- nothing more can be brought in a round that ended so: nothing was to be brought, or a node is full, or no memory was found
abbrev pub RoundRests : Stop → Type 0
RoundRests stops.Idle = Unit {0}
RoundRests (stops.Full node count) = Unit {0}
RoundRests (stops.Memory stored) = Unit {0}
RoundRests _ = ⊥

-- whether a round ended since no memory was found
abbrev pub round_lacked_memory : Stop → Bool
round_lacked_memory (stops.Memory stored) = true
round_lacked_memory _ = false

-- why a carrier made no further round: a call of a link failed in the last one; or a call of a disk; or that one rests
abbrev pub LastRoundIs : {D F : Type 0} → Option (CarrierFault D F) → Stop → Type 0
LastRoundIs None last = RoundRests last
LastRoundIs (Some faults.Link) last = last ≡ stops.LinkFault
LastRoundIs (Some (faults.Disk failure)) last = last ≡ stops.DiskFault tt

-- what a carrier does after a round that ended so
abbrev pub GoesAfter : {D F : Type 0} → Stop → AfterRound D F → Type 0
GoesAfter stop (after.End fault) = LastRoundIs fault stop
GoesAfter stop _ = RoundGoesOn stop

-- all these rounds go on
abbrev pub AllGoOn : List Stop → Type 0
AllGoOn [] = Unit {0}
AllGoOn (last ∷ earlier) = AllGoOn earlier × RoundGoesOn last

module _ {L : Type 0} (k : links.Ghosts L) (udc_opening : List Record) (centre_opening : List CentreRecord) (C : ℕ) where
  -- all packets of the centre that the links of a carrier may hold are right
  abbrev pub HoldsRight : CarrierPlace L → Type 0
  HoldsRight at = HoldRightPackets k udc_opening centre_opening C at.carrier.udc at.carrier.centre at.down at.up

module _ {SU SC L : Type 0} (u : rules.Ghosts SU EditList UdcRequest Record UdcReply)
    (c : rules.Ghosts SC CentreState IrcRequest CentreRecord IrcReply) (k : links.Ghosts L) (udc_limits centre_limits : Limits)
    (udc_opening : List Record) (centre_opening : List CentreRecord) (C : ℕ) where
  -- One round, and why it ended so. If all packets were right before it, they are after it. If it went to its end, it has brought what was
  -- due. Unless it ran out of memory, the passes have seen what was stored for them.
  pub record MakesRound (old : CarrierPlace L) (stop : Stop) (new : CarrierPlace L) : Type 0 where
    pub round : IsRound u c k udc_limits centre_limits udc_opening centre_opening C old.carrier old.down old.up new.carrier new.down
        new.up stop
    pub cause : HasRoundCause u c k udc_limits centre_limits udc_opening centre_opening C old.carrier old.down old.up new.carrier new.down
        new.up stop
    pub right : HoldsRight k udc_opening centre_opening C old → HoldsRight k udc_opening centre_opening C new
    pub carried : WentThrough stop
        → HasBrought k centre_limits udc_opening centre_opening C old.carrier old.down old.up new.carrier new.down new.up
    pub seen : HasMemory stop → HaveSeenTold udc_opening centre_opening C old.carrier new.carrier

  -- these rounds were made, given how they ended, the last one first
  abbrev pub MakesRounds : List Stop → CarrierPlace L → CarrierPlace L → Type 0
  MakesRounds = IsChain MakesRound

  -- rounds were made, of which each goes on
  pub record HasMadeSome (old new : CarrierPlace L) (memory : Bool) : Type 0 where
    pub stops : List Stop
    pub rounds : MakesRounds stops old new
    pub memory_is : memory ≡ any_is round_lacked_memory stops
    pub goes_on : AllGoOn stops

  -- A carrier has made its rounds: how each ended, and why it made no further one. If all packets were right before, they are afterwards.
  -- Unless some round ran out of memory, the passes have seen what was stored for them in all rounds.
  pub record HasCarried {D F : Type 0} (old new : CarrierPlace L) (report : CarrierReport D F) : Type 0 where
    pub last : Stop
    pub earlier : List Stop
    pub rounds : MakesRounds (last ∷ earlier) old new
    pub memory_is : report.memory ≡ any_is round_lacked_memory (last ∷ earlier)
    pub goes_on : AllGoOn earlier
    pub ends : LastRoundIs report.fault last
    pub right : HoldsRight k udc_opening centre_opening C old → HoldsRight k udc_opening centre_opening C new
    pub seen : report.memory ≡ false → HaveSeenTold udc_opening centre_opening C old.carrier new.carrier
