-- Requests: the ranges of their parts, and the record that each asks for.
use Rattle.pv_page.specs.Names.{IsPage, IsAccount, IsName}
use Rattle.pv_frame.specs.Content.{IsFrame}
use Rattle.pv_account.specs.Profile.{IsProfile}
use Rattle.std.specs.Prelude.{ℕ}
use Rattle.pv_edits.specs.Taken.{IsCentre, IsTakenUp}
use Rattle.pv_edits.specs.Record.{IsEditor}
use Rattle.pv_edits.specs.declared.wish.EditWish.{EditWish}
use Rattle.pv_edits.specs.declared.wish.EditWish.TheVariants as wishes
use Rattle.pv_edits.specs.declared.record.Record.{Record}
use Rattle.pv_edits.specs.declared.record.Record.TheVariants.{Put, Drop, Account, Lease, Taken}
use Rattle.pv_udc.specs.declared.request.UdcRequest.{UdcRequest}
use Rattle.pv_udc.specs.declared.request.UdcRequest.TheVariants.{Edit, TakeUp}

-- each part of a wish is within its range; its frame need not be valid
abbrev pub IsWish : EditWish → Type 0
IsWish (wishes.Put name frame) = IsName name × IsFrame frame
IsWish (wishes.Drop name) = IsName name
IsWish (wishes.Account account) = IsProfile account
IsWish (wishes.Lease root account) = IsPage root × IsAccount account

-- each part of a request is within its range
abbrev pub IsRequest : UdcRequest → Type 0
IsRequest (Edit editor q wish) = IsEditor editor q × IsWish wish
IsRequest (TakeUp centre k item) = IsTakenUp (record { centre = centre; k = k; item = item })

-- an item comes from a centre that there can be: what a request's type alone does not say
abbrev pub HasCentre : UdcRequest → Type 0
HasCentre (Edit editor q wish) = Unit {0}
HasCentre (TakeUp centre k item) = IsCentre centre

-- the record of an editor's wish under a number
abbrev pub edit_of : ℕ → ℕ → EditWish → Record
edit_of editor q (wishes.Put name frame) = Put editor q name frame
edit_of editor q (wishes.Drop name) = Drop editor q name
edit_of editor q (wishes.Account account) = Account editor q account
edit_of editor q (wishes.Lease root account) = Lease editor q root account

-- the record that a request asks for
abbrev pub record_of : UdcRequest → Record
record_of (Edit editor q wish) = edit_of editor q wish
record_of (TakeUp centre k item) = Taken (record { centre = centre; k = k; item = item })
