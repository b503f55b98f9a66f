-- Worked examples, computed from the definitions: constants, small judgements, and the numbers of edits.
use Rattle.std.proofs.Common.{◌≡◌, ℕ, List, [], ◌∷◌, map, Some, None, refl}
use Rattle.pv_outside.specs.declared.limits.Limits.{Limits}
use Rattle.pv_page.specs.Names.{Name}
use Rattle.pv_account.specs.Profile.{Profile}
use Rattle.pv_account.specs.declared.account.TheConstants.{MAX_CENTRES}
use Rattle.pv_frame.specs.Content.{blank_frame}
use Rattle.pv_frame.specs.declared.frame_error.FrameError.TheVariants.{Shape}
use Rattle.pv_post.specs.declared.item.Item.{Item}
use Rattle.pv_post.specs.declared.item.Item.TheVariants as items
use Rattle.pv_edits.specs.declared.record.Record.{Record}
use Rattle.pv_edits.specs.declared.record.Record.TheVariants.{Put, Drop, Account, Taken}
use Rattle.pv_edits.specs.declared.down.DownRecord.TheVariants.{Whole, Blank}
use Rattle.pv_edits.specs.declared.wish.EditWish.TheVariants as wishes
use Rattle.pv_node.specs.declared.decision.Decision.TheVariants.{Answer, Store}
use Rattle.pv_udc.specs.Bills.{billed_lines, billed_pence, last_charge, charge_before}
use Rattle.pv_udc.specs.Codes.{code_of}
use Rattle.pv_udc.specs.Judgement.{last_edit, next_number, judge}
use Rattle.pv_udc.specs.Numbers.{numbers_of, from_one}
use Rattle.pv_udc.specs.Replies.{down_of, reply_place}
use Rattle.pv_udc.specs.declared.refusal.Refusal.TheVariants.{BadNumber, BadFrame}
use Rattle.pv_udc.specs.declared.reply.Code.{Code}
use Rattle.pv_udc.specs.declared.reply.UdcReply.TheVariants.{Stored, Again, Old, Early, Refused}
use Rattle.pv_udc.specs.declared.request.UdcRequest.TheVariants.{Edit, TakeUp}
use Rattle.pv_udc.specs.declared.state.TheConstants.{CENTRES}

-- each centre has its count
pub centres-all : CENTRES ≡ MAX_CENTRES
centres-all = refl

abbrev page_1a : Name
page_1a = record { page = 1; letter = 97 }

-- the operator's first edit
abbrev put_1a : Record
put_1a = Put 0 1 page_1a blank_frame

abbrev profile_5 : Profile
profile_5 = record { number = 5; digest = []; home = 0; groups = [] }

abbrev charge : Item
charge = items.Charge (record { serial = 0; number = 0; account = 5; name = page_1a; price = 9; moment = 0 })

abbrev reply : Item
reply = items.Reply (record { account = 5; name = page_1a; moment = 0; fields = [] ∷ [] })

abbrev of_centre_2 : ℕ → Item → Record
of_centre_2 k item = Taken (record { centre = 2; k = k; item = item })

abbrev coded : ℕ → ℕ → Code
coded code shown = record { code = code; shown = shown }

-- ---- codes

-- the number after the greatest of four bytes is shown as it is
pub code-of_a_number : code_of (BadNumber 4294967296) ≡ coded 3 4294967296
code-of_a_number = refl

-- a frame's error is shown by its number
pub code-of_a_frame : code_of (BadFrame Shape) ≡ coded 7 5
code-of_a_frame = refl

-- ---- judgements

module _ (limits : Limits) where
  -- account 5 does not exist
  pub judge-stranger : judge limits [] (Edit 5 1 (wishes.Drop page_1a)) ≡ Answer (Refused (coded 1 0))
  judge-stranger = refl

  -- 1 is wanted at first
  pub judge-first_number : judge limits [] (Edit 0 2 (wishes.Drop page_1a)) ≡ Answer (Refused (coded 3 1))
  judge-first_number = refl

  -- the wanted number comes before the missing frame
  pub judge-no_frame : judge limits [] (Edit 0 1 (wishes.Drop page_1a)) ≡ Answer (Refused (coded 4 0))
  judge-no_frame = refl

  -- the last number is the same edit, though it asks something else now
  pub judge-again : judge limits (put_1a ∷ []) (Edit 0 1 (wishes.Lease 12 5)) ≡ Answer (Again 0)
  judge-again = refl

  -- the next number is an edit that is stored at the end
  pub judge-next : judge limits (put_1a ∷ []) (Edit 0 2 (wishes.Drop page_1a)) ≡ Store (Drop 0 2 page_1a) (Stored 1)
  judge-next = refl

  -- a page that nobody leased is the operator's, also if the number is not the next
  pub judge-not_his : judge limits (Account 0 1 profile_5 ∷ []) (Edit 5 9 (wishes.Drop page_1a)) ≡ Answer (Refused (coded 2 0))
  judge-not_his = refl

  -- an item that is taken up, one that was, and one that is early
  pub judge-item : judge limits [] (TakeUp 2 0 charge) ≡ Store (of_centre_2 0 charge) (Stored 0)
  judge-item = refl

  pub judge-old : judge limits (of_centre_2 0 charge ∷ []) (TakeUp 2 0 charge) ≡ Answer (Old 1)
  judge-old = refl

  pub judge-early : judge limits (of_centre_2 0 charge ∷ []) (TakeUp 2 2 charge) ≡ Answer (Early 1)
  judge-early = refl

-- ---- numbers

-- an editor's last edit has the number 2 and the place 2
pub last-edit : last_edit (put_1a ∷ Drop 7 1 page_1a ∷ Drop 0 2 page_1a ∷ []) 0 ≡ Some (2, 2)
last-edit = refl

pub next-number : next_number (put_1a ∷ Drop 7 1 page_1a ∷ Drop 0 2 page_1a ∷ []) 0 ≡ 3
next-number = refl

pub numbers-of_one : numbers_of 0 (put_1a ∷ Drop 7 1 page_1a ∷ Drop 0 2 page_1a ∷ []) ≡ 1 ∷ 2 ∷ []
numbers-of_one = refl

pub numbers-from_one : from_one 3 ≡ 1 ∷ 2 ∷ 3 ∷ []
numbers-from_one = refl

-- ---- what goes down, and what came up

pub down-charge : down_of (of_centre_2 0 charge) ≡ Blank
down-charge = refl

pub down-reply : down_of (of_centre_2 0 reply) ≡ Blank
down-reply = refl

pub down-edit : down_of put_1a ≡ Whole put_1a
down-edit = refl

-- the operator has page 1, and nobody else
pub reply-found : reply_place (of_centre_2 0 charge ∷ of_centre_2 1 reply ∷ []) 0 0 ≡ Some 1
reply-found = refl

pub reply-of_another : reply_place (of_centre_2 0 charge ∷ of_centre_2 1 reply ∷ []) 5 0 ≡ None
reply-of_another = refl

-- ---- bills

-- another line of the same account, and a line of another
abbrev later_charge : Item
later_charge = items.Charge (record { serial = 0; number = 1; account = 5; name = page_1a; price = 99; moment = 0 })

abbrev other_charge : Item
other_charge = items.Charge (record { serial = 1; number = 0; account = 6; name = page_1a; price = 7; moment = 0 })

abbrev charges : List Record
charges = put_1a ∷ of_centre_2 0 charge ∷ of_centre_2 1 other_charge ∷ of_centre_2 2 reply ∷ of_centre_2 3 later_charge ∷ []

-- the bill of 5 has its two lines, of 9 and 99 pence, and no other
pub bill-lines : map (λ line. line.number) (billed_lines charges 5) ≡ 0 ∷ 1 ∷ []
bill-lines = refl

pub bill-pence : billed_pence charges 5 ≡ 108
bill-pence = refl

-- its lines are at these places, from the last one back
pub charge-last : last_charge charges 5 ≡ Some 4
charge-last = refl

pub charge-before : charge_before charges 4 ≡ Some 1
charge-before = refl

pub charge-no_more : charge_before charges 1 ≡ None
charge-no_more = refl

-- another record is before none, and an account without lines has no last one
pub charge-no_line : charge_before charges 3 ≡ None
charge-no_line = refl

pub charge-none : last_charge charges 7 ≡ None
charge-none = refl
