-- The charge lines of a call: its serial, and their numbers.
use Rattle.std.specs.Prelude.{◌≡◌, ℕ, List, [], ◌∷◌, ◌++◌, length, map, All, Option, Some, None}
use Rattle.std.specs.Option.{option_to_list}
use Rattle.std.specs.List.{range_with_len}
use Rattle.pv_charge.specs.Line.{Charge}
use Rattle.pv_irc.specs.declared.reply.IrcReply.{IrcReply}
use Rattle.pv_irc.specs.declared.reply.IrcReply.TheVariants.{Serial}
use Rattle.pv_ports.specs.Talk.{Happening, KeyTaken, WishAnswered, TurnedAway, charges_of}

-- the serial in a reply, if it has one
abbrev pub reply_serial : IrcReply → Option ℕ
reply_serial (Serial serial) = Some serial
reply_serial _ = None

-- the serials that a happening brought
abbrev pub serials_at : Happening → List ℕ
serials_at (KeyTaken byte moment) = []
serials_at (WishAnswered wish told) = option_to_list (reply_serial told.reply)
serials_at (TurnedAway count) = []

-- the serials that a call got, whose happenings are given the last first
abbrev pub serials_of : List Happening → List ℕ
serials_of [] = []
serials_of (happening ∷ earlier) = serials_of earlier ++ serials_at happening

-- the charges that were stored for a call are numbered 0, 1, 2 and on, and have the one serial that was told in it
pub record AreItsCharges (happened : List Happening) : Type 0 where
  pub numbers : map (λ (charge : Charge). charge.number) (charges_of happened) ≡ range_with_len 0 (length (charges_of happened))
  pub serials : All (λ charge. serials_of happened ≡ charge.serial ∷ []) (charges_of happened)
