-- Worked examples, computed from the definitions: the spelling of a removal, and letters at a centre.
use Rattle.std.proofs.Common.{◌≡◌, ℕ, List, ◌∷◌, [], ◌++◌, refl}
use Rattle.pv_outside.specs.declared.limits.Limits.{Limits}
use Rattle.pv_post.specs.Boxes.{WaitingLetter}
use Rattle.pv_post.specs.declared.item.Item.TheVariants.{Mail}
use Rattle.pv_edits.specs.declared.record.Record.{Record}
use Rattle.pv_edits.specs.declared.record.Record.TheVariants.{Account, Taken}
use Rattle.pv_edits.specs.declared.down.DownRecord.TheVariants.{Whole, Blank}
use Rattle.pv_irc.specs.Record.{centre_bytes, removed_bytes}
use Rattle.pv_irc.specs.History.{letters_for, centre_state_of}
use Rattle.pv_irc.specs.declared.record.CentreRecord.{CentreRecord}
use Rattle.pv_irc.specs.declared.record.CentreRecord.TheVariants.{Applied, Removed}

-- a removal is spelled by the account and the letter's number
pub spelling-of_a_removal : centre_bytes (Removed 258 9) ≡ 4 ∷ 0 ∷ 0 ∷ 0 ∷ 0 ∷ 0 ∷ 0 ∷ 1 ∷ 2 ∷ 0 ∷ 0 ∷ 0 ∷ 0 ∷ 0 ∷ 0 ∷ 0 ∷ 9 ∷ []
unfolding centre_bytes removed_bytes
spelling-of_a_removal = refl

-- ---- letters

-- account 13 has its home at this centre
abbrev pub home_is : ℕ → Record
home_is centre = Account 0 1 (record { number = 13; digest = []; home = centre; groups = [] })

-- account 12 has mailed to it
abbrev pub mailed : Record
mailed = Taken (record { centre = 0; k = 0; item = Mail (record { sender = 12; to = 13; moment = 1; text = [] }) })

-- what came down to centre 1: mail before, while and after it was the home, and a record that was left out
abbrev pub came_down : List CentreRecord
came_down = Applied 0 (Whole mailed) ∷ Applied 1 (Whole (home_is 1)) ∷ Applied 2 (Whole mailed) ∷ Applied 3 Blank ∷ Applied 4 (Whole mailed)
    ∷ Applied 5 (Whole (home_is 0)) ∷ Applied 6 (Whole mailed) ∷ []

module _ (limits : Limits) where
  abbrev pub letters_after : List CentreRecord → List WaitingLetter
  letters_after records = letters_for (centre_state_of 1 limits records) 13

  abbrev pub letter_under : ℕ → WaitingLetter
  letter_under number = record { number = number; sender = 12; moment = 1; text = [] }

  -- a letter arrives where its account is at home then, under the place of its mail
  pub two-arrive : letters_after came_down ≡ letter_under 2 ∷ letter_under 4 ∷ []
  two-arrive = refl

  -- a removal takes its letter alone, also when the home is another by then
  pub one-is_left : letters_after (came_down ++ Removed 13 2 ∷ []) ≡ letter_under 4 ∷ []
  one-is_left = refl
