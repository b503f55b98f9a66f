-- What a caller may see of a centre: his account, if the centre is its home, the pages that are open to him, and his oldest letter.
use Rattle.std.specs.Prelude.{ℕ, ◌==◌, List, Option, Some, None, option_copied, slice_get, if◌then◌else◌}
use Rattle.pv_fields.specs.Reading.{◌>>=◌}
use Rattle.pv_page.specs.Names.{Name}
use Rattle.pv_frame.specs.Content.{Content}
use Rattle.pv_account.specs.Profile.{Profile}
use Rattle.pv_post.specs.Boxes.{WaitingLetter, letters_of}
use Rattle.pv_edits.specs.declared.record.Record.{Record}
use Rattle.pv_edits.specs.declared.sight.Sight.{Sight}
use Rattle.pv_edits.specs.Edits.{account_at}
use Rattle.pv_edits.specs.OpenPages.{open_frame_at, open_pages}

-- what a caller sees: his account, the frame of each name that he may have, and the letter that has waited longest
pub record View : Type 0 where
  pub account : Option Profile
  pub pages : Name → Option Content
  pub letter : Option WaitingLetter

-- the account, if its home is the centre
abbrev pub if_at_home : ℕ → Profile → Option Profile
if_at_home centre account = if account.home == centre then Some account else None

-- the account of a number, if its home is the centre
abbrev pub account_at_home : List Record → ℕ → ℕ → Option Profile
account_at_home records centre number = account_at records number >>= if_at_home centre

-- the account of a caller who gave this number, or none, if its home is the centre
abbrev pub caller_account : List Record → ℕ → Option ℕ → Option Profile
caller_account records centre caller = caller >>= account_at_home records centre

-- the letter that has waited longest
abbrev pub oldest_letter : List WaitingLetter → Option WaitingLetter
oldest_letter letters = slice_get letters 0

-- What a centre, where these letters wait for each account, shows to a caller who gave this number, or none: without an account at
-- home he has no page and no letter.
abbrev pub sight_of : List Record → (ℕ → List WaitingLetter) → ℕ → Option ℕ → View
sight_of records letters centre caller = record {
  account = caller_account records centre caller;
  pages = λ name. caller >>= λ number. account_at_home records centre number >>= λ account. open_pages records number name;
  letter = caller >>= λ number. account_at_home records centre number >>= λ account. oldest_letter (letters number);
}

-- what a sight shows
abbrev pub view_of : Sight → View
view_of sight = record {
  account = option_copied sight.account;
  pages = λ name. option_copied sight.account >>= λ account. open_frame_at sight.base.now.records account.groups name;
  letter = option_copied sight.account >>= λ account. oldest_letter (letters_of sight.boxes.now account.number);
}
