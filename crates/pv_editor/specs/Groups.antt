-- The part of a line that is an account: its number, its password, its home centre and its groups.
use Rattle.std.specs.Prelude.{ℕ, ◌==◌, ◌^◌, ◌+◌, List, [], Option, unwrap_or}
use Rattle.std.specs.List.{AllZip, slice_split}
use Rattle.std.specs.List.Sorted.{IsPermutation}
use Rattle.pv_words.specs.Numbers.{IsBelow}
use Rattle.pv_words.specs.Parts.{AreThree, Gives}
use Rattle.pv_account.specs.Groups.{AreGroups}
use Rattle.pv_account.specs.Profile.{Profile, digest_of}
use Rattle.pv_account.specs.declared.account.TheConstants.{LAST_CENTRE}
use Rattle.pv_account.specs.declared.groups.TheConstants.{ACCOUNT_GROUPS}
use Rattle.pv_editor.specs.Parts.{IsAccountText, IsPasswordText, IsOrDash, IsWordAnd}

-- the byte between the groups of an account
abbrev pub comma : ℕ
comma = 44

-- the texts between the commas of a text
abbrev pub comma_parts : List ℕ → List (List ℕ)
comma_parts text = slice_split (λ byte. byte == comma) text

-- the text is numbers parted by commas
abbrev pub AreNumbers : List ℕ → List ℕ → Type 0
AreNumbers text numbers = AllZip (λ number part. IsBelow (2 ^ 16) number part) numbers (comma_parts text)

-- the text is numbers parted by commas, in any order, which are the groups of an account
pub record IsGroupsText (groups text : List ℕ) : Type 0 where
  pub numbers : List ℕ
  pub are : AreNumbers text numbers
  pub order : IsPermutation numbers groups
  pub allowed : AreGroups ACCOUNT_GROUPS groups

-- the parts of an account's text: its number, its password, its home centre, and its groups or none
abbrev pub AccountParts : Type 0
AccountParts = ℕ × (List ℕ × ℕ × Option (List ℕ))

-- the account of these parts
abbrev pub profile_of : AccountParts → Profile
profile_of parts = record {
  number = parts.0;
  digest = digest_of parts.0 parts.1.0;
  home = parts.1.1;
  groups = unwrap_or parts.1.2 [];
}

-- the text is these parts, with a dash for no groups
abbrev pub AreParts : List ℕ → AccountParts → Type 0
AreParts text parts =
    IsWordAnd IsAccountText (AreThree IsPasswordText (IsBelow (LAST_CENTRE + 1)) (IsOrDash IsGroupsText)) parts text

-- the text is an account
abbrev pub IsProfileText : Profile → List ℕ → Type 0
IsProfileText profile text = Gives AreParts profile_of text profile
