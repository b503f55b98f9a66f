-- An account, the digest of its password, its spelling in bytes, and what is read as an account.
use Rattle.std.specs.Prelude.{◌≡◌, ℕ, ◌≤◌, List, ◌∷◌, ◌++◌, length}
use Rattle.sha2.specs.Sha256.{sha256}
use Rattle.pv_fields.specs.Reading.{Parser, IsBytes, byte_at, run_at, within, ◌⊗◌, map_at}
use Rattle.pv_page.specs.Names.{IsAccount, account_text}
use Rattle.pv_page.specs.Spelling.{account_bytes, account_number_at}
use Rattle.pv_account.specs.Groups.{AreGroups, groups_bytes, groups_at}
use Rattle.pv_account.specs.declared.account.TheConstants.{LAST_CENTRE}
use Rattle.pv_account.specs.declared.groups.TheConstants.{ACCOUNT_GROUPS}
use Rattle.pv_account.specs.declared.password.TheConstants.{DIGEST_BYTES}

-- the digest of an account's password: SHA-256 of the account's ten digits and then the password
unfoldable pub digest_of : ℕ → List ℕ → List ℕ
digest_of account password = sha256 (account_text account ++ password)

-- an account: its number, the digest of its password, its home centre, and its groups
pub record Profile : Type 0 where
  pub number : ℕ
  pub digest : List ℕ
  pub home : ℕ
  pub groups : List ℕ

-- each part is within its range
pub record IsProfile (account : Profile) : Type 0 where
  pub number : IsAccount account.number
  pub digest : (length account.digest ≡ DIGEST_BYTES) × IsBytes account.digest
  pub home : account.home ≤ LAST_CENTRE
  pub groups : AreGroups ACCOUNT_GROUPS account.groups

-- its spelling: part by part
unfoldable pub profile_bytes : Profile → List ℕ
profile_bytes account = account_bytes account.number ++ (account.digest ++ (account.home ∷ groups_bytes account.groups))

-- the account that bytes begin with
unfoldable pub profile_at : Parser Profile
profile_at =
    map_at (λ x. record { number = x.0; digest = x.1.0; home = x.1.1.0; groups = x.1.1.1 })
    (account_number_at ⊗ run_at DIGEST_BYTES ⊗ within 0 LAST_CENTRE byte_at ⊗ groups_at ACCOUNT_GROUPS)
