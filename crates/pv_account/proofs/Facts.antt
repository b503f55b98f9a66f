-- Worked examples, computed from the definitions: each constant at the last value that fits, and the next.
use Rattle.std.proofs.Common.{◌≡◌, true, false, ◌∷◌, [], ◌++◌, replicate, refl}
use Rattle.std.specs.Fmt.{digits}
use Rattle.std.specs.Prelude.{codes, Some}
use Rattle.sha2.specs.Sha256.{sha256}
use Rattle.pv_fields.specs.Reading.{times}
use Rattle.pv_account.specs.Groups.{rises, occurrences, groups_bytes, groups_at}
use Rattle.pv_account.specs.Profile.{Profile, digest_of, profile_bytes}
use Rattle.pv_account.specs.declared.groups.TheConstants.{ACCOUNT_GROUPS}
use Rattle.pv_account.specs.declared.account.TheConstants.{LAST_CENTRE, MAX_CENTRES}
use Rattle.pv_account.specs.declared.password.TheConstants.{DIGEST_BYTES, PASSWORD_BYTES}

-- an account is in at most 32 groups, its centre is one of four, a password has four bytes and a digest 32
pub groups-of_an_account : ACCOUNT_GROUPS ≡ 32
groups-of_an_account = refl

pub last-centre : LAST_CENTRE ≡ 3
last-centre = refl

pub most-centres : MAX_CENTRES ≡ 4
most-centres = refl

pub bytes-of_a_password : PASSWORD_BYTES ≡ 4
bytes-of_a_password = refl

pub bytes-of_a_digest : DIGEST_BYTES ≡ 32
bytes-of_a_digest = refl

-- groups rise from 1
pub rising : rises 0 (1 ∷ 7 ∷ 65535 ∷ []) ≡ true
rising = refl

pub zero-is_no_group : rises 0 (0 ∷ 7 ∷ []) ≡ false
zero-is_no_group = refl

pub equal-groups_do_not_rise : rises 0 (7 ∷ 7 ∷ []) ≡ false
equal-groups_do_not_rise = refl

pub falling-groups_do_not_rise : rises 0 (300 ∷ 7 ∷ []) ≡ false
falling-groups_do_not_rise = refl

-- a number is counted as often as it is in a list
pub twice : occurrences 7 (7 ∷ 300 ∷ 7 ∷ []) ≡ 2
twice = refl

-- two groups are spelled by their count and two bytes each
pub spelling-of_two_groups : groups_bytes (7 ∷ 300 ∷ []) ≡ 2 ∷ 0 ∷ 7 ∷ 1 ∷ 44 ∷ []
unfolding groups_bytes
spelling-of_two_groups = refl

-- and read back, with the bytes after them
pub two-groups_are_read : groups_at 32 (2 ∷ 0 ∷ 7 ∷ 1 ∷ 44 ∷ 9 ∷ []) ≡ Some (7 ∷ 300 ∷ [], 9 ∷ [])
unfolding groups_at times
two-groups_are_read = refl

-- a digest is that of the ten digits and then the password
pub digest-of_ten_digits : digest_of 12 (codes "ABCD") ≡ sha256 (codes "0000000012ABCD")
unfolding digest_of digits
digest-of_ten_digits = refl

abbrev pub some_account : Profile
some_account = record { number = 9999999999; digest = replicate 32 170; home = 3; groups = 300 ∷ [] }

-- an account each part of which differs from its neighbours
pub spelling-of_an_account : profile_bytes some_account
    ≡ (0 ∷ 0 ∷ 0 ∷ 2 ∷ 84 ∷ 11 ∷ 227 ∷ 255 ∷ []) ++ replicate 32 170 ++ (3 ∷ 1 ∷ 1 ∷ 44 ∷ [])
unfolding profile_bytes groups_bytes
spelling-of_an_account = refl
