-- What a proof in a crate above may cite: groups and accounts are read as they are spelled.
use Rattle.std.proofs.Common.{ℕ, ◌<◌, refl, lit<, arith}
use Rattle.pv_fields.specs.Reading.{Reads}
use Rattle.pv_fields.proofs.Readings.{Reads-byte, Reads-two, Reads-run, Reads-list, Reads-passing, Reads-within, ◌&◌, Reads-map}
use Rattle.pv_page.proofs.Spellings.{Reads-account}
use Rattle.pv_account.specs.Groups.{AreGroups, rises, groups_bytes, groups_at}
use Rattle.pv_account.specs.Profile.{IsProfile, profile_bytes, profile_at}
use Rattle.pv_account.specs.declared.account.TheConstants.{LAST_CENTRE}
use Rattle.pv_account.specs.declared.groups.TheConstants.{ACCOUNT_GROUPS}
use Rattle.pv_account.specs.declared.password.TheConstants.{DIGEST_BYTES}

-- at most n groups
pub Reads-groups : (n : ℕ) → n < 256 → Reads (AreGroups n) groups_bytes (groups_at n)
unfolding groups_at groups_bytes
Reads-groups n small =
    let reads = Reads-passing (rises 0) (Reads-list 0 n small Reads-two) in
    record {
      found = λ bytes groups rest fits e. let f = reads.found bytes groups rest fits e in
          (record { numbers = f.0.0.0; fits = f.0.0.1.1; rises = f.0.1 }, f.1);
      again = λ groups rest ends has. reads.again groups rest ends ((has.numbers, (omega arith, has.fits)), has.rises);
    }

-- an account
pub Reads-profile : Reads IsProfile profile_bytes profile_at
unfolding profile_at profile_bytes
Reads-profile =
    Reads-map _
    (Reads-account & Reads-run DIGEST_BYTES & Reads-within 0 LAST_CENTRE (lit< tt) Reads-byte & Reads-groups ACCOUNT_GROUPS (lit< tt))
    (record {
      has = λ x h. record { number = h.0; digest = h.1.0; home = h.1.1.0.1; groups = h.1.1.1 };
      spell = λ x. refl;
      part = λ p h.
          ((p.number, (p.digest, (p.home, p.groups))), (h.number, (h.digest, ((omega arith, h.home), h.groups))), refl);
    })
