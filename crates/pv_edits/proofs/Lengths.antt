-- How many bytes the spellings of records have at most.
use Rattle.std.proofs.Common.{◌≡◌, ℕ, suc, ◌≤◌, List, ◌∷◌, length, refl, arith}
use Rattle.std.specs.Prelude.{flat_map}
use Rattle.std.specs.Int.{w16, to_be_bytes}
use Rattle.std.specs.List.{All}
use Rattle.std.proofs.lemmas.List.{length-append}
use Rattle.std.proofs.lemmas.List.Concat.{length-flat_map}
use Rattle.std.proofs.lemmas.List.Sums.{sum_by-le}
use Rattle.pv_fields.proofs.CallerLemmas.{length-pieces}
use Rattle.pv_frame.proofs.Lengths.{length-spelling}
use Rattle.pv_account.specs.Groups.{groups_bytes}
use Rattle.pv_account.specs.Profile.{Profile, IsProfile, profile_bytes}
use Rattle.pv_charge.specs.Line.{charge_bytes}
use Rattle.pv_post.specs.Item.{AreFields, filled_bytes, fields_bytes, response_bytes, message_bytes}
use Rattle.pv_post.specs.Spelling.{IsItem, item_bytes}
use Rattle.pv_post.specs.declared.item.Item.{Item}
use Rattle.pv_post.specs.declared.item.Item.TheVariants.{Charge, Reply, Mail}
use Rattle.pv_edits.specs.Down.{IsDown, down_bytes}
use Rattle.pv_edits.specs.Taken.{taken_bytes}
use Rattle.pv_edits.specs.Record.{IsRecord, record_bytes, put_bytes, drop_bytes, account_edit_bytes, lease_bytes}
use Rattle.pv_edits.specs.declared.record.Record.{Record}
use Rattle.pv_edits.specs.declared.record.Record.TheVariants.{Put, Drop, Account, Lease, Taken}
use Rattle.pv_edits.specs.declared.down.DownRecord.{DownRecord}
use Rattle.pv_edits.specs.declared.down.DownRecord.TheVariants.{Whole, Blank}

-- an account
length-profile : (account : Profile) → IsProfile account → length (profile_bytes account) ≤ 106
unfolding profile_bytes groups_bytes
length-profile account is =
    let groups : length (groups_bytes account.groups) ≡ suc (length (flat_map (to_be_bytes w16) account.groups)) = refl in
    omega (
      arith,
      groups,
      length-append account.digest (account.home ∷ groups_bytes account.groups),
      is.digest.0,
      length-pieces 2 (to_be_bytes w16) (λ n. refl) account.groups,
      is.groups.fits,
    )

-- the fields of a reply
length-fields : (fields : List (List ℕ)) → AreFields fields → length (fields_bytes fields) ≤ 329
unfolding fields_bytes
length-fields fields is =
    let each : All (λ (text : List ℕ). length (filled_bytes text) ≤ 41) fields = λ i d within. omega (arith, (is.filled i d within).fits) in
    omega (arith, length-flat_map filled_bytes fields, sum_by-le (λ (text : List ℕ). length (filled_bytes text)) 41 fields each, is.fit)

-- an item
pub length-item : (item : Item) → IsItem item → length (item_bytes item) ≤ 350
unfolding item_bytes charge_bytes response_bytes message_bytes
length-item (Charge line) is = omega arith
length-item (Reply reply) is = omega (arith, length-fields reply.fields is.fields)
length-item (Mail mail) is = omega (arith, is.size)

-- a record: the longest is a Put of a frame with eight fields
pub length-record : (edit : Record) → IsRecord edit → length (record_bytes edit) ≤ 1000
unfolding record_bytes put_bytes drop_bytes account_edit_bytes lease_bytes taken_bytes
length-record (Put editor q name frame) is = omega (arith, length-spelling frame is.1.1.holds, is.1.1.holds.fields)
length-record (Drop editor q name) is = omega arith
length-record (Account editor q account) is = omega (arith, length-profile account is.1)
length-record (Lease editor q root account) is = omega arith
length-record (Taken taken) is = omega (arith, length-item taken.item is.item)

-- what came down
pub length-down : (down : DownRecord) → IsDown down → length (down_bytes down) ≤ 1000
unfolding down_bytes record_bytes
length-down (Whole edit) is = length-record edit is
length-down Blank is = omega arith
