-- Whether there is room for a record: the limits on frames, accounts and leased roots.
use Rattle.std.specs.Prelude.{ℕ, ◌+◌, ◌-◌, ◌&&◌, ◌||◌, nat_lt, Bool, true, List, [], ◌∷◌, reverse, is_some, if◌then◌else◌}
use Rattle.pv_outside.specs.declared.limits.Limits.{Limits}
use Rattle.pv_page.specs.Names.{Name}
use Rattle.pv_edits.specs.declared.record.Record.{Record}
use Rattle.pv_edits.specs.declared.record.Record.TheVariants.{Put, Drop, Account, Lease, Taken}
use Rattle.pv_edits.specs.declared.room.TheConstants.{MAX_ACCOUNTS, MAX_LEASES}
use Rattle.pv_edits.specs.Edits.{leases, last_index, frame_at, account_at}

-- how many names have a frame after one record more: a Put of a name that had none adds one, a Drop of one that had takes it away
abbrev pub frames_after : List Record → ℕ → Record → ℕ
frames_after before count (Put editor q name frame) = if is_some (frame_at before name) then count else count + 1
frames_after before count (Drop editor q name) = if is_some (frame_at before name) then count - 1 else count
frames_after before count (Account editor q account) = count
frames_after before count (Lease editor q root account) = count
frames_after before count (Taken taken) = count

-- how many accounts there are after one record more: a new one is added
abbrev pub accounts_after : List Record → ℕ → Record → ℕ
accounts_after before count (Put editor q name frame) = count
accounts_after before count (Drop editor q name) = count
accounts_after before count (Account editor q account) = if is_some (account_at before account.number) then count else count + 1
accounts_after before count (Lease editor q root account) = count
accounts_after before count (Taken taken) = count

-- how many roots are leased after one record more: a root that was not leased is added
abbrev pub leases_after : List Record → ℕ → Record → ℕ
leases_after before count (Put editor q name frame) = count
leases_after before count (Drop editor q name) = count
leases_after before count (Account editor q account) = count
leases_after before count (Lease editor q root account) = if is_some (last_index (leases root) before) then count else count + 1
leases_after before count (Taken taken) = count

-- a count over a list of records, the last one first, each of which counts on from those before it
abbrev pub count_from : ℕ → (List Record → ℕ → Record → ℕ) → List Record → ℕ
count_from start after [] = start
count_from start after (edit ∷ before) = after (reverse before) (count_from start after before) edit

-- how many names have a frame
unfoldable pub frame_count : List Record → ℕ
frame_count records = count_from 0 frames_after (reverse records)

-- how many accounts there are: at first the operator's alone
unfoldable pub account_count : List Record → ℕ
account_count records = count_from 1 accounts_after (reverse records)

-- how many roots are leased
unfoldable pub lease_count : List Record → ℕ
lease_count records = count_from 0 leases_after (reverse records)

-- the editor is an account
abbrev pub has_editor : List Record → ℕ → Bool
has_editor records editor = is_some (account_at records editor)

-- the name has a frame, or there may be one frame more
abbrev pub frame_fits : Limits → List Record → Name → Bool
frame_fits limits records name = is_some (frame_at records name) || nat_lt (frame_count records) limits.frames

-- there is the account, or there may be one more
abbrev pub account_fits : List Record → ℕ → Bool
account_fits records number = is_some (account_at records number) || nat_lt (account_count records) MAX_ACCOUNTS

-- the root is leased, or there may be one leased root more
abbrev pub lease_fits : List Record → ℕ → Bool
lease_fits records root = is_some (last_index (leases root) records) || nat_lt (lease_count records) MAX_LEASES

-- there is room for the record: its editor is an account, and what it adds is within the limits
abbrev pub has_room : Limits → List Record → Record → Bool
has_room limits records (Put editor q name frame) = has_editor records editor && frame_fits limits records name
has_room limits records (Drop editor q name) = has_editor records editor
has_room limits records (Account editor q account) = has_editor records editor && account_fits records account.number
has_room limits records (Lease editor q root account) = has_editor records editor && lease_fits records root
has_room limits records (Taken taken) = true
