-- Worked examples, computed from the definitions: small edit lists, and the spellings of small records.
use Rattle.std.proofs.Common.{◌≡◌, ℕ, List, ◌∷◌, [], refl}
use Rattle.std.specs.Prelude.{Some, None}
use Rattle.pv_outside.specs.declared.clock.TheConstants.{CLOCK_END}
use Rattle.pv_page.specs.Names.{Name}
use Rattle.pv_charge.specs.declared.line.TheConstants.{LAST_MOMENT}
use Rattle.pv_frame.specs.Content.{Content, blank_frame}
use Rattle.pv_post.specs.Boxes.{WaitingLetter}
use Rattle.pv_edits.specs.Record.{record_bytes, drop_bytes, lease_bytes}
use Rattle.pv_edits.specs.Down.{down_bytes}
use Rattle.pv_edits.specs.Edits.{frame_at, account_at, last_of, operator_profile}
use Rattle.pv_edits.specs.OpenPages.{open_frame_at}
use Rattle.pv_edits.specs.Sight.{sight_of}
use Rattle.pv_edits.specs.Room.{frame_count, account_count, lease_count}
use Rattle.pv_edits.specs.declared.record.Record.TheVariants.{Put, Drop, Lease}
use Rattle.pv_edits.specs.declared.down.DownRecord.TheVariants.{Blank}
use Rattle.pv_edits.specs.declared.room.TheConstants.{MAX_ACCOUNTS, MAX_LEASES, OPERATOR}

-- the operator's account is 0
pub operator-is-nought : OPERATOR ≡ 0
operator-is-nought = refl

-- a thousand accounts, and a thousand leased roots
pub most-accounts : MAX_ACCOUNTS ≡ 1000
most-accounts = refl

pub most-leases : MAX_LEASES ≡ 1000
most-leases = refl

-- the clock shows every moment that a charge line or a letter may have, and no other
pub clock-ends-with-the-last-moment : CLOCK_END ≡ LAST_MOMENT
clock-ends-with-the-last-moment = refl

abbrev page_1a : Name
page_1a = record { page = 1; letter = 97 }

abbrev priced : ℕ → Content
priced price = record blank_frame { price = price; group = 7 }

-- the last Put of a name counts, and no Put before a Drop
pub last-put : frame_at (Put 0 1 page_1a (priced 5) ∷ Put 0 2 page_1a (priced 6) ∷ []) page_1a ≡ Some (priced 6)
last-put = refl

pub dropped : frame_at (Put 0 1 page_1a (priced 5) ∷ Drop 0 2 page_1a ∷ []) page_1a ≡ None
dropped = refl

-- a frame of group 7 is open to that group alone
pub open-to_its_group : open_frame_at (Put 0 1 page_1a (priced 5) ∷ []) (3 ∷ 7 ∷ []) page_1a ≡ Some (priced 5)
open-to_its_group = refl

pub closed-to_others : open_frame_at (Put 0 1 page_1a (priced 5) ∷ []) (3 ∷ []) page_1a ≡ None
closed-to_others = refl

-- at first there is the operator, and nobody else
pub operator-at_first : account_at [] 0 ≡ Some operator_profile
operator-at_first = refl

pub nobody-else : account_at [] 1 ≡ None
nobody-else = refl

-- an editor's last number comes with the place of his last record
pub last-number : last_of (Drop 5 1 page_1a ∷ Drop 5 2 page_1a ∷ Drop 6 1 page_1a ∷ []) (40 ∷ 41 ∷ 42 ∷ []) 5 ≡ Some (2, 41)
last-number = refl

-- a name that was dropped is no frame, and counts again when it is put
pub counts-of_frames : frame_count (Put 0 1 page_1a (priced 5) ∷ Put 0 2 page_1a (priced 6) ∷ Drop 0 3 page_1a ∷ []) ≡ 0
unfolding frame_count
counts-of_frames = refl

pub count-again : frame_count (Put 0 1 page_1a (priced 5) ∷ Drop 0 2 page_1a ∷ Put 0 3 page_1a (priced 6) ∷ []) ≡ 1
unfolding frame_count
count-again = refl

-- the operator is an account from the first
pub one-account : account_count [] ≡ 1
unfolding account_count
one-account = refl

-- a root that is leased twice is one root
pub one-root : lease_count (Lease 0 1 12 5 ∷ Lease 0 2 12 6 ∷ []) ≡ 1
unfolding lease_count
one-root = refl

-- the spelling of a lease, and of what is left out
pub spelling-of_a_lease : record_bytes (Lease 258 1 12 259)
    ≡ 4 ∷ 0 ∷ 0 ∷ 0 ∷ 0 ∷ 0 ∷ 0 ∷ 1 ∷ 2 ∷ 0 ∷ 0 ∷ 0 ∷ 1 ∷ 0 ∷ 0 ∷ 0 ∷ 12 ∷ 0 ∷ 0 ∷ 0 ∷ 0 ∷ 0 ∷ 0 ∷ 1 ∷ 3 ∷ []
unfolding record_bytes lease_bytes
spelling-of_a_lease = refl

pub spelling-of_a_drop : record_bytes (Drop 258 1 page_1a) ≡ 2 ∷ 0 ∷ 0 ∷ 0 ∷ 0 ∷ 0 ∷ 0 ∷ 1 ∷ 2 ∷ 0 ∷ 0 ∷ 0 ∷ 1 ∷ 0 ∷ 0 ∷ 0 ∷ 1 ∷ 97 ∷ []
unfolding record_bytes drop_bytes
spelling-of_a_drop = refl

pub spelling-of_blank : down_bytes Blank ≡ 6 ∷ []
unfolding down_bytes
spelling-of_blank = refl

-- two letters wait for each account
abbrev pub letter_under : ℕ → WaitingLetter
letter_under number = record { number = number; sender = 0; moment = 0; text = [] }

abbrev pub each_waits : ℕ → List WaitingLetter
each_waits account = letter_under 5 ∷ letter_under 9 ∷ []

-- the operator is at home at centre 0: there he sees his oldest letter, and at another centre none
pub letter-at_home : (sight_of [] each_waits 0 (Some 0)).letter ≡ Some (letter_under 5)
letter-at_home = refl

pub no_letter-elsewhere : (sight_of [] each_waits 1 (Some 0)).letter ≡ None
no_letter-elsewhere = refl

-- he sees what is open to all, and no frame of a group
pub seen-at_home : (sight_of (Put 0 1 page_1a blank_frame ∷ []) each_waits 0 (Some 0)).pages page_1a ≡ Some blank_frame
seen-at_home = refl

pub unseen-closed : (sight_of (Put 0 1 page_1a (priced 5) ∷ []) each_waits 0 (Some 0)).pages page_1a ≡ None
unseen-closed = refl

-- he sees none at another centre, and neither does a caller without an account
pub unseen-elsewhere : (sight_of (Put 0 1 page_1a blank_frame ∷ []) each_waits 1 (Some 0)).pages page_1a ≡ None
unseen-elsewhere = refl

pub unseen-by_nobody : (sight_of (Put 0 1 page_1a blank_frame ∷ []) each_waits 0 None).pages page_1a ≡ None
unseen-by_nobody = refl
