-- The limits in figures, and three messages, computed from the definitions.
use Rattle.std.proofs.Common.{◌≡◌, ◌+◌, ◌*◌, ◌-◌, codes, refl}
use Rattle.std.specs.Prelude.{◌^◌}
use Rattle.std.specs.Fmt.{digits}
use Rattle.pv_outside.specs.declared.clock.TheConstants.{CLOCK_END}
use Rattle.pv_outside.specs.declared.link.TheConstants.{MAX_PACKET}
use Rattle.pv_outside.specs.declared.disk.TheConstants.{KEPT_CALLS, KEPT_BYTES, MAX_UNSYNCED}
use Rattle.pv_outside.specs.declared.failed.TheConstants.{COUNT_END}
use Rattle.pv_outside.specs.declared.limits.TheConstants.{MAX_FRAMES, MAX_RECORDS}
use Rattle.pv_outside.specs.declared.status.Status.TheVariants.{BadLine, Memory, ReadFault}
use Rattle.pv_outside.specs.Status.{words_of}

-- a node may hold 20,000 frames
pub most_frames : MAX_FRAMES ≡ 20000
most_frames = refl

-- and 50,000 records
pub most_records : MAX_RECORDS ≡ 50000
most_records = refl

-- a disk that reports its images knows those of eight calls back
pub calls_kept : KEPT_CALLS ≡ 8
calls_kept = refl

-- and those from before a write of 4,096 bytes
pub bytes_kept : KEPT_BYTES ≡ 4096
bytes_kept = refl

-- a disk that reports its budget takes eight writes between two syncs
pub most_unsynced : MAX_UNSYNCED ≡ 8
most_unsynced = refl

-- counts and clocks end where 64 bits do
pub last_count : COUNT_END ≡ 2 ^ 64 - 1
last_count = refl

-- a clock shows no moment after the last second of 2099: with 1970 these are 130 years, of which 32 are leap years
pub last_second : CLOCK_END ≡ (130 * 365 + 32) * 86400 - 1
last_second = refl

-- a packet has at most 2,048 bytes
pub longest_packet : MAX_PACKET ≡ 2048
longest_packet = refl

-- the message of a bad line has its number
pub line_two : words_of (BadLine 2) ≡ codes "line 2: not a valid command"
unfolding digits
line_two = refl

-- that of an input that could not be read
pub unread : words_of ReadFault ≡ codes "the input could not be read"
unread = refl

-- that of an allocation that failed
pub memory : words_of Memory ≡ codes "out of memory"
memory = refl
