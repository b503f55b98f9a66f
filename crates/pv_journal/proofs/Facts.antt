-- Worked examples of what stands on a disk, computed from the definitions.
use Rattle.std.proofs.Common.{◌≡◌, inl, [], ◌∷◌, ◌++◌, replicate, codes, refl}
use Rattle.pv_journal.specs.declared.block.TheConstants.{MAX_BODY, MAX_WRITE}
use Rattle.pv_journal.specs.declared.storing.TheConstants.{APPEND_CALLS, GATE_CALLS}
use Rattle.pv_journal.specs.Log.{longest}
use Rattle.pv_journal.specs.Text.{text_of, first_eight, bytes_after_gate, bytes_behind, HasBrokenBlock}

-- a body has at most 2,048 bytes
pub longest_body : MAX_BODY ≡ 2048
longest_body = refl

-- the blocks of a batch have at most 4,096 bytes
pub longest_batch : MAX_WRITE ≡ 4096
longest_batch = refl

-- an append makes four calls of the disk, two of them before its gate
pub calls_of_an_append : APPEND_CALLS ≡ 4
calls_of_an_append = refl

pub calls_before_a_gate : GATE_CALLS ≡ 2
calls_before_a_gate = refl

-- a journal of one body has at most nine bytes, and 2,051 for the body with its gate and length
pub longest-one : longest 1 ≡ 2060
longest-one = refl

-- a journal without bodies
pub no_bodies : text_of [] ++ 0 ∷ [] ≡ codes "PVJOURN1" ++ 0 ∷ []
no_bodies = refl

-- a journal with the one body AB: the mark, an open gate, the length 2, the body, and a closed gate
pub one_body : text_of (codes "AB" ∷ []) ++ 0 ∷ [] ≡ codes "PVJOURN1" ++ 1 ∷ 0 ∷ 2 ∷ 65 ∷ 66 ∷ 0 ∷ []
one_body = refl

-- what was written after the gate to append AB: its length, the body, and a closed gate
pub one_written : bytes_after_gate (codes "AB") ≡ 0 ∷ 2 ∷ 65 ∷ 66 ∷ 0 ∷ []
one_written = refl

-- what was written after the gate to append AB and C at once: the gate between them is open
pub two_written : bytes_behind (codes "AB" ∷ codes "C" ∷ []) ≡ 0 ∷ 2 ∷ 65 ∷ 66 ∷ 1 ∷ 0 ∷ 1 ∷ 67 ∷ 0 ∷ []
two_written = refl

-- the high byte of a length comes first
pub high_first : bytes_after_gate (replicate 258 7) ≡ 1 ∷ 2 ∷ replicate 258 7 ++ 0 ∷ []
high_first = refl

-- the first eight bytes of a disk that has fewer
pub filled_up : first_eight (codes "PVJOURN") ≡ codes "PVJOURN" ++ 0 ∷ []
filled_up = refl

-- an open gate with a body of no bytes is broken
pub broken_if_empty : HasBrokenBlock (1 ∷ 0 ∷ 0 ∷ [])
broken_if_empty = (refl, inl refl)
