-- Worked examples of the images of a disk and of what a pipe holds, computed from the definitions.
use Rattle.std.proofs.Common.{◌≡◌, ℕ, List, [], ◌∷◌, ◌++◌, codes, refl}
use Rattle.pv_memory.specs.Medium.{image_bytes}
use Rattle.pv_memory.specs.declared.pipe.TheConstants.{PIPE_PACKETS}

-- a pipe holds 64 packets
pub packets_held : PIPE_PACKETS ≡ 64
packets_held = refl

-- the image of this number of a disk on which a byte 1 at place 8 was written over a 0
abbrev image : ℕ → List ℕ
image = image_bytes (codes "PVJOURN1" ++ 1 ∷ []) (codes "PVJOURN1" ++ 0 ∷ []) (record { at = 8; size = 1 } ∷ [])

-- image 0: the byte is not there yet
pub at_the_last_sync : image 0 ≡ codes "PVJOURN1" ++ 0 ∷ []
at_the_last_sync = refl

-- image 1: the byte is there
pub as_it_reads : image 1 ≡ codes "PVJOURN1" ++ 1 ∷ []
as_it_reads = refl

-- image 7 has 31 * 7 + 17 * 8 = 353 at place 8, which as a byte is 97
pub image_7 : image 7 ≡ codes "PVJOURN1" ++ 97 ∷ []
image_7 = refl

-- image 103 has 31 * 103 + 17 * 8 = 3,329 there, which is the byte 1 that was written
pub image_103 : image 103 ≡ codes "PVJOURN1" ++ 1 ∷ []
image_103 = refl
