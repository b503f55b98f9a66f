-- What holds of every disk in memory.
use Rattle.std.specs.Prelude.{◌≡◌, ◌⊎◌, ℕ, ◌-◌, ◌≤◌, List, [], take, None}
use Rattle.std.proofs.Common.{inl, inr, subst, arith}
use Rattle.pv_outside.specs.declared.failed.TheConstants.{COUNT_END}
use Rattle.pv_memory.specs.Medium.{Medium, IsImage, LeftIn, moment_of, IsTooFarBack, LeftSince}

-- a new disk with this room, which has no bytes, and of which the calls of these numbers fail
abbrev pub new_disk : ℕ → List ℕ → Medium
new_disk room fails = record {
  text = [];
  synced = [];
  pending = [];
  past = [];
  room = room;
  left = None;
  clock = 0;
  plan = record { call = 0; failing = fails; faults = 0 };
}

-- what a crash may leave now it might have left since any earlier time
pub now_counts : (m : Medium) (t : ℕ) (image : List ℕ) → t ≤ m.clock → IsImage (moment_of m) image → LeftSince m t image
now_counts m t image le here = inr (inl here)

-- what a crash might have left since this time of the clock it may leave now, unless the clock is at its end
pub only_now : (m : Medium) (image : List ℕ) → LeftSince m m.clock image → IsImage (moment_of m) image ⊎ IsTooFarBack m m.clock
only_now m image (inl forgotten) = inr forgotten
only_now m image (inr (inl here)) = inl here
only_now m image (inr (inr before)) = absurd (subst (λ (n : ℕ). LeftIn (take n m.past) image) none before)
  where
    none : m.clock - m.clock ≡ 0
    none = omega arith

-- this moment is not forgotten, unless the clock is at its end
pub now_is_known : (m : Medium) → IsTooFarBack m m.clock → COUNT_END ≤ m.clock
now_is_known m (inl ended) = ended
now_is_known m (inr far) = absurd (omega (arith, far))
