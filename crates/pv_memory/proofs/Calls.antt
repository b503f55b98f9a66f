-- Each call of a disk in memory that succeeds does what every call of a disk does.
use Rattle.std.proofs.Common.{◌≡◌, ℕ, ◌+◌, ◌≤◌, List, [], ◌∷◌, ◌++◌, length, true, Result, Ok, refl, sym, subst, arith, rules, length-append}
use Rattle.pv_outside.specs.declared.failed.Failed.{Failed}
use Rattle.pv_outside.specs.declared.failed.TheConstants.{COUNT_END}
use Rattle.pv_outside.specs.Disk.{budget_after_call, budget_after_sync}
use Rattle.pv_outside.specs.Calls.{WritesNothing, WritesAt}
use Rattle.pv_memory.specs.Medium.{Medium, MatchesSync, can_pass, disk_after_read, disk_after_sync, disk_after_write}
use Rattle.pv_memory.proofs.Moments.{elapses}
use Rattle.pv_memory.proofs.Writes.{torn_by}
use Rattle.pv_memory.specs.contracts.disk.MemDiskReports.TheImpl.{ghosts}

module _ {T : Type 0} (m new : Medium) (value : T) (can : can_pass m ≡ true) (ends : m.clock ≤ COUNT_END) where
  -- the answer of the call
  abbrev answer : Result T Failed
  answer = Ok value

  -- a call that reads the length or the bytes
  pub looks : new ≡ disk_after_read m → WritesNothing ghosts budget_after_call m new answer
  looks is = subst (λ (n : Medium). WritesNothing ghosts budget_after_call m n answer) (sym is) (record {
    call = record {
      clock = refl;
      time = elapses 0 m (disk_after_read m) refl refl ends;
      budget = search rules;
      passes = search rules;
      spent = search rules;
      counted = search rules;
      failed = search rules;
      steady = search rules;
    };
    reads = refl;
    images = λ image left. left;
  })

  -- a sync
  pub syncs : new ≡ disk_after_sync m → WritesNothing ghosts budget_after_sync m new answer
  syncs is = subst (λ (n : Medium). WritesNothing ghosts budget_after_sync m n answer) (sym is) (record {
    call = record {
      clock = refl;
      time = elapses 0 m (disk_after_sync m) refl refl ends;
      budget = search rules;
      passes = search rules;
      spent = search rules;
      counted = search rules;
      failed = search rules;
      steady = search rules;
    };
    reads = refl;
    images = search rules;
  })

  module _ (at : ℕ) (bytes : List ℕ) (within : at ≤ length m.text) (matches : MatchesSync m.text m.synced m.pending) where
    -- one write more is pending
    one_more : length (m.pending ++ record { at = at; size = length bytes } ∷ []) ≡ length m.pending + 1
    one_more = omega (arith, length-append m.pending (record { at = at; size = length bytes } ∷ []))

    -- a write
    pub writes : new ≡ disk_after_write at bytes m → WritesAt ghosts at bytes m new answer
    writes is = subst (λ (n : Medium). WritesAt ghosts at bytes m n answer) (sym is) (record {
      call = record {
        clock = refl;
        time = elapses (length bytes) m (disk_after_write at bytes m) refl refl ends;
        budget = search (rules, one_more);
        passes = search rules;
        spent = search rules;
        counted = search rules;
        failed = search rules;
        steady = search rules;
      };
      written = refl;
      torn = search rules;
      images = torn_by at bytes m.text m.synced m.pending matches within;
    })
