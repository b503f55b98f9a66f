use Rattle.std.proofs.Common.{◌≡◌, ℕ, List, length, take, drop, ◌++◌, sym, subst, arith, rules}
use Rattle.std.proofs.lemmas.List.{take_at}
use Rattle.pv_memory.specs.Medium.{IsImage}
use Rattle.pv_memory.proofs.ImageLemmas.{IsPainted, painted_is, painted_left, synced_left}
use Rattle.pv_memory.proofs.bytes.restore.Goals.{After-catch_up-in_default}
use Rattle.pv_memory.proofs.bytes.restore.Goals as goal

pub returns-in-0-clause-left : goal.returns-in-0-clause-left
returns-in-0-clause-left c = search (rules, synced_left)

-- the bytes after the pattern was put over the ranges
painted : (c : After-catch_up-in_default) → IsPainted c.args.text.now.items c.args.pending.now c.args.image c.paint_all.new.text
painted c = grind arith

-- are those of the disk
painted_text : (c : After-catch_up-in_default)
    → take c.args.text.now.len (c.paint_all.new.text ++ drop (length c.paint_all.new.text) c.args.text.now.items) ≡ c.paint_all.new.text
painted_text c = search (rules, take_at)

pub returns-in_default-clause-image : goal.returns-in_default-clause-image
returns-in_default-clause-image c = search (rules, painted_text, painted_is, painted)

pub returns-in_default-clause-left : goal.returns-in_default-clause-left
returns-in_default-clause-left c =
    subst (λ (l : List ℕ). IsImage (record { text = c.args.text.now.items; end = length c.args.synced.now.items; pending = c.args.pending.now }) l)
    (sym (painted_text (goal.at.returns-in_default-clause-left c).After-catch_up-in_default))
    (painted_left c.args.text.now.items c.args.synced.now.items c.args.pending.now c.requires.matches c.args.image c.paint_all.new.text (painted (goal.at.returns-in_default-clause-left c).After-catch_up-in_default))
