use Rattle.std.proofs.Common.{ℕ, ◌+◌, ◌-◌, take, sym, ◌∙◌, ap, subst, arith}
use Rattle.std.proofs.lemmas.List.{length_push}
use Rattle.std.proofs.lemmas.List.Elements.{All-push}
use Rattle.pv_journal.specs.Batch.{HasPacked}
use Rattle.pv_journal.specs.Text.{IsBody}
use Rattle.pv_journal.proofs.Packed.{packed_more, length_more}
use Rattle.pv_journal.proofs.batch.Batch.push.Goals as goal

pub returns-clause-pushed : goal.returns-clause-pushed
returns-clause-pushed c = λ done bodies packed_now.
    let packed = subst (λ v. HasPacked v bodies) (sym c.self.view_is) packed_now in
    record {
      count = omega (arith, packed.count, length_push bodies c.args.body.now);
      size = omega (arith, packed.size, length_more bodies c.args.body.now);
      text =
          packed_more c.self.inside.bytes c.spell.new.into c.self.inside.size (4097 - (c.self.inside.size + 1)) bodies c.args.body.now
          (omega arith) packed.size packed.text (omega arith)
          (ap (λ (n : ℕ). take n c.spell.new.into) (sym c.spell.ensures.length) ∙ c.spell.ensures.bytes);
      sizes = All-push IsBody bodies c.args.body.now packed.sizes c.requires.size;
    }
