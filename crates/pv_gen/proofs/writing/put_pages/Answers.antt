use Rattle.std.proofs.Common.{◌≡◌, ℕ, ◌+◌, ◌%◌, refl, sym, ap}
use Rattle.pv_gen.specs.Script.{page_lines, page_text}
use Rattle.pv_gen.specs.Sequence.{output_at}
use Rattle.pv_gen.specs.Writing.{lines_text}
use Rattle.pv_gen.specs.declared.writing.TheConstants.{PRICE_END}
use Rattle.pv_gen.proofs.Blocks.{later_blocks, blocks-more}
use Rattle.pv_gen.proofs.Steps.{state-next, output-next}
use Rattle.pv_gen.proofs.Writes.{wrote-none, wrote-more, fails-after}
use Rattle.pv_gen.proofs.writing.put_pages.Goals as goal

-- the text of a page whose price is of this output
priced : (number place : ℕ) {output : ℕ} → output ≡ output_at number place
    → page_text number place ≡ lines_text (page_lines place (output % PRICE_END))
priced number place is = ap (λ (o : ℕ). lines_text (page_lines place (o % PRICE_END))) (sym is)

pub loop-made-init : goal.loop-made-init
loop-made-init g c = record { written = wrote-none; state = refl }

-- the next page is written
pub loop-made-preserved : goal.loop-made-preserved
loop-made-preserved g c =
    let number = c.args.number in
    let made = c.loop-made.made in
    let output = output-next number made c.loop-made.invariant.state c.step-state.ensures c.output.ensures in
    record {
      written = wrote-more (blocks-more (page_text number) made (priced number (made + 1) output))
          c.loop-made.invariant.written c.in_ok-put_page.ensures;
      state = state-next number made c.loop-made.invariant.state c.step-state.ensures;
    }

-- the pages after the one that failed are not written
pub returns-in_err-put_page-clause-writes : goal.returns-in_err-put_page-clause-writes
returns-in_err-put_page-clause-writes g c =
    let number = c.args.number in
    let made = c.loop-made.made in
    let output = output-next number made c.loop-made.invariant.state c.step-state.ensures c.output.ensures in
    let later = later_blocks (page_text number) number made (priced number (made + 1) output) c.loop-made-test.true in
    fails-after c.from_residual.result later.0 c.from_residual.ensures.0 later.1 c.loop-made.invariant.written c.in_err-put_page.ensures
