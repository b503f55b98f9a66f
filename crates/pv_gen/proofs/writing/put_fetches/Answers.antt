use Rattle.std.proofs.Common.{◌≡◌, ℕ, ◌+◌, ◌*◌, ◌<◌, ◌%◌, sym, ap, ◌∙◌, arith}
use Rattle.pv_gen.specs.Script.{fetch_line, fetch_text}
use Rattle.pv_gen.specs.Sequence.{state_at, output_at}
use Rattle.pv_gen.specs.Writing.{line_text}
use Rattle.pv_gen.specs.declared.writing.TheConstants.{FETCHES}
use Rattle.pv_gen.proofs.Blocks.{later_blocks, blocks-more}
use Rattle.pv_gen.proofs.Steps.{state-next, output-next}
use Rattle.pv_gen.proofs.Writes.{wrote-more, fails-after}
use Rattle.pv_gen.proofs.writing.put_fetches.Goals as goal

-- one fetch more is one step more
more : (number made : ℕ) → number + made + 1 ≡ number + (made + 1)
more number made = omega arith

-- the text of a fetch whose page is of this output
fetched : (number made : ℕ) {output : ℕ} → output ≡ output_at number (number + made + 1)
    → fetch_text number (made + 1) ≡ line_text (fetch_line (output % number + 1))
fetched number made is =
    ap (λ (o : ℕ). line_text (fetch_line (o % number + 1))) (ap (output_at number) (sym (more number made)) ∙ sym is)

-- the next fetch is written
pub loop-made-preserved : goal.loop-made-preserved
loop-made-preserved g c =
    let number = c.args.number in
    let made = c.loop-made.made in
    let output = output-next number (number + made) c.loop-made.invariant.state c.step-state.ensures c.output.ensures in
    record {
      written = wrote-more (blocks-more (fetch_text number) made (fetched number made output))
          c.loop-made.invariant.written c.in_ok-put_fetch.ensures;
      state = state-next number (number + made) c.loop-made.invariant.state c.step-state.ensures ∙ ap (state_at number) (more number made);
    }

-- the fetches after the one that failed are not written
pub returns-in_err-put_fetch : goal.returns-in_err-put_fetch
returns-in_err-put_fetch g c =
    let number = c.args.number in
    let made = c.loop-made.made in
    let output = output-next number (number + made) c.loop-made.invariant.state c.step-state.ensures c.output.ensures in
    let within : made < FETCHES * number = omega (arith, c.loop-made-test.true, c.loop-made.auto.made-end) in
    let later = later_blocks (fetch_text number) (FETCHES * number) made (fetched number made output) within in
    fails-after c.from_residual.result later.0 c.from_residual.ensures.0 later.1 c.loop-made.invariant.written c.in_err-put_fetch.ensures
