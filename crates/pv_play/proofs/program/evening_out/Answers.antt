use Rattle.std.proofs.Common.{◌≡◌, false, Result, Ok, Err, sym, ◌∙◌}
use Rattle.std.specs.Prelude.{is_err, OnOk}
use Rattle.pv_script.specs.Evening.{summary_of}
use Rattle.pv_play.proofs.Flushing.{text_flushed, whole_is_prefix, not_summed}
use Rattle.pv_play.proofs.program.evening_out.Goals as goal

-- what holds after a success
after_success : {T E : Type 0} (r : Result T E) (P : Type 0) → OnOk r P → is_err r ≡ false → P
after_success (Ok done) P is passed = is
after_success (Err failed) P is passed = absurd cc

-- the summary was written, and could not be passed on
pub returns-then-is_err-clause-sums_up : goal.returns-then-is_err-clause-sums_up
returns-then-is_err-clause-sums_up g c = λ number asks.
    let plays = rw c.in-Done.is at c.evening-status.ensures.plays number asks in
    (plays.0, plays.1, whole_is_prefix _ _ _ (summary_of plays.0) plays.2 c.flush.ensures.kept)

-- it was passed on
pub returns-else-is_err-clause-sums_up : goal.returns-else-is_err-clause-sums_up
returns-else-is_err-clause-sums_up g c = λ number asks.
    let plays = rw c.in-Done.is at c.evening-status.ensures.plays number asks in
    let none = after_success c.flush.result _ c.flush.ensures.flushed (sym c.is_err.ensures.value ∙ c.if-is_err.false) in
    rw c.in-Done.is (plays.0, plays.1, (text_flushed _ _ _ _ (summary_of plays.0) plays.2 c.flush.ensures.kept none, none))

-- it was not written
pub returns-in_default : goal.returns-in_default
returns-in_default g c = record {
  sums_up = λ number asks.
      let plays = c.evening-status.ensures.plays number asks in
      not_summed g.W.Write.contents number _ c.args.out.now c.evening-status.new.out _ plays c.in_default.not-Done;
  usage = c.evening-status.ensures.usage;
  unwritten = c.evening-status.ensures.unwritten;
  write_fault = c.evening-status.ensures.write_fault;
  counted = c.evening-status.ensures.counted;
}
