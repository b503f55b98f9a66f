use Rattle.std.proofs.Common.{◌≡◌, Bool, false, sym, subst, ◌∙◌}
use Rattle.std.specs.Prelude.{MatchBool}
use Rattle.pv_words.specs.Parts.{Exactly}
use Rattle.pv_tape.specs.Lines.{is_comment, SaysLine}
use Rattle.pv_tape.specs.declared.line.TapeLine.{TapeLine}
use Rattle.pv_tape.specs.declared.line.TapeLine.TheVariants.{Comment}
use Rattle.pv_tape.proofs.line.tape_line_of.Goals as goal

-- it is no comment
pub returns : goal.returns
returns c =
    let no : is_comment c.args.text.now ≡ false = sym c.is_comment.ensures ∙ c.if-is_comment.false in
    subst (λ (b : Bool). Exactly (λ (line : TapeLine). MatchBool b (line ≡ Comment) (SaysLine c.args.text.now line)) c.said.result)
    (sym no) c.said.ensures
