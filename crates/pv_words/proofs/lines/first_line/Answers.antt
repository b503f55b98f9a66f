use Rattle.std.proofs.Common.{◌≡◌, ℕ, ◌-◌, List, [], ◌∷◌, length, take, drop, ap, sym, ◌∙◌, refl, arith}
use Rattle.pv_words.specs.Lines.{lines_of}
use Rattle.pv_words.proofs.FirstLine.{line_first, line_last}
use Rattle.pv_words.proofs.lines.first_line.Goals as goal

-- the text is split at its first newline
pub returns-in-Some-clause-line : goal.returns-in-Some-clause-line
returns-in-Some-clause-line c =
    let cut = c.in-Some.ensures.found in
    ap lines_of cut.parts ∙ line_first c.in-Some.line.now c.in-Some.rest.now cut.before

-- it has no newline, and nothing follows it
pub returns-in-None-clause-line : goal.returns-in-None-clause-line
returns-in-None-clause-line c =
    let text = c.args.text.now in
    let nothing : take (length text - length text) (drop (length text) text) ≡ [] =
    let none : length text - length text ≡ 0 = omega arith in rw none refl in
    line_last text c.requires (c.in-None.ensures.missing refl) ∙ ap (λ (l : List ℕ). text ∷ lines_of l) (sym nothing)
