use Rattle.std.proofs.Common.{Some, None, refl, subst, sym}
use Rattle.pv_words.specs.Parts.{Exactly}
use Rattle.pv_words.proofs.Values.{made_one, made_none}
use Rattle.pv_editor.specs.declared.line.EditLine.TheVariants as lines
use Rattle.pv_editor.specs.declared.word.Word.{Word}
use Rattle.pv_editor.specs.Lines.{IsLineAfter}
use Rattle.pv_editor.proofs.reading.line_after.Goals as goal

-- a change is said
pub returns-in-Some : goal.returns-in-Some
returns-in-Some c =
    subst (λ (word : Word). Exactly (IsLineAfter word c.args.tail.now) (Some (lines.Change c.in-Some.change))) (sym c.in-Change.is)
    (made_one c.in-Some.ensures.found c.in-Some.ensures.only refl)

-- none is
pub returns-in-None : goal.returns-in-None
returns-in-None c =
    subst (λ (word : Word). Exactly (IsLineAfter word c.args.tail.now) None) (sym c.in-Change.is)
    (made_none c.in-None.ensures.only)
