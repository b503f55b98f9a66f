use Rattle.std.proofs.Common.{◌++◌, length, drop, ap, ◌∙◌}
use Rattle.std.specs.Prelude.{flat_map}
use Rattle.std.specs.List.{list_all}
use Rattle.std.proofs.lemmas.List.{drop-replicate}
use Rattle.pv_fields.proofs.CallerLemmas.{slice_after}
use Rattle.pv_post.specs.Item.{is_text_cell}
use Rattle.pv_screen.specs.Composing.{at_left}
use Rattle.pv_session.proofs.LetterTexts.{shown_text}
use Rattle.pv_session.proofs.letters.put_text.Goals as goal

-- the rows, and spaces after them
pub returns-clause-value : goal.returns-clause-value
returns-clause-value c =
    let rows = flat_map (at_left 40) c.args.rows.now in
    let all = slice_after c.new-out.result c.put_rows.new.out rows c.new-out.ensures.empty c.put_rows.ensures in
    all.0 ∙ ap (λ rest. rows ++ drop (length rows) rest) (c.new-out.ensures.rest ∙ c.requires.blank)
    ∙ ap (λ rest. rows ++ rest) (drop-replicate (length rows) 240 32)

-- each of them may be shown
pub returns-clause-shown : goal.returns-clause-shown
returns-clause-shown c =
    ap (list_all is_text_cell) (returns-clause-value c) ∙ shown_text c.args.rows.now c.requires.filled
