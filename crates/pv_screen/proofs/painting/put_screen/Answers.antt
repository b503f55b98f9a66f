use Rattle.std.proofs.{Common.{[], take, arith}, lemmas.List.{length-take-le, Elements.{All-take, All-get_or}}}
use Rattle.pv_screen.proofs.{Vocabulary.IsRow, Bytes.{length-lines-le, length-shown-le}}
use Rattle.pv_fields.proofs.CallerLemmas.{appends_then}
use Rattle.pv_screen.proofs.painting.put_screen.Goals as goal

pub put_shown-requires : goal.put_shown-requires
put_shown-requires c =
    let grid = c.args.grid.now in
    let is = c.lines.ensures.cells in
    let last = All-get_or IsRow grid 23 [] (omega (arith, is.height)) is.rows in
    let lines = length-lines-le (take 23 grid) (All-take IsRow 23 grid is.rows) in
    grind (arith, last, lines, length-shown-le, length-take-le 23 grid)

pub returns-clause-bytes : goal.returns-clause-bytes
returns-clause-bytes c =
    let all = appends_then c.put_u8.ensures.appends (appends_then c.put_lines.ensures c.put_shown.ensures) in
    grind (arith, all)
