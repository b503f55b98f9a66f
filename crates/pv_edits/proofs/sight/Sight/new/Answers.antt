use Rattle.std.proofs.Common.{ap, ◌∙◌}
use Rattle.pv_post.specs.Boxes.{letters_of}
use Rattle.pv_edits.proofs.Seeing.{view_by, view_by-account}
use Rattle.pv_edits.proofs.sight.Sight.new.Goals as goal

-- what the account sees is what the caller sees
pub returns : goal.returns
returns c =
    let records = c.args.base.now.records in
    let letters = letters_of c.args.boxes.now in
    ap (view_by records letters) c.account_at_home.ensures ∙ view_by-account records letters c.args.centre c.args.account
