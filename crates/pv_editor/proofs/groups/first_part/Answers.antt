use Rattle.std.proofs.Common.{refl, ap, ◌∙◌}
use Rattle.pv_editor.specs.Groups.{comma_parts}
use Rattle.pv_editor.proofs.Parting.{parts_at, parts_none}
use Rattle.pv_editor.proofs.groups.first_part.Goals as goal

-- the text is parted at its first comma
pub returns-in-Some-clause-parts : goal.returns-in-Some-clause-parts
returns-in-Some-clause-parts c =
    let split = c.in-Some.ensures.found in
    ap comma_parts split.parts ∙ parts_at c.in-Some.part.now c.in-Some.later.now split.before

-- it has no comma
pub returns-in-None-clause-parts : goal.returns-in-None-clause-parts
returns-in-None-clause-parts c = parts_none c.args.text.now (c.in-None.ensures.missing refl)
