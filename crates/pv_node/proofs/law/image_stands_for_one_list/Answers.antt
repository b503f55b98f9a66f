use Rattle.std.proofs.Common.{map}
use Rattle.pv_node.proofs.Records.{told_apart}
use Rattle.pv_node.proofs.law.image_stands_for_one_list.Goals as goal

pub returns : goal.returns
returns g c = λ image one other stands_one stands_other.
    let same = c.bytes_spell_one_list.ensures image (map g.R.Rules.spelling one) (map g.R.Rules.spelling other) stands_one.text stands_other.text in
    told_apart g.R.Rules.spelling g.R.Rules.is_record g.met.R.Rules.one_meaning one other stands_one.each stands_other.each same
