use Rattle.std.proofs.Common.{rules, sym, ◌∙◌}
use Rattle.pv_post.proofs.mail.Mail.read.Goals as goal

pub invariant_of-result : goal.invariant_of-result
invariant_of-result c = record {
  sender = search rules;
  to = search rules;
  moment = search rules;
  size = search rules;
  text = sym c.are_text_cells.ensures ∙ c.if-not-are_text_cells.false;
}
