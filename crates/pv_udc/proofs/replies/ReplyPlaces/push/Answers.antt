use Rattle.std.proofs.Common.{rules, ℕ, List, ◌∷◌, [], ◌++◌, length, ap, sym, ◌∙◌, arith}
use Rattle.pv_udc.specs.Replies.{brings_reply, reply_places}
use Rattle.pv_udc.proofs.ReplyLists.{places_of-few, places_of-more, places_of-same}
use Rattle.pv_udc.proofs.replies.ReplyPlaces.push.Goals as goal

-- there are no more replies than records
pub push_reserved-requires : goal.push_reserved-requires
push_reserved-requires c =
    let grow = c.requires in
    omega (arith, grow.2.fit, grow.3, ap length grow.2.held, places_of-few brings_reply 0 grow.1)

pub returns-then-brings_reply : goal.returns-then-brings_reply
returns-then-brings_reply c = λ room records is place.
    let fit = is.fit in
    record {
      fit = search (rules, fit);
      held = c.push_reserved.ensures.items ∙ ap (λ (l : List ℕ). l ++ c.args.place ∷ []) is.held
          ∙ ap (λ (n : ℕ). reply_places records 0 ++ n ∷ []) place
          ∙ sym (places_of-more brings_reply records c.args.rec.now (sym c.brings_reply.ensures ∙ c.if-brings_reply.true));
    }

pub returns-else-brings_reply : goal.returns-else-brings_reply
returns-else-brings_reply c = λ room records is place. record {
  fit = is.fit;
  held = is.held ∙ sym (places_of-same brings_reply records c.args.rec.now (sym c.brings_reply.ensures ∙ c.if-brings_reply.false));
}
