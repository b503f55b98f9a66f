use Rattle.std.proofs.Common.{◌≡◌, ◌+◌, ◌<◌, [], ◌∷◌, ◌++◌, take, arith, sym, ap, ◌∙◌}
use Rattle.std.proofs.lemmas.List.{take_more}
use Rattle.std.proofs.lemmas.List.Elements.{All-push}
use Rattle.pv_fields.proofs.CallerLemmas.{IsPadded-set, take-set}
use Rattle.pv_post.specs.Item.{IsFilled}
use Rattle.pv_post.specs.declared.fields.TheConstants.{MAX_FIELDS}
use Rattle.pv_post.proofs.fields.places_of.Goals as goal

-- one field more is copied
pub loop-i-preserved : goal.loop-i-preserved
loop-i-preserved c =
    let i = c.loop-i.i in
    let list = c.args.list.now in
    let filled = c.index-list-i.result in
    let padded = c.loop-i.invariant.padded in
    let room : i < MAX_FIELDS = omega (arith, c.requires, c.loop-i-test.true) in
    let more : take (i + 1) list ≡ take i list ++ filled ∷ [] =
    take_more list i filled c.loop-i-test.true ∙ ap (λ x. take i list ++ x ∷ []) (sym c.index-list-i.is) in
    rw c.copy.ensures.same (record {
      padded = IsPadded-set [] MAX_FIELDS i c.loop-i.places padded filled room;
      same = take-set [] MAX_FIELDS i c.loop-i.places padded filled room ∙ ap (λ xs. xs ++ filled ∷ []) c.loop-i.invariant.same ∙ sym more;
      filled = rw more (All-push IsFilled (take i list) filled c.loop-i.invariant.filled c.copy.ensures.filled);
    })
