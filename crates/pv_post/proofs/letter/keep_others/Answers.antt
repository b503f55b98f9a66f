use Rattle.std.proofs.Common.{rules, ◌<◌, length, sym, ap, ◌∙◌, arith}
use Rattle.std.proofs.lemmas.Bool.{eq-eqb, ne_eqb}
use Rattle.pv_post.proofs.Keeping.{kept_other, left_out, after_kept, after_skipped}
use Rattle.pv_post.proofs.letter.keep_others.Goals.{then-letter-number, else-letter-number}
use Rattle.pv_post.proofs.letter.keep_others.Goals as goal

-- the next letter is kept at the next place, or left out
pub loop-place-preserved : goal.loop-place-preserved
loop-place-preserved c =
    let reads = c.index-places-place.is in
    let was = c.loop-place.invariant in
    let here : c.loop-place.place < length c.loop-place.places = search rules in
    let number = ap (λ letter. letter.number) c.letter.view_is in
    elim c.if-letter-number.branch [
      | then-letter-number w ↦
          let other = ne_eqb _ c.args.number (λ same. w.if-letter-number.true (number ∙ same)) in
          rw (w.kept-is, w.places-is) (record {
            kept = kept_other _ _ _ _ _ was.kept was.within was.rest here was.len _ reads other;
            within = omega (arith, was.within);
            len = search rules;
            rest = after_kept _ _ _ _ _ was.kept was.within was.rest here was.len _ reads;
          })
      | else-letter-number w ↦
          let same = eq-eqb _ c.args.number (sym number ∙ w.if-letter-number.false) in
          rw (w.kept-is, w.places-is) (record {
            kept = left_out _ _ _ _ _ was.kept was.within was.rest here was.len _ reads same;
            within = omega (arith, was.within);
            len = was.len;
            rest = after_skipped _ _ _ _ _ was.kept was.within was.rest here was.len _ reads;
          })
    ]
