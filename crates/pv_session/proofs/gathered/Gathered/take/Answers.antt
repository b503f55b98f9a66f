use Rattle.std.proofs.Common.{◌≡◌, ℕ, ◌+◌, Bool, true, List, [], ◌∷◌, ◌++◌, length, take, Some, sym, ap, ◌∙◌, arith}
use Rattle.std.proofs.Math.ListN.{set}
use Rattle.std.proofs.Math.Seq.{take-length}
use Rattle.std.proofs.lemmas.List.{length-set}
use Rattle.pv_fields.proofs.CallerLemmas.{IsPadded-set, take-set}
use Rattle.pv_words.specs.Parts.{Exactly}
use Rattle.pv_session.specs.Entries.{key_if}
use Rattle.pv_session.specs.Gathering.{AreGathered}
use Rattle.pv_session.proofs.gathered.Gathered.take.Goals as goal

-- the last byte makes the bytes whole, and they are those that came
whole : (size count byte : ℕ) (bytes before : List ℕ) (counts : Bool) → AreGathered size count bytes → take count bytes ≡ before
    → counts ≡ true → count + 1 ≡ size
    → Exactly (λ all. (length all ≡ size) × (before ++ key_if counts byte ≡ all)) (Some (set bytes count byte))
whole size count byte bytes before counts are is_before counted full =
    let len : length (set bytes count byte) ≡ size = length-set bytes count byte ∙ are.padded.len in
    let all : before ++ key_if counts byte ≡ set bytes count byte =
    ap (λ b. before ++ key_if b byte) counted
    ∙ ap (λ items. items ++ byte ∷ []) (sym is_before)
    ∙ sym (take-set 0 size count bytes are.padded byte are.few)
    ∙ ap (λ n. take n (set bytes count byte)) (full ∙ sym len)
    ∙ take-length (set bytes count byte) in
    record { found = (len, all); only = λ other is. ap Some (sym all ∙ is.1) }

pub returns-then-count-clause-whole : goal.returns-then-count-clause-whole
returns-then-count-clause-whole g c =
    whole g.row.N c.self.inside.count c.args.byte c.self.inside.bytes c.args.self.now c.args.counts c.self.invariant c.self.view_is
    c.if-not-counts.false c.if-count.true

pub invariant_of-self-2 : goal.invariant_of-self-2
invariant_of-self-2 g c = record {
  padded = IsPadded-set 0 g.row.N c.self.inside.count c.self.inside.bytes c.self.invariant.padded c.args.byte c.self.invariant.few;
  few = omega (arith, c.self.invariant.few);
}
