use Rattle.std.proofs.Common.{◌≡◌, List, ℕ, false, true, sym, subst}
use Rattle.pv_words.specs.Parts.{AreTwo}
use Rattle.pv_words.proofs.Values.{missing, beside}
use Rattle.pv_words.proofs.parts.three.Goals as goal

-- the tail is nothing
pub returns-in_err-word-clause-only : goal.returns-in_err-word-clause-only
returns-in_err-word-clause-only g c = λ parts are. let some : false ≡ true =
    c.in_err-word.ensures.some are.word are.later are.next in absurd cc

-- its word is no first part
pub returns-in_err-a-clause-only : goal.returns-in_err-a-clause-only
returns-in_err-a-clause-only g c = λ parts are.
    let same = c.in_ok-word.ensures.only are.word are.later are.next in
    absurd (missing _ (c.in_err-a.ensures.only parts.0
    (subst (λ (t : List ℕ). g.A.Reader.Writes c.args.first.now parts.0 t) (sym same.0) are.first)))

-- what is later it is no two others
pub returns-in_err-b-clause-only : goal.returns-in_err-b-clause-only
returns-in_err-b-clause-only g c = λ parts are.
    let same = c.in_ok-word.ensures.only are.word are.later are.next in
    absurd (missing _ (c.in_err-b.ensures.only (parts.1, parts.2)
    (subst (λ (t : List ℕ). AreTwo (g.B.Reader.Writes c.args.second.now) (g.C.Reader.Writes c.args.third.now) t (parts.1, parts.2))
    (sym same.1) are.others)))

pub returns-clause-found : goal.returns-clause-found
returns-clause-found g c =
    record { word = _; later = _; next = c.in_ok-word.ensures.found; first = c.in_ok-a.ensures.found; others = c.in_ok-b.ensures.found }

pub returns-clause-only : goal.returns-clause-only
returns-clause-only g c = λ parts are.
    let same = c.in_ok-word.ensures.only are.word are.later are.next in
    beside _ _ _ _ _ _ (c.in_ok-a.ensures.only parts.0
    (subst (λ (t : List ℕ). g.A.Reader.Writes c.args.first.now parts.0 t) (sym same.0) are.first))
    (c.in_ok-b.ensures.only (parts.1, parts.2)
    (subst (λ (t : List ℕ). AreTwo (g.B.Reader.Writes c.args.second.now) (g.C.Reader.Writes c.args.third.now) t (parts.1, parts.2))
    (sym same.1) are.others))
