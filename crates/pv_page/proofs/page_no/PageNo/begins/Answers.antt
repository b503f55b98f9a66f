use Rattle.std.proofs.{Common.{◌≡◌, Decides, drop, length, decimal, refl, rules, sym, subst}, lemmas.Bool.Decides.Decides-eqb}
use Rattle.std.proofs.lemmas.Slice.Eq.{starts_is}
use Rattle.pv_page.specs.Names.{Covers, covers}
use Rattle.pv_page.proofs.page_no.PageNo.begins.Goals as goal

-- the test compares the texts, and the rest of the page's text is what follows the root's
pub returns-clause-exact : goal.returns-clause-exact
returns-clause-exact c =
    let root = c.args.root in
    let page = c.args.self.now in
    let is : c.starts_with.result ≡ covers root page = search rules in
    let both = starts_is Decides-eqb (decimal page) (decimal root) (covers root page) refl in
    let decides : Decides (covers root page) (Covers root page) =
    ((λ yes. (drop (length (decimal root)) (decimal page), both.0 yes)), λ prefix. both.1 prefix.0 prefix.1) in
    subst (λ b. Decides b (Covers root page)) (sym is) decides
