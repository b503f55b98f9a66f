use Rattle.std.proofs.Common.{◌≡◌, ◌∙◌, ℕ, arith, rules, sym, subst}
use Rattle.std.proofs.lemmas.Fmt.{decimal_injective}
use Rattle.pv_serve.specs.Web.{AreClear}
use Rattle.pv_serve.proofs.Asked.{clear_of_each}
use Rattle.pv_serve.proofs.web.options_at.Goals as goal

-- a port that is not clear of the server is clear of none that the words ask for
pub returns-else-are_clear-clause-usage : goal.returns-else-are_clear-clause-usage
returns-else-are_clear-clause-usage c = λ is web other asks.
    let same : web ≡ c.in-Some.web_port =
    decimal_injective web c.in-Some.web_port (omega (arith, asks.clear.last)) (omega arith) (sym asks.port_is ∙ c.in-Some.ensures.found) in
    let of_server = clear_of_each _ other c.in_ok-server.server web asks.asked c.in_ok-server.ensures.ok asks.clear in
    let clear = subst (λ (port : ℕ). AreClear port c.in_ok-server.server) same of_server in
    search (rules, c.are_clear.ensures, clear)
