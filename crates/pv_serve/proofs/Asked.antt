-- Words ask for one server at most.
use Rattle.std.proofs.Common.{◌≡◌, ℕ, ◌+◌, ◌*◌, ◌^◌, ◌<◌, List, [], Option, codes, unwrap_or, sym, ◌∙◌, ap, ap₂, arith}
use Rattle.std.proofs.lemmas.Fmt.{decimal_injective}
use Rattle.pv_account.specs.declared.account.TheConstants.{MAX_CENTRES}
use Rattle.pv_serve.specs.Options.{GivesNumber, AskToServe}
use Rattle.pv_serve.specs.Serving.{ArePartsOf}
use Rattle.pv_serve.specs.Web.{AreClear}
use Rattle.pv_serve.specs.declared.options.TheConstants.{LAST_PORT, MAX_PORTS, MAX_EDITORS}
use Rattle.pv_serve.specs.declared.options.ServeOptions.{ServeOptions}

-- one number is given for a name
one_number : (given : List ℕ → Option (List ℕ)) (name : List ℕ) (last one other : ℕ) → last < 2 ^ 64 → GivesNumber given name last one
    → GivesNumber given name last other → one ≡ other
one_number given name last one other small is too =
    decimal_injective one other (omega (arith, small, is.few)) (omega (arith, small, too.few))
    (ap (λ (text : Option (List ℕ)). unwrap_or text []) (sym is.text ∙ too.text))

-- the parts of one server that the words ask for are those of each
pub parts_of_each : (words : List (List ℕ)) (one other : ServeOptions) (disks callers editors : ℕ) → AskToServe words one
    → AskToServe words other → ArePartsOf one disks callers editors → ArePartsOf other disks callers editors
parts_of_each words one other disks callers editors (begun, is) (begun', too) parts =
    let centres = one_number _ (codes "centres") MAX_CENTRES one.centres other.centres
    (omega arith) is.numbers.centres too.numbers.centres in
    let ports = one_number _ (codes "ports") MAX_PORTS one.ports other.ports (omega arith) is.numbers.ports too.numbers.ports in
    let stands = one_number _ (codes "editors") MAX_EDITORS one.editors other.editors
    (omega arith) is.numbers.editors too.numbers.editors in
    record {
      nodes = parts.nodes ∙ ap (λ (n : ℕ). n + 1) centres;
      callers_count = parts.callers_count ∙ ap₂ (λ (a b : ℕ). a * b) centres ports;
      editors_count = parts.editors_count ∙ stands;
    }

-- a port that is clear of one server that the words ask for is clear of each
pub clear_of_each : (words : List (List ℕ)) (one other : ServeOptions) (web : ℕ) → AskToServe words one → AskToServe words other
    → AreClear web one → AreClear web other
clear_of_each words one other web (begun, is) (begun', too) clear =
    let centres = one_number _ (codes "centres") MAX_CENTRES one.centres other.centres
    (omega arith) is.numbers.centres too.numbers.centres in
    let port = one_number _ (codes "port") LAST_PORT one.port other.port (omega arith) is.numbers.port too.numbers.port in
    let editor_port = one_number _ (codes "editor-port") LAST_PORT one.editor_port other.editor_port
    (omega arith) is.numbers.editor_port too.numbers.editor_port in
    record {
      some = clear.some;
      last = omega (arith, clear.last, centres);
      callers = grind (arith, clear.callers, centres, port);
      editors = grind (arith, clear.editors, centres, editor_port);
    }
