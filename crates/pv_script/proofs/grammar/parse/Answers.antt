use Rattle.std.proofs.Common.{rules, ◌≡◌, ℕ, Bool, false, List, [], ◌∷◌, Option, Some, None, subst, ◌∙◌, inl, inr}
use Rattle.std.specs.Prelude.{IsTrue, ◌↔◌}
use Rattle.pv_script.specs.declared.grammar.Command.{Command}
use Rattle.pv_script.specs.declared.grammar.TheConstants.{COMMENT}
use Rattle.pv_script.specs.Grammar.{Asks, MayStand, ReadsLine}
use Rattle.pv_script.proofs.grammar.parse.Goals as goal

-- a line that is not empty and no comment reads as what its words ask for, if that may stand there
asked : (centres : ℕ) (first : Bool) (line : List ℕ) (found : Option Command) → (line ≡ [] → ⊥) → ((comment : List ℕ) → line ≡ COMMENT ∷ comment → ⊥)
    → ((command : Command) → Asks centres line command → found ≡ Some command) → (command : Command) → ReadsLine centres first line command
    → (found ≡ Some command) × MayStand first command
asked centres first line found some other only command (inl (inl empty, is)) = absurd (some empty)
asked centres first line found some other only command (inl (inr comment, is)) = absurd (other comment.0 comment.1)
asked centres first line found some other only command (inr asks) = (only command asks.0, asks.1)

-- what may not stand on a line is read by none
refused : (first test : Bool) (one other : Command) → (IsTrue test ↔ MayStand first one) → test ≡ false → Some one ≡ Some other → MayStand first other → ⊥
refused first test one other tests failed same stands = let is : other ≡ one = cc in
    let yes = tests.1 (subst (MayStand first) is stands) in absurd cc

pub returns-in_err-command-clause-only : goal.returns-in_err-command-clause-only
returns-in_err-command-clause-only c = λ command reads.
    let some : c.args.line.now ≡ [] → ⊥ = λ is. search rules in
    let other : (comment : List ℕ) → c.args.line.now ≡ COMMENT ∷ comment → ⊥ = λ comment is. search rules in
    c.from_residual.ensures ∙ (asked c.args.centres c.args.first c.args.line.now None some other c.in_err-command.ensures.only command reads).0

pub returns-then-may_stand-clause-only : goal.returns-then-may_stand-clause-only
returns-then-may_stand-clause-only c = λ command reads.
    let some : c.args.line.now ≡ [] → ⊥ = λ is. search rules in
    let other : (comment : List ℕ) → c.args.line.now ≡ COMMENT ∷ comment → ⊥ = λ comment is. search rules in
    (asked c.args.centres c.args.first c.args.line.now (Some c.in_ok-command.command) some other c.in_ok-command.ensures.only command reads).0

pub returns-else-may_stand-clause-only : goal.returns-else-may_stand-clause-only
returns-else-may_stand-clause-only c = λ command reads.
    let some : c.args.line.now ≡ [] → ⊥ = λ is. search rules in
    let other : (comment : List ℕ) → c.args.line.now ≡ COMMENT ∷ comment → ⊥ = λ comment is. search rules in
    let is = asked c.args.centres c.args.first c.args.line.now (Some c.in_ok-command.command) some other c.in_ok-command.ensures.only command reads in
    absurd (refused c.args.first c.may_stand.result c.in_ok-command.command command c.may_stand.ensures c.if-may_stand.false is.0 is.1)
