use Rattle.std.proofs.Common.{List, ℕ, [], ◌∷◌, rules}
use Rattle.pv_office.specs.Options.{AskForTape}
use Rattle.pv_office.proofs.tapes.folder_after.Goals as goal

-- the words are these
pub returns-then-eq-clause-none : goal.returns-then-eq-clause-none
returns-then-eq-clause-none c =
    let ask : AskForTape (c.args.command.now ∷ c.args.folder.now ∷ []) c.args.folder.now = search rules in
    (λ no. absurd cc, λ none. absurd (none c.args.folder.now ask))
