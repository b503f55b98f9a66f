use Rattle.std.proofs.Common.{◌≡◌, ℕ, List, ap, ◌∙◌}
use Rattle.pv_post.specs.Boxes.{WaitingLetter, letters_of}
use Rattle.pv_post.specs.Waiting.{waiting_letters}
use Rattle.pv_edits.specs.Sight.{sight_of}
use Rattle.pv_irc.specs.History.{letter_of_place}
use Rattle.pv_irc.proofs.state.IrcState.sight.Goals as goal

-- the boxes hold the letters that wait
pub returns : goal.returns
returns c =
    let inside = c.self.inside in
    let waiting : ℕ → List WaitingLetter =
    λ account. waiting_letters (letter_of_place inside.centre account inside.base.records inside.base.places) inside.removals.items account
    inside.applied in
    let same : letters_of inside.boxes ≡ waiting = λ i account. c.self.invariant.letters.letters account i in
    rw (← c.self.view_is) (
    c.new.ensures ∙ ap (λ (letters : ℕ → List WaitingLetter). sight_of inside.base.records letters inside.centre c.args.account) same)
