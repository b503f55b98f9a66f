use Rattle.std.proofs.Common.{ap, ◌∙◌}
use Rattle.pv_frame.proofs.CallerLemmas.{HasRanges-valid}
use Rattle.pv_network.specs.Step.{view_answer}
use Rattle.pv_network.proofs.Performing.{frame_there}
use Rattle.pv_network.proofs.network.Network.view.Goals as goal

-- it is valid
pub compose-requires : goal.compose-requires
compose-requires c = HasRanges-valid c.in-Some.frame.now c.in-Some.ensures.valid

-- the centre has the frame
pub returns : goal.returns
returns c = λ w stands.
    let same = frame_there _ w (rw (← c.self.view_is) at stands) c.args.centre c.index.result.now
    (rw (← c.self.view_is) at c.requires) c.index.ensures c.a_centre_shows_what_the_list_shows.ensures.frame c.args.name in
    (stands, rw c.compose.ensures.value (ap (view_answer c.args.name) (c.in-Some.ensures.frame ∙ same)))

-- it has none of the name
pub returns-in_default : goal.returns-in_default
returns-in_default c = λ w stands.
    let same = frame_there _ w (rw (← c.self.view_is) at stands) c.args.centre c.index.result.now
    (rw (← c.self.view_is) at c.requires) c.index.ensures c.a_centre_shows_what_the_list_shows.ensures.frame c.args.name in
    (stands, ap (view_answer c.args.name) (c.in_default.ensures.frame ∙ same))
