use Rattle.pv_irc.proofs.ByPlaces.{letters-by_places}
use Rattle.pv_irc.proofs.law.letters_wait_by_places.Goals as goal

pub returns : goal.returns
returns c = letters-by_places
