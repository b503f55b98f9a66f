use Rattle.std.proofs.Common.{refl}
use Rattle.pv_words.proofs.Values.{made_one, made_none}
use Rattle.pv_script.proofs.grammar.asked_cut.Goals as goal

-- the three parts of a cut
pub returns-in-Some : goal.returns-in-Some
returns-in-Some c = made_one c.in-Some.ensures.found c.in-Some.ensures.only refl

-- there are none
pub returns-in-None : goal.returns-in-None
returns-in-None c = made_none c.in-None.ensures.only
