use Rattle.std.proofs.Common.{◌≡◌, ◌++◌, take}
use Rattle.pv_script.specs.Transcript.{charges_text}
use Rattle.pv_script.proofs.answer.push_charges.Given as goal

-- the text so far ends with the charge lines so far
abbrev pub invariant-loop-charge : goal.invariant-loop-charge
invariant-loop-charge l = l.text.items ≡ l.initial.text.items ++ charges_text (take l.charge-index l.charges)
