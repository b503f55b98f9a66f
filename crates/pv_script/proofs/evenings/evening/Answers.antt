use Rattle.std.proofs.Common.{◌≡◌, ℕ, Some, None, subst}
use Rattle.pv_outside.specs.declared.status.Status.TheVariants.{Done}
use Rattle.pv_script.specs.Ends.{run_status}
use Rattle.pv_script.specs.Evening.{IsEveningOf}
use Rattle.pv_script.proofs.evenings.evening.Goals as goal

-- the number that was found is the one that is asked for
same_number : (found number : ℕ) → Some found ≡ Some number → found ≡ number
same_number found number is = cc

pub returns-in-Ok-clause-plays : goal.returns-in-Ok-clause-plays
returns-in-Ok-clause-plays g c = λ number asks.
    let before = g.K.Sink.written c.args.out.now in
    let now = g.K.Sink.written c.play_evening.new.out in
    let same = same_number c.in-Some.number number (c.in-Some.ensures.only number asks) in
    subst (λ (n : ℕ). IsEveningOf n (Some c.in-Ok.network) before now Done) same c.in-Ok.ensures.ok

pub returns-in-Err-clause-plays : goal.returns-in-Err-clause-plays
returns-in-Err-clause-plays g c = λ number asks.
    let before = g.K.Sink.written c.args.out.now in
    let now = g.K.Sink.written c.play_evening.new.out in
    let same = same_number c.in-Some.number number (c.in-Some.ensures.only number asks) in
    let ended = c.ended-in-Err.ensures in
    let plays = subst (λ (n : ℕ). IsEveningOf n None before now (run_status c.in-Err.end)) same c.in-Err.ensures.err in
    rw (ended.network, ended.status, c.status.ensures) plays
