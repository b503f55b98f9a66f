use Rattle.pv_network.specs.Editing.{step_of_line}
use Rattle.pv_network.proofs.Performing.{does_step}
use Rattle.pv_network.proofs.network.Network.edit.Goals as goal

pub returns-in-Ask-clause-performs : goal.returns-in-Ask-clause-performs
returns-in-Ask-clause-performs c =
    let taken = c.in-Ask.ensures.performs in (
      taken.0,
      taken.1,
      λ w stands.
          let line = taken.2 w stands in
          does_step w c.args.port taken.0 c.ask.new.self c.ask.result _ line.1
          (c.ask.ensures.performs (step_of_line w c.args.port taken.0).0 line.0),
    )

pub returns-in-Responses-clause-performs : goal.returns-in-Responses-clause-performs
returns-in-Responses-clause-performs c =
    let taken = c.in-Responses.ensures.performs in (
      taken.0,
      taken.1,
      λ w stands.
          let line = taken.2 w stands in
          does_step w c.args.port taken.0 c.take_line.new.self c.responses.result _ line.1
          (c.responses.ensures c.args.port (step_of_line w c.args.port taken.0).0 line.0),
    )

pub returns-in-Close-clause-performs : goal.returns-in-Close-clause-performs
returns-in-Close-clause-performs c =
    let taken = c.in-Close.ensures.performs in (
      taken.0,
      taken.1,
      λ w stands.
          let line = taken.2 w stands in
          does_step w c.args.port taken.0 c.close.new.self c.close.result _ line.1
          (c.close.ensures.performs (step_of_line w c.args.port taken.0).0 line.0),
    )
