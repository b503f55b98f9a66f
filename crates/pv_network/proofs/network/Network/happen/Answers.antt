use Rattle.std.proofs.Common.{true, [], ◌∷◌, None}
use Rattle.pv_network.specs.Step.{Choice}
use Rattle.pv_network.proofs.network.Network.happen.Goals as goal

-- nothing is open in the other events
abbrev any : Choice
any = record { kept = true; said = None; keyed = [] }

-- event by event
pub returns-in-Seed-clause-performs : goal.returns-in-Seed-clause-performs
returns-in-Seed-clause-performs c = λ w stands.
    let done = c.seed.ensures.performs w stands in
    (any, rw c.in-Seed.is tt, rw c.in-Seed.is done.0, rw c.in-Seed.is done.1)

pub returns-in-Edit-clause-performs : goal.returns-in-Edit-clause-performs
returns-in-Edit-clause-performs c = λ w stands.
    let done = c.edit.ensures.performs.2 w stands in (
      record { kept = true; said = c.edit.ensures.performs.0; keyed = [] },
      rw (c.in-Edit.is, ← c.bytes.ensures) c.edit.ensures.performs.1,
      rw c.in-Edit.is done.0,
      rw c.in-Edit.is done.1,
    )

pub returns-in-Dial-clause-performs : goal.returns-in-Dial-clause-performs
returns-in-Dial-clause-performs c = λ w stands.
    let done = c.dial.ensures.performs w stands in
    (any, rw c.in-Dial.is tt, rw c.in-Dial.is done.0, rw c.in-Dial.is done.1)

pub returns-in-Press-clause-performs : goal.returns-in-Press-clause-performs
returns-in-Press-clause-performs c = λ w stands.
    let pressed = c.press.ensures.performs w stands in (
      record { kept = true; said = None; keyed = record { byte = c.in-Press.key; entry = pressed.0 } ∷ [] },
      rw c.in-Press.is pressed.1,
      rw c.in-Press.is pressed.2,
      rw c.in-Press.is pressed.3,
    )

pub returns-in-Store-clause-performs : goal.returns-in-Store-clause-performs
returns-in-Store-clause-performs c = λ w stands.
    let done = c.store.ensures.performs w stands in
    (any, rw c.in-Store.is tt, rw c.in-Store.is done.0, rw c.in-Store.is done.1)

pub returns-in-Show-clause-performs : goal.returns-in-Show-clause-performs
returns-in-Show-clause-performs c = λ w stands.
    let done = c.show.ensures.performs w stands in
    (any, rw c.in-Show.is tt, rw c.in-Show.is done.0, rw c.in-Show.is done.1)

pub returns-in-Hang-clause-performs : goal.returns-in-Hang-clause-performs
returns-in-Hang-clause-performs c = λ w stands.
    let done = c.hang.ensures.performs w stands in
    (any, rw c.in-Hang.is tt, rw c.in-Hang.is done.0, rw c.in-Hang.is done.1)

pub returns-in-Send-clause-performs : goal.returns-in-Send-clause-performs
returns-in-Send-clause-performs c = λ w stands.
    let done = c.send.ensures.performs w stands in
    (any, rw c.in-Send.is tt, rw c.in-Send.is done.0, rw c.in-Send.is done.1)

pub returns-in-Post-clause-performs : goal.returns-in-Post-clause-performs
returns-in-Post-clause-performs c = λ w stands.
    let done = c.send-in-Post.ensures.performs w stands in
    (any, rw c.in-Post.is tt, rw c.in-Post.is done.0, rw c.in-Post.is done.1)

pub returns-in-Deliver-clause-performs : goal.returns-in-Deliver-clause-performs
returns-in-Deliver-clause-performs c = λ w stands.
    let done = c.arrive.ensures.performs w stands in
    (any, rw c.in-Deliver.is tt, rw c.in-Deliver.is done.0, rw c.in-Deliver.is done.1)

pub returns-in-Back-clause-performs : goal.returns-in-Back-clause-performs
returns-in-Back-clause-performs c = λ w stands.
    let done = c.arrive-in-Back.ensures.performs w stands in
    (any, rw c.in-Back.is tt, rw c.in-Back.is done.0, rw c.in-Back.is done.1)

pub returns-in-Carry-clause-performs : goal.returns-in-Carry-clause-performs
returns-in-Carry-clause-performs c = λ w stands.
    let done = c.carry.ensures.performs w stands in
    (any, rw c.in-Carry.is tt, rw c.in-Carry.is done.0, rw c.in-Carry.is done.1)

pub returns-in-Clock-clause-performs : goal.returns-in-Clock-clause-performs
returns-in-Clock-clause-performs c = λ w stands.
    let done = c.clock.ensures.performs w stands in
    (any, rw c.in-Clock.is tt, rw c.in-Clock.is done.0, rw c.in-Clock.is done.1)

pub returns-in-View-clause-performs : goal.returns-in-View-clause-performs
returns-in-View-clause-performs c = λ w stands.
    let done = c.view.ensures w stands in
    (any, rw c.in-View.is tt, rw c.in-View.is done.0, rw c.in-View.is done.1)

pub returns-in-At-clause-performs : goal.returns-in-At-clause-performs
returns-in-At-clause-performs c = λ w stands.
    let done = c.at.ensures w stands in
    (any, rw c.in-At.is tt, rw c.in-At.is done.0, rw c.in-At.is done.1)

pub returns-in-List-clause-performs : goal.returns-in-List-clause-performs
returns-in-List-clause-performs c = λ w stands.
    let done = c.list.ensures w stands in
    (any, rw c.in-List.is tt, rw c.in-List.is done.0, rw c.in-List.is done.1)

-- the others take memory
pub returns-in-Keys-clause-performs : goal.returns-in-Keys-clause-performs
returns-in-Keys-clause-performs c =
    let frugal = rw c.in-Keys.is at c.requires.frugal in
    absurd cc

pub returns-in-Crash-clause-performs : goal.returns-in-Crash-clause-performs
returns-in-Crash-clause-performs c =
    let frugal = rw c.in-Crash.is at c.requires.frugal in
    absurd cc

pub returns-in-Cut-clause-performs : goal.returns-in-Cut-clause-performs
returns-in-Cut-clause-performs c =
    let frugal = rw c.in-Cut.is at c.requires.frugal in
    absurd cc

pub returns-in-Bill-clause-performs : goal.returns-in-Bill-clause-performs
returns-in-Bill-clause-performs c =
    let frugal = rw c.in-Bill.is at c.requires.frugal in
    absurd cc

pub returns-in-Lines-clause-performs : goal.returns-in-Lines-clause-performs
returns-in-Lines-clause-performs c =
    let frugal = rw c.in-Lines.is at c.requires.frugal in
    absurd cc
