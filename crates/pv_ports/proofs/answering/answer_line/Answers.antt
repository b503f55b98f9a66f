use Rattle.pv_ports.proofs.answering.answer_line.Goals as goal

-- the state that was looked at, and what the seat made of the line there
pub returns-clause-turn : goal.returns-clause-turn
returns-clause-turn g c =
    let viewed = c.in_ok-show.ensures.viewed in record {
      state = viewed.0;
      stands = viewed.1;
      answers = viewed.2.0;
      looks = record { prefix = c.show.ensures.seen; same = c.in_ok-show.ensures.looks };
    }
