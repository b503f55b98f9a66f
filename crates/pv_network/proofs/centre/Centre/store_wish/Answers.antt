use Rattle.pv_network.proofs.AtPorts.{noted, turned_away}
use Rattle.pv_network.proofs.centre.Centre.store_wish.Goals as goal

-- the wish is stored, and the reply noted
pub returns-in-Ok : goal.returns-in-Ok
returns-in-Ok c =
    noted c.args.self.now _ c.args.port c.args.wish c.ask.result c.note.new.self c.note.result c.requires.owed
    (rw (c.request_of.ensures.request, ← c.self.view_is) at c.ask.ensures)
    c.in-Ok.reply c.paid_by.result c.in-Ok.is c.paid_by.ensures c.note.ensures.noted

-- the centre is full, and the caller is turned away
pub returns-in-Err : goal.returns-in-Err
returns-in-Err c =
    turned_away c.args.self.now _ c.args.port c.args.wish c.ask.result c.turn_away.new.self c.turn_away.result c.requires.owed
    (rw (c.request_of.ensures.request, ← c.self.view_is) at c.ask.ensures)
    c.in-Err.count c.in-Err.is c.turn_away.ensures.away
