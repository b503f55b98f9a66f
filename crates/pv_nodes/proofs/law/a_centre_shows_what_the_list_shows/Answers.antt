use Rattle.pv_nodes.proofs.Below.{frame_below, account_below, sight_below, letter_below, room_below}
use Rattle.pv_nodes.proofs.law.a_centre_shows_what_the_list_shows.Goals as goal

pub returns-clause-frame : goal.returns-clause-frame
returns-clause-frame c = frame_below

pub returns-clause-account : goal.returns-clause-account
returns-clause-account c = account_below

pub returns-clause-sight : goal.returns-clause-sight
returns-clause-sight c = sight_below

pub returns-clause-room : goal.returns-clause-room
returns-clause-room c = room_below

pub returns-clause-letter : goal.returns-clause-letter
returns-clause-letter c = letter_below
