-- What a browser is answered.
use Rattle.std.specs.Prelude.{ℕ, List, []}
use Rattle.pv_web.specs.declared.asking.Asked.{Asked}
use Rattle.pv_web.specs.declared.asking.Asked.TheVariants as Asked
use Rattle.pv_web.specs.declared.page.TheConstants.{PAGE}
use Rattle.pv_web.specs.declared.reply.TheConstants.{NO_CALL, MISSING, FOREIGN}

-- the status of the answer
abbrev pub status_of : Asked → ℕ
status_of Asked.Page = 200
status_of (Asked.Call key) = 101
status_of Asked.NoCall = 426
status_of Asked.Missing = 404
status_of Asked.Foreign = 403

-- what is shown: the page goes to who asks for it, and to no other
abbrev pub shown_text : Asked → List ℕ
shown_text Asked.Page = PAGE.now
shown_text (Asked.Call key) = []
shown_text Asked.NoCall = NO_CALL.now
shown_text Asked.Missing = MISSING.now
shown_text Asked.Foreign = FOREIGN.now
