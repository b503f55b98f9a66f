-- What is being read: the mode, and the keys so far.
use Rattle.std.specs.Prelude.{ℕ, List, []}
use Rattle.pv_keys.specs.Reader.{keys_since}
use Rattle.pv_session.specs.declared.reading.Reading.{Reading}
use Rattle.pv_session.specs.declared.reading.Reading.TheVariants.{Account, Password, Browse, Fill, Question, Letter}
use Rattle.pv_session.specs.Entries.{Mode, AccountMode, PasswordMode, BrowseMode, FillMode, QuestionMode, LetterMode}

-- the mode
abbrev pub mode_of : Reading → Mode
mode_of (Account digits) = AccountMode
mode_of (Password characters) = PasswordMode
mode_of (Browse keys) = BrowseMode
mode_of (Fill reading) = FillMode reading.field reading.full
mode_of Question = QuestionMode
mode_of (Letter number) = LetterMode number

-- the keys since the last entry
abbrev pub keys_so_far : Reading → List ℕ
keys_so_far (Account digits) = digits
keys_so_far (Password characters) = characters
keys_so_far (Browse keys) = keys_since keys
keys_so_far (Fill reading) = reading.keyed
keys_so_far Question = []
keys_so_far (Letter number) = []
