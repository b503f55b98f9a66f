-- The pages that are open to an account.
use Rattle.std.specs.Prelude.{ℕ, ◌==◌, ◌||◌, Bool, List, Option, Some, None, if◌then◌else◌}
use Rattle.std.specs.List.{list_any}
use Rattle.pv_fields.specs.Reading.{◌>>=◌}
use Rattle.pv_page.specs.Names.{Name}
use Rattle.pv_frame.specs.Content.{Content}
use Rattle.pv_edits.specs.declared.record.Record.{Record}
use Rattle.pv_edits.specs.Edits.{frame_at, account_at}

-- the frame is open to all, or to a group that is one of these
abbrev pub is_open_to : List ℕ → Content → Bool
is_open_to groups frame = frame.group == 0 || list_any (λ group. group == frame.group) groups

-- the frame of a name, if it is open to these groups
abbrev pub open_frame_at : List Record → List ℕ → Name → Option Content
open_frame_at records groups name = frame_at records name >>= λ frame. if is_open_to groups frame then Some frame else None

-- the frame of a name that is open to an account; there is none if there is no such account
abbrev pub open_pages : List Record → ℕ → Name → Option Content
open_pages records number name = account_at records number >>= λ account. open_frame_at records account.groups name
