-- A caller fills in the fields of a frame, sends what he filled in or does not, and deletes a letter.
use Rattle.std.specs.Prelude.{ℕ, List, [], ◌∷◌, ◌++◌, length, take, Option, Some, None}
use Rattle.pv_fields.specs.Reading.{◌>>=◌}
use Rattle.pv_post.specs.declared.fields.TheConstants.{MAX_FIELDS}
use Rattle.pv_post.specs.declared.item.Item.{Item}
use Rattle.pv_session.specs.declared.message.Message.TheVariants.{KeyToSend, MessageNotSent, NoMessages}
use Rattle.pv_session.specs.declared.step.Phase.TheVariants.{Owing}
use Rattle.pv_session.specs.declared.step.Wish.TheVariants.{Post, Remove}
use Rattle.pv_session.specs.declared.step.Step.{Step}
use Rattle.pv_session.specs.declared.step.Step.TheVariants as steps
use Rattle.pv_session.specs.Entries.{Mode, BrowseMode, QuestionMode}
use Rattle.pv_session.specs.Fetching.{message_turn}
use Rattle.pv_session.specs.Letters.{item_of}
use Rattle.pv_session.specs.Shown.{field_mode}
use Rattle.pv_session.specs.State.{CallState}

-- the caller is asked for a command, and what he filled in is forgotten
abbrev pub browsing_call : CallState → CallState
browsing_call call = record call { mode = BrowseMode; keyed = []; filled = [] }

-- the next field is to be filled; after the last the caller is asked whether to send what he filled in
abbrev pub asking_turn : CallState → Option Mode → CallState × Step
asking_turn call (Some mode) = (record call { mode = mode; keyed = [] }, steps.Quiet)
asking_turn call None = message_turn (record call { mode = QuestionMode; keyed = [] }) KeyToSend

-- a field is filled; no frame has more than eight
abbrev pub field_turn : CallState → List ℕ → CallState × Step
field_turn call text =
    let filled = take MAX_FIELDS (call.filled ++ text ∷ []) in
    asking_turn (record call { filled = filled }) (call.present >>= λ shown. field_mode shown.frame (length filled))

-- what the caller filled in, as he sends it at a moment
abbrev pub item_to_send : CallState → ℕ → Option Item
item_to_send call moment =
    call.account >>= λ account. call.present >>= λ shown. item_of shown.frame.kind account shown.name moment call.filled

-- it is owed; nothing is sent if there is nothing to send
abbrev pub sending_turn : CallState → Option Item → CallState × Step
sending_turn call None = message_turn (browsing_call call) MessageNotSent
sending_turn call (Some item) = (record call { phase = Owing (Post item) }, steps.Owe (Post item))

-- what was filled in is not sent
abbrev pub keeping_turn : CallState → CallState × Step
keeping_turn call = message_turn (browsing_call call) MessageNotSent

-- a letter of the caller is to be removed; without an account he has none
abbrev pub removing_turn : CallState → ℕ → Option ℕ → CallState × Step
removing_turn call number None = message_turn (browsing_call call) NoMessages
removing_turn call number (Some account) =
    (record call { phase = Owing (Remove account number) }, steps.Owe (Remove account number))
