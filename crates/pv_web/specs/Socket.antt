-- Messages of a web socket, as a browser's line reads them.
use Rattle.std.specs.Prelude.{◌≡◌, ℕ, zero, suc, List, Option, None, Some, Result, Ok, Err}
use Rattle.std.specs.IoError.{error_kind}
use Rattle.std.specs.declared.io.Error.{Error as IoError}
use Rattle.std.specs.declared.io.ErrorKind.{ErrorKind}
use Rattle.std.specs.declared.io.ErrorKind.TheVariants as Kind
use Rattle.websocket.specs.declared.error.ProtocolError.TheVariants.{ResetWithoutClosingHandshake}
use Rattle.tungstenite.specs.declared.error.Error.{Error}
use Rattle.tungstenite.specs.declared.error.Error.TheVariants.{ConnectionClosed, AlreadyClosed, Protocol, Io, OutOfMemory}
use Rattle.tungstenite.specs.declared.message.Message.{Message}
use Rattle.tungstenite.specs.declared.message.Message.TheVariants as Said
use Rattle.tungstenite.specs.Socket.{Socket, Reads}
use Rattle.pv_web.specs.declared.messages.Incoming.{Incoming}
use Rattle.pv_web.specs.declared.messages.Incoming.TheVariants.{Keys, Nothing, End}

-- what a message is to a line: a text is none
abbrev pub incoming_of : Message → Option Incoming
incoming_of (Said.Text words) = None
incoming_of (Said.Binary bytes) = Some (Keys bytes)
incoming_of (Said.Ping bytes) = Some Nothing
incoming_of (Said.Pong bytes) = Some Nothing
incoming_of (Said.Close reason) = Some End

-- the kind of fault that an error of a read is: none at the end, also at that of a browser that went away without a close
abbrev pub fault_in : Error → Option ErrorKind
fault_in ConnectionClosed = None
fault_in AlreadyClosed = None
fault_in (Protocol ResetWithoutClosingHandshake) = None
fault_in (Io cause) = Some (error_kind cause)
fault_in OutOfMemory = Some Kind.OutOfMemory
fault_in _ = Some Kind.InvalidData

-- what a read of the socket gave is this to a line: a message, the end, or a fault
abbrev pub IsAnswer : Result Message Error → Result Incoming IoError → Type 0
IsAnswer (Ok message) (Ok incoming) = incoming_of message ≡ Some incoming
IsAnswer (Ok message) (Err fault) = (incoming_of message ≡ None) × (error_kind fault ≡ Kind.InvalidData)
IsAnswer (Err error) (Ok incoming) = (fault_in error ≡ None) × (incoming ≡ End)
IsAnswer (Err error) (Err fault) = fault_in error ≡ Some (error_kind fault)

module _ {S : Type 0} (remaining : S → Option (List ℕ)) where
  -- the socket was read once
  abbrev pub ReadsOnce : Socket S → Socket S → Result Incoming IoError → Type 0
  ReadsOnce old new answer = (gave : Result Message Error) × Reads remaining old new gave × IsAnswer gave answer

  -- it was read so often, and each time the system interrupted the read
  abbrev pub Interruptions : ℕ → Socket S → Socket S → Type 0
  Interruptions zero old now = now ≡ old
  Interruptions (suc n) old now = (mid : Socket S) × (fault : IoError)
      × Interruptions n old mid × ReadsOnce mid now (Err fault) × (error_kind fault ≡ Kind.Interrupted)

  -- the first read that was not interrupted decides
  abbrev pub ReadsNext : Socket S → Socket S → Result Incoming IoError → Type 0
  ReadsNext old new answer = (n : ℕ) × (mid : Socket S) × Interruptions n old mid × ReadsOnce mid new answer
