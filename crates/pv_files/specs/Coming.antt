-- How the accepts of a listener end, one after another.
use Rattle.std.specs.Prelude.{◌≡◌, ℕ, ◌<◌, List, ◌∷◌, ◌++◌, length, All, Bool, true, false, IsTrue, Option, None, Some, Result, Ok, Err}
use Rattle.std.specs.IoError.{error_kind}
use Rattle.std.specs.Option.{option_map}
use Rattle.std.specs.declared.io.Error.{Error}
use Rattle.std.specs.declared.io.ErrorKind.{ErrorKind}
use Rattle.std.specs.declared.io.ErrorKind.TheVariants.{ConnectionAborted, Interrupted}
use Rattle.pv_outside.specs.declared.failed.TheConstants.{COUNT_END}

-- the peer gave up before he was let in, or the call was interrupted: neither is a fault
abbrev pub is_no_fault : ErrorKind → Bool
is_no_fault ConnectionAborted = true
is_no_fault Interrupted = true
is_no_fault _ = false

-- An accept ended with an error of this kind, or with a connection (none). After an error that is no fault it is made again.
abbrev pub is_passed_over : Option ErrorKind → Bool
is_passed_over None = false
is_passed_over (Some kind) = is_no_fault kind

-- how an accept ended
abbrev pub end_of : {T : Type 0} → Result T Error → Option ErrorKind
end_of (Ok connection) = None
end_of (Err error) = Some (error_kind error)

-- how an accept of a door ended, whose last error this is
abbrev pub end_at_door : {T F : Type 0} → Result T F → Option Error → Option ErrorKind
end_at_door (Ok line) last = None
end_at_door (Err failure) last = option_map error_kind last

-- of the ends that a listener reports the first has come
abbrev pub HasCome : Option (List (Option ErrorKind)) → Option (List (Option ErrorKind)) → Option ErrorKind → Type 0
HasCome before now end = (next : Option ErrorKind) (rest : List (Option ErrorKind)) → before ≡ Some (next ∷ rest)
    → (end ≡ next) × (now ≡ Some rest)

-- if some are passed over and then one is not, that one is the end of all of them
abbrev pub EndsAtNext : Option (List (Option ErrorKind)) → Option (List (Option ErrorKind)) → Option ErrorKind → Type 0
EndsAtNext before now end = (passed : List (Option ErrorKind)) (next : Option ErrorKind) (rest : List (Option ErrorKind))
    → before ≡ Some (passed ++ next ∷ rest) → All (λ end. IsTrue (is_passed_over end)) passed → is_passed_over next ≡ false → length passed < COUNT_END
    → (end ≡ next) × (now ≡ Some rest)
