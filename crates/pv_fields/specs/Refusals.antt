-- The first refusal that applies.
use Rattle.std.specs.Prelude.{◌≡◌, Bool, List, [], ◌∷◌, Option, Some, None, Result, Ok, Err, if◌then◌else◌}

-- the first value of a list of optional ones
abbrev pub first_of : {X : Type 0} → List (Option X) → Option X
first_of [] = None
first_of (None ∷ others) = first_of others
first_of (Some x ∷ others) = Some x

-- each of the optional values is missing
abbrev pub AreMissing : {X : Type 0} → List (Option X) → Type 0
AreMissing [] = Unit {0}
AreMissing (o ∷ others) = (o ≡ None) × AreMissing others

-- the value if the test holds
abbrev pub some_if : {X : Type 0} → Bool → X → Option X
some_if test x = if test then Some x else None

-- the value, unless there is a refusal
abbrev pub unless : {X E : Type 0} → Option E → X → Result X E
unless None x = Ok x
unless (Some e) x = Err e
