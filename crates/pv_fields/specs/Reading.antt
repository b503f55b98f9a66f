-- Parsers: the value that bytes begin with, and the rest of the bytes.
use Rattle.std.specs.Prelude.{◌≡◌, ℕ, zero, suc, ◌<◌, List, [], ◌∷◌, ◌++◌, length, take, drop, get_or, Option, Some, None, option_map, unwrap_or, Result, Ok, Err, Bool, nat_lt, nat_le, ◌&&◌, ◌==◌, if◌then◌else◌}
use Rattle.std.specs.Int.{Width, byte_len, from_be_bytes}

-- finds a value at the beginning of bytes, and the bytes after it; or no value
abbrev pub Parser : Type 0 → Type 0
Parser A = List ℕ → Option (A × List ℕ)

-- the next step, if there is a value
infixl 10 ◌>>=◌
abbrev pub ◌>>=◌ : {A B : Type 0} → Option A → (A → Option B) → Option B
(Some x) >>= f = f x
None >>= f = None

-- a call that reads gave the value that a parser finds, seen through view, and left the bytes after it; or it failed as the parser does
abbrev pub GivesFound : {X A E : Type 0} → (X → A) → Result X E → Option (A × List ℕ) → List ℕ → Type 0
GivesFound view (Ok x) found left = found ≡ Some (view x, left)
GivesFound view (Err e) found left = found ≡ None

-- the view of a value that is its own model
abbrev pub same : {A : Type 0} → A → A
same x = x

-- a byte
abbrev pub byte_at : Parser ℕ
byte_at [] = None
byte_at (b ∷ bytes) = Some (b, bytes)

-- a number of some width, the highest byte first
abbrev pub number_at : Width → Parser ℕ
number_at w bytes =
    if nat_lt (length bytes) (byte_len w) then None else Some (from_be_bytes w (take (byte_len w) bytes), drop (byte_len w) bytes)

-- n bytes
abbrev pub run_at : ℕ → Parser (List ℕ)
run_at n bytes = if nat_lt (length bytes) n then None else Some (take n bytes, drop n bytes)

-- no value at all
abbrev pub nothing_at : {A : Type 0} → Parser A
nothing_at bytes = None

-- a value that passes a test
abbrev pub passing : {A : Type 0} → (A → Bool) → Parser A → Parser A
passing test read bytes = read bytes >>= λ x. if test x.0 then Some x else None

-- a number from low to high
abbrev pub within : ℕ → ℕ → Parser ℕ → Parser ℕ
within low high read = passing (λ n. nat_le low n && nat_le n high) read

-- a number up to high
abbrev pub at_most : ℕ → Parser ℕ → Parser ℕ
at_most high read = passing (λ n. nat_le n high) read

-- one value and then another
infixr 5 ◌⊗◌
abbrev pub ◌⊗◌ : {A B : Type 0} → Parser A → Parser B → Parser (A × B)
(first ⊗ second) bytes = first bytes >>= λ a. second a.1 >>= λ b. Some ((a.0, b.0), b.1)

-- a value made of another
abbrev pub map_at : {A B : Type 0} → (A → B) → Parser A → Parser B
map_at make read bytes = read bytes >>= λ x. Some (make x.0, x.1)

-- a value, on which depends how the next is read
abbrev pub chain_at : {A B : Type 0} → Parser A → (A → Parser B) → Parser B
chain_at first next bytes = first bytes >>= λ x. next x.0 x.1

-- n values one after the other
unfoldable pub times : {A : Type 0} → Parser A → ℕ → Parser (List A)
times read zero bytes = Some ([], bytes)
times read (suc n) bytes = read bytes >>= λ x. times read n x.1 >>= λ xs. Some (x.0 ∷ xs.0, xs.1)

-- a count from low to high in one byte, and then that many values
abbrev pub list_at : {A : Type 0} → ℕ → ℕ → Parser A → Parser (List A)
list_at low high read = chain_at (within low high byte_at) (times read)

-- a length from low to high in one byte, and then that many bytes
abbrev pub text_at : ℕ → ℕ → Parser (List ℕ)
text_at low high = chain_at (within low high byte_at) run_at

-- the values that were read before, with those that are still to be read
abbrev pub with_prefix : {A : Type 0} → List A → Option (List A × List ℕ) → Option (List A × List ℕ)
with_prefix prefix read = read >>= λ x. Some (prefix ++ x.0, x.1)

-- as many values as there are one after the other, up to a count, and the rest of the bytes
abbrev pub many_at : {A : Type 0} → Parser A → ℕ → List ℕ → List A × List ℕ
many_at read zero bytes = ([], bytes)
many_at read (suc count) bytes =
    unwrap_or (option_map (λ x. let more = many_at read count x.1 in (x.0 ∷ more.0, more.1)) (read bytes)) ([], bytes)

-- a value that takes all the bytes that are left
abbrev pub rest_at : {A : Type 0} → (List ℕ → Option A) → Parser A
rest_at read bytes = read bytes >>= λ a. Some (a, [])

-- the value that all of the bytes spell
abbrev pub whole : {A : Type 0} → Parser A → List ℕ → Option A
whole read bytes = read bytes >>= λ x. if length x.1 == 0 then Some x.0 else None

-- a call gave the value that was found, seen through view, or failed if there was none
abbrev pub GivesAll : {X A E : Type 0} → (X → A) → Result X E → Option A → Type 0
GivesAll view (Ok x) found = found ≡ Some (view x)
GivesAll view (Err e) found = found ≡ None

-- each number is a byte, 0 to 255
abbrev pub IsBytes : List ℕ → Type 0
IsBytes bytes = (i : ℕ) → get_or bytes i 0 < 256

-- The parser finds exactly the valid values, by their spelling, if the bytes after it are of some kind.
pub record ReadsBefore (IsRest : List ℕ → Type 0) {A : Type 0} (Has : A → Type 0) (spell : A → List ℕ) (read : Parser A) : Type 0 where
  -- what it finds is valid, and the bytes begin with its spelling
  pub found : (bytes : List ℕ) (a : A) (rest : List ℕ) → IsBytes bytes → read bytes ≡ Some (a, rest) → Has a × (bytes ≡ spell a ++ rest)
  -- it finds each valid value by its spelling
  pub again : (a : A) (rest : List ℕ) → IsRest rest → Has a → read (spell a ++ rest) ≡ Some (a, rest)

-- the parser finds exactly the valid values, whatever bytes follow
abbrev pub Reads : {A : Type 0} → (A → Type 0) → (A → List ℕ) → Parser A → Type 0
Reads = ReadsBefore (λ rest. Unit {0})

-- the parser finds exactly the valid values that no byte follows
abbrev pub ReadsLast : {A : Type 0} → (A → Type 0) → (A → List ℕ) → Parser A → Type 0
ReadsLast = ReadsBefore (λ rest. rest ≡ [])

-- No spelling is a prefix of another, or of two values: if two spellings begin the same bytes, the values are equal, and so is the rest.
abbrev pub ReadsBack : {A : Type 0} → (A → Type 0) → (A → List ℕ) → Type 0
ReadsBack {A} Has spell =
    (a b : A) (more rest : List ℕ) → Has a → Has b → spell a ++ more ≡ spell b ++ rest → (a ≡ b) × (more ≡ rest)

-- the bytes begin with no valid value's spelling
abbrev pub Missing : {A : Type 0} → (A → Type 0) → (A → List ℕ) → List ℕ → Type 0
Missing {A} Has spell bytes = (a : A) (rest : List ℕ) → Has a → bytes ≡ spell a ++ rest → ⊥
