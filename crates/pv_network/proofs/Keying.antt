-- Keys one after another: each does in the world what it does at the network.
use Rattle.std.proofs.Common.{◌≡◌, ℕ, ◌+◌, ◌*◌, ◌<◌, Bool, true, false, cond, List, [], ◌∷◌, ◌++◌, length, get_or, Option, Some, None, Result, Ok, Err, refl, sym, ap, subst, ◌∙◌, append_assoc, arith}
use Rattle.std.specs.Prelude.{map, ◌==◌, IfOk, OnOk}
use Rattle.std.specs.Char.{digit_value}
use Rattle.std.proofs.lemmas.List.{append-nil}
use Rattle.pv_fields.specs.Refusals.{some_if}
use Rattle.pv_cells.specs.Notation.{ReadsAs, notation_at, hexadecimal_at, is_plain}
use Rattle.pv_cells.specs.declared.writing.TheConstants.{BACKSLASH}
use Rattle.pv_session.specs.declared.entry.Entry.{Entry}
use Rattle.pv_network.specs.declared.outcome.Outcome.{Outcome}
use Rattle.pv_network.specs.declared.outcome.Turn.{Turn}
use Rattle.pv_network.specs.Calling.{call_at, step_of_press, step_of_store, step_of_show}
use Rattle.pv_network.specs.Calls.{Calls, call_in, IsPortEntry}
use Rattle.pv_network.specs.Centre.{Held, calls_of}
use Rattle.pv_network.specs.Keying.{KeyedByte, bytes_of, is_owes, is_storing, step_of_payment, step_of_key, screens_in, is_over, keys_from, TakesAll, turns_answer, keys_refusal, step_of_keys, TakesAllAt}
use Rattle.pv_network.specs.Standing.{State, StandsFor, PaysKey, TakesKey}
use Rattle.pv_network.specs.World.{World}
use Rattle.pv_network.proofs.Calling.{calls_there}

-- ---- one key

module _ (c port : ℕ) (w : World) (new : State) (outcome : Outcome) where
  -- the network has done this at the world
  abbrev Done : World × Outcome → Type 0
  Done done = StandsFor new done.0 × (outcome ≡ done.1)

  -- what was stored is shown
  pub payment_shown : (reply : Outcome) → reply ≡ (step_of_store w c port).1 → is_storing reply ≡ true
      → Done (step_of_show (step_of_store w c port).0 c port) → Done (step_of_payment w c port)
  payment_shown reply is test done = let here : is_storing (step_of_store w c port).1 ≡ true = ap is_storing (sym is) ∙ test in rw here done

  -- nothing was stored
  pub payment_refused : outcome ≡ (step_of_store w c port).1 → is_storing outcome ≡ false → Done (step_of_store w c port)
      → Done (step_of_payment w c port)
  payment_refused is test done = let here : is_storing (step_of_store w c port).1 ≡ false = ap is_storing (sym is) ∙ test in rw here done

  module _ (byte : ℕ) (entry : Option Entry) where
    -- the byte, with its entry
    abbrev this : KeyedByte
    this = record { byte = byte; entry = entry }

    -- what is owed for the key is paid
    pub key_paid : (pressed : Outcome) → pressed ≡ (step_of_press w c port byte entry).1 → is_owes pressed ≡ true
        → Done (step_of_payment (step_of_press w c port byte entry).0 c port) → Done (step_of_key w c port this)
    key_paid pressed is test done = let here : is_owes (step_of_press w c port byte entry).1 ≡ true = ap is_owes
        (sym is) ∙ test in rw here done

    -- nothing is owed for it
    pub key_free : outcome ≡ (step_of_press w c port byte entry).1 → is_owes outcome ≡ false
        → Done (step_of_press w c port byte entry) → Done (step_of_key w c port this)
    key_free is test done = let here : is_owes (step_of_press w c port byte entry).1 ≡ false = ap is_owes (sym is) ∙ test in rw here done

-- a key was taken, and its screen added
pub key_taken : {E : Type 0} (old new : State) (before after : List Turn) (c port byte : ℕ) (outcome : Outcome) (result : Result Bool E)
    → PaysKey old new outcome c port byte → OnOk result (after ≡ before ++ screens_in outcome)
    → IfOk result (λ over. over ≡ is_over outcome) → IfOk result (λ over. TakesKey old new before after over c port byte)
key_taken old new before after c port byte outcome (Ok over) pays turns is = (outcome, pays, turns, is)
key_taken old new before after c port byte outcome (Err failed) pays turns is = tt

-- ---- notation

-- the rest of a text after its first byte
abbrev rest_in : Option (ℕ × List ℕ) → List ℕ
rest_in None = []
rest_in (Some read) = read.1

-- what is read of hexadecimal digits is shorter
hexadecimal_shorter : (text : List ℕ) (byte : ℕ) (rest : List ℕ) → hexadecimal_at text ≡ Some (byte, rest) → length rest < length text
hexadecimal_shorter [] byte rest is = absurd cc
hexadecimal_shorter (high ∷ []) byte rest is = absurd cc
hexadecimal_shorter (high ∷ low ∷ text) byte rest is = by _ is
  where
    by : (test : Bool) → some_if {X = ℕ × List ℕ} test (16 * digit_value high + digit_value low, text) ≡ Some (byte, rest)
        → length rest < length (high ∷ low ∷ text)
    by true found = omega (arith, ap (λ (l : List ℕ). length l) (ap rest_in found))
    by false found = absurd cc

-- after a byte of a notation the rest is shorter
pub notation_shorter : (text : List ℕ) (byte : ℕ) (rest : List ℕ) → notation_at text ≡ Some (byte, rest) → length rest < length text
notation_shorter [] byte rest is = absurd cc
notation_shorter (first ∷ text) byte rest is = by (is_plain first) (first == BACKSLASH) is
  where
    by : (plain slash : Bool) → cond plain (Some (first, text)) (cond slash (hexadecimal_at text) None) ≡ Some (byte, rest)
        → length rest < length (first ∷ text)
    by true slash found = omega (arith, ap (λ (l : List ℕ). length l) (ap rest_in found))
    by false true found = let less = hexadecimal_shorter text byte rest found in omega (arith, less)
    by false false found = absurd cc

-- a text with a first byte is the notation of that one and of more
next_read : (text bytes : List ℕ) (byte : ℕ) (rest : List ℕ) → ReadsAs text bytes → notation_at text ≡ Some (byte, rest)
    → (later : List ℕ) × ReadsAs rest later
next_read text [] byte rest reads is = let none = ap notation_at (sym reads) in absurd cc
next_read text (b ∷ bytes) byte rest (after, found, reads) is =
    (bytes, subst (λ (l : List ℕ). ReadsAs l bytes) (ap rest_in (sym found ∙ is)) reads)

-- a text without a first byte is empty
none_read : (text bytes : List ℕ) → ReadsAs text bytes → notation_at text ≡ None → text ≡ []
none_read text [] reads is = reads
none_read text (b ∷ bytes) (after, found, reads) is = absurd cc

-- bytes that are not read make no entry
abbrev unread : List ℕ → List KeyedByte
unread bytes = map (λ byte. record { byte = byte; entry = None }) bytes

bytes_of_unread : (bytes : List ℕ) → bytes_of (unread bytes) ≡ bytes
bytes_of_unread [] = refl
bytes_of_unread (byte ∷ bytes) = ap (λ (l : List ℕ). byte ∷ l) (bytes_of_unread bytes)

-- ---- keys that are not taken

module _ (s : State) (w : World) (stands : StandsFor s w) (c : ℕ) (here : Held) (there : c < length s.centres)
    (read : here ≡ get_or s.centres c here) (port : ℕ) (text : List ℕ) where
  -- the world's centre takes keys at the port exactly when the network's does
  same_refusal : keys_refusal (call_in (calls_of here) port) ≡ keys_refusal (call_at w c port)
  same_refusal = ap (λ (calls : Calls). keys_refusal (call_in calls port)) (calls_there s w stands c here there read)

  -- the keys are not taken
  pub refused : (bytes : List ℕ) (outcome : Outcome) → ReadsAs text bytes → keys_refusal (call_in (calls_of here) port) ≡ Some outcome
      → (keyed : List KeyedByte) × ReadsAs text (bytes_of keyed) × TakesAllAt w c port keyed
      × StandsFor s (step_of_keys w c port keyed).0 × (outcome ≡ (step_of_keys w c port keyed).1)
  refused bytes outcome reads is =
      let same : keys_refusal (call_at w c port) ≡ Some outcome = sym same_refusal ∙ is in (
        unread bytes,
        subst (λ (l : List ℕ). ReadsAs text l) (sym (bytes_of_unread bytes)) reads,
        rw same tt,
        rw same stands,
        rw same refl,
      )

  -- all of them are taken
  pub answered : (new : State) (turns : List Turn) → keys_refusal (call_in (calls_of here) port) ≡ None
      → (keyed : List KeyedByte) × ReadsAs text (bytes_of keyed) × TakesAll w c port keyed
      × StandsFor new (keys_from w c port keyed).0 × (turns ≡ (keys_from w c port keyed).1)
      → (keyed : List KeyedByte) × ReadsAs text (bytes_of keyed) × TakesAllAt w c port keyed
      × StandsFor new (step_of_keys w c port keyed).0 × (turns_answer turns ≡ (step_of_keys w c port keyed).1)
  answered new turns is taken =
      let same : keys_refusal (call_at w c port) ≡ None = sym same_refusal ∙ is in
      (taken.0, taken.1, rw same taken.2, rw same taken.3, rw same (ap turns_answer taken.4))

-- ---- all keys

module _ (c port : ℕ) (text : List ℕ) (before : List Turn) (first : World) where
  -- The keys before the rest were taken, and the network stands for the world after them. Whatever keys follow there, they follow
  -- these keys.
  pub record Taken (rest : List ℕ) (now : State) (turns : List Turn) : Type 0 where
    pub done : List KeyedByte
    pub world : World
    pub stands : StandsFor now world
    pub later : (bytes : List ℕ) × ReadsAs rest bytes
    pub reads : (more : List KeyedByte) → ReadsAs rest (bytes_of more) → ReadsAs text (bytes_of (done ++ more))
    pub keyed : (more : List KeyedByte) → TakesAll world c port more → TakesAll first c port (done ++ more)
    pub worlds : (more : List KeyedByte) → (keys_from first c port (done ++ more)).0 ≡ (keys_from world c port more).0
    pub shown : (more : List KeyedByte) → before ++ (keys_from first c port (done ++ more)).1 ≡ turns ++ (keys_from world c port more).1

  -- no key was taken yet
  pub taken_none : (now : State) (bytes : List ℕ) → StandsFor now first → ReadsAs text bytes → Taken text now before
  taken_none now bytes stands reads = record {
    done = [];
    world = first;
    stands = stands;
    later = (bytes, reads);
    reads = λ more is. is;
    keyed = λ more are. are;
    worlds = λ more. refl;
    shown = λ more. refl;
  }

  module _ (rest : List ℕ) (now : State) (turns : List Turn) (p : Taken rest now turns) where
    -- what was taken and what follows it, to the end
    ends : (new : State) (after : List Turn) (more : List KeyedByte) → ReadsAs rest (bytes_of more) → TakesAll p.world c port more
        → StandsFor new (keys_from p.world c port more).0 → after ≡ turns ++ (keys_from p.world c port more).1
        → (keyed : List KeyedByte) × ReadsAs text (bytes_of keyed) × TakesAll first c port keyed
        × StandsFor new (keys_from first c port keyed).0 × (after ≡ before ++ (keys_from first c port keyed).1)
    ends new after more reads keyed stands is = (
      p.done ++ more,
      p.reads more reads,
      p.keyed more keyed,
      subst (λ (w : World). StandsFor new w) (sym (p.worlds more)) stands,
      is ∙ sym (p.shown more),
    )

    -- nothing is left
    pub taken_all : notation_at rest ≡ None
        → (keyed : List KeyedByte) × ReadsAs text (bytes_of keyed) × TakesAll first c port keyed
        × StandsFor now (keys_from first c port keyed).0 × (turns ≡ before ++ (keys_from first c port keyed).1)
    taken_all none = ends now turns [] (none_read rest p.later.0 p.later.1 none) tt p.stands (sym (append-nil turns))

    module _ (byte : ℕ) (entry : Option Entry) (later : List ℕ) (new : State) (outcome : Outcome) (after : List Turn)
        (read : notation_at rest ≡ Some (byte, later)) (says : IsPortEntry (call_at p.world c port) byte entry)
        (stands : StandsFor new (step_of_key p.world c port (record { byte = byte; entry = entry })).0)
        (is : outcome ≡ (step_of_key p.world c port (record { byte = byte; entry = entry })).1)
        (added : after ≡ turns ++ screens_in outcome) where
      -- the key
      abbrev key : KeyedByte
      key = record { byte = byte; entry = entry }

      -- the world after it
      abbrev next : World
      next = (step_of_key p.world c port key).0

      -- the call is over with it
      pub taken_over : is_over outcome ≡ true
          → (keyed : List KeyedByte) × ReadsAs text (bytes_of keyed) × TakesAll first c port keyed
          × StandsFor new (keys_from first c port keyed).0 × (after ≡ before ++ (keys_from first c port keyed).1)
      taken_over over =
          let here : is_over (step_of_key p.world c port key).1 ≡ true = ap is_over (sym is) ∙ over in
          let others = next_read rest p.later.0 byte later p.later.1 read in
          ends new after (key ∷ unread others.0)
          (later, read, subst (λ (l : List ℕ). ReadsAs later l) (sym (bytes_of_unread others.0)) others.1)
          (says, rw here tt) (rw here stands)
          (rw here (added ∙ ap (λ (o : Outcome). turns ++ screens_in o) is))

      -- it is not, and more keys may follow
      pub taken_more : is_over outcome ≡ false → Taken later new after
      taken_more goes_on =
          let here : is_over (step_of_key p.world c port key).1 ≡ false = ap is_over (sym is) ∙ goes_on in
          let assoc : (more : List KeyedByte)
          → (p.done ++ key ∷ []) ++ more ≡ p.done ++ key ∷ more = λ more. append_assoc p.done (key ∷ []) more in
          record {
            done = p.done ++ key ∷ [];
            world = next;
            stands = stands;
            later = next_read rest p.later.0 byte later p.later.1 read;
            reads = λ more reads. subst (λ (keys : List KeyedByte). ReadsAs text (bytes_of keys)) (sym (assoc more))
                (p.reads (key ∷ more) (later, read, reads));
            keyed = λ more are. subst (λ (keys : List KeyedByte). TakesAll first c port keys) (sym (assoc more))
                (p.keyed (key ∷ more) (says, rw here are));
            worlds = λ more. ap (λ (keys : List KeyedByte). (keys_from first c port keys).0) (assoc more) ∙ p.worlds
                (key ∷ more) ∙ rw here refl;
            shown = λ more.
                let rest_turns = (keys_from next c port more).1 in
                ap (λ (keys : List KeyedByte). before ++ (keys_from first c port keys).1) (assoc more) ∙ p.shown (key ∷ more)
                ∙ rw here (sym (append_assoc turns (screens_in (step_of_key p.world c port key).1) rest_turns)
                ∙ ap (λ (l : List Turn). l ++ rest_turns) (ap (λ (o : Outcome). turns ++ screens_in o) (sym is) ∙ sym added));
          }
