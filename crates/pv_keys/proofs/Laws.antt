-- Keys are cut into commands in one way, and a reader's answers are these commands.
use Rattle.std.proofs.Common.{◌≡◌, ℕ, List, [], ◌∷◌, ◌++◌, length, Option, Some, None, refl, sym, ap, subst, ◌∙◌, append_assoc, append-nil, arith}
use Rattle.pv_keys.specs.declared.command.Command.{Command}
use Rattle.pv_keys.specs.declared.progress.Progress.TheVariants.{Idle}
use Rattle.pv_keys.specs.Commands.{IsSpelling, HasNoCommand, IsSplitInto, AreCommandsOf, key_of_byte, keys_of}
use Rattle.pv_keys.specs.Reader.{TakesByte, TakesBytes, commands_in}
use Rattle.pv_keys.proofs.Machine.{first_in, first-spelling, none_kept}

-- keys that begin with two commands begin with one, and have one rest
pub same_first : (first second x y : List ℕ) (a b : Command) → first ++ x ≡ second ++ y
    → IsSpelling first a → IsSpelling second b → (a ≡ b) × (x ≡ y)
same_first first second x y a b same is_a is_b =
    let both : Some (a, x) ≡ Some (b, y) =
    sym (first-spelling first x a is_a) ∙ ap (first_in Idle) same ∙ first-spelling second y b is_b in
    let pair : (a, x) ≡ (b, y) = cc in
    (ap (λ (p : Command × List ℕ). p.0) pair, ap (λ (p : Command × List ℕ). p.1) pair)

-- so there is one cut
pub one_cut : (keys x y : List ℕ) (a b : List Command) → IsSplitInto keys a x → IsSplitInto keys b y → (a ≡ b) × (x ≡ y)
one_cut keys x y [] [] (is_x, no_command) (is_y, _) = (refl, sym is_x ∙ is_y)
one_cut keys x y [] (b ∷ q) (is_x, no_command) (first, later, same, spelling, more) =
    absurd (no_command first later b (sym is_x ∙ same) spelling)
one_cut keys x y (a ∷ p) [] (first, later, same, spelling, more) (is_y, no_command) =
    absurd (no_command first later a (sym is_y ∙ same) spelling)
one_cut keys x y (a ∷ p) (b ∷ q) (first, later, same, spelling, more) (second, other, equal, spells, rest) =
    let heads = same_first first second later other a b (sym same ∙ equal) spelling spells in
    let tails = one_cut later x y p q more (subst (λ (keys : List ℕ). IsSplitInto keys q y) (sym heads.1) rest) in
    ((λ i. heads.0 i ∷ tails.0 i), tails.1)

-- the keys of a byte before those of others
keys_of-cons : (before : List ℕ) (byte : ℕ) (bytes : List ℕ)
    → before ++ keys_of (byte ∷ bytes) ≡ (before ++ keys_of (byte ∷ [])) ++ keys_of bytes
keys_of-cons before byte bytes =
    sym (append_assoc before (key_of_byte byte) (keys_of bytes))
    ∙ ap (λ (keys : List ℕ). (before ++ keys) ++ keys_of bytes) (sym (append-nil (key_of_byte byte)))

-- what is answered after some keys is the cut of these keys and of those of the bytes
answers_cut : (bytes before after : List ℕ) (answers : List (Option Command)) → HasNoCommand before
    → TakesBytes before bytes answers after → IsSplitInto (before ++ keys_of bytes) (commands_in answers) after
answers_cut [] before after [] no_command same = (append-nil before ∙ same, subst HasNoCommand same no_command)
answers_cut [] before after (answer ∷ answers) no_command impossible = absurd impossible
answers_cut (byte ∷ bytes) before after [] no_command impossible = absurd impossible
answers_cut (byte ∷ bytes) before after (None ∷ answers) no_command (next, takes, more) =
    let keys = ap (λ (kept : List ℕ). kept ++ keys_of bytes) (takes.waits refl) ∙ sym (keys_of-cons before byte bytes) in
    subst (λ (keys : List ℕ). IsSplitInto keys (commands_in answers) after) keys
    (answers_cut bytes next after answers takes.no_command more)
answers_cut (byte ∷ bytes) before after (Some command ∷ answers) no_command (next, takes, more) =
    let cut = answers_cut bytes next after answers takes.no_command more in (
      before ++ keys_of (byte ∷ []),
      keys_of bytes,
      keys_of-cons before byte bytes,
      takes.given.0,
      subst (λ (kept : List ℕ). IsSplitInto (kept ++ keys_of bytes) (commands_in answers) after) takes.given.1 cut,
    )

-- a new reader has no keys before
pub new_answers : (bytes after : List ℕ) (answers : List (Option Command)) → TakesBytes [] bytes answers after
    → AreCommandsOf bytes (commands_in answers) after
new_answers bytes after answers = answers_cut bytes [] after answers (none_kept Idle tt)

-- two pieces of bytes are one
pub join : (first second before between after : List ℕ) (a b : List (Option Command))
    → TakesBytes before first a between → TakesBytes between second b after → TakesBytes before (first ++ second) (a ++ b) after
join [] second before between after [] b same rest = subst (λ (kept : List ℕ). TakesBytes kept second b after) (sym same) rest
join [] second before between after (answer ∷ a) b impossible rest = absurd impossible
join (byte ∷ first) second before between after [] b impossible rest = absurd impossible
join (byte ∷ first) second before between after (answer ∷ a) b (next, takes, more) rest =
    (next, takes, join first second next between after a b more rest)

-- one piece of bytes is two
pub part : (first second before after : List ℕ) (a b : List (Option Command)) → length a ≡ length first
    → TakesBytes before (first ++ second) (a ++ b) after
    → (between : List ℕ) × TakesBytes before first a between × TakesBytes between second b after
part [] second before after [] b same takes = (before, refl, takes)
part [] second before after (answer ∷ a) b same takes = absurd (omega (arith, same))
part (byte ∷ first) second before after [] b same takes = absurd (omega (arith, same))
part (byte ∷ first) second before after (answer ∷ a) b same (next, takes, more) =
    let rest = part first second next after a b (omega (arith, same)) more in
    (rest.0, (next, takes, rest.1), rest.2)

-- so the answers to the first of the bytes are the commands of these
pub first_answers : (first second after : List ℕ) (a b : List (Option Command)) → length a ≡ length first
    → TakesBytes [] (first ++ second) (a ++ b) after
    → (kept : List ℕ) × AreCommandsOf first (commands_in a) kept × TakesBytes kept second b after
first_answers first second after a b same takes =
    let (kept, here, there) = part first second [] after a b same takes in
    (kept, new_answers first kept a here, there)

-- a byte is answered in one way
pub one_answer : (before x y : List ℕ) (byte : ℕ) (a b : Option Command)
    → TakesByte before byte a x → TakesByte before byte b y → (a ≡ b) × (x ≡ y)
one_answer before x y byte None None is_a is_b = (refl, is_a.waits refl ∙ sym (is_b.waits refl))
one_answer before x y byte None (Some b) is_a is_b =
    let same : ◌≡◌ {A = Option Command} None (Some b) = is_a.only b is_b.given.0 in absurd cc
one_answer before x y byte (Some a) b is_a is_b =
    let same = is_b.only a is_a.given.0 in
    (sym same, is_a.given.1 ∙ sym (given_same y before byte b a same is_b))
  where
    given_same : (y before : List ℕ) (byte : ℕ) (b : Option Command) (a : Command) → b ≡ Some a → TakesByte before byte b y → y ≡ []
    given_same y before byte b a same is = (subst (λ (b : Option Command). TakesByte before byte b y) same is).given.1

-- so are bytes
pub one_way : (bytes before x y : List ℕ) (a b : List (Option Command))
    → TakesBytes before bytes a x → TakesBytes before bytes b y → (a ≡ b) × (x ≡ y)
one_way [] before x y [] [] is_a is_b = (refl, sym is_a ∙ is_b)
one_way [] before x y [] (answer ∷ b) is_a is_b = absurd is_b
one_way [] before x y (answer ∷ a) b is_a is_b = absurd is_a
one_way (byte ∷ bytes) before x y [] b is_a is_b = absurd is_a
one_way (byte ∷ bytes) before x y (answer ∷ a) [] is_a is_b = absurd is_b
one_way (byte ∷ bytes) before x y (answer ∷ a) (other ∷ b) (next, takes, more) (after, is, rest) =
    let head = one_answer before next after byte answer other takes is in
    let tail = one_way bytes next x y a b more (subst (λ (kept : List ℕ). TakesBytes kept bytes b y) (sym head.1) rest) in
    ((λ i. head.0 i ∷ tail.0 i), tail.1)
