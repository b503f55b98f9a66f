-- What a crate above may cite: texts that are not broken by a line end.
use Rattle.std.proofs.Common.{◌≡◌, ℕ, zero, suc, ◌/◌, ◌%◌, ◌<◌, Bool, true, false, cond, List, [], ◌∷◌, ◌++◌, refl, ◌∙◌, arith}
use Rattle.std.specs.Prelude.{decimal, ◌==◌}
use Rattle.std.specs.Fmt.{digits, digits_onto, digit_glyph}
use Rattle.std.proofs.lemmas.Bool.{and_from}
use Rattle.std.proofs.lemmas.Bool.Decides.{nat_tests}
use Rattle.std.proofs.lemmas.List.Folds.{list_all-append}
use Rattle.pv_network.specs.Replies.{is_not_line_end, HasNoLineEnd}

-- two of them make one
pub unbroken-append : (a b : List ℕ) → HasNoLineEnd a → HasNoLineEnd b → HasNoLineEnd (a ++ b)
unbroken-append a b p q = list_all-append is_not_line_end a b ∙ and_from _ _ p q

-- a digit is none
digit_unbroken : (d : ℕ) → d < 10 → is_not_line_end (digit_glyph false d) ≡ true
digit_unbroken d small = grind (arith, nat_tests)

-- one digit more
with_digit : (n : ℕ) (after : List ℕ) → HasNoLineEnd after → HasNoLineEnd (digit_glyph false (n % 10) ∷ after)
with_digit n after whole = and_from _ _ (digit_unbroken (n % 10) (omega arith)) whole

-- either of two texts is one
pub either : (b : Bool) (x y : List ℕ) → HasNoLineEnd x → HasNoLineEnd y → HasNoLineEnd (cond b x y)
either true x y p q = p
either false x y p q = q

digits_unbroken : (k n : ℕ) (after : List ℕ) → HasNoLineEnd after → HasNoLineEnd (digits_onto k 10 false n after)
digits_unbroken zero n after whole = whole
digits_unbroken (suc k) n after whole =
    let more = with_digit n after whole in either (n / 10 == 0) _ _ more (digits_unbroken k (n / 10) _ more)

-- a number is one
pub unbroken-decimal : (n : ℕ) → HasNoLineEnd (decimal n)
unfolding digits
unbroken-decimal n = digits_unbroken 64 n [] refl
