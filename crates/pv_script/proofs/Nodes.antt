-- A text names one node at most: no number is written as the Update Centre is named.
use Rattle.std.proofs.Common.{◌≡◌, ℕ, ◌^◌, ◌<◌, List, Some, refl, sym, subst, ◌∙◌, arith}
use Rattle.std.specs.Prelude.{codes, decimal}
use Rattle.std.specs.Str.Parse.{AllDigits}
use Rattle.std.proofs.lemmas.Fmt.{decimal_is_IsNumeral}
use Rattle.pv_network.specs.declared.event.NodeName.{NodeName}
use Rattle.pv_network.specs.declared.event.NodeName.TheVariants.{Udc, Centre}
use Rattle.pv_script.specs.Readers.{IsNodeText}

-- its letter is no digit
no_number : (n : ℕ) → n < 2 ^ 64 → codes "u" ≡ decimal n → ⊥
no_number n fits is =
    let digits : AllDigits 10 (codes "u") = subst (AllDigits 10) (sym is) (decimal_is_IsNumeral n fits).0.1 in
    omega (arith, digits.0)

-- so that letter names the Update Centre alone
pub only_update : (centres : ℕ) (text : List ℕ) → centres < 2 ^ 8 → text ≡ codes "u" → (node : NodeName) → IsNodeText centres node text
    → Some Udc ≡ Some node
only_update centres text few is Udc names = refl
only_update centres text few is (Centre n) names = absurd (no_number n (omega (arith, few, names.0)) (sym is ∙ names.1))
