-- What is read of a source, piece by piece.
use Rattle.std.proofs.Common.{◌≡◌, ℕ, List, [], ◌++◌, Option, Some, None, Result, Ok, Err, refl, sym, ap, ◌∙◌, append_assoc}
use Rattle.std.specs.Prelude.{IfOk}
use Rattle.std.specs.Io.KnownBytes.{Consumes, IsAtEnd}
use Rattle.pv_outside.specs.declared.failed.Failed.{Failed}
use Rattle.pv_input.specs.Reading.{HasRead}
use Rattle.pv_input.proofs.CallerLemmas.{Appends-none, Appends-more}

-- to read nothing leaves all
Consumes-none : (a : Option (List ℕ)) → Consumes a a []
Consumes-none None = tt
Consumes-none (Some xs) = refl

-- two texts that were read one after the other are one text that was
Consumes-more : (a b c : Option (List ℕ)) (x y : List ℕ) → Consumes a b x → Consumes b c y → Consumes a c (x ++ y)
Consumes-more None b c x y p q = tt
Consumes-more (Some xs) None c x y p q = absurd p
Consumes-more (Some xs) (Some ys) None x y p q = absurd q
Consumes-more (Some xs) (Some ys) (Some zs) x y p q = p ∙ ap (λ (l : List ℕ). x ++ l) q ∙ sym (append_assoc x y zs)

-- a source that was not asked has given no text
pub nothing_read : (t l : Option (List ℕ)) → HasRead t t l l []
nothing_read t l = record { taken = Appends-none t; left = Consumes-none l }

-- a source that gave one text and then another gave the two as one
pub read_more : (a b c d e f : Option (List ℕ)) (x y : List ℕ) → HasRead a b d e x → HasRead b c e f y → HasRead a c d f (x ++ y)
read_more a b c d e f x y p q = record { taken = Appends-more a b c x y p.taken q.taken; left = Consumes-more d e f x y p.left q.left }

-- a count of 0 is met only where nothing was left
pub end_of : (r : Result ℕ Failed) (left : Option (List ℕ)) → (r ≡ Ok 0 → IsAtEnd left) → IfOk r (λ n. n ≡ 0 → IsAtEnd left)
end_of (Err e) left at_end = tt
end_of (Ok n) left at_end = λ none. at_end (ap (λ (k : ℕ). Ok k) none)
