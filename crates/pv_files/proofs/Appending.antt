-- Two texts that are appended one after the other.
use Rattle.std.proofs.Common.{ℕ, ◌++◌, List, Option, None, Some, ap, ◌∙◌, append_assoc}
use Rattle.std.specs.Io.KnownBytes.{Appends}

-- they are one text that was appended
pub Appends-both : (a b c : Option (List ℕ)) (x y : List ℕ) → Appends a b x → Appends b c y → Appends a c (x ++ y)
Appends-both None b c x y p q = tt
Appends-both (Some xs) None c x y p q = absurd p
Appends-both (Some xs) (Some ys) None x y p q = absurd q
Appends-both (Some xs) (Some ys) (Some zs) x y p q = q ∙ ap (λ (l : List ℕ). l ++ y) p ∙ append_assoc xs x y
