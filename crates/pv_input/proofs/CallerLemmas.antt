-- What is known of bytes that are appended one after another: the lemmas that crates above may cite.
use Rattle.std.proofs.Common.{ℕ, List, [], ◌++◌, Option, Some, None, sym, ap, ◌∙◌, append_assoc}
use Rattle.std.specs.Io.KnownBytes.{Appends, Keeps}
use Rattle.std.proofs.lemmas.List.{append-nil}

-- to append nothing changes nothing
pub Appends-none : (a : Option (List ℕ)) → Appends a a []
Appends-none None = tt
Appends-none (Some xs) = sym (append-nil xs)

-- two texts that were appended one after the other are one text that was
pub Appends-more : (a b c : Option (List ℕ)) (x y : List ℕ) → Appends a b x → Appends b c y → Appends a c (x ++ y)
Appends-more None b c x y p q = tt
Appends-more (Some xs) None c x y p q = absurd p
Appends-more (Some xs) (Some ys) None x y p q = absurd q
Appends-more (Some xs) (Some ys) (Some zs) x y p q = q ∙ ap (λ (l : List ℕ). l ++ y) p ∙ append_assoc xs x y

-- what was appended is still there where known bytes stay as they were
pub Appends-kept : (a b c : Option (List ℕ)) (x : List ℕ) → Appends a b x → Keeps b c → Appends a c x
Appends-kept None b c x p q = tt
Appends-kept (Some xs) None c x p q = absurd p
Appends-kept (Some xs) (Some ys) None x p q = absurd q
Appends-kept (Some xs) (Some ys) (Some zs) x p q = q ∙ p
