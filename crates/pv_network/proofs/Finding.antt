-- Charge lines one after another, as a pass over records or items finds them.
use Rattle.std.proofs.Common.{◌≡◌, ℕ, ◌+◌, ◌<◌, ◌≤◌, List, [], ◌∷◌, ◌++◌, length, get_or, take, Option, Some, None, refl, sym, ap, ◌∙◌, arith}
use Rattle.std.specs.Prelude.{slice_get}
use Rattle.std.specs.List.{filter_map}
use Rattle.std.specs.Option.{option_to_list}
use Rattle.std.proofs.lemmas.List.{length-append, take_more}
use Rattle.std.proofs.lemmas.List.Elements.{filter_map-append}
use Rattle.std.proofs.lemmas.Option.{slice_get-get_or}

module _ {X Y : Type 0} (f : X → Option Y) where
  -- what is found of one
  found_of_one : (x : X) → filter_map f (x ∷ []) ≡ option_to_list (f x)
  found_of_one x = by (f x) refl
    where
      by : (found : Option Y) → f x ≡ found → filter_map f (x ∷ []) ≡ option_to_list found
      by None is = rw is refl
      by (Some y) is = rw is refl

  -- what is found of one more
  pub found_more : (xs : List X) (n : ℕ) (d : X) → n < length xs → (found : Option Y)
      → ((x : X) → slice_get xs n ≡ Some x → found ≡ f x)
      → filter_map f (take (n + 1) xs) ≡ filter_map f (take n xs) ++ option_to_list found
  found_more xs n d there found is =
      ap (filter_map f) (take_more xs n d there) ∙ filter_map-append f (take n xs) (get_or xs n d ∷ [])
      ∙ ap (λ (ys : List Y). filter_map f (take n xs) ++ ys) (found_of_one (get_or xs n d)
      ∙ ap (λ (o : Option Y). option_to_list o) (sym (is (get_or xs n d) (slice_get-get_or xs n d there))))

-- what was found makes a list at most one longer
pub one_more_at_most : {Y : Type 0} (ys : List Y) (found : Option Y) → length (ys ++ option_to_list found) ≤ length ys + 1
one_more_at_most ys None = omega (arith, length-append ys [])
one_more_at_most ys (Some y) = omega (arith, length-append ys (y ∷ []))
