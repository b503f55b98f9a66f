-- Worked examples of the numbers that an end gives, computed from the definitions.
use Rattle.std.proofs.Common.{◌≡◌, ◌∷◌, [], refl}
use Rattle.pv_link.specs.Sending.{new_end, end_that_heard, numbers_to_give}

-- of two numbers neither of which is acknowledged
pub two_repeated : numbers_to_give 5 new_end 2 ≡ 0 ∷ 1 ∷ 0 ∷ 1 ∷ 0 ∷ []
unfolding numbers_to_give
two_repeated = refl

-- an acknowledgement is passed over if it is of more than there are
pub too_many : end_that_heard new_end 3 2 ≡ new_end
too_many = refl

-- of four numbers, the first two of which are acknowledged
pub after_two : numbers_to_give 3 (end_that_heard new_end 2 4) 4 ≡ 2 ∷ 3 ∷ 2 ∷ []
unfolding numbers_to_give
after_two = refl

-- of none, and of those that are all acknowledged, none is given
pub none_of_none : numbers_to_give 3 new_end 0 ≡ []
unfolding numbers_to_give
none_of_none = refl

pub none_left : numbers_to_give 3 (end_that_heard new_end 4 4) 4 ≡ []
unfolding numbers_to_give
none_left = refl
