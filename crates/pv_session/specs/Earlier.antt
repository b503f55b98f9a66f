-- The frames to which a caller can go back.
use Rattle.std.specs.Prelude.{List, [], ◌∷◌, Option, Some, None}
use Rattle.pv_page.specs.Names.{Name}
use Rattle.pv_session.specs.declared.earlier.Earlier.{Earlier}

-- the names up to the first place without one
abbrev pub names_before_gap : List (Option Name) → List Name
names_before_gap [] = []
names_before_gap (None ∷ places) = []
names_before_gap (Some name ∷ places) = name ∷ names_before_gap places

-- the names, the last one first
abbrev pub names_of : Earlier → List Name
names_of earlier = names_before_gap (earlier.first ∷ earlier.second ∷ earlier.third ∷ [])
