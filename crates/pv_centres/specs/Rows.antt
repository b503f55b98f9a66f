-- The rows of a network's ports, as threads serve them.
use Rattle.std.specs.Prelude.{◌≡◌, List, Bool, true, false, All}
use Rattle.pv_service.specs.Rows.{EachBecomes}

-- A row began with these stands. If it is served, each has become another by its work; if not, it is as it was, and each may begin.
abbrev pub IsRowOf : {S : Type 0} → (S → Type 0) → (S → S → Type 0) → List S → Bool → List S → Type 0
IsRowOf MayBegin Becomes began false stands = (stands ≡ began) × All MayBegin stands
IsRowOf MayBegin Becomes began true stands = EachBecomes Becomes began stands
