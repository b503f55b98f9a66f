-- What charge lines cost.
use Rattle.std.specs.Prelude.{ℕ, List}
use Rattle.std.specs.List.{sum_by}
use Rattle.pv_network.specs.declared.outcome.BillLine.{BillLine}

-- the sum of their prices, in pence
abbrev pub pence_of : List BillLine → ℕ
pence_of lines = sum_by (λ line. line.line.price) lines
