use Rattle.std.proofs.Common.{◌≡◌, ℕ, ◌<◌, [], length, get_or, None}
use Rattle.pv_frame.proofs.Vocabulary.{ROUTES, route_of}
use Rattle.pv_frame.proofs.raw.routes_of.Given as goal

-- the routes so far are read
abbrev pub invariant-loop-digit : goal.invariant-loop-digit
invariant-loop-digit l = record {
  all : length l.routes ≡ ROUTES;
  read : (k : ℕ) → k < l.digit → get_or l.routes k None ≡ route_of (get_or l.chunks k []);
}
