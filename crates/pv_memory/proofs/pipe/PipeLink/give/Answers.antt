use Rattle.std.proofs.Common.{rules, ◌≡◌, ℕ, List, [], ◌∷◌, ◌++◌, drop, sym, subst, lit<}
use Rattle.std.specs.Prelude.{Contains}
use Rattle.circular_buffer.specs.Buffer.{keep_last}
use Rattle.pv_memory.proofs.PipeLemmas.{keeps_suffix, nothing_else}
use Rattle.pv_memory.proofs.pipe.PipeLink.give.Goals as goal

-- the packet comes after a suffix of those before
pub returns-clause-packets : goal.returns-clause-packets
returns-clause-packets c =
    let old = c.args.self.now.packets in
    let packet = c.args.packet.now in
    let is : c.push_back.new.self.items ≡ keep_last 64 (old ++ packet ∷ []) = search rules in
    subst (λ (l : List (List ℕ)). (lost : ℕ) × (l ≡ drop lost old ++ packet ∷ [])) (sym is) (keeps_suffix 64 old packet (lit< tt))

-- no other packet is there
pub returns-clause-only : goal.returns-clause-only
returns-clause-only c =
    let old = c.args.self.now.packets in
    let packet = c.args.packet.now in
    let is : c.push_back.new.self.items ≡ keep_last 64 (old ++ packet ∷ []) = search rules in
    λ held within. nothing_else 64 old packet (lit< tt) held (subst (λ (l : List (List ℕ)). Contains l held) is within)
