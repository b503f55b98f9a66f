use Rattle.std.proofs.Common.{◌≡◌, [], ◌∷◌, ◌++◌, refl, ap, sym, ◌∙◌}
use mathlib.Core.List.{IsPrefix}
use Rattle.pv_history.proofs.CallerLemmas.{prefix_trans}
use Rattle.pv_live.specs.declared.entry.Entry.{Entry}
use Rattle.pv_group.proofs.desk.Desk+R+N+H+Published+R+N+Change+R+N.decide.Goals as goal

-- what the pass had seen, all had decided
earlier : (g : _) (c : goal.After-drop-upto-inside-in-Store g) → IsPrefix c.args.pass.now.seen c.self.inside.known
earlier g c = rw (c.copy-upto.ensures, c.seen.ensures, c.catch_up.ensures.value) at c.catch_up.ensures.prefix

-- the record comes after it
last : (g : _) (c : goal.After-drop-upto-inside-in-Store g) → c.copy-upto-in-Store.result
    ≡ c.self.inside.known ++ record { rec = c.in-Store.rec; pass = c.args.pass.now.number } ∷ []
last g c = c.copy-upto-in-Store.ensures ∙ ap (λ b. b.log) c.self-in-Store.view_is ∙ c.in_default.ensures.log

pub returns-in_default-clause-decided : goal.returns-in_default-clause-decided
returns-in_default-clause-decided g c =
    let entry : Entry g.row.R-Rec.Denot = record { rec = c.in-Store.rec; pass = c.args.pass.now.number } in record {
      before = c.self.inside.known;
      entry = entry;
      stored = record {
        last = last g c;
        known = earlier g c;
        maker = refl;
        counted = rw c.catch_up.ensures.value at c.length-count.ensures;
      };
      told = ap (λ p. p.told) c.in_default.ensures.told;
      judged = (c.self.inside.state, c.self.invariant.0.state_of, sym c.decide.ensures ∙ c.in-Store.is);
    }

pub returns-in_default-clause-seen : goal.returns-in_default-clause-seen
returns-in_default-clause-seen g c =
    prefix_trans c.args.pass.now.seen c.self.inside.known c.copy-upto-in-Store.result (earlier g c) (_, sym (last g c))
