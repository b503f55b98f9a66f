use Rattle.std.proofs.Common.{◌≡◌, [], ◌∷◌, ◌++◌, length, map, List, Option, Some, ap, sym, ◌∙◌, arith, length-append}
use Rattle.pv_history.specs.History.{entries_of}
use Rattle.pv_history.proofs.Entries.{entries_of-push, map-push}
use Rattle.pv_history.proofs.prefix.Prefix.append.Goals as goal

-- the log has one entry more
pub invariant_of-self : goal.invariant_of-self
invariant_of-self g c =
    let log = c.self.inside.seen.log in
    let entry = c.args.entry.now in
    let added = c.add.ensures.added in (
      rw added (
          ap (λ (l : List (Option g.row.E.Denot)). l ++ Some entry ∷ []) c.self.invariant.0 ∙ map-push (entries_of log) entry
          ∙ ap (λ (l : List g.row.E.Denot). map Some l) (sym (entries_of-push log entry))
          ),
      rw added (omega (arith, c.self.invariant.1, length-append log (Some entry ∷ []))),
      c.add.ensures.book ∙ c.self.invariant.2,
    )

pub returns-clause-added : goal.returns-clause-added
returns-clause-added g c =
    rw (← c.self.view_is, c.add.ensures.added) (entries_of-push c.self.inside.seen.log c.args.entry.now)
