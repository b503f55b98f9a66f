use Rattle.std.proofs.Common.{◌≡◌, ℕ, ◌<◌, Bool, List, length, Option, Some, None, sym, ◌∙◌}
use Rattle.std.specs.Prelude.{IfSome}
use Rattle.pv_edits.specs.declared.record.Record.{Record}
use Rattle.pv_edits.specs.Edits.{is_about, last_index}
use Rattle.pv_edits.proofs.LastIndex.{last_index-within}
use Rattle.pv_edits.proofs.records.Records.last_about.Goals as goal

-- the index that is found is one of the list's
found_within : (found : Option ℕ) (test : Record → Bool) (records : List Record) → found ≡ last_index test records
    → IfSome found (λ index. index < length records)
found_within None test records is = tt
found_within (Some index) test records is = last_index-within test records index (sym is)

pub returns-clause-within : goal.returns-clause-within
returns-clause-within c =
    let last = c.get.ensures.index ∙ c.self.invariant.lasts c.args.subject c.get.ensures.valid in
    rw (← c.self.view_is) (found_within c.get.result (is_about c.args.subject) c.self.inside.items.items last)
