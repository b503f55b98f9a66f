use Rattle.std.proofs.Common.{rules, ◌≡◌, sym, ◌∙◌}
use Rattle.pv_edits.proofs.records.Records.copy.Goals as goal

-- the copy has the same records, and their indexes
pub invariant_of-result : goal.invariant_of-result
invariant_of-result c =
    let same : c.in_ok-list_with_room.field-0.items ≡ c.self.inside.items.items = search rules in
    let last : c.in_ok-copy.field-0 ≡ c.self.inside.last = search rules in
    record {
      fit = search rules;
      reserved = rw (same, last) c.self.invariant.reserved;
      lasts = rw (same, last) c.self.invariant.lasts;
      pages = rw same c.self.invariant.pages;
    }
