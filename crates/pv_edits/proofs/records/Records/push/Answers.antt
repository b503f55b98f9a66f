use Rattle.std.proofs.Common.{rules, ◌≡◌, ◌+◌, [], ◌∷◌, length, sym, ◌∙◌, arith}
use Rattle.std.proofs.lemmas.List.{length-append}
use Rattle.pv_edits.specs.Edits.{is_about}
use Rattle.pv_edits.proofs.LastIndex.{last_index-push}
use Rattle.pv_edits.proofs.Lots.{pages-push}
use Rattle.pv_edits.proofs.records.Records.push.Goals as goal

-- the record is the last about its subjects, and each other subject has the last that it had
pub invariant_of-self : goal.invariant_of-self
invariant_of-self c =
    let records = c.self.inside.items.items in
    let edit = c.args.edit.now in
    let count : c.len.result ≡ length records = search rules in
    let kept = c.self.invariant in
    let items = c.push_reserved.ensures.items in
    record {
      fit = search (rules, kept);
      reserved = rw (items, length-append records (edit ∷ []), ← count)
          (c.note.ensures.reserved c.self.inside.room (rw count kept.reserved));
      lasts = λ subject valid. c.note.ensures.noted subject valid
          ∙ rw (items, count, kept.lasts subject valid) (sym (last_index-push (is_about subject) records edit));
      pages = rw items (pages-push records edit c.within.ensures kept.pages);
    }
