use Rattle.std.proofs.Common.{rules, ◌≡◌, ◌+◌, [], ◌∷◌, ◌++◌, length, ap, sym, ◌∙◌}
use Rattle.std.proofs.lemmas.List.{length-append}
use Rattle.pv_edits.specs.Indexed.{RecordList}
use Rattle.pv_edits.specs.Room.{frame_count, frames_after, account_count, accounts_after, lease_count, leases_after}
use Rattle.pv_edits.proofs.Counting.{frame_count-push, account_count-push, lease_count-push}
use Rattle.pv_edits.proofs.base.Base.absorb.Goals as goal

-- all counts are those of one record more
pub invariant_of-self : goal.invariant_of-self
invariant_of-self c =
    let records = c.self.inside.records.items in
    let edit = c.args.rec.now in
    let kept = c.self.invariant in
    let items : c.push.new.self.items ≡ records ++ edit ∷ [] = ap (λ (r : RecordList). r.items) c.push.ensures in
    let room : c.push.new.self.room ≡ c.self.inside.records.room = ap (λ (r : RecordList). r.room) c.push.ensures in
    let frames : c.frames_after-frames.result ≡ frames_after records (frame_count records) edit =
    rw (← c.self.view_is) at c.frames_after-frames.ensures in
    let accounts : c.accounts_after-accounts.result ≡ accounts_after records (account_count records) edit =
    rw (← c.self.view_is) at c.accounts_after-accounts.ensures in
    let leased : c.leases_after-leased.result ≡ leases_after records (lease_count records) edit =
    rw (← c.self.view_is) at c.leases_after-leased.ensures in
    let places : length (c.self.inside.places.items ++ c.args.place ∷ []) ≡ length (records ++ edit ∷ []) =
    length-append c.self.inside.places.items (c.args.place ∷ []) ∙ ap (λ n. n + 1) kept.paired ∙ sym (length-append records (edit ∷ [])) in
    record {
      paired = rw (c.push_reserved.ensures.items, items) places;
      records_fit = rw room kept.records_fit;
      places_fit = search (rules, kept.places_fit);
      opening = kept.opening;
      frames_counted = frames ∙ sym (frame_count-push records edit) ∙ ap frame_count (sym items);
      accounts_counted = accounts ∙ sym (account_count-push records edit) ∙ ap account_count (sym items);
      leases_counted = leased ∙ sym (lease_count-push records edit) ∙ ap lease_count (sym items);
    }
