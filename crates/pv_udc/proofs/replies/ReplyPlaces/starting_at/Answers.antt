use Rattle.std.proofs.Common.{rules, ◌≡◌, ◌-◌, ltb, ◌++◌, length, take, drop, sym, ap, ◌∙◌, arith}
use Rattle.std.proofs.lemmas.List.{take_all, length-drop}
use Rattle.std.proofs.lemmas.List.Sorted.{IsPartitionPoint-from_clause}
use Rattle.pv_udc.specs.Replies.{brings_reply, places_of, reply_places}
use Rattle.pv_udc.proofs.ReplyLists.{parted, part_from, places_of-split, places_of-below, places_of-low}
use Rattle.pv_udc.proofs.replies.ReplyPlaces.starting_at.Goals as goal

-- the places before this one are below it, and those from it on are not
pub returns : goal.returns
returns c = λ room records is.
    let from = c.args.from in
    let low = places_of brings_reply 0 (take from records) in
    let high = reply_places records from in
    let below = places_of-below brings_reply records from in
    let above = places_of-low brings_reply from (drop from records) in
    let start = c.partition_point-start.result in
    let places = c.deref.result.now in
    let split : places ≡ low ++ high = c.deref.ensures.value ∙ is.held ∙ places_of-split brings_reply records from in
    let point = IsPartitionPoint-from_clause (λ n. ltb n from) places start c.partition_point-start.ensures.partitioned
    (rw split (parted low high from below above)) (λ a r q k. search rules) in
    let rest : drop start places ≡ high =
    rw split (part_from low high from below above start (rw (← split) c.partition_point-start.ensures.bound) (rw (← split) point)) in
    let same = c.deref-2.ensures.value ∙ sym c.deref.ensures.value in
    take_all (length c.deref-2.result.now - start) (drop start c.deref-2.result.now) (omega (arith, length-drop start c.deref-2.result.now))
    ∙ ap (drop start) same ∙ rest
