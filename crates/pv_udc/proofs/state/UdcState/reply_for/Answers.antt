use Rattle.std.proofs.Common.{◌+◌, get_or, refl, sym, ◌∙◌, arith}
use Rattle.std.proofs.lemmas.List.{drop_all}
use Rattle.std.proofs.lemmas.Option.{slice_get-get_or}
use Rattle.pv_edits.specs.declared.record.Record.TheVariants.{Drop}
use Rattle.pv_edits.specs.declared.record.Record.{Record}
use Rattle.pv_udc.specs.Replies.{brings_reply_to}
use Rattle.pv_udc.proofs.Replying.{place_from-found, place_from-passed}
use Rattle.pv_udc.proofs.ReplyLists.{reply_step, no_reply}
use Rattle.pv_udc.proofs.state.UdcState.reply_for.Goals as goal

-- some record
some : Record
some = Drop 0 0 (record { page = 0; letter = 0 })

pub loop-place-init : goal.loop-place-init
loop-place-init c =
    let list = c.args.self.now in
    (c.args.from, c.starting_at-places.ensures list.limits.records list.records c.replies.ensures, refl)

pub brings_reply_to-requires : goal.brings_reply_to-requires
brings_reply_to-requires c =
    let at = c.loop-place in
    let next = reply_step c.args.self.now.records c.args.editor c.starting_at-places.result.now at.place-index 0 at.invariant.0
    c.loop-place-test.true at.invariant.1 in
    next.within

pub returns-then-brings_reply_to : goal.returns-then-brings_reply_to
returns-then-brings_reply_to c =
    let records = c.args.self.now.records in
    let places = c.starting_at-places.result.now in
    let at = c.loop-place in
    let place = get_or places at.place-index 0 in
    let next = reply_step records c.args.editor places at.place-index 0 at.invariant.0 c.loop-place-test.true at.invariant.1 in
    let is = c.brings_reply_to.ensures (get_or records place some) (slice_get-get_or records place some next.within) in
    sym (place_from-found (brings_reply_to records c.args.editor) records place some next.within (sym is ∙ c.if-brings_reply_to.true))
    ∙ sym next.same ∙ at.invariant.2

pub loop-place-preserved : goal.loop-place-preserved
loop-place-preserved c =
    let records = c.args.self.now.records in
    let places = c.starting_at-places.result.now in
    let at = c.loop-place in
    let place = get_or places at.place-index 0 in
    let next = reply_step records c.args.editor places at.place-index 0 at.invariant.0 c.loop-place-test.true at.invariant.1 in
    let is = c.brings_reply_to.ensures (get_or records place some) (slice_get-get_or records place some next.within) in
    let test = brings_reply_to records c.args.editor in
    let passed = place_from-passed test records place some next.within (sym is ∙ c.if-brings_reply_to.false) in
    (place + 1, next.after, sym passed ∙ sym next.same ∙ at.invariant.2)

-- no reply is left
pub returns : goal.returns
returns c =
    let at = c.loop-place in
    let none = drop_all at.place-index c.starting_at-places.result.now (omega (arith, c.loop-place-test.false)) in
    sym (no_reply c.args.self.now.records c.args.editor at.invariant.0 (sym at.invariant.1 ∙ none)) ∙ at.invariant.2
