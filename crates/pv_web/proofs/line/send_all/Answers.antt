use Rattle.std.proofs.Common.{◌∙◌, subst, rules}
use Rattle.std.specs.Io.KnownBytes.{Appends}
use Rattle.tungstenite.proofs.SocketLemmas.{appends-chain}
use Rattle.pv_web.proofs.Pieces.{piece_begun, piece_ended}
use Rattle.pv_web.proofs.line.send_all.Goals as goal

-- the next piece comes after those that were sent
pub loop-at-preserved : goal.loop-at-preserved
loop-at-preserved g c =
    let at = c.loop-at.at in
    let count = c.min-count.result in
    let joined = appends-chain _ _ _ _ _ c.loop-at.invariant.written c.in-Ok.ensures.written in
    record {
      within = search rules;
      written = subst (Appends _ _) (piece_ended at count c.args.bytes.now) joined;
      coming = c.send.ensures.coming ∙ c.loop-at.invariant.coming;
    }

-- a piece that failed was sent in part
pub returns-in-Err-clause-written : goal.returns-in-Err-clause-written
returns-in-Err-clause-written g c =
    let sent = c.in-Err.ensures.written in
    let part = piece_begun c.loop-at.at c.min-count.result sent.0 c.args.bytes.now in
    (part.0, subst (Appends _ _) part.1 (appends-chain _ _ _ _ _ c.loop-at.invariant.written sent.1))
