use Rattle.std.proofs.Common.{◌∙◌, arith}
use Rattle.std.proofs.lemmas.List.{length-set}
use Rattle.pv_traffic.specs.Link.{Link, link_in, with_packet}
use Rattle.pv_traffic.proofs.CallerLemmas.{set_again}
use Rattle.pv_traffic.proofs.Rows.{link_set}
use Rattle.pv_traffic.proofs.links.Links.send.Goals as goal
use Rattle.pv_traffic.proofs.links.Links.send.Goals.{After-put-index}

-- the link with the packet
abbrev made : After-put-index → Link
made c = with_packet c.args.way (link_in c.args.self.now c.args.link) c.args.packet.now

-- the link is still there
pub go_on-requires : goal.go_on-requires
go_on-requires c =
    rw c.put-index.ensures.made
    (omega (arith, c.requires.there, length-set c.args.self.now c.args.link (made (goal.at.go_on-requires c).After-put-index)))

-- the packet was made, and the end went on
pub returns-clause-sent : goal.returns-clause-sent
returns-clause-sent c =
    c.go_on.ensures
    ∙ rw (
      c.put-index.ensures.made,
      link_set c.args.self.now c.args.link (made (goal.at.returns-clause-sent c).After-put-index) c.requires.there,
    )
    (set_again c.args.self.now c.args.link (made (goal.at.returns-clause-sent c).After-put-index) _)
