use Rattle.std.proofs.Common.{◌≡◌, true, sym, ◌∙◌}
use Rattle.pv_edits.specs.Letters.{is_home}
use Rattle.pv_irc.proofs.Delivering.{room-for_account, home_is_account}
use Rattle.pv_irc.proofs.delivery.deliver.Goals as goal

-- he is an account, so there is room for him
pub arrive-requires : goal.arrive-requires
arrive-requires c =
    let home : is_home c.args.base.now.records c.args.centre c.mail.inside.to ≡ true = sym c.is_home.ensures ∙ c.if-is_home.true in
    record {
      room = room-for_account c.args.boxes.now c.args.base.now.records c.requires c.mail.inside.to
          (home_is_account c.args.base.now.records c.args.centre c.mail.inside.to home);
    }
