use Rattle.std.proofs.Common.{[], ◌∷◌, false, refl, sym, subst, ◌∙◌}
use Rattle.std.proofs.lemmas.List.{length-replicate}
use Rattle.pv_udc.specs.EditList.{empty_list}
use Rattle.pv_network.specs.Centre.{Centre, CentreStands, new_centre}
use Rattle.pv_traffic.specs.Link.{new_link}
use Rattle.pv_network.specs.Standing.{StandsFor}
use Rattle.pv_network.specs.World.{start}
use Rattle.pv_network.proofs.Charged.{charged_start}
use Rattle.pv_network.proofs.Soundness.{sound_start, copy_at}
use Rattle.pv_network.proofs.network.Network.open.Goals as goal
use Rattle.pv_network.proofs.network.Network.open.Goals.{In_ok-open-2}

-- nothing has happened to any centre
started : (c : In_ok-open-2) → StandsFor
    (record {
      update = c.in_ok-open.field-0.state;
      disk = c.in_ok-open.field-0.disk;
      moment = c.of.result;
      seats = c.new.result ∷ c.new.result ∷ c.new.result ∷ c.new.result ∷ [];
      centres = c.in_ok-open_centres.field-0.items;
      links = c.in_ok-open-2.field-0;
      is_out = false;
    }) (start c.args.centres c.args.limits)
started c =
    let limits = c.args.limits in
    let made = c.in_ok-open_centres.ensures in
    record {
      sound = sound_start c.args.centres limits;
      charged = charged_start c.args.centres limits;
      update = c.in_ok-open.ensures.nothing;
      on_disk = c.in_ok-open.ensures.on_disk;
      moment = c.of.ensures;
      seats = rw c.new.ensures refl;
      centres = record {
        count = made.count_is ∙ sym (length-replicate c.args.centres new_centre);
        each = λ k held is. subst (λ (centre : Centre). CentreStands (empty_list limits) k held centre)
            (sym (copy_at new_centre c.args.centres k)) (made.each k held is);
      };
      links = c.in_ok-open-2.ensures;
    }

pub invariant_of-result : goal.invariant_of-result
invariant_of-result c =
    let made = started (goal.at.invariant_of-result c).In_ok-open-2 in (
      rw c.in_ok-open-2.ensures (length-replicate c.args.centres new_link ∙ sym c.in_ok-open_centres.ensures.count_is),
      (start c.args.centres c.args.limits, made),
    )

pub returns-clause-ok : goal.returns-clause-ok
returns-clause-ok c = started (goal.at.returns-clause-ok c).In_ok-open-2
