-- The centres of a server, by their disks and by their nodes.
use denote.Param.{number}
use Rattle.std.proofs.Common.{◌≡◌, ℕ, ◌≤◌, Option, Some, sym, arith}
use Rattle.pv_irc.specs.contracts.rules.IrcRulesRules.TheImpl as irc
use Rattle.pv_outside.specs.declared.reports.Reports as reports
use Rattle.pv_udc.specs.contracts.rules.UdcRulesRules.TheImpl as udc
use Rattle.pv_centres.specs.Opening.{AreInOrder, DiskPlaces, IsOpenedOver, port_counts, weigh}
use Rattle.pv_centres.specs.Parts.{IfThere}
use Rattle.pv_centres.specs.declared.nodes.OpenedNodes.{OpenedNodes}
use Rattle.pv_serve.specs.Ended.{PlacesInOrder, place_ports}
use Rattle.pv_serve.proofs.Ended.{same_weight}

module _ {D F : Type 0} (g : reports.Ghosts D) (at : DiskPlaces D) (nodes : OpenedNodes D F) where
  -- each node was opened over its disk
  pub record AreOver : Type 0 where
    pub update : IfThere (λ disk o. IsOpenedOver udc.ghosts g disk o.node) at.update (Some nodes.update)
    pub first : IfThere (λ disk o. IsOpenedOver (irc.ghosts (number 0)) g disk o.node) at.first nodes.first
    pub second : IfThere (λ disk o. IsOpenedOver (irc.ghosts (number 1)) g disk o.node) at.second nodes.second
    pub third : IfThere (λ disk o. IsOpenedOver (irc.ghosts (number 2)) g disk o.node) at.third nodes.third
    pub fourth : IfThere (λ disk o. IsOpenedOver (irc.ghosts (number 3)) g disk o.node) at.fourth nodes.fourth

  module _ (over : AreOver) where
    weigh0 : (n : ℕ) → weigh (λ there. n) at.first ≡ weigh (λ there. n) nodes.first
    weigh0 n = same_weight n at.first nodes.first (λ disk o. IsOpenedOver (irc.ghosts (number 0)) g disk o.node) over.first

    weigh1 : (n : ℕ) → weigh (λ there. n) at.second ≡ weigh (λ there. n) nodes.second
    weigh1 n = same_weight n at.second nodes.second (λ disk o. IsOpenedOver (irc.ghosts (number 1)) g disk o.node) over.second

    weigh2 : (n : ℕ) → weigh (λ there. n) at.third ≡ weigh (λ there. n) nodes.third
    weigh2 n = same_weight n at.third nodes.third (λ disk o. IsOpenedOver (irc.ghosts (number 2)) g disk o.node) over.third

    weigh3 : (n : ℕ) → weigh (λ there. n) at.fourth ≡ weigh (λ there. n) nodes.fourth
    weigh3 n = same_weight n at.fourth nodes.fourth (λ disk o. IsOpenedOver (irc.ghosts (number 3)) g disk o.node) over.fourth

    -- the disks are in the order of the nodes
    pub places_in_order : AreInOrder nodes → PlacesInOrder at
    places_in_order order = record {
      second = omega (arith, order.second, weigh0 1, weigh1 1);
      third = omega (arith, order.third, weigh1 1, weigh2 1);
      fourth = omega (arith, order.fourth, weigh2 1, weigh3 1);
    }

    -- and each has the ports of its node
    pub ports_counts : (ports : ℕ) → port_counts ports nodes ≡ place_ports ports at
    ports_counts ports = λ i. record {
      first = sym (weigh0 ports) i;
      second = sym (weigh1 ports) i;
      third = sym (weigh2 ports) i;
      fourth = sym (weigh3 ports) i;
    }
