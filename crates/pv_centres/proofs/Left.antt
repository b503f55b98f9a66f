-- What is left of the nodes of a network, from what became of each.
use Rattle.std.proofs.Common.{◌≡◌, ◌∷◌, ◌++◌, Option, None, Some, refl, ap, ◌∙◌}
use Rattle.std.specs.Prelude.{Ok, Err, option_to_list}
use Rattle.std.specs.Option.{option_map}
use Rattle.pv_node.specs.Parts.{Parts}
use Rattle.pv_centres.specs.Closed.{disk_left, disk_of, disks_left, given_back}
use Rattle.pv_centres.specs.Served.{ClosedNode}
use Rattle.pv_centres.specs.declared.closed.ClosedNodes.{ClosedNodes}

module _ {D F : Type 0} where
  -- a node that was given back
  abbrev given : {State Rec : Type 0} → Parts D State Rec → Option (ClosedNode D F State Rec)
  given node = Some (Ok node)

  -- what was given back is there as it was given back
  pub given_is : {State Rec : Type 0} (closed : Option (ClosedNode D F State Rec)) (node : Option (Parts D State Rec))
      → given_back closed ≡ Ok node → closed ≡ option_map Ok node
  given_is None None is = refl
  given_is None (Some node) is = absurd cc
  given_is (Some (Ok one)) None is = absurd cc
  given_is {State} {Rec} (Some (Ok one)) (Some node) is =
      let same : one ≡ node = cc is in ap (given {State = State} {Rec = Rec}) same
  given_is (Some (Err left)) node is = absurd cc

  -- the disk of a node is the same whether it was given back or not
  disk_is : {State Rec : Type 0} (closed : Option (ClosedNode D F State Rec)) → disk_of (given_back closed) ≡ option_map disk_left closed
  disk_is None = refl
  disk_is (Some (Ok node)) = refl
  disk_is (Some (Err left)) = refl

  -- these are the disks of all
  pub all_left : (closed : ClosedNodes D F) (update : D) (first second third fourth : Option D) → update ≡ disk_left closed.update
      → first ≡ disk_of (given_back closed.first) → second ≡ disk_of (given_back closed.second)
      → third ≡ disk_of (given_back closed.third) → fourth ≡ disk_of (given_back closed.fourth)
      → update ∷ (option_to_list first ++ (option_to_list second ++ (option_to_list third ++ option_to_list fourth))) ≡ disks_left closed
  all_left closed update first second third fourth is one two three four =
      rw (is, one ∙ disk_is closed.first, two ∙ disk_is closed.second, three ∙ disk_is closed.third, four ∙ disk_is closed.fourth) refl
