-- The disks of a network's nodes, one after another.
use Rattle.std.proofs.Common.{◌≡◌, ◌≤◌, List, [], ◌++◌, Option, Some, None, sym, ap, subst, ◌∙◌, arith}
use Rattle.std.specs.Prelude.{option_to_list, slice_get, IfSome}
use Rattle.pv_outside.specs.declared.reports.Reports as reports
use Rattle.pv_centres.specs.Opening.{count_of, DiskPlaces, all_disks, KeepsDisk, KeepsDisks}
use Rattle.pv_centres.specs.Parts.{IfThere}

-- The disks that there are come first, so each has the index of its place: what is known of the last three.
module _ {D : Type 0} (P : D → Type 0) where
  pub later_at : (a b c d e : Option D) → count_of a ≡ 1 → count_of c ≤ count_of b → count_of d ≤ count_of c → count_of e ≤ count_of d
      → let l = option_to_list a ++ (option_to_list b ++ (option_to_list c ++ (option_to_list d ++ option_to_list e))) in
      (IfSome c P → IfSome (slice_get l 2) P) × (IfSome d P → IfSome (slice_get l 3) P) × (IfSome e P → IfSome (slice_get l 4) P)
  later_at (Some u) None None None None one x y z = (λ h. h, λ h. h, λ h. h)
  later_at (Some u) (Some v) None None None one x y z = (λ h. h, λ h. h, λ h. h)
  later_at (Some u) (Some v) (Some w) None None one x y z = (λ h. h, λ h. h, λ h. h)
  later_at (Some u) (Some v) (Some w) (Some s) None one x y z = (λ h. h, λ h. h, λ h. h)
  later_at (Some u) (Some v) (Some w) (Some s) (Some t) one x y z = (λ h. h, λ h. h, λ h. h)
  later_at None b c d e one x y z = absurd (omega (arith, one))
  later_at (Some u) None (Some w) d e one x y z = absurd (omega (arith, x))
  later_at (Some u) b None (Some s) e one x y z = absurd (omega (arith, y))
  later_at (Some u) b c None (Some t) one x y z = absurd (omega (arith, z))

module _ {D : Type 0} (g : reports.Ghosts D) where
  -- one place's disk before others
  keeps_one : (a b : Option D) (xs ys : List D) → IfThere (KeepsDisk g) a b → KeepsDisks g xs ys
      → KeepsDisks g (option_to_list a ++ xs) (option_to_list b ++ ys)
  keeps_one None None xs ys one others = others
  keeps_one (Some a) (Some b) xs ys one others = (one, others)
  keeps_one None (Some b) xs ys one others = absurd one
  keeps_one (Some a) None xs ys one others = absurd one

  keeps_last : (a b : Option D) → IfThere (KeepsDisk g) a b → KeepsDisks g (option_to_list a) (option_to_list b)
  keeps_last None None one = tt
  keeps_last (Some a) (Some b) one = (one, tt)
  keeps_last None (Some b) one = absurd one
  keeps_last (Some a) None one = absurd one

  -- each place's disk was kept, and so all
  pub keeps_all : (old new : DiskPlaces D) → IfThere (KeepsDisk g) old.update new.update → IfThere (KeepsDisk g) old.first new.first
      → IfThere (KeepsDisk g) old.second new.second → IfThere (KeepsDisk g) old.third new.third
      → IfThere (KeepsDisk g) old.fourth new.fourth → (olds before news : List D) → olds ≡ all_disks old → before ≡ []
      → news ≡ before ++ all_disks new → KeepsDisks g olds news
  keeps_all old new update first second third fourth olds before news olds_are none news_are =
      let kept = keeps_one old.update new.update _ _ update (keeps_one old.first new.first _ _ first
      (keeps_one old.second new.second _ _ second (keeps_one old.third new.third _ _ third (keeps_last old.fourth new.fourth fourth)))) in
      let are : news ≡ all_disks new = news_are ∙ ap (λ (ds : List D). ds ++ all_disks new) none in
      subst (λ (ds : List D). KeepsDisks g ds news) (sym olds_are) (subst (KeepsDisks g (all_disks old)) (sym are) kept)
