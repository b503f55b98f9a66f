use Rattle.std.proofs.Common.{◌≡◌, ◌+◌, ◌≤◌, [], length, take}
use Rattle.std.specs.Option.{option_map_or}
use Rattle.pv_account.specs.declared.groups.TheConstants.{ACCOUNT_GROUPS}
use Rattle.pv_editor.specs.Groups.{comma_parts}
use Rattle.pv_editor.proofs.SoFar.{AreSoFar}
use Rattle.pv_editor.proofs.groups.numbers_of.Given as goal

-- the numbers so far are those of the first parts
abbrev pub invariant-loop-left : goal.invariant-loop-left
invariant-loop-left l = record {
  whole : length l.numbers ≡ ACCOUNT_GROUPS;
  fits : l.count ≤ ACCOUNT_GROUPS;
  so_far : AreSoFar (comma_parts l.text) (take l.count l.numbers) (option_map_or (λ rest. comma_parts rest.now) l.left []);
}

-- less text is left each time
abbrev pub decreases-loop-left : goal.decreases-loop-left
decreases-loop-left l = option_map_or (λ rest. length rest.now + 1) l.left 0
