-- What is done with calls keeps the items of their centre, and may add some.
use Rattle.std.proofs.Common.{◌≡◌, ℕ, Bool, true, false, cond, List, [], ◌∷◌, ◌++◌, Option, Some, None, refl, sym, append-nil}
use Rattle.pv_edits.specs.Sight.{View}
use Rattle.pv_post.specs.declared.item.Item.{Item}
use Rattle.pv_post.specs.declared.item.Item.TheVariants as items
use Rattle.pv_session.specs.declared.entry.Entry.{Entry}
use Rattle.pv_session.specs.declared.step.Paid.{Paid}
use Rattle.pv_session.specs.declared.step.Wish.{Wish}
use Rattle.pv_session.specs.declared.step.Wish.TheVariants as wishes
use Rattle.pv_network.specs.declared.outcome.Outcome.{Outcome}
use Rattle.pv_network.specs.declared.outcome.Outcome.TheVariants as outcomes
use Rattle.pv_network.specs.Call.{Call, is_waiting, wish_to_store, key_turn}
use Rattle.pv_network.specs.Calls.{Calls, Holdings, lacks_room, turn_at, dial_at, hang_at, press_at, with_wish, storing_unless, storing_at, store_at, showing_at, show_at}

-- the items are those that were there, and then more
abbrev pub KeepsItems : Calls → Calls → Type 0
KeepsItems old new = (more : List Item) × (new.items ≡ old.items ++ more)

-- calls with the same items
pub same_items : (calls : Calls) → KeepsItems calls calls
same_items calls = ([], sym (append-nil calls.items))

module _ (calls : Calls) (port : ℕ) where
  -- by a test
  by_test : (test : Bool) (one other : Calls × Outcome) → KeepsItems calls one.0 → KeepsItems calls other.0
      → KeepsItems calls (cond test one other).0
  by_test true one other first second = first
  by_test false one other first second = second

  pub dial_items : (call : Option Call) → KeepsItems calls (dial_at calls port call).0
  dial_items None = same_items calls
  dial_items (Some call) = same_items calls

  pub hang_items : (call : Option Call) → KeepsItems calls (hang_at calls port call).0
  hang_items None = same_items calls
  hang_items (Some call) = same_items calls

  pub press_items : (key : ℕ) (view : View) (moment : ℕ) (entry : Option Entry) (call : Option Call)
      → KeepsItems calls (press_at calls port key view moment entry call).0
  press_items key view moment entry None = same_items calls
  press_items key view moment entry (Some call) =
      by_test (is_waiting call) (calls, outcomes.Owing) (turn_at calls port (key_turn call.seat key view moment entry)) (same_items calls)
      (same_items calls)

  -- a charge, or what is sent, is one item more
  wish_items : (holdings : Holdings) (call : Call) (wish : Wish) → KeepsItems calls (with_wish holdings calls port call wish)
  wish_items holdings call (wishes.LogOn account) = same_items calls
  wish_items holdings call (wishes.Charge line) = (items.Charge line ∷ [], refl)
  wish_items holdings call (wishes.Post item) = (item ∷ [], refl)
  wish_items holdings call (wishes.Remove account number) = same_items calls

  pub store_items : (holdings : Holdings) (call : Option Call) → KeepsItems calls (store_at holdings calls port call).0
  store_items holdings None = same_items calls
  store_items holdings (Some call) = by (wish_to_store call)
    where
      unless : (refused : Bool) (wish : Wish) → KeepsItems calls (storing_unless refused holdings calls port call wish).0
      unless true wish = same_items calls
      unless false wish = wish_items holdings call wish

      by : (wish : Option Wish) → KeepsItems calls (storing_at holdings calls port call wish).0
      by None = same_items calls
      by (Some wish) = unless (lacks_room holdings wish) wish

  pub show_items : (call : Option Call) → KeepsItems calls (show_at calls port call).0
  show_items None = same_items calls
  show_items (Some call) = by call.stored
    where
      by : (stored : Option Paid) → KeepsItems calls (showing_at calls port call.seat stored).0
      by None = same_items calls
      by (Some reply) = same_items calls
