-- What is kept beside a centre's base: counts within the limit of records, room for all items, boxes for all accounts, and their letters.
use Rattle.std.specs.Prelude.{◌≡◌, nat_eq, ℕ, suc, ◌+◌, ◌≤◌, ◌<◌, true, List, length}
use Rattle.std.specs.List.{All, IsDistinct}
use Rattle.std.specs.Vec.{vec_capacity}
use Rattle.pv_outside.specs.declared.limits.Limits.{Limits}
use Rattle.pv_post.specs.Boxes.{Boxes, letters_of, has_box}
use Rattle.pv_post.specs.Waiting.{waiting_letters}
use Rattle.pv_post.specs.declared.removal.Removal.{Removal}
use Rattle.pv_edits.specs.Room.{account_count, has_editor}
use Rattle.pv_edits.specs.declared.base.Base.{Base}
use Rattle.pv_edits.specs.declared.record.Record.{Record}
use Rattle.pv_edits.specs.declared.room.TheConstants.{MAX_ACCOUNTS}
use Rattle.pv_irc.specs.History.{letter_of_place}
use Rattle.pv_irc.specs.declared.state.IrcState.TheInside.{Inside}

-- The limits are the base's, and no more records are whole than were applied. All counts are within the limit, and so are the rooms.
pub record IsWithinLimits (base : Base) (limits : Limits) (applied kept log_ons removed items_room removals_room : ℕ) : Type 0 where
  pub same_limits : limits ≡ base.limits
  pub whole : length base.records ≤ applied
  pub within : applied + kept + log_ons + removed ≤ limits.records
  pub items_fit : limits.records ≤ items_room
  pub removals_fit : limits.records ≤ removals_room

-- there is room for the box of each account that there may be: who has a box is an account, and none has two
pub record HaveRoom (mail : Boxes) (records : List Record) : Type 0 where
  pub room : mail.room ≡ MAX_ACCOUNTS
  pub accounts : account_count records ≤ MAX_ACCOUNTS
  pub distinct : IsDistinct nat_eq mail.owners
  pub owners : (account : ℕ) → has_box mail account ≡ true → has_editor records account ≡ true

-- the boxes hold the letters that wait: each whole record has a place among those that were applied, and each removal came by then
pub record HaveLetters (centre : ℕ) (base : Base) (applied : ℕ) (removals : List Removal) (mail : Boxes) : Type 0 where
  pub paired : length base.places ≡ length base.records
  pub placed : All (λ place. place < applied) base.places
  pub stored : All (λ (removal : Removal). removal.place < suc applied) removals
  pub letters : (account : ℕ)
      → letters_of mail account ≡ waiting_letters (letter_of_place centre account base.records base.places) removals account applied

-- all that a centre keeps
pub record IsKeptCentre (state : Inside) : Type 0 where
  pub counts : IsWithinLimits state.base state.limits state.applied (length state.items.items) state.log_ons
      (length state.removals.items) (vec_capacity state.items) (vec_capacity state.removals)
  pub room : HaveRoom state.boxes state.base.records
  pub letters : HaveLetters state.centre state.base state.applied state.removals.items state.boxes
