-- How what each image of a disk has goes on over one call of the disk.
use Rattle.std.proofs.Common.{◌≡◌, ℕ, List, length, Option, Some, None, IsSome, IfSome, Result, Ok, Err, OnOk, OnErr, sym, subst, refl}
use Rattle.std.specs.Option.{option_map, ForSome}
use Rattle.pv_outside.specs.Disk.{Torn, text_after_write, NoMore, Turns}
use Rattle.pv_outside.specs.Calls.{WritesAt}
use Rattle.pv_outside.specs.declared.reports.Reports as reports
use Rattle.pv_journal.specs.Journal.{EachImage}

-- what holds whatever was returned holds after an error
pub on_err : {T E P : Type 0} (r : Result T E) → P → OnErr r P
on_err (Ok x) p = tt
on_err (Err e) p = p

-- what two facts after a success give
pub on_ok_both : {T E P Q R : Type 0} (r : Result T E) → (P → Q → R) → OnOk r P → OnOk r Q → OnOk r R
on_ok_both (Ok x) both p q = both p q
on_ok_both (Err e) both p q = tt

-- a `requires` on what is reported, as a clause says it
pub if_told : (o : Option (List ℕ)) (P : List ℕ → Type 0) → ForSome o P → IfSome o P
if_told (Some x) P all = all x refl
if_told None P all = tt

-- what two facts on what is reported give
pub if_both : (o : Option (List ℕ)) (P Q R : List ℕ → Type 0) → ((x : List ℕ) → P x → Q x → R x) → IfSome o P → IfSome o Q → IfSome o R
if_both (Some x) P Q R both p q = both x p q
if_both None P Q R both p q = tt

-- a disk that reports what it reads after a write that failed reported it before
turns_told : (step : List ℕ → List ℕ → Type 0) (old new : Option (List ℕ)) → Turns step old new → IsSome new → IsSome old
turns_told step (Some a) (Some b) turns told = refl
turns_told step (Some a) None turns told = refl
turns_told step None (Some b) turns told = absurd turns
turns_told step None None turns told = told

-- a disk that reports what it reads after a write that succeeded reported it before
map_told : (f : List ℕ → List ℕ) (old new : Option (List ℕ)) → new ≡ option_map f old → IsSome new → IsSome old
map_told f (Some a) new is told = refl
map_told f None new is told = subst (λ (o : Option (List ℕ)). IsSome o) is told

-- if a write gives each text with P one with Q, a disk that read as one with P reads as one with Q
pub if_map : (f : List ℕ → List ℕ) (P Q : List ℕ → Type 0) (old new : Option (List ℕ)) → ((x : List ℕ) → P x → Q (f x))
    → new ≡ option_map f old → IfSome old P → IfSome new Q
if_map f P Q (Some a) new step is p = subst (λ (o : Option (List ℕ)). IfSome o Q) (sym is) (step a p)
if_map f P Q None new step is p = subst (λ (o : Option (List ℕ)). IfSome o Q) (sym is) tt

-- if a failed write makes of each text with P one with Q, a disk that read as one with P reads as one with Q
pub if_turns : (step : List ℕ → List ℕ → Type 0) (P Q : List ℕ → Type 0) (old new : Option (List ℕ))
    → ((x y : List ℕ) → P x → step x y → Q y) → Turns step old new → IfSome old P → IfSome new Q
if_turns step P Q (Some a) (Some b) next turns p = next a b p turns
if_turns step P Q (Some a) None next turns p = tt
if_turns step P Q None (Some b) next turns p = absurd turns
if_turns step P Q None None next turns p = tt

-- what a write makes of each text with P is a step from it, so what the disk reads as has turned by that step
pub turns_map : (step : List ℕ → List ℕ → Type 0) (f : List ℕ → List ℕ) (P : List ℕ → Type 0) (old new : Option (List ℕ))
    → ((x : List ℕ) → P x → step x (f x)) → new ≡ option_map f old → IfSome old P → Turns step old new
turns_map step f P (Some a) new steps is p = subst (Turns step (Some a)) (sym is) (steps a p)
turns_map step f P None new steps is p = subst (Turns step None) (sym is) tt

-- what each image has, the text of the disk has, which is one of them
is_text : (o : Option (List ℕ)) (L P : List ℕ → Type 0) → IfSome o L → (IsSome o → (image : List ℕ) → L image → P image) → IfSome o P
is_text (Some text) L P left each = each refl text left
is_text None L P left each = tt

-- if a crash leaves only what the disk reads as, each image has what that text has
only_text : (o : Option (List ℕ)) (L P : List ℕ → Type 0) → IfSome o (λ text. (image : List ℕ) → L image → image ≡ text) → IfSome o P
    → IsSome o → (image : List ℕ) → L image → P image
only_text (Some text) L P durable p told image left = subst P (sym (durable image left)) p
only_text None L P durable p told image left = absurd (cc told)

module _ {D : Type 0} (g : reports.Ghosts D) where
  -- what each image has, the disk has as it reads
  pub text_of_each : (d : D) (P : List ℕ → Type 0) → IfSome (g.reads d) (g.may_leave d) → EachImage g d P → IfSome (g.reads d) P
  text_of_each d P left each = is_text (g.reads d) (g.may_leave d) P left each

  -- a call that wrote nothing leaves each image what all had before
  pub each_kept : (old new : D) (P : List ℕ → Type 0) → g.reads new ≡ g.reads old → NoMore (g.may_leave old) (g.may_leave new)
      → EachImage g old P → EachImage g new P
  each_kept old new P same no_more each told image left =
      each (subst (λ (o : Option (List ℕ)). IsSome o) same told) image (no_more image left)

  -- a disk that reports what it reads after a write reported it before
  pub writes_told : {T E : Type 0} (old new : D) (r : Result T E) (at : ℕ) (bytes : List ℕ) → WritesAt g at bytes old new r
      → IsSome (g.reads new) → IsSome (g.reads old)
  writes_told old new (Ok x) at bytes writes = map_told (text_after_write at bytes) (g.reads old) (g.reads new) writes.written
  writes_told old new (Err e) at bytes writes = turns_told (Torn at (length bytes)) (g.reads old) (g.reads new) writes.torn

  -- after a sync that succeeded, of a disk that reads as bytes with P, each image has P
  pub each_synced : (new : D) (P : List ℕ → Type 0)
      → IfSome (g.reads new) (λ text. (image : List ℕ) → g.may_leave new image → image ≡ text) → IfSome (g.reads new) P → EachImage g new P
  each_synced new P durable reads = only_text (g.reads new) (g.may_leave new) P durable reads
