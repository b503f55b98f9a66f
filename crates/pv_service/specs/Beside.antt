-- Closures that change a value in place, on threads.
use Rattle.std.specs.Prelude.{◌≡◌}
use denote.Ref.{MutBor}
use denote.Param.Members.{Shared}

module _ {F T : Type 0} (g : Shared F (MutBor T × Unit {0}) (Unit {0} × (MutBor T × Unit {0}))) (f : F) where
  -- it may be called with a `&mut` to this
  abbrev pub Accepts : T → Type 0
  Accepts value = (p : MutBor T) → p.now ≡ value → g.pre f (p, tt)

  -- a call of it with a `&mut` to the one may leave the other there
  pub record Changes (old new : T) : Type 0 where
    pub argument : MutBor T
    pub argument_is : argument.now ≡ old
    pub after_call : MutBor T
    pub call : g.post f (argument, tt) (tt, (after_call, tt))
    pub left : after_call.now ≡ new
