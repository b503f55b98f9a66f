-- What is in the slots once all jobs were run.
use Rattle.std.proofs.Common.{◌≡◌, ℕ, zero, suc, ◌<◌, List, [], ◌∷◌, length, map, Option, Some, None, refl, sym, ap, subst, ◌∙◌, arith}
use Rattle.std.specs.Prelude.{All, IsSome, slice_index_or}
use Rattle.std.proofs.lemmas.List.{get_or-map, length-map}
use Rattle.pv_outside.specs.Job.{EachMayReturn}
use Rattle.pv_outside.specs.Slots.{RunsJob, AllRun, slot_of}
use Rattle.pv_outside.specs.declared.slots.Slot.{Slot}

-- a slot that has run its job has a value
has_value : {J T : Type 0} (M : J → T → Type 0) (old : Option J) (new : Option T) → IsSome old → RunsJob M old new → IsSome new
has_value M (Some j) (Some v) some run = refl
has_value M (Some j) None some run = absurd run
has_value M None new some run = absurd cc

-- and it is one that the job may return
value_may : {J T : Type 0} (M : J → T → Type 0) (old : Option J) (job : J) (new : Option T) (value : T)
    → old ≡ Some job → new ≡ Some value → RunsJob M old new → M job value
value_may {J} {T} M old job new value is has run =
    subst (λ (o : Option T). RunsJob M (Some job) o) has (subst (λ (o : Option J). RunsJob M o new) is run)

-- each slot begins with a job
has_job : {J T : Type 0} (jobs : List J) (k : ℕ) (s : Slot J T) → k < length jobs → IsSome (slice_index_or (map slot_of jobs) k s).job
has_job [] k s h = absurd (omega arith)
has_job (j ∷ jobs) zero s h = refl
has_job (j ∷ jobs) (suc k) s h = has_job jobs k s (omega arith)

module _ {J T : Type 0} (M : J → T → Type 0) (jobs : List J) (before after : List (Slot J T)) (is : before ≡ map slot_of jobs)
    (run : AllRun M before after) (count : length after ≡ length before) where
  -- there are as many slots as jobs
  slot_count : length after ≡ length jobs
  slot_count = count ∙ ap length is ∙ length-map jobs slot_of

  -- each slot has a value
  pub all_have : All (λ s. IsSome s.done) after
  all_have k s h =
      let here = has_job jobs k s (omega (arith, slot_count)) in
      let job = subst (λ (slots : List (Slot J T)). IsSome (slice_index_or slots k s).job) (sym is) here in
      has_value M _ _ job (run k s (omega (arith, count)))

  -- there are as many values as jobs, and each is one that its job may return
  pub each_may : (values : List T) → map Some values ≡ map (λ (s : Slot J T). s.done) after → EachMayReturn M jobs values
  each_may values are =
      let same : length values ≡ length jobs =
      sym (length-map values Some) ∙ ap length are ∙ length-map after (λ (s : Slot J T). s.done) ∙ slot_count in
      record {
        count = same;
        each = λ k j v h.
            let s : Slot J T = slot_of j in
            let had =
            ap (λ (slots : List (Slot J T)). (slice_index_or slots k s).job) is
            ∙ ap (λ (s : Slot J T). s.job) (get_or-map slot_of jobs k j s h) in
            let gave =
            sym (get_or-map (λ (s : Slot J T). s.done) after k s (Some v) (omega (arith, slot_count)))
            ∙ sym (ap (λ (l : List (Option T)). slice_index_or l k (Some v)) are)
            ∙ get_or-map Some values k v (Some v) (omega (arith, same)) in
            value_may M _ (slice_index_or jobs k j) _ (slice_index_or values k v) had gave (run k s (omega (arith, slot_count, count)));
      }
