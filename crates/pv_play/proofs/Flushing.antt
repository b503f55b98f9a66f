-- How a run ended, from how its play ended and what the flush after it did.
use Rattle.std.proofs.Common.{◌≡◌, ℕ, ◌≤◌, ◌⊎◌, Bool, List, [], ◌∷◌, ◌++◌, length, take, Option, Some, None, Result, Ok, Err, refl, sym, ap, subst, ◌∙◌, inl, inr, arith}
use Rattle.std.specs.Prelude.{IsSomeAnd, IsErr, OnOk}
use Rattle.std.specs.Io.KnownBytes.{Appends, Keeps, append_known}
use Rattle.std.proofs.lemmas.List.{append-nil}
use Rattle.std.proofs.Math.Seq.{take-length}
use Rattle.pv_outside.specs.Counts.{Rose}
use Rattle.pv_outside.specs.declared.status.Status.{Status}
use Rattle.pv_outside.specs.declared.status.Status.TheVariants.{Done, Usage, BadLine, ReadFault, WriteFault, Memory, TooLong}
use Rattle.pv_words.specs.Lines.{lines_of}
use Rattle.pv_network.specs.Standing.{State}
use Rattle.pv_network.specs.World.{World}
use Rattle.pv_files.specs.declared.standard.StandardOutput.{StandardOutput}
use Rattle.pv_files.specs.Output.{written_bytes, buffered_bytes}
use Rattle.pv_script.specs.Play.{IsTranscript, IsPlayed, StopsAtBadLine, StopsInAnswers, StopsAfterLine, IsPlayOf}
use Rattle.pv_script.specs.Evening.{IsEveningOf}
use Rattle.pv_play.specs.Program.{WritesSummary, IsRunOf}
use Rattle.pv_script.specs.Transcript.{answers}
use Rattle.pv_input.proofs.CallerLemmas.{Appends-kept}

-- ---- what was written stays written

-- if nothing is in the buffer, the writer itself has all that was written
all_flushed : (a b : Option (List ℕ)) (buffer : List ℕ) → Keeps a (append_known b buffer) → buffer ≡ [] → Keeps a b
all_flushed None b buffer kept none = tt
all_flushed (Some x) None buffer kept none = absurd kept
all_flushed (Some x) (Some y) buffer kept none = sym (append-nil y) ∙ ap (λ (l : List ℕ). y ++ l) (sym none) ∙ kept

-- a text that was written whole has gone to the writer then
pub text_flushed : (a b c : Option (List ℕ)) (buffer text : List ℕ) → Appends a b text → Keeps b (append_known c buffer) → buffer ≡ []
    → Appends a c text
text_flushed a b c buffer text written kept none = Appends-kept a b c text written (all_flushed b c buffer kept none)

-- a text that was written whole is a prefix of itself, and stays so
pub whole_is_prefix : (a b c : Option (List ℕ)) (text : List ℕ) → Appends a b text → Keeps b c
    → (count : ℕ) × Appends a c (take count text)
whole_is_prefix a b c text written kept = (length text, subst (λ (l : List ℕ). Appends a c l) (sym (take-length text)) (Appends-kept a b c text written kept))

module _ (centres : ℕ) (first : World) (a b c : Option (List ℕ)) (kept : Keeps b c) where
  -- a transcript that was written stays so
  transcript_kept : (lines : List (List ℕ)) → IsTranscript centres first lines a b → IsTranscript centres first lines a c
  transcript_kept lines t = record { runs = t.runs; read = t.read; written = Appends-kept a b c _ t.written kept }

  -- what was written of a text that was played whole stays so
  played_kept : (text : List ℕ) (network : State) → IsPlayed centres first text network a b → IsPlayed centres first text network a c
  unfolding transcript_kept
  played_kept text network p = record {
    transcript = transcript_kept (lines_of text) p.transcript;
    fates = p.fates;
    stands = p.stands;
    one_list = p.one_list;
    owed = p.owed;
  }

  -- the answers before a bad line stay written
  bad_line_kept : (text : List ℕ) (number : ℕ) → StopsAtBadLine centres first text number a b
      → StopsAtBadLine centres first text number a c
  bad_line_kept text number p = record {
    run = p.run;
    bad = p.bad;
    later = p.later;
    lines = p.lines;
    place = p.place;
    none = p.none;
    transcript = transcript_kept p.run p.transcript;
  }

  -- a prefix of the answers stays written
  in_answers_kept : (text : List ℕ) → StopsInAnswers centres first text a b → StopsInAnswers centres first text a c
  in_answers_kept text p = record {
    run = p.run;
    later = p.later;
    runs = p.runs;
    lines = p.lines;
    read = p.read;
    count = p.count;
    written = Appends-kept a b c _ p.written kept;
  }

  -- the answers of the first lines stay written
  after_line_kept : (text : List ℕ) → StopsAfterLine centres first text a b → StopsAfterLine centres first text a c
  after_line_kept text p = record { run = p.run; later = p.later; lines = p.lines; transcript = transcript_kept p.run p.transcript }

  -- the answers of the first lines are a prefix of all, and stay so
  transcript_is_prefix : (text : List ℕ) (run later : List (List ℕ)) → lines_of text ≡ run ++ later
      → IsTranscript centres first run a b → StopsInAnswers centres first text a c
  transcript_is_prefix text run later lines t =
      let prefix = whole_is_prefix a b c (answers first t.runs) t.written kept in
      record { run = run; later = later; runs = t.runs; lines = lines; read = t.read; count = prefix.0; written = prefix.1 }

-- ---- the end of a run

-- a play that is done has a network
some_network : (network : Option State) (P : State → Type 0) → IsSomeAnd network P → (n : State) × P n
some_network None P is = absurd is
some_network (Some n) P is = (n, is)

-- the bytes were flushed, or the faults rose, at the latest now
which : {T E : Type 0} (flush : Result T E) (buffer : List ℕ) (before mid now : ℕ) → OnOk flush (buffer ≡ []) → (IsErr flush → Rose mid now)
    → before ≤ mid → (buffer ≡ []) ⊎ Rose before now
which (Ok done) buffer before mid now none rose counted = inl none
which (Err failed) buffer before mid now none rose counted = inr (let more = rose refl in omega (arith, more, counted))

module _ {W : Type 0} (contents : W → Option (List ℕ)) (centres : ℕ) (first : World) (text : List ℕ) (network : Option State) (left : Option (List ℕ)) (ended : Bool)
    (before mid now : StandardOutput W) (kept : Keeps (written_bytes contents mid) (written_bytes contents now)) where
  -- the buffer was flushed: the run ended as its play did
  pub flushed : (status : Status) → IsPlayOf centres first text network left ended (written_bytes contents before) (written_bytes contents mid) status
      → buffered_bytes now ≡ []
      → IsRunOf contents centres first text left ended before now status
  flushed Done p none =
      let n = some_network network _ p.1 in
      (p.0, (n.0, played_kept centres first _ _ _ (all_flushed _ _ (buffered_bytes now) kept none) text n.0 n.1), none)
  flushed Usage p none = p
  flushed (BadLine number) p none = (p.0, bad_line_kept centres first _ _ _ (all_flushed _ _ (buffered_bytes now) kept none) text number p.1, none)
  flushed ReadFault p none = p
  flushed WriteFault p none = (p.0, in_answers_kept centres first _ _ _ kept text p.1)
  flushed Memory p none = (p.0, after_line_kept centres first _ _ _ kept text p.1, inl none)
  flushed TooLong p none = p

  -- memory ran out, whether the buffer could be flushed or not
  pub out_of_memory : {T E : Type 0} (status : Status) (flush : Result T E) → IsPlayOf centres first text network left ended (written_bytes contents before) (written_bytes contents mid) status → status ≡ Memory
      → OnOk flush (buffered_bytes now ≡ []) → (IsErr flush → Rose mid.faults now.faults) → before.faults ≤ mid.faults → IsRunOf contents centres first text left ended before now status
  out_of_memory status flush p is none rose counted =
      let q = rw is at p in
      rw is (q.0, after_line_kept centres first _ _ _ kept text q.1, which flush _ before.faults mid.faults now.faults none rose counted)

  -- the whole script was run, or up to a bad line, and the buffer could not be flushed
  pub not_flushed : (status : Status) → IsPlayOf centres first text network left ended (written_bytes contents before) (written_bytes contents mid) status
      → (status ≡ Done) ⊎ ((number : ℕ) × (status ≡ BadLine number)) → IsRunOf contents centres first text left ended before now WriteFault
  not_flushed status p (inl is) =
      let q = rw is at p in
      let n = some_network network _ q.1 in
      (q.0, transcript_is_prefix centres first _ _ _ kept text (lines_of text) [] (sym (append-nil (lines_of text))) n.1.transcript)
  not_flushed status p (inr is) =
      let q = rw is.1 at p in
      (q.0, transcript_is_prefix centres first _ _ _ kept text q.1.run (q.1.bad ∷ q.1.later) q.1.lines q.1.transcript)

-- there was nothing to flush: the run ended as its play did
pub as_played : {W : Type 0} (contents : W → Option (List ℕ)) (centres : ℕ) (first : World) (text : List ℕ) (network : Option State)
    (left : Option (List ℕ)) (ended : Bool) (before now : StandardOutput W) (status : Status)
    → IsPlayOf centres first text network left ended (written_bytes contents before) (written_bytes contents now) status
    → (status ≡ Usage) ⊎ ((status ≡ ReadFault) ⊎ ((status ≡ TooLong) ⊎ (status ≡ WriteFault)))
    → IsRunOf contents centres first text left ended before now status
as_played contents centres first text network left ended before now status p (inl is) = absurd (rw is at p)
as_played contents centres first text network left ended before now status p (inr (inl is)) = rw is (rw is at p)
as_played contents centres first text network left ended before now status p (inr (inr (inl is))) = rw is (rw is at p)
as_played contents centres first text network left ended before now status p (inr (inr (inr is))) = rw is (rw is at p)

-- ---- the end of an evening

-- one that is not done ended as its play did
pub not_summed : {W : Type 0} (contents : W → Option (List ℕ)) (number : ℕ) (network : Option State)
    (before now : StandardOutput W) (status : Status)
    → IsEveningOf number network (written_bytes contents before) (written_bytes contents now) status → (status ≡ Done → ⊥)
    → WritesSummary contents number before now status
not_summed contents number network before now Done is other = absurd (other refl)
not_summed contents number network before now Usage is other = absurd is
not_summed contents number network before now (BadLine place) is other = absurd is
not_summed contents number network before now ReadFault is other = absurd is
not_summed contents number network before now WriteFault is other = (is.0, is.1, (is.2, is.3))
not_summed contents number network before now Memory is other = is
not_summed contents number network before now TooLong is other = absurd is
