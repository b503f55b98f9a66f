-- After any runs of one tape the account has a prefix of its edits, each once.
use Rattle.std.proofs.Common.{◌≡◌, ℕ, zero, suc, ◌+◌, ◌-◌, ◌<◌, ◌≤◌, Bool, true, false, List, [], ◌∷◌, ◌++◌, length, take, drop, Option}
use Rattle.std.proofs.Common.{Some, None, refl, sym, ap, subst, ◌∙◌, arith, append_assoc, eqb}
use Rattle.std.specs.Prelude.{nat_le, filter, slice_get}
use Rattle.std.proofs.lemmas.Bool.{le-leb, leb-false}
use Rattle.std.proofs.lemmas.List.{append-nil}
use Rattle.std.proofs.lemmas.List.Elements.{filter-append}
use Rattle.std.proofs.lemmas.Bool.{eq-eqb}
use Rattle.pv_edits.specs.Edits.{is_edit_of, number_in}
use Rattle.pv_edits.specs.declared.record.Record.{Record}
use Rattle.pv_edits.specs.declared.wish.EditWish.{EditWish}
use Rattle.pv_edits.specs.declared.wish.EditWish.TheVariants.{Put, Drop, Account, Lease}
use Rattle.pv_udc.specs.Requests.{edit_of}
use Rattle.pv_udc.specs.Judgement.{last_edit}
use Rattle.pv_udc.proofs.CallerLemmas.{last_edit-his, last_edit-others, last_edit-there}
use Rattle.pv_editor.specs.Say.{number_of_last}
use Rattle.pv_tape.specs.Laws.{Run, lone_run, IsWhole, records_after_run, records_after_runs, HasNoEdits, HasOnlyOthers, is_from, edits_from}
use Rattle.pv_tape.specs.Loading.{last_number_of, edit_records, wanted_records}
use Rattle.pv_tape.specs.Tape.{TapeEdit}
use Rattle.pv_tape.specs.declared.head.Head.{Head}
use Rattle.pv_tape.proofs.Progressing.{length_drop}

-- ---- lists

-- what is known of a list from what is left after some elements
record IsSplit {A : Type 0} (k : ℕ) (l : List A) (x : A) (xs : List A) : Type 0 where
  later : drop (suc k) l ≡ xs
  before : take (suc k) l ≡ take k l ++ x ∷ []
  within : suc k ≤ length l

abbrev head_or : {A : Type 0} → A → List A → A
head_or other [] = other
head_or other (x ∷ xs) = x

abbrev tail_of : {A : Type 0} → List A → List A
tail_of [] = []
tail_of (x ∷ xs) = xs

split_at : {A : Type 0} (k : ℕ) (l : List A) (x : A) (xs : List A) → drop k l ≡ x ∷ xs → IsSplit k l x xs
split_at zero [] x xs is = absurd cc
split_at zero (y ∷ ys) x xs is =
    record { later = ap tail_of is; before = ap (λ (z : _). z ∷ []) (ap (head_or x) is); within = omega arith }
split_at (suc k) [] x xs is = absurd cc
split_at (suc k) (y ∷ ys) x xs is =
    let at = split_at k ys x xs is in
    record { later = at.later; before = ap (λ (l : List _). y ∷ l) at.before; within = (let w = at.within in omega (arith, w)) }

-- nothing is left only after all elements
all_before : {A : Type 0} (k : ℕ) (l : List A) → drop k l ≡ [] → k ≤ length l → k ≡ length l
all_before zero [] is within = refl
all_before zero (y ∷ ys) is within = absurd cc
all_before (suc k) [] is within = absurd (omega (arith, within))
all_before (suc k) (y ∷ ys) is within = let same = all_before k ys is (omega (arith, within)) in ap suc same

-- a prefix of all elements and more is all
take_all : {A : Type 0} (k : ℕ) (l : List A) → length l ≤ k → take k l ≡ l
take_all zero [] over = refl
take_all zero (y ∷ ys) over = absurd (omega (arith, over))
take_all (suc k) [] over = refl
take_all (suc k) (y ∷ ys) over = ap (λ (l : List _). y ∷ l) (take_all k ys (omega (arith, over)))

-- ---- a run alone

-- before which nothing else was stored: what is left of it is the records and the edits that are stored
pub after_run : (head : Head) (edits : List TapeEdit) (records : List Record) (n : ℕ)
    → records ++ take n (wanted_records records head edits) ≡ records_after_run head edits records (lone_run n)
after_run head edits records n =
    ap (λ (l : List Record). l ++ take n (wanted_records l head edits)) (sym (append-nil records))

-- all of them are, if it is whole
pub whole_run : (head : Head) (edits : List TapeEdit) (records : List Record)
    → IsWhole head edits records (lone_run (length (wanted_records records head edits)))
whole_run head edits records = ap (λ (l : List Record). length (wanted_records l head edits)) (sym (append-nil records))

pub after_whole_run : (head : Head) (edits : List TapeEdit) (records : List Record)
    → records ++ wanted_records records head edits
    ≡ records_after_run head edits records (lone_run (length (wanted_records records head edits)))
after_whole_run head edits records =
    ap (λ (l : List Record). records ++ l) (sym (take_all _ (wanted_records records head edits) (omega arith)))
    ∙ after_run head edits records (length (wanted_records records head edits))

-- ---- an edit of the tape

-- whose edit the record of a wish is, and its number
is_edit_of-wish : (editor other q : ℕ) (wish : EditWish) → is_edit_of editor (edit_of other q wish) ≡ eqb editor other
is_edit_of-wish editor other q (Put name frame) = refl
is_edit_of-wish editor other q (Drop name) = refl
is_edit_of-wish editor other q (Account account) = refl
is_edit_of-wish editor other q (Lease root account) = refl

number_in-wish : (editor q : ℕ) (wish : EditWish) → number_in (edit_of editor q wish) ≡ Some q
number_in-wish editor q (Put name frame) = refl
number_in-wish editor q (Drop name) = refl
number_in-wish editor q (Account account) = refl
number_in-wish editor q (Lease root account) = refl

module _ (account : ℕ) where
  -- it is the account's, and has its number
  record IsNumbered (edit : Record) (q : ℕ) : Type 0 where
    his : is_edit_of account edit ≡ true
    numbered : number_in edit ≡ Some q

  numbered_edit : (k q : ℕ) (edits : List TapeEdit) (x : Record) (xs : List Record)
      → drop k (edit_records account q edits) ≡ x ∷ xs → IsNumbered x (q + k)
  numbered_edit zero q [] x xs is = absurd cc
  numbered_edit zero q (edit ∷ later) x xs is =
      let same : edit_of account q edit.wish ≡ x = ap (head_or x) is in
      let here : q ≡ q + 0 = omega arith in
      record {
        his = ap (is_edit_of account) (sym same) ∙ is_edit_of-wish account account q edit.wish ∙ eq-eqb account account refl;
        numbered = ap number_in (sym same) ∙ number_in-wish account q edit.wish ∙ ap Some here;
      }
  numbered_edit (suc k) q [] x xs is = absurd cc
  numbered_edit (suc k) q (edit ∷ later) x xs is =
      let at = numbered_edit k (q + 1) later x xs is in
      let here : q + 1 + k ≡ q + suc k = omega arith in
      record { his = at.his; numbered = at.numbered ∙ ap Some here }

-- ---- runs

module _ (head : Head) (edits : List TapeEdit) where
  abbrev all : List Record
  all = edit_records head.account head.first edits

  abbrev his : List Record → List Record
  his records = edits_from head.account head.first records

  -- the account has the first k edits of the tape, and its last number is that of the last of them
  record HasFirst (records : List Record) (k : ℕ) : Type 0 where
    within : k ≤ length all
    edits_are : his records ≡ take k all
    last : last_number_of records head.account + 1 - head.first ≡ k

  -- another's record changes nothing
  other_keeps : (records : List Record) (k : ℕ) (edit : Record) → is_edit_of head.account edit ≡ false
      → HasFirst records k → HasFirst (records ++ edit ∷ []) k
  other_keeps records k edit other has = record {
    within = has.within;
    edits_are = filter-append _ records (edit ∷ []) ∙ rw other (append-nil (his records)) ∙ has.edits_are;
    last = ap (λ (l : Option (ℕ × ℕ)). number_of_last l + 1 - head.first) (last_edit-others records edit head.account other) ∙ has.last;
  }

  others_keep : (others records : List Record) (k : ℕ) → HasNoEdits head.account others → HasFirst records k
      → HasFirst (records ++ others) k
  others_keep [] records k none has = subst (λ (l : List Record). HasFirst l k) (sym (append-nil records)) has
  others_keep (edit ∷ others) records k none has =
      subst (λ (l : List Record). HasFirst l k) (append_assoc records (edit ∷ []) others)
      (others_keep others (records ++ edit ∷ []) k none.1 (other_keeps records k edit none.0 has))

  -- the next edit of the tape is one more
  next_keeps : (records : List Record) (k : ℕ) (x : Record) (xs : List Record) → drop k all ≡ x ∷ xs → HasFirst records k
      → HasFirst (records ++ x ∷ []) (suc k)
  next_keeps records k x xs is has =
      let at = split_at k all x xs is in
      let edit = numbered_edit head.account k head.first edits x xs is in
      let from : is_from head.first (number_in x) ≡ true =
      ap (is_from head.first) edit.numbered ∙ le-leb head.first (head.first + k) (omega arith) in
      let last : last_number_of (records ++ x ∷ []) head.account ≡ head.first + k =
      ap number_of_last (last_edit-his records x head.account (head.first + k) edit.his edit.numbered) in
      record {
        within = at.within;
        edits_are = filter-append _ records (x ∷ [])
            ∙ rw (edit.his, from) (ap (λ (l : List Record). l ++ x ∷ []) has.edits_are) ∙ sym at.before;
        last = omega (arith, last);
      }

  -- so are the next ones, as many as are stored
  abbrev Keeps : ℕ → List Record → ℕ → List Record → Type 0
  Keeps n records k left = (m : ℕ) × HasFirst (records ++ take n left) m × (length all ≤ k + n → m ≡ length all)

  stored_by : (n : ℕ) (records : List Record) (k : ℕ) → HasFirst records k
      → ((x : Record) (xs : List Record) → drop k all ≡ x ∷ xs → Keeps n (records ++ x ∷ []) (suc k) (drop (suc k) all))
      → (left : List Record) → drop k all ≡ left → Keeps (suc n) records k left
  stored_by n records k has next [] is =
      (k, subst (λ (l : List Record). HasFirst l k) (sym (append-nil records)) has, λ over. all_before k all is has.within)
  stored_by n records k has next (x ∷ xs) is =
      let at = split_at k all x xs is in
      let more = next x xs is in (
        more.0,
        subst (λ (l : List Record). HasFirst l more.0)
            (ap (λ (l : List Record). (records ++ x ∷ []) ++ take n l) at.later ∙ append_assoc records (x ∷ []) (take n xs)) more.1,
        λ over. more.2 (omega (arith, over)),
      )

  stored_keep : (n : ℕ) (records : List Record) (k : ℕ) → HasFirst records k → Keeps n records k (drop k all)
  stored_keep zero records k has = (
    k,
    subst (λ (l : List Record). HasFirst l k) (sym (append-nil records)) has,
    λ over. let w = has.within in omega (arith, over, w),
  )
  stored_keep (suc n) records k has =
      stored_by n records k has (λ x xs is. stored_keep n (records ++ x ∷ []) (suc k) (next_keeps records k x xs is has)) (drop k all) refl

  -- a run
  run_keeps : (records : List Record) (run : Run) (k : ℕ) → HasNoEdits head.account run.others → HasFirst records k
      → (m : ℕ) × HasFirst (records_after_run head edits records run) m × (length all ≤ k + run.stored → m ≡ length all)
  run_keeps records run k none has =
      let before = others_keep run.others records k none has in
      let stored = stored_keep run.stored (records ++ run.others) k before in (
        stored.0,
        subst (λ (n : ℕ). HasFirst ((records ++ run.others) ++ take run.stored (drop n all)) stored.0) (sym before.last) stored.1,
        stored.2,
      )

  runs_keep : (runs : List Run) (records : List Record) (k : ℕ) → HasOnlyOthers head.account runs → HasFirst records k
      → (m : ℕ) × HasFirst (records_after_runs head edits records runs) m
  runs_keep [] records k none has = (k, has)
  runs_keep (run ∷ runs) records k none has =
      let one = run_keeps records run k none.0 has in
      runs_keep runs (records_after_run head edits records run) one.0 none.1 one.1

  -- ---- the beginning

  -- a record that passes a test which none passes is not there
  none_here : (test : Record → Bool) (x : Record) (xs : List Record) (edit : Record)
      → ((place : ℕ) → filter test xs ≡ [] → slice_get xs place ≡ Some edit → ⊥)
      → (passes_x : Bool) → test x ≡ passes_x → filter test (x ∷ xs) ≡ [] → (place : ℕ) → slice_get (x ∷ xs) place ≡ Some edit
      → test edit ≡ true → ⊥
  none_here test x xs edit later true is none place there passes = let some : x ∷ filter test xs ≡ [] = rw is at none in absurd cc
  none_here test x xs edit later false is none zero there passes =
      let same : x ≡ edit = cc in let never : false ≡ true = sym is ∙ ap test same ∙ passes in absurd cc
  none_here test x xs edit later false is none (suc place) there passes =
      let rest : filter test xs ≡ [] = rw is at none in later place rest there

  none_passes : (test : Record → Bool) (records : List Record) (place : ℕ) (edit : Record) → filter test records ≡ []
      → slice_get records place ≡ Some edit → test edit ≡ true → ⊥
  none_passes test [] place edit none there passes = absurd cc
  none_passes test (x ∷ xs) place edit none there passes =
      none_here test x xs edit (λ at rest here. none_passes test xs at edit rest here passes) (test x) refl none place there passes

  -- an account without an edit from the first number on has a last number below it
  last_below : (records : List Record) → 1 ≤ head.first → his records ≡ [] → last_number_of records head.account < head.first
  last_below records some none = by (last_edit records head.account) refl
    where
      over : (q place : ℕ) → last_edit records head.account ≡ Some (q, place) → (ge : Bool) → nat_le head.first q ≡ ge → q < head.first
      over q place is false less = leb-false head.first q less
      over q place is true more =
          let there = last_edit-there records head.account q place is in
          let from : is_from head.first (number_in there.edit) ≡ true = ap (is_from head.first) there.numbered ∙ more in
          absurd (none_passes _ records place there.edit none there.there (rw (there.his, from) refl))

      by : (last : Option (ℕ × ℕ)) → last_edit records head.account ≡ last → number_of_last last < head.first
      by None is = omega (arith, some)
      by (Some last) is = over last.0 last.1 is (nat_le head.first last.0) refl

  has_none : (records : List Record) → 1 ≤ head.first → his records ≡ [] → HasFirst records 0
  has_none records some none =
      let below = last_below records some none in
      record { within = omega arith; edits_are = none; last = omega (arith, below) }

  -- ---- the laws

  pub runs_leave : (runs : List Run) (records : List Record) → 1 ≤ head.first → his records ≡ []
      → HasOnlyOthers head.account runs → (k : ℕ) × (his (records_after_runs head edits records runs) ≡ take k all)
  runs_leave runs records some none between =
      let left = runs_keep runs records 0 between (has_none records some none) in
      (left.0, left.1.edits_are)

  pub whole_leaves : (runs : List Run) (run : Run) (records : List Record) → 1 ≤ head.first → his records ≡ []
      → HasOnlyOthers head.account runs → HasNoEdits head.account run.others
      → IsWhole head edits (records_after_runs head edits records runs) run
      → his (records_after_run head edits (records_after_runs head edits records runs) run) ≡ all
  whole_leaves runs run records some none between others whole =
      let left = runs_keep runs records 0 between (has_none records some none) in
      let before = records_after_runs head edits records runs in
      let last = run_keeps before run left.0 others left.1 in
      let asked : last_number_of (before ++ run.others) head.account + 1 - head.first ≡ left.0 =
      (others_keep run.others before left.0 others left.1).last in
      let size = length_drop (last_number_of (before ++ run.others) head.account + 1 - head.first) all in
      let m : last.0 ≡ length all = last.2 (omega (arith, size, whole, asked)) in
      last.1.edits_are ∙ take_all last.0 all (omega (arith, m))
