-- Records that are read from a journal into a state.
use Rattle.std.proofs.Common.{◌≡◌, ℕ, ◌+◌, ◌<◌, ◌≤◌, List, [], ◌∷◌, ◌++◌, length, map, drop, Err, refl, sym, ◌∙◌, ap, subst, arith, append_assoc, rules}
use Rattle.std.proofs.lemmas.List.{map_push, map-append, append-nil, length-append, length-map}
use Rattle.std.proofs.lemmas.List.Elements.{All-push}
use Rattle.pv_outside.specs.declared.reports.Reports as reports
use Rattle.pv_journal.specs.Text.{text_of, Spells}
use Rattle.pv_journal.specs.Log.{Log}
use Rattle.pv_journal.specs.Journal.{DiskSpells, HasMade, IsReading, Remains, ReadsOnly}
use Rattle.pv_journal.specs.Faults.{IsDiskFault, NextShows, NextSpells, IsNext}
use Rattle.pv_journal.specs.declared.fault.OpenFault.{OpenFault}
use Rattle.pv_journal.specs.declared.fault.OpenFault.TheVariants.{Disk, NotFormatted, Broken, TooMany}
use Rattle.pv_journal.proofs.CallerLemmas.{reads_most, reads_then, made_then}
use Rattle.pv_node.specs.declared.rules.Rules as rules
use Rattle.pv_node.specs.Standing.{DiskStands, EachHasRoom, Meets}
use Rattle.pv_node.specs.Opening.{fault_of, gate_after, IsOutside, IsOpenDiskFault, Begins, StopShows, FaultShows, HasRead, HasAll, ComesNext, AreAll}
use Rattle.pv_node.specs.declared.fault.NodeFault.TheVariants as node
use Rattle.pv_node.specs.declared.fault.NodeFault.{NodeFault}
use Rattle.pv_outside.specs.declared.limits.Limits.{Limits}
use Rattle.pv_node.proofs.Rooms.{meets_more}
use Rattle.pv_node.proofs.Records.{all_at, first_of}

module _ {S State Request Rec Reply D : Type 0} (r : rules.Ghosts S State Request Rec Reply) (d : reports.Ghosts D) where
  -- a journal that was read so far has counted the records that were read
  pub read_count : (log : Log D) (state : State) (records : List Rec) → HasRead r d log state records → log.count ≡ length records
  read_count log state records read = read.journal.counted.count ∙ length-map records r.spelling

  -- a disk that stands for records spells their spellings
  pub disk_spells : (disk : D) (records more : List Rec) → DiskStands r d disk (records ++ more)
      → DiskSpells d disk (map r.spelling records ++ map r.spelling more)
  disk_spells disk records more stands =
      (stands.0, stands.1, subst (λ (l : List (List ℕ)). Spells stands.0 l) (map-append r.spelling records more) stands.2.text)

  -- a record that was read from the journal and absorbed joins those that were read
  pub read_more : (grows : (state : State) (records : List Rec) (rec : Rec) → r.stands state records → r.is_record rec → r.fits state rec → length records < (r.limits_of state).records → r.stands (r.after state rec (length records)) (records ++ rec ∷ []))
      (same_room : (one other : State) (records : List Rec) (rec : Rec) → r.stands one records → r.stands other records → r.limits_of one ≡ r.limits_of other → r.fits one rec → r.fits other rec)
      (limits_stay : (state : State) (rec : Rec) (place : ℕ) → r.limits_of (r.after state rec place) ≡ r.limits_of state)
      (old new : Log D) (state after : State) (records : List Rec) (rec : Rec) (body : List ℕ) → HasRead r d old state records
      → IsReading d new (map r.spelling records ++ body ∷ []) → r.is_record rec → r.spelling rec ≡ body → r.fits state rec
      → after ≡ r.after state rec old.count → old.count < (r.limits_of state).records
      → HasRead r d new after (records ++ rec ∷ [])
  read_more grows same_room limits_stay old new state after records rec body read reading spelled is fits absorbed room =
      let count = read_count old state records read in
      let room_for : length records < (r.limits_of state).records = omega (arith, count, room) in
      let stood : r.stands (r.after state rec (length records)) (records ++ rec ∷ []) = grows state records rec read.stood spelled fits room_for in
      record {
        journal =
            subst (λ (l : List (List ℕ)). IsReading d new l)
            (sym (map_push r.spelling records rec ∙ ap (λ (b : List ℕ). map r.spelling records ++ b ∷ []) is)) reading;
        each = All-push r.is_record records rec read.each spelled;
        meets =
            subst (λ (limits : Limits). Meets r limits (records ++ rec ∷ []))
            (sym (ap r.limits_of absorbed ∙ limits_stay state rec old.count))
            (meets_more r same_room (r.limits_of state) state records rec read.meets read.stood refl fits room_for);
        stood = subst (λ (s : State). r.stands s (records ++ rec ∷ [])) (sym (absorbed ∙ ap (r.after state rec) count)) stood;
      }

  -- if a disk stands for those that were read and for more, the next body is the spelling of the first of these
  pub next_is : (one_meaning : (one other : Rec) → r.is_record one → r.is_record other → r.spelling one ≡ r.spelling other → one ≡ other)
      (disk : D) (records more : List Rec) (rec : Rec) (body : List ℕ) (others : List (List ℕ)) → DiskStands r d disk (records ++ more)
      → map r.spelling more ≡ body ∷ others
      → r.is_record rec → r.spelling rec ≡ body → (rest : List Rec) × (more ≡ rec ∷ rest)
  next_is one_meaning disk records more rec body others stands e is spelled = search (rules, first_of, all_at)

  -- if a disk stands for those that were read and for more, the next body is the spelling of a record that has room
  pub next_fits : (disk : D) (state : State) (records more : List Rec) (body : List ℕ) (others : List (List ℕ)) → r.stands state records
      → DiskStands r d disk (records ++ more) → EachHasRoom r (r.limits_of state) (records ++ more) → map r.spelling more ≡ body ∷ others
      → (rec : Rec) × r.is_record rec × (r.spelling rec ≡ body) × r.fits state rec
  next_fits disk state records more body others stood stands room e = search (rules, first_of, all_at)

  -- on a disk that stands for records within the limit, a fault of the journal's reading is a failure of the disk
  pub only_outside : {F : Type 0} (old : Log D) (state : State) (records more : List Rec) (into : List ℕ) (fault : OpenFault D F)
      → HasRead r d old state records → length (records ++ more) ≤ old.limit
      → IsNext old (Err fault) → NextSpells (map r.spelling more) into (Err fault) → IsOutside (fault_of fault)
  only_outside old state records more into (Disk failure) read within known spells = tt
  only_outside old state records more into (NotFormatted kept) read within known spells = spells
  only_outside old state records more into (Broken at) read within known spells = spells
  only_outside old state records more into (TooMany count) read within known spells =
      absurd (omega (arith, read_count old state records read, known.1, spells, within, length-append records more, length-map more r.spelling))

  -- if the journal's reading ends in a fault, the bytes show what the node's fault says
  pub stop_shows : {F : Type 0} (log : Log D) (limits : Limits) (state : State) (records : List Rec) (text into : List ℕ) (fault : OpenFault D F) → HasRead r d log state records
      → log.limit ≡ limits.records → IsNext log (Err fault) → NextShows text (gate_after r records) into (Err fault)
      → StopShows r limits text records state (fault_of fault)
  stop_shows log limits state records text into (Disk failure) read limit known shows = tt
  stop_shows log limits state records text into (NotFormatted kept) read limit known shows = shows
  stop_shows log limits state records text into (Broken at) read limit known shows = shows
  stop_shows log limits state records text into (TooMany count) read limit known shows =
      (shows.0, shows.1, omega (arith, read_count log state records read, known.1, limit))

  -- and they begin with the records that were read
  pub fault_shows : {F : Type 0} (log : Log D) (limits : Limits) (state : State) (records : List Rec) (text : List ℕ) (fault : NodeFault D F) → HasRead r d log state records
      → r.limits_of state ≡ limits → text ≡ text_of (map r.spelling records) ++ drop log.gate text
      → StopShows r (r.limits_of state) text records state fault → FaultShows r limits text fault
  fault_shows {F = F} log limits state records text fault read is begins shows =
      go fault (subst (λ (l : Limits). StopShows r l text records state fault) is shows)
    where
      begun : Begins r limits text records state
      begun = record {
        begins = subst (λ (n : ℕ). text ≡ text_of (map r.spelling records) ++ drop n text) read.journal.counted.gate begins;
        each = read.each;
        meets = subst (λ (l : Limits). Meets r l records) is read.meets;
        stood = read.stood;
        limited = is;
      }

      go : (fault : NodeFault D F) → StopShows r limits text records state fault → FaultShows r limits text fault
      go node.Memory shows = tt
      go (node.Disk failure) shows = tt
      go (node.NotFormatted kept) shows = absurd shows
      go (node.Broken at) shows = (records, state, begun, shows)
      go (node.TooMany count) shows = (records, state, begun, shows)
      go (node.Unreadable number) shows = (records, state, begun, shows)

  -- what is a failure of the disk as a node's fault was one as the journal's
  pub disk_fault : {F : Type 0} (fault : OpenFault D F) → IsOpenDiskFault (fault_of fault) → IsDiskFault fault
  disk_fault (Disk failure) is = tt
  disk_fault (NotFormatted kept) is = is
  disk_fault (Broken at) is = is
  disk_fault (TooMany count) is = is

  -- a disk that remains stands for what it stood for
  pub stands_still : (first now : D) (records : List Rec) → Remains d first now → DiskStands r d first records → DiskStands r d now records
  stands_still first now records same stands = (stands.0, same.reads ∙ stands.1, stands.2)

  -- a replay that began so has read some records, which are the first of any that the disk stands for
  pub record GoesOn (began now : Log D) (first state : State) : Type 0 where
    pub records : List Rec
    pub read : HasRead r d now state records
    pub limit : now.limit ≡ began.limit
    pub limits : r.limits_of state ≡ r.limits_of first
    pub reads : ReadsOnly d now.count ⊥ began.disk now.disk
    pub made : HasMade d now.count began.disk now.disk
    pub begins : (all : List Rec) → DiskStands r d began.disk all → (more : List Rec) × (all ≡ records ++ more)

  -- a replay that has read one record more goes on
  unfoldable pub goes_on : {Fails : Type 0} (began old new : Log D) (first state after : State) (rec : Rec) (so_far : GoesOn began old first state)
      → HasRead r d new after (so_far.records ++ rec ∷ []) → ComesNext r d old.disk so_far.records rec → new.limit ≡ old.limit
      → r.limits_of after ≡ r.limits_of state
      → new.count ≡ old.count + 1 → (⊥ → Fails) → ReadsOnly d 1 Fails old.disk new.disk → HasMade d 1 old.disk new.disk
      → GoesOn began new first after
  goes_on began old new first state after rec so_far read next limit limits count never reads made = record {
    records = so_far.records ++ rec ∷ [];
    read = read;
    limit = limit ∙ so_far.limit;
    limits = limits ∙ so_far.limits;
    reads = reads_most d (omega (arith, count)) never (reads_then d so_far.reads reads);
    made = subst (λ (n : ℕ). HasMade d n began.disk new.disk) (sym count) (made_then d so_far.made made);
    begins = λ all stands.
        let b = so_far.begins all stands in
        let n = next b.0 (subst (λ (l : List Rec). DiskStands r d old.disk l) b.1 (stands_still began.disk old.disk all so_far.reads.same stands)) in
        (n.0, b.1 ∙ ap (λ (l : List Rec). so_far.records ++ l) n.1 ∙ sym (append_assoc so_far.records (rec ∷ []) n.0));
  }

  -- after the last record its calls are one for each that was read, and one more
  pub made_all : (began old new : Log D) (first state after : State) (so_far : GoesOn began old first state)
      → HasAll r d new after so_far.records → HasMade d 1 old.disk new.disk → HasMade d (new.count + 1) began.disk new.disk
  made_all began old new first state after so_far all made =
      subst (λ (n : ℕ). HasMade d (n + 1) began.disk new.disk) (so_far.read.journal.counted.count ∙ sym all.journal.counted.count)
      (made_then d so_far.made made)

  -- after the last record a replay has read all that the disk stands for
  pub all_of : (began old : Log D) (first state : State) (so_far : GoesOn began old first state) → AreAll r d old.disk so_far.records
      → (all : List Rec) → DiskStands r d began.disk all → all ≡ so_far.records
  all_of began old first state so_far are_all all stands =
      let b = so_far.begins all stands in
      b.1 ∙ ap (λ (l : List Rec). so_far.records ++ l) (are_all b.0 (subst (λ (l : List Rec). DiskStands r d old.disk l) b.1 (stands_still began.disk old.disk all so_far.reads.same stands))) ∙ append-nil so_far.records

  -- if the disk stands for records that have room, a fault of the next step is none that the bytes show
  pub fails_outside : {F : Type 0} (began old : Log D) (first state : State) (so_far : GoesOn began old first state) (fault : NodeFault D F)
      → ((records more : List Rec) → HasRead r d old state records → DiskStands r d old.disk (records ++ more) → Meets r (r.limits_of state) (records ++ more) → IsOutside fault)
      → (all : List Rec) → DiskStands r d began.disk all → Meets r (r.limits_of first) all → IsOutside fault
  fails_outside began old first state so_far fault outside all stands meets =
      let b = so_far.begins all stands in
      let still : DiskStands r d old.disk (so_far.records ++ b.0) = subst (λ (l : List Rec). DiskStands r d old.disk l) b.1 (stands_still began.disk old.disk all so_far.reads.same stands) in
      let meeting : Meets r (r.limits_of state) (so_far.records ++ b.0) = subst (λ (l : List Rec). Meets r (r.limits_of state) l) b.1 (subst (λ (limits : Limits). Meets r limits all) (sym so_far.limits) meets) in
      outside so_far.records b.0 so_far.read still meeting
