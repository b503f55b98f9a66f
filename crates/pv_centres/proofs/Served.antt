-- What rows of stands have become, in terms of their doors, passes and reports.
use Rattle.std.proofs.Common.{◌≡◌, ℕ, suc, ◌+◌, ◌≤◌, Bool, List, [], ◌∷◌, ◌++◌, length, map, refl, ap, sym, ◌∙◌, subst, arith}
use Rattle.std.specs.Prelude.{All, IfSome, Option, None, Some, Ok, Err}
use Rattle.std.specs.Option.{option_map, unwrap_or}
use Rattle.std.proofs.lemmas.List.{length-map, map-append}
use Rattle.std.proofs.lemmas.List.Elements.{All-head, All-tail}
use Rattle.pv_outside.specs.Counts.{Rose}
use Rattle.pv_outside.specs.declared.limits.Limits.{Limits}
use Rattle.pv_outside.specs.declared.reports.Reports as reports
use Rattle.pv_node.specs.declared.rules.Rules as rules
use Rattle.pv_live.specs.Pass.{Standing, new_passes}
use Rattle.pv_service.specs.Doors.{DoorReport}
use Rattle.pv_service.specs.Rows.{EachBecomes}
use Rattle.pv_service.specs.Serving.{Served, lines_in, IsPortEnd, HasServed}
use Rattle.pv_service.specs.declared.port_report.PortFault.{PortFault}
use Rattle.pv_service.specs.declared.port_report.PortFault.TheVariants as faults
use Rattle.pv_service.specs.declared.port_report.PortReport.{PortReport}
use Rattle.pv_service.proofs.Serving.{length-lines_in}
use Rattle.pv_centres.specs.Opening.{count_of, weigh}
use Rattle.pv_centres.specs.Parts.{IfThere, PerCentre, all_rows, row_lengths}
use Rattle.pv_centres.proofs.Passes.{each_is_new, each_of}
use Rattle.pv_centres.specs.Served.{IsNewPass, IsFreshRow, EachServes, ClosedNode, IsClosedWith, NodeServed, DoorServed, ServesEachDoor, ServedRows, SomeDoorRose, GiveBackMore}

-- ---- what is there, and what is not

-- a centre that is there is there until it is closed
pub there_still : {A B N : Type 0} (P Q : N → Type 0) (opened : Option A) (old new : Option B) (node : Option N)
    → count_of old ≡ count_of opened → count_of new ≡ count_of old → ((n : N) → P n → Q n)
    → IfThere (λ live n. P n) new node → IfThere (λ o n. Q n) opened node
there_still P Q None old None None was is then there = tt
there_still P Q (Some o) old (Some l) (Some n) was is then there = then n there
there_still P Q (Some o) old None closed was is then there = absurd (omega (arith, was, is))
there_still P Q None old (Some l) closed was is then there = absurd (omega (arith, was, is))
there_still P Q opened old None (Some n) was is then there = absurd there
there_still P Q opened old (Some l) None was is then there = absurd there

-- a centre that is not there has no stands
pub none_stands : {A B T : Type 0} (ports : ℕ) (opened : Option A) (live : Option B) (stands : List T) → count_of live ≡ count_of opened
    → length stands ≡ weigh (λ there. ports) opened → live ≡ None → stands ≡ []
none_stands ports None live [] same counted none = refl
none_stands ports None live (stand ∷ stands) same counted none = absurd (omega (arith, counted))
none_stands ports (Some o) live stands same counted none = absurd (omega (arith, same, ap count_of none))

-- ---- a row of new stands

-- new passes were used for nothing
pub all_new : {T : Type 0} (passes : List (Standing T)) (n : ℕ) → passes ≡ new_passes n → All IsNewPass passes
all_new passes n same = subst (All IsNewPass) (sym same) (each_is_new n)

-- so are those of the stands that were made with them
pub row_new : {S T : Type 0} (pass_of : S → Standing T) (stands : List S) (passes : List (Standing T)) → map pass_of stands ≡ passes
    → All IsNewPass passes → All (λ s. IsNewPass (pass_of s)) stands
row_new pass_of stands passes same all = each_of pass_of IsNewPass stands (subst (All IsNewPass) (sym same) all)

-- its doors are as many as it is to have
pub fresh_length : {T Rec O : Type 0} {accepted : O → ℕ} {pass_of : T → Standing Rec} {door_of : T → O} {calls_of : T → ℕ}
    {count calls : ℕ} {stands : List T} → IsFreshRow accepted pass_of door_of calls_of count calls stands
    → length (map door_of stands) ≡ count
fresh_length {door_of = door_of} {stands = stands} fresh = length-map stands door_of ∙ fresh.counted

-- all but the first of two rows
later_become : {T : Type 0} (B : T → T → Type 0) (a b : T) (old new : List T) → EachBecomes B (a ∷ old) (b ∷ new) → EachBecomes B old new
later_become B a b old new all = record {
  count = omega (arith, all.count);
  each = λ k stand within. all.each (suc k) stand (omega (arith, within));
}

module _ {T Rec O L R : Type 0} (accepted : O → ℕ) (pass_of : T → Standing Rec) (door_of : T → O) (calls_of : T → ℕ) (report_of : T → R)
    (state_of : O → L) (Serves : ℕ → Standing Rec → L → Standing Rec → L → R → Type 0) where
  -- what became of a stand by its work
  abbrev pub Becomes : T → T → Type 0
  Becomes old new = Serves (calls_of old) (pass_of old) (state_of (door_of old)) (pass_of new) (state_of (door_of new)) (report_of new)

  -- a row of new stands has served its doors
  row_serves : (calls : ℕ) (old new : List T) → All (λ s. IsNewPass (pass_of s)) old → All (λ s. calls_of s ≡ calls) old
      → EachBecomes Becomes old new
      → EachServes (Serves calls) (map state_of (map door_of old)) (map pass_of new) (map state_of (map door_of new)) (map report_of new)
  row_serves calls [] [] fresh lines all = tt
  row_serves calls [] (b ∷ new) fresh lines all = absurd (omega (arith, all.count))
  row_serves calls (a ∷ old) [] fresh lines all = absurd (omega (arith, all.count))
  row_serves calls (a ∷ old) (b ∷ new) fresh lines all = (
    record {
      start = pass_of a;
      is_new = All-head (λ s. IsNewPass (pass_of s)) a old fresh;
      served = subst
          (λ (n : ℕ). Serves n (pass_of a) (state_of (door_of a)) (pass_of b) (state_of (door_of b)) (report_of b))
          (All-head (λ s. calls_of s ≡ calls) a old lines)
          (all.each 0 a (omega arith));
    },
    row_serves calls old new (All-tail (λ s. IsNewPass (pass_of s)) a old fresh) (All-tail (λ s. calls_of s ≡ calls) a old lines)
        (later_become Becomes a b old new all),
  )

  -- a fresh row
  pub fresh_row_serves : (count calls : ℕ) (old new : List T) → IsFreshRow accepted pass_of door_of calls_of count calls old
      → EachBecomes Becomes old new
      → EachServes (Serves calls) (map state_of (map door_of old)) (map pass_of new) (map state_of (map door_of new)) (map report_of new)
  fresh_row_serves count calls old new fresh all = row_serves calls old new fresh.passes fresh.lines all

  -- its node was served from its opening to its closing
  module _ {S State Request Reply D F : Type 0} (r : rules.Ghosts S State Request Rec Reply) (d : reports.Ghosts D) (limits : Limits)
      (brought : List Rec → ℕ) (Quiet : Type 0) (opening : List Rec) (calls : ℕ) (old new : List T) where
    abbrev pub WasServed : ClosedNode D F State Rec → Type 0
    WasServed = NodeServed (Serves calls) r d limits brought Quiet opening (map state_of (map door_of old))
        (map state_of (map door_of new)) (map report_of new)

    closed_served : (count : ℕ) (node : ClosedNode D F State Rec) → IsFreshRow accepted pass_of door_of calls_of count calls old
        → EachBecomes Becomes old new → IsClosedWith r d limits opening brought Quiet (map pass_of new) node → WasServed node
    closed_served count node fresh all closed = record {
      passes = map pass_of new;
      ports = fresh_row_serves count calls old new fresh all;
      closed = closed;
    }

    -- by its doors and reports, as they were handed back
    pub node_served : (count : ℕ) (olds news : List O) (reports : List R) (node : ClosedNode D F State Rec) → map door_of old ≡ olds
        → news ≡ map door_of new → reports ≡ map report_of new → IsFreshRow accepted pass_of door_of calls_of count calls old
        → EachBecomes Becomes old new → IsClosedWith r d limits opening brought Quiet (map pass_of new) node
        → NodeServed (Serves calls) r d limits brought Quiet opening (map state_of olds) (map state_of news) reports node
    node_served count olds news reports node same_old same_new same_reports fresh all closed =
        rw (← same_old, same_new, same_reports) (closed_served count node fresh all closed)

    -- so it is of a centre, if the network has it
    pub centre_served : {A B : Type 0} (count : ℕ) (opened : Option A) (was live : Option B) (node : Option (ClosedNode D F State Rec))
        → count_of was ≡ count_of opened → count_of live ≡ count_of was → IsFreshRow accepted pass_of door_of calls_of count calls old
        → EachBecomes Becomes old new → IfThere (λ live n. IsClosedWith r d limits opening brought Quiet (map pass_of new) n) live node
        → IfThere (λ o n. WasServed n) opened node
    centre_served count opened was live node same still fresh all closed =
        there_still (IsClosedWith r d limits opening brought Quiet (map pass_of new)) WasServed opened was live node same still
        (λ n one. closed_served count n fresh all one) closed

-- what is so if nothing hides what carriers have stored is so if more is known
module _ {Rec S State Request Reply D F : Type 0} (r : rules.Ghosts S State Request Rec Reply) (d : reports.Ghosts D) (limits : Limits)
    (opening : List Rec) (brought : List Rec → ℕ) (Quiet More : Type 0) (quiet : More → Quiet) where
  closed_quieter : (ports : List (Standing Rec)) (node : ClosedNode D F State Rec) → IsClosedWith r d limits opening brought Quiet ports node
      → IsClosedWith r d limits opening brought More ports node
  closed_quieter ports (Ok node) closed = record {
    carriers = closed.carriers;
    asked = closed.asked;
    closed = closed.closed;
    few = λ more. closed.few (quiet more);
  }
  closed_quieter ports (Err disk) closed = record { carriers = closed.carriers; left = closed.left }

  -- if there is a centre
  pub there_quieter : {B : Type 0} (ports : List (Standing Rec)) (live : Option B) (node : Option (ClosedNode D F State Rec))
      → IfThere (λ l n. IsClosedWith r d limits opening brought Quiet ports n) live node
      → IfThere (λ l n. IsClosedWith r d limits opening brought More ports n) live node
  there_quieter ports None None there = tt
  there_quieter ports (Some l) (Some n) there = closed_quieter ports n there
  there_quieter ports None (Some n) there = absurd there
  there_quieter ports (Some l) None there = absurd there

  -- of a node that was served
  pub served_quieter : {L R : Type 0} (HasServed : Standing Rec → L → Standing Rec → L → R → Type 0) (old new : List L) (reports : List R)
      (node : ClosedNode D F State Rec) → NodeServed HasServed r d limits brought Quiet opening old new reports node
      → NodeServed HasServed r d limits brought More opening old new reports node
  served_quieter HasServed old new reports node served = record {
    passes = served.passes;
    ports = served.ports;
    closed = closed_quieter served.passes node served.closed;
  }

-- ---- what is known from the counts

module _ {P L E D F : Type 0} (Serves : P → Served L E → P → Type 0) (failure_in : E → Option F) (lacked_memory : E
    → Bool) (calls : ℕ) where
  -- there were as many as were to be served, if there was no fault
  all_served : (old new : DoorReport L) (fault : Option (PortFault D F)) (served : List (Served L E))
      → IsPortEnd failure_in fault calls served old new → fault ≡ None → length served ≡ calls
  all_served old new None served ends same = ends.0
  all_served old new (Some fault) served ends same = absurd cc

  -- the count of failed accepts rose, if the door failed
  faults_rose : (old new : DoorReport L) (fault : Option (PortFault D F)) (served : List (Served L E))
      → IsPortEnd failure_in fault calls served old new → fault ≡ Some faults.Door → Rose old.faults new.faults
  faults_rose old new None served ends same = absurd cc
  faults_rose old new (Some faults.Door) served ends same = ends.2
  faults_rose old new (Some (faults.Disk failure)) served ends same = absurd cc

  -- never more than were to be served
  never_more : (old new : DoorReport L) (fault : Option (PortFault D F)) (served : List (Served L E))
      → IsPortEnd failure_in fault calls served old new → length served ≤ calls
  never_more old new None served ends = omega (arith, ends.0)
  never_more old new (Some faults.Door) served ends = omega (arith, ends.0)
  never_more old new (Some (faults.Disk failure)) served ends = ends.0

  -- what a port has served shows in the counts of its door
  door_served : (start end : P) (old new : DoorReport L) (report : PortReport D F)
      → HasServed Serves failure_in lacked_memory calls start old end new report → DoorServed calls old new report
  door_served start end old new report has = record {
    count = length (lines_in has.served);
    accepted = has.door.accepted;
    finished = has.door.finished;
    faults = has.door.faults;
    within = omega (arith, length-lines_in has.served, never_more old new report.fault has.served has.ends);
    all = λ none. length-lines_in has.served ∙ all_served old new report.fault has.served has.ends none;
    rose = λ door. faults_rose old new report.fault has.served has.ends door;
  }

-- so it is of each door of these
pub doors_append : {L D F : Type 0} (calls : ℕ) (olds olds' news news' : List (DoorReport L)) (reports reports' : List (PortReport D F))
    → ServesEachDoor calls olds news reports → ServesEachDoor calls olds' news' reports'
    → ServesEachDoor calls (olds ++ olds') (news ++ news') (reports ++ reports')
doors_append calls [] olds' [] news' [] reports' none more = more
doors_append calls (old ∷ olds) olds' (new ∷ news) news' (report ∷ reports) reports' (one, each) more =
    (one, doors_append calls olds olds' news news' reports reports' each more)
doors_append calls [] olds' [] news' (report ∷ reports) reports' each more = absurd each
doors_append calls [] olds' (new ∷ news) news' reports reports' each more = absurd each
doors_append calls (old ∷ olds) olds' [] news' reports reports' each more = absurd each
doors_append calls (old ∷ olds) olds' (new ∷ news) news' [] reports' each more = absurd each

-- if no port has met a fault, each door has given back as many connections as it was to
pub all_finished : {L D F : Type 0} (calls : ℕ) (olds news : List (DoorReport L)) (reports : List (PortReport D F))
    → ServesEachDoor calls olds news reports → All (λ (r : PortReport D F). r.fault ≡ None) reports
    → GiveBackMore calls olds news
all_finished calls [] [] [] each quiet = refl
all_finished {L} {D} {F} calls (old ∷ olds) (new ∷ news) (report ∷ reports) (one, each) quiet =
    let none = All-head (λ (r : PortReport D F). r.fault ≡ None) report reports quiet in
    let later = All-tail (λ (r : PortReport D F). r.fault ≡ None) report reports quiet in
    let first : new.finished ≡ old.finished + calls = one.finished ∙ ap (λ (n : ℕ). old.finished + n) (one.all none) in
    ap (λ (n : ℕ). n ∷ map (λ (d : DoorReport L). d.finished) news) first
    ∙ ap (λ (ns : List ℕ). (old.finished + calls) ∷ ns) (all_finished calls olds news reports each later)
all_finished calls [] [] (report ∷ reports) each quiet = absurd each
all_finished calls [] (new ∷ news) reports each quiet = absurd each
all_finished calls (old ∷ olds) [] reports each quiet = absurd each
all_finished calls (old ∷ olds) (new ∷ news) [] each quiet = absurd each

-- if one has ended since its door failed, the count of that door rose
pub some_rose : {L D F : Type 0} (calls : ℕ) (olds news : List (DoorReport L)) (before : List (PortReport D F)) (report : PortReport D F)
    (after : List (PortReport D F)) → ServesEachDoor calls olds news (before ++ report ∷ after) → report.fault ≡ Some faults.Door
    → SomeDoorRose olds news
some_rose calls (old ∷ olds) (new ∷ news) [] report after (one, each) door = record {
  place = 0;
  within = omega arith;
  rose = λ k. one.rose door;
}
some_rose calls (old ∷ olds) (new ∷ news) (first ∷ before) report after (one, each) door =
    let later = some_rose calls olds news before report after each door in
    record {
      place = suc later.place;
      within = omega (arith, later.within);
      rose = later.rose;
    }
some_rose calls [] [] [] report after each door = absurd each
some_rose calls [] [] (first ∷ before) report after each door = absurd each
some_rose calls [] (new ∷ news) before report after each door = absurd each
some_rose calls (old ∷ olds) [] before report after each door = absurd each

-- ---- a row and its doors

module _ {Rec L E D F : Type 0} (Serves : Standing Rec → Served L E → Standing Rec → Type 0) (failure_in : E → Option F)
    (lacked_memory : E → Bool) (calls : ℕ) where
  -- what is known from the counts of the doors that were served
  pub doors_served : (olds : List (DoorReport L)) (passes : List (Standing Rec)) (news : List (DoorReport L))
      (reports : List (PortReport D F))
      → EachServes (HasServed Serves failure_in lacked_memory {D = D} calls) olds passes news reports
      → ServesEachDoor calls olds news reports
  doors_served [] [] [] [] each = tt
  doors_served (old ∷ olds) (pass ∷ passes) (new ∷ news) (report ∷ reports) (one, each) = (
    door_served Serves failure_in lacked_memory calls one.start pass old new report one.served,
    doors_served olds passes news reports each,
  )
  doors_served [] [] [] (report ∷ reports) each = absurd each
  doors_served [] [] (new ∷ news) reports each = absurd each
  doors_served [] (pass ∷ passes) news reports each = absurd each
  doors_served (old ∷ olds) [] news reports each = absurd each
  doors_served (old ∷ olds) (pass ∷ passes) [] reports each = absurd each
  doors_served (old ∷ olds) (pass ∷ passes) (new ∷ news) [] each = absurd each

  -- a node's
  pub node_doors : {S State Request Reply N G : Type 0} (r : rules.Ghosts S State Request Rec Reply) (d : reports.Ghosts N) (limits : Limits)
      (brought : List Rec → ℕ) (Quiet : Type 0) (opening : List Rec) (olds news : List (DoorReport L)) (reports : List (PortReport D F))
      (node : ClosedNode N G State Rec)
      → NodeServed (HasServed Serves failure_in lacked_memory {D = D} calls) r d limits brought Quiet opening olds news reports node
      → ServesEachDoor calls olds news reports
  node_doors r d limits brought Quiet opening olds news reports node served = doors_served olds served.passes news reports served.ports

-- ---- a network

-- each of these rows, mapped
abbrev pub map_each : {X Y : Type 0} → (X → Y) → PerCentre (List X) → PerCentre (List Y)
map_each f rows = record {
  first = map f rows.first;
  second = map f rows.second;
  third = map f rows.third;
  fourth = map f rows.fourth;
}

-- four rows that are each so long
pub same_lengths : {X : Type 0} (rows : PerCentre (List X)) (counts : PerCentre ℕ) → length rows.first ≡ counts.first
    → length rows.second ≡ counts.second → length rows.third ≡ counts.third → length rows.fourth ≡ counts.fourth
    → row_lengths rows ≡ counts
same_lengths rows counts first second third fourth = rw (first, second, third, fourth)

-- the rows of four centres, mapped as one list
pub map_rows : {X Y : Type 0} (f : X → Y) (a b c d : List X)
    → map f (a ++ (b ++ (c ++ d))) ≡ map f a ++ (map f b ++ (map f c ++ map f d))
map_rows f a b c d = simp map-append

-- of a centre that is there, what it has was asked of it by its opening
pub there_as : {S T X : Type 0} (f : S → X) (none : X) (P : X → T → Type 0) (old : Option S) (new : Option T)
    → IfThere (λ o n. P (unwrap_or (option_map f old) none) n) old new → IfThere (λ o n. P (f o) n) old new
there_as f none P None None there = tt
there_as f none P (Some o) (Some n) there = there
there_as f none P None (Some n) there = absurd there
there_as f none P (Some o) None there = absurd there

-- and so it was ready
pub ready_as : {S X : Type 0} (f : S → X) (none : X) (P : X → S → Type 0) (old : Option S)
    → IfSome old (λ o. P (f o) o) → IfSome old (λ o. P (unwrap_or (option_map f old) none) o)
ready_as f none P None ready = ready
ready_as f none P (Some o) ready = ready

-- the doors of all rows, and the reports of their ports
abbrev pub served_rows : {X L R : Type 0} (f : X → L) (counts : PerCentre ℕ) (old new : List X) (reports : List R)
    (olds news : PerCentre (List X)) (met : PerCentre (List R)) → row_lengths olds ≡ counts → all_rows olds ≡ old → new ≡ all_rows news
    → reports ≡ all_rows met → ServedRows counts (map f old) (map f new) reports
served_rows f counts old new reports olds news met counted old_rows new_rows met_rows = record {
  olds = map_each f olds;
  news = map_each f news;
  met = met;
  counted = simp length-map counted;
  old_rows = ap (map f) (sym old_rows) ∙ map_rows f olds.first olds.second olds.third olds.fourth;
  new_rows = ap (map f) new_rows ∙ map_rows f news.first news.second news.third news.fourth;
  met_rows = met_rows;
}

-- what is known of the doors of each row is known of all
pub rows_doors : {L D F : Type 0} (calls : ℕ) (counts : PerCentre ℕ) (old new : List (DoorReport L)) (reports : List (PortReport D F))
    (rows : ServedRows counts old new reports)
    → ServesEachDoor calls rows.olds.first rows.news.first rows.met.first
    → ServesEachDoor calls rows.olds.second rows.news.second rows.met.second
    → ServesEachDoor calls rows.olds.third rows.news.third rows.met.third
    → ServesEachDoor calls rows.olds.fourth rows.news.fourth rows.met.fourth → ServesEachDoor calls old new reports
rows_doors calls counts old new reports rows first second third fourth =
    rw (rows.old_rows, rows.new_rows, rows.met_rows)
    (doors_append calls _ _ _ _ _ _ first (doors_append calls _ _ _ _ _ _ second (doors_append calls _ _ _ _ _ _ third fourth)))
