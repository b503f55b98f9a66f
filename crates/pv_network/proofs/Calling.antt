-- What a centre does with its calls is done in each world that the network stands for.
use Rattle.std.proofs.Common.{◌≡◌, ℕ, ◌<◌, ◌≤◌, List, length, map, take, get_or, set, Option, refl, sym, ap, subst, ◌∙◌}
use Rattle.std.proofs.lemmas.List.{length-map, length-take-le}
use Rattle.pv_post.specs.Boxes.{WaitingLetter}
use Rattle.pv_post.specs.Waiting.{waiting_letters}
use Rattle.pv_edits.specs.Letters.{letter_at}
use Rattle.pv_edits.specs.declared.down.DownRecord.{DownRecord}
use Rattle.pv_edits.specs.declared.record.Record.{Record}
use Rattle.pv_edits.specs.Sight.{View, sight_of}
use Rattle.pv_irc.specs.History.{CentreState, state_count, letters_for, letter_down, IsOfDowns}
use Rattle.pv_nodes.specs.Below.{records_below}
use Rattle.pv_session.specs.declared.entry.Entry.{Entry}
use Rattle.pv_udc.specs.EditList.{EditList}
use Rattle.pv_udc.specs.Replies.{down_of}
use Rattle.pv_network.specs.declared.outcome.BillLine.{BillLine}
use Rattle.pv_network.specs.declared.outcome.Outcome.{Outcome}
use Rattle.pv_network.specs.Calling.{calls_at, call_at, letters_at, holdings_at, with_calls, step_of_dial, step_of_hang, step_of_press, step_of_store, step_of_show}
use Rattle.pv_network.specs.Calls.{Calls, Holdings, given_account, call_in, dial_at, hang_at, press_at, store_at, show_at, IsPortEntry}
use Rattle.pv_network.specs.Charging.{IsChargedWorld, SeatLaws}
use Rattle.pv_network.specs.Centre.{Centre, Held, CentreStands, Comes, Pressed, calls_of, holdings_of, record_count, node_state}
use Rattle.pv_network.specs.Crashing.{crash_at, step_of_lost_calls}
use Rattle.pv_network.specs.Sound.{IsSound}
use Rattle.pv_network.specs.Standing.{State, StandsFor}
use Rattle.pv_network.specs.World.{World, StoppedCall, centre_at, page_base}
use Rattle.pv_network.proofs.Charged.{charged_dial, charged_hang, charged_press, charged_store, charged_show, charged_lost_calls}
use Rattle.pv_network.proofs.Soundness.{sound_dial, sound_hang, sound_press, sound_store, sound_show, sound_lost_calls}
use Rattle.pv_network.proofs.Standing.{calls_are, held_there, centre_stands, centre_replaced}

-- ---- the letters that wait

-- a law of centres: what waits is what the places of what came down brought
abbrev pub LettersByPlaces : Type 0
LettersByPlaces = (state : CentreState) (downs : List DownRecord) → IsOfDowns state downs → (account : ℕ)
    → letters_for state account ≡ waiting_letters (letter_down state.centre account downs) state.removals account (length downs)

-- another: each place brings what it brings in the list
abbrev pub LettersBelow : Type 0
LettersBelow = (records : List Record) (centre account place : ℕ)
    → letter_down centre account (map down_of records) place ≡ letter_at records centre account place

-- so what waits at a node is what the prefix of the list brought
letters_there : LettersByPlaces → LettersBelow → (c : ℕ) (u : EditList) (centre : Centre) → centre.applied ≤ length u.records
    → (account : ℕ) → letters_for (node_state c u centre) account
    ≡ waiting_letters (letter_at (take centre.applied u.records) c account) centre.calls.removals account centre.applied
letters_there by_places below c u centre within account =
    let prefix = take centre.applied u.records in
    let count : centre.applied ≡ length (map down_of prefix) =
    sym (length-map prefix down_of ∙ length-take-le centre.applied u.records within) in
    by_places (node_state c u centre) (map down_of prefix) (record { applied = count; edits = refl; places = refl }) account
    ∙ (λ i. waiting_letters (λ place. below prefix c account place i) centre.calls.removals account (sym count i))

-- ---- a centre's calls

module _ (s : State) (w : World) (stands : StandsFor s w) (c : ℕ) (here : Held) (there : c < length s.centres)
    (read : here ≡ get_or s.centres c here) where
  -- the centre stands for the world's
  stood : CentreStands w.update c here (centre_at w c)
  stood = centre_stands s w stands c here there read

  -- its calls are those of the world
  pub calls_there : calls_of here ≡ calls_at w c
  calls_there = calls_are w.update c here (centre_at w c) stood

  -- it stores by what the world's stores by: as many records wait and the same letters
  pub holdings_there : LettersByPlaces → LettersBelow → holdings_of here.node.state ≡ holdings_at w c
  holdings_there by_places below = ap holdings_of stood.state ∙ (λ i. record {
    limit = w.update.limits.records;
    count = record_count (centre_at w c);
    applied = (centre_at w c).applied;
    letters = λ account. letters_there by_places below c w.update (centre_at w c) stood.within account i;
  })

  module _ (port : ℕ) (new : Held) (outcome : Outcome) where
    -- the network with this centre in its place
    abbrev after : State
    after = record s { centres = set s.centres c new }

    -- what is done with the centre's calls is done with the world's
    does : (step : Calls → Calls × Outcome) (shown : List BillLine) (stopped : List StoppedCall)
        → Comes here new outcome (step (calls_of here))
        → IsSound (record (with_calls w c (step (calls_at w c)).0) { shown = shown; stopped = stopped })
        → IsChargedWorld (record (with_calls w c (step (calls_at w c)).0) { shown = shown; stopped = stopped })
        → StandsFor after (record (with_calls w c (step (calls_at w c)).0) { shown = shown; stopped = stopped })
        × (outcome ≡ (step (calls_at w c)).1)
    does step shown stopped comes sound charged =
        let same : step (calls_of here) ≡ step (calls_at w c) = ap step calls_there in (
          centre_replaced s w stands c new (record (centre_at w c) { calls = (step (calls_at w c)).0 }) shown stopped
              (record {
                within = stood.within;
                state = comes.state ∙ (λ i. record (stood.state i) {
                  items = (same i).0.items;
                  log_ons = (same i).0.log_ons;
                  removals = (same i).0.removals;
                });
                on_disk = comes.on_disk stood.on_disk;
                ports = comes.ports ∙ ap (λ (done : Calls × Outcome). done.0.ports) same;
              }) sound charged,
          comes.answer ∙ ap (λ (done : Calls × Outcome). done.1) same,
        )

    pub dials : SeatLaws → Comes here new outcome (dial_at (calls_of here) port (call_in (calls_of here) port))
        → StandsFor after (step_of_dial w c port).0 × (outcome ≡ (step_of_dial w c port).1)
    dials laws comes = does (λ calls. dial_at calls port (call_in calls port)) w.shown w.stopped comes
        (sound_dial w c port stands.sound) (charged_dial w c stands.charged port stands.sound laws)

    pub hangs : Comes here new outcome (hang_at (calls_of here) port (call_in (calls_of here) port))
        → StandsFor after (step_of_hang w c port).0 × (outcome ≡ (step_of_hang w c port).1)
    hangs comes = does (λ calls. hang_at calls port (call_in calls port)) w.shown (step_of_hang w c port).0.stopped comes
        (sound_hang w c port stands.sound) (charged_hang w c stands.charged port stands.sound)

    pub crashes : Comes here new outcome (crash_at (state_count here.node.state) (calls_of here))
        → StandsFor after (step_of_lost_calls w c).0 × (outcome ≡ (step_of_lost_calls w c).1)
    crashes comes = does (crash_at (record_count (centre_at w c))) w.shown (step_of_lost_calls w c).0.stopped
        (subst (λ (n : ℕ). Comes here new outcome (crash_at n (calls_of here))) (held_there w.update c here (centre_at w c) stood) comes)
        (sound_lost_calls w c stands.sound) (charged_lost_calls w c stands.charged stands.sound)

    pub shows : SeatLaws → Comes here new outcome (show_at (calls_of here) port (call_in (calls_of here) port))
        → StandsFor after (step_of_show w c port).0 × (outcome ≡ (step_of_show w c port).1)
    shows laws comes = does (λ calls. show_at calls port (call_in calls port)) (step_of_show w c port).0.shown w.stopped comes
        (sound_show w c port stands.sound) (charged_show w c stands.charged port stands.sound laws)

    -- it stores by what the world's stores by
    pub stores : LettersByPlaces → LettersBelow → Comes here new outcome
        (store_at (holdings_of here.node.state) (calls_of here) port (call_in (calls_of here) port))
        → StandsFor after (step_of_store w c port).0 × (outcome ≡ (step_of_store w c port).1)
    stores by_places below comes =
        does (λ calls. store_at (holdings_at w c) calls port (call_in calls port)) w.shown w.stopped
        (subst (λ (holdings : Holdings). Comes here new outcome (store_at holdings (calls_of here) port (call_in (calls_of here) port)))
        (holdings_there by_places below) comes)
        (sound_store w c port stands.sound) (charged_store w c stands.charged port stands.sound)

    -- What came down shows a caller what the list shows him. So he is shown what the world's centre shows him.
    pub presses : SeatLaws → LettersByPlaces → LettersBelow → ((records : List Record) (letters : ℕ → List WaitingLetter) (centre : ℕ)
        (caller : Option ℕ) → sight_of (records_below records) letters centre caller ≡ sight_of records letters centre caller)
        → (key moment : ℕ) → moment ≡ w.moment → Pressed here new port key moment outcome
        → (entry : Option Entry) × IsPortEntry (call_at w c port) key entry
        × StandsFor after (step_of_press w c port key entry).0 × (outcome ≡ (step_of_press w c port key entry).1)
    presses laws by_places below shown key moment moment_is pressed =
        let entry = pressed.entry in
        let caller = given_account (call_in (calls_of here) port) in
        let view : sight_of here.node.state.edits (letters_for here.node.state) here.node.state.centre caller
        ≡ sight_of (page_base w c) (letters_at w c) c caller =
        ap (λ (state : CentreState). sight_of state.edits (holdings_of here.node.state).letters state.centre caller) stood.state
        ∙ shown (page_base w c) (holdings_of here.node.state).letters c caller
        ∙ ap (λ (holdings : Holdings). sight_of (page_base w c) holdings.letters c caller) (holdings_there by_places below) in
        let says : IsPortEntry (call_at w c port) key entry =
        subst (λ (calls : Calls). IsPortEntry (call_in calls port) key entry) calls_there pressed.says in
        let done =
        does
        (λ calls. press_at calls port key (sight_of (page_base w c) (letters_at w c) c (given_account (call_in calls port))) w.moment entry
        (call_in calls port))
        w.shown w.stopped
        (subst (λ (n : ℕ). Comes here new outcome (press_at (calls_of here) port key
        (sight_of (page_base w c) (letters_at w c) c caller) n entry (call_in (calls_of here) port))) moment_is
        (subst (λ (seen : View). Comes here new outcome
        (press_at (calls_of here) port key seen moment entry (call_in (calls_of here) port)))
        view pressed.comes))
        (sound_press w c port stands.sound key entry) (charged_press w c stands.charged port stands.sound laws key entry says) in
        (entry, says, done.0, done.1)
