-- The first hart is alone until the start of its run is over.
use Rattle.std.proofs.Common.{◌≡◌, ◌⊎◌, inl, inr, ⊎_elim, ℕ, Bool, true, false, cond, not, ◌&&◌, ◌||◌, ◌==◌, List, [], ◌∷◌, ◌++◌, map, Option, Some, None, is_some, IsTrue, true≢false, refl, sym, ap, subst, ◌∙◌, append_assoc, append-nil}
use Rattle.std.specs.Prelude.{slice_set}
use Rattle.std.specs.List.{AllByRecursion, Contains, filter, list_any, slice_get}
use Rattle.std.specs.Option.{option_map_or}
use Rattle.std.proofs.lemmas.Bool.{cases_Bool, or_left, or_right}
use Rattle.std.proofs.lemmas.List.Elements.{All-cons, All-nil, Contains-append_left, Contains-append_right}
use Rattle.std.proofs.lemmas.List.Folds.{list_any-append}
use Rattle.std.proofs.lemmas.Option.{none-some}
use Rattle.ld_base.specs.declared.linking.Loaded.{Loaded}
use Rattle.history_calls.specs.Functions.{left, object_of, passed, preceded}
use Rattle.history_calls.specs.Laws.{hart_of}
use Rattle.history_calls.specs.Startup.{Starts, entry_at, opening, program_ask, program_entry}
use Rattle.history_calls.specs.declared.link_served.startup.Setup.{Setup}
use Rattle.history_calls.specs.declared.link_served.startup.Started.{Started}
use Rattle.history_event.specs.declared.event.Event.{Event}
use Rattle.history_event.specs.declared.event.Event.TheVariants as events
use Rattle.history_event.specs.declared.event.OpenAnswer.TheVariants.{Done}
use Rattle.history_event.specs.declared.event.OpenAsk.{OpenAsk}
use Rattle.history_event.specs.declared.event.Range.{Range}
use Rattle.history_event.specs.declared.handed.Function.{Function}
use Rattle.history_event.specs.declared.handed.HartEntry.{HartEntry}
use Rattle.history_event.specs.declared.hart_end.HartEnd.{HartEnd}
use Rattle.history_event.specs.declared.hart_end.HartEnd.TheVariants as reasons
use Rattle.history_graph.specs.Initialised.{program_last}
use Rattle.history_state.specs.After.{after, after_from}
use Rattle.history_state.specs.Legal.{Lawful, Legal}
use Rattle.history_state.specs.Lemmas.History.{legal_is_lawful, legal_push}
use Rattle.history_state.specs.Lemmas.Lists.{here, in_filter, later, none_in}
use Rattle.history_state.specs.Objects.{serial_of}
use Rattle.history_state.specs.Read.{BeginsUntouched, IsUntouched}
use Rattle.history_state.specs.Setting.{Machine, Setting}
use Rattle.history_state.specs.Step.{loaded}
use Rattle.scope_rule.specs.declared.namespace.Namespace.{Namespace}
use Rattle.rv_hart.specs.Registers.{Registers}
use Rattle.hart_moves.specs.Harts.{Frame, HartState, Offered, Purpose, Resolving, is_startup_frame}
use Rattle.hart_moves.specs.Laws.{TurnsAreOwn}
use Rattle.hart_moves.specs.Moves.{Did, events_of, freed, passing, settles, with_first}
use Rattle.hart_moves.specs.Starting.{starting_hart, starting_harts, starting_registers}
use Rattle.hart_moves.specs.TurnEvents.Appends.{Appends, has_finals}
use Rattle.hart_moves.specs.TurnEvents.Laws.{FinalsStayAway, TurnsAppend}
use Rattle.hart_moves.specs.TurnFrames.Leaves.{AreFrames, LeavesFrames, TurnsLeaveFrames}
use Rattle.world_turns.specs.declared.schedules.schedule.TurnItem.{TurnItem}
use Rattle.world_turns.specs.Lemmas.Running.{finals, finishes, items_keep}
use Rattle.world_turns.specs.Run.{Constructs, IsStarted, LacksMemory, Run, RunBegins, has_ended, is_starting}
use Rattle.world_turns.specs.Turn.{Turn}
use Rattle.world_turns.specs.World.{World, found_journal, has_won, settled_by, settling}
use Rattle.trace_laws.specs.Beginning.{BeginsAlone}
use Rattle.trace_laws.specs.Laws.{RunsBeginAlone}
use Rattle.trace_check.specs.Harts.{ends_start, names_hart}
use Rattle.trace_read.specs.Said.{said_of}

abbrev pub ends : Event → Bool
ends e = ends_start (said_of e)

abbrev pub names : Event → Bool
names e = names_hart (said_of e)

-- ---- events of the first hart

abbrev pub NamesNone : List Event → Type 0
NamesNone events = AllByRecursion (λ e. names e ≡ false) events

none_more : (front back : List Event) → NamesNone front → NamesNone back → NamesNone (front ++ back)
none_more [] back one other = other
none_more (e ∷ front) back one other = (one.0, none_more front back one.1 other)

-- the event is the first hart's
pub own_names : (e : Event) → hart_of e ≡ Some 0 → names e ≡ false
own_names (events.Open hart ask answer) own = refl
own_names (events.Close hart handle answer) own = refl
own_names (events.Unmapped hart set) own = refl
own_names (events.Grant number hart owner slot choice value) own = refl
own_names (events.Bound number) own = refl
own_names (events.Lost number saw) own = refl
own_names (events.Unresolved hart owner slot choice) own = refl
own_names (events.Sym hart ask answer) own = let first : hart ≡ 0 = (let both : Some hart ≡ Some 0 = own in cc) in ap (λ (h : ℕ). not (h == 0)) first
own_names (events.Tls hart owner address) own = refl
own_names (events.Init hart object) own = refl
own_names (events.Fini hart object) own = refl
own_names (events.Wrote hart bytes) own = refl
own_names (events.Told hart fault) own = refl
own_names (events.Ended hart reason) own = refl

all_own : (added : List Event) → ((e : Event) → Contains added e → hart_of e ≡ Some 0) → NamesNone added
all_own [] own = tt
all_own (e ∷ rest) own = (own_names e (own e (here e rest)), all_own rest (λ x there. own x (later e rest x there)))

won_names : (o : Offered) (found : ℕ) (won : Bool) → names (cond won (events.Bound o.number) (events.Lost o.number found)) ≡ false
won_names o found true = refl
won_names o found false = refl

settled_names : (r : Resolving) → NamesNone (settled_by r)
settled_names Resolving.idle = tt
settled_names (Resolving.to_exchange o) = tt
settled_names (Resolving.to_finish o found) = tt
settled_names (Resolving.to_settle o found) = (won_names o found (has_won o found), tt)

settling_names : (harts : List HartState) → NamesNone (settling harts)
settling_names [] = tt
settling_names (b ∷ rest) = none_more (settled_by b.resolving) (settling rest) (settled_names b.resolving) (settling_names rest)

-- ---- the first hart while it runs startup's constructors

pub record Constructing (b : HartState) : Type 0 where
  pub runs : b.«end» ≡ None
  pub frames : IsTrue (list_any is_startup_frame b.frames)
  pub no_finals : has_finals b.frames ≡ false

-- the start is over with one of these events, or it runs them still
abbrev IsOverOr : List Event → HartState → Type 0
IsOverOr added b = IsTrue (list_any ends added) ⊎ Constructing b

abbrev HasFrame : List Frame → Type 0
HasFrame frames = IsTrue (list_any is_startup_frame frames)

frame_stays : (purpose : Purpose) (functions : List Function) (below frames : List Frame) → HasFrame below → AreFrames purpose functions below frames → HasFrame frames
frame_stays (Purpose.of_startup registers) [] below frames has are = subst HasFrame (sym are) has
frame_stays (Purpose.of_opening to root) [] below frames has are = subst HasFrame (sym are) has
frame_stays (Purpose.of_closing to set) [] below frames has are = subst HasFrame (sym are) has
frame_stays (Purpose.of_end code) [] below frames has are = subst HasFrame (sym are) has
frame_stays purpose (f ∷ rest) below frames has are = subst HasFrame (sym are) (or_right _ (list_any is_startup_frame below) has)

-- an object is passed: a constructor is over, or the frame is of a closing
passing_ends : (purpose : Purpose) (f : Function) (rest : List Function) (below frames : List Frame) (added : List Event)
    → HasFrame (record { purpose = purpose; queue = f ∷ rest } ∷ below) → added ≡ map (passing purpose 0) (f.object ∷ passed rest) → AreFrames purpose (left rest) below frames
    → IsTrue (list_any ends added) ⊎ HasFrame frames
passing_ends (Purpose.of_startup registers) f rest below frames added has is are = inl (ap (list_any ends) is)
passing_ends (Purpose.of_opening to root) f rest below frames added has is are = inl (ap (list_any ends) is)
passing_ends (Purpose.of_closing to set) f rest below frames added has is are = inr (frame_stays (Purpose.of_closing to set) (left rest) below frames has are)
passing_ends (Purpose.of_end code) f rest below frames added has is are = inr (frame_stays (Purpose.of_end code) (left rest) below frames has are)

pub record Laws : Type 0 where
  pub own : TurnsAreOwn
  pub append : TurnsAppend
  pub away : FinalsStayAway
  pub leave : TurnsLeaveFrames
  pub begins : (m : Machine) (events : List Event) → Lawful m events → BeginsUntouched (after events)

module _ (w : Setting) (past : List Event) (b c : HartState) (did : Did) where
  frames_go : has_finals b.frames ≡ false → HasFrame b.frames → LeavesFrames w past 0 b did c → IsTrue (list_any ends (events_of did)) ⊎ HasFrame c.frames
  frames_go free has (LeavesFrames.stays none same) = inr (subst HasFrame (sym same) has)
  frames_go free has (LeavesFrames.enters purpose f address more rest below before next is pc now) = inr (subst HasFrame (sym now) (subst HasFrame before has))
  frames_go free has (LeavesFrames.loads to root id ask first rest ranges functions are is now back entered) =
      inr (frame_stays (Purpose.of_opening to root) (left functions) b.frames c.frames has now)
  frames_go free has (LeavesFrames.dies to handle first rest functions are is now back entered) =
      inr (frame_stays (Purpose.of_closing to (first ∷ rest)) (left functions) b.frames c.frames has now)
  frames_go free has (LeavesFrames.completes purpose f rest below not_end before is now entered) =
      passing_ends purpose f rest below c.frames (events_of did) (subst HasFrame before has) is now
  frames_go free has (LeavesFrames.unmaps to set below before is now registers) = inr (subst HasFrame (sym now) (subst HasFrame before has))
  frames_go free has (LeavesFrames.finalises code f rest below added next before run is now entered) =
      absurd (true≢false (sym (ap has_finals before) ∙ free))

  -- it ends by an event alone
  ends_go : has_finals b.frames ≡ false → b.«end» ≡ None → Appends past 0 b did c → IsTrue (list_any ends (events_of did)) ⊎ (c.«end» ≡ None)
  ends_go free on (Appends.no_end spares same) = inr (same ∙ on)
  ends_go free on (Appends.unmapping set is same) = inr (same ∙ on)
  ends_go free on (Appends.an_end front reason spares is over) =
      inl (ap (list_any ends) is ∙ list_any-append ends front (events.Ended 0 reason ∷ []) ∙ or_right (list_any ends front) (list_any ends (events.Ended 0 reason ∷ [])) refl)
  ends_go free on (Appends.after_finals code spares some over none) = absurd (true≢false (sym some ∙ free))

  pub turn_constructs : has_finals c.frames ≡ false → Constructing b → LeavesFrames w past 0 b did c → Appends past 0 b did c → IsOverOr (events_of did) c
  turn_constructs free x leaves appends = ⊎_elim
      (λ (over : IsTrue (list_any ends (events_of did))). inl over)
      (λ (has : HasFrame c.frames). ⊎_elim
      (λ (over : IsTrue (list_any ends (events_of did))). inl over)
      (λ (on : c.«end» ≡ None). inr (record { runs = on; frames = has; no_finals = free }))
      (ends_go x.no_finals x.runs appends))
      (frames_go x.no_finals x.frames leaves)

-- ---- worlds

record First (world : World) : Type 0 where
  pub hart : HartState
  pub there : slice_get world.harts 0 ≡ Some hart
  pub constructs : Constructing hart

-- the events behind startup's: no name is looked up for another hart, and the start is over or the first hart runs constructors
record Goes (startup : List Event) (world : World) : Type 0 where
  pub more : List Event
  pub are : world.journal ≡ startup ++ more
  pub alone : NamesNone more
  pub over : IsTrue (list_any ends more) ⊎ First world

first_left : (harts : List HartState) (t : Bool) (b c : HartState) → slice_get harts 0 ≡ Some b → slice_get (slice_set (cond t (map freed harts) harts) 0 c) 0 ≡ Some c
first_left [] t b c at = absurd (none-some b at)
first_left (d ∷ rest) true b c at = refl
first_left (d ∷ rest) false b c at = refl

found_names : (harts : List HartState) (t : Bool) → NamesNone (cond t (settling harts) [])
found_names harts true = settling_names harts
found_names harts false = tt

module _ (laws : Laws) (w : Setting) (startup : List Event) where
  turn_goes : (old new : World) → Goes startup old → Turn w 0 old new → Goes startup new
  turn_goes old new x turn = record {
    more = x.more ++ (settled ++ added);
    are = turn.journal ∙ ap (λ (es : List Event). (es ++ settled) ++ added) x.are
        ∙ append_assoc (startup ++ x.more) settled added ∙ append_assoc startup x.more (settled ++ added);
    alone = none_more x.more (settled ++ added) x.alone (none_more settled added (found_names old.harts (settles turn.did)) (all_own added (laws.own w past 0 turn.before turn.left turn.did turn.moves)));
    over = ⊎_elim (λ (over : IsTrue (list_any ends x.more)). inl (ends_front over)) (λ (first : First old). by first) x.over;
  }
    where
      settled : List Event
      settled = cond (settles turn.did) (settling old.harts) []

      added : List Event
      added = events_of turn.did

      past : List Event
      past = found_journal old turn.did

      ends_front : IsTrue (list_any ends x.more) → IsTrue (list_any ends (x.more ++ (settled ++ added)))
      ends_front over = list_any-append ends x.more (settled ++ added) ∙ or_left (list_any ends x.more) (list_any ends (settled ++ added)) over

      ends_back : IsTrue (list_any ends added) → IsTrue (list_any ends (x.more ++ (settled ++ added)))
      ends_back over =
          list_any-append ends x.more (settled ++ added) ∙ or_right (list_any ends x.more) (list_any ends (settled ++ added))
          (list_any-append ends settled added ∙ or_right (list_any ends settled) (list_any ends added) over)

      by : First old → IsTrue (list_any ends (x.more ++ (settled ++ added))) ⊎ First new
      by first =
          let same : first.hart ≡ turn.before = (let both : Some first.hart ≡ Some turn.before = sym first.there ∙ turn.there in cc) in
          let on : Constructing turn.before = subst Constructing same first.constructs in
          let free : has_finals turn.left.frames ≡ false = laws.away w past 0 turn.before turn.left turn.did turn.moves on.no_finals in
          ⊎_elim
          (λ (over : IsTrue (list_any ends added)). inl (ends_back over))
          (λ (still : Constructing turn.left). inr (record {
            hart = turn.left;
            there = ap (λ (bs : List HartState). slice_get bs 0) turn.harts ∙ first_left old.harts (settles turn.did) turn.before turn.left turn.there;
            constructs = still;
          }))
          (turn_constructs w past turn.before turn.left turn.did free on (laws.leave w past 0 turn.before turn.left turn.did turn.moves)
          (laws.append w past 0 turn.before turn.left turn.did turn.moves))

  constructs_go : (old new : World) → Goes startup old → Constructs w old new → Goes startup new
  constructs_go old new x (Constructs.no_more _ none) = x
  constructs_go old new x (Constructs.one_more _ between _ starts turn more) = constructs_go between new (turn_goes old between x turn) more

constructs_end : (w : Setting) (old new : World) → Constructs w old new → is_starting new ≡ false
constructs_end w old new (Constructs.no_more _ none) = none
constructs_end w old new (Constructs.one_more _ between _ starts turn more) = constructs_end w between new more

first_starts : (world : World) → First world → is_starting world ≡ true
first_starts world x =
    ap (λ (found : Option HartState). option_map_or (λ b. not (has_ended b) && list_any is_startup_frame b.frames) found false) x.there
    ∙ ap (λ (reason : Option HartEnd). not (is_some reason) && list_any is_startup_frame x.hart.frames) x.constructs.runs ∙ x.constructs.frames

-- ---- startup

none_legal : (w : Setting) → Legal w []
unfolding Legal
none_legal w k e at = absurd (none-some e at)

untouched_opens : (root : ℕ) (ask : OpenAsk) (ranges : List Range) → BeginsUntouched (after (events.Open 0 ask (Done 0 root [] ranges) ∷ [])) → ⊥
unfolding loaded after_from
untouched_opens root ask ranges begun =
    let untouched : IsUntouched (after (events.Open 0 ask (Done 0 root [] ranges) ∷ [])) = begun refl in
    let opens : map (λ (ns : Namespace). ns.opens) (after (events.Open 0 ask (Done 0 root [] ranges) ∷ [])).namespaces ≡ [] ∷ [] = ap (map (λ (ns : Namespace). ns.opens)) untouched.namespaces in
    absurd cc

-- a list that has something
abbrev IsSomeList : {X : Type 0} → List X → Type 0
IsSomeList {X} xs = (x : X) × (rest : List X) × (xs ≡ x ∷ rest)

some_added : (root : ℕ) (ask : OpenAsk) (added : List Loaded) (ranges : List Range) → BeginsUntouched (after (events.Open 0 ask (Done 0 root added ranges) ∷ [])) → IsSomeList added
some_added root ask [] ranges begun = absurd (untouched_opens root ask ranges begun)
some_added root ask (o ∷ rest) ranges begun = (o, rest, refl)

last_has : (x : ℕ) (xs : List ℕ) → Contains (program_last (Some 1) (x ∷ xs)) x
last_has x xs = ⊎_elim
    (λ (is : (x == 1) ≡ true). Contains-append_right (filter (λ o. not (o == 1)) (x ∷ xs)) (filter (λ o. o == 1) (x ∷ xs)) x (in_filter (λ o. o == 1) (x ∷ xs) x (here x xs) is))
    (λ (isnt : (x == 1) ≡ false). Contains-append_left (filter (λ o. not (o == 1)) (x ∷ xs)) (filter (λ o. o == 1) (x ∷ xs)) x
    (in_filter (λ o. not (o == 1)) (x ∷ xs) x (here x xs) (ap not isnt)))
    (cases_Bool (x == 1))

some_plain : (plain : List Function) (d : ℕ) → Contains (map object_of plain) d → IsSomeList plain
some_plain [] d there = absurd (none_in d there)
some_plain (f ∷ rest) d there = (f, rest, refl)

some_preceded : (before : List ℕ) (plain : List Function) → IsSomeList plain → IsSomeList (preceded before plain)
some_preceded before plain (f, rest, are) = (record f { addresses = before ++ f.addresses }, rest, ap (preceded before) are)

some_functions : (w : Setting) (setup : Setup) (startup : List Event) (started : Started) → Laws → Starts w setup startup started → IsSomeList started.functions
some_functions w setup startup started laws x =
    let lawful : Lawful w.machine (opening setup x.root x.added x.ranges ∷ []) =
    legal_is_lawful w (opening setup x.root x.added x.ranges ∷ []) (legal_push w [] (opening setup x.root x.added x.ranges) (none_legal w) x.opens) in
    let added : IsSomeList x.added = some_added x.root (program_ask setup) x.added x.ranges (laws.begins w.machine (opening setup x.root x.added x.ranges ∷ []) lawful) in
    let order = x.constructed.are.order in
    let inside : Contains (program_last (Some 1) (map serial_of x.added)) (serial_of added.0) =
    subst (λ (os : List Loaded). Contains (program_last (Some 1) (map serial_of os)) (serial_of added.0)) (sym added.2) (last_has (serial_of added.0) (map serial_of added.1)) in
    let some : IsSomeList (preceded x.constructed.before x.constructed.plain) =
    some_preceded x.constructed.before x.constructed.plain (some_plain x.constructed.plain (serial_of added.0) (order.all (serial_of added.0) inside)) in
    (some.0, some.1, x.constructed.is ∙ some.2)

first_constructs : (registers : Registers) (object : ℕ) (addresses : List ℕ) (rest : List Function) (fuel : ℕ) (entry : HartEntry)
    → Constructing (with_first (Purpose.of_startup registers) object addresses rest [] (starting_hart fuel entry))
first_constructs registers object [] rest fuel entry = record { runs = refl; frames = refl; no_finals = refl }
first_constructs registers object (address ∷ more) rest fuel entry = record { runs = refl; frames = refl; no_finals = refl }

-- so startup sets the first hart off
pub record SetOff (setup : Setup) (started : Started) : Type 0 where
  pub hart : HartState
  pub there : slice_get (starting_harts setup.fuel started.functions started.entries) 0 ≡ Some hart
  pub constructs : Constructing hart

pub sets_off : (w : Setting) (setup : Setup) (startup : List Event) (started : Started) → Laws → Starts w setup startup started → SetOff setup started
sets_off w setup startup started laws x =
    let some : IsSomeList started.functions = some_functions w setup startup started laws x in
    let entry : HartEntry = entry_at (after startup) 0 (program_entry (after startup)) in
    record {
      hart = with_first (Purpose.of_startup (starting_registers entry)) some.0.object some.0.addresses some.1 [] (starting_hart setup.fuel entry);
      there = ap (λ (harts : List HartState). slice_get harts 0) (ap (λ (fs : List Function). starting_harts setup.fuel fs started.entries) some.2
          ∙ ap (λ (es : List HartEntry). starting_harts setup.fuel (some.0 ∷ some.1) es) x.entries);
      constructs = first_constructs (starting_registers entry) some.0.object some.0.addresses some.1 setup.fuel entry;
    }

starts_first : (w : Setting) (setup : Setup) (world : World) → Laws → IsStarted w setup world → First world
starts_first w setup world laws x =
    let y : SetOff setup x.started = sets_off w setup world.journal x.started laws x.starts in
    record { hart = y.hart; there = ap (λ (harts : List HartState). slice_get harts 0) x.harts ∙ y.there; constructs = y.constructs }

-- ---- what comes behind

record Grows (front : List Event) (world : World) : Type 0 where
  pub more : List Event
  pub are : world.journal ≡ front ++ more

grown : (front : List Event) (old new : World) (added : List Event) → Grows front old → new.journal ≡ old.journal ++ added → Grows front new
grown front old new added x are = record { more = x.more ++ added; are = are ∙ ap (λ (es : List Event). es ++ added) x.are ∙ append_assoc front x.more added }

module _ (w : Setting) (front : List Event) where
  turn_grows : (h : ℕ) (old new : World) → Grows front old → Turn w h old new → Grows front new
  turn_grows h old new x turn = grown front old new (cond (settles turn.did) (settling old.harts) [] ++ events_of turn.did) x
      (turn.journal ∙ append_assoc old.journal (cond (settles turn.did) (settling old.harts) []) (events_of turn.did))

  begun_grows : (registers : Registers) (old : World) → Grows front old → (begun : World) → RunBegins registers old begun → Grows front begun
  begun_grows registers old x begun begins = record { more = x.more; are = ap (λ (world : World). world.journal) begins.begun ∙ x.are }

  lacks_grows : (old new : World) → Grows front old → LacksMemory w old new → Grows front new
  lacks_grows old new x lack = grown front old new (settling old.harts ++ events.Ended 0 reasons.Memory ∷ []) x
      (ap (λ (world : World). world.journal) lack.leaves ∙ append_assoc old.journal (settling old.harts) (events.Ended 0 reasons.Memory ∷ []))

  run_grows : (setup : Setup) (items : List TurnItem) (world : World) (run : Run w setup items world) → Grows front run.constructed → Grows front world
  run_grows setup items world run constructed =
      let scheduled : Grows front run.scheduled = items_keep w (Grows front) turn_grows items run.constructed run.scheduled run.follows constructed in
      let finished : Grows front run.finished = finishes w (Grows front) turn_grows run.scheduled run.finished run.finishes scheduled in
      let finalised : Grows front run.finalised = finals w (Grows front) turn_grows (starting_registers run.entry) run.finished run.finalised
      (begun_grows (starting_registers run.entry) run.finished finished) (lacks_grows run.finished run.finalised finished) run.finalises finished in
      grown front run.finalised world (settling run.finalised.harts) finalised (ap (λ (x : World). x.journal) run.ends)

-- ---- the start of a run

pub begins_alone : (more tail : List Event) → NamesNone more → IsTrue (list_any ends more) → BeginsAlone (more ++ tail)
begins_alone [] tail none any = absurd (true≢false (sym any))
begins_alone (e ∷ rest) tail none any = ⊎_elim
    (λ (is : ends e ≡ true). record { before = []; over = e; behind = rest ++ tail; are = refl; ends = is; alone = All-nil (λ x. names x ≡ false) })
    (λ (isnt : ends e ≡ false).
    let later : BeginsAlone (rest ++ tail) = begins_alone rest tail none.1 (sym (ap (λ (b : Bool). b || list_any ends rest) isnt) ∙ any) in
    record {
      before = e ∷ later.before;
      over = later.over;
      behind = later.behind;
      are = ap (λ (es : List Event). e ∷ es) later.are;
      ends = later.ends;
      alone = All-cons (λ x. names x ≡ false) e later.before none.0 later.alone;
    })
    (cases_Bool (ends e))

pub runs_begin_alone : Laws → RunsBeginAlone
runs_begin_alone laws w setup items world run =
    let started : Goes run.started.journal run.started = record { more = []; are = sym (append-nil run.started.journal); alone = tt; over = inr (starts_first w setup run.started laws run.starts) } in
    let x : Goes run.started.journal run.constructed = constructs_go laws w run.started.journal run.started run.constructed started run.constructs in
    let over : IsTrue (list_any ends x.more) = ⊎_elim
    (λ (over : IsTrue (list_any ends x.more)). over)
    (λ (first : First run.constructed). absurd (true≢false (sym (first_starts run.constructed first) ∙ constructs_end w run.started run.constructed run.constructs)))
    x.over in
    let y : Grows run.constructed.journal world = run_grows w run.constructed.journal setup items world run (record { more = []; are = sym (append-nil run.constructed.journal) }) in
    record {
      startup = run.started.journal;
      started = run.starts.started;
      starts = run.starts.starts;
      others = x.more ++ y.more;
      are = y.are ∙ ap (λ (es : List Event). es ++ y.more) x.are ∙ append_assoc run.started.journal x.more y.more;
      begins = begins_alone x.more y.more x.alone over;
    }
