-- A planned turn is carried out, behind what is settled first.
use Rattle.std.proofs.Common.{◌≡◌, inl, ℕ, zero, suc, ◌<◌, Bool, true, false, cond, List, [], ◌∷◌, ◌++◌, length, map, get_or, Option, Some, None, refl, sym, ap, subst, ◌∙◌, append-nil, append_assoc}
use Rattle.std.specs.Prelude.{slice_set}
use Rattle.std.specs.List.{slice_get}
use Rattle.std.proofs.lemmas.List.{length-set}
use Rattle.std.proofs.lemmas.Option.{none-some, slice_get-get_or}
use Rattle.history_event.specs.declared.event.Event.{Event}
use Rattle.history_event.specs.declared.event.Event.TheVariants.{Bound, Fini, Lost}
use Rattle.history_event.specs.declared.hart_end.HartEnd.{HartEnd}
use Rattle.history_state.specs.After.{after}
use Rattle.history_state.specs.Setting.{Setting}
use Rattle.history_state.specs.State.{State}
use Rattle.history_state.specs.Step.{step}
use Rattle.history_calls.specs.Lemmas.Unique.{both_found}
use Rattle.link_state.specs.Table.{LinkTable}
use Rattle.history_journal.specs.Following.{machine_of}
use Rattle.history_calls.specs.CallLaws.Coming.{IsOn}
use Rattle.rv_hart.specs.declared.doubleword.Doubleword.{Doubleword}
use Rattle.hart_moves.specs.Due.{Due, due}
use Rattle.hart_moves.specs.Harts.{HartState, Resolving}
use Rattle.hart_moves.specs.Moves.{Did, Finalises, MovesAs, did_by, events_of, freed, settles}
use Rattle.hart_seat.specs.Table.{HartTable}
use Rattle.world_answers.specs.ReturnsPart.FinalTurns.Laws.{SettlingKeepsPlans}
use Rattle.world_answers.specs.ReturnsPart.FinalTurns.Planned.{FinalsMayFollow, FinalsMayFollowIn, IsPlanned}
use Rattle.world_answers.specs.ReturnsPart.FinalTurns.Table.{FinalPlan, finis, plan_events}
use Rattle.world_answers.specs.GuestsPart.GuestWorlds.Coming.{HasEnd, LeavesHart}
use Rattle.world_answers.specs.GuestsPart.GuestWorlds.Laws.{FinalsNow, MayGoOn, SettlesNow}
use Rattle.world_answers.specs.GuestsPart.GuestWorlds.Worlds.{MayBeAt, setting_without, world_of}
use Rattle.world_answers.specs.declared.guests.guest_worlds.turn.Turn.{Turn as CameTurn}
use Rattle.world_answers.specs.GuestsPart.Lemmas.Places.{freed_are, read_at, written_at}
use Rattle.world_answers.specs.ReturnsPart.Settling.{freed_in, harts_in}
use Rattle.world_memory.specs.TurnAnswers.Changes.{LeaveMemory}
use Rattle.world_memory.specs.TurnParts.Freed.{FreedIsDue}
use Rattle.world_memory.specs.TurnParts.Leaving.{AllStay, OthersLeave}
use Rattle.world_turns.specs.WorldEnds.Lemmas.Places.{freed_here}
use Rattle.world_turns.specs.Memory.{Does}
use Rattle.world_turns.specs.Turn.{Turn}
use Rattle.world_turns.specs.World.{World, found_harts, found_journal, has_won, settled_by, settling}
use Rattle.world_answers.specs.GuestsPart.Last.{HasRoom, IsLast, IsSomewhereIn, SettlesFirst, turn_by}
use Rattle.world_answers.specs.GuestsPart.Next.{NeverWaits}
use Rattle.world_answers.proofs.GuestsPart.Lasting.{runs_last}

-- ---- what is settled first leaves the plan

kept_by : SettlingKeepsPlans → (past : List Event) (plan : FinalPlan) (grant saw : ℕ) (won : Bool) → IsPlanned (after past) plan
    → IsPlanned (after (past ++ cond won (Bound grant) (Lost grant saw) ∷ [])) plan
kept_by keeps past plan grant saw true x = keeps past grant saw true plan x
kept_by keeps past plan grant saw false x = keeps past grant saw false plan x

kept_place : SettlingKeepsPlans → (plan : FinalPlan) (more : List Event) → ((past : List Event) → IsPlanned (after past) plan → IsPlanned (after (past ++ more)) plan)
    → (past : List Event) (r : Resolving) → IsPlanned (after past) plan → IsPlanned (after (past ++ (settled_by r ++ more))) plan
kept_place keeps plan more rest past Resolving.idle x = rest past x
kept_place keeps plan more rest past (Resolving.to_exchange o) x = rest past x
kept_place keeps plan more rest past (Resolving.to_finish o found) x = rest past x
kept_place keeps plan more rest past (Resolving.to_settle o found) x =
    subst (λ (es : List Event). IsPlanned (after es) plan) (append_assoc past (cond (has_won o found) (Bound o.number) (Lost o.number found) ∷ []) more)
    (rest (past ++ cond (has_won o found) (Bound o.number) (Lost o.number found) ∷ []) (kept_by keeps past plan o.number found (has_won o found) x))

plan_kept : SettlingKeepsPlans → (plan : FinalPlan) (harts : List HartState) (past : List Event) → IsPlanned (after past) plan → IsPlanned (after (past ++ settling harts)) plan
plan_kept keeps plan [] past x = subst (λ (es : List Event). IsPlanned (after es) plan) (sym (append-nil past)) x
plan_kept keeps plan (b ∷ rest) past x = kept_place keeps plan (settling rest) (plan_kept keeps plan rest) past b.resolving x

plan_found : SettlingKeepsPlans → (t : Bool) (plan : FinalPlan) (harts : List HartState) (past : List Event) → IsPlanned (after past) plan
    → IsPlanned (after (past ++ cond t (settling harts) [])) plan
plan_found keeps true plan harts past x = plan_kept keeps plan harts past x
plan_found keeps false plan harts past x = subst (λ (es : List Event). IsPlanned (after es) plan) (sym (append-nil past)) x

-- ---- the harts that the turn finds

harts_found : (t : Bool) (harts : List HartTable) → harts_in (cond t (map freed_in harts) harts) ≡ cond t (map freed (harts_in harts)) (harts_in harts)
harts_found true harts = freed_are harts
harts_found false harts = refl

hart_found : (t : Bool) (harts : List HartState) (h : ℕ) (b : HartState) → slice_get harts h ≡ Some b
    → slice_get (cond t (map freed harts) harts) h ≡ Some (cond t (freed b) b)
hart_found true harts h b at = freed_here harts h b at
hart_found false harts h b at = at

room_freed : (harts : List HartTable) (h : ℕ) → HasRoom harts h → HasRoom (map freed_in harts) h
room_freed [] h room x at = absurd (none-some x at)
room_freed (y ∷ rest) zero room x at = let same : freed_in y ≡ x = cc in subst (λ (z : HartTable). 0 < z.spare) same (room y refl)
room_freed (y ∷ rest) (suc h) room x at = room_freed rest h room x at

room_found : (t : Bool) (harts : List HartTable) (h : ℕ) → HasRoom harts h → HasRoom (cond t (map freed_in harts) harts) h
room_found true harts h room = room_freed harts h room
room_found false harts h room = room

due_found : FreedIsDue → (t : Bool) (b : HartState) (d : Due) → ((s : State) → due s b ≡ d) → (s : State) → due s (cond t (freed b) b) ≡ d
due_found free true b d is s = free s b ∙ is s
due_found free false b d is s = is s

-- ---- the run that it finds

at_found : SettlesNow → (t : Bool) (count : ℕ) (folders : List (List ℕ)) (begun : Bool) (world : World) → MayBeAt count folders begun world
    → MayBeAt count folders begun (record { journal = world.journal ++ cond t (settling world.harts) []; words = world.words; harts = cond t (map freed world.harts) world.harts })
at_found settles true count folders begun world at = (settles count folders begun world at).at
at_found settles false count folders begun world at =
    subst (λ (es : List Event). MayBeAt count folders begun (record { journal = es; words = world.words; harts = world.harts })) (sym (append-nil world.journal)) at

goes_on : SettlesNow → FinalsNow → FreedIsDue → (t : Bool) (count : ℕ) (folders : List (List ℕ)) (begun : Bool) (world : World) (h : ℕ) (b : HartState) (code object : ℕ)
    → MayBeAt count folders begun world → slice_get world.harts h ≡ Some b → ((s : State) → due s b ≡ Due.finalise code object)
    → MayGoOn count (world.journal ++ cond t (settling world.harts) []) h object (cond t (freed b) b)
goes_on settles finals free t count folders begun world h b code object at there is =
    let found : World = record { journal = world.journal ++ cond t (settling world.harts) []; words = world.words; harts = cond t (map freed world.harts) world.harts } in
    finals count folders begun found h (cond t (freed b) b) code object (at_found settles t count folders begun world at) (hart_found t world.harts h b there)
    (due_found free t b (Due.finalise code object) is (after found.journal))

may_follow : (count : ℕ) (past : List Event) (h object : ℕ) (b : HartState) → MayGoOn count past h object b → FinalsMayFollowIn count past h object
may_follow count past h object b may = record { setting = setting_without count [] []; machine = refl; may = may.may (setting_without count [] []) refl }

-- ---- the turn

finis_leave : OthersLeave → (s : State) (h : ℕ) (objects : List ℕ) → LeaveMemory s (finis h objects)
finis_leave others s h [] = tt
finis_leave others s h (o ∷ rest) = let leaves = others s (Fini h o) refl in (leaves.0, leaves.1, finis_leave others (step s (Fini h o)) h rest)

stays : AllStay → (past events : List Event) (words : List Doubleword) → LeaveMemory (after past) events → Does past words (did_by events) words
stays stay past [] words leave = refl
stays stay past (e ∷ rest) words leave = (words, refl, stay (after past) (e ∷ rest) words leave)

did_events : (events : List Event) → events_of (did_by events) ≡ events
did_events [] = refl
did_events (e ∷ rest) = refl

finals_turn : OthersLeave → AllStay → (w : Setting) (h : ℕ) (old : World) (plan : FinalPlan) (journal : List Event) (harts : List HartState) (b c : HartState)
    → slice_get old.harts h ≡ Some b → ((s : State) → due s b ≡ Due.finalise plan.code plan.object)
    → Finalises w (found_journal old (did_by (plan_events h plan))) h b plan.code plan.object (did_by (plan_events h plan)) c
    → journal ≡ found_journal old (did_by (plan_events h plan)) ++ plan_events h plan
    → harts ≡ slice_set (found_harts old (did_by (plan_events h plan))) h c
    → Turn w h old (record { journal = journal; words = old.words; harts = harts })
finals_turn others stay w h old plan journal harts b c there is finalises journal_is harts_are =
    let did : Did = did_by (plan_events h plan) in
    let past : List Event = found_journal old did in
    record {
      before = b;
      left = c;
      did = did;
      there = there;
      moves = subst (λ (d : Due). MovesAs w past h b d did c) (sym (is (after past))) (inl finalises);
      does = stays stay past (plan_events h plan) old.words (finis_leave others (after past) h plan.finalised);
      journal = journal_is ∙ ap (λ (es : List Event). past ++ es) (sym (did_events (plan_events h plan)));
      harts = harts_are;
    }

-- how the hart is left
comes : (old new : World) (h : ℕ) (over : Option HartEnd) → HasEnd old h None → HasEnd new h over → LeavesHart old new h (turn_by over)
comes old new h (Some reason) before behind = (before, behind)
comes old new h None before behind = behind

-- it isn't to wait
pub never_by : (over : Option HartEnd) → NeverWaits (turn_by over)
never_by (Some reason) = λ shown is. absurd cc
never_by None = λ shown is. absurd cc

-- ---- what the turn finds, and how it leaves the run

-- what the code asks of it
pub record Ready (count : ℕ) (table : LinkTable) (h : ℕ) (plan : FinalPlan) (x : HartTable) (b : HartState) (t : Bool) : Type 0 where
  pub planned : IsPlanned (after table.events) plan
  pub may : (w : Setting) → IsOn (machine_of count) w → FinalsMayFollow w table.events h plan.object
  pub may_in : FinalsMayFollowIn table.harts table.events h plan.object
  pub fuel : x.hart.turns < x.hart.fuel
  pub room : 0 < x.spare
  pub is : x.hart ≡ cond t (freed b) b

same_length : (t : Bool) (harts : List HartTable) → length (cond t (map freed_in harts) harts) ≡ length harts
same_length true harts = map_length harts
  where
    map_length : (hs : List HartTable) → length (map freed_in hs) ≡ length hs
    map_length [] = refl
    map_length (x ∷ rest) = ap suc (map_length rest)
same_length false harts = refl

module _ (settles_now : SettlesNow) (finals : FinalsNow) (free : FreedIsDue) (keeps : SettlingKeepsPlans) (state between : LinkTable) (harts behind : List HartTable) (n h : ℕ)
    (plan : FinalPlan) (d : HartTable) (run : IsSomewhereIn state harts) (last : IsLast (harts_in harts) h plan.code plan.object)
    (first : SettlesFirst (did_by (plan_events h plan)) state between harts behind) where
  abbrev t : Bool
  t = settles (did_by (plan_events h plan))

  abbrev past : List Event
  past = state.events ++ cond t (settling (harts_in harts)) []

  abbrev found : List HartTable
  found = cond t (map freed_in harts) harts

  goes : MayGoOn state.harts past h plan.object (cond t (freed last.hart) last.hart)
  goes = goes_on settles_now finals free t state.harts run.1.0 run.1.1 (world_of state run.0 harts) h last.hart plan.code plan.object run.1.2 last.there last.is

  found_is : n ≡ h → h < length harts → (get_or found n d).hart ≡ cond t (freed last.hart) last.hart
  found_is same lt = both_found (slice_get (harts_in found) h) (get_or found n d).hart (cond t (freed last.hart) last.hart)
      (read_at found n h d same (subst (λ (k : ℕ). h < k) (sym (same_length t harts)) lt))
      (subst (λ (hs : List HartState). slice_get hs h ≡ Some (cond t (freed last.hart) last.hart)) (sym (harts_found t harts)) (hart_found t (harts_in harts) h last.hart last.there))

  found_room : HasRoom harts h → n ≡ h → h < length harts → 0 < (get_or found n d).spare
  found_room room same lt = room_found t harts h room (get_or found n d)
      (subst (λ (k : ℕ). slice_get found k ≡ Some (get_or found n d)) same
      (slice_get-get_or found n d (subst (λ (k : ℕ). k < length found) (sym same) (subst (λ (k : ℕ). h < k) (sym (same_length t harts)) lt))))

  ready_found : IsPlanned (after state.events) plan → HasRoom harts h → n ≡ h → h < length harts
      → Ready state.harts (record state { events = past }) h plan (get_or found n d) last.hart t
  ready_found planned room same lt = record {
    planned = plan_found keeps t plan (harts_in harts) state.events planned;
    may = goes.may;
    may_in = may_follow state.harts past h plan.object (cond t (freed last.hart) last.hart) goes;
    fuel = subst (λ (x : HartState). x.turns < x.fuel) (sym (found_is same lt)) goes.fuel;
    room = found_room room same lt;
    is = found_is same lt;
  }

  pub ready : IsPlanned (after state.events) plan → HasRoom harts h → n ≡ h → h < length harts → Ready state.harts between h plan (get_or behind n d) last.hart t
  ready planned room same lt =
      subst (λ (table : LinkTable). Ready state.harts table h plan (get_or behind n d) last.hart t) (sym first.state)
      (subst (λ (hs : List HartTable). Ready state.harts (record state { events = past }) h plan (get_or hs n d) last.hart t) (sym first.harts) (ready_found planned room same lt))

  pub carried_out : OthersLeave → AllStay → (w : Setting) (new : LinkTable) (words : List Doubleword) (y : HartTable)
      → Finalises w between.events h last.hart plan.code plan.object (did_by (plan_events h plan)) y.hart
      → new ≡ record between { events = between.events ++ plan_events h plan } → n ≡ h
      → Turn w h (world_of state words harts) (world_of new words (slice_set behind n y))
  carried_out others stay w new words y finalises is same =
      let events_are : between.events ≡ past = ap (λ (table : LinkTable). table.events) first.state in
      let journal : new.events ≡ past ++ plan_events h plan = ap (λ (table : LinkTable). table.events) is ∙ ap (λ (es : List Event). es ++ plan_events h plan) events_are in
      let left : harts_in (slice_set behind n y) ≡ slice_set (cond t (map freed (harts_in harts)) (harts_in harts)) h y.hart =
      written_at behind n h y y.hart same refl ∙ ap (λ (hs : List HartState). slice_set hs h y.hart) (ap harts_in first.harts ∙ harts_found t harts) in
      finals_turn others stay w h (world_of state words harts) plan new.events (harts_in (slice_set behind n y)) last.hart y.hart last.there last.is
      (subst (λ (es : List Event). Finalises w es h last.hart plan.code plan.object (did_by (plan_events h plan)) y.hart) events_are finalises) journal left

  pub count_is : (new : LinkTable) → new ≡ record between { events = between.events ++ plan_events h plan } → new.harts ≡ state.harts
  count_is new is = ap (λ (table : LinkTable). table.harts) is ∙ ap (λ (table : LinkTable). table.harts) first.state

  -- how the hart is left
  pub came_out : (new : LinkTable) (words : List Doubleword) (y e : HartTable) (came : CameTurn) → n ≡ h → h < length harts
      → came ≡ turn_by (get_or (slice_set behind n y) n e).hart.«end» → LeavesHart (world_of state words harts) (world_of new words (slice_set behind n y)) h came
  came_out new words y e came same lt is =
      let old : World = world_of state words harts in
      let left : World = world_of new words (slice_set behind n y) in
      let z : HartState = (get_or (slice_set behind n y) n e).hart in
      let longer : length (slice_set behind n y) ≡ length harts = length-set behind n y ∙ ap (λ (hs : List HartTable). length hs) first.harts ∙ same_length t harts in
      subst (λ (x : CameTurn). LeavesHart old left h x) (sym is)
      (comes old left h z.«end» (last.hart, last.there, runs_last (after state.events) last.hart plan.code plan.object (last.is (after state.events)))
      (z, read_at (slice_set behind n y) n h e same (subst (λ (k : ℕ). h < k) (sym longer) lt), refl))
