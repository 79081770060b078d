-- Turns of the world that a hart and memory took alone, as whoever keeps the parts has them.
use Rattle.std.proofs.Common.{◌≡◌, ℕ, ◌<◌, length, get_or, List, [], ◌∷◌, ◌++◌, map, Bool, true, false, Option, Some, None, refl, sym, ap, subst, ◌∙◌}
use Rattle.std.specs.Prelude.{slice_set}
use Rattle.std.specs.List.{slice_get}
use Rattle.std.specs.Option.{is_some}
use Rattle.std.proofs.lemmas.Bool.{true≢false}
use Rattle.history_event.specs.declared.event.Event.{Event}
use Rattle.history_event.specs.declared.event.Event.TheVariants.{Ended}
use Rattle.history_event.specs.declared.hart_end.HartEnd.{HartEnd}
use Rattle.history_state.specs.After.{after}
use Rattle.history_state.specs.Allowed.{MayEnd}
use Rattle.history_state.specs.Setting.{Setting}
use Rattle.history_calls.specs.Lemmas.Unique.{both_found}
use Rattle.link_state.specs.Table.{LinkTable}
use Rattle.rv_hart.specs.declared.doubleword.Doubleword.{Doubleword}
use Rattle.hart_moves.specs.Due.{Due, due}
use Rattle.hart_moves.specs.Harts.{HartState}
use Rattle.hart_moves.specs.Moves.{ended, freed}
use Rattle.hart_seat.specs.Table.{HartTable}
use Rattle.world_answers.specs.Answers.{is_service}
use Rattle.world_answers.specs.Openings.{TurnRefusalIsCounted}
use Rattle.ld_base.specs.declared.linking.File.{File}
use Rattle.world_answers.specs.GuestsPart.GuestWorlds.Coming.{HasEnd, LeavesHart}
use Rattle.world_answers.specs.GuestsPart.GuestWorlds.Laws.{QuietTurns}
use Rattle.world_answers.specs.GuestsPart.GuestWorlds.Worlds.{IsSomewhere, MayEndNow, world_of}
use Rattle.world_answers.specs.declared.guests.guest_worlds.turn.Turn.{Turn as CameTurn}
use Rattle.world_answers.specs.declared.guests.guest_worlds.turn.Turn.TheVariants as came_as
use Rattle.world_answers.specs.ReturnsPart.Settling.{harts_in}
use Rattle.world_memory.specs.TurnAnswers.Following.{MayFollowAll}
use Rattle.world_turns.specs.WorldEnds.Lemmas.Places.{freed_here, reason_of, set_here}
use Rattle.world_turns.specs.Run.{settled}
use Rattle.world_turns.specs.Turn.{TakesTurn, Turn}
use Rattle.world_turns.specs.World.{World, settling}
use Rattle.world_answers.specs.GuestsPart.Alone.{GoesOn, IsToEnd}
use Rattle.world_answers.specs.GuestsPart.Ending.{EndsAmong}
use Rattle.world_answers.specs.GuestsPart.Laws.{EndsAreTurns, EndsMayCome}
use Rattle.world_answers.specs.GuestsPart.Lemmas.Places.{read_at, written_at}
use Rattle.world_answers.specs.GuestsPart.Next.{NeverWaits, OfNext, TurnOpens, TurnTells}

-- ---- what was told of a hart's end

none_told : (over : Option HartEnd) → is_some over ≡ false → over ≡ None
none_told (Some reason) is = absurd (true≢false is)
none_told None is = refl

-- one hart, read twice
same_hart : (harts : List HartTable) (n h : ℕ) (d e : HartTable) → n ≡ h → h < length harts → (get_or harts n d).hart ≡ (get_or harts n e).hart
same_hart harts n h d e same lt = both_found (slice_get (harts_in harts) h) (get_or harts n d).hart (get_or harts n e).hart (read_at harts n h d same lt) (read_at harts n h e same lt)

pub runs_by : (harts : List HartTable) (n h : ℕ) (d e : HartTable) (told : Option HartEnd) (over : Bool) → n ≡ h → h < length harts → told ≡ (get_or harts n d).hart.«end»
    → over ≡ is_some told → over ≡ false → (get_or harts n e).hart.«end» ≡ None
runs_by harts n h d e told over same lt at is never =
    none_told (get_or harts n e).hart.«end»
    (ap (λ (z : HartState). is_some z.«end») (sym (same_hart harts n h d e same lt)) ∙ ap is_some (sym at) ∙ sym is ∙ never)

pub ended_by : (x : HartState) (told : Option HartEnd) (over : Bool) → told ≡ x.«end» → over ≡ is_some told → over ≡ true → (reason : HartEnd) × (x.«end» ≡ Some reason)
ended_by x told over at is told_so = reason_of x (ap is_some (sym at) ∙ sym is ∙ told_so)

-- what holds of the hart that stands there holds of the next turn
pub next_is : (world : World) (h : ℕ) (b : HartState) (Holds : List Event → Due → Type 0) → slice_get world.harts h ≡ Some b
    → Holds (settled world).journal (due (after (settled world).journal) b) → OfNext world h Holds
next_is world h b Holds there holds = λ c at.
    subst (λ (y : HartState). Holds (settled world).journal (due (after (settled world).journal) y)) (both_found (slice_get world.harts h) b c there at) holds

-- a turn that is no call shows nothing of one
pub opens_nothing : (count : ℕ) (folders : List (List ℕ)) (files : Option (List File)) (failures failures' : ℕ) (past events : List Event) (h : ℕ) (came : CameTurn)
    (d : Due) → is_service d ≡ false → TurnOpens count folders files failures failures' past events h came d
opens_nothing count folders files failures failures' past events h came d no_call = λ ask back told is. absurd (true≢false (sym (ap is_service is) ∙ no_call))

pub counts_nothing : (folders : List (List ℕ)) (past events : List Event) (h : ℕ) (d : Due) (failures failures' misses misses' : ℕ) → is_service d ≡ false
    → TurnRefusalIsCounted folders past events h d failures failures' misses misses'
counts_nothing folders past events h d failures failures' misses misses' no_call = λ ask back is. absurd (true≢false (sym (ap is_service is) ∙ no_call))

pub tells_nothing : (w : Setting) (past events : List Event) (h : ℕ) (d : Due) (came : CameTurn) → is_service d ≡ false → NeverWaits came
    → TurnTells w past events h d came
tells_nothing w past events h d came_as.Stepped no_call never = λ call. absurd (true≢false (sym call ∙ no_call))
tells_nothing w past events h d (came_as.Again shown) no_call never = absurd (never shown refl)
tells_nothing w past events h d (came_as.Ended reason) no_call never = tt
tells_nothing w past events h d came_as.Idle no_call never = tt

-- ---- a turn

module _ (state : LinkTable) (memory words : List Doubleword) (harts : List HartTable) (n h : ℕ) (d x : HartTable) (same : n ≡ h) (lt : h < length harts) where
  -- the hart as it stood there, and all harts with what it is left as
  abbrev b : HartState
  b = (get_or harts n d).hart

  abbrev between : List HartTable
  between = slice_set harts n x

  there : slice_get (harts_in harts) h ≡ Some b
  there = read_at harts n h d same lt

  are : harts_in between ≡ slice_set (harts_in harts) h x.hart
  are = written_at harts n h x x.hart same refl

  -- the hart runs on
  pub went_on : QuietTurns → (w : Setting) → GoesOn memory words (due (after state.events) b) b x.hart
      → TakesTurn w h (world_of state memory harts) (world_of state words between)
  went_on quiet w y =
      let old : World = world_of state memory harts in
      TakesTurn.turn (subst (λ (hs : List HartState). Turn w h old (record { journal = state.events; words = words; harts = hs })) (sym are)
      (quiet w h old words b x.hart y.did y.quiet there (y.moves w state.events h) (y.does state.events)))

  pub runs_on : x.hart.«end» ≡ None → HasEnd (world_of state words between) h None
  runs_on runs = (x.hart, subst (λ (hs : List HartState). slice_get hs h ≡ Some x.hart) (sym are) (set_here (harts_in harts) h b x.hart there), runs)

  -- or it may end
  pub may_end : EndsMayCome → IsSomewhere state.harts (world_of state memory harts) → b.«end» ≡ None → x.hart.resolving ≡ b.resolving
      → MayFollowAll state.harts state.events (settling (harts_in between)) × MayEndNow state.harts (state.events ++ settling (harts_in between)) h
  may_end law run runs place =
      subst (λ (hs : List HartState). MayFollowAll state.harts state.events (settling hs) × MayEndNow state.harts (state.events ++ settling hs) h) (sym are)
      (law state.harts run.0 run.1 (world_of state memory harts) h b x.hart run.2 there runs place)

  -- and does
  module _ (new : LinkTable) (behind : List HartTable) (reason : HartEnd) (y : EndsAmong (harts_in between) (harts_in behind) h reason) where
    has_ended : HasEnd (world_of new words behind) h (Some reason)
    has_ended = (
      ended reason y.before,
      subst (λ (hs : List HartState). slice_get hs h ≡ Some (ended reason y.before)) (sym y.left)
          (set_here (map freed (harts_in between)) h (freed y.before) (ended reason y.before) (freed_here (harts_in between) h y.before y.there)),
      refl,
    )

    pub came_to_end : (came : CameTurn) → came ≡ came_as.Ended reason → b.«end» ≡ None → LeavesHart (world_of state memory harts) (world_of new words behind) h came
    came_to_end came is runs = subst (λ (t : CameTurn). LeavesHart (world_of state memory harts) (world_of new words behind) h t) (sym is) ((b, there, runs), has_ended)

    pub took_its_end : EndsAreTurns → (w : Setting) → IsToEnd memory words (due (after (state.events ++ settling (harts_in harts))) b) b x.hart reason
        → MayEnd w (after (state.events ++ settling (harts_in between))) h
        → new ≡ record state { events = (state.events ++ settling (harts_in between)) ++ Ended h reason ∷ [] }
        → Turn w h (world_of state memory harts) (world_of new words behind)
    took_its_end law w to_end may is =
        subst (λ (t : LinkTable). Turn w h (world_of state memory harts) (world_of t words behind)) (sym is)
        (law w h (world_of state memory harts) words (harts_in between) (harts_in behind) b x.hart reason there to_end are may y)
