-- A hart ends: that is its turn.
use Rattle.std.proofs.Common.{◌≡◌, ℕ, ◌<◌, length, List, [], ◌∷◌, ◌++◌, map, Some, refl, sym, ap, subst, ◌∙◌}
use Rattle.std.specs.Prelude.{slice_set}
use Rattle.std.specs.List.{slice_get}
use Rattle.history_event.specs.declared.event.Event.{Event}
use Rattle.history_event.specs.declared.event.Event.TheVariants.{Ended}
use Rattle.history_event.specs.declared.hart_end.HartEnd.{HartEnd}
use Rattle.history_state.specs.After.{after}
use Rattle.history_state.specs.Allowed.{MayEnd}
use Rattle.history_state.specs.Owed.{ends_at_most, times_ended}
use Rattle.history_calls.specs.Lemmas.Unique.{both_found}
use Rattle.hart_moves.specs.Harts.{HartState, Resolving}
use Rattle.hart_moves.specs.Moves.{Did, ended, freed, settled_resolving}
use Rattle.hart_seat.specs.Table.{HartTable}
use Rattle.world_answers.specs.GuestsPart.GuestWorlds.Laws.{EndsNow, ServiceTurns, SettlesNow}
use Rattle.world_answers.specs.GuestsPart.GuestWorlds.Worlds.{MayEndNow, setting_without}
use Rattle.history_journal.specs.Following.{MayFollow}
use Rattle.link_state.specs.Table.{LinkTable}
use Rattle.world_answers.specs.ReturnsPart.Settling.{freed_in, harts_in}
use Rattle.world_memory.specs.TurnAnswers.Following.{MayFollowAll}
use Rattle.world_memory.specs.TurnParts.Leaving.{AllStay, OthersLeave}
use Rattle.world_turns.specs.WorldEnds.Lemmas.Places.{freed_here, set_here}
use Rattle.world_turns.specs.Run.{settled}
use Rattle.world_turns.specs.Turn.{Turn}
use Rattle.world_turns.specs.World.{settling}
use Rattle.world_answers.specs.GuestsPart.Ending.{EndsAmong, Stops}
use Rattle.world_answers.specs.GuestsPart.Laws.{EndsAreTurns, EndsMayCome}
use Rattle.world_answers.specs.GuestsPart.Lemmas.Places.{freed_are, freed_put, settling_stays, some_stands}

-- ---- the harts

settled_twice : (r : Resolving) → settled_resolving (settled_resolving r) ≡ settled_resolving r
settled_twice Resolving.idle = refl
settled_twice (Resolving.to_exchange o) = refl
settled_twice (Resolving.to_finish o found) = refl
settled_twice (Resolving.to_settle o found) = refl

ended_freed : (reason : HartEnd) (b : HartState) → ended reason (freed b) ≡ ended reason b
ended_freed reason b = ap (λ (r : Resolving). record b { resolving = r; «end» = Some reason }) (settled_twice b.resolving)

-- a hart that stands in a list whose harts are freed stood there before it was
was_there : (harts : List HartState) (h : ℕ) (x b : HartState) → slice_get (map freed harts) h ≡ Some x → slice_get harts h ≡ Some b → x ≡ freed b
was_there harts h x b freed_at at = both_found (slice_get (map freed harts) h) x (freed b) freed_at (freed_here harts h b at)

pub ends_among : (old between new : List HartTable) (h : ℕ) (reason : HartEnd) → h < length old
    → between ≡ map freed_in old → Stops (harts_in between) (harts_in new) h reason → EndsAmong (harts_in old) (harts_in new) h reason
ends_among old between new h reason lt settled_all x =
    let b = some_stands old h lt in
    let are : harts_in between ≡ map freed (harts_in old) = ap harts_in settled_all ∙ freed_are old in
    let was : x.before ≡ freed b.0 = was_there (harts_in old) h x.before b.0 (subst (λ (hs : List HartState). slice_get hs h ≡ Some x.before) are x.there) b.1 in
    record {
      before = b.0;
      there = b.1;
      left = x.left ∙ ap (λ (hs : List HartState). slice_set hs h (ended reason x.before)) are
          ∙ ap (λ (y : HartState). slice_set (map freed (harts_in old)) h y) (ap (λ (y : HartState). ended reason y) was ∙ ended_freed reason b.0);
    }

-- the linker's state may note it
pub record MayNote (table : LinkTable) (h : ℕ) (reason : HartEnd) : Type 0 where
  pub hart : h < table.harts
  pub times : times_ended h (after table.events).endings < ends_at_most h
  pub may : MayFollow table.harts table.events (Ended h reason)

pub ends_in : (old between : LinkTable) (harts : List HartTable) (h : ℕ) (reason : HartEnd) → between ≡ record old { events = old.events ++ settling (harts_in harts) }
    → MayEndNow old.harts (old.events ++ settling (harts_in harts)) h → MayNote between h reason
ends_in old between harts h reason is may = subst (λ (t : LinkTable). MayNote t h reason) (sym is)
    (record { hart = may.hart; times = may.times; may = record { setting = setting_without old.harts [] []; machine = refl; may = may.may (setting_without old.harts [] []) refl } })

-- ---- its turn

pub may_come : SettlesNow → EndsNow → EndsMayCome
may_come settles ends count folders begun world h b c at there runs place =
    let same : settling (slice_set world.harts h c) ≡ settling world.harts = settling_stays world.harts h b c there place in
    let now = settles count folders begun world at in (
      subst (MayFollowAll count world.journal) (sym same) now.may,
      subst (λ (es : List Event). MayEndNow count (world.journal ++ es) h) (sym same)
          (ends count folders begun (settled world) h (freed b) now.at (freed_here world.harts h b there) runs),
    )

pub are_turns : ServiceTurns → OthersLeave → AllStay → EndsAreTurns
are_turns service others stay w h old words between new b c reason there x are may ends =
    let past : List Event = old.journal ++ settling old.harts in
    let same : settling between ≡ settling old.harts = ap settling are ∙ settling_stays old.harts h b c there x.place in
    let stands : slice_get between h ≡ Some c = subst (λ (hs : List HartState). slice_get hs h ≡ Some c) (sym are) (set_here old.harts h b c there) in
    let was : ends.before ≡ c = both_found (slice_get between h) ends.before c ends.there stands in
    let left : new ≡ slice_set (map freed old.harts) h (ended reason c) =
    ends.left ∙ ap (λ (hs : List HartState). slice_set (map freed hs) h (ended reason ends.before)) are ∙ freed_put old.harts h c (ended reason ends.before)
    ∙ ap (λ (y : HartState). slice_set (map freed old.harts) h (ended reason y)) was in
    let leave = others (after past) (Ended h reason) refl in
    let turn : Turn w h old (record { journal = past ++ Ended h reason ∷ []; words = words; harts = slice_set (map freed old.harts) h (ended reason c) }) =
    service w h old words b (ended reason c) (Did.serves x.items (Ended h reason ∷ [])) refl there
    (x.moves w past h (subst (λ (es : List Event). MayEnd w (after (old.journal ++ es)) h) same may))
    (words, x.chain, stay (after past) (Ended h reason ∷ []) words (leave.0, leave.1, tt)) in
    subst (λ (es : List Event). Turn w h old (record { journal = (old.journal ++ es) ++ Ended h reason ∷ []; words = words; harts = new })) (sym same)
    (subst (λ (hs : List HartState). Turn w h old (record { journal = past ++ Ended h reason ∷ []; words = words; harts = hs })) (sym left) turn)
