-- A run goes on, one turn after another.
use Rattle.std.proofs.Common.{◌≡◌, ℕ, zero, suc, ◌+◌, ◌-◌, ◌<◌, ◌≤◌, Bool, true, false, not, cond, List, [], ◌∷◌, map, drop, get_or, length, Option, Some, None, refl, sym, ap, subst, ◌∙◌, IsTrue, true≢false, arith}
use Rattle.std.specs.Prelude.{◌&&◌, slice_set}
use Rattle.std.specs.List.{list_all, list_any, range_with_len, slice_get}
use Rattle.std.specs.Option.{is_some, option_map_or}
use Rattle.std.proofs.lemmas.List.{drop_all}
use Rattle.std.proofs.Math.Seq.{drop-cons}
use Rattle.ld_base.specs.declared.linking.File.{File}
use Rattle.history_event.specs.declared.hart_end.HartEnd.{HartEnd}
use Rattle.history_state.specs.Setting.{Setting}
use Rattle.history_journal.specs.Following.{machine_of}
use Rattle.history_calls.specs.CallLaws.Coming.{IsOver}
use Rattle.rv_hart.specs.Registers.{Registers}
use Rattle.hart_moves.specs.Harts.{HartState, is_startup_frame}
use Rattle.hart_moves.specs.Moves.{freed, settles}
use Rattle.world_turns.specs.declared.schedules.schedule.TurnItem.{TurnItem}
use Rattle.world_answers.specs.GuestsPart.GuestWorlds.Coming.{HasEnd}
use Rattle.world_turns.specs.WorldEnds.Ends.{has_exited}
use Rattle.world_turns.specs.WorldEnds.Lemmas.Places.{exited_ends}
use Rattle.world_turns.specs.Run.{RunEnds, Finalises, LacksMemory, Repeats, Rounds, TakesItems, has_ended, have_ended, is_starting, settled}
use Rattle.world_turns.specs.Turn.{TakesTurn, Turn}
use Rattle.world_turns.specs.World.{World}
use Rattle.plain_world.specs.Playing.{BeginsToFinalise, FinalisesOnce, FirstRuns, InEachRun, OthersHaveEnded}
use Rattle.plain_world.specs.Table.{WorldTable, moved}

-- ---- the same run at another world

pub moved_more : (run now new : WorldTable) → now ≡ moved run now.world → new ≡ moved now new.world → new ≡ moved run new.world
moved_more run now new is more = more ∙ ap (λ (t : WorldTable). moved t new.world) is

pub in_each_of : (run now : WorldTable) (files files' : Option (List File)) (Holds : Setting → Type 0) → now.count ≡ run.count → now.folders ≡ run.folders
    → files' ≡ files → InEachRun now files' Holds → InEachRun run files Holds
in_each_of run now files files' Holds count folders same each = λ w over. each w (record {
  machine = over.machine ∙ sym (ap machine_of count);
  folders_are = over.folders_are ∙ sym folders;
  files_are = over.files_are ∙ sym same;
})

pub in_each : (run now : WorldTable) (files files' : Option (List File)) (Holds : Setting → Type 0) → now ≡ moved run now.world → files' ≡ files
    → InEachRun now files' Holds → InEachRun run files Holds
in_each run now files files' Holds is same each =
    in_each_of run now files files' Holds (ap (λ (t : WorldTable). t.count) is) (ap (λ (t : WorldTable). t.folders) is) same each

-- there is such a run
pub some_run : WorldTable → Option (List File) → Setting
some_run run files = record { machine = machine_of run.count; folders = run.folders; preload = []; files = files }

pub some_over : (run : WorldTable) (files : Option (List File)) → IsOver (machine_of run.count) run.folders files (some_run run files)
unfolding some_run
some_over run files = record { machine = refl; folders_are = refl; files_are = refl }

-- ---- the first hart

none_of : (e : Option HartEnd) → is_some e ≡ false → e ≡ None
none_of None is = refl
none_of (Some reason) is = absurd (true≢false is)

left_of : (p q : Bool) → (p && q) ≡ true → p ≡ true
left_of true q is = refl
left_of false q is = is

runs_of : (b : HartState) → has_ended b ≡ false → b.«end» ≡ None
runs_of b is = none_of b.«end» is

not_true : (t : Bool) → not t ≡ true → t ≡ false
not_true true is = absurd (true≢false (sym is))
not_true false is = refl

first_of : (harts : List HartState) → option_map_or (λ b. not (has_ended b) && list_any is_startup_frame b.frames) (slice_get harts 0) false ≡ true
    → (b : HartState) × (slice_get harts 0 ≡ Some b) × (b.«end» ≡ None)
first_of [] is = absurd (true≢false (sym is))
first_of (b ∷ rest) is = (b, refl, runs_of b (not_true (has_ended b) (left_of (not (has_ended b)) (list_any is_startup_frame b.frames) is)))

-- it starts, so it hasn't ended
pub starts_first : (world : World) → is_starting world ≡ true → FirstRuns world
starts_first world is = first_of world.harts is

last_of : (first : HartState) (others : List HartState) → list_all has_ended (first ∷ others) ≡ false → IsTrue (list_all has_ended others) → has_ended first ≡ false
last_of first others runs over = at (has_ended first) runs
  where
    at : (t : Bool) → (t && list_all has_ended others) ≡ false → t ≡ false
    at true is = absurd (true≢false (sym over ∙ is))
    at false is = refl

-- it alone runs on
pub runs_first : (world : World) → have_ended world ≡ false → OthersHaveEnded world → FirstRuns world
runs_first world runs x = (
  x.first,
  ap (λ (bs : List HartState). slice_get bs 0) x.harts,
  runs_of x.first (last_of x.first x.others (sym (ap (list_all has_ended) x.harts) ∙ runs) x.over),
)

-- a hart runs, or has ended
pub no_end : (world : World) (h : ℕ) (reason : HartEnd) → HasEnd world h None → HasEnd world h (Some reason) → ⊥
no_end world h reason runs over =
    let found : Some over.0 ≡ Some runs.0 = sym over.1 ∙ runs.1 in
    let one : over.0 ≡ runs.0 = cc in
    let none : Some reason ≡ None = sym over.2 ∙ ap (λ (x : HartState). x.«end») one ∙ runs.2 in
    cc

-- where it runs, its turn isn't passed over
pub turn_of : (w : Setting) (h : ℕ) (old new : World) → HasEnd old h None → TakesTurn w h old new → Turn w h old new
turn_of w h old new runs (TakesTurn.turn t) = t
turn_of w h old new runs (TakesTurn.passed_over b reason at over same) = absurd (no_end old h reason runs (b, at, over))

-- the others stay as they are, but for their grants
freed_ended : (harts : List HartState) → list_all has_ended (map freed harts) ≡ list_all has_ended harts
freed_ended [] = refl
freed_ended (b ∷ rest) = ap (λ (t : Bool). has_ended b && t) (freed_ended rest)

pub others_stay : (w : Setting) (old new : World) → Turn w 0 old new → OthersHaveEnded old → OthersHaveEnded new
others_stay w old new t x = by (settles t.did) (t.harts ∙ ap (λ (bs : List HartState). slice_set (cond (settles t.did) (map freed bs) bs) 0 t.left) x.harts)
  where
    by : (s : Bool) → new.harts ≡ slice_set (cond s (map freed (x.first ∷ x.others)) (x.first ∷ x.others)) 0 t.left → OthersHaveEnded new
    by true is = record { first = t.left; others = map freed x.others; harts = is; over = freed_ended x.others ∙ x.over }
    by false is = record { first = t.left; others = x.others; harts = is; over = x.over }

exited_over : (harts : List HartState) → list_all has_exited harts ≡ true → list_all has_ended harts ≡ true
exited_over [] is = refl
exited_over (b ∷ rest) is = by (λ more. exited_over rest more) (has_exited b) refl is
  where
    by : (list_all has_exited rest ≡ true → list_all has_ended rest ≡ true) → (t : Bool) → has_exited b ≡ t → (t && list_all has_exited rest) ≡ true
        → list_all has_ended (b ∷ rest) ≡ true
    by again true e more = ap (λ (s : Bool). s && list_all has_ended rest) (exited_ends b e) ∙ again more
    by again false e more = absurd (true≢false (sym more))

rest_of : (p : HartState → Bool) (b : HartState) (rest : List HartState) → list_all p (b ∷ rest) ≡ true → list_all p rest ≡ true
rest_of p b rest is = by (p b) is
  where
    by : (t : Bool) → (t && list_all p rest) ≡ true → list_all p rest ≡ true
    by true more = more
    by false more = absurd (true≢false (sym more))

pub others_when_begun : (begun : Bool) (registers : Registers) (old new : World) → BeginsToFinalise begun registers old new → OthersHaveEnded new
others_when_begun begun registers old new x = record {
  first = _;
  others = x.begins.others;
  harts = ap (λ (v : World). v.harts) x.begins.begun;
  over = exited_over x.begins.others (rest_of has_exited x.begins.first x.begins.others (sym (ap (list_all has_exited) x.begins.harts) ∙ x.exited));
}

-- ---- all harts have ended

ends_over : (w : Setting) (old new : World) → RunEnds w old new → have_ended new ≡ true
ends_over w old new (RunEnds.no_more _ over) = over
ends_over w old new (RunEnds.one_more _ between _ runs t more) = ends_over w between new more

lacks_over : (w : Setting) (old new : World) → LacksMemory w old new → have_ended old ≡ true → have_ended new ≡ true
lacks_over w old new x over =
    ap have_ended x.leaves ∙ freed_ended x.others ∙ rest_of has_ended x.first x.others (sym (ap (list_all has_ended) x.harts) ∙ over)

finalised_over : (w : Setting) (begun : Bool) (registers : Registers) (old new : World) → FinalisesOnce w begun registers old new → have_ended old ≡ true → have_ended new ≡ true
finalised_over w begun registers old new (FinalisesOnce.for_once before (Finalises.none_runs exited same)) over = ap have_ended same ∙ over
finalised_over w begun registers old new (FinalisesOnce.for_once before (Finalises.none_is_left none same)) over = ap have_ended same ∙ over
finalised_over w begun registers old new (FinalisesOnce.for_once before (Finalises.no_memory exited lacks)) over = lacks_over w old new lacks over
finalised_over w begun registers old new (FinalisesOnce.for_once before (Finalises.all_run first exited begins ends)) over = ends_over w first new ends
finalised_over w begun registers old new (FinalisesOnce.no_more before same) over = ap have_ended same ∙ over

pub each_finalised_over : (run : WorldTable) (files : Option (List File)) (registers : Registers) (old new : World)
    → InEachRun run files (λ w. FinalisesOnce w run.begun registers old new) → have_ended old ≡ true → have_ended new ≡ true
each_finalised_over run files registers old new each over =
    finalised_over (some_run run files) run.begun registers old new (each (some_run run files) (some_over run files)) over

pub settled_over : (world : World) → have_ended world ≡ true → have_ended (settled world) ≡ true
settled_over world over = freed_ended world.harts ∙ over

-- ---- a hart that has ended

pub idle_repeats : (w : Setting) (h count : ℕ) (reason : HartEnd) (old new : World) → new ≡ old → HasEnd old h (Some reason) → Repeats w h count old new
idle_repeats w h zero reason old new same over = subst (λ (v : World). Repeats w h 0 v new) same (Repeats.no_more new)
idle_repeats w h (suc count) reason old new same over =
    Repeats.one_more count old old new (TakesTurn.passed_over over.0 reason over.1 over.2 refl) (idle_repeats w h count reason old new same over)

-- ---- one more

pub items_more : (w : Setting) (items : List TurnItem) (i : ℕ) (item : TurnItem) (old between new : World) → i < length items → get_or items i item ≡ item
    → Repeats w item.hart item.count old between → TakesItems w (drop (i + 1) items) between new → TakesItems w (drop i items) old new
items_more w items i item old between new lt is repeats rest =
    let next : suc i ≡ i + 1 = omega arith in
    subst (λ (xs : List TurnItem). TakesItems w xs old new)
    (sym (drop-cons items i item lt ∙ ap (λ (n : ℕ). get_or items i item ∷ drop n items) next ∙ ap (λ (x : TurnItem). x ∷ drop (i + 1) items) is))
    (TakesItems.one_more item (drop (i + 1) items) old between new repeats rest)

pub items_over : (w : Setting) (items : List TurnItem) (i : ℕ) (world : World) → length items ≤ i → TakesItems w (drop i items) world world
items_over w items i world past = subst (λ (xs : List TurnItem). TakesItems w xs world world) (sym (drop_all i items past)) (TakesItems.no_more world)

pub rounds_more : (w : Setting) (count h : ℕ) (old between new : World) → h < count → TakesTurn w h old between
    → Rounds w (range_with_len (h + 1) (count - (h + 1))) between new → Rounds w (range_with_len h (count - h)) old new
rounds_more w count h old between new lt takes rest =
    let next : suc (count - (h + 1)) ≡ count - h = omega arith in
    subst (λ (n : ℕ). Rounds w (range_with_len h n) old new) next (Rounds.one_more h (range_with_len (h + 1) (count - (h + 1))) old between new takes rest)

pub rounds_over : (w : Setting) (count h : ℕ) (world : World) → count ≤ h → Rounds w (range_with_len h (count - h)) world world
rounds_over w count h world past =
    let none : 0 ≡ count - h = omega arith in subst (λ (n : ℕ). Rounds w (range_with_len h n) world world) none (Rounds.no_more world)
