-- How the final destructors begin.
use Rattle.std.proofs.Common.{◌≡◌, ℕ, suc, ◌<◌, Bool, true, false, ◌&&◌, get_or, Option, IsTrue, List, [], ◌∷◌, ◌++◌, length, map, Some, None, refl, sym, ap, subst, ◌∙◌}
use Rattle.std.specs.Prelude.{slice_set}
use Rattle.std.specs.List.{list_all, slice_get}
use Rattle.std.specs.Option.{is_some}
use Rattle.std.proofs.lemmas.Bool.{and_parts, false≢true}
use Rattle.std.proofs.lemmas.Option.{none-some}
use Rattle.history_event.specs.declared.event.Event.TheVariants.{Ended}
use Rattle.history_event.specs.declared.hart_end.HartEnd.TheVariants.{Memory}
use Rattle.rv_hart.specs.declared.doubleword.Doubleword.{Doubleword}
use Rattle.hart_moves.specs.Harts.{HartState}
use Rattle.hart_moves.specs.Moves.{ended, freed}
use Rattle.world_answers.specs.GuestsPart.GuestWorlds.Laws.{FirstEndsNow, SettlesNow}
use Rattle.world_answers.specs.GuestsPart.GuestWorlds.Worlds.{MayBeAt, MayEndNow, world_of}
use Rattle.hart_seat.specs.Table.{HartTable}
use Rattle.link_state.specs.Table.{LinkTable}
use Rattle.rv_hart.specs.Registers.{Registers}
use Rattle.world_answers.specs.GuestsPart.Lemmas.Places.{read_at, set_same, some_stands, written_at}
use Rattle.world_answers.specs.ReturnsPart.Settling.{harts_in}
use Rattle.world_answers.specs.declared.guests.beginning.Beginning.{Beginning}
use Rattle.world_answers.specs.declared.guests.beginning.Beginning.TheVariants as begins_as
use Rattle.world_answers.specs.GuestsPart.Ending.{EndsAmong}
use Rattle.world_memory.specs.TurnAnswers.Following.{MayFollowAll}
use Rattle.world_turns.specs.WorldEnds.Ends.{has_exited}
use Rattle.world_turns.specs.Lemmas.Turning.{freed_length}
use Rattle.world_turns.specs.Run.{exit_code, settled}
use Rattle.world_turns.specs.World.{World, settling}
use Rattle.world_answers.specs.GuestsPart.Begins.{BeginsWith, IsBeforeFinals, LacksMemoryOn}

-- ---- each hart has ended by exit, also once it is settled

exited_freed : (harts : List HartState) → list_all has_exited (map freed harts) ≡ list_all has_exited harts
exited_freed [] = refl
exited_freed (b ∷ rest) = ap (λ (t : Bool). has_exited b && t) (exited_freed rest)

pub first_exited : (harts : List HartState) (b : HartState) → slice_get harts 0 ≡ Some b → IsTrue (list_all has_exited harts) → IsTrue (has_exited b)
first_exited [] b at over = absurd (none-some b at)
first_exited (x ∷ rest) b at over = let same : x ≡ b = cc in subst (λ (y : HartState). IsTrue (has_exited y)) same (and_parts (has_exited x) (list_all has_exited rest) over).0

-- so the first may end once more
may_end : SettlesNow → FirstEndsNow → (count : ℕ) (folders : List (List ℕ)) (world : World) → MayBeAt count folders false world
    → IsTrue (list_all has_exited world.harts) → 0 < length world.harts
    → MayFollowAll count world.journal (settling world.harts) × MayEndNow count (world.journal ++ settling world.harts) 0
may_end settles first count folders world at over some =
    let now = settles count folders false world at in (
      now.may,
      first count folders (settled world) now.at (exited_freed world.harts ∙ over) (subst (λ (n : ℕ). 0 < n) (sym (freed_length world.harts)) some),
    )

-- ---- the run then

lacks : (count : ℕ) (old : World) (harts : List HartState) (b : HartState) (code : ℕ) → slice_get old.harts 0 ≡ Some b → exit_code b ≡ Some code
    → MayEndNow count (old.journal ++ settling old.harts) 0 → EndsAmong old.harts harts 0 Memory
    → LacksMemoryOn count old (record { journal = (old.journal ++ settling old.harts) ++ Ended 0 Memory ∷ []; words = old.words; harts = harts })
lacks count old harts b code at exited may ends = by old.harts refl
  where
    by : (hs : List HartState) → old.harts ≡ hs
        → LacksMemoryOn count old (record { journal = (old.journal ++ settling old.harts) ++ Ended 0 Memory ∷ []; words = old.words; harts = harts })
    by [] are = absurd (none-some b (subst (λ (hs : List HartState). slice_get hs 0 ≡ Some b) are at))
    by (x ∷ rest) are = λ w on.
        let here : slice_get (x ∷ rest) 0 ≡ Some b = subst (λ (hs : List HartState). slice_get hs 0 ≡ Some b) are at in
        let there : slice_get (x ∷ rest) 0 ≡ Some ends.before = subst (λ (hs : List HartState). slice_get hs 0 ≡ Some ends.before) are ends.there in
        let is : b ≡ x = cc in
        let was : ends.before ≡ x = cc in
        let left : harts ≡ ended Memory x ∷ map freed rest =
        ends.left ∙ ap (λ (hs : List HartState). slice_set (map freed hs) 0 (ended Memory ends.before)) are ∙ ap (λ (y : HartState). ended Memory y ∷ map freed rest) was in
        record {
          first = x;
          others = rest;
          harts = are;
          code = code;
          exited = ap exit_code (sym is) ∙ exited;
          may = may.may w on;
          leaves = ap (λ (hs : List HartState). record { journal = (old.journal ++ settling old.harts) ++ Ended 0 Memory ∷ []; words = old.words; harts = hs })
              left;
        }

-- ---- as whoever keeps the parts has it

harts_kept : (harts : List HartTable) (n : ℕ) (d x : HartTable) → n ≡ 0 → 0 < length harts → x.hart ≡ (get_or harts n d).hart → harts_in (slice_set harts n x) ≡ harts_in harts
harts_kept harts n d x same lt stays = written_at harts n 0 x (get_or harts n d).hart same stays ∙ set_same (harts_in harts) 0 (get_or harts n d).hart (read_at harts n 0 d same lt)

some_code : (b : HartState) → IsTrue (has_exited b) → (code : ℕ) × (exit_code b ≡ Some code)
some_code b is = by (exit_code b) is
  where
    by : (code : Option ℕ) → is_some code ≡ true → (n : ℕ) × (code ≡ Some n)
    by (Some n) told = (n, refl)
    by None told = absurd (false≢true told)

pub first_may : SettlesNow → FirstEndsNow → (state : LinkTable) (harts : List HartTable) → 0 < length harts → IsBeforeFinals state harts
    → IsTrue (list_all has_exited (harts_in harts))
    → MayFollowAll state.harts state.events (settling (harts_in harts)) × MayEndNow state.harts (state.events ++ settling (harts_in harts)) 0
first_may settles first state harts lt run over =
    may_end settles first state.harts run.1 (world_of state run.0 harts) run.2 over (subst (λ (k : ℕ). 0 < k) (sym (in_length harts)) lt)
  where
    in_length : (hs : List HartTable) → length (harts_in hs) ≡ length hs
    in_length [] = refl
    in_length (x ∷ rest) = ap suc (in_length rest)

-- the run is where it was, where there is no memory
pub lacks_still : (state : LinkTable) (words : List Doubleword) (harts : List HartTable) (n : ℕ) (d x : HartTable) (new : World) (came : Beginning) → n ≡ 0 → 0 < length harts
    → x.hart ≡ (get_or harts n d).hart → came ≡ begins_as.Memory → LacksMemoryOn state.harts (world_of state words (slice_set harts n x)) new → (registers : Registers)
    → BeginsWith state.harts registers (world_of state words harts) new came
lacks_still state words harts n d x new came same lt stays is lacked registers =
    subst (BeginsWith state.harts registers (world_of state words harts) new) (sym is)
    (subst (λ (hs : List HartState). LacksMemoryOn state.harts (record { journal = state.events; words = words; harts = hs }) new) (harts_kept harts n d x same lt stays) lacked)

-- the first hart ends once more
pub lacks_now : SettlesNow → FirstEndsNow → (state new : LinkTable) (words : List Doubleword) (harts behind : List HartTable) (h : ℕ) → h ≡ 0 → 0 < length harts
    → IsBeforeFinals state harts → IsTrue (list_all has_exited (harts_in harts)) → EndsAmong (harts_in harts) (harts_in behind) h Memory
    → new ≡ record state { events = (state.events ++ settling (harts_in harts)) ++ Ended h Memory ∷ [] }
    → LacksMemoryOn state.harts (world_of state words harts) (world_of new words behind)
lacks_now settles first state new words harts behind h zeroth lt run over ends is =
    let b = some_stands harts 0 lt in
    let may = (first_may settles first state harts lt run over).1 in
    let code : (code : ℕ) × (exit_code b.0 ≡ Some code) = some_code b.0 (first_exited (harts_in harts) b.0 b.1 over) in
    let noted : new ≡ record state { events = (state.events ++ settling (harts_in harts)) ++ Ended 0 Memory ∷ [] } =
    is ∙ ap (λ (k : ℕ). record state { events = (state.events ++ settling (harts_in harts)) ++ Ended k Memory ∷ [] }) zeroth in
    subst (λ (table : LinkTable). LacksMemoryOn state.harts (world_of state words harts) (world_of table words behind)) (sym noted)
    (lacks state.harts (world_of state words harts) (harts_in behind) b.0 code.0 b.1 code.1 may
    (subst (λ (k : ℕ). EndsAmong (harts_in harts) (harts_in behind) k Memory) zeroth ends))
