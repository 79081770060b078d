-- In a whole trail an answer on thread-local storage that is no event is the first of its module and generation.
use Rattle.std.proofs.Common.{◌≡◌, ◌≢◌, ◌+◌, ℕ, suc, ◌≤◌, ◌<◌, Bool, true, false, ◌&&◌, ◌==◌, ne_eqb, if◌then◌else◌, List, [], ◌∷◌, ◌++◌, length, map, take, append-nil, append_assoc, Option, None, Some, Contains, refl, sym, ap, subst, ◌∙◌, arith}
use mathlib.Core.Logic.{dite}
use native.Mathlib.Decide.{ℕ_discrete}
use Rattle.std.proofs.lemmas.Bool.{false≢true}
use Rattle.history_event.specs.declared.event.Event.{Event}
use Rattle.history_event.specs.declared.hart_end.HartEnd.{HartEnd}
use Rattle.history_event.specs.declared.state.Module.{Module}
use Rattle.rv_hart.specs.declared.bus.Item.{Item}
use Rattle.rv_hart.specs.Items.{items_left}
use Rattle.rv_hart.specs.Registers.{Registers}
use Rattle.word_rule.specs.declared.entry.Entry.{Entry}
use Rattle.word_rule.specs.declared.view.TrailItem.{TrailItem}
use Rattle.word_rule.specs.declared.view.TrailItem.TheVariants.{Call, Took}
use Rattle.word_rule.specs.Generations.{AllKept, IsUnmarked, MarksOnce}
use Rattle.word_rule.specs.Lemmas.Trails.{unmarked_once}
use Rattle.word_rule.specs.Views.{NoneLater, entries_by, entries_of, is_block, last_block, later_block}
use Rattle.word_access.specs.Accesses.{in_memory}
use Rattle.history_state.specs.After.{after}
use Rattle.history_state.specs.Setting.{Setting}
use Rattle.history_state.specs.State.{State}
use Rattle.history_state.specs.Storage.{tls_block}
use Rattle.tls_blocks.specs.Numbers.{module_at}
use Rattle.history_calls.specs.Call.{locates}
use Rattle.hart_moves.specs.Due.{Due, due}
use Rattle.hart_moves.specs.Follows.{Turned}
use Rattle.hart_moves.specs.Harts.{HartState}
use Rattle.hart_moves.specs.Moves.{Did, events_of}
use Rattle.hart_moves.specs.Trails.{Beside, Located, beside_of, block_of, located_by}
use Rattle.hart_trails.specs.Entries.{block_entry, entry_behind}
use Rattle.hart_trails.specs.Laws.{MarksFollow}
use Rattle.hart_trails.specs.Trails.{FollowsBy, Leaves, LeavesBehind, Reads, is_granting, is_located, took_by, took_behind}

-- ---- lists

kept_parts : (before : List Entry) (xs ys : List TrailItem) → AllKept before (xs ++ ys) → AllKept before xs × AllKept (before ++ entries_of xs) ys
kept_parts before [] ys all = (tt, subst (λ (es : List Entry). AllKept es ys) (sym (append-nil before)) all)
kept_parts before (x ∷ xs) ys all =
    let rest = kept_parts (before ++ entries_by x) xs ys all.1 in
    ((all.0, rest.0), subst (λ (es : List Entry). AllKept es ys) (append_assoc before (entries_by x) (entries_of xs)) rest.1)

once_joined : (before : List Entry) (xs ys : List TrailItem) → MarksOnce before xs → MarksOnce (before ++ entries_of xs) ys → MarksOnce before (xs ++ ys)
once_joined before [] ys front back = subst (λ (es : List Entry). MarksOnce es ys) (append-nil before) back
once_joined before (x ∷ xs) ys front back = (
  front.0,
  once_joined (before ++ entries_by x) xs ys front.1 (subst (λ (es : List Entry). MarksOnce es ys) (sym (append_assoc before (entries_by x) (entries_of xs))) back),
)

-- ---- items without an answer of mark 2

abbrev AllUnmarked : List TrailItem → Type 0
AllUnmarked [] = Unit {0}
AllUnmarked (x ∷ xs) = IsUnmarked x × AllUnmarked xs

unmarked : (before : List Entry) (items : List TrailItem) → AllUnmarked items → MarksOnce before items
unmarked before [] all = tt
unmarked before (x ∷ xs) all = (unmarked_once before x all.0, unmarked (before ++ entries_by x) xs all.1)

both : (xs ys : List TrailItem) → AllUnmarked xs → AllUnmarked ys → AllUnmarked (xs ++ ys)
both [] ys front back = back
both (x ∷ xs) ys front back = (front.0, both xs ys front.1 back)

calls_are : (items : List Item) → AllUnmarked (map Call items)
calls_are [] = tt
calls_are (x ∷ xs) = (tt, calls_are xs)

took_are : (past rest : List Event) → AllUnmarked (took_behind past rest)
took_are past [] = tt
took_are past (e ∷ rest) = both (took_by past e) (took_behind (past ++ e ∷ []) rest) (by (is_granting e)) (took_are (past ++ e ∷ []) rest)
  where
    by : (grants : Bool) → AllUnmarked (if grants then [] else Took (entry_behind past e) ∷ [])
    by true = tt
    by false = ((λ (two : 1 ≡ 2). absurd (omega (arith, two))), tt)

reads_are : (s : State) (b : HartState) (read : List TrailItem) → Reads s b read → AllUnmarked read
reads_are s b read (Reads.is_another none) = tt
reads_are s b read (Reads.none_kept number offset generation block back is low none) = (tt, tt)

-- ---- which turn has a block beside it

block_number : (s : State) (h number : ℕ) (l : Located) → block_of s h number ≡ Some l → l.number ≡ number
block_number s h number l at = by (module_at s.modules number) at
  where
    inside : (block : Option ℕ) → (elim block [ Some there ↦ Some (record { number = number; block = there }) | None ↦ None ]) ≡ Some l → l.number ≡ number
    inside None none = let no : None ≡ Some l = none in absurd (cc)
    inside (Some there) is = let same : Some (record { number = number; block = there }) ≡ Some l = is in let one : record { number = number; block = there } ≡ l = cc in ap (λ (x : Located). x.number) (sym one)

    by : (m : Option Module) → (elim m [ Some there ↦ elim (tls_block s h there.serial) [ Some block ↦ Some (record { number = number; block = block }) | None ↦ None ] | None ↦ None ]) ≡ Some l → l.number ≡ number
    by None none = let no : None ≡ Some l = none in absurd (cc)
    by (Some there) is = inside (tls_block s h there.serial) is

located_is : (s : State) (h : ℕ) (d : Due) (l : Located) → located_by s h d [] ≡ Some l → is_located d ≡ true
located_is s h (Due.serve (locates number offset) back) l at = refl
located_is s h (Due.serve _ back) l at = let no : None ≡ Some l = at in absurd (cc)
located_is s h _ l at = let no : None ≡ Some l = at in absurd (cc)

-- ---- a turn

there : (e x : Entry) (es : List Entry) → Contains es x → Contains (e ∷ es) x
there e x es c = let low = c.1 in (suc c.0, omega arith, c.2)

-- among entries of no later generation there is no answer of a later one
none_of_later : (loaded generation number : ℕ) (es : List Entry) → NoneLater loaded es → loaded < generation → last_block generation number es ≡ None
none_of_later loaded generation number [] none up = refl
none_of_later loaded generation number (e ∷ es) none up = λ i. later_block (none_of_later loaded generation number es (λ x c. none x (there e x es c)) up i) (other i) e.value
  where
    old : e.generation ≢ generation
    old same = let low : e.generation ≤ loaded = none e (0, omega arith, refl) in let high : loaded < generation = up in absurd (omega (arith, low, high, same))

    off : (a b c : Bool) → b ≡ false → (a && b && c) ≡ false
    off false b c is = refl
    off true false c is = refl
    off true true c is = let no : true ≡ false = is in absurd (cc)

    other : is_block generation number e ≡ false
    other = off (e.slot == number) (e.generation == generation) _ (ne_eqb e.generation generation old)

-- a block that is no event was asked for where none was kept
unknown : (s : State) (b : HartState) (read : List TrailItem) (before : List Entry) (t : State) (h : ℕ) (l : Located) → Reads s b read → AllKept before read → located_by t h (due s b) [] ≡ Some l
    → last_block s.generation l.number before ≡ None
unknown s b read before t h l (Reads.is_another none) kept at = absurd (false≢true (sym none ∙ located_is t h (due s b) l at))
unknown s b read before t h l (Reads.none_kept number offset generation block back is low none) kept at =
    subst (λ (n : ℕ). last_block s.generation n before ≡ None) (sym (block_number t h number l (sym (ap (λ (d : Due). located_by t h d []) is) ∙ at))) (dite (ℕ_discrete generation s.generation)
    (λ (same : generation ≡ s.generation). subst (λ (n : ℕ). last_block n number before ≡ None) same (sym kept.0.0 ∙ none.of_linker same))
    (λ (other : generation ≢ s.generation). none_of_later generation s.generation number before kept.0.1 (omega (arith, low, other))))

leaves_once : (past : List Event) (h : ℕ) (b : HartState) (beside : Beside) (did : Did) (items : List TrailItem) (before : List Entry) → Leaves past b beside did items → beside ≡ beside_of past h b did
    → AllKept before items → MarksOnce before items
leaves_once past h b beside did items before (Leaves.calls called) is kept = unmarked before (map Call (items_left in_memory called)) (calls_are (items_left in_memory called))
leaves_once past h b beside did items before (Leaves.entries called e rest read reads) is kept =
    unmarked before (read ++ map Call (items_left in_memory called) ++ took_behind past (e ∷ rest))
    (both (read ++ map Call (items_left in_memory called)) (took_behind past (e ∷ rest))
    (both read (map Call (items_left in_memory called)) (reads_are (after past) b read reads) (calls_are (items_left in_memory called))) (took_are past (e ∷ rest)))
leaves_once past h b beside did items before (Leaves.answers l read at reads) is kept =
    let parts = kept_parts before read (Took (block_entry past l) ∷ []) kept in
    once_joined before read (Took (block_entry past l) ∷ []) (unmarked before read (reads_are (after past) b read reads)) (
      (λ _. subst (λ (es : List Entry). last_block (after past).generation l.number es ≡ None) (no_entries read reads)
          (unknown (after past) b read before (after (past ++ [])) h l reads parts.0 (sym (ap (λ (x : Beside). x.located) is) ∙ at))),
      tt,
    )
  where
    no_entries : (read : List TrailItem) → Reads (after past) b read → before ≡ before ++ entries_of read
    no_entries read (Reads.is_another none) = sym (append-nil before)
    no_entries read (Reads.none_kept number offset generation block back due_is low none) = sym (append-nil before)
leaves_once past h b beside did items before (Leaves.is_kept l at) is kept = (tt, tt)
leaves_once past h b beside did items before (Leaves.tries_again for read reads) is kept =
    unmarked before (read ++ _ ∷ []) (both read (_ ∷ []) (reads_are (after past) b read reads) ((λ (two : 6 ≡ 2). absurd (omega (arith, two))), tt))
leaves_once past h b beside did items before (Leaves.exchanges o found x made) is kept = ((λ (two : x.grant.entry.mark ≡ 2). let three : x.grant.entry.mark ≡ 3 = made.mark in absurd (omega (arith, two, three))), tt)
leaves_once past h b beside did items before Leaves.finishes is kept = (tt, tt)

-- ---- turns

follows_once : (w : Setting) (journal : List Event) (h from to : ℕ) (b c : HartState) (turns : List Turned) (trail : List TrailItem) (before : List Entry) → FollowsBy w journal h from b turns trail to c
    → AllKept before trail → MarksOnce before trail
follows_once w journal h from to b c turns trail before (FollowsBy.no_more _ _) kept = tt
follows_once w journal h from to b c turns trail before (FollowsBy.one_more _ _ _ d _ turn rest items more late none x leaves follows) kept =
    let parts = kept_parts before items more kept in
    once_joined before items more (leaves_once (take turn.at journal) h b turn.beside turn.did items before leaves x.beside parts.0)
    (follows_once w journal h (turn.at + length (events_of turn.did)) to d c rest more (before ++ entries_of items) follows parts.1)

behind_once : (w : Setting) (journal : List Event) (h : ℕ) (registers : Registers) (from : ℕ) (ended : HartState) (first reason : HartEnd) (trail : List TrailItem) (before : List Entry)
    → LeavesBehind w journal h registers from ended first reason trail → AllKept before trail → MarksOnce before trail
behind_once w journal h registers from ended first reason trail before (LeavesBehind.is_another other none) kept = tt
behind_once w journal h registers from ended first reason trail before (LeavesBehind.none_runs is none runs) kept = tt
behind_once w journal h registers from ended first reason trail before (LeavesBehind.none_is_left is none left) kept = tt
behind_once w journal h registers from ended first reason trail before (LeavesBehind.no_memory is at lacks none) kept = ((λ (two : 1 ≡ 2). absurd (omega (arith, two))), tt)
behind_once w journal h registers from ended first reason trail before (LeavesBehind.all_run is at to begun last turns items reason' begins follows ends none) kept =
    follows_once w journal h at to begun last turns trail before follows kept

pub marks_follow : MarksFollow
marks_follow w journal start h reason trail x kept =
    let parts = kept_parts [] x.own x.rest (subst (AllKept []) x.whole kept) in
    subst (MarksOnce []) (sym x.whole) (once_joined [] x.own x.rest (follows_once w journal h start.from x.to start.hart x.ended x.turns x.own [] x.follows parts.0)
    (behind_once w journal h start.registers x.to x.ended x.first reason x.rest ([] ++ entries_of x.own) x.behind parts.1))
