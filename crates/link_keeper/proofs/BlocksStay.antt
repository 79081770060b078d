-- A hart's block of a module stays while the generation does.
use Rattle.std.proofs.Common.{◌≡◌, ⊎_elim, ℕ, ◌+◌, ◌≤◌, ◌==◌, ◌&&◌, not, cond, suc, Bool, true, false, List, [], ◌∷◌, ◌++◌, length, filter, find, map, Option, None, Some, refl, sym, ap, subst, ◌∙◌, append-nil, arith}
use Rattle.std.proofs.Math.Seq.{take-append_seam}
use Rattle.std.specs.List.{Contains, slice_get}
use Rattle.std.specs.Option.{is_some, option_and_then, option_map, option_map_or, option_or}
use Rattle.std.proofs.lemmas.Bool.{and_parts, eqb-true, false≢true}
use Rattle.std.proofs.lemmas.List.Folds.{find-append}
use Rattle.ld_base.specs.declared.linking.Loaded.{Loaded}
use Rattle.ld_base.specs.declared.linking.TlsPlace.{TlsPlace}
use Rattle.ld_base.specs.declared.object.TlsSeg.{TlsSeg}
use Rattle.history_event.specs.declared.event.CloseAnswer.TheVariants as closes
use Rattle.history_event.specs.declared.event.Event.{Event}
use Rattle.history_event.specs.declared.event.Event.TheVariants as events
use Rattle.history_event.specs.declared.event.OpenAnswer.TheVariants as opens
use Rattle.history_event.specs.declared.event.OpenAsk.{OpenAsk}
use Rattle.history_event.specs.declared.event.Purpose.{Purpose}
use Rattle.history_event.specs.declared.event.Purpose.TheVariants as purposes
use Rattle.history_event.specs.declared.event.Range.{Range}
use Rattle.history_event.specs.declared.event.SymAnswer.TheVariants as syms
use Rattle.history_event.specs.declared.state.Block.{Block}
use Rattle.history_event.specs.declared.state.Module.{Module}
use Rattle.tls_blocks.specs.Numbers.{module_at, with_module}
use Rattle.history_state.specs.After.{after}
use Rattle.history_state.specs.Allowed.{AllowedIn}
use Rattle.history_state.specs.Areas.{AreGiven, areas, free_pages, object_area}
use Rattle.history_state.specs.Legal.{Lawful}
use Rattle.history_state.specs.Lemmas.History.{after_push, lawful_take, one_behind}
use Rattle.history_state.specs.Lemmas.Lists.{first_or_later, found_in, none_in, only_in}
use Rattle.history_state.specs.Lemmas.Lookups.{find_front, find_kept}
use Rattle.history_state.specs.Objects.{has, is_startup, object_at}
use Rattle.history_state.specs.Opening.{Opens, OpensName}
use Rattle.history_state.specs.Read.{BeginsUntouched, IsUntouched}
use Rattle.history_state.specs.Setting.{Machine, Setting}
use Rattle.history_state.specs.State.{State, Statics}
use Rattle.history_state.specs.Step.{block_range, block_ranges, die, goes_with, has_module, initialise, loaded, lower, purpose_goes, step, unmap}
use Rattle.history_state.specs.Storage.{is_static_area, late_block, module_of, module_of_place, statics_with, statics_with_one, tls_block, tp_of, with_modules}
use Rattle.history_calls.specs.Gives.{HasBlock}
use Rattle.hart_trails.specs.Lemmas.Rising.{generation_rises}

-- ---- what a block is read off

-- two states in which a hart's block of an object is the same
record SameBlocks (s t : State) (h : ℕ) : Type 0 where
  modules : t.modules ≡ s.modules
  tp : t.statics ≡ s.statics
  area : find (λ r. is_static_area h r.purpose) t.ranges ≡ find (λ r. is_static_area h r.purpose) s.ranges

-- with a block that was there
abbrev LateStays : State → State → ℕ → Type 0
LateStays s t h = (m : Module) (block : ℕ) → Contains s.modules m → late_block s h m.serial ≡ Some block → late_block t h m.serial ≡ Some block

tp_same : (s t : State) (h : ℕ) → SameBlocks s t h → tp_of t h ≡ tp_of s h
unfolding tp_of
tp_same s t h same =
    ap (λ (x : Statics). option_map_or (λ r. r.address + x.tp) (find (λ r. is_static_area h r.purpose) t.ranges) 0) same.tp
    ∙ ap (λ (o : Option Range). option_map_or (λ r. r.address + s.statics.tp) o 0) same.area

-- the block of a module of this object
abbrev by_module : State → ℕ → ℕ → Option Module → Option ℕ
by_module s h serial found = elim found [ Some m ↦ option_map_or (λ offset. Some (tp_of s h + offset)) m.offset (late_block s h serial) | None ↦ None ]

by_offset : (s t : State) (h serial block : ℕ) → tp_of t h ≡ tp_of s h → (late_block s h serial ≡ Some block → late_block t h serial ≡ Some block) → (m : Module) (o : Option ℕ) → m.offset ≡ o
    → by_module s h serial (Some m) ≡ Some block → by_module t h serial (Some m) ≡ Some block
by_offset s t h serial block tp late m None none was =
    ap (λ (o : Option ℕ). option_map_or (λ offset. Some (tp_of t h + offset)) o (late_block t h serial)) none
    ∙ late (ap (λ (o : Option ℕ). option_map_or (λ offset. Some (tp_of s h + offset)) o (late_block s h serial)) (sym none) ∙ was)
by_offset s t h serial block tp late m (Some offset) some was =
    ap (λ (o : Option ℕ). option_map_or (λ offset. Some (tp_of t h + offset)) o (late_block t h serial)) some
    ∙ ap (λ (n : ℕ). Some (n + offset)) tp
    ∙ ap (λ (o : Option ℕ). option_map_or (λ offset. Some (tp_of s h + offset)) o (late_block s h serial)) (sym some) ∙ was

block_same : (s t : State) (h serial block : ℕ) → SameBlocks s t h → LateStays s t h → tls_block s h serial ≡ Some block → tls_block t h serial ≡ Some block
unfolding tls_block
block_same s t h serial block same late is = by (module_of s serial) refl
  where
    modules : module_of t serial ≡ module_of s serial
    modules = ap (λ (ms : List Module). find (λ m. m.serial == serial) ms) same.modules

    by : (found : Option Module) → module_of s serial ≡ found → by_module t h serial (module_of t serial) ≡ Some block
    by None none = absurd (let no : None ≡ Some block = ap (by_module s h serial) (sym none) ∙ is in cc)
    by (Some m) found =
        let there = found_in (λ (x : Module). x.serial == serial) s.modules m found in
        let its : m.serial ≡ serial = eqb-true m.serial serial there.1 in
        let stays : late_block s h serial ≡ Some block → late_block t h serial ≡ Some block =
        λ old. subst (λ (n : ℕ). late_block t h n ≡ Some block) its (late m block there.0 (subst (λ (n : ℕ). late_block s h n ≡ Some block) (sym its) old)) in
        ap (by_module t h serial) (modules ∙ found) ∙ by_offset s t h serial block (tp_same s t h same) stays m m.offset refl (ap (by_module s h serial) (sym found) ∙ is)

has_same : (s t : State) (h number block : ℕ) → SameBlocks s t h → LateStays s t h → HasBlock s h number block → HasBlock t h number block
has_same s t h number block same late x = record {
  of = x.of;
  there = ap (λ (ms : List Module). module_at ms number) same.modules ∙ x.there;
  is = block_same s t h x.of.serial block same late x.is;
}

-- ---- an opening that brings no module

abbrev NoneNew : List Loaded → Type 0
NoneNew added = ((ms : List Module) → with_modules added ms ≡ ms) × ((st : Statics) → statics_with added st ≡ st)

without : (st : Statics) (serial : ℕ) (seg : Option TlsSeg) → statics_with_one st serial seg None ≡ st
without st serial None = refl
without st serial (Some seg) = refl

none_new : (added : List Loaded) → length (filter has_module added) ≡ 0 → NoneNew added
none_new [] none = (λ ms. refl, λ st. refl)
none_new (o ∷ rest) none = by o.«module» refl (none_new rest)
  where
    counted : (b : Bool) → has_module o ≡ b → length (cond b (o ∷ filter has_module rest) (filter has_module rest)) ≡ 0
    counted b is = ap (λ (c : Bool). length (cond c (o ∷ filter has_module rest) (filter has_module rest))) (sym is) ∙ none

    by : (place : Option TlsPlace) → o.«module» ≡ place → (length (filter has_module rest) ≡ 0 → NoneNew rest) → NoneNew (o ∷ rest)
    by (Some place) is again = absurd (let some : suc (length (filter has_module rest)) ≡ 0 = counted true (ap is_some is) in omega (arith, some))
    by None is again =
        let more = again (counted false (ap is_some is)) in (
          λ ms. ap (with_modules rest) (ap (λ (place : Option TlsPlace). option_map_or (λ q. with_module (module_of_place o.serial q) ms) place ms) is) ∙ more.0 ms,
          λ st. ap (statics_with rest) (ap (statics_with_one st o.serial o.object.tls) is ∙ without st o.serial o.object.tls) ∙ more.1 st,
        )

-- its pages are its objects'
object_pages : (h : ℕ) (added : List Loaded) (free left : List ℕ) (ranges : List Range) → AreGiven free (map object_area added ++ []) ranges left → (r : Range) → Contains ranges r
    → is_static_area h r.purpose ≡ false
object_pages h [] free left [] given r there = absurd (none_in r there)
object_pages h [] free left (x ∷ ranges) given r there = absurd given
object_pages h (o ∷ rest) free left [] given r there = absurd given
object_pages h (o ∷ rest) free left (x ∷ ranges) given r there = ⊎_elim
    (λ (same : x ≡ r). ap (λ (p : Purpose). is_static_area h p) (ap (λ (y : Range). y.purpose) (sym same) ∙ given.0.purpose))
    (λ (more : Contains ranges r). object_pages h rest _ left ranges given.1 r more)
    (first_or_later x ranges r there)

opens_pages : (w : Setting) (s : State) (h hart : ℕ) (ask : OpenAsk) (name : Option (List ℕ)) (id root : ℕ) (added : List Loaded) (ranges : List Range) → is_startup s ≡ false
    → OpensName w s hart ask name id root added ranges → (r : Range) → Contains ranges r → is_static_area h r.purpose ≡ false
opens_pages w s h hart ask None id root added ranges later x r there = absurd (none_in r (subst (λ (rs : List Range). Contains rs r) x.no_pages there))
opens_pages w s h hart ask (Some name) id root added ranges later x r there =
    object_pages h added (free_pages s.ranges) x.placed.left ranges
    (subst (λ (b : Bool). AreGiven (free_pages s.ranges) (areas b (statics_with added s.statics) w.machine.harts added) ranges x.placed.left) later x.placed.given) r there

open_stays : (w : Setting) (s : State) (h hart : ℕ) (ask : OpenAsk) (id root : ℕ) (added : List Loaded) (ranges : List Range) → is_startup s ≡ false → Opens w s hart ask id root added ranges
    → (step s (events.Open hart ask (opens.Done id root added ranges))).generation ≡ s.generation → SameBlocks s (step s (events.Open hart ask (opens.Done id root added ranges))) h
unfolding loaded
open_stays w s h hart ask id root added ranges later may same =
    let none : length (filter has_module added) ≡ 0 = (let count : s.generation + length (filter has_module added) ≡ s.generation = same in omega (arith, count)) in
    let new = none_new added none in
    record {
      modules = new.0 s.modules;
      tp = ap (λ (b : Bool). cond b (statics_with added s.statics) s.statics) later;
      area = find_front (λ r. is_static_area h r.purpose) s.ranges ranges (opens_pages w s h hart ask ask.name id root added ranges later may.name);
    }

-- ---- an unmapping that takes no module

abbrev NoneTaken : List ℕ → List Module → Type 0
NoneTaken set ms = (filter (λ m. not (has set m.serial)) ms ≡ ms) × ((m : Module) → Contains ms m → has set m.serial ≡ false)

none_taken : (set : List ℕ) (ms : List Module) → length (filter (λ m. has set m.serial) ms) ≡ 0 → NoneTaken set ms
none_taken set [] none = (refl, λ m there. absurd (none_in m there))
none_taken set (x ∷ rest) none = by (has set x.serial) refl (none_taken set rest)
  where
    counted : (b : Bool) → has set x.serial ≡ b → length (cond b (x ∷ filter (λ m. has set m.serial) rest) (filter (λ m. has set m.serial) rest)) ≡ 0
    counted b is = ap (λ (c : Bool). length (cond c (x ∷ filter (λ m. has set m.serial) rest) (filter (λ m. has set m.serial) rest))) (sym is) ∙ none

    by : (b : Bool) → has set x.serial ≡ b → (length (filter (λ m. has set m.serial) rest) ≡ 0 → NoneTaken set rest) → NoneTaken set (x ∷ rest)
    by true is again = absurd (let some : suc (length (filter (λ m. has set m.serial) rest)) ≡ 0 = counted true is in omega (arith, some))
    by false is again =
        let more = again (counted false is) in (
          ap (λ (b : Bool). cond (not b) (x ∷ filter (λ m. not (has set m.serial)) rest) (filter (λ m. not (has set m.serial)) rest)) is ∙ ap (λ (ms : List Module). x ∷ ms) more.0,
          λ m there. ⊎_elim (λ (same : x ≡ m). ap (λ (y : Module). has set y.serial) (sym same) ∙ is) (λ (in_rest : Contains rest m). more.1 m in_rest) (first_or_later x rest m there),
        )

static_stays : (h : ℕ) (set : List ℕ) (r : Range) → is_static_area h r.purpose ≡ true → not (goes_with set r) ≡ true
static_stays h set r is = by r.purpose refl is
  where
    by : (p : Purpose) → r.purpose ≡ p → is_static_area h r.purpose ≡ true → not (goes_with set r) ≡ true
    by (purposes.Object serial) same static = absurd (false≢true (sym (ap (is_static_area h) same) ∙ static))
    by (purposes.Stack k) same static = absurd (false≢true (sym (ap (is_static_area h) same) ∙ static))
    by (purposes.StaticTls k) same static = ap (λ (p : Purpose). not (purpose_goes set p)) same
    by (purposes.Block k serial) same static = absurd (false≢true (sym (ap (is_static_area h) same) ∙ static))

unmap_stays : (s : State) (h hart : ℕ) (set : List ℕ) → (step s (events.Unmapped hart set)).generation ≡ s.generation
    → SameBlocks s (step s (events.Unmapped hart set)) h × LateStays s (step s (events.Unmapped hart set)) h
unfolding unmap
unmap_stays s h hart set same =
    let none = none_taken set s.modules (let count : s.generation + length (filter (λ m. has set m.serial) s.modules) ≡ s.generation = same in omega (arith, count)) in (
      record { modules = none.0; tp = refl; area = find_kept (λ r. is_static_area h r.purpose) (λ r. not (goes_with set r)) s.ranges (λ r there is. static_stays h set r is) },
      λ m block there is.
          ap (λ (found : Option Block). option_map (λ (b : Block). b.address) found)
          (find_kept (λ b. b.hart == h && b.serial == m.serial) (λ b. not (has set b.serial)) s.blocks
          (λ b in_blocks its.
          let serial : b.serial ≡ m.serial = eqb-true b.serial m.serial (and_parts (b.hart == h) (b.serial == m.serial) its).1 in
          ap not (ap (has set) serial ∙ none.1 m there)))
          ∙ is,
    )

-- ---- a new block

found_still : {X : Type 0} (p : X → Bool) (xs ys : List X) (x : X) → find p xs ≡ Some x → find p (xs ++ ys) ≡ Some x
found_still {X} p xs ys x is = find-append p xs ys ∙ ap (λ (found : Option X). option_or found (find p ys)) is

late_still : (s : State) (h serial block : ℕ) (more : List Block) → late_block s h serial ≡ Some block → option_map (λ (b : Block). b.address) (find (λ b. b.hart == h && b.serial == serial) (s.blocks ++ more)) ≡ Some block
late_still s h serial block more is = by (find (λ b. b.hart == h && b.serial == serial) s.blocks) refl
  where
    by : (found : Option Block) → find (λ b. b.hart == h && b.serial == serial) s.blocks ≡ found
        → option_map (λ (b : Block). b.address) (find (λ b. b.hart == h && b.serial == serial) (s.blocks ++ more)) ≡ Some block
    by None none = absurd (let no : None ≡ Some block = sym (ap (λ (f : Option Block). option_map (λ (b : Block). b.address) f) none) ∙ is in cc)
    by (Some b) found =
        ap (λ (f : Option Block). option_map (λ (x : Block). x.address) f) (found_still (λ x. x.hart == h && x.serial == serial) s.blocks more b found ∙ sym found) ∙ is

block_page : (s : State) (h hart owner address : ℕ) (r : Range) → Contains (block_ranges s hart owner address) r → is_static_area h r.purpose ≡ false
block_page s h hart owner address r there = by (option_and_then (λ o. o.object.tls) (object_at s owner)) there
  where
    by : (seg : Option TlsSeg) → Contains (option_map_or (λ x. block_range hart owner address x ∷ []) seg []) r → is_static_area h r.purpose ≡ false
    by None inside = absurd (none_in r inside)
    by (Some seg) inside = ap (λ (x : Range). is_static_area h x.purpose) (sym (only_in (block_range hart owner address seg) r inside))

-- ---- each event

step_stays : (w : Setting) (past : List Event) (s : State) (e : Event) (h : ℕ) → AllowedIn w past s e → is_startup s ≡ false → (step s e).generation ≡ s.generation
    → SameBlocks s (step s e) h × LateStays s (step s e) h
unfolding die lower initialise loaded
step_stays w past s (events.Open hart ask (opens.Done id root added ranges)) h may later same = (open_stays w s h hart ask id root added ranges later may same, λ m block there is. is)
step_stays w past s (events.Open hart ask opens.Absent) h may later same = (record { modules = refl; tp = refl; area = refl }, λ m block there is. is)
step_stays w past s (events.Open hart ask (opens.Refused fault)) h may later same = (record { modules = refl; tp = refl; area = refl }, λ m block there is. is)
step_stays w past s (events.Close hart handle (closes.Done set)) h may later same = (record { modules = refl; tp = refl; area = refl }, λ m block there is. is)
step_stays w past s (events.Close hart handle (closes.Refused fault)) h may later same = (record { modules = refl; tp = refl; area = refl }, λ m block there is. is)
step_stays w past s (events.Unmapped hart set) h may later same = unmap_stays s h hart set same
step_stays w past s (events.Sym hart ask (syms.Found serial index value)) h may later same = (record { modules = refl; tp = refl; area = refl }, λ m block there is. is)
step_stays w past s (events.Sym hart ask (syms.Refused fault)) h may later same = (record { modules = refl; tp = refl; area = refl }, λ m block there is. is)
step_stays w past s (events.Tls hart owner address) h may later same = (
  record { modules = refl; tp = refl; area = find_front (λ r. is_static_area h r.purpose) s.ranges (block_ranges s hart owner address) (block_page s h hart owner address) },
  λ m block there is. late_still s h m.serial block _ is,
)
step_stays w past s _ h may later same = (record { modules = refl; tp = refl; area = refl }, λ m block there is. is)

-- ---- a journal

pub lawful_front : (m : Machine) (past more : List Event) → Lawful m (past ++ more) → Lawful m past
lawful_front m past more lawful = subst (Lawful m) (take-append_seam past more) (lawful_take m (past ++ more) (length past) lawful)

pub lawful_next : (m : Machine) (past : List Event) (e : Event) (rest : List Event) → Lawful m (past ++ e ∷ rest) → (w : Setting) × (w.machine ≡ m) × AllowedIn w past (after past) e
unfolding Lawful
lawful_next m past e rest lawful =
    let at = lawful (length past) e (at_seam past) in
    (at.0, at.1, subst (λ (es : List Event). AllowedIn at.0 es (after es) e) (take-append_seam past (e ∷ rest)) at.2)
  where
    at_seam : (es : List Event) → slice_get (es ++ e ∷ rest) (length es) ≡ Some e
    at_seam [] = refl
    at_seam (x ∷ es) = at_seam es

-- where nothing is loaded no module is there
later_on : (s : State) (h number block : ℕ) → (is_startup s ≡ true → IsUntouched s) → HasBlock s h number block → is_startup s ≡ false
later_on s h number block untouched x = by (is_startup s) refl
  where
    by : (b : Bool) → is_startup s ≡ b → b ≡ false
    by false is = refl
    by true is = absurd (let no : None ≡ Some x.of = ap (λ (ms : List Module). module_at ms number) (sym (untouched is).modules) ∙ x.there in cc)

pub blocks_stay : ((m : Machine) (journal : List Event) → Lawful m journal → BeginsUntouched (after journal)) → (m : Machine) (past more : List Event) (h number block : ℕ) → Lawful m (past ++ more)
    → (after (past ++ more)).generation ≡ (after past).generation → HasBlock (after past) h number block → HasBlock (after (past ++ more)) h number block
blocks_stay begins m past [] h number block lawful same x = subst (λ (es : List Event). HasBlock (after es) h number block) (sym (append-nil past)) x
blocks_stay begins m past (e ∷ rest) h number block lawful same x =
    let next : (w : Setting) × (w.machine ≡ m) × AllowedIn w past (after past) e = lawful_next m past e rest lawful in
    let before : Lawful m past = lawful_front m past (e ∷ rest) lawful in
    let one : (after past).generation ≤ (step (after past) e).generation = subst (λ (s : State). (after past).generation ≤ s.generation) (after_push past e) (generation_rises past (e ∷ [])) in
    let here : (after (past ++ e ∷ [])).generation ≡ (step (after past) e).generation = ap (λ (s : State). s.generation) (after_push past e) in
    let rises : (after (past ++ e ∷ [])).generation ≤ (after ((past ++ e ∷ []) ++ rest)).generation = generation_rises (past ++ e ∷ []) rest in
    let whole : (after ((past ++ e ∷ []) ++ rest)).generation ≡ (after (past ++ e ∷ rest)).generation = ap (λ (es : List Event). (after es).generation) (one_behind past e rest) in
    let stays = step_stays next.0 past (after past) e h next.2 (later_on (after past) h number block (begins m past before) x) (omega (arith, one, here, rises, whole, same)) in
    let now : HasBlock (after (past ++ e ∷ [])) h number block =
    subst (λ (s : State). HasBlock s h number block) (sym (after_push past e)) (has_same (after past) (step (after past) e) h number block stays.0 stays.1 x) in
    subst (λ (es : List Event). HasBlock (after es) h number block) (one_behind past e rest)
    (blocks_stay begins m (past ++ e ∷ []) rest h number block (subst (Lawful m) (sym (one_behind past e rest)) lawful) (omega (arith, one, here, rises, whole, same)) now)
