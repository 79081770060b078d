-- The harts of a run whose grants are settled, and what is due for one.
use Rattle.std.proofs.Common.{◌≡◌, ℕ, suc, zero, ◌<◌, Bool, true, false, ◌||◌, List, [], ◌∷◌, map, length, get_or, Option, Some, None, Result, Ok, Err, OnErr, OnOk, refl, sym, ap, ◌∙◌}
use Rattle.std.proofs.Math.ListN.{set}
use Rattle.std.proofs.lemmas.Bool.{or_right, true≢false}
use Rattle.std.proofs.lemmas.Option.{slice_get-get_or, slice_get-map}
use Rattle.std.specs.List.{slice_get}
use Rattle.std.specs.Option.{option_map}
use Rattle.std.specs.Result.{is_err}
use Rattle.history_event.specs.declared.hart_end.HartEnd.{HartEnd}
use Rattle.history_state.specs.State.{State}
use Rattle.history_calls.specs.Call.{Call}
use Rattle.hart_moves.specs.Due.{Due, Return, by_resolving, due}
use Rattle.hart_moves.specs.Harts.{HartState, Resolving}
use Rattle.hart_moves.specs.Moves.{freed, settled_resolving}
use Rattle.hart_seat.specs.Table.{HartTable}
use Rattle.world_answers.specs.Answers.{is_service}
use Rattle.world_answers.specs.ReturnsPart.Completing.{is_complete}
use Rattle.world_answers.specs.ReturnsPart.Settling.{freed_in, harts_in}
use Rattle.world_answers.specs.GuestsPart.Asking.{asks_linker, is_called}

-- ---- as lists

pub harts_freed : (hs : List HartTable) → harts_in (map freed_in hs) ≡ map freed (harts_in hs)
harts_freed [] = refl
harts_freed (t ∷ rest) = ap (λ (bs : List HartState). freed t.hart ∷ bs) (harts_freed rest)

set_in : (hs : List HartTable) (i : ℕ) (t : HartTable) → harts_in (set hs i t) ≡ set (harts_in hs) i t.hart
set_in [] i t = refl
set_in (x ∷ rest) zero t = refl
set_in (x ∷ rest) (suc i) t = ap (λ (bs : List HartState). x.hart ∷ bs) (set_in rest i t)

pub harts_set : (hs : List HartTable) (i h : ℕ) (t : HartTable) → i ≡ h → harts_in (set hs i t) ≡ set (harts_in hs) h t.hart
harts_set hs i h t same = set_in hs i t ∙ ap (λ (n : ℕ). set (harts_in hs) n t.hart) same

pub hart_at : (hs : List HartTable) (i h : ℕ) (d : HartTable) → i ≡ h → h < length hs → slice_get (harts_in hs) h ≡ Some (get_or hs i d).hart
hart_at hs i h d same lt =
    slice_get-map (λ (x : HartTable). x.hart) hs h
    ∙ ap (option_map (λ (x : HartTable). x.hart)) (slice_get-get_or hs h d lt ∙ ap (λ (n : ℕ). Some (get_or hs n d)) (sym same))

pub freed_at : (bs : List HartState) (i : ℕ) (b : HartState) → slice_get bs i ≡ Some b → slice_get (map freed bs) i ≡ Some (freed b)
freed_at bs i b at = slice_get-map freed bs i ∙ ap (option_map freed) at

pub left_at : (bs : List HartState) (i : ℕ) (b c : HartState) → slice_get bs i ≡ Some b → slice_get (set bs i c) i ≡ Some c
left_at [] i b c at = absurd (let e : None ≡ Some b = at in cc)
left_at (x ∷ rest) zero b c at = refl
left_at (x ∷ rest) (suc i) b c at = left_at rest i b c at

pub same_hart : (found : Option HartState) (b c : HartState) → found ≡ Some b → found ≡ Some c → b ≡ c
same_hart found b c one other = let e : Some b ≡ Some c = sym one ∙ other in cc

-- ---- settled twice it is as settled once

settled_twice : (r : Resolving) → settled_resolving (settled_resolving r) ≡ settled_resolving r
settled_twice Resolving.idle = refl
settled_twice (Resolving.to_exchange o) = refl
settled_twice (Resolving.to_finish o found) = refl
settled_twice (Resolving.to_settle o found) = refl

pub freed_twice : (b : HartState) → freed (freed b) ≡ freed b
freed_twice b = ap (λ (r : Resolving). record b { resolving = r }) (settled_twice b.resolving)

-- ---- what is due

pub record IsServe (d : Due) : Type 0 where
  pub call : Call
  pub back : Return
  pub is : d ≡ Due.serve call back

pub serve_of : (d : Due) → is_service d ≡ true → IsServe d
serve_of Due.nothing is = absurd (true≢false (sym is))
serve_of (Due.exchange o) is = absurd (true≢false (sym is))
serve_of (Due.finish o found) is = absurd (true≢false (sym is))
serve_of Due.fuel_out is = absurd (true≢false (sym is))
serve_of Due.instruction is = absurd (true≢false (sym is))
serve_of (Due.copy copy start bytes) is = absurd (true≢false (sym is))
serve_of (Due.serve call back) is = record { call = call; back = back; is = refl }
serve_of (Due.wait for) is = absurd (true≢false (sym is))
serve_of (Due.store text stored word more) is = absurd (true≢false (sym is))
serve_of (Due.enter function frames) is = absurd (true≢false (sym is))
serve_of (Due.complete purpose object rest below) is = absurd (true≢false (sym is))
serve_of (Due.finalise code object) is = absurd (true≢false (sym is))

pub asks_of_called : (d : Due) → is_called d ≡ true → asks_linker d ≡ true
asks_of_called d is = ap (λ (x : Bool). x || is_complete d) is

pub asks_of_serve : (d : Due) (call : Call) (back : Return) → d ≡ Due.serve call back → asks_linker d ≡ true
asks_of_serve d call back is = ap asks_linker is

pub asks_of_complete : (d : Due) → is_complete d ≡ true → asks_linker d ≡ true
asks_of_complete d is = or_right (is_called d) (is_complete d) is

pub ended_due : (s : State) (b : HartState) (reason : HartEnd) → b.«end» ≡ Some reason → due s b ≡ Due.nothing
unfolding due
ended_due s b reason is = ap (λ (e : Option HartEnd). elim e [ Some r ↦ Due.nothing | None ↦ by_resolving s b b.resolving ]) is

-- a hart that asks the linker for something runs
pub runs_on : (s : State) (b : HartState) → asks_linker (due s b) ≡ true → b.«end» ≡ None
runs_on s b asks = by b.«end» refl
  where
    by : (e : Option HartEnd) → b.«end» ≡ e → b.«end» ≡ None
    by None is = is
    by (Some reason) is = absurd (true≢false (sym asks ∙ ap asks_linker (ended_due s b reason is)))

-- ---- what a call of a function answered

pub on_ok : {T E : Type 0} (r : Result T E) (P : Type 0) → is_err r ≡ false → OnOk r P → P
on_ok (Ok x) P none p = p
on_ok (Err e) P none p = absurd (true≢false none)

pub on_err : {T E : Type 0} (r : Result T E) (P : Type 0) → is_err r ≡ true → OnErr r P → P
on_err (Ok x) P some p = absurd (true≢false (sym some))
on_err (Err e) P some p = p
