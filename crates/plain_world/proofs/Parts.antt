-- A run's parts in the code, and its world.
use Rattle.std.proofs.Common.{◌≡◌, ℕ, zero, suc, ◌<◌, Bool, true, false, List, [], ◌∷◌, ◌++◌, map, length, get_or, Option, refl, sym, ap, subst, ◌∙◌, true≢false, arith}
use Rattle.std.specs.Prelude.{◌&&◌}
use Rattle.std.specs.Bool.{OnFalse, OnTrue}
use Rattle.std.specs.List.{list_all}
use Rattle.ld_base.specs.declared.linking.File.{File}
use Rattle.history_event.specs.declared.handed.HartEntry.{HartEntry}
use Rattle.link_state.specs.Table.{LinkTable}
use Rattle.rv_hart.specs.declared.doubleword.Doubleword.{Doubleword}
use Rattle.hart_moves.specs.Harts.{HartState}
use Rattle.hart_moves.specs.Moves.{freed}
use Rattle.hart_seat.specs.Table.{HartTable}
use Rattle.world_answers.specs.ReturnsPart.Settling.{freed_in, harts_in}
use Rattle.world_answers.specs.GuestsPart.GuestWorlds.Worlds.{MayBeAt, TakesOn, TakesOver, world_of}
use Rattle.world_turns.specs.Run.{has_ended, settled}
use Rattle.world_turns.specs.World.{World, settling}
use Rattle.plain_world.specs.Table.{WorldTable, moved}

-- ---- the same parts

pub same_world : (old new : LinkTable) (words words' : List Doubleword) (before behind : List HartTable) → new ≡ old → words' ≡ words → harts_in behind ≡ harts_in before
    → world_of new words' behind ≡ world_of old words before
same_world old new words words' before behind state memory harts =
    ap (λ (s : LinkTable). world_of s words' behind) state ∙ ap (λ (ws : List Doubleword). world_of old ws behind) memory
    ∙ ap (λ (bs : List HartState). record { journal = old.events; words = words; harts = bs }) harts

pub all_in : (p : HartState → Bool) (harts : List HartTable) → list_all (λ h. p h.hart) harts ≡ list_all p (harts_in harts)
all_in p [] = refl
all_in p (h ∷ rest) = ap (λ (t : Bool). p h.hart && t) (all_in p rest)

-- whether or not they have begun, they may have
pub begun_at : (count : ℕ) (folders : List (List ℕ)) (begun : Bool) (world : World) → MayBeAt count folders begun world → MayBeAt count folders true world
begun_at count folders begun world at =
    record { preload = at.preload; running = at.running; before = λ e. absurd (true≢false e); writing = at.writing }

-- ---- turns

pub on_takes : (count : ℕ) (folders : List (List ℕ)) (files : Option (List File)) (h : ℕ) (old new : World) → TakesOn count h old new
    → TakesOver count folders files h old new
on_takes count folders files h old new on = λ w over. on w over.machine

-- ---- settling

freed_harts : (harts : List HartTable) → harts_in (map freed_in harts) ≡ map freed (harts_in harts)
freed_harts [] = refl
freed_harts (h ∷ rest) = ap (λ (bs : List HartState). freed h.hart ∷ bs) (freed_harts rest)

pub settles_to : (old new : LinkTable) (words : List Doubleword) (before behind : List HartTable)
    → new ≡ record old { events = old.events ++ settling (harts_in before) } → behind ≡ map freed_in before
    → world_of new words behind ≡ settled (world_of old words before)
settles_to old new words before behind state harts =
    ap (λ (s : LinkTable). world_of s words behind) state
    ∙ ap (λ (bs : List HartState). record { journal = old.events ++ settling (harts_in before); words = words; harts = bs })
    (ap harts_in harts ∙ freed_harts before)

pub settled_at : (folders : List (List ℕ)) (begun : Bool) (old new : LinkTable) (words : List Doubleword) (before items behind : List HartTable)
    → before ≡ items → new ≡ record old { events = old.events ++ settling (harts_in before) } → behind ≡ map freed_in before
    → MayBeAt old.harts folders begun (settled (world_of old words items)) → MayBeAt new.harts folders begun (world_of new words behind)
settled_at folders begun old new words before items behind is state harts at =
    subst (λ (n : ℕ). MayBeAt n folders begun (world_of new words behind)) (sym (ap (λ (s : LinkTable). s.harts) state))
    (subst (λ (v : World). MayBeAt old.harts folders begun v)
    (sym (settles_to old new words before behind state harts ∙ ap (λ (hs : List HartTable). settled (world_of old words hs)) is)) at)

-- ---- by whether

pub on_true : (b : Bool) (P Q : Type 0) → (P → Q) → OnTrue b P → OnTrue b Q
on_true true P Q f p = f p
on_true false P Q f p = p

pub on_false : (b : Bool) (P Q : Type 0) → (P → Q) → OnFalse b P → OnFalse b Q
on_false true P Q f p = p
on_false false P Q f p = f p

abbrev pub table : ℕ → List (List ℕ) → HartEntry → Bool → World → WorldTable
table count folders entry begun world = record { count = count; folders = folders; entry = entry; begun = begun; world = world }

pub same_table : (folders : List (List ℕ)) (entry : HartEntry) (begun : Bool) (n count : ℕ) (world other : World) → n ≡ count → world ≡ other
    → table n folders entry begun world ≡ moved (table count folders entry begun world) other
same_table folders entry begun n count world other all is =
    ap (λ (k : ℕ). table k folders entry begun world) all ∙ ap (λ (v : World). table count folders entry begun v) is

-- ---- ends

pub ended_at : (harts : List HartTable) (i : ℕ) (h : HartTable) → i < length harts → h ≡ get_or harts i h → list_all has_ended (harts_in harts) ≡ true → has_ended h.hart ≡ true
ended_at [] i h lt at over = absurd (omega (arith, lt))
ended_at (x ∷ rest) i h lt at over = by i lt at (λ k less is more. ended_at rest k h less is more)
  where
    front : (t s : Bool) → (t && s) ≡ true → t ≡ true
    front true s e = refl
    front false s e = e

    behind : (t s : Bool) → (t && s) ≡ true → s ≡ true
    behind true s e = e
    behind false s e = absurd (true≢false (sym e))

    by : (k : ℕ) → k < length (x ∷ rest) → h ≡ get_or (x ∷ rest) k h
        → ((j : ℕ) → j < length rest → h ≡ get_or rest j h → list_all has_ended (harts_in rest) ≡ true → has_ended h.hart ≡ true) → has_ended h.hart ≡ true
    by zero less is again = ap (λ (y : HartTable). has_ended y.hart) is ∙ front (has_ended x.hart) (list_all has_ended (harts_in rest)) over
    by (suc j) less is again = again j (omega (arith, less)) is (behind (has_ended x.hart) (list_all has_ended (harts_in rest)) over)
