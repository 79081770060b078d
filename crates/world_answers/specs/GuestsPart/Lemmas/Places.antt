-- One hart of a list is put in the place of another.
use Rattle.std.proofs.Common.{◌≡◌, ℕ, zero, suc, ◌<◌, List, [], ◌∷◌, ◌++◌, Some, get_or, length, map, refl, sym, ap, subst, ◌∙◌, arith}
use Rattle.std.specs.Prelude.{slice_set}
use Rattle.std.specs.List.{slice_get}
use Rattle.std.proofs.lemmas.Option.{none-some}
use Rattle.history_event.specs.declared.event.Event.{Event}
use Rattle.hart_moves.specs.Harts.{HartState, Resolving}
use Rattle.hart_moves.specs.Moves.{freed}
use Rattle.hart_seat.specs.Table.{HartTable}
use Rattle.world_answers.specs.ReturnsPart.Settling.{freed_in, harts_in}
use Rattle.world_turns.specs.World.{settled_by, settling}

-- ---- harts as whoever keeps them has them

pub stands : (harts : List HartTable) (i : ℕ) (d : HartTable) → i < length harts → slice_get (harts_in harts) i ≡ Some (get_or harts i d).hart
stands [] i d lt = absurd (omega (arith, lt))
stands (x ∷ rest) zero d lt = refl
stands (x ∷ rest) (suc i) d lt = stands rest i d (omega (arith, lt))

pub some_stands : (harts : List HartTable) (i : ℕ) → i < length harts → (b : HartState) × (slice_get (harts_in harts) i ≡ Some b)
some_stands [] i lt = absurd (omega (arith, lt))
some_stands (x ∷ rest) zero lt = (x.hart, refl)
some_stands (x ∷ rest) (suc i) lt = some_stands rest i (omega (arith, lt))

pub put_in : (harts : List HartTable) (i : ℕ) (x : HartTable) → harts_in (slice_set harts i x) ≡ slice_set (harts_in harts) i x.hart
put_in [] i x = refl
put_in (y ∷ rest) zero x = refl
put_in (y ∷ rest) (suc i) x = ap (λ (hs : List HartState). y.hart ∷ hs) (put_in rest i x)

pub freed_are : (harts : List HartTable) → harts_in (map freed_in harts) ≡ map freed (harts_in harts)
freed_are [] = refl
freed_are (x ∷ rest) = ap (λ (hs : List HartState). freed x.hart ∷ hs) (freed_are rest)

-- what is read at a place, and what is written there
pub read_at : (harts : List HartTable) (n h : ℕ) (d : HartTable) → n ≡ h → h < length harts → slice_get (harts_in harts) h ≡ Some (get_or harts n d).hart
read_at harts n h d same lt =
    subst (λ (k : ℕ). slice_get (harts_in harts) k ≡ Some (get_or harts n d).hart) same (stands harts n d (subst (λ (k : ℕ). k < length harts) (sym same) lt))

pub written_at : (harts : List HartTable) (n h : ℕ) (x : HartTable) (c : HartState) → n ≡ h → x.hart ≡ c
    → harts_in (slice_set harts n x) ≡ slice_set (harts_in harts) h c
written_at harts n h x c same is =
    put_in harts n x ∙ ap (λ (k : ℕ). slice_set (harts_in harts) k x.hart) same ∙ ap (λ (y : HartState). slice_set (harts_in harts) h y) is

-- ---- one that stands there already

pub set_same : (harts : List HartState) (h : ℕ) (b : HartState) → slice_get harts h ≡ Some b → slice_set harts h b ≡ harts
set_same [] h b at = refl
set_same (x ∷ rest) zero b at = let same : b ≡ x = cc in ap (λ (y : HartState). y ∷ rest) same
set_same (x ∷ rest) (suc h) b at = ap (λ (hs : List HartState). x ∷ hs) (set_same rest h b at)

-- ---- what is settled

-- of one that is as far with its slot, the same
pub settling_stays : (harts : List HartState) (h : ℕ) (b c : HartState) → slice_get harts h ≡ Some b → c.resolving ≡ b.resolving
    → settling (slice_set harts h c) ≡ settling harts
settling_stays [] h b c at place = absurd (none-some b at)
settling_stays (x ∷ rest) zero b c at place =
    let same : b ≡ x = cc in
    ap (λ (r : Resolving). settled_by r ++ settling rest) (place ∙ ap (λ (y : HartState). y.resolving) same)
settling_stays (x ∷ rest) (suc h) b c at place = ap (λ (es : List Event). settled_by x.resolving ++ es) (settling_stays rest h b c at place)

-- what stood there before is forgotten
pub freed_put : (harts : List HartState) (h : ℕ) (c d : HartState) → slice_set (map freed (slice_set harts h c)) h d ≡ slice_set (map freed harts) h d
freed_put [] h c d = refl
freed_put (x ∷ rest) zero c d = refl
freed_put (x ∷ rest) (suc h) c d = ap (λ (hs : List HartState). freed x ∷ hs) (freed_put rest h c d)

-- ---- which hart stands there

pub put_here : (harts : List HartTable) (i : ℕ) (x y : HartTable) → slice_get (slice_set harts i x) i ≡ Some y → y ≡ x
put_here [] i x y at = absurd (none-some y at)
put_here (z ∷ rest) zero x y at = let same : y ≡ x = cc in same
put_here (z ∷ rest) (suc i) x y at = put_here rest i x y at
