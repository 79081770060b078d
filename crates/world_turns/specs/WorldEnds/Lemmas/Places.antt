-- One hart of a list is put in the place of another: what stands where, and how many have ended.
use Rattle.std.proofs.Common.{◌≡◌, ◌⊎◌, inl, inr, ⊎_elim, ℕ, zero, suc, ◌+◌, Bool, true, false, cond, ◌&&◌, IsTrue, List, [], ◌∷◌, length, map, Option, Some, None, refl, sym, ap, ◌∙◌, arith}
use Rattle.std.specs.Prelude.{filter, slice_set}
use Rattle.std.specs.List.{list_all, slice_get}
use Rattle.std.specs.Option.{is_some}
use Rattle.std.proofs.lemmas.Bool.{and_parts, false≢true}
use Rattle.std.proofs.lemmas.Option.{none-some}
use Rattle.history_event.specs.declared.hart_end.HartEnd.{HartEnd}
use Rattle.history_event.specs.declared.hart_end.HartEnd.TheVariants.{Exit}
use Rattle.hart_moves.specs.Harts.{HartState}
use Rattle.hart_moves.specs.Moves.{freed}
use Rattle.world_turns.specs.Run.{has_ended}
use Rattle.world_turns.specs.Lemmas.Running.{some_end}
use Rattle.world_turns.specs.WorldEnds.Ends.{has_exited}

-- ---- ends

pub ended_by : (b : HartState) (reason : HartEnd) → b.«end» ≡ Some reason → has_ended b ≡ true
ended_by b reason over = ap is_some over

pub runs_on : (b : HartState) → b.«end» ≡ None → has_ended b ≡ false
runs_on b none = ap is_some none

pub reason_of : (b : HartState) → has_ended b ≡ true → (reason : HartEnd) × (b.«end» ≡ Some reason)
reason_of b is = some_end b.«end» is

pub running : (e : Option HartEnd) → ((reason : HartEnd) → e ≡ Some reason → ⊥) → e ≡ None
running None never_so = refl
running (Some reason) never_so = absurd (never_so reason refl)

-- an exit is an end
pub exited_ends : (b : HartState) → has_exited b ≡ true → has_ended b ≡ true
exited_ends b is = by b.«end» is
  where
    by : (e : Option HartEnd) → is_some (elim e [ Some reason ↦ elim reason [ Exit code ↦ Some code | _ ↦ None ] | None ↦ None ]) ≡ true → is_some e ≡ true
    by (Some reason) exits = refl
    by None exits = absurd (false≢true exits)

pub each_passes : (p : HartState → Bool) (harts : List HartState) (h : ℕ) (b : HartState) → IsTrue (list_all p harts) → slice_get harts h ≡ Some b → p b ≡ true
each_passes p [] h b all at = absurd (none-some b at)
each_passes p (c ∷ rest) zero b all at = let same : c ≡ b = cc in ap p (sym same) ∙ (and_parts (p c) (list_all p rest) all).0
each_passes p (c ∷ rest) (suc h) b all at = each_passes p rest h b (and_parts (p c) (list_all p rest) all).1 at

pub all_pass : (p : HartState → Bool) (harts : List HartState) → ((h : ℕ) (b : HartState) → slice_get harts h ≡ Some b → p b ≡ true) → IsTrue (list_all p harts)
all_pass p [] each = refl
all_pass p (c ∷ rest) each = ap (λ (t : Bool). t && list_all p rest) (each 0 c refl) ∙ all_pass p rest (λ h b at. each (suc h) b at)

-- ---- one place

pub set_here : (harts : List HartState) (h : ℕ) (b c : HartState) → slice_get harts h ≡ Some b → slice_get (slice_set harts h c) h ≡ Some c
set_here [] h b c at = absurd (none-some b at)
set_here (x ∷ rest) zero b c at = refl
set_here (x ∷ rest) (suc h) b c at = set_here rest h b c at

-- what stands in the list that is made
pub at_set : (harts : List HartState) (h : ℕ) (c : HartState) (k : ℕ) (d : HartState) → slice_get (slice_set harts h c) k ≡ Some d → ((k ≡ h) × (d ≡ c)) ⊎ (slice_get harts k ≡ Some d)
at_set [] h c k d at = inr at
at_set (x ∷ rest) zero c zero d at = inl (refl, (let same : d ≡ c = cc in same))
at_set (x ∷ rest) zero c (suc k) d at = inr at
at_set (x ∷ rest) (suc h) c zero d at = inr at
at_set (x ∷ rest) (suc h) c (suc k) d at = ⊎_elim (λ (y : (k ≡ h) × (d ≡ c)). inl (ap suc y.0, y.1)) (λ (y : slice_get rest k ≡ Some d). inr y) (at_set rest h c k d at)

-- where a hart of the old list is then
pub in_set : (harts : List HartState) (h : ℕ) (b c : HartState) → slice_get harts h ≡ Some b → (k : ℕ) (d : HartState) → slice_get harts k ≡ Some d
    → ((d ≡ b) × (slice_get (slice_set harts h c) k ≡ Some c)) ⊎ (slice_get (slice_set harts h c) k ≡ Some d)
in_set [] h b c at k d there = absurd (none-some b at)
in_set (x ∷ rest) zero b c at zero d there = inl ((let same : d ≡ b = cc in same), refl)
in_set (x ∷ rest) zero b c at (suc k) d there = inr there
in_set (x ∷ rest) (suc h) b c at zero d there = inr there
in_set (x ∷ rest) (suc h) b c at (suc k) d there = in_set rest h b c at k d there

-- ---- how many have ended

abbrev one_if : Bool → ℕ
one_if t = cond t 1 0

abbrev pub how_many : List HartState → ℕ
how_many harts = length (filter has_ended harts)

one_first : (x : HartState) (rest : List HartState) → how_many (x ∷ rest) ≡ one_if (has_ended x) + how_many rest
one_first x rest = by (has_ended x) (filter has_ended rest)
  where
    by : (t : Bool) (ended : List HartState) → length (cond t (x ∷ ended) ended) ≡ one_if t + length ended
    by true ended = plus (length ended)
      where
        plus : (n : ℕ) → suc n ≡ 1 + n
        plus n = omega arith
    by false ended = plus (length ended)
      where
        plus : (n : ℕ) → n ≡ 0 + n
        plus n = omega arith

pub count_same : (harts : List HartState) (h : ℕ) (b c : HartState) → slice_get harts h ≡ Some b → has_ended c ≡ has_ended b → how_many (slice_set harts h c) ≡ how_many harts
count_same [] h b c at alike = absurd (none-some b at)
count_same (x ∷ rest) zero b c at alike =
    let same : x ≡ b = cc in
    one_first c rest ∙ ap (λ (t : Bool). one_if t + how_many rest) (alike ∙ ap has_ended (sym same)) ∙ sym (one_first x rest)
count_same (x ∷ rest) (suc h) b c at alike =
    one_first x (slice_set rest h c) ∙ ap (λ (n : ℕ). one_if (has_ended x) + n) (count_same rest h b c at alike) ∙ sym (one_first x rest)

pub count_more : (harts : List HartState) (h : ℕ) (b c : HartState) → slice_get harts h ≡ Some b → has_ended b ≡ false → has_ended c ≡ true → how_many (slice_set harts h c) ≡ how_many harts + 1
count_more [] h b c at runs over = absurd (none-some b at)
count_more (x ∷ rest) zero b c at runs over =
    let same : x ≡ b = cc in
    one_first c rest ∙ ap (λ (t : Bool). one_if t + how_many rest) over ∙ plus (how_many rest)
    ∙ sym (ap (λ (n : ℕ). n + 1) (one_first x rest ∙ ap (λ (t : Bool). one_if t + how_many rest) (ap has_ended same ∙ runs)))
  where
    plus : (n : ℕ) → 1 + n ≡ (0 + n) + 1
    plus n = omega arith
count_more (x ∷ rest) (suc h) b c at runs over =
    one_first x (slice_set rest h c) ∙ ap (λ (n : ℕ). one_if (has_ended x) + n) (count_more rest h b c at runs over) ∙ plus (one_if (has_ended x)) (how_many rest)
    ∙ sym (ap (λ (n : ℕ). n + 1) (one_first x rest))
  where
    plus : (k n : ℕ) → k + (n + 1) ≡ (k + n) + 1
    plus k n = omega arith

-- where all have, as many as there are
pub count_all : (harts : List HartState) → IsTrue (list_all has_ended harts) → how_many harts ≡ length harts
count_all [] all = refl
count_all (b ∷ rest) all =
    one_first b rest ∙ ap (λ (t : Bool). one_if t + how_many rest) (and_parts (has_ended b) (list_all has_ended rest) all).0 ∙ plus (how_many rest)
    ∙ ap suc (count_all rest (and_parts (has_ended b) (list_all has_ended rest) all).1)
  where
    plus : (n : ℕ) → 1 + n ≡ suc n
    plus n = omega arith

-- where none has, none
pub count_none : (harts : List HartState) → ((h : ℕ) (b : HartState) → slice_get harts h ≡ Some b → b.«end» ≡ None) → how_many harts ≡ 0
count_none [] none = refl
count_none (b ∷ rest) none =
    one_first b rest ∙ ap (λ (t : Bool). one_if t + how_many rest) (runs_on b (none 0 b refl)) ∙ plus (how_many rest) ∙ count_none rest (λ h c at. none (suc h) c at)
  where
    plus : (n : ℕ) → 0 + n ≡ n
    plus n = omega arith

-- ---- harts that are freed

pub count_freed : (harts : List HartState) → how_many (map freed harts) ≡ how_many harts
count_freed [] = refl
count_freed (b ∷ rest) = one_first (freed b) (map freed rest) ∙ ap (λ (n : ℕ). one_if (has_ended b) + n) (count_freed rest) ∙ sym (one_first b rest)

pub freed_here : (harts : List HartState) (h : ℕ) (b : HartState) → slice_get harts h ≡ Some b → slice_get (map freed harts) h ≡ Some (freed b)
freed_here [] h b at = absurd (none-some b at)
freed_here (c ∷ rest) zero b at = let same : c ≡ b = cc in ap (λ (x : HartState). Some (freed x)) same
freed_here (c ∷ rest) (suc h) b at = freed_here rest h b at
