-- A run of one hart or more has exactly one end.
use Rattle.std.proofs.Common.{◌≡◌, ◌≢◌, ◌∙◌, ◌⊎◌, ⊎_elim, inl, inr, ℕ, zero, suc, ◌<◌, Bool, true, false, List, [], ◌∷◌, length, take, get_or, Some, refl, sym, ap, subst, arith}
use Rattle.std.specs.List.{AllPass, slice_get}
use Rattle.std.proofs.lemmas.Bool.{false≢true}
use Rattle.std.proofs.lemmas.List.{get_or-take, length-take, same_lists}
use Rattle.std.proofs.lemmas.List.Elements.{All-cons, All-nil}
use Rattle.std.proofs.lemmas.Option.{get_or_from_slice_get, same_Some, slice_get-get_or, slice_get_within}
use Rattle.history_event.specs.declared.hart_end.HartEnd.{HartEnd}
use Rattle.history_event.specs.declared.hart_end.HartEnd.TheVariants.{Exit}
use Rattle.history_event.specs.declared.state.Ending.{Ending}
use Rattle.history_state.specs.Setting.{is_exit}
use Rattle.trace_text.specs.RunTexts.Ends.{AreLastEnds, Decides, IsRunEnd}
use Rattle.trace_text.specs.declared.run_texts.run_end.RunEnd.{RunEnd}
use Rattle.trace_text.specs.declared.run_texts.run_end.RunEnd.TheVariants.{Exited, Ended}

-- ---- at most one

-- a hart below a number, where all of those ended by exit
exited_below : (last : List HartEnd) (n h : ℕ) (reason : HartEnd) → AllPass is_exit (take n last) → h < n → slice_get last h ≡ Some reason → is_exit reason ≡ true
exited_below last n h reason all below at =
    let within : h < length last = slice_get_within last h reason at in
    let inside : h < length (take n last) = rw length-take (omega arith) in
    let is : get_or (take n last) h reason ≡ reason = get_or-take n last h reason below ∙ get_or_from_slice_get last h reason reason at in
    let P : HartEnd → Type 0 = λ x. is_exit x ≡ true in
    subst P is (all h reason inside)

-- and where all harts did
exited_at : (last : List HartEnd) (h : ℕ) (reason : HartEnd) → AllPass is_exit last → slice_get last h ≡ Some reason → is_exit reason ≡ true
exited_at last h reason all at =
    let P : HartEnd → Type 0 = λ x. is_exit x ≡ true in
    subst P (get_or_from_slice_get last h reason reason at) (all h reason (slice_get_within last h reason at))

-- an end isn't an exit and not one
never_both : (reason : HartEnd) → is_exit reason ≡ false → is_exit reason ≡ true → ⊥
never_both reason isnt is = false≢true (sym isnt ∙ is)

same_decides : (last : List HartEnd) (h k : ℕ) (reason other : HartEnd) → h ≡ k → slice_get last h ≡ Some reason → slice_get last k ≡ Some other → Ended h reason ≡ Ended k other
same_decides last h k reason other same at there =
    let P : ℕ → Type 0 = λ n. slice_get last n ≡ Some reason in
    let ends : reason ≡ other = same_Some reason other (sym (subst P same at) ∙ there) in
    cc

order : (h k : ℕ) → (h < k) ⊎ ((k < h) ⊎ (h ≡ k))
order zero zero = inr (inr refl)
order zero (suc k) = inl (omega arith)
order (suc h) zero = inr (inl (omega arith))
order (suc h) (suc k) = ⊎_elim
    (λ (lt : h < k). inl (omega arith))
    (λ (e : (k < h) ⊎ (h ≡ k)). ⊎_elim (λ (lt : k < h). inr (inl (omega arith))) (λ (is : h ≡ k). inr (inr (ap suc is))) e)
    (order h k)

pub one_end : (last : List HartEnd) (first second : RunEnd) → IsRunEnd last first → IsRunEnd last second → first ≡ second
one_end last (Exited code) (Exited other) x y =
    let same : Exit code ≡ Exit other = same_Some (Exit code) (Exit other) (sym x.first ∙ y.first) in
    cc
one_end last (Exited code) (Ended h reason) x y = absurd (never_both reason y.otherwise (exited_at last h reason x.each y.there))
one_end last (Ended h reason) (Exited code) x y = absurd (never_both reason x.otherwise (exited_at last h reason y.each x.there))
one_end last (Ended h reason) (Ended k other) x y = ⊎_elim
    (λ (lt : h < k). absurd (never_both reason x.otherwise (exited_below last k h reason y.lowest lt x.there)))
    (λ (e : (k < h) ⊎ (h ≡ k)). ⊎_elim
    (λ (lt : k < h). absurd (never_both other y.otherwise (exited_below last h k other x.lowest lt y.there)))
    (λ (same : h ≡ k). same_decides last h k reason other same x.there y.there)
    e)
    (order h k)

-- ---- at least one

abbrev SomeDecides : List HartEnd → Type 0
SomeDecides last = (h : ℕ) × (reason : HartEnd) × Decides last h reason

one_on : (e : HartEnd) (rest : List HartEnd) → is_exit e ≡ true → SomeDecides rest → SomeDecides (e ∷ rest)
one_on e rest is d = (
  suc d.0,
  d.1,
  record {
    there = d.2.there;
    otherwise = d.2.otherwise;
    lowest = All-cons (λ x. is_exit x ≡ true) e (take d.0 rest) is d.2.lowest;
  },
)

tails : (e : HartEnd) (rest : List HartEnd) → is_exit e ≡ true → (AllPass is_exit rest) ⊎ (SomeDecides rest) → (AllPass is_exit (e ∷ rest)) ⊎ (SomeDecides (e ∷ rest))
tails e rest is (inl all) = inl (All-cons (λ x. is_exit x ≡ true) e rest is all)
tails e rest is (inr d) = inr (one_on e rest is d)

heads : (e : HartEnd) (rest : List HartEnd) (b : Bool) → is_exit e ≡ b → (AllPass is_exit rest) ⊎ (SomeDecides rest) → (AllPass is_exit (e ∷ rest)) ⊎ (SomeDecides (e ∷ rest))
heads e rest true is over = tails e rest is over
heads e rest false is over = inr (0, e, record { there = refl; otherwise = is; lowest = All-nil (λ x. is_exit x ≡ true) })

all_or_some : (last : List HartEnd) → (AllPass is_exit last) ⊎ (SomeDecides last)
all_or_some [] = inl (All-nil (λ x. is_exit x ≡ true))
all_or_some (e ∷ rest) = heads e rest (is_exit e) refl (all_or_some rest)

all_exited : (e : HartEnd) (rest : List HartEnd) → AllPass is_exit (e ∷ rest) → (run_end : RunEnd) × IsRunEnd (e ∷ rest) run_end
all_exited (Exit code) rest all = (Exited code, record { first = refl; each = all })
all_exited other rest all = absurd (false≢true (all 0 other (omega arith)))

pub some_end : (last : List HartEnd) → last ≢ [] → (run_end : RunEnd) × IsRunEnd last run_end
some_end [] some = absurd (some refl)
some_end (e ∷ rest) some = ⊎_elim
    (λ (all : AllPass is_exit (e ∷ rest)). all_exited e rest all)
    (λ (d : SomeDecides (e ∷ rest)). (Ended d.0 d.1, d.2))
    (all_or_some (e ∷ rest))

-- ---- the ends of harts

pub one_list : (harts : ℕ) (endings : List Ending) (first second : List HartEnd) → AreLastEnds harts endings first → AreLastEnds harts endings second → first ≡ second
one_list harts endings first second x y = same_lists first second (x.all ∙ sym y.all) (λ k d lt.
    let below : k < length second = omega (arith, x.all, y.all) in
    same_Some (get_or first k d) (get_or second k d)
    (sym (x.each k (get_or first k d) (slice_get-get_or first k d lt)) ∙ y.each k (get_or second k d) (slice_get-get_or second k d below)))
