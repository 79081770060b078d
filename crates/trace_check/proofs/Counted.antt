-- Lines that name harts.
use Rattle.std.proofs.Common.{◌≡◌, inl, inr, ℕ, ◌+◌, ◌<◌, ◌≤◌, true, false, List, [], ◌∷◌, length, get_or, drop, map, drop-cons, add-one, refl, sym, ap, subst, ◌∙◌, arith}
use Rattle.std.specs.Prelude.{IsTrue}
use Rattle.std.proofs.lemmas.Bool.{true≢false}
use Rattle.std.proofs.lemmas.List.{drop_all}
use Rattle.history_event.specs.declared.event_line.EventLine.{EventLine}
use Rattle.history_event.specs.declared.event_line.EventLine.TheVariants as lines
use Rattle.trace_check.specs.Harts.{NameHarts, ends_start, names_hart}
use Rattle.trace_check.specs.Harts.NameHarts.{is_over, names, no_more, other, passed}
use Rattle.trace_check.specs.Parts.{IsPart, IsPartOf}
use Rattle.trace_check.specs.declared.harts.Part.{Part}
use Rattle.trace_check.specs.declared.harts.Part.TheVariants as parts
use Rattle.trace_read.specs.Laws.{OneSaying}

pub over : (line : List ℕ) (rest : List (List ℕ)) → IsPartOf line parts.Over → NameHarts (line ∷ rest) 0
over line rest (inl x) = is_over line rest x.event x.has x.is
over line rest (inr x) = let d : parts.Over ≡ parts.Other = x.1 in absurd cc

pub counted : (line : List ℕ) (rest : List (List ℕ)) (count : ℕ) → IsPartOf line parts.Hart → NameHarts rest count → NameHarts (line ∷ rest) (count + 1)
counted line rest count (inl x) more = names line rest x.event count x.has x.is more
counted line rest count (inr x) more = let d : parts.Hart ≡ parts.Other = x.1 in absurd cc

pub skipped : (line : List ℕ) (rest : List (List ℕ)) (count : ℕ) → IsPartOf line parts.Other → NameHarts rest count → NameHarts (line ∷ rest) count
skipped line rest count (inl x) more = other line rest x.event count x.has x.is.0 x.is.1 more
skipped line rest count (inr x) more = passed line rest count x.0 more

-- ---- lines so far

-- what the lines that are left name is more than those so far name
abbrev pub NamesBehind : {A : Type 0} → (A → List ℕ) → List A → ℕ → ℕ → Type 0
NamesBehind f xs k named = (more : ℕ) → NameHarts (map f (drop k xs)) more → NameHarts (map f xs) (more + named)

module _ {A : Type 0} (f : A → List ℕ) (xs : List A) (k : ℕ) (d : A) (named : ℕ) where
  here : k < length xs → map f (drop k xs) ≡ f (get_or xs k d) ∷ map f (drop (k + 1) xs)
  here inside = ap (map f) (drop-cons xs k d inside ∙ ap (λ n. get_or xs k d ∷ drop n xs) (sym (add-one k)))

  pub at_over : k < length xs → (p : Part) → p ≡ parts.Over → IsPartOf (f (get_or xs k d)) p → NamesBehind f xs k named → NameHarts (map f xs) named
  at_over inside p is of behind =
      let none : 0 + named ≡ named = omega arith in
      subst (NameHarts (map f xs)) none (behind 0 (subst (λ ls. NameHarts ls 0) (sym (here inside)) (over (f (get_or xs k d)) (map f (drop (k + 1) xs)) (subst (IsPartOf (f (get_or xs k d))) is of))))

  pub at_hart : k < length xs → (p : Part) → p ≡ parts.Hart → IsPartOf (f (get_or xs k d)) p → (now : ℕ) → now ≡ named + 1 → NamesBehind f xs k named → NamesBehind f xs (k + 1) now
  at_hart inside p is of now one behind more left =
      let sum : (more + 1) + named ≡ more + now = omega (arith, one) in
      subst (NameHarts (map f xs)) sum (behind (more + 1) (subst (λ ls. NameHarts ls (more + 1)) (sym (here inside))
      (counted (f (get_or xs k d)) (map f (drop (k + 1) xs)) more (subst (IsPartOf (f (get_or xs k d))) is of) left)))

  pub at_other : k < length xs → (p : Part) → p ≡ parts.Other → IsPartOf (f (get_or xs k d)) p → (now : ℕ) → now ≡ named → NamesBehind f xs k named → NamesBehind f xs (k + 1) now
  at_other inside p is of now same behind more left =
      subst (λ n. NameHarts (map f xs) (more + n)) (sym same) (behind more (subst (λ ls. NameHarts ls more) (sym (here inside))
      (skipped (f (get_or xs k d)) (map f (drop (k + 1) xs)) more (subst (IsPartOf (f (get_or xs k d))) is of) left)))

pub at_end : {A : Type 0} (f : A → List ℕ) (xs : List A) (k count : ℕ) → length xs ≤ k → NamesBehind f xs k count → NameHarts (map f xs) count
at_end f xs k count all behind =
    let none : 0 + count ≡ count = omega arith in
    subst (NameHarts (map f xs)) none (behind 0 (subst (λ ls. NameHarts (map f ls) 0) (sym (drop_all k xs all)) no_more))

-- ---- one count

not_both : (e : EventLine) → IsTrue (ends_start e) → IsTrue (names_hart e) → ⊥
not_both (lines.Init hart object) ends named = let d : false ≡ true = named in absurd cc
not_both (lines.Ended hart reason) ends named = let d : false ≡ true = named in absurd cc
not_both event ends named = let d : false ≡ true = ends in absurd cc

same_part : (e : EventLine) (p q : Part) → IsPart e p → IsPart e q → p ≡ q
same_part e parts.Over parts.Over x y = refl
same_part e parts.Over parts.Hart x y = absurd (not_both e x y)
same_part e parts.Over parts.Other x y = absurd (true≢false (sym x ∙ y.0))
same_part e parts.Hart parts.Over x y = absurd (not_both e y x)
same_part e parts.Hart parts.Hart x y = refl
same_part e parts.Hart parts.Other x y = absurd (true≢false (sym x ∙ y.1))
same_part e parts.Other parts.Over x y = absurd (true≢false (sym y ∙ x.0))
same_part e parts.Other parts.Hart x y = absurd (true≢false (sym y ∙ x.1))
same_part e parts.Other parts.Other x y = refl

-- what lines name, by what the first of them is
abbrev NamesBy : Part → List (List ℕ) → ℕ → Type 0
NamesBy parts.Over rest count = count ≡ 0
NamesBy parts.Hart rest count = (less : ℕ) × NameHarts rest less × (count ≡ less + 1)
NamesBy parts.Other rest count = NameHarts rest count

record NamesWith (line : List ℕ) (rest : List (List ℕ)) (count : ℕ) : Type 0 where
  pub part : Part
  pub of : IsPartOf line part
  pub by : NamesBy part rest count

names_with : (line : List ℕ) (rest : List (List ℕ)) (count : ℕ) → NameHarts (line ∷ rest) count → NamesWith line rest count
names_with line rest count (is_over _ _ event has ends) = record { part = parts.Over; of = inl (record { event = event; has = has; is = ends }); by = refl }
names_with line rest count (names _ _ event less has named more) = record { part = parts.Hart; of = inl (record { event = event; has = has; is = named }); by = (less, more, refl) }
names_with line rest count (other _ _ event _ has no_ends no_hart more) =
    record { part = parts.Other; of = inl (record { event = event; has = has; is = (no_ends, no_hart) }); by = more }
names_with line rest count (passed _ _ _ none more) = record { part = parts.Other; of = inr (none, refl); by = more }

one_part : OneSaying → (line : List ℕ) (p q : Part) → IsPartOf line p → IsPartOf line q → p ≡ q
one_part law line p q (inl x) (inl y) = same_part y.event p q (subst (λ e. IsPart e p) (law line x.event y.event x.has y.has) x.is) y.is
one_part law line p q (inl x) (inr y) = absurd (y.0 x.event x.has)
one_part law line p q (inr x) (inl y) = absurd (x.0 y.event y.has)
one_part law line p q (inr x) (inr y) = x.1 ∙ sym y.1

same_by : (rest : List (List ℕ)) → ((i j : ℕ) → NameHarts rest i → NameHarts rest j → i ≡ j) → (m n : ℕ) (p : Part) → NamesBy p rest m → NamesBy p rest n → m ≡ n
same_by rest one m n parts.Over a b = a ∙ sym b
same_by rest one m n parts.Hart a b = a.2 ∙ ap (λ k. k + 1) (one a.0 b.0 a.1 b.1) ∙ sym b.2
same_by rest one m n parts.Other a b = one m n a b

pub one_count : OneSaying → (lines : List (List ℕ)) (m n : ℕ) → NameHarts lines m → NameHarts lines n → m ≡ n
one_count law [] m n no_more no_more = refl
one_count law (line ∷ rest) m n x y =
    let a = names_with line rest m x in
    let b = names_with line rest n y in
    same_by rest (λ i j p q. one_count law rest i j p q) m n a.part a.by (subst (λ p. NamesBy p rest n) (one_part law line b.part a.part b.of a.of) b.by)
