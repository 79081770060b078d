-- What can be decided of a state: what is reached, what fits, what holds a set.
use Rattle.std.proofs.Common.{◌≡◌, ◌⊎◌, inl, inr, ⊎_elim, ℕ, zero, suc, ◌+◌, ◌*◌, ◌<◌, ◌≤◌, Bool, true, false, eqb, List, [], ◌∷◌, filter, refl, sym, subst, ◌∙◌, arith}
use Rattle.std.specs.Prelude.{◌%◌}
use Rattle.std.specs.List.{Contains}
use Rattle.std.proofs.lemmas.Bool.{cases_Bool, cases_lt, eq-eqb, eqb-true, true≢false}
use Rattle.address_space.specs.Pages.{AllFree, Fits, IsFirstFit, page_size}
use Rattle.history_graph.specs.declared.graph.Edge.{Edge}
use Rattle.history_graph.specs.Reached.{Reached, Unneeded}
use Rattle.history_graph.specs.Reached.Reached.{root, on}
use Rattle.history_state.specs.Objects.{has}
use Rattle.history_state.specs.Lemmas.Lists.{first_or_later, has_in, here, in_has, later, none_in}

abbrev pub Decided : Type 0 → Type 0
Decided A = A ⊎ ¬ A

-- ---- numbers

contains : (xs : List ℕ) (x : ℕ) → Decided (Contains xs x)
contains xs x = ⊎_elim
    (λ (t : has xs x ≡ true). inl (has_in xs x t))
    (λ (f : has xs x ≡ false). inr (λ h. true≢false (sym (in_has xs x h) ∙ f)))
    (cases_Bool (has xs x))

equal : (a b : ℕ) → Decided (a ≡ b)
equal a b = ⊎_elim
    (λ (t : eqb a b ≡ true). inl (eqb-true a b t))
    (λ (f : eqb a b ≡ false). inr (λ e. true≢false (sym (eq-eqb a b e) ∙ f)))
    (cases_Bool (eqb a b))

-- ---- what is reached

more_edges : (e : Edge) (edges : List Edge) (roots : List ℕ) (d : ℕ) → Reached edges roots d → Reached (e ∷ edges) roots d
more_edges e edges roots d (root h) = root h
more_edges e edges roots d (on x there r) = on x (later e edges x there) (more_edges e edges roots x.source r)

through : (edges : List Edge) (roots : List ℕ) (s d : ℕ) → Reached edges roots s → Reached edges (s ∷ []) d → Reached edges roots d
through edges roots s d first (root h) = ⊎_elim (λ (e : s ≡ d). subst (Reached edges roots) e first) (λ (n : Contains [] d). absurd (none_in d n)) (first_or_later s [] d h)
through edges roots s d first (on x there r) = on x there (through edges roots s x.source first r)

abbrev Parts : Edge → List Edge → List ℕ → ℕ → Type 0
Parts e edges roots d = Reached edges roots d ⊎ (Reached edges roots e.source × Reached edges (e.target ∷ []) d)

in_parts : (e : Edge) (edges : List Edge) (roots : List ℕ) (d : ℕ) → Reached (e ∷ edges) roots d → Parts e edges roots d
in_parts e edges roots d (root h) = inl (root h)
in_parts e edges roots d (on x there r) = by (in_parts e edges roots x.source r) (first_or_later e edges x there)
  where
    by : Parts e edges roots x.source → (e ≡ x) ⊎ Contains edges x → Parts e edges roots x.target
    by before at = ⊎_elim
        (λ (same : e ≡ x).
        let source : Reached edges roots e.source = ⊎_elim
        (λ (r' : Reached edges roots x.source). subst (λ (y : Edge). Reached edges roots y.source) (sym same) r')
        (λ (both : Reached edges roots e.source × Reached edges (e.target ∷ []) x.source). both.0)
        before in
        inr (source, subst (λ (y : Edge). Reached edges (e.target ∷ []) y.target) same (root (here e.target []))))
        (λ (old : Contains edges x). ⊎_elim
        (λ (r' : Reached edges roots x.source). inl (on x old r'))
        (λ (both : Reached edges roots e.source × Reached edges (e.target ∷ []) x.source). inr (both.0, on x old both.1))
        before)
        at

pub reached : (edges : List Edge) (roots : List ℕ) (d : ℕ) → Decided (Reached edges roots d)
reached [] roots d = ⊎_elim (λ (h : Contains roots d). inl (root h)) (λ (n : ¬ (Contains roots d)). inr (λ r. n (only r))) (contains roots d)
  where
    only : Reached [] roots d → Contains roots d
    only (root h) = h
    only (on x there r) = absurd (none_in x there)
reached (e ∷ edges) roots d = by (reached edges roots d) (reached edges roots e.source) (reached edges (e.target ∷ []) d)
  where
    back : Reached edges roots e.source → Reached edges (e.target ∷ []) d → Reached (e ∷ edges) roots d
    back s t = through (e ∷ edges) roots e.target d (on e (here e edges) (more_edges e edges roots e.source s)) (more_edges e edges (e.target ∷ []) d t)

    by : Decided (Reached edges roots d) → Decided (Reached edges roots e.source) → Decided (Reached edges (e.target ∷ []) d) → Decided (Reached (e ∷ edges) roots d)
    by (inl r) s t = inl (more_edges e edges roots d r)
    by (inr n) (inl s) (inl t) = inl (back s t)
    by (inr n) (inl s) (inr k) = inr (λ r. ⊎_elim n (λ (both : Reached edges roots e.source × Reached edges (e.target ∷ []) d). k both.1) (in_parts e edges roots d r))
    by (inr n) (inr k) t = inr (λ r. ⊎_elim n (λ (both : Reached edges roots e.source × Reached edges (e.target ∷ []) d). k both.0) (in_parts e edges roots d r))

is_not : {A : Type 0} → Decided A → Bool
is_not (inl a) = false
is_not (inr n) = true

not_then : {A : Type 0} (x : Decided A) → is_not x ≡ true → ¬ A
unfolding is_not
not_then (inl a) e = absurd (true≢false (sym e))
not_then (inr n) e = n

then_not : {A : Type 0} (x : Decided A) → ¬ A → is_not x ≡ true
unfolding is_not
then_not (inl a) n = absurd (n a)
then_not (inr k) n = refl

-- some nodes are left
pub unneeded : (edges : List Edge) (roots nodes : List ℕ) → (set : List ℕ) × Unneeded edges roots nodes set
unneeded edges roots nodes = (
  filter (λ d. is_not (reached edges roots d)) nodes,
  record {
    leave = λ d. is_not (reached edges roots d);
    are = refl;
    exactly = λ d there. (not_then (reached edges roots d), then_not (reached edges roots d));
  },
)

-- ---- the least of a list with a property

pub record IsLeastOf (P : ℕ → Type 0) (xs : List ℕ) (a : ℕ) : Type 0 where
  pub holds : P a
  pub least : (x : ℕ) → Contains xs x → P x → a ≤ x

pub least_of : (P : ℕ → Type 0) → ((n : ℕ) → Decided (P n)) → (xs : List ℕ) → ((a : ℕ) × IsLeastOf P xs a) ⊎ ((x : ℕ) → Contains xs x → ¬ (P x))
least_of P decide [] = inr (λ x there. absurd (none_in x there))
least_of P decide (y ∷ xs) = by (decide y) (least_of P decide xs)
  where
    by : Decided (P y) → ((a : ℕ) × IsLeastOf P xs a) ⊎ ((x : ℕ) → Contains xs x → ¬ (P x)) → ((a : ℕ) × IsLeastOf P (y ∷ xs) a) ⊎ ((x : ℕ) → Contains (y ∷ xs) x → ¬ (P x))
    by (inl p) (inl some) = ⊎_elim
        (λ (lt : y < some.0). inl (
          y,
          record {
            holds = p;
            least = λ x there q. ⊎_elim
                (λ (e : y ≡ x). omega (arith, e))
                (λ (i : Contains xs x). let le : some.0 ≤ x = some.1.least x i q in omega (arith, lt, le))
                (first_or_later y xs x there);
          },
        ))
        (λ (ge : some.0 ≤ y). inl (
          some.0,
          record {
            holds = some.1.holds;
            least = λ x there q. ⊎_elim
                (λ (e : y ≡ x). omega (arith, ge, e))
                (λ (i : Contains xs x). some.1.least x i q)
                (first_or_later y xs x there);
          },
        ))
        (cases_lt y some.0)
    by (inl p) (inr none) = inl (
      y,
      record {
        holds = p;
        least = λ x there q. ⊎_elim (λ (e : y ≡ x). omega (arith, e)) (λ (i : Contains xs x). absurd (none x i q)) (first_or_later y xs x there);
      },
    )
    by (inr n) (inl some) = inl (
      some.0,
      record {
        holds = some.1.holds;
        least = λ x there q. ⊎_elim (λ (e : y ≡ x). absurd (n (subst P (sym e) q))) (λ (i : Contains xs x). some.1.least x i q) (first_or_later y xs x there);
      },
    )
    by (inr n) (inr none) = inr (λ x there q. ⊎_elim (λ (e : y ≡ x). n (subst P (sym e) q)) (λ (i : Contains xs x). none x i q) (first_or_later y xs x there))

-- ---- room

pub all_free : (free : List ℕ) (address pages : ℕ) → Decided (AllFree free address pages)
all_free free address zero = inl (λ k lt. absurd (omega (arith, lt)))
all_free free address (suc pages) = by (all_free free address pages) (contains free (address + page_size * pages))
  where
    by : Decided (AllFree free address pages) → Decided (Contains free (address + page_size * pages)) → Decided (AllFree free address (suc pages))
    by (inl all) (inl last) = inl (λ k lt. ⊎_elim
        (λ (less : k < pages). all k less)
        (λ (ge : pages ≤ k). let same : pages ≡ k = omega (arith, ge, lt) in subst (λ (n : ℕ). Contains free (address + page_size * n)) same last)
        (cases_lt k pages))
    by (inl all) (inr n) = inr (λ h. n (h pages (omega arith)))
    by (inr n) x = inr (λ h. n (λ k lt. h k (omega (arith, lt))))

fits : (free : List ℕ) (pages align address : ℕ) → Decided (Fits free pages align address)
fits free pages align address = by (equal (address % align) 0) (all_free free address pages)
  where
    by : Decided (address % align ≡ 0) → Decided (AllFree free address pages) → Decided (Fits free pages align address)
    by (inl a) (inl r) = inl (record { aligned = a; room = r })
    by (inl a) (inr n) = inr (λ f. n f.room)
    by (inr n) r = inr (λ f. n f.aligned)

first_page : (free : List ℕ) (pages align address : ℕ) → 1 ≤ pages → Fits free pages align address → Contains free address
first_page free pages align address some f =
    let at : Contains free (address + page_size * 0) = f.room 0 (omega (arith, some)) in
    let same : address + page_size * 0 ≡ address = omega arith in
    subst (Contains free) same at

pub first_fit : (free : List ℕ) (pages align : ℕ) → 1 ≤ pages → ((address : ℕ) × IsFirstFit free pages align address) ⊎ ((address : ℕ) → ¬ (Fits free pages align address))
first_fit free pages align some = ⊎_elim
    (λ (x : (a : ℕ) × IsLeastOf (Fits free pages align) free a). inl (x.0, record { fits = x.1.holds; least = λ other f. x.1.least other (first_page free pages align other some f) f }))
    (λ (none : (x : ℕ) → Contains free x → ¬ (Fits free pages align x)). inr (λ a f. none a (first_page free pages align a some f) f))
    (least_of (Fits free pages align) (fits free pages align) free)
