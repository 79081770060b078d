-- Marking: what is marked and what is pending are reached, and nothing that they lead to is lost.
use Rattle.std.proofs.Common.{◌≡◌, ℕ, ◌+◌, ◌⊎◌, inl, inr, ⊎_elim, Bool, true, false, not, cond, eqb, List, [], ◌∷◌, ◌++◌, map, length, refl, sym, ap, subst, ◌∙◌, arith}
use Rattle.std.specs.List.{Contains, filter, count_by}
use Rattle.std.specs.List.Sorted.{IsPermutation}
use Rattle.std.proofs.lemmas.Bool.{cases_eq, eqb-true, eq-eqb, ne_eqb, true≢false}
use Rattle.std.proofs.lemmas.List.{length-map}
use Rattle.std.proofs.lemmas.List.Elements.{Contains-append_left, Contains-append_right, Contains-append_cases, Contains-push, Contains-push_cases}
use Rattle.std.proofs.lemmas.List.Sorted.{Contains-permutation, IsPermutation-sym}
use Rattle.std.proofs.lemmas.List.Sums.{length-filter}
use Rattle.history_graph.specs.declared.graph.Edge.{Edge}
use Rattle.history_graph.specs.Reached.{Reached, leads_from}
use Rattle.history_graph.specs.Reached.Reached.{root, on}
use Rattle.history_graph.specs.Lemmas.Members.{kept, from_kept, mapped, from_mapped, count_parts}
use Rattle.close_mark.specs.Marks.{target_of}

-- the serial is marked, or is going to be
abbrev Seen : (ℕ → Bool) → List ℕ → ℕ → Type 0
Seen marked pending d = (marked d ≡ true) ⊎ Contains pending d

pub record Marked (edges : List Edge) (roots : List ℕ) (marked : ℕ → Bool) (pending : List ℕ) : Type 0 where
  pub sound : (d : ℕ) → marked d ≡ true → Reached edges roots d
  pub sound_pending : (d : ℕ) → Contains pending d → Reached edges roots d
  pub begun : (d : ℕ) → Contains roots d → Seen marked pending d
  pub followed : (e : Edge) → Contains edges e → marked e.source ≡ true → Seen marked pending e.target

pub Marked-start : (edges : List Edge) (roots : List ℕ) (marked : ℕ → Bool) → ((d : ℕ) → marked d ≡ false) → Marked edges roots marked roots
Marked-start edges roots marked none = record {
  sound = λ d m. absurd (true≢false (sym m ∙ none d));
  sound_pending = λ d there. root there;
  begun = λ d there. inr there;
  followed = λ e there m. absurd (true≢false (sym m ∙ none e.source));
}

-- a pending serial that is marked already
pub Marked-again : (edges : List Edge) (roots : List ℕ) (marked : ℕ → Bool) (rest : List ℕ) (x : ℕ) → marked x ≡ true
    → Marked edges roots marked (rest ++ x ∷ []) → Marked edges roots marked rest
Marked-again edges roots marked rest x old m = record {
  sound = m.sound;
  sound_pending = λ d there. m.sound_pending d (Contains-append_left rest (x ∷ []) d there);
  begun = λ d there. still d (m.begun d there);
  followed = λ e there marks. still e.target (m.followed e there marks);
}
  where
    still : (d : ℕ) → Seen marked (rest ++ x ∷ []) d → Seen marked rest d
    still d seen = ⊎_elim
        (λ (h : marked d ≡ true). inl h)
        (λ (there : Contains (rest ++ x ∷ []) d). ⊎_elim
        (λ (h : Contains rest d). inr h)
        (λ (same : x ≡ d). inl (ap marked (sym same) ∙ old))
        (Contains-push_cases rest x d there))
        seen

-- the marks with one more
abbrev Adds : (ℕ → Bool) → ℕ → (ℕ → Bool) → Type 0
Adds marked x more = (q : ℕ) → more q ≡ cond (eqb x q) true (marked q)

adds_it : (marked more : ℕ → Bool) (x d : ℕ) → Adds marked x more → x ≡ d → more d ≡ true
adds_it marked more x d adds same = adds d ∙ ap (λ (b : Bool). cond b true (marked d)) (eq-eqb x d same)

keeps_it : (marked more : ℕ → Bool) (x d : ℕ) → Adds marked x more → marked d ≡ true → more d ≡ true
keeps_it marked more x d adds h = ⊎_elim
    (λ (same : x ≡ d). adds_it marked more x d adds same)
    (λ (other : x ≡ d → ⊥). adds d ∙ ap (λ (b : Bool). cond b true (marked d)) (ne_eqb x d other) ∙ h)
    (cases_eq x d)

was_it : (marked more : ℕ → Bool) (x d : ℕ) → Adds marked x more → more d ≡ true → (x ≡ d) ⊎ (marked d ≡ true)
was_it marked more x d adds h = ⊎_elim
    (λ (same : x ≡ d). inl same)
    (λ (other : x ≡ d → ⊥). inr (sym (ap (λ (b : Bool). cond b true (marked d)) (ne_eqb x d other)) ∙ sym (adds d) ∙ h))
    (cases_eq x d)

-- the targets of the edges from a serial
abbrev pub targets : List Edge → ℕ → List ℕ
targets edges x = map target_of (filter (leads_from x) edges)

pub Marked-new : (edges successors : List Edge) (roots : List ℕ) (marked more : ℕ → Bool) (rest : List ℕ) (x : ℕ) → IsPermutation edges successors → Adds marked x more
    → Marked edges roots marked (rest ++ x ∷ []) → Marked edges roots more (rest ++ targets successors x)
Marked-new edges successors roots marked more rest x same adds m = record {
  sound = λ d h. ⊎_elim
      (λ (e : x ≡ d). subst (Reached edges roots) e (m.sound_pending x (Contains-push rest x)))
      (λ (h' : marked d ≡ true). m.sound d h')
      (was_it marked more x d adds h);
  sound_pending = λ d there. ⊎_elim
      (λ (h : Contains rest d). m.sound_pending d (Contains-append_left rest (x ∷ []) d h))
      (λ (h : Contains (targets successors x) d). reached_on d h)
      (Contains-append_cases rest (targets successors x) d there);
  begun = λ d there. still d (m.begun d there);
  followed = λ e there h. ⊎_elim
      (λ (from : x ≡ e.source). inr (Contains-append_right rest (targets successors x) e.target (leads e there from)))
      (λ (h' : marked e.source ≡ true). still e.target (m.followed e there h'))
      (was_it marked more x e.source adds h);
}
  where
    still : (d : ℕ) → Seen marked (rest ++ x ∷ []) d → Seen more (rest ++ targets successors x) d
    still d seen = ⊎_elim
        (λ (h : marked d ≡ true). inl (keeps_it marked more x d adds h))
        (λ (there : Contains (rest ++ x ∷ []) d). ⊎_elim
        (λ (h : Contains rest d). inr (Contains-append_left rest (targets successors x) d h))
        (λ (e : x ≡ d). inl (adds_it marked more x d adds e))
        (Contains-push_cases rest x d there))
        seen

    leads : (e : Edge) → Contains edges e → x ≡ e.source → Contains (targets successors x) e.target
    leads e there from = mapped target_of (filter (leads_from x) successors) e
        (kept (leads_from x) successors e (Contains-permutation edges successors e same there) (eq-eqb e.source x (sym from)))

    reached_on : (d : ℕ) → Contains (targets successors x) d → Reached edges roots d
    reached_on d there =
        let found = from_mapped target_of (filter (leads_from x) successors) d there in
        let e : Edge = found.0 in
        let was = from_kept (leads_from x) successors e found.1 in
        let from : e.source ≡ x = eqb-true e.source x was.1 in
        let source : Reached edges roots e.source = subst (Reached edges roots) (sym from) (m.sound_pending x (Contains-push rest x)) in
        subst (Reached edges roots) found.2 (on e (Contains-permutation successors edges e (IsPermutation-sym edges successors same) was.0) source)

-- with nothing pending the marks are closed
pub all_marked : (edges : List Edge) (roots : List ℕ) (marked : ℕ → Bool) → Marked edges roots marked [] → (d : ℕ) → Reached edges roots d → marked d ≡ true
all_marked edges roots marked m d (root there) = ⊎_elim (λ (h : marked d ≡ true). h) (λ (none : Contains [] d). absurd (omega (arith, none.1))) (m.begun d there)
all_marked edges roots marked m d (on e there source) =
    ⊎_elim (λ (h : marked e.target ≡ true). h) (λ (none : Contains [] e.target). absurd (omega (arith, none.1)))
    (m.followed e there (all_marked edges roots marked m e.source source))

-- how much work is left: each pending serial, and each edge whose source isn't marked
abbrev pub left : List Edge → (ℕ → Bool) → ℕ
left successors marked = count_by (λ e. not (marked e.source)) successors

-- what is marked is worked off
pub left_less : (successors : List Edge) (marked more : ℕ → Bool) (x : ℕ) → marked x ≡ false → Adds marked x more
    → left successors more + length (targets successors x) ≡ left successors marked
left_less successors marked more x new adds =
    ap (λ (n : ℕ). left successors more + n) (length-map (filter (leads_from x) successors) target_of ∙ length-filter (leads_from x) successors)
    ∙ count_parts (λ e. not (marked e.source)) (λ e. not (more e.source)) (leads_from x) successors parts
  where
    parts : (e : Edge) → cond (not (more e.source)) 1 0 + cond (eqb e.source x) 1 0 ≡ cond (not (marked e.source)) 1 0
    parts e = ⊎_elim
        (λ (same : x ≡ e.source). rw (adds_it marked more x e.source adds same, eq-eqb e.source x (sym same), ap marked (sym same) ∙ new) refl)
        (λ (other : x ≡ e.source → ⊥).
        rw (adds e.source, ne_eqb x e.source other, ne_eqb e.source x (λ (h : e.source ≡ x). other (sym h))) (omega arith))
        (cases_eq x e.source)
