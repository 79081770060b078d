-- What is looked at next.
use Rattle.std.proofs.Common.{◌≡◌, ℕ, ◌<◌, ◌≤◌, ◌⊎◌, inl, inr, ⊎_elim, Bool, true, false, cond, eqb, ltb, List, [], ◌∷◌, length, get_or, refl, sym, ap, subst, ◌∙◌, arith}
use Rattle.std.specs.List.{Contains, filter, list_any}
use Rattle.std.specs.Ordering.{nat_cmp, is_eq}
use Rattle.std.proofs.lemmas.Bool.{cases_Bool, cases_eq, eq-eqb, eqb-true, le-ltb, ne_eqb, or_cases, true≢false}
use Rattle.std.proofs.lemmas.List.Elements.{Contains-get_or}
use Rattle.history_graph.specs.declared.graph.Edge.{Edge}
use Rattle.history_graph.specs.Reached.{leads_from}
use Rattle.history_graph.specs.Lemmas.Members.{from_kept, kept}
use Rattle.init_order.specs.Least.{AreMet, Blocked, IsPending, flip_of}

-- ---- the order of a set of numbers

pub cmp_is_eqb : (k q : ℕ) → is_eq (nat_cmp k q) ≡ eqb k q
cmp_is_eqb k q = ⊎_elim
    (λ (lt : ltb k q ≡ true). rw (lt, ne_eqb k q (λ (same : k ≡ q). true≢false (sym lt ∙ le-ltb k q (omega arith)))) refl)
    (λ (ge : ltb k q ≡ false). ⊎_elim (λ (same : eqb k q ≡ true). rw (ge, same) refl) (λ (apart : eqb k q ≡ false). rw (ge, apart) refl) (cases_Bool (eqb k q)))
    (cases_Bool (ltb k q))

-- ---- the needs of a task

-- where all places are past, all that the task needs is done
pub all_met : (left : ℕ → Bool) (needs : List Edge) (t n : ℕ) → AreMet left (filter (leads_from t) needs) n → length (filter (leads_from t) needs) ≤ n
    → (e : Edge) → Contains needs e → e.source ≡ t → left e.target ≡ false
all_met left needs t n met le e there is =
    let found = kept (leads_from t) needs e there (eq-eqb e.source t is) in
    subst (λ (z : Edge). left z.target ≡ false) found.2 (met found.0 e (let lt = found.1 in omega arith) found.1)

-- the edge at a place leads to what isn't done
pub blocked_at : (left : ℕ → Bool) (needs : List Edge) (t n : ℕ) → n < length (filter (leads_from t) needs)
    → ((d : Edge) → left (get_or (filter (leads_from t) needs) n d).target ≡ true) → Blocked needs left t
blocked_at left needs t n within undone =
    let d : Edge = record { source = 0; target = 0 } in
    let e : Edge = get_or (filter (leads_from t) needs) n d in
    let there = from_kept (leads_from t) needs e (Contains-get_or (filter (leads_from t) needs) n d within) in
    (e, there.0, same e there.1, undone d)
  where
    same : (e : Edge) → eqb e.source t ≡ true → e.source ≡ t
    same e h = ⊎_elim (λ (is : e.source ≡ t). is) (λ (apart : e.source ≡ t → ⊥). absurd (true≢false (sym h ∙ ne_eqb e.source t apart))) (cases_eq e.source t)

-- ---- what is done stays done

-- what is left after a task was left before it
pub left_before : (left after : ℕ → Bool) (task : ℕ) → ((q : ℕ) → after q ≡ cond (eqb task q) false (left q)) → (q : ℕ) → after q ≡ true → left q ≡ true
left_before left after task is q undone = ⊎_elim
    (λ (b : eqb task q ≡ true). absurd (true≢false (sym undone ∙ is q ∙ ap (λ (c : Bool). cond c false (left q)) b)))
    (λ (b : eqb task q ≡ false). sym (ap (λ (c : Bool). cond c false (left q)) b) ∙ sym (is q) ∙ undone)
    (cases_Bool (eqb task q))

pub done_after : (left after : ℕ → Bool) (task : ℕ) → ((q : ℕ) → after q ≡ cond (eqb task q) false (left q)) → (q : ℕ) → left q ≡ false → after q ≡ false
done_after left after task is q h = ⊎_elim
    (λ (b : eqb task q ≡ true). is q ∙ ap (λ (c : Bool). cond c false (left q)) b)
    (λ (b : eqb task q ≡ false). is q ∙ ap (λ (c : Bool). cond c false (left q)) b ∙ h)
    (cases_Bool (eqb task q))

-- a task that is done lets those that need it be looked at
pub pending_done : (needs users : List Edge) (ready popped more left after : ℕ → Bool) (met : ℕ → ℕ) (task : ℕ) → IsPending needs users ready left met
    → ((q : ℕ) → ready q ≡ true → (q ≡ task) ⊎ (popped q ≡ true)) → ((q : ℕ) → popped q ≡ true → more q ≡ true)
    → ((e : Edge) → Contains users e → e.source ≡ task → more e.target ≡ true) → ((q : ℕ) → after q ≡ cond (eqb task q) false (left q))
    → IsPending needs users more after met
pending_done needs users ready popped more left after met task p pops stay put is = record {
  waits = λ t undone. ⊎_elim
      (λ (h : ready t ≡ true). ⊎_elim
      (λ (same : t ≡ task). absurd (true≢false (sym undone ∙ is t ∙ ap (λ (b : Bool). cond b false (left t)) (eq-eqb task t (sym same)))))
      (λ (k : popped t ≡ true). inl (stay t k))
      (pops t h))
      (λ (h : Blocked needs left t). ⊎_elim
      (λ (same : task ≡ (h.0).target). inl (subst (λ (n : ℕ). more n ≡ true) h.2 (put (flip_of h.0) (p.used h.0 h.1) (sym same))))
      (λ (apart : task ≡ (h.0).target → ⊥). inr (h.0, h.1, h.2, is (h.0).target ∙ ap (λ (b : Bool). cond b false (left (h.0).target)) (ne_eqb task (h.0).target apart) ∙ h.3))
      (cases_eq task (h.0).target))
      (p.waits t (left_before left after task is t undone));
  used = p.used;
  past = λ t j d low within. done_after left after task is (get_or (filter (leads_from t) needs) j d).target (p.past t j d low within);
}

-- a task that was looked at, and can't be done yet or is done, needn't be looked at
pub pending_dropped : (needs users : List Edge) (ready popped left : ℕ → Bool) (met : ℕ → ℕ) (task : ℕ) → IsPending needs users ready left met
    → ((q : ℕ) → ready q ≡ true → (q ≡ task) ⊎ (popped q ≡ true)) → (left task ≡ true → Blocked needs left task) → IsPending needs users popped left met
pending_dropped needs users ready popped left met task p pops why = record {
  waits = λ t undone. ⊎_elim
      (λ (h : ready t ≡ true). ⊎_elim
      (λ (same : t ≡ task). inr (subst (Blocked needs left) (sym same) (why (sym (ap left same) ∙ undone))))
      (λ (k : popped t ≡ true). inl k)
      (pops t h))
      (λ (h : Blocked needs left t). inr h)
      (p.waits t undone);
  used = p.used;
  past = p.past;
}

-- more is known of the needs of one task
pub pending_seen : (needs users : List Edge) (ready left : ℕ → Bool) (met seen : ℕ → ℕ) (task : ℕ) → IsPending needs users ready left met
    → AreMet left (filter (leads_from task) needs) (seen task) → ((q : ℕ) → eqb task q ≡ false → seen q ≡ met q) → IsPending needs users ready left seen
pending_seen needs users ready left met seen task p past others = record {
  waits = p.waits;
  used = p.used;
  past = λ t. ⊎_elim
      (λ (same : task ≡ t). subst (λ (n : ℕ). AreMet left (filter (leads_from n) needs) (seen n)) same past)
      (λ (apart : task ≡ t → ⊥). subst (λ (n : ℕ). AreMet left (filter (leads_from t) needs) n) (sym (others t (ne_eqb task t apart))) (p.past t))
      (cases_eq task t);
}

-- ---- as the set and the map have it

-- the least of a set is taken out
pub popped_cases : (keys rest : List ℕ) (k : ℕ) → keys ≡ k ∷ rest → (q : ℕ) → list_any (λ x. is_eq (nat_cmp q x)) keys ≡ true → (q ≡ k) ⊎ (list_any (λ x. is_eq (nat_cmp q x)) rest ≡ true)
popped_cases keys rest k is q h = ⊎_elim
    (λ (here : is_eq (nat_cmp q k) ≡ true). inl (eqb-true q k (sym (cmp_is_eqb q k) ∙ here)))
    (λ (there : list_any (λ x. is_eq (nat_cmp q x)) rest ≡ true). inr there)
    (or_cases (is_eq (nat_cmp q k)) (list_any (λ x. is_eq (nat_cmp q x)) rest) (sym (ap (list_any (λ x. is_eq (nat_cmp q x))) is) ∙ h))

pub any_some : (keys : List ℕ) (q : ℕ) → list_any (λ x. is_eq (nat_cmp q x)) keys ≡ true → 0 < length keys
any_some [] q h = absurd (true≢false (sym h))
any_some (k ∷ rest) q h = omega arith

-- tasks written in another way
pub pending_as : (needs needs' users users' : List Edge) (ready left : ℕ → Bool) (met : ℕ → ℕ) → needs' ≡ needs → users' ≡ users → IsPending needs users ready left met
    → IsPending needs' users' ready left met
pending_as needs needs' users users' ready left met e1 e2 p =
    subst (λ (es : List Edge). IsPending es users' ready left met) (sym e1) (subst (λ (es : List Edge). IsPending needs es ready left met) (sym e2) p)
