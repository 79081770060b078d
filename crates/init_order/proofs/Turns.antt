-- One object after another, each the first that may start.
use Rattle.std.proofs.Common.{◌≡◌, ℕ, zero, suc, ◌+◌, ◌*◌, ◌<◌, ◌≤◌, ◌⊎◌, inl, inr, ⊎_elim, Bool, true, false, cond, eqb, ltb, List, [], ◌∷◌, ◌++◌, length, get_or, take, Option, Some, refl, sym, ap, subst, ◌∙◌, arith}
use Rattle.std.specs.List.{Contains, slice_get}
use Rattle.std.proofs.Math.Seq.{take-length}
use Rattle.std.proofs.lemmas.Bool.{cases_Bool, cases_eq, cases_lt, eq-eqb, lt-ltb, ltb-true, ne_eqb, true≢false}
use Rattle.std.proofs.lemmas.List.{get_or_default, get_or-take, length-take-le, take_at, take-append-le}
use Rattle.std.proofs.lemmas.List.Elements.{Contains-append_left, Contains-push, Contains-push_cases}
use Rattle.std.proofs.lemmas.Option.{get_or_from_slice_get, slice_get-get_or, slice_get_within}
use Rattle.history_graph.specs.declared.graph.Edge.{Edge}
use Rattle.history_graph.specs.Initialised.{InitNext, InitOrder, IsStrictDependency, MayStart}
use Rattle.init_order.specs.Least.{Blocked, IsNextTask}
use Rattle.init_order.specs.Jobs.{AreFirsts, AreStarted, IsLedNeed, IsPlan, IsStartNeed, IsWholeNeed, need, opens, starts, whole}
use Rattle.init_order.proofs.Firsts.{slice_get-push}
use Rattle.init_order.proofs.Ready.{done_after, left_before}
use Rattle.init_order.proofs.Linked.{Waits, blocked_start, led_whole, waits_below, waits_strictly}

module _ (edges : List Edge) (xs : List ℕ) (number : ℕ → Option ℕ) (count : ℕ) (line : List ℕ) (needs : List Edge)
    (plan : IsPlan edges number count line needs) (firsts : AreFirsts xs line) where
  -- the component of the object at a place
  of_place : (place : ℕ) → place < length line → (c : ℕ) × ((d : ℕ) → number (get_or line place d) ≡ Some c)
  of_place place within =
      let c = plan.numbered place 0 within in
      (c.0, λ d. ap number (get_or_default line place d 0 within) ∙ c.1)

  -- an object of the line is one of those that are looked at
  in_xs : (place : ℕ) → place < length line → Contains xs (get_or line place 0)
  in_xs place within =
      let first = firsts.stands place (get_or line place 0) (slice_get-get_or line place 0 within) in
      (first.0, slice_get_within xs first.0 (get_or line place 0) first.1, get_or_from_slice_get xs first.0 (get_or line place 0) (get_or line place 0) first.1)

  -- it stands there once
  one_place : (i j d : ℕ) → i < length line → j < length line → get_or line i d ≡ get_or line j d → i ≡ j
  one_place i j d low high same = ⊎_elim
      (λ (before : i < j). absurd (firsts.apart i j d before high same))
      (λ (after : j ≤ i). ⊎_elim
      (λ (behind : j < i). absurd (firsts.apart j i d behind low (sym same)))
      (λ (back : i ≤ j). omega arith)
      (cases_lt j i))
      (cases_lt i j)

  -- ---- the object that is started

  module _ (left : ℕ → Bool) (order : List ℕ) (now : AreStarted edges xs count line needs left order) where
    -- one that waits for an object that isn't started may not start
    blocked_waits : (place : ℕ) → place < length line → left (starts count place) ≡ true → Blocked needs left (starts count place)
        → ((t : ℕ) → t < 2 * count → left t ≡ true → Blocked needs left t)
        → (c : ℕ) × ((d : ℕ) → number (get_or line place d) ≡ Some c) × Waits edges number count line left (get_or line place 0) c
    blocked_waits place within undone block least =
        let c = of_place place within in (
          c.0,
          c.1,
          waits_below edges number count line needs left plan (suc c.0) c.0 (get_or line place 0) (omega arith) (c.1 0)
              (blocked_start edges number count line needs left plan place c.0 c.1 block) least,
        )

    -- the object of a place is started once what it has to wait for is
    ready_at : (place : ℕ) → place < length line → IsNextTask needs left (starts count place) → (d : ℕ) → Contains xs d → IsStrictDependency edges (get_or line place 0) d → Contains order d
    ready_at place within next d there strict = ⊎_elim
        (λ (same : led.0 ≡ c.0). absurd (strict.1 (plan.joined d (get_or line place 0) c.0 (led.1 ∙ ap (λ (n : ℕ). Some n) same) (c.1 0))))
        (λ (all : left (whole led.0) ≡ false).
        subst (Contains order) at.2
        (now.told at.0 d at.1 (now.closed (need (whole led.0) (starts count at.0)) (plan.all (need (whole led.0) (starts count at.0)) (inl (at.0, led.0, at.1, is_of, inr refl))) all)))
        led.2
      where
        at : (k : ℕ) × (k < length line) × (get_or line k d ≡ d)
        at = firsts.each d (subst (λ (ys : List ℕ). Contains ys d) (sym (take-length xs)) there)

        c : (c : ℕ) × ((d : ℕ) → number (get_or line place d) ≡ Some c)
        c = of_place place within

        open_now : left (opens c.0) ≡ false
        open_now = next.met (need (starts count place) (opens c.0)) (plan.all (need (starts count place) (opens c.0)) (inl (place, c.0, within, c.1, inl refl))) refl

        led : (b : ℕ) × (number d ≡ Some b) × ((b ≡ c.0) ⊎ (left (whole b) ≡ false))
        led = led_whole edges number count line needs left plan (get_or line place 0) c.0 (c.1 0) now.closed open_now d strict.0

        is_of : (e : ℕ) → number (get_or line at.0 e) ≡ Some led.0
        is_of e = ap number (get_or_default line at.0 e d at.1 ∙ at.2) ∙ led.1

    -- what stands before it may not start
    no_earlier : (place : ℕ) → place < length line → IsNextTask needs left (starts count place) → (e : ℕ) → Contains (take place line) e → ¬ (MayStart edges xs order e)
    no_earlier place within next e there may = ⊎_elim
        (λ (undone : left (starts count k) ≡ true). waits undone)
        (λ (done : left (starts count k) ≡ false). may.undone (subst (Contains order) is (now.told k e inside done)))
        (cases_Bool (left (starts count k)))
      where
        k : ℕ
        k = there.0

        before : k < place
        before = let low = there.1 in omega (arith, length-take-le place line (let h = within in omega arith))

        inside : k < length line
        inside = let h = before in omega arith

        is : get_or line k e ≡ e
        is = sym (get_or-take place line k e before) ∙ there.2

        waits : left (starts count k) ≡ true → ⊥
        waits undone =
            let b = before in
            let blocked = blocked_waits k inside undone (next.least (starts count k) (omega arith) undone) (λ t low. next.least t (omega arith)) in
            let w = blocked.2 in
            let d : ℕ = get_or line w.place 0 in
            let same : get_or line k 0 ≡ e = get_or_default line k 0 e inside ∙ is in
            let strict : IsStrictDependency edges e d =
            subst (λ (n : ℕ). IsStrictDependency edges n d) same (w.leads 0, waits_strictly edges number count line needs left plan (get_or line k 0) blocked.0 (blocked.1 0) w 0) in
            true≢false (sym w.undone ∙ now.kept w.place 0 w.within (may.ready d (in_xs w.place w.within) strict))

    pub started_next : (place : ℕ) → place < length line → IsNextTask needs left (starts count place) → InitNext edges xs order (get_or line place 0)
    started_next place within next =
        let first = firsts.stands place (get_or line place 0) (slice_get-get_or line place 0 within) in
        record {
          place = first.0;
          stands = first.1;
          may = record { undone = λ there. absurd (true≢false (sym next.fresh ∙ now.kept place 0 within there)); ready = ready_at place within next };
          first = λ earlier e low at. no_earlier place within next e (first.2 earlier e low at);
        }

    -- ---- one task more is done

    module _ (after : ℕ → Bool) (task : ℕ) (next : IsNextTask needs left task) (is : (q : ℕ) → after q ≡ cond (eqb task q) false (left q)) where
      at_task : after task ≡ false
      at_task = is task ∙ ap (λ (b : Bool). cond b false (left task)) (eq-eqb task task refl)

      else : (q : ℕ) → (task ≡ q → ⊥) → after q ≡ left q
      else q apart = is q ∙ ap (λ (b : Bool). cond b false (left q)) (ne_eqb task q apart)

      gone : (q : ℕ) → left q ≡ false → after q ≡ false
      gone = done_after left after task is

      closed_after : (p : Edge) → Contains needs p → after p.source ≡ false → after p.target ≡ false
      closed_after p there h = ⊎_elim
          (λ (same : task ≡ p.source). gone p.target (next.met p there (sym same)))
          (λ (apart : task ≡ p.source → ⊥). gone p.target (now.closed p there (sym (else p.source apart) ∙ h)))
          (cases_eq task p.source)

      pub other_done : task < 2 * count → AreStarted edges xs count line needs after order
      other_done low = record {
        each = now.each;
        told = λ place d within h. now.told place d within (sym (else (starts count place) (λ same. absurd (omega arith))) ∙ h);
        kept = λ place d within there. gone (starts count place) (now.kept place d within there);
        closed = closed_after;
        below = λ t h. now.below t (left_before left after task is t h);
      }

      pub start_done : (place : ℕ) → place < length line → task ≡ starts count place → AreStarted edges xs count line needs after (order ++ get_or line place 0 ∷ [])
      start_done place within same = record {
        each = λ k x at. ⊎_elim
            (λ (before : slice_get order k ≡ Some x).
            let low = slice_get_within order k x before in
            subst (λ (ys : List ℕ). InitNext edges xs ys x) (sym (take-append-le k order (o ∷ []) (omega arith))) (now.each k x before))
            (λ (here : (k ≡ length order) × (o ≡ x)).
            subst (λ (y : ℕ). InitNext edges xs (take k (order ++ o ∷ [])) y) here.1
            (subst (λ (ys : List ℕ). InitNext edges xs ys o) (sym (take_at order (o ∷ []) k (sym here.0)))
            (started_next place within (subst (IsNextTask needs left) same next))))
            (slice_get-push order o k x at);
        told = λ other d inside h. ⊎_elim
            (λ (same' : place ≡ other). subst (λ (n : ℕ). Contains (order ++ o ∷ []) (get_or line n d)) same'
            (subst (Contains (order ++ o ∷ [])) (get_or_default line place 0 d within) (Contains-push order o)))
            (λ (apart : place ≡ other → ⊥). Contains-append_left order (o ∷ []) (get_or line other d)
            (now.told other d inside (sym (else (starts count other) (λ e. apart (omega arith))) ∙ h)))
            (cases_eq place other);
        kept = λ other d inside there. ⊎_elim
            (λ (before : Contains order (get_or line other d)). gone (starts count other) (now.kept other d inside before))
            (λ (here : o ≡ get_or line other d).
            subst (λ (n : ℕ). after n ≡ false) (same ∙ ap (starts count) (one_place place other d within inside (sym (get_or_default line place 0 d within) ∙ here))) at_task)
            (Contains-push_cases order o (get_or line other d) there);
        closed = closed_after;
        below = λ t h. now.below t (left_before left after task is t h);
      }
        where
          o : ℕ
          o = get_or line place 0

    -- ---- the end

    -- where each task that is left is blocked, none is left
    none_waits : ((t : ℕ) → left t ≡ true → Blocked needs left t) → (n place c : ℕ) → c < n → place < length line → ((d : ℕ) → number (get_or line place d) ≡ Some c)
        → left (starts count place) ≡ true → ⊥
    none_waits blocked zero place c low within is undone = omega arith
    none_waits blocked (suc n) place c low within is undone =
        let w = waits_below edges number count line needs left plan (suc c) c (get_or line place 0) (omega arith) (is 0)
        (blocked_start edges number count line needs left plan place c is (blocked (starts count place) undone)) (λ t small. blocked t) in
        let less = w.less in
        none_waits blocked n w.place w.lower (omega arith) w.within w.is_of w.undone

    pub all_started : ((t : ℕ) → left t ≡ true → Blocked needs left t) → InitOrder edges xs order
    all_started blocked = record { each = now.each; all = every }
      where
        every : (d : ℕ) → Contains xs d → Contains order d
        every d there =
            let at = firsts.each d (subst (λ (ys : List ℕ). Contains ys d) (sym (take-length xs)) there) in
            let c = of_place at.0 at.1 in
            ⊎_elim
            (λ (undone : left (starts count at.0) ≡ true). absurd (none_waits blocked (suc c.0) at.0 c.0 (omega arith) at.1 c.1 undone))
            (λ (done : left (starts count at.0) ≡ false). subst (Contains order) at.2 (now.told at.0 d at.1 done))
            (cases_Bool (left (starts count at.0)))

  -- ---- the beginning

  source_below : (p : Edge) → Contains needs p → p.source < 2 * count + length line
  source_below p there = ⊎_elim
      (λ (h : IsStartNeed number count line (length line) p).
      let place = h.2 in
      let low = plan.counted (get_or line h.0 0) h.1 (h.3 0) in
      ⊎_elim
      (λ (q : p ≡ need (starts count h.0) (opens h.1)). let e : p.source ≡ starts count h.0 = ap (λ (z : Edge). z.source) q in omega arith)
      (λ (q : p ≡ need (whole h.1) (starts count h.0)). let e : p.source ≡ whole h.1 = ap (λ (z : Edge). z.source) q in omega arith)
      h.4)
      (λ (h : IsWholeNeed count p ⊎ IsLedNeed edges number p). ⊎_elim
      (λ (g : IsWholeNeed count p). let low = g.1 in let e : p.source ≡ whole g.0 = ap (λ (z : Edge). z.source) g.2 in omega arith)
      (λ (g : IsLedNeed edges number p). let low = plan.counted (g.0).source g.1 g.4 in let e : p.source ≡ opens g.1 = ap (λ (z : Edge). z.source) g.7 in omega arith)
      h)
      (plan.only p there)

  pub none_started : (left : ℕ → Bool) → ((q : ℕ) → left q ≡ ltb q (2 * count + length line)) → AreStarted edges xs count line needs left []
  none_started left is = record {
    each = λ k o at. let low = slice_get_within [] k o at in absurd (omega arith);
    told = λ place d within h. absurd (true≢false (sym (lt-ltb (starts count place) (2 * count + length line) (omega arith)) ∙ sym (is (starts count place)) ∙ h));
    kept = λ place d within there. let low = there.1 in absurd (omega arith);
    closed = λ p there h. absurd (true≢false (sym (lt-ltb p.source (2 * count + length line) (source_below p there)) ∙ sym (is p.source) ∙ h));
    below = λ t h. ltb-true t (2 * count + length line) (sym (is t) ∙ h);
  }
