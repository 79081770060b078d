-- The part on words and locks, over the steps of the keeper.
use Rattle.std.proofs.Common.{◌≡◌, ◌≢◌, ◌⊎◌, ⊎_elim, inl, inr, ℕ, ◌+◌, ◌-◌, ◌%◌, ◌<◌, Bool, true, false, eqb, eqb-true, nat_le, length, Some, None, refl, sym, ap, subst, ◌∙◌, arith, slice_index_or, slice_set}
use mathlib.Core.Logic.{dite}
use native.Mathlib.Decide.{ℕ_discrete}
use prog.Atomic.{either}
use Rattle.ld_base.specs.declared.linking.Role.{Role}
use Rattle.ld_base.specs.declared.linking.Role.TheVariants.{None as NoRole, Ro, Rx, Rw, Slot as SlotRole}
use Rattle.word_rule.specs.declared.kind.KeeperKind.{KeeperKind}
use Rattle.word_rule.specs.declared.kind.KeeperKind.TheVariants as kinds
use Rattle.word_rule.specs.declared.view.Access.{Access}
use Rattle.word_rule.specs.declared.view.KeeperView.{KeeperView}
use Rattle.word_rule.specs.declared.view.Kept.{Kept}
use Rattle.word_rule.specs.Layout.{doublewords, value_at, control_at, row_at, state_at, index_of, role_code, lock_bit}
use Rattle.word_rule.specs.Views.{put, kept_at, nothing_locked, unmapped}
use Rattle.word_rule.specs.Operations.{becomes}
use Rattle.word_rule.specs.KeeperSteps.{KeeperReady, KeeperLearns, keeper_word, keeper_op, keeper_after, awaited_if, fixed_by, heeding, keeps_if, last_if}
use Rattle.word_rule.specs.Words.{Owner, nobody, keeper, hart, Holds, WordIs, Words}
use Rattle.word_rule.specs.Lemmas.Heeding.{known_same, unseen}
use Rattle.word_rule.specs.Lemmas.Put.{put_here, put_else, put_same, set_put}
use Rattle.word_rule.specs.Lemmas.Locks.{beside_value, beside_control, nothing_lock, aside, keeper_change, is_free, lock_word, unlock_word}
use Rattle.word_rule.specs.Lemmas.HartLocks.{unmoved, low_row, low_index}

-- what the keeper knows of doublewords and has locked stays while it looks at a row
pub awaited_same : (P : (ℕ → Kept) → Access → Type 0) (m : ℕ) (b : Bool) (k : KeeperView) → P (kept_at k) k.access → P (kept_at (awaited_if m b (heeding k))) (awaited_if m b (heeding k)).access
awaited_same P m true k p = p
awaited_same P m false k p = p

-- what was seen of doublewords changes
seen_words : (word : ℕ → ℕ) (known known' : ℕ → Kept) (a : Access) (harts : ℕ → Access) → ((d : ℕ) → unseen (known' d) ≡ unseen (known d)) → Words word known a harts → Words word known' a harts
seen_words word known known' a harts same w = record {
  owner = w.owner;
  each_word = λ d low. let o = w.each_word d low in record {
    role = o.role ∙ ap (λ (x : Kept). role_code x.role) (sym (same d));
    free = o.free;
    taken = o.taken;
    holds = subst (λ (x : Kept). Holds x.role x.value (word (value_at d))) (sym (same d)) o.holds;
  };
  keepers = w.keepers;
  of_hart = w.of_hart;
  only_rw = λ m d e. ap (λ (x : Kept). x.role) (same d) ∙ w.only_rw m d e;
  steady = λ d control low e other. w.steady d control low e (λ rw. other (ap (λ (x : Kept). x.role) (same d) ∙ rw));
}

module _ (word : ℕ → ℕ) (k : KeeperView) (harts : ℕ → Access) (w : Words word (kept_at k) k.access harts) (known_all : length k.words ≡ doublewords) where
  -- no word changes, and the keeper has nothing locked before and after
  unlocked : (b : Access) → k.access.locked ≡ None → b.locked ≡ None
      → ((d control : ℕ) → d < doublewords → b.last ≡ Some (d, control) → (kept_at k d).role ≢ Rw → word (control_at d) ≡ control)
      → Words word (kept_at k) b harts
  unlocked b before after steady' = record {
    owner = w.owner;
    each_word = w.each_word;
    keepers = nothing_lock word w.owner keeper k.access b before after w.keepers;
    of_hart = w.of_hart;
    only_rw = w.only_rw;
    steady = steady';
  }

  forgets : (b : Access) → b.last ≡ None → (d control : ℕ) → d < doublewords → b.last ≡ Some (d, control) → (kept_at k d).role ≢ Rw → word (control_at d) ≡ control
  forgets b none' d control low last other = let h : Some (d, control) ≡ None = sym last ∙ none' in absurd (cc)

  looks : (d : ℕ) (b : Bool) → k.access.locked ≡ None → Words word (kept_at k) (record { locked = None; held = None; last = last_if d (word (control_at d)) b }) harts
  looks d false free = unlocked (record { locked = None; held = None; last = None }) free refl (forgets (record { locked = None; held = None; last = None }) refl)
  looks d true free = unlocked (record { locked = None; held = None; last = Some (d, word (control_at d)) }) free refl
      (λ e control low last other. let h : Some (d, word (control_at d)) ≡ Some (e, control) = last in let p : (d, word (control_at d)) ≡ (e, control) = cc in
      subst (λ n. word (control_at n) ≡ control) (ap (λ (x : ℕ × ℕ). x.0) p) (ap (λ (x : ℕ × ℕ). x.1) p))

  -- the keeper's knowledge of a doubleword changes
  moved : (d : ℕ) (x : Kept) (word' : ℕ → ℕ) (b : Access) → d < doublewords → Words word' (put (kept_at k) d x) b harts → Words word' (λ j. slice_index_or (slice_set k.words d x) j unmapped) b harts
  moved d x word' b low p = subst (λ (f : ℕ → Kept). Words word' f b harts) (set_put k.words d x unmapped (subst (λ n. d < n) (sym known_all) low)) p

  locks : (d c : ℕ) → d < doublewords → k.access.locked ≡ None → lock_bit c ≡ 0 → (b : Bool) → eqb (word (control_at d)) c ≡ b
      → Words (put word (control_at d) (either b (c + 8) (word (control_at d)))) (kept_at (keeps_if d b (heeding k))) (keeps_if d b (heeding k)).access harts
  locks d c low none' free false miss = unmoved word (control_at d) (λ f. Words f (kept_at k) nothing_locked harts) (unlocked nothing_locked none' refl (forgets nothing_locked refl))
  locks d c low none' free true hit =
      let same : word (control_at d) ≡ c = eqb-true (word (control_at d)) c hit in
      let at : WordIs (word (value_at d)) c (w.owner d) (kept_at k d) = subst (λ n. WordIs (word (value_at d)) n (w.owner d) (kept_at k d)) same (w.each_word d low) in
      let ours : w.owner d ≡ nobody = is_free (word (value_at d)) c (w.owner d) (kept_at k d) at free in
      let word' : ℕ → ℕ = put word (control_at d) (c + 8) in
      let b : Access = record { locked = Some d; held = None; last = None } in
      let v : word' (value_at d) ≡ word (value_at d) = put_else word (control_at d) (c + 8) (value_at d) (λ (e : value_at d ≡ control_at d). omega arith) in
      let n : word' (control_at d) ≡ c + 8 = put_here word (control_at d) (c + 8) in
      subst (λ (f : ℕ → Kept). Words word' f b harts) (put_same (kept_at k) d (kept_at k d) refl)
      (keeper_change word word' (kept_at k) k.access harts w d keeper (kept_at k d) b (beside_control word d (c + 8)) (inl ours) (inr refl)
      (subst (λ (p : ℕ × ℕ). WordIs p.0 p.1 keeper (kept_at k d)) (λ i. (sym v i, sym n i)) (lock_word (word (value_at d)) c (w.owner d) keeper (kept_at k d) at free (λ e. absurd (cc))))
      (record {
        owns = λ e is. dite (ℕ_discrete e d) (λ (s : e ≡ d). ap Some (sym s)) (λ (apart : e ≢ d).
            let q : Some e ≡ None = sym (w.keepers.owns e (sym (put_else w.owner d keeper e apart) ∙ is)) ∙ none' in absurd (cc));
        named = λ e is. let s : d ≡ e = (let q : Some d ≡ Some e = is in cc) in subst (λ n. (n < doublewords) × (put w.owner d keeper n ≡ keeper)) s (low, put_here w.owner d keeper);
        held = λ e x is has. let q : None ≡ Some x = has in absurd (cc);
      })
      refl)

  place : (d : ℕ) → k.access.locked ≡ Some d → (d < doublewords) × (w.owner d ≡ keeper)
  place d is = w.keepers.named d is

  taken : (d : ℕ) → k.access.locked ≡ Some d → w.owner d ≢ nobody
  taken d is e = let q : keeper ≡ nobody = sym (place d is).1 ∙ e in absurd (cc)

  -- the value of the doubleword that the keeper has locked changes
  stores : (d x : ℕ) → k.access.locked ≡ Some d → (kept_at k d).role ≡ NoRole
      → Words (put word (value_at d) x) (λ j. slice_index_or (slice_set k.words d (record (kept_at k d) { value = x })) j unmapped) (record { locked = k.access.locked; held = Some x; last = None }) harts
  stores d x is free =
      let word' : ℕ → ℕ = put word (value_at d) x in
      let k' : Kept = record (kept_at k d) { value = x } in
      let b : Access = record { locked = k.access.locked; held = Some x; last = None } in
      let at : WordIs (word (value_at d)) (word (control_at d)) (w.owner d) (kept_at k d) = w.each_word d (place d is).0 in
      let n : word' (control_at d) ≡ word (control_at d) = put_else word (value_at d) x (control_at d) (λ (e : control_at d ≡ value_at d). omega arith) in
      moved d k' word' b (place d is).0
      (keeper_change word word' (kept_at k) k.access harts w d keeper k' b (beside_value word d x) (inr (place d is).1) (inr refl)
      (subst (λ c. WordIs (word' (value_at d)) c keeper k') (sym n) (record {
        role = at.role;
        free = λ e. absurd (cc);
        taken = λ _. at.taken (taken d is);
        holds = subst (λ r. Holds r x (word' (value_at d))) (sym free) tt;
      }))
      (record {
        owns = λ e here. dite (ℕ_discrete e d) (λ (s : e ≡ d). is ∙ ap Some (sym s)) (λ (apart : e ≢ d). w.keepers.owns e (sym (put_else w.owner d keeper e apart) ∙ here));
        named = λ e here. let s : d ≡ e = (let q : Some d ≡ Some e = sym is ∙ here in cc) in subst (λ n. (n < doublewords) × (put w.owner d keeper n ≡ keeper)) s ((place d is).0, put_here w.owner d keeper);
        held = λ e y here has. let s : d ≡ e = (let q : Some d ≡ Some e = sym is ∙ here in cc) in let t : x ≡ y = (let q : Some x ≡ Some y = has in cc) in
            subst (λ n. word' (value_at n) ≡ y) s (put_here word (value_at d) x ∙ t);
      })
      refl)

  -- the keeper unlocks with another role, or with the same one
  unlocks : (d : ℕ) (k' : Kept) → k.access.locked ≡ Some d → word (control_at d) < 18446744073709551616 → Holds k'.role k'.value (word (value_at d))
      → Words (put word (control_at d) ((word (control_at d) + (8 + role_code k'.role - role_code (kept_at k d).role)) % 18446744073709551616))
      (λ j. slice_index_or (slice_set k.words d k') j unmapped) nothing_locked harts
  unlocks d k' is low holds' =
      let c : ℕ = word (control_at d) in
      let c' : ℕ = (c + (8 + role_code k'.role - role_code (kept_at k d).role)) % 18446744073709551616 in
      let word' : ℕ → ℕ = put word (control_at d) c' in
      let at : WordIs (word (value_at d)) c (w.owner d) (kept_at k d) = w.each_word d (place d is).0 in
      let v : word' (value_at d) ≡ word (value_at d) = put_else word (control_at d) c' (value_at d) (λ (e : value_at d ≡ control_at d). omega arith) in
      let n : word' (control_at d) ≡ c' = put_here word (control_at d) c' in
      moved d k' word' nothing_locked (place d is).0
      (keeper_change word word' (kept_at k) k.access harts w d nobody k' nothing_locked (beside_control word d c') (inr (place d is).1) (inl refl)
      (subst (λ (p : ℕ × ℕ). WordIs p.0 p.1 nobody k') (λ i. (sym v i, sym n i)) (unlock_word (word (value_at d)) c (w.owner d) (kept_at k d) k' at (taken d is) low holds'))
      (record {
        owns = λ e here. dite (ℕ_discrete e d) (λ (s : e ≡ d). let q : nobody ≡ keeper = sym (put_here w.owner d nobody) ∙ (ap (put w.owner d nobody) (sym s) ∙ here) in absurd (cc)) (λ (apart : e ≢ d).
            let q : Some d ≡ Some e = sym is ∙ w.keepers.owns e (sym (put_else w.owner d nobody e apart) ∙ here) in let s : d ≡ e = cc in absurd (apart (sym s)));
        named = λ e here. let q : None ≡ Some e = here in absurd (cc);
        held = λ e x here has. let q : None ≡ Some e = here in absurd (cc);
      })
      refl)

  below : (i x : ℕ) → i < 128 → Words (put word i x) (kept_at k) k.access harts
  below i x low = aside word i x (kept_at k) k.access harts low w

  -- what the keeper knows of the value that it has locked stands, whatever the role
  stands : (r : Role) (value known : ℕ) → value ≡ known → Holds r known value
  stands NoRole value known e = tt
  stands Ro value known e = e
  stands Rx value known e = e
  stands Rw value known e = tt
  stands SlotRole value known e = tt

  abbrev KeepsLocks : KeeperKind → Type 0
  KeepsLocks kind = word (keeper_word kind) < 18446744073709551616 → KeeperReady kind k
      → Words (put word (keeper_word kind) (becomes (keeper_op kind) (word (keeper_word kind)))) (kept_at (keeper_after kind k (word (keeper_word kind)))) (keeper_after kind k (word (keeper_word kind))).access harts

  pub keeper_locks : (kind : KeeperKind) → KeepsLocks kind
  keeper_locks (kinds.Look d) small ready = unmoved word (control_at d) (λ f. Words f (kept_at k) (record { locked = None; held = None; last = last_if d (word (control_at d)) (eqb (lock_bit (word (control_at d))) 0) }) harts) (looks d (eqb (lock_bit (word (control_at d))) 0) ready.1)
  keeper_locks (kinds.Load d) small ready = unmoved word (value_at d) (λ f. Words f (kept_at k) nothing_locked harts) (unlocked nothing_locked ready.1 refl (forgets nothing_locked refl))
  keeper_locks (kinds.Lock d control) small ready = locks d control ready.0 ready.1 ready.3 (eqb (word (control_at d)) control) refl
  keeper_locks (kinds.Store d x) small ready = stores d x ready.0 ready.1
  keeper_locks (kinds.Unlock d role lazy) small ready =
      let k' : Kept = record { role = role; value = (kept_at k d).value; lazy = lazy; since = length k.events; fixed = None } in
      let c : ℕ = word (control_at d) in
      subst (λ (r : Role). Words (put word (control_at d) ((c + (8 + role_code role - role_code r)) % 18446744073709551616)) (λ j. slice_index_or (slice_set k.words d k') j unmapped) nothing_locked harts) ready.1
      (unlocks d k' ready.0 small (stands role (word (value_at d)) (kept_at k d).value (w.keepers.held d (kept_at k d).value ready.0 ready.3)))
  keeper_locks (kinds.Count e) small ready = below 2 ((word 2 + 1) % 18446744073709551616) (omega arith)
  keeper_locks (kinds.Await m) small ready = awaited_same (λ f b. Words (put word (state_at m) (word (state_at m))) f b harts) m (nat_le 8 (word (state_at m))) k (below (state_at m) (word (state_at m)) (low_row m 0 ready (omega arith)))
  keeper_locks (kinds.Ask m) small ready = below (state_at m) (word (state_at m)) (low_row m 0 ready.0 (omega arith))
  keeper_locks (kinds.Saw d m) small ready =
      let x : Kept = fixed_by (word (value_at d)) (kept_at k d) in
      unmoved word (value_at d) (λ f. Words f (λ j. slice_index_or (slice_set k.words d x) j unmapped) k.access harts)
      (moved d x word k.access ready.2.0.0 (seen_words word (kept_at k) (put (kept_at k) d x) k.access harts (known_same (kept_at k) d (word (value_at d))) w))
  keeper_locks (kinds.Fill m i x) small ready = below (row_at m (index_of i)) x (low_row m (index_of i) ready.1.0 (low_index i))
  keeper_locks (kinds.Hand m mark) small ready = below (state_at m) mark (low_row m 0 ready.1.0 (omega arith))
  keeper_locks (kinds.Open m) small ready = below (state_at m) 3 (low_row m 0 ready.1.0 (omega arith))
  keeper_locks (kinds.RetireSlot d) small ready =
      let k' : Kept = record (kept_at k d) { role = NoRole } in
      let c : ℕ = word (control_at d) in
      subst (λ (r : Role). Words (put word (control_at d) ((c + (8 + role_code NoRole - role_code r)) % 18446744073709551616)) (λ j. slice_index_or (slice_set k.words d k') j unmapped) nothing_locked harts) ready.1
      (unlocks d k' ready.0 small tt)
  keeper_locks (kinds.Retire d old) small ready =
      let k' : Kept = record (kept_at k d) { role = NoRole } in
      let c : ℕ = word (control_at d) in
      subst (λ (r : Role). Words (put word (control_at d) ((c + (8 + role_code NoRole - role_code r)) % 18446744073709551616)) (λ j. slice_index_or (slice_set k.words d k') j unmapped) nothing_locked harts) (sym ready.1)
      (unlocks d k' ready.0 small tt)
  keeper_locks (kinds.Generation g) small ready = below 1 g (omega arith)
  keeper_locks (kinds.Recall m i) small ready = below (row_at m (index_of i)) (word (row_at m (index_of i))) (low_row m (index_of i) ready (low_index i))
  keeper_locks kinds.RecallGeneration small ready = below 1 (word 1) (omega arith)
  keeper_locks (kinds.RecallRole d) small ready = unmoved word (control_at d) (λ f. Words f (kept_at k) k.access harts) w
  keeper_locks kinds.Listen small ready = below 0 (word 0) (omega arith)

  -- ---- what the rule tells of words

  -- nobody has locked a doubleword that harts may not write, where the keeper has nothing locked
  unowned : (d : ℕ) → k.access.locked ≡ None → (kept_at k d).role ≢ Rw → (o : Owner) → w.owner d ≡ o → w.owner d ≡ nobody
  unowned d none' other nobody is = is
  unowned d none' other keeper is = let q : Some d ≡ None = sym (w.keepers.owns d is) ∙ none' in absurd (cc)
  unowned d none' other (hart m) is = absurd (other (w.only_rw m d ((w.of_hart m).owns d is)))

  pub look_tells : (d : ℕ) → KeeperReady (kinds.Look d) k → KeeperLearns (kinds.Look d) k (word (control_at d))
  look_tells d ready = let at = w.each_word d ready.0 in (at.role, λ other. at.free (unowned d ready.1 other (w.owner d) refl))

  value_tells : (r : Role) (value known : ℕ) → (r ≡ Ro) ⊎ (r ≡ Rx) → Holds r known value → value ≡ known
  value_tells NoRole value known is h = ⊎_elim (λ (e : NoRole ≡ Ro). absurd (cc)) (λ (e : NoRole ≡ Rx). absurd (cc)) is
  value_tells Ro value known is h = h
  value_tells Rx value known is h = h
  value_tells Rw value known is h = ⊎_elim (λ (e : Rw ≡ Ro). absurd (cc)) (λ (e : Rw ≡ Rx). absurd (cc)) is
  value_tells SlotRole value known is h = ⊎_elim (λ (e : SlotRole ≡ Ro). absurd (cc)) (λ (e : SlotRole ≡ Rx). absurd (cc)) is

  pub load_tells : (d : ℕ) → KeeperReady (kinds.Load d) k → KeeperLearns (kinds.Load d) k (word (value_at d))
  load_tells d ready is = value_tells (kept_at k d).role (word (value_at d)) (kept_at k d).value is (w.each_word d ready.0).holds

  pub lock_tells : (d control : ℕ) → KeeperReady (kinds.Lock d control) k → KeeperLearns (kinds.Lock d control) k (word (control_at d))
  lock_tells d control ready other = w.steady d control ready.0 ready.2 other
