-- The part on words and locks, over the steps of harts.
use Rattle.std.proofs.Common.{◌≡◌, ◌≢◌, inl, inr, ℕ, ◌+◌, ◌-◌, ◌%◌, ◌<◌, Bool, true, false, cond, eqb, eqb-true, ◌==◌, Option, Some, None, refl, sym, ap, subst, ◌∙◌, arith, slice_index_or}
use mathlib.Core.Logic.{dite}
use native.Mathlib.Decide.{ℕ_discrete}
use prog.Atomic.{either}
use Rattle.ld_base.specs.declared.linking.Role.{Role}
use Rattle.ld_base.specs.declared.linking.Role.TheVariants.{None as NoRole, Ro, Rx, Rw, Slot as SlotRole}
use Rattle.rv_hart.specs.Buses.{may_write}
use Rattle.word_rule.specs.declared.entry.RowWord.{RowWord}
use Rattle.word_rule.specs.declared.entry.RowWord.TheVariants.{Number, Slot, Lazy, Value, Generation}
use Rattle.word_rule.specs.declared.kind.Ask.{Ask}
use Rattle.word_rule.specs.declared.kind.StoreAsk.{StoreAsk}
use Rattle.word_rule.specs.declared.kind.HartKind.{HartKind}
use Rattle.word_rule.specs.declared.kind.HartKind.TheVariants as kinds
use Rattle.word_rule.specs.declared.view.Access.{Access}
use Rattle.word_rule.specs.declared.view.HartView.{HartView}
use Rattle.word_rule.specs.declared.view.Kept.{Kept}
use Rattle.word_rule.specs.Layout.{doublewords, harts_at_most, value_at, control_at, row_at, state_at, index_of, place_of, role_code, roles, role_in, lock_bit}
use Rattle.word_rule.specs.Views.{put, nothing_locked}
use Rattle.word_rule.specs.Operations.{becomes}
use Rattle.word_rule.specs.HartSteps.{HartReady, hart_word, hart_op, hart_after, glanced, looked, locked_if, heeded, permits, ask_is_fresh, ask_place, load_place, store_place}
use Rattle.word_rule.specs.Words.{nobody, hart, Holds, WordIs, LockIs, Words}
use Rattle.word_rule.specs.Lemmas.Put.{put_here, put_else, put_each, put_same}
use Rattle.word_rule.specs.Lemmas.Locks.{Aims, beside_value, beside_control, nothing_lock, aside, slot_aside, hart_change, is_free, lock_word, unlock_word}

-- no word changes, and the hart has nothing locked before and after
unlocked : (word : ℕ → ℕ) (known : ℕ → Kept) (access : Access) (harts : ℕ → Access) (m : ℕ) (b : Access) → Words word known access harts
    → (harts m).locked ≡ None → b.locked ≡ None → Words word known access (put harts m b)
unlocked word known access harts m b w before after = record {
  owner = w.owner;
  each_word = w.each_word;
  keepers = w.keepers;
  of_hart = put_each (λ j a. LockIs word w.owner (hart j) a) harts m b (λ j _. w.of_hart j) (nothing_lock word w.owner (hart m) (harts m) b before after (w.of_hart m));
  only_rw = put_each (λ j a. (e : ℕ) → a.locked ≡ Some e → (known e).role ≡ Rw) harts m b (λ j _. w.only_rw j) (λ e is. let h : Some e ≡ None = sym is ∙ after in absurd (cc));
  steady = w.steady;
}

-- the view of what is locked stays
pub still : (word : ℕ → ℕ) (known : ℕ → Kept) (access : Access) (harts : ℕ → Access) (m : ℕ) (b : Access) → harts m ≡ b
    → Words word known access harts → Words word known access (put harts m b)
still word known access harts m b e w = subst (Words word known access) (sym (put_same harts m b e)) w

-- a load leaves its word
pub unmoved : (word : ℕ → ℕ) (i : ℕ) (P : (ℕ → ℕ) → Type 0) → P word → P (put word i (word i))
unmoved word i P p = subst P (sym (put_same word i (word i) refl)) p

pub low_row : (m i : ℕ) → m < harts_at_most → i < 6 → row_at m i < 128
low_row m i low few = omega arith

pub low_index : (i : RowWord) → index_of i < 6
low_index Number = omega arith
low_index Slot = omega arith
low_index Lazy = omega arith
low_index Value = omega arith
low_index Generation = omega arith

glanced_unlocked : (ask : Ask) (control : ℕ) (a b c : Bool) (h : HartView) → (glanced ask control a b c h).access.locked ≡ None
glanced_unlocked ask control true b c h = refl
glanced_unlocked ask control false false c h = refl
glanced_unlocked ask control false true false h = refl
glanced_unlocked ask control false true true h = refl

-- a role that may be written is RW, and the role of a control word is its code's
rw_role : (c : ℕ) (r : Role) → c % 8 ≡ role_code r → may_write (role_in c) ≡ true → r ≡ Rw
rw_role c NoRole is may = let h : may_write NoRole ≡ true = subst (λ n. may_write (slice_index_or roles n NoRole) ≡ true) is may in absurd (cc)
rw_role c Ro is may = let h : may_write Ro ≡ true = subst (λ n. may_write (slice_index_or roles n NoRole) ≡ true) is may in absurd (cc)
rw_role c Rx is may = let h : may_write Rx ≡ true = subst (λ n. may_write (slice_index_or roles n NoRole) ≡ true) is may in absurd (cc)
rw_role c Rw is may = refl
rw_role c SlotRole is may = let h : may_write SlotRole ≡ true = subst (λ n. may_write (slice_index_or roles n NoRole) ≡ true) is may in absurd (cc)

module _ (word : ℕ → ℕ) (known : ℕ → Kept) (access : Access) (harts : ℕ → Access) (w : Words word known access harts) (m : ℕ) (h : HartView) (mine : harts m ≡ h.access) where
  abbrev After : (ℕ → ℕ) → Access → Type 0
  After word' b = Words word' known access (put harts m b)

  none_locked : h.access.locked ≡ None → (harts m).locked ≡ None
  none_locked e = ap (λ (a : Access). a.locked) mine ∙ e

  some_locked : (d : ℕ) → h.access.locked ≡ Some d → (harts m).locked ≡ Some d
  some_locked d e = ap (λ (a : Access). a.locked) mine ∙ e

  -- the compare-exchange of a control word
  locks : (ask : StoreAsk) (c : ℕ) → store_place ask < doublewords → h.access.locked ≡ None → lock_bit c ≡ 0 → may_write (role_in c) ≡ true
      → (b : Bool) → eqb (word (control_at (store_place ask))) c ≡ b
      → Words (put word (control_at (store_place ask)) (either b (c + 8) (word (control_at (store_place ask))))) known access (put harts m (locked_if ask c (word (control_at (store_place ask))) b (heeded h)).access)
  locks ask c low none' free may false miss = unmoved word (control_at (store_place ask)) (λ f. Words f known access (put harts m nothing_locked)) (unlocked word known access harts m nothing_locked w (none_locked none') refl)
  locks ask c low none' free may true hit =
      let d : ℕ = store_place ask in
      let same : word (control_at d) ≡ c = eqb-true (word (control_at d)) c hit in
      let at : WordIs (word (value_at d)) c (w.owner d) (known d) = subst (λ n. WordIs (word (value_at d)) n (w.owner d) (known d)) same (w.each_word d low) in
      let ours : w.owner d ≡ nobody = is_free (word (value_at d)) c (w.owner d) (known d) at free in
      let writable : (known d).role ≡ Rw = rw_role c (known d).role at.role may in
      let word' : ℕ → ℕ = put word (control_at d) (c + 8) in
      let b : Access = record { locked = Some d; held = None; last = Some (d, c) } in
      let v : word' (value_at d) ≡ word (value_at d) = put_else word (control_at d) (c + 8) (value_at d) (λ (e : value_at d ≡ control_at d). omega arith) in
      let k : word' (control_at d) ≡ c + 8 = put_here word (control_at d) (c + 8) in
      hart_change word word' known access harts w m d (hart m) b (beside_control word d (c + 8)) (inl ours) (inr refl) writable
      (subst (λ (p : ℕ × ℕ). WordIs p.0 p.1 (hart m) (known d)) (λ i. (sym v i, sym k i)) (lock_word (word (value_at d)) c (w.owner d) (hart m) (known d) at free (λ e. absurd (cc))))
      (record {
        owns = λ e is. dite (ℕ_discrete e d) (λ (s : e ≡ d). ap Some (sym s)) (λ (apart : e ≢ d).
            let q : Some e ≡ None = sym ((w.of_hart m).owns e (sym (put_else w.owner d (hart m) e apart) ∙ is)) ∙ none_locked none' in absurd (cc));
        named = λ e is. let s : d ≡ e = (let q : Some d ≡ Some e = is in cc) in subst (λ n. (n < doublewords) × (put w.owner d (hart m) n ≡ hart m)) s (low, put_here w.owner d (hart m));
        held = λ e x is has. let q : Some x ≡ None = sym has in absurd (cc);
      })
      (λ e is. let s : d ≡ e = (let q : Some d ≡ Some e = is in cc) in subst (λ n. (known n).role ≡ Rw) s writable)

  -- the value of a doubleword that the hart has locked is known, or changes
  values : (d x : ℕ) (last : Option (ℕ × ℕ)) → h.access.locked ≡ Some d → After (put word (value_at d) x) (record { locked = h.access.locked; held = Some x; last = last })
  values d x last is =
      let place : (d < doublewords) × (w.owner d ≡ hart m) = (w.of_hart m).named d (some_locked d is) in
      let word' : ℕ → ℕ = put word (value_at d) x in
      let b : Access = record { locked = h.access.locked; held = Some x; last = last } in
      let at : WordIs (word (value_at d)) (word (control_at d)) (w.owner d) (known d) = w.each_word d place.0 in
      let k : word' (control_at d) ≡ word (control_at d) = put_else word (value_at d) x (control_at d) (λ (e : control_at d ≡ value_at d). omega arith) in
      let writable : (known d).role ≡ Rw = w.only_rw m d (some_locked d is) in
      hart_change word word' known access harts w m d (hart m) b (beside_value word d x) (inr place.1) (inr refl) writable
      (subst (λ n. WordIs (word' (value_at d)) n (hart m) (known d)) (sym k) (record {
        role = at.role;
        free = λ e. absurd (cc);
        taken = λ _. at.taken (λ e. let q : hart m ≡ nobody = sym place.1 ∙ e in absurd (cc));
        holds = subst (λ r. Holds r (known d).value (word' (value_at d))) (sym writable) tt;
      }))
      (record {
        owns = λ e here. dite (ℕ_discrete e d) (λ (s : e ≡ d). is ∙ ap Some (sym s)) (λ (apart : e ≢ d).
            sym (ap (λ (a : Access). a.locked) mine) ∙ (w.of_hart m).owns e (sym (put_else w.owner d (hart m) e apart) ∙ here));
        named = λ e here. let s : d ≡ e = (let q : Some d ≡ Some e = sym is ∙ here in cc) in subst (λ n. (n < doublewords) × (put w.owner d (hart m) n ≡ hart m)) s (place.0, put_here w.owner d (hart m));
        held = λ e y here has. let s : d ≡ e = (let q : Some d ≡ Some e = sym is ∙ here in cc) in let t : x ≡ y = (let q : Some x ≡ Some y = has in cc) in
            subst (λ n. word' (value_at n) ≡ y) s (put_here word (value_at d) x ∙ t);
      })
      (λ e here. let s : d ≡ e = (let q : Some d ≡ Some e = sym is ∙ here in cc) in subst (λ n. (known n).role ≡ Rw) s writable)

  unlocks : (d : ℕ) → h.access.locked ≡ Some d → word (control_at d) < 18446744073709551616 → After (put word (control_at d) ((word (control_at d) + 8) % 18446744073709551616)) nothing_locked
  unlocks d is low =
      let place : (d < doublewords) × (w.owner d ≡ hart m) = (w.of_hart m).named d (some_locked d is) in
      let c : ℕ = word (control_at d) in
      let word' : ℕ → ℕ = put word (control_at d) ((c + 8) % 18446744073709551616) in
      let at : WordIs (word (value_at d)) c (w.owner d) (known d) = w.each_word d place.0 in
      let writable : (known d).role ≡ Rw = w.only_rw m d (some_locked d is) in
      let v : word' (value_at d) ≡ word (value_at d) = put_else word (control_at d) ((c + 8) % 18446744073709551616) (value_at d) (λ (e : value_at d ≡ control_at d). omega arith) in
      let back : (n : ℕ) → 8 + n - n ≡ 8 = λ n. omega arith in
      let k : (c + (8 + role_code (known d).role - role_code (known d).role)) % 18446744073709551616 ≡ word' (control_at d) =
      ap (λ (n : ℕ). (c + n) % 18446744073709551616) (back (role_code (known d).role)) ∙ sym (put_here word (control_at d) ((c + 8) % 18446744073709551616)) in
      hart_change word word' known access harts w m d nobody nothing_locked (beside_control word d ((c + 8) % 18446744073709551616)) (inr place.1) (inl refl) writable
      (subst (λ (p : ℕ × ℕ). WordIs p.0 p.1 nobody (known d)) (λ i. (sym v i, k i))
      (unlock_word (word (value_at d)) c (w.owner d) (known d) (known d) at (λ e. let q : hart m ≡ nobody = sym place.1 ∙ e in absurd (cc)) low
      (subst (λ r. Holds r (known d).value (word (value_at d))) (sym writable) tt)))
      (record {
        owns = λ e here. dite (ℕ_discrete e d) (λ (s : e ≡ d). let q : nobody ≡ hart m = sym (put_here w.owner d nobody) ∙ (ap (put w.owner d nobody) (sym s) ∙ here) in absurd (cc)) (λ (apart : e ≢ d).
            let q : Some d ≡ Some e = sym is ∙ (sym (ap (λ (a : Access). a.locked) mine) ∙ (w.of_hart m).owns e (sym (put_else w.owner d nobody e apart) ∙ here)) in
            let s : d ≡ e = cc in absurd (apart (sym s)));
        named = λ e here. let q : None ≡ Some e = here in absurd (cc);
        held = λ e x here has. let q : None ≡ Some e = here in absurd (cc);
      })
      (λ e here. let q : None ≡ Some e = here in absurd (cc))

  -- the words beside doublewords
  below : (i x : ℕ) → i < 128 → After (put word i x) h.access
  below i x low = still (put word i x) known access harts m h.access mine (aside word i x known access harts low w)

  own : (n : ℕ) → h.number < harts_at_most → n ≡ h.number → n < harts_at_most
  own n few is = subst (λ x. x < harts_at_most) (sym is) few

  finishes : (n : ℕ) (won : Bool) (b : Access) → h.access ≡ b → state_at n < 128 → After (put word (state_at n) (cond won 4 5)) b
  finishes n won b is low = subst (After (put word (state_at n) (cond won 4 5))) is (below (state_at n) (cond won 4 5) low)

  -- ---- the kinds

  abbrev KeepsLocks : HartKind → Type 0
  KeepsLocks kind = word (hart_word kind) < 18446744073709551616 → h.number < harts_at_most → HartReady kind h → Aims known access kind
      → After (put word (hart_word kind) (becomes (hart_op kind) (word (hart_word kind)))) (hart_after kind h (word (hart_word kind))).access

  pub hart_locks : (kind : HartKind) → KeepsLocks kind
  hart_locks (kinds.Look ask) small few ready aims =
      let n : ℕ = word (control_at (ask_place ask)) in
      let b : Access = (looked ask n (heeded h)).access in
      unmoved word (control_at (ask_place ask)) (λ f. Words f known access (put harts m b))
      (unlocked word known access harts m b w (none_locked ready.1) (glanced_unlocked ask n (lock_bit n == 1) (permits ask (role_in n)) (ask_is_fresh ask n) (heeded h)))
  hart_locks (kinds.Load ask) small few ready aims = unmoved word (value_at (load_place ask)) (λ f. After f nothing_locked) (unlocked word known access harts m nothing_locked w (none_locked ready.1) refl)
  hart_locks (kinds.Hold ask) small few ready aims = values (store_place ask) (word (value_at (store_place ask))) h.access.last ready
  hart_locks (kinds.Lock ask control) small few ready aims = locks ask control ready.0.0.1 ready.1 ready.3 ready.4 (eqb (word (control_at (store_place ask))) control) refl
  hart_locks (kinds.Store ask x) small few ready aims = values (store_place ask) x None ready.0
  hart_locks (kinds.Unlock d) small few ready aims = unlocks d ready.0 small
  hart_locks kinds.Tally small few ready aims = below 2 (word 2) (omega arith)
  hart_locks (kinds.Begin n) small few ready aims = below (state_at n) ((word (state_at n) + 8) % 18446744073709551616) (low_row n 0 (own n few ready.0) (omega arith))
  hart_locks (kinds.Arrive n) small few ready aims = below (state_at n) (word (state_at n)) (low_row n 0 (own n few ready.0) (omega arith))
  hart_locks (kinds.Find n i) small few ready aims = below (row_at n (index_of i)) (word (row_at n (index_of i))) (low_row n (index_of i) (own n few ready.0) (low_index i))
  hart_locks (kinds.Exchange g) small few ready aims = still (put word (value_at (place_of g.entry.slot)) (becomes (hart_op (kinds.Exchange g)) (word (value_at (place_of g.entry.slot))))) known access harts m h.access mine
      (slot_aside word (place_of g.entry.slot) (becomes (hart_op (kinds.Exchange g)) (word (value_at (place_of g.entry.slot)))) known access harts aims.0.1 aims.1 w)
  hart_locks (kinds.Accept n e) small few ready aims = below (state_at n) 0 (low_row n 0 (own n few ready.0) (omega arith))
  hart_locks (kinds.Finish n won) small few ready aims = finishes n won (hart_after (kinds.Finish n won) h (word (state_at n))).access refl (low_row n 0 (own n few ready.0) (omega arith))
  hart_locks (kinds.Generation number) small few ready aims = below 1 (word 1) (omega arith)
  hart_locks kinds.Listen small few ready aims = below 0 (word 0) (omega arith)
