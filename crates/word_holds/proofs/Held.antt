-- Shared words are guest memory as it should be.
use Rattle.std.proofs.Common.{◌≡◌, ◌⊎◌, ⊎_elim, inl, inr, ℕ, ◌<◌, List, Some, None, Contains, refl, sym, ap, subst, ◌∙◌, arith}
use Rattle.ld_base.specs.declared.linking.Role.{Role}
use Rattle.ld_base.specs.declared.linking.Role.TheVariants.{Ro, Rx, Slot}
use Rattle.history_event.specs.declared.state.Granting.{Granting}
use Rattle.history_event.specs.declared.state.Standing.TheVariants.{Bound, Open}
use Rattle.word_rule.specs.declared.entry.Grant.{Grant}
use Rattle.word_rule.specs.declared.view.Fate.TheVariants.{Won}
use Rattle.word_rule.specs.declared.view.HartView.{HartView}
use Rattle.word_rule.specs.declared.view.KeeperView.{KeeperView}
use Rattle.word_rule.specs.Allowed.{IsOf, Stands}
use Rattle.word_rule.specs.Layout.{address_of, control_at, doublewords, harts_at_most, place_of, value_at}
use Rattle.word_rule.specs.Rule.{Parts}
use Rattle.word_rule.specs.Slots.{HasWon, SlotIs, Winner}
use Rattle.word_rule.specs.Views.{exchanges_of, kept_at, row_of}
use Rattle.word_rule.specs.Words.{Holds as HoldsWord}
use Rattle.word_rule.specs.Lemmas.SlotFrames.{at_place, in_reach}
use Rattle.word_rule.specs.Lemmas.Unlocking.{role_is}
use Rattle.history_state.specs.Memory.{role_at, first_word_at}
use Rattle.history_state.specs.Slots.{IsOpenGrant}
use Rattle.history_state.specs.State.{State}
use Rattle.history_memory.specs.Holds.{Holds, IsSlotAt, SlotHolds, Took, TookAt, exchanged, first}
use Rattle.history_memory.specs.Memory.{IsDoubleword}
use Rattle.word_holds.specs.Shared.{HaveWon, IsGrantOf, IsOfState, memory_of}

place_low : (a : ℕ) → IsDoubleword a → place_of a < doublewords
unfolding place_of doublewords
place_low a is = let low = is.low in let high = is.high in omega arith

address_is : (a : ℕ) → IsDoubleword a → address_of (place_of a) ≡ a
unfolding place_of
address_is a is = let low = is.low in let whole = is.whole in omega arith

module _ (s : State) (won : List ℕ) (number : ℕ → Grant → ℕ) (word : ℕ → ℕ) (kept : KeeperView) (harts : ℕ → HartView) (p : Parts word kept harts)
    (is : IsOfState s kept number) (w : HaveWon kept harts number won) where
  holds : (a : ℕ) (da : IsDoubleword a) (r : Role) → role_at s a ≡ r → HoldsWord r (kept_at kept (place_of a)).value (word (value_at (place_of a)))
  holds a da r e =
      let d : ℕ = place_of a in
      subst (λ r. HoldsWord r (kept_at kept d).value (word (value_at d))) (is.role a da ∙ e) (p.locks.each_word d (place_low a da)).holds

  fixed : (a : ℕ) → IsDoubleword a → (role_at s a ≡ Ro) ⊎ (role_at s a ≡ Rx) → word (value_at (place_of a)) ≡ first_word_at s a
  fixed a da h = ⊎_elim
      (λ (e : role_at s a ≡ Ro). holds a da Ro e ∙ is.word a da (inl e))
      (λ (e : role_at s a ≡ Rx). holds a da Rx e ∙ is.word a da (inr (inl e)))
      h

  -- ---- grants

  winner_is : (m : ℕ) (g : Grant) (d : ℕ) → m < harts_at_most → IsOf (kept_at kept) d g → HasWon (exchanges_of (harts m).trail) g → p.slots.winner d ≡ Some (m, g)
  winner_is m g d low o has =
      let at : place_of g.entry.slot ≡ d = at_place g d o.1 in
      let did = p.slots.each_exchange m low (record { grant = g; found = g.lazy }) has (subst (λ n. IsOf (kept_at kept) n g) (sym at) o) in
      sym (ap p.slots.winner at) ∙ did.won refl

  -- a grant of the state that took the slot is the winner
  record Winning (a : ℕ) (x : Granting) : Type 0 where
    hart_of : ℕ
    grant : Grant
    winner : p.slots.winner (place_of a) ≡ Some (hart_of, grant)
    numbered : number hart_of grant ≡ x.number

  winning : (a : ℕ) → IsDoubleword a → (x : Granting) → TookAt s won a x → Winning a x
  winning a da x t =
      let st = is.stands a x da t.there (⊎_elim (λ (b : x.standing ≡ Bound). inl b) (λ (o : (x.standing ≡ Open) × Contains won x.number). inr o.0) t.took) t.of in
      record {
        hart_of = st.0;
        grant = st.1;
        winner = winner_is st.0 st.1 (place_of a) st.2 st.4 (has st.0 st.1 st.2 st.3 st.5 st.6 t.took);
        numbered = st.5;
      }
    where
      has : (m : ℕ) (g : Grant) → m < harts_at_most → Stands (row_of kept m) g → number m g ≡ x.number → IsGrantOf s kept m g x → Took won x → HasWon (exchanges_of (harts m).trail) g
      has m g low st num of took = ⊎_elim
          (λ (b : x.standing ≡ Bound). ⊎_elim
          (λ (pending : (row_of kept m).pending ≡ Some g). let q : Bound ≡ Open = sym b ∙ of.open_yet pending in absurd (cc))
          (λ (c : Contains (row_of kept m).settled (record { grant = g; fate = Won })). (p.slots.each_hart m low).won g c)
          st)
          (λ (o : (x.standing ≡ Open) × Contains won x.number). let k = w.only x.number o.1 in
          let same = is.one k.0 m k.1 g k.2 low (inl k.3) st (k.5 ∙ sym num) in
          subst (λ (y : ℕ × Grant). HasWon (exchanges_of (harts y.0).trail) y.1) (λ i. (same.0 i, same.1 i)) k.4)
          took

  slot_holds : (a : ℕ) (da : IsDoubleword a) → role_at s a ≡ Slot → (v : Winner) → p.slots.winner (place_of a) ≡ v → SlotHolds s won a (word (value_at (place_of a)))
  slot_holds a da e None none' = first
      ((p.slots.each_slot (place_of a) (place_low a da, is.role a da ∙ e)).image none' ∙ is.word a da (inr (inr e)))
      (λ x took. let q : None ≡ Some ((winning a da x took).hart_of, (winning a da x took).grant) = sym none' ∙ (winning a da x took).winner in absurd (cc))
  slot_holds a da e (Some (m, g)) some' =
      let d : ℕ = place_of a in
      let at : SlotIs (word (value_at d)) (kept_at kept) _ (row_of kept) _ (p.slots.winner d) d = p.slots.each_slot d (place_low a da, is.role a da ∙ e) in
      let by = at.by m g some' in
      let low : m < harts_at_most = in_reach p.slots m g by.1 in
      let place : place_of g.entry.slot ≡ d = at_place g d by.0.1 in
      let x = is.granted m g low by.1 (subst (λ n. IsOf (kept_at kept) n g) (sym place) by.0) in
      exchanged x.0
      (record {
        there = x.2.there;
        of = subst (λ n. IsSlotAt s n x.0.owner x.0.slot) (by.0.1 ∙ address_is a da) x.2.slot;
        took = ⊎_elim
            (λ (pending : (row_of kept m).pending ≡ Some g). inr (x.2.open_yet pending, subst (Contains won) (sym x.1) (w.all m g low pending by.2)))
            (λ (c : Contains (row_of kept m).settled (record { grant = g; fate = Won })). inl (x.2.bound c))
            by.1;
      })
      ((at.bound m g some').0 ∙ sym x.2.value)
      (sym (is.word a da (inr (inr e))) ∙ (at.lazy m g some' ∙ is.lazy a da e))
      (λ h took. let other = winning a da h took in let q : Some (m, g) ≡ Some (other.hart_of, other.grant) = sym some' ∙ other.winner in let y : (m, g) ≡ (other.hart_of, other.grant) = cc in
      sym other.numbered ∙ (ap (λ (z : ℕ × Grant). number z.0 z.1) (sym y) ∙ sym x.1))

  unsettled : (n : ℕ) → Contains won n → (x : Granting) × IsOpenGrant s n x
  unsettled n c =
      let k = w.only n c in
      let of = ((p.slots.each_hart k.0 k.2).pending k.1 k.3).of_slot in
      let x = is.granted k.0 k.1 k.2 (inl k.3) of in
      (x.0, record { there = x.2.there; numbered = x.1 ∙ k.5; open_yet = x.2.open_yet k.3 })

  pub words_hold : Holds s won (memory_of word)
  words_hold = record {
    words = λ a da. record {
      role = role_is (word (control_at (place_of a))) (kept_at kept (place_of a)).role (p.locks.each_word (place_of a) (place_low a da)).role ∙ is.role a da;
      fixed = fixed a da;
      slot = λ e. slot_holds a da e (p.slots.winner (place_of a)) refl;
    };
    unsettled = unsettled;
  }
