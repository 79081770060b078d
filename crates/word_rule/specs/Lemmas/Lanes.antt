-- What a hart's own view says of its calls, over its steps.
use Rattle.std.proofs.Common.{◌≡◌, ◌≢◌, ℕ, Bool, true, false, eqb, nat_le, nat_lt, ◌==◌, [], ◌∷◌, ◌++◌, Option, Some, None, refl, sym, ap, subst, ◌∙◌}
use Rattle.word_rule.specs.declared.entry.Entry.{Entry}
use Rattle.word_rule.specs.declared.entry.Exchange.{Exchange}
use Rattle.word_rule.specs.declared.entry.Grant.{Grant}
use Rattle.word_rule.specs.declared.entry.RowWord.{RowWord}
use Rattle.word_rule.specs.declared.entry.RowWord.TheVariants.{Number, Slot, Lazy, Value, Generation}
use Rattle.word_rule.specs.declared.kind.HartKind.{HartKind}
use Rattle.word_rule.specs.declared.kind.HartKind.TheVariants as kinds
use Rattle.word_rule.specs.declared.kind.KeeperKind.{KeeperKind}
use Rattle.word_rule.specs.declared.kind.KeeperKind.TheVariants as keeps
use Rattle.word_rule.specs.declared.view.HartView.{HartView}
use Rattle.word_rule.specs.declared.view.KeeperView.{KeeperView}
use Rattle.word_rule.specs.declared.view.Lane.{Lane}
use Rattle.word_rule.specs.declared.view.Offer.{Offer}
use Rattle.word_rule.specs.Layout.{IsDoubleword, lock_bit, role_in}
use Rattle.word_rule.specs.Views.{first_lane, fresh_offer, offer_found, IsGranted, IsLane, IsRead, with_offered}
use Rattle.word_rule.specs.HartSteps.{FindTells, StateAgain, HartLearns, HartLeaves, HartReady, ask_is_fresh, heeded, permits, arrived_if, finished, found_in, hart_after}
use Rattle.word_rule.specs.KeeperSteps.{KeeperLeaves, awaited_if, heeding, keeper_after}
use Rattle.word_rule.specs.Lemmas.Rows.{mark_with}
use Rattle.word_rule.specs.Lemmas.HartCalls.{glanced_lane, locked_lane}

pub first_lane_is : IsLane first_lane
first_lane_is = record {
  idle = λ _. refl;
  found = λ o e. let q : None ≡ Some o = e in absurd (cc);
  tried = λ x e. let q : None ≡ Some x = e in absurd (cc);
  slot = λ o s e mark found. let q : None ≡ Some o = e in absurd (cc);
}

module _ (l : Lane) (is : IsLane l) where
  -- a hart with an offer is calling
  calls : (o : Offer) → l.offer ≡ Some o → (b : Bool) → l.calling ≡ b → l.calling ≡ true
  calls o has true e = e
  calls o has false e = let q : Some o ≡ None = sym has ∙ is.idle e in absurd (cc)

  -- a state that is found again is the one that was found
  again : (state : ℕ) → StateAgain l.offer state → IsLane (record l { found = state })
  again state tells = record { idle = is.idle; found = λ o has. sym (tells o has).0; tried = is.tried; slot = is.slot }

  arrives : (state : ℕ) (b : Bool) → l.calling ≡ true → StateAgain l.offer state → (o : Option Offer) → l.offer ≡ o → IsLane (arrived_if state b l)
  arrives state false calling tells o has = again state tells
  arrives state true calling tells None has = subst (λ (p : Option Offer). IsLane (record l { found = state; offer = Some (offer_found state p) })) (sym has) (record {
    idle = λ e. let q : true ≡ false = sym calling ∙ e in absurd (cc);
    found = λ o e. let q : Some (fresh_offer state) ≡ Some o = e in let same : fresh_offer state ≡ o = cc in ap (λ (o : Offer). o.mark) (sym same);
    tried = λ x e. let t = is.tried x e in let q : None ≡ Some t.0 = sym has ∙ t.1 in absurd (cc);
    slot = λ o s e mark found. let q : Some (fresh_offer state) ≡ Some o = e in let same : fresh_offer state ≡ o = cc in
        let z : None ≡ Some s = ap (λ (o : Offer). o.slot) same ∙ found in absurd (cc);
  })
  arrives state true calling tells (Some o) has =
      subst (λ (p : Option Offer). IsLane (record l { found = state; offer = p })) (has ∙ ap (λ (p : Option Offer). Some (offer_found state p)) (sym has)) (again state tells)

  finds : (i : RowWord) (n : ℕ) (o : Offer) → l.offer ≡ Some o → FindTells i (Some o) n → IsLane (record l { offer = Some (with_offered i n o) })
  finds i n o has tells = record {
    idle = λ e. let q : Some o ≡ None = sym has ∙ is.idle e in absurd (cc);
    found = λ p e. let q : Some (with_offered i n o) ≡ Some p = e in let same : with_offered i n o ≡ p = cc in
        ap (λ (o : Offer). o.mark) (sym same) ∙ (mark_with i n o ∙ is.found o has);
    tried = λ x e. let t = is.tried x e in (with_offered i n o, refl, mark_with i n o ∙ (marks o t.0 (sym has ∙ t.1) ∙ t.2));
    slot = λ p s e mark found. let q : Some (with_offered i n o) ≡ Some p = e in let same : with_offered i n o ≡ p = cc in
        at i tells s (sym (mark_with i n o) ∙ (ap (λ (o : Offer). o.mark) same ∙ mark)) (ap (λ (o : Offer). o.slot) same ∙ found);
  }
    where
      marks : (o p : Offer) → Some o ≡ Some p → o.mark ≡ p.mark
      marks o p e = let same : o ≡ p = cc in ap (λ (o : Offer). o.mark) same

      at : (i : RowWord) → FindTells i (Some o) n → (s : ℕ) → o.mark ≡ 3 → (with_offered i n o).slot ≡ Some s → IsDoubleword s
      at Slot tells s mark found = let q : Some n ≡ Some s = found in let same : n ≡ s = cc in subst IsDoubleword same (tells mark)
      at Number tells s mark found = is.slot o s has mark found
      at Lazy tells s mark found = is.slot o s has mark found
      at Value tells s mark found = is.slot o s has mark found
      at Generation tells s mark found = is.slot o s has mark found

  finds_any : (i : RowWord) (n : ℕ) (o : Option Offer) → l.offer ≡ o → FindTells i o n → IsLane (record l { offer = found_in i n o })
  finds_any i n None has tells = subst (λ o. IsLane (record l { offer = o })) has is
  finds_any i n (Some o) has tells = finds i n o has tells

  tries : (g : Grant) (n : ℕ) → (o : Offer) → l.offer ≡ Some o → IsGranted o g → g.entry.mark ≡ 3 → IsLane (record l { tried = Some (record { grant = g; found = n }) })
  tries g n o has granted mark = record {
    idle = is.idle;
    found = is.found;
    tried = λ x e. (o, has, granted.0.mark_is ∙ mark);
    slot = is.slot;
  }

  accepts : (e : Entry) (o : Offer) → l.offer ≡ Some o → IsRead o e → e.mark ≢ 3 → IsLane (record l { calling = false; taken = l.taken ++ e ∷ []; offer = None })
  accepts e o has read other = record {
    idle = λ _. refl;
    found = λ p t. let q : None ≡ Some p = t in absurd (cc);
    tried = λ x t. let was = is.tried x t in let q : Some o ≡ Some was.0 = sym has ∙ was.1 in let same : o ≡ was.0 = cc in
        absurd (other (sym read.mark_is ∙ (ap (λ (o : Offer). o.mark) same ∙ was.2)));
    slot = λ p s t mark found. let q : None ≡ Some p = t in absurd (cc);
  }

  finishes : (t : Option Exchange) → l.tried ≡ t → IsLane (finished t l)
  finishes None e = is
  finishes (Some x) e = record {
    idle = λ _. refl;
    found = λ p t. let q : None ≡ Some p = t in absurd (cc);
    tried = λ y t. let q : None ≡ Some y = t in absurd (cc);
    slot = λ p s t mark found. let q : None ≡ Some p = t in absurd (cc);
  }

pub lane_stays : (kind : HartKind) (h : HartView) (n : ℕ) → HartReady kind h → HartLearns kind h n → IsLane h.lane → IsLane (hart_after kind h n).lane
lane_stays (kinds.Look ask) h n ready learns is = subst IsLane (sym (glanced_lane ask n (lock_bit n == 1) (permits ask (role_in n)) (ask_is_fresh ask n) (heeded h))) is
lane_stays (kinds.Load ask) h n ready learns is = is
lane_stays (kinds.Hold ask) h n ready learns is = is
lane_stays (kinds.Lock ask control) h n ready learns is = subst IsLane (sym (locked_lane ask control n (eqb n control) (heeded h))) is
lane_stays (kinds.Store ask x) h n ready learns is = is
lane_stays (kinds.Unlock d) h n ready learns is = is
lane_stays kinds.Tally h n ready learns is = record { idle = is.idle; found = is.found; tried = is.tried; slot = is.slot }
lane_stays (kinds.Begin m) h n ready learns is = record {
  idle = λ e. let q : true ≡ false = e in absurd (cc);
  found = is.found;
  tried = is.tried;
  slot = is.slot;
}
lane_stays (kinds.Arrive m) h n ready learns is = arrives h.lane is n (nat_lt n 8) ready.1 learns.1 h.lane.offer refl
lane_stays (kinds.Find m i) h n ready learns is = finds_any h.lane is i n h.lane.offer refl learns.0
lane_stays (kinds.Exchange g) h n ready learns is = tries h.lane is g n ready.2.0 ready.2.1 ready.2.2 ready.1
lane_stays (kinds.Accept m e) h n ready learns is = accepts h.lane is e ready.2.0 ready.2.1 ready.2.2 ready.1
lane_stays (kinds.Finish m won) h n ready learns is = finishes h.lane is h.lane.tried refl
lane_stays (kinds.Generation number) h n ready learns is = is
lane_stays kinds.Listen h n ready learns is = is

-- ---- what is locked

pub hart_leaves : (kind : HartKind) (h : HartView) (n : ℕ) → HartLeaves kind → (hart_after kind h n).access ≡ h.access
hart_leaves (kinds.Look ask) h n leaves = absurd leaves
hart_leaves (kinds.Load ask) h n leaves = absurd leaves
hart_leaves (kinds.Hold ask) h n leaves = absurd leaves
hart_leaves (kinds.Lock ask control) h n leaves = absurd leaves
hart_leaves (kinds.Store ask x) h n leaves = absurd leaves
hart_leaves (kinds.Unlock d) h n leaves = absurd leaves
hart_leaves kinds.Tally h n leaves = refl
hart_leaves (kinds.Begin m) h n leaves = refl
hart_leaves (kinds.Arrive m) h n leaves = refl
hart_leaves (kinds.Find m i) h n leaves = refl
hart_leaves (kinds.Exchange g) h n leaves = refl
hart_leaves (kinds.Accept m e) h n leaves = refl
hart_leaves (kinds.Finish m won) h n leaves = refl
hart_leaves (kinds.Generation number) h n leaves = refl
hart_leaves kinds.Listen h n leaves = refl

awaited_leaves : (m : ℕ) (b : Bool) (k : KeeperView) → ((awaited_if m b k).access ≡ k.access) × ((awaited_if m b k).note ≡ k.note)
awaited_leaves m true k = (refl, refl)
awaited_leaves m false k = (refl, refl)

pub keeper_leaves : (kind : KeeperKind) (k : KeeperView) (n : ℕ) → KeeperLeaves kind → ((keeper_after kind k n).access ≡ k.access) × ((keeper_after kind k n).note ≡ None)
keeper_leaves (keeps.Look d) k n leaves = absurd leaves
keeper_leaves (keeps.Load d) k n leaves = absurd leaves
keeper_leaves (keeps.Lock d control) k n leaves = absurd leaves
keeper_leaves (keeps.Store d x) k n leaves = absurd leaves
keeper_leaves (keeps.Unlock d role lazy) k n leaves = absurd leaves
keeper_leaves (keeps.Count e) k n leaves = (refl, refl)
keeper_leaves (keeps.Await m) k n leaves = awaited_leaves m (nat_le 8 n) (heeding k)
keeper_leaves (keeps.Ask m) k n leaves = (refl, refl)
keeper_leaves (keeps.Saw d m) k n leaves = (refl, refl)
keeper_leaves (keeps.Fill m i x) k n leaves = (refl, refl)
keeper_leaves (keeps.Hand m mark) k n leaves = (refl, refl)
keeper_leaves (keeps.Open m) k n leaves = (refl, refl)
keeper_leaves (keeps.RetireSlot d) k n leaves = absurd leaves
keeper_leaves (keeps.Retire d old) k n leaves = absurd leaves
keeper_leaves (keeps.Generation g) k n leaves = (refl, refl)
keeper_leaves (keeps.Recall m i) k n leaves = (refl, refl)
keeper_leaves keeps.RecallGeneration k n leaves = (refl, refl)
keeper_leaves (keeps.RecallRole d) k n leaves = (refl, refl)
keeper_leaves keeps.Listen k n leaves = (refl, refl)
