-- Views of a hart over the steps of one call.
use Rattle.std.proofs.Common.{◌≡◌, ◌≢◌, ℕ, ◌<◌, inl, inr, Bool, true, false, nat_lt, Option, None, Some, refl, sym, ap, ◌∙◌, arith}
use Rattle.word_rule.specs.declared.entry.Entry.{Entry}
use Rattle.word_rule.specs.declared.entry.Grant.{Grant}
use Rattle.word_rule.specs.declared.entry.RowWord.{RowWord}
use Rattle.word_rule.specs.declared.kind.HartKind.TheVariants as kinds
use Rattle.word_rule.specs.declared.view.HartView.{HartView}
use Rattle.word_rule.specs.declared.view.Lane.{Lane}
use Rattle.word_rule.specs.declared.view.Offer.{Offer}
use Rattle.word_rule.specs.HartSteps.{HartLearns, HartReady, IsMark, arrived_if, found_in, hart_after, heeded, with_lane_of}
use Rattle.word_rule.specs.Views.{IsLane, offer_found, with_offered}
use Rattle.word_steps.specs.Views.{IsIdle}
use Rattle.slot_bind.specs.Rows.{HasRow, begun, found_state, full_offer, offer_of, with_offer, with_taken}

pub idle_heeded : (h : HartView) → IsIdle h → heeded h ≡ h
idle_heeded h idle i = record h { note = sym idle.note i }

-- ---- a call is begun

pub begins : (h h1 h2 : HartView) (m n1 n2 : ℕ) → IsIdle h → h1 ≡ hart_after kinds.Tally h n1 → h2 ≡ hart_after (kinds.Begin m) h1 n2 → h2 ≡ begun h2.lane.seen h
begins h h1 h2 m n1 n2 idle e1 e2 = e ∙ ap (λ n. begun n h) (sym (ap (λ (h : HartView). h.lane.seen) e))
  where
    e : h2 ≡ begun n1 h
    e = e2 ∙ (ap (λ h. hart_after (kinds.Begin m) h n2) e1 ∙ ap (λ h. begun n1 h) (idle_heeded h idle))

pub arrives : (h h' : HartView) (m n : ℕ) → IsIdle h → h' ≡ hart_after (kinds.Arrive m) h n → h' ≡ found_state n h
arrives h h' m n idle e = e ∙ ap (λ h. found_state n h) (idle_heeded h idle)

-- a row that the hart found its own is found so again
pub arrived_again : (h : HartView) (m n : ℕ) → HartLearns (kinds.Arrive m) h n → (o : Offer) → h.lane.offer ≡ Some o → n ≡ o.mark
arrived_again h m n learns o has = (learns.1 o has).0

-- ---- a row is read

-- a hart that has a row calls
pub row_calls : (h : HartView) → IsLane h.lane → HasRow h → h.lane.calling ≡ true
row_calls h lane has = go h.lane.calling refl
  where
    go : (b : Bool) → h.lane.calling ≡ b → h.lane.calling ≡ true
    go true e = e
    go false e = let q : Some (offer_of h) ≡ None = sym has ∙ lane.idle e in absurd (cc)

-- a state that is found again
again_if : (l : Lane) (o : Offer) (n : ℕ) (b : Bool) → l.offer ≡ Some o → n ≡ l.found → arrived_if n b l ≡ l
again_if l o n true has same i = record l { found = same i; offer = (ap (λ (p : Option Offer). Some (offer_found n p)) has ∙ sym has) i }
again_if l o n false has same i = record l { found = same i }

pub arrives_again : (h h' : HartView) (m n : ℕ) → IsIdle h → IsLane h.lane → HasRow h → HartLearns (kinds.Arrive m) h n → h' ≡ hart_after (kinds.Arrive m) h n → h' ≡ h
arrives_again h h' m n idle lane has learns e =
    let same : n ≡ h.lane.found = (learns.1 (offer_of h) has).0 ∙ lane.found (offer_of h) has in
    e ∙ (ap (λ l. with_lane_of l (heeded h)) (again_if h.lane (offer_of h) n (nat_lt n 8) has same) ∙ idle_heeded h idle)

pub mark_low : (h : HartView) (m n : ℕ) → HasRow h → HartLearns (kinds.Arrive m) h n → (n < 256) × (n ≡ (offer_of h).mark)
mark_low h m n has learns = let again = learns.1 (offer_of h) has in (small again.1, again.0)
  where
    small : IsMark n → n < 256
    small mark = elim mark [ inl a ↦ omega arith | inr a ↦ elim a [ inl b ↦ omega arith | inr b ↦ elim b [ inl c ↦ omega arith | inr c ↦ omega arith ] ] ]

pub find_ready : (h : HartView) (m : ℕ) (i : RowWord) → m ≡ h.number → HasRow h → HartReady (kinds.Find m i) h
find_ready h m i own has = (own, (offer_of h, has))

pub finds : (h h' : HartView) (m n : ℕ) (i : RowWord) → IsIdle h → HasRow h → h' ≡ hart_after (kinds.Find m i) h n → h' ≡ with_offer (with_offered i n (offer_of h)) h
finds h h' m n i idle has e = e ∙ (ap (λ h. with_lane_of (record h.lane { offer = found_in i n h.lane.offer }) h) (idle_heeded h idle)
    ∙ ap (λ o. with_lane_of (record h.lane { offer = found_in i n o }) h) has)

-- ---- an entry is taken

pub accepts : (h h' : HartView) (m n : ℕ) (e : Entry) → IsIdle h → h' ≡ hart_after (kinds.Accept m e) h n → h' ≡ with_taken e h
accepts h h' m n e idle is = is ∙ ap (λ h. with_taken e h) (idle_heeded h idle)

pub accept_ready : (h : HartView) (m : ℕ) (g : Grant) → m ≡ h.number → g.entry.mark ≢ 3 → h.lane.offer ≡ Some (full_offer g) → HartReady (kinds.Accept m g.entry) h
accept_ready h m g own other has = (own, other, (full_offer g, has, record { mark_is = refl; number_is = refl; slot_is = refl; value_is = refl; generation_is = refl }))
