-- Views over the steps of the calls on grants.
use Rattle.std.proofs.Common.{◌≡◌, ◌≢◌, ◌⊎◌, ⊎_elim, ℕ, ◌%◌, ◌<◌, Bool, true, false, eqb, eq-eqb, ne_eqb, List, length, Option, None, Some, Contains, refl, sym, ap, subst, ◌∙◌, arith}
use Rattle.std.proofs.lemmas.List.Elements.{Contains-push}
use Rattle.history_event.specs.declared.handed.Offer.{Offer}
use Rattle.word_rule.specs.declared.entry.Grant.{Grant}
use Rattle.word_rule.specs.declared.entry.RowWord.TheVariants.{Slot, Generation}
use Rattle.word_rule.specs.declared.kind.HartKind.TheVariants as harts
use Rattle.word_rule.specs.declared.kind.KeeperKind.TheVariants as keepers
use Rattle.word_rule.specs.declared.view.HartView.{HartView}
use Rattle.word_rule.specs.declared.view.Fate.{Fate}
use Rattle.word_rule.specs.declared.view.Fate.TheVariants.{Lost as FateLost, Won as FateWon}
use Rattle.word_rule.specs.declared.view.KeeperView.{KeeperView}
use Rattle.word_rule.specs.declared.view.Kept.{Kept}
use Rattle.word_rule.specs.declared.view.Offer.{Offer as ReadOffer}
use Rattle.word_rule.specs.declared.view.OpenRow.{OpenRow}
use Rattle.word_rule.specs.declared.view.Row.{Row}
use Rattle.word_rule.specs.Allowed.{IsLost, IsOf}
use Rattle.word_rule.specs.HartSteps.{HartReady, entered, finished, hart_after, with_lane_of}
use Rattle.word_rule.specs.KeeperSteps.{KeeperReady, TellsAsk, TellsSlot, asked, asked_if, asked_in, fixed_by, fixed_if, heeding, keeper_after, losing, opens_if, settled_as, with_kept, with_row}
use Rattle.word_rule.specs.Layout.{address_of, doublewords, IsDoubleword, place_of}
use Rattle.word_rule.specs.Views.{IsLong, grant_in, kept_at, offered, row_of, with_offered}
use Rattle.word_rule.specs.declared.view.TrailItem.TheVariants.{Done}
use Rattle.word_steps.specs.Views.{IsIdle}
use Rattle.word_steps.specs.Views.{IsResting}
use Rattle.word_rule.specs.Lemmas.Heeding.{heeds, row_here}
use Rattle.slot_bind.specs.declared.slot.Asked.{Asked}
use Rattle.slot_bind.specs.declared.slot.Asked.TheVariants.{Open, Won as SaysWon, Lost as SaysLost}
use Rattle.slot_bind.specs.declared.slot.Bound.{Bound}
use Rattle.slot_bind.specs.declared.slot.Bound.TheVariants.{Won, Lost}
use Rattle.slot_bind.specs.Rows.{full_offer, offer_of, offer_or, with_offer}
use Rattle.slot_bind.specs.Grants.{IsBound, IsOffered, Says, asked_row, asked_view, exchange_of, exchanged, fated_view, found_by, given_back, grant_read, is_won, opens_by, with_look}
use Rattle.slot_bind.proofs.Harts.{idle_heeded}

-- ---- an exchange

-- a view with its own offer
own_offer : (h : HartView) (o : ReadOffer) → h.lane.offer ≡ Some o → h ≡ with_offer o h
own_offer h o has i = record h { lane = record h.lane { offer = has i } }

-- what is read of the row's generation, where the row was read in full
reads : (h : HartView) (offer : Offer) (n : ℕ) → IsOffered h offer → ((x : ℕ) → offered Generation (offer_of h) ≡ Some x → n ≡ x) → n ≡ (grant_read h).entry.generation
reads h offer n is again = again (grant_read h).entry.generation (ap (λ (o : Option ReadOffer). (offer_or o).generation) is.full)

pub same_view : (h h' : HartView) (offer : Offer) (n : ℕ) → IsOffered h offer → h' ≡ with_offer (with_offered Generation n (offer_of h)) h → ((x : ℕ) → offered Generation (offer_of h) ≡ Some x → n ≡ x) → h' ≡ h
same_view h h' offer n is e again = e ∙ (ap (λ o. with_offer o h) same ∙ sym (own_offer h (full_offer (grant_read h)) is.full))
  where
    full : offer_of h ≡ full_offer (grant_read h)
    full = ap offer_or is.full

    same : with_offered Generation n (offer_of h) ≡ full_offer (grant_read h)
    same = ap (with_offered Generation n) full ∙ ap (λ x. with_offered Generation x (full_offer (grant_read h))) (reads h offer n is again)

pub same_grant : (h : HartView) (offer : Offer) (n : ℕ) → IsOffered h offer → ((x : ℕ) → offered Generation (offer_of h) ≡ Some x → n ≡ x)
    → record { entry = record { mark = 3; number = offer.event; slot = offer.slot; value = offer.value; generation = n }; lazy = offer.lazy } ≡ grant_read h
same_grant h offer n is again i = record {
  entry = record { mark = sym is.mark i; number = is.event i; slot = is.slot i; value = is.value i; generation = reads h offer n is again i };
  lazy = is.lazy i;
}

pub bind_ready : (h h1 : HartView) (offer : Offer) (g : Grant) → h1 ≡ h → g ≡ grant_read h → IsOffered h offer → h.lane.tried ≡ None → HartReady (harts.Exchange g) h1
bind_ready h h1 offer g same is offered' untried = subst (λ (p : HartView × Grant). HartReady (harts.Exchange p.1) p.0) (λ i. (sym same i, sym is i))
    (untried, offered'.mark, (full_offer (grant_read h), offered'.full, (record { mark_is = refl; number_is = refl; slot_is = refl; value_is = refl; generation_is = refl }, refl)))

binds : (h h1 h' : HartView) (g : Grant) (n : ℕ) (b : Bound) → IsIdle h1 → h1 ≡ h → g ≡ grant_read h → h' ≡ hart_after (harts.Exchange g) h1 n → n ≡ found_by (grant_read h) b → h' ≡ exchanged (exchange_of (grant_read h) b) h
binds h h1 h' g n b idle same is e found = e ∙ (ap (λ h. exchanged (record { grant = g; found = n }) h) (idle_heeded h1 idle ∙ same) ∙ (λ i. exchanged (record { grant = is i; found = found i }) h))

pub bind_won : (h h1 h' : HartView) (offer : Offer) (g : Grant) (n : ℕ) → IsOffered h offer → IsIdle h1 → h1 ≡ h → g ≡ grant_read h → h' ≡ hart_after (harts.Exchange g) h1 n → n ≡ offer.lazy → h' ≡ exchanged (exchange_of (grant_read h) Won) h
bind_won h h1 h' offer g n offered' idle same is e found = binds h h1 h' g n Won idle same is e (found ∙ offered'.lazy)

pub bind_lost : (h h1 h' : HartView) (g : Grant) (n : ℕ) → IsIdle h1 → h1 ≡ h → g ≡ grant_read h → h' ≡ hart_after (harts.Exchange g) h1 n → h' ≡ exchanged (exchange_of (grant_read h) (Lost n)) h
bind_lost h h1 h' g n idle same is e = binds h h1 h' g n (Lost n) idle same is e refl

-- a row that was exchanged is still read in full
pub still_offered : (h h' : HartView) (offer : Offer) (b : Bound) → IsOffered h offer → h' ≡ exchanged (exchange_of (grant_read h) b) h → IsOffered h' offer
still_offered h h' offer b is e = subst (λ h. IsOffered h offer) (sym e) (record { full = is.full; mark = is.mark; event = is.event; slot = is.slot; lazy = is.lazy; value = is.value })

pub is_tried : (h h' : HartView) (b : Bound) → h' ≡ exchanged (exchange_of (grant_read h) b) h → h'.lane.tried ≡ Some (exchange_of (grant_read h') b)
is_tried h h' b e = subst (λ (x : HartView). x.lane.tried ≡ Some (exchange_of (grant_read x) b)) (sym e) refl

-- ---- a row is given back

won_is : (g : Grant) (b : Bound) → IsBound g.lazy b → (won : Bool) → won ≡ is_won b → won ≡ eqb (found_by g b) g.lazy
won_is g Won is won e = e ∙ sym (eq-eqb g.lazy g.lazy refl)
won_is g (Lost saw) is won e = e ∙ sym (ne_eqb saw g.lazy is)

pub done_ready : (h : HartView) (m : ℕ) (offer : Offer) (b : Bound) (won : Bool) → m ≡ h.number → IsOffered h offer → h.lane.tried ≡ Some (exchange_of (grant_read h) b) → IsBound offer.lazy b → won ≡ is_won b → HartReady (harts.Finish m won) h
done_ready h m offer b won own offered' tried is e = (own, (exchange_of (grant_read h) b, tried, won_is (grant_read h) b (subst (λ n. IsBound n b) offered'.lazy is) won e))

pub gives_back : (h h' : HartView) (m n : ℕ) (won : Bool) (b : Bound) → IsIdle h → h.lane.tried ≡ Some (exchange_of (grant_read h) b) → h' ≡ hart_after (harts.Finish m won) h n → h' ≡ given_back (exchange_of (grant_read h) b) h
gives_back h h' m n won b idle tried is =
    is ∙ (ap (λ h. entered Done (with_lane_of (finished h.lane.tried h.lane) h)) (idle_heeded h idle) ∙ ap (λ t. entered Done (with_lane_of (finished t h.lane) h)) tried)

-- ---- the keeper's loads

pub recalls : (k k' : KeeperView) (m n : ℕ) → IsResting k → k' ≡ keeper_after (keepers.Recall m Slot) k n → k' ≡ k
recalls k k' m n r is = is ∙ heeds k r.note

pub saws : (k k1 k' : KeeperView) (m d n : ℕ) → k1 ≡ k → IsResting k → k' ≡ keeper_after (keepers.Saw d m) k1 n → k' ≡ with_look m d n k
saws k k1 k' m d n same r is =
    is ∙ (ap (λ k. losing m (grant_in (row_of k m)) n (with_kept d (fixed_by n (kept_at k d)) (heeding k))) same
    ∙ ap (λ q. losing m (grant_in (row_of k m)) n (with_kept d (fixed_by n (kept_at k d)) q)) (heeds k r.note))

pub saw_ready : (k k1 : KeeperView) (m d : ℕ) → k1 ≡ k → m < 16 → IsLost (row_of k m) (grant_in (row_of k m)) → d ≡ place_of (row_of k m).slot
    → IsOf (kept_at k) (place_of (row_of k m).slot) (grant_in (row_of k m)) → KeeperReady (keepers.Saw d m) k1
saw_ready k k1 m d same low lost at of = subst (KeeperReady (keepers.Saw d m)) (sym same) (low, lost, subst (λ e. IsOf (kept_at k) e (grant_in (row_of k m))) (sym at) of)

place_at : (d : ℕ) → place_of (address_of d) ≡ d
unfolding place_of
place_at d = omega arith

pub slot_at : (k : KeeperView) (d : ℕ) (g : Grant) → IsOf (kept_at k) d g → IsDoubleword g.entry.slot
slot_at k d g is = subst IsDoubleword (sym is.1) ((omega arith, subst (λ e. e < doublewords) (sym (place_at d)) is.0.0), omega arith)

-- what an ask finds
says : (n : ℕ) → (n % 8 ≡ 3) ⊎ (n % 8 ≡ 4) ⊎ (n % 8 ≡ 5) → (a : Asked) → Says n a → (r : Row) → asked n r ≡ asked_row a r
says n all Open is r = ap (λ s. asked_if (eqb s 3) (eqb s 4) (eqb s 5) r) is
says n all SaysWon is r = ap (λ s. asked_if (eqb s 3) (eqb s 4) (eqb s 5) r) is
says n all (SaysLost saw) is r = ap (λ s. asked_if (eqb s 3) (eqb s 4) (eqb s 5) r) is

-- and whether it is open
opens : (m count n : ℕ) (a : Asked) → Says n a → (before : List OpenRow) → opens_if m count (eqb (n % 8) 3) before ≡ opens_by m count a before
opens m count n Open is before = ap (λ s. opens_if m count (eqb s 3) before) is
opens m count n SaysWon is before = ap (λ s. opens_if m count (eqb s 3) before) is
opens m count n (SaysLost saw) is before = ap (λ s. opens_if m count (eqb s 3) before) is

pub asks : (k k' : KeeperView) (m n : ℕ) (a : Asked) → IsResting k → TellsAsk k m n → k' ≡ keeper_after (keepers.Ask m) k n → Says n a → k' ≡ fated_view m a k
asks k k' m n a r told is say = is ∙ ap (asked_in m n) (heeds k r.note)
    ∙ (λ i. record (with_row m (says n told.state a say (row_of k m) i) k) { opens = opens m (length k.events) n a say k.opens i })

pub lost_state : (n : ℕ) → (n % 8 ≡ 3) ⊎ (n % 8 ≡ 4) ⊎ (n % 8 ≡ 5) → n % 8 ≢ 3 → n % 8 ≢ 4 → n % 8 ≡ 5
lost_state n all three four = ⊎_elim (λ (e : n % 8 ≡ 3). absurd (three e)) (λ h. ⊎_elim (λ (e : n % 8 ≡ 4). absurd (four e)) (λ (e : n % 8 ≡ 5). e) h) all

-- the grant in the row is the one that was asked for
row_grant : (n : ℕ) (r : Row) → grant_in (asked n r) ≡ grant_in r
row_grant n r = go (eqb (n % 8) 3) (eqb (n % 8) 4) (eqb (n % 8) 5)
  where
    settles : (f : Fate) (p : Option Grant) → grant_in (settled_as f p r) ≡ grant_in r
    settles f None = refl
    settles f (Some g) = refl

    go : (a b c : Bool) → grant_in (asked_if a b c r) ≡ grant_in r
    go true b c = refl
    go false true c = settles FateWon r.pending
    go false false true = settles FateLost r.pending
    go false false false = refl

module _ (k k1 : KeeperView) (m n : ℕ) (long : IsLong k) (low : m < 16) (is : k1 ≡ keeper_after (keepers.Ask m) k n) where
  row_asked : row_of k1 m ≡ asked n (row_of k m)
  row_asked = ap (λ k. row_of k m) is ∙ row_here (heeding k) m (asked n (row_of k m)) (subst (λ x. m < x) (sym long.1) low)

  grant_stays : grant_in (row_of k1 m) ≡ grant_in (row_of k m)
  grant_stays = ap grant_in row_asked ∙ row_grant n (row_of k m)

-- what is asked of the slot in it
pub record AskSlot (k1 : KeeperView) (m : ℕ) : Type 0 where
  pub lost : IsLost (row_of k1 m) (grant_in (row_of k1 m))
  pub of : IsOf (kept_at k1) (place_of (row_of k1 m).slot) (grant_in (row_of k1 m))

-- ---- the slot of a lost grant was looked at

-- the row then has the grant as lost
has_lost : (r : Row) (g : Grant) → r.pending ≡ Some g → Contains (asked_row (SaysLost 0) r).settled (record { grant = g; fate = FateLost })
has_lost r g pending = subst (λ p. Contains (settled_as FateLost p r).settled (record { grant = g; fate = FateLost })) (sym pending) (Contains-push r.settled (record { grant = g; fate = FateLost }))

pub ask_slot : (k k1 : KeeperView) (m n : ℕ) → IsLong k → m < 16 → k1 ≡ keeper_after (keepers.Ask m) k n → TellsAsk k m n → n % 8 ≡ 5 → (g : Grant) × ((row_of k m).pending ≡ Some g) → AskSlot k1 m
ask_slot k k1 m n long low is told five posted =
    let g : Grant = posted.0 in
    let pending : (row_of k m).pending ≡ Some posted.0 = posted.1 in
    let same : posted.0 ≡ grant_in (row_of k1 m) = told.in_row posted.0 posted.1 ∙ sym (grant_stays k k1 m n long low is) in
    let row : row_of k1 m ≡ asked_row (SaysLost 0) (row_of k m) = row_asked k k1 m n long low is ∙ says n told.state (SaysLost 0) five (row_of k m) in record {
      lost = subst (IsLost (row_of k1 m)) same (subst (λ (r : Row). IsLost r posted.0) (sym row) (has_lost (row_of k m) posted.0 posted.1));
      of = subst (λ (p : (ℕ → Kept) × Grant). IsOf p.0 (place_of p.1.entry.slot) p.1) (λ i. (ap kept_at (sym is) i, same i)) (told.of_slot posted.0 posted.1);
    }

module _ (k k1 : KeeperView) (m n word : ℕ) (g : Grant) (r : IsResting k) (long : IsLong k) (low : m < 16) (told : TellsAsk k m n) (is : k1 ≡ keeper_after (keepers.Ask m) k n) (lost : n % 8 ≡ 5)
    (pending : (row_of k m).pending ≡ Some g) (tells : TellsSlot k1 (place_of (row_of k1 m).slot) word) where
  at : grant_in (row_of k1 m) ≡ grant_in (row_of k m)
  at = grant_stays k k1 m n long low is

  fated : k1 ≡ fated_view m (SaysLost word) k
  fated = asks k k1 m n (SaysLost word) r told is lost

  -- what is told of the slot
  pub fated_tells : TellsSlot (fated_view m (SaysLost word) k) (place_of g.entry.slot) word
  fated_tells = subst (λ (p : KeeperView × Grant). TellsSlot p.0 (place_of p.1.entry.slot) word) (λ i. (fated i, (at ∙ sym (told.in_row g pending)) i)) tells

  row_now : row_of (fated_view m (SaysLost word) k) m ≡ asked_row (SaysLost word) (row_of k m)
  row_now = row_here k m (asked_row (SaysLost word) (row_of k m)) (subst (λ x. m < x) (sym long.1) low)

  not_lazy : word ≢ (kept_at k (place_of g.entry.slot)).lazy
  not_lazy e = fated_tells.lost m g low (subst (λ (r : Row). Contains r.settled (record { grant = g; fate = FateLost })) (sym row_now) (has_lost (row_of k m) g pending)) (told.of_slot g pending) (e ∙ sym (told.lazy_is g pending))

  seen : fixed_by word (kept_at k (place_of g.entry.slot)) ≡ record (kept_at k (place_of g.entry.slot)) { fixed = Some word }
  seen = ap (λ b. fixed_if word b (kept_at k (place_of g.entry.slot))) (ne_eqb word (kept_at k (place_of g.entry.slot)).lazy not_lazy)

  pub lost_view : (k2 : KeeperView) → k2 ≡ with_look m (place_of (row_of k1 m).slot) word k1 → k2 ≡ asked_view m (SaysLost word) k
  lost_view k2 saw =
      saw ∙ ((λ i. losing m (at i) word (with_kept (place_of (at i).entry.slot) (fixed_by word (kept_at (fated i) (place_of (at i).entry.slot))) (fated i)))
      ∙ ap (λ x. losing m (grant_in (row_of k m)) word (with_kept (place_of (row_of k m).slot) x (fated_view m (SaysLost word) k)))
      (subst (λ (q : Grant). fixed_by word (kept_at k (place_of q.entry.slot)) ≡ record (kept_at k (place_of q.entry.slot)) { fixed = Some word }) (told.in_row g pending) seen))

-- what the exchange of a slot comes to
pub ruleset binding = (bind_ready, bind_won, bind_lost, still_offered, is_tried)
