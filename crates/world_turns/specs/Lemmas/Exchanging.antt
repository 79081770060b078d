-- An exchange on a slot, and the end of an offer.
use Rattle.std.proofs.Common.{◌≡◌, ◌≢◌, ◌⊎◌, inl, inr, ⊎_elim, ℕ, ◌%◌, Bool, true, false, cond, eqb, List, [], ◌∷◌, length, Some, refl, sym, ap, subst, ◌∙◌, arith}
use Rattle.std.specs.List.{Contains, slice_get}
use Rattle.std.proofs.lemmas.Bool.{eq-eqb, eqb-true, true≢false}
use Rattle.ld_base.specs.declared.linking.Role.TheVariants.{None as NoRole, Slot}
use Rattle.history_event.specs.declared.event.Event.{Event}
use Rattle.history_event.specs.declared.state.Granting.{Granting}
use Rattle.rv_hart.specs.Doublewords.{nowhere, with_word_at}
use Rattle.rv_hart.specs.declared.doubleword.Doubleword.{Doubleword}
use Rattle.history_state.specs.After.{after}
use Rattle.history_state.specs.Legal.{Lawful}
use Rattle.history_state.specs.Setting.{Machine, Setting}
use Rattle.history_state.specs.State.{State}
use Rattle.history_state.specs.Lemmas.History.{legal_is_lawful}
use Rattle.history_state.specs.Lemmas.Lists.{first_or_later, here, later, none_in, only_in}
use Rattle.history_memory.specs.Holds.{Holds, lazy_at}
use Rattle.history_memory.specs.Memory.{IsDoubleword, Memory, doubleword_of}
use Rattle.history_memory.specs.Remade.{MayExchange, Wins}
use Rattle.history_memory.specs.Lemmas.Exchanged.{fits, not_lazy}
use Rattle.hart_moves.specs.Harts.{Offered, Resolving}
use Rattle.hart_moves.specs.Moves.{word_left}
use Rattle.world_turns.specs.Memory.{doubleword, exchanged, lowest, memory_of, with_value}
use Rattle.world_turns.specs.Sound.{Fits, HasExchanged, HasOffer}
use Rattle.world_turns.specs.World.{has_won, won_by}
use Rattle.world_turns.specs.Lemmas.Offers.{Know, Known, Stands, stands}
use Rattle.world_turns.specs.Lemmas.Places.{Sounds, at_place, elsewhere, holds_alike, is_winner, placed, winner_of, won_all}
use Rattle.world_turns.specs.Lemmas.Words.{Puts, puts}

abbrev pub ExchangesKeep : Machine → Type 0
ExchangesKeep m = (journal : List Event) (won : List ℕ) (a : ℕ) (g : Granting) (old new : Memory) → Lawful m journal → MayExchange (after journal) a g → Holds (after journal) won old → Wins (after journal) a g old new → Holds (after journal) (g.number ∷ won) new

-- ---- the end of an offer

module _ (front rest : List Resolving) (p q : Resolving) (same : won_by p ≡ won_by q) where
  -- of two places by which the same grants have won
  pub same_winners : (n : ℕ) → Contains (won_all (placed front p rest)) n → Contains (won_all (placed front q rest)) n
  same_winners n there =
      let y = winner_of (placed front p rest) n there in
      ⊎_elim
      (λ (one : (y.hart ≡ length front) × (y.place ≡ p)). is_winner (placed front q rest) (length front) q n (at_place front q rest)
      (subst (λ (ns : List ℕ). Contains ns n) same (subst (λ (r : Resolving). Contains (won_by r) n) one.1 y.won)))
      (λ (other : (y.hart ≢ length front) × (slice_get (placed front q rest) y.hart ≡ Some y.place)). is_winner (placed front q rest) y.hart y.place n other.1 y.won)
      (elsewhere front q p rest y.hart y.place y.at)

pub finished : (w : Setting) (past : List Event) (front rest : List Resolving) (o : Offered) (found : ℕ) (words : List Doubleword)
    → Sounds w past (placed front (Resolving.to_finish o found) rest) words → Sounds w past (placed front (Resolving.to_settle o found) rest) words
finished w past front rest o found words x = record {
  legal = x.legal;
  holds = holds_alike (after past) (won_all (placed front (Resolving.to_finish o found) rest)) (won_all (placed front (Resolving.to_settle o found) rest)) (memory_of words)
      (same_winners front rest (Resolving.to_finish o found) (Resolving.to_settle o found) refl) (same_winners front rest (Resolving.to_settle o found) (Resolving.to_finish o found) refl) x.holds;
  fits = λ h r at. ⊎_elim
      (λ (one : (h ≡ length front) × (r ≡ Resolving.to_settle o found)). subst (λ (q : Resolving). Fits (after past) words h q) (sym one.1)
      (subst (λ (n : ℕ). HasExchanged (after past) words n o found) (sym one.0) (x.fits (length front) (Resolving.to_finish o found) (at_place front (Resolving.to_finish o found) rest))))
      (λ (other : (h ≢ length front) × (slice_get (placed front (Resolving.to_finish o found) rest) h ≡ Some r)). x.fits h r other.1)
      (elsewhere front (Resolving.to_finish o found) (Resolving.to_settle o found) rest h r at);
}

-- ---- an exchange

module _ (w : Setting) (know : Know w.machine) (keep : ExchangesKeep w.machine) (past : List Event) (front rest : List Resolving) (o : Offered) (words : List Doubleword)
    (x : Sounds w past (placed front (Resolving.to_exchange o) rest) words) where
  abbrev s : State
  s = after past

  abbrev k : ℕ
  k = length front

  abbrev found : ℕ
  found = (doubleword words o.slot).value

  abbrev old : List Resolving
  old = placed front (Resolving.to_exchange o) rest

  abbrev new : List Resolving
  new = placed front (Resolving.to_finish o found) rest

  lawful : Lawful w.machine past
  lawful = legal_is_lawful w past x.legal

  known : Known s
  known = know past lawful

  it : HasOffer s k o
  it = x.fits k (Resolving.to_exchange o) (at_place front (Resolving.to_exchange o) rest)

  st : Stands s it.grant o
  st = stands s known it.grant o it.offer

  -- the slot's own address is that of its doubleword
  whole : o.slot ≡ doubleword_of o.slot
  whole = let is : o.slot % 8 ≡ 0 = st.place.whole in omega (arith, is)

  role : (doubleword words o.slot).role ≡ Slot
  role = (x.holds.words o.slot st.place).role ∙ st.role

  not_nowhere : doubleword words o.slot ≡ nowhere → ⊥
  not_nowhere e = let no : Slot ≡ NoRole = sym role ∙ ap (λ (d : Doubleword). d.role) e in cc

  -- no other hart's exchange left the lazy word there
  not_lazy_left : (h : ℕ) (p : Offered) (f : ℕ) → (r : Resolving) → slice_get old h ≡ Some r → won_by r ≡ cond (has_won p f) (p.number ∷ []) [] → HasExchanged s words h p f → p.slot ≡ o.slot → word_left p f ≢ o.lazy
  not_lazy_left h p f r at won y same = by (has_won p f) refl
    where
      sp : Stands s y.offers.grant p
      sp = stands s known y.offers.grant p y.offers.offer

      lazy : lazy_at s p.slot ≡ p.lazy
      lazy = sp.lazy

      lazies : p.lazy ≡ o.lazy
      lazies = sym lazy ∙ ap (lazy_at s) same ∙ st.lazy

      value : y.offers.grant.value ≡ p.value
      value = sym (ap (λ (q : Offered). q.value) y.offers.offer.is)

      by : (t : Bool) → has_won p f ≡ t → word_left p f ≢ o.lazy
      by true e is = not_lazy s known.mapped known.begins known.images known.lazy (won_all old) p.slot (fits p.slot sp.place) y.offers.grant
          (record {
            there = y.offers.is.there;
            of = sp.at;
            took = inr (
              y.offers.is.open_yet,
              subst (Contains (won_all old)) (sym y.offers.is.numbered)
                  (is_winner old h r p.number at (subst (λ (ns : List ℕ). Contains ns p.number) (sym (won ∙ ap (λ (t : Bool). cond t (p.number ∷ []) []) e)) (here p.number []))),
            );
          })
          (value ∙ sym (ap (λ (t : Bool). cond t p.value f) e) ∙ is ∙ sym lazies ∙ sym lazy)
      by false e is = true≢false (sym (eq-eqb f p.lazy (sym (ap (λ (t : Bool). cond t p.value f) e) ∙ is ∙ sym lazies)) ∙ e)

  -- memory with the chosen value
  abbrev left : List Doubleword
  left = exchanged o words

  put : has_won o found ≡ true → Puts words left o.slot (with_value o.value (doubleword words o.slot))
  put won = subst (λ (ws : List Doubleword). Puts words ws o.slot (with_value o.value (doubleword words o.slot)))
      (sym (ap (λ (t : Bool). cond t (with_word_at lowest words o.slot (with_value o.value (doubleword words o.slot))) words) won)) (puts words o.slot (with_value o.value (doubleword words o.slot)))

  same_left : has_won o found ≡ false → left ≡ words
  same_left lost = ap (λ (t : Bool). cond t (with_word_at lowest words o.slot (with_value o.value (doubleword words o.slot))) words) lost

  put_there : (won : has_won o found ≡ true) → doubleword left o.slot ≡ with_value o.value (doubleword words o.slot)
  put_there won = ⊎_elim (λ (e : doubleword left o.slot ≡ with_value o.value (doubleword words o.slot)). e) (λ (n : (doubleword words o.slot ≡ nowhere) × (doubleword left o.slot ≡ nowhere)). absurd (not_nowhere n.0)) ((put won).same o.slot st.place whole)

  put_elsewhere : has_won o found ≡ true → (b : ℕ) → IsDoubleword b → b ≢ o.slot → doubleword left b ≡ doubleword words b
  put_elsewhere won b is differs = (put won).others b is (λ e. differs (e ∙ sym whole))

  wins : has_won o found ≡ true → Wins s o.slot it.grant (memory_of words) (memory_of left)
  wins won = record {
    found = eqb-true found o.lazy won ∙ sym st.lazy;
    left = ap (λ (d : Doubleword). d.value) (put_there won) ∙ ap (λ (q : Offered). q.value) it.offer.is;
    others = λ b is differs. ap (λ (d : Doubleword). d.value) (put_elsewhere won b is differs);
    role = λ b is. role_by won b is (eqb b o.slot) refl;
  }
    where
      role_by : has_won o found ≡ true → (b : ℕ) → IsDoubleword b → (t : Bool) → eqb b o.slot ≡ t → (doubleword left b).role ≡ (doubleword words b).role
      role_by y b is true e = ap (λ (c : ℕ). (doubleword left c).role) (eqb-true b o.slot e) ∙ ap (λ (d : Doubleword). d.role) (put_there y) ∙ ap (λ (c : ℕ). (doubleword words c).role) (sym (eqb-true b o.slot e))
      role_by y b is false e = ap (λ (d : Doubleword). d.role) (put_elsewhere y b is (λ f. true≢false (sym (eq-eqb b o.slot f) ∙ e)))

  -- what another hart left in its slot stands there still
  word_stays : (h : ℕ) (p : Offered) (f : ℕ) (r : Resolving) → slice_get old h ≡ Some r → won_by r ≡ cond (has_won p f) (p.number ∷ []) [] → HasExchanged s words h p f → (t : Bool) → has_won o found ≡ t → (doubleword left p.slot).value ≡ (doubleword words p.slot).value
  word_stays h p f r at won y false e = ap (λ (ws : List Doubleword). (doubleword ws p.slot).value) (same_left e)
  word_stays h p f r at won y true e = by (eqb p.slot o.slot) refl
    where
      by : (t : Bool) → eqb p.slot o.slot ≡ t → (doubleword left p.slot).value ≡ (doubleword words p.slot).value
      by true is = absurd (not_lazy_left h p f r at won y (eqb-true p.slot o.slot is) (sym y.holds ∙ ap (λ (c : ℕ). (doubleword words c).value) (eqb-true p.slot o.slot is) ∙ eqb-true found o.lazy e))
      by false is = ap (λ (d : Doubleword). d.value) (put_elsewhere e p.slot (stands s known y.offers.grant p y.offers.offer).place (λ same. true≢false (sym (eq-eqb p.slot o.slot same) ∙ is)))

  still_fits : (h : ℕ) (r : Resolving) → slice_get old h ≡ Some r → Fits s words h r → Fits s left h r
  still_fits h Resolving.idle at y = y
  still_fits h (Resolving.to_exchange p) at y = y
  still_fits h (Resolving.to_finish p f) at y = record { offers = y.offers; holds = word_stays h p f (Resolving.to_finish p f) at refl y (has_won o found) refl ∙ y.holds }
  still_fits h (Resolving.to_settle p f) at y = record { offers = y.offers; holds = word_stays h p f (Resolving.to_settle p f) at refl y (has_won o found) refl ∙ y.holds }

  own_fits : (t : Bool) → has_won o found ≡ t → HasExchanged s left k o found
  own_fits true e = record { offers = it; holds = ap (λ (d : Doubleword). d.value) (put_there e) ∙ sym (ap (λ (t : Bool). cond t o.value found) e) }
  own_fits false e = record { offers = it; holds = ap (λ (ws : List Doubleword). (doubleword ws o.slot).value) (same_left e) ∙ sym (ap (λ (t : Bool). cond t o.value found) e) }

  -- who has won before and after
  was_winner : (n : ℕ) → Contains (won_all new) n → Contains (won_all old) n ⊎ Contains (won_by (Resolving.to_finish o found)) n
  was_winner n there =
      let y = winner_of new n there in
      ⊎_elim
      (λ (one : (y.hart ≡ k) × (y.place ≡ Resolving.to_finish o found)). inr (subst (λ (r : Resolving). Contains (won_by r) n) one.1 y.won))
      (λ (other : (y.hart ≢ k) × (slice_get old y.hart ≡ Some y.place)). inl (is_winner old y.hart y.place n other.1 y.won))
      (elsewhere front (Resolving.to_exchange o) (Resolving.to_finish o found) rest y.hart y.place y.at)

  still_winner : (n : ℕ) → Contains (won_all old) n → Contains (won_all new) n
  still_winner n there =
      let y = winner_of old n there in
      ⊎_elim
      (λ (one : (y.hart ≡ k) × (y.place ≡ Resolving.to_exchange o)). absurd (none_in n (subst (λ (r : Resolving). Contains (won_by r) n) one.1 y.won)))
      (λ (other : (y.hart ≢ k) × (slice_get new y.hart ≡ Some y.place)). is_winner new y.hart y.place n other.1 y.won)
      (elsewhere front (Resolving.to_finish o found) (Resolving.to_exchange o) rest y.hart y.place y.at)

  holds_by : (t : Bool) → has_won o found ≡ t → Holds s (won_all new) (memory_of left)
  holds_by true e = holds_alike s (it.grant.number ∷ won_all old) (won_all new) (memory_of left)
      (λ n there. ⊎_elim
      (λ (is : it.grant.number ≡ n). is_winner new k (Resolving.to_finish o found) n (at_place front (Resolving.to_finish o found) rest) (subst (λ (t : Bool). Contains (cond t (o.number ∷ []) []) n) (sym e) (subst (Contains (o.number ∷ [])) (sym it.is.numbered ∙ is) (here o.number []))))
      (λ (i : Contains (won_all old) n). still_winner n i)
      (first_or_later it.grant.number (won_all old) n there))
      (λ n there. ⊎_elim
      (λ (i : Contains (won_all old) n). later it.grant.number (won_all old) n i)
      (λ (own : Contains (won_by (Resolving.to_finish o found)) n). subst (Contains (it.grant.number ∷ won_all old)) (it.is.numbered ∙ only_in o.number n (subst (λ (t : Bool). Contains (cond t (o.number ∷ []) []) n) e own)) (here it.grant.number (won_all old)))
      (was_winner n there))
      (keep past (won_all old) o.slot it.grant (memory_of words) (memory_of left) lawful (record { place = st.place; there = it.is.there; open_yet = it.is.open_yet; of = st.at }) x.holds (wins e))
  holds_by false e = subst (λ (ws : List Doubleword). Holds s (won_all new) (memory_of ws)) (sym (same_left e))
      (holds_alike s (won_all old) (won_all new) (memory_of words) still_winner
      (λ n there. ⊎_elim (λ (i : Contains (won_all old) n). i) (λ (own : Contains (won_by (Resolving.to_finish o found)) n). absurd (none_in n (subst (λ (t : Bool). Contains (cond t (o.number ∷ []) []) n) e own))) (was_winner n there))
      x.holds)

  pub exchanged_sound : Sounds w past new left
  exchanged_sound = record {
    legal = x.legal;
    holds = holds_by (has_won o found) refl;
    fits = λ h r at. ⊎_elim
        (λ (one : (h ≡ k) × (r ≡ Resolving.to_finish o found)). subst (λ (q : Resolving). Fits s left h q) (sym one.1) (subst (λ (n : ℕ). HasExchanged s left n o found) (sym one.0) (own_fits (has_won o found) refl)))
        (λ (other : (h ≢ k) × (slice_get old h ≡ Some r)). still_fits h r other.1 (x.fits h r other.1))
        (elsewhere front (Resolving.to_exchange o) (Resolving.to_finish o found) rest h r at);
  }

  pub exchanged_length : length left ≡ length words
  exchanged_length = by (has_won o found) refl
    where
      by : (t : Bool) → has_won o found ≡ t → length left ≡ length words
      by true e = (put e).all
      by false e = ap (λ (ws : List Doubleword). length ws) (same_left e)
