-- What is done is settled, hart by hart.
use Rattle.std.proofs.Common.{◌≡◌, ◌≢◌, ◌⊎◌, inl, inr, ⊎_elim, ℕ, ◌&&◌, not, Bool, true, false, cond, eqb, List, [], ◌∷◌, ◌++◌, length, map, flat_map, Some, refl, sym, ap, subst, ◌∙◌, append_assoc, append-nil}
use Rattle.std.specs.List.{Contains, slice_get}
use Rattle.std.proofs.lemmas.Bool.{eq-eqb, eqb-true, true≢false}
use Rattle.history_event.specs.declared.event.Event.{Event}
use Rattle.history_event.specs.declared.event.Event.TheVariants as events
use Rattle.history_event.specs.declared.state.Granting.{Granting}
use Rattle.history_event.specs.declared.state.Standing.{Standing}
use Rattle.history_event.specs.declared.state.Standing.TheVariants as standings
use Rattle.rv_hart.specs.declared.doubleword.Doubleword.{Doubleword}
use Rattle.history_state.specs.Accepted.{AcceptsOnly}
use Rattle.history_state.specs.After.{after}
use Rattle.history_state.specs.Allowed.{Allowed}
use Rattle.history_state.specs.Grants.{is_open}
use Rattle.history_state.specs.Legal.{Lawful}
use Rattle.history_state.specs.Setting.{Machine, Setting}
use Rattle.history_state.specs.Slots.{HasNoGrant, MayBind, MayLose}
use Rattle.history_state.specs.State.{State}
use Rattle.history_state.specs.Step.{settle, settled_as, step}
use Rattle.history_state.specs.Lemmas.History.{after_push, legal_is_lawful, legal_push}
use Rattle.history_state.specs.Lemmas.Lists.{from_filter, from_map, here, in_filter, in_map, none_in, only_in}
use Rattle.history_state.specs.Lemmas.Tidy.{one_number}
use Rattle.history_memory.specs.Holds.{Holds, lazy_at}
use Rattle.history_memory.specs.Memory.{IsSame, Memory}
use Rattle.history_memory.specs.Remade.{MayExchange, Remade, SettlesRightly, won_after}
use Rattle.history_memory.specs.Lemmas.Stayed.{quiet}
use Rattle.hart_moves.specs.Harts.{Offered, Resolving}
use Rattle.hart_moves.specs.Moves.{settled_resolving}
use Rattle.world_turns.specs.Memory.{memory_of}
use Rattle.world_turns.specs.Sound.{Fits, HasExchanged, HasOffer}
use Rattle.world_turns.specs.World.{has_won, settled_by, settling_event, won_by}
use Rattle.world_turns.specs.Lemmas.Events.{EventsKeep}
use Rattle.world_turns.specs.Lemmas.Offers.{Know, Known, stands}
use Rattle.world_turns.specs.Lemmas.Places.{Sounds, WonOffer, at_place, elsewhere, holds_alike, is_winner, placed, winner_of, won_all, won_offer}

-- ---- laws of memory

abbrev pub MayBeBound : Machine → Type 0
MayBeBound m = (journal : List Event) (won : List ℕ) (g : Granting) (memory : Memory) → Lawful m journal → Contains (after journal).grants g → g.standing ≡ standings.Open
    → Holds (after journal) won memory → Contains won g.number → MayBind (after journal) g.number

abbrev pub MayBeLost : Machine → Type 0
MayBeLost m = (journal : List Event) (won : List ℕ) (a : ℕ) (g : Granting) (memory : Memory) → Lawful m journal → MayExchange (after journal) a g
    → Holds (after journal) won memory → ¬ (Contains won g.number) → memory.value a ≢ lazy_at (after journal) a → MayLose (after journal) g.number (memory.value a)

-- ---- the grants of a state with one settled

module _ (s : State) (number : ℕ) (standing : Standing) (shut : standing ≢ standings.Open) where
  abbrev t : State
  t = settle number standing s

  -- an open one was open
  pub was_open : (g : Granting) → Contains t.grants g → g.standing ≡ standings.Open → Contains s.grants g × (g.number ≢ number)
  was_open g there open_yet = by q.0 q.1 q.2
    where
      q : (h : Granting) × Contains s.grants h × (settled_as number standing h ≡ g)
      q = from_map (settled_as number standing) s.grants g there

      open_is : (h : Granting) → h.standing ≡ standings.Open → is_open h ≡ true
      open_is h e = ap (λ (x : Standing). elim x [ standings.Open ↦ true | standings.Bound ↦ false | standings.Lost saw ↦ false ]) e

      by : (h : Granting) → Contains s.grants h → settled_as number standing h ≡ g → Contains s.grants g × (g.number ≢ number)
      by h inside is = cases (eqb h.number number && is_open h) refl
        where
          cases : (b : Bool) → (eqb h.number number && is_open h) ≡ b → Contains s.grants g × (g.number ≢ number)
          cases true e = absurd (shut (ap (λ (x : Bool). (cond x (record h { standing = standing }) h).standing) (sym e) ∙ ap (λ (x : Granting). x.standing) is ∙ open_yet))
          cases false e =
              let same : h ≡ g = ap (λ (x : Bool). cond x (record h { standing = standing }) h) (sym e) ∙ is in (
                subst (λ (x : Granting). Contains s.grants x) same inside,
                λ k. true≢false (sym (ap (λ (x : Bool). x && is_open h) (eq-eqb h.number number (ap (λ (x : Granting). x.number) same ∙ k)) ∙ open_is h (ap (λ (x : Granting). x.standing) same ∙ open_yet)) ∙ e),
              )

  -- another one is as it was
  pub stays_open : (g : Granting) → Contains s.grants g → g.number ≢ number → Contains t.grants g
  stays_open g there differs = subst (λ (x : Granting). Contains t.grants x) (same (eqb g.number number) refl) (in_map (settled_as number standing) s.grants g there)
    where
      same : (b : Bool) → eqb g.number number ≡ b → settled_as number standing g ≡ g
      same true e = absurd (differs (eqb-true g.number number e))
      same false e = ap (λ (x : Bool). cond (x && is_open g) (record g { standing = standing }) g) e

-- ---- one hart's grant

module _ (w : Setting) (only : AcceptsOnly w.machine) (know : Know w.machine) (keep : EventsKeep) (past : List Event) (front rest : List Resolving) (o : Offered) (found : ℕ) (words : List Doubleword)
    (x : Sounds w past (placed front (Resolving.to_settle o found) rest) words) where
  abbrev s : State
  s = after past

  abbrev k : ℕ
  k = length front

  abbrev old : List Resolving
  old = placed front (Resolving.to_settle o found) rest

  abbrev new : List Resolving
  new = placed front Resolving.idle rest

  lawful : Lawful w.machine past
  lawful = legal_is_lawful w past x.legal

  known : Known s
  known = know past lawful

  it : HasExchanged s words k o found
  it = x.fits k (Resolving.to_settle o found) (at_place front (Resolving.to_settle o found) rest)

  abbrev g : Granting
  g = it.offers.grant

  number : g.number ≡ o.number
  number = it.offers.is.numbered

  -- another hart's grant has another number
  other_number : (h : ℕ) (p : Offered) → h ≢ k → HasOffer s h p → p.number ≢ o.number
  other_number h p differs y same =
      let one : y.grant ≡ g = one_number s.grants known.tidy y.grant g y.is.there it.offers.is.there (y.is.numbered ∙ same ∙ sym number) in
      differs (sym y.of ∙ ap (λ (q : Granting). q.hart) one ∙ it.offers.of)

  other_winner : (h n : ℕ) (r : Resolving) → h ≢ k → WonOffer s words h r n → n ≢ o.number
  other_winner h n r differs y same = other_number h y.offer differs y.exchanged.offers (y.number ∙ same)

  module _ (standing : Standing) (shut : standing ≢ standings.Open) where
    abbrev after_it : State
    after_it = settle o.number standing s

    offer_settled : (h : ℕ) (p : Offered) → h ≢ k → HasOffer s h p → HasOffer after_it h p
    offer_settled h p differs y = record {
      grant = y.grant;
      is = record { there = stays_open s o.number standing shut y.grant y.is.there (λ e. other_number h p differs y (sym y.is.numbered ∙ e)); numbered = y.is.numbered; open_yet = y.is.open_yet };
      of = y.of;
      offer = record { image = y.offer.image; reloc = y.offer.reloc; found = y.offer.found; at = y.offer.at; is = y.offer.is };
    }

    fits_settled : (h : ℕ) (r : Resolving) → h ≢ k → Fits s words h r → Fits after_it words h r
    fits_settled h Resolving.idle differs y = λ q there open_yet. y q (was_open s o.number standing shut q there open_yet).0 open_yet
    fits_settled h (Resolving.to_exchange p) differs y = offer_settled h p differs y
    fits_settled h (Resolving.to_finish p f) differs y = record { offers = offer_settled h p differs y.offers; holds = y.holds }
    fits_settled h (Resolving.to_settle p f) differs y = record { offers = offer_settled h p differs y.offers; holds = y.holds }

    idle_now : HasNoGrant after_it k
    idle_now q there open_yet hart =
        let was = was_open s o.number standing shut q there open_yet in
        was.1 (known.tidy.one_open q g was.0 it.offers.is.there open_yet it.offers.is.open_yet (hart ∙ sym it.offers.of) ∙ number)

    fits_by : (h : ℕ) (r : Resolving) → ((h ≡ k) × (r ≡ Resolving.idle)) ⊎ ((h ≢ k) × (slice_get old h ≡ Some r)) → Fits after_it words h r
    fits_by h r (inl here) = subst (λ (q : Resolving). Fits after_it words h q) (sym here.1) (subst (λ (n : ℕ). HasNoGrant after_it n) (sym here.0) idle_now)
    fits_by h r (inr other) = fits_settled h r other.0 (x.fits h r other.1)

    settled_sound : (e : Event) → step s e ≡ after_it → Remade s e (memory_of words) (memory_of words) → Allowed w past e → SettlesRightly (won_all old) e
        → ((n : ℕ) → Contains (won_after e (won_all old)) n → Contains (won_all new) n) → ((n : ℕ) → Contains (won_all new) n → Contains (won_after e (won_all old)) n)
        → Sounds w (past ++ e ∷ []) new words
    settled_sound e is remade may rightly to from = record {
      legal = legal_push w past e x.legal may;
      holds = holds_alike (after (past ++ e ∷ [])) (won_after e (won_all old)) (won_all new) (memory_of words) to from
          (keep w.machine w past e (won_all old) (memory_of words) (memory_of words) refl only lawful may rightly x.holds remade);
      fits = λ h r at. subst (λ (t : State). Fits t words h r) (sym (after_push past e ∙ is)) (fits_by h r (elsewhere front (Resolving.to_settle o found) Resolving.idle rest h r at));
    }

  same_memory : IsSame (memory_of words) (memory_of words)
  same_memory = record { value = λ a is. refl; role = λ a is. refl }

  -- a number that has won is another hart's, or this one's
  winners_by : (n : ℕ) → Contains (won_all old) n → Contains (won_by (Resolving.to_settle o found)) n ⊎ (Contains (won_all new) n × (n ≢ o.number))
  winners_by n there =
      let y = winner_of old n there in
      ⊎_elim
      (λ (here : (y.hart ≡ k) × (y.place ≡ Resolving.to_settle o found)). inl (subst (λ (r : Resolving). Contains (won_by r) n) here.1 y.won))
      (λ (other : (y.hart ≢ k) × (slice_get new y.hart ≡ Some y.place)). inr (is_winner new y.hart y.place n other.1 y.won, other_winner y.hart n y.place other.0 (won_offer s words y.hart y.place n (x.fits y.hart y.place y.at) y.won)))
      (elsewhere front Resolving.idle (Resolving.to_settle o found) rest y.hart y.place y.at)

  still_by : (n : ℕ) → Contains (won_all new) n → Contains (won_all old) n × (n ≢ o.number)
  still_by n there =
      let y = winner_of new n there in
      ⊎_elim
      (λ (here : (y.hart ≡ k) × (y.place ≡ Resolving.idle)). absurd (none_in n (subst (λ (r : Resolving). Contains (won_by r) n) here.1 y.won)))
      (λ (other : (y.hart ≢ k) × (slice_get old y.hart ≡ Some y.place)). (is_winner old y.hart y.place n other.1 y.won, other_winner y.hart n y.place other.0 (won_offer s words y.hart y.place n (x.fits y.hart y.place other.1) y.won)))
      (elsewhere front (Resolving.to_settle o found) Resolving.idle rest y.hart y.place y.at)

  differs_by : (n : ℕ) → n ≢ o.number → not (eqb n o.number) ≡ true
  differs_by n differs = by (eqb n o.number) refl
    where
      by : (t : Bool) → eqb n o.number ≡ t → not (eqb n o.number) ≡ true
      by true e = absurd (differs (eqb-true n o.number e))
      by false e = ap not e

  same_by : (n : ℕ) → not (eqb n o.number) ≡ true → n ≢ o.number
  same_by n e same = true≢false (sym e ∙ ap not (eq-eqb n o.number same))

  bound_sound : MayBeBound w.machine → has_won o found ≡ true → Sounds w (past ++ events.Bound o.number ∷ []) new words
  bound_sound may_bind won =
      let mine : Contains (won_by (Resolving.to_settle o found)) o.number = subst (λ (t : Bool). Contains (cond t (o.number ∷ []) []) o.number) (sym won) (here o.number []) in
      let there : Contains (won_all old) o.number = is_winner old k (Resolving.to_settle o found) o.number (at_place front (Resolving.to_settle o found) rest) mine in
      settled_sound standings.Bound (λ e. let no : standings.Bound ≡ standings.Open = e in cc) (events.Bound o.number) refl
      (quiet s (events.Bound o.number) (memory_of words) (memory_of words) refl refl same_memory)
      (subst (λ (n : ℕ). MayBind s n) number (may_bind past (won_all old) g (memory_of words) lawful it.offers.is.there it.offers.is.open_yet x.holds (subst (Contains (won_all old)) (sym number) there)))
      there
      (λ n inside. let both = from_filter (λ m. not (eqb m o.number)) (won_all old) n inside in ⊎_elim
      (λ (own : Contains (won_by (Resolving.to_settle o found)) n). absurd (same_by n both.1 (sym (only_in o.number n (subst (λ (t : Bool). Contains (cond t (o.number ∷ []) []) n) won own)))))
      (λ (other : Contains (won_all new) n × (n ≢ o.number)). other.0)
      (winners_by n both.0))
      (λ n inside. let both = still_by n inside in in_filter (λ m. not (eqb m o.number)) (won_all old) n both.0 (differs_by n both.1))

  lost_sound : MayBeLost w.machine → has_won o found ≡ false → Sounds w (past ++ events.Lost o.number found ∷ []) new words
  lost_sound may_lose lost =
      let st = stands s known g o it.offers.offer in
      let none : (n : ℕ) → Contains (won_by (Resolving.to_settle o found)) n → ⊥ = λ n own. none_in n (subst (λ (t : Bool). Contains (cond t (o.number ∷ []) []) n) lost own) in
      let not_won : ¬ (Contains (won_all old) o.number) = λ inside. ⊎_elim (none o.number) (λ (other : Contains (won_all new) o.number × (o.number ≢ o.number)). other.1 refl) (winners_by o.number inside) in
      let word : (memory_of words).value o.slot ≡ found = it.holds ∙ ap (λ (t : Bool). cond t o.value found) lost in
      let lazy : (memory_of words).value o.slot ≢ lazy_at s o.slot = λ e. true≢false (sym (eq-eqb found o.lazy (sym word ∙ e ∙ st.lazy)) ∙ lost) in
      settled_sound (standings.Lost found) (λ e. let no : standings.Lost found ≡ standings.Open = e in cc) (events.Lost o.number found) refl
      (quiet s (events.Lost o.number found) (memory_of words) (memory_of words) refl refl same_memory)
      (subst (λ (n : ℕ). MayLose s n found) number (subst (MayLose s g.number) word
      (may_lose past (won_all old) o.slot g (memory_of words) lawful (record { place = st.place; there = it.offers.is.there; open_yet = it.offers.is.open_yet; of = st.at }) x.holds
      (λ inside. not_won (subst (Contains (won_all old)) number inside)) lazy)))
      not_won
      (λ n inside. ⊎_elim (λ (own : Contains (won_by (Resolving.to_settle o found)) n). absurd (none n own)) (λ (other : Contains (won_all new) n × (n ≢ o.number)). other.0) (winners_by n inside))
      (λ n inside. (still_by n inside).0)

  one_settled : MayBeBound w.machine → MayBeLost w.machine → (t : Bool) → has_won o found ≡ t → Sounds w (past ++ settling_event o found ∷ []) new words
  one_settled may_bind may_lose true e = subst (λ (d : Event). Sounds w (past ++ d ∷ []) new words) (sym (ap (λ (t : Bool). cond t (events.Bound o.number) (events.Lost o.number found)) e)) (bound_sound may_bind e)
  one_settled may_bind may_lose false e = subst (λ (d : Event). Sounds w (past ++ d ∷ []) new words) (sym (ap (λ (t : Bool). cond t (events.Bound o.number) (events.Lost o.number found)) e)) (lost_sound may_lose e)

-- ---- all harts

-- nothing is to be settled of a hart, and it stays where it is
along : (w : Setting) (past : List Event) (front rest : List Resolving) (words : List Doubleword)
    → ((f : List Resolving) → Sounds w past (f ++ rest) words → Sounds w (past ++ flat_map settled_by rest) (f ++ map settled_resolving rest) words)
    → (q : Resolving) → Sounds w past (front ++ q ∷ rest) words → Sounds w (past ++ flat_map settled_by rest) (front ++ q ∷ map settled_resolving rest) words
along w past front rest words go q y = subst (λ (rs : List Resolving). Sounds w (past ++ flat_map settled_by rest) rs words) (append_assoc front (q ∷ []) (map settled_resolving rest))
    (go (front ++ q ∷ []) (subst (λ (rs : List Resolving). Sounds w past rs words) (sym (append_assoc front (q ∷ []) rest)) y))

pub settled_all : (w : Setting) → AcceptsOnly w.machine → Know w.machine → EventsKeep → MayBeBound w.machine → MayBeLost w.machine → (past : List Event) (front rest : List Resolving) (words : List Doubleword)
    → Sounds w past (front ++ rest) words → Sounds w (past ++ flat_map settled_by rest) (front ++ map settled_resolving rest) words
settled_all w only know keep may_bind may_lose past front [] words x = subst (λ (es : List Event). Sounds w es (front ++ []) words) (sym (append-nil past)) x
settled_all w only know keep may_bind may_lose past front (r ∷ rest) words x =
    by (λ p f y. settled_all w only know keep may_bind may_lose p f rest words y) r x
  where
    by : ((p : List Event) (f : List Resolving) → Sounds w p (f ++ rest) words → Sounds w (p ++ flat_map settled_by rest) (f ++ map settled_resolving rest) words) → (q : Resolving) → Sounds w past (front ++ q ∷ rest) words
        → Sounds w (past ++ (settled_by q ++ flat_map settled_by rest)) (front ++ settled_resolving q ∷ map settled_resolving rest) words
    by go Resolving.idle y = along w past front rest words (go past) Resolving.idle y
    by go (Resolving.to_exchange o) y = along w past front rest words (go past) (Resolving.to_exchange o) y
    by go (Resolving.to_finish o found) y = along w past front rest words (go past) (Resolving.to_finish o found) y
    by go (Resolving.to_settle o found) y =
        let e : Event = settling_event o found in
        let one : Sounds w (past ++ e ∷ []) (placed front Resolving.idle rest) words = one_settled w only know keep past front rest o found words y may_bind may_lose (has_won o found) refl in
        let all : Sounds w ((past ++ e ∷ []) ++ flat_map settled_by rest) ((front ++ Resolving.idle ∷ []) ++ map settled_resolving rest) words =
        go (past ++ e ∷ []) (front ++ Resolving.idle ∷ [])
        (subst (λ (rs : List Resolving). Sounds w (past ++ e ∷ []) rs words) (sym (append_assoc front (Resolving.idle ∷ []) rest)) one) in
        subst (λ (es : List Event). Sounds w es (front ++ Resolving.idle ∷ map settled_resolving rest) words) (append_assoc past (e ∷ []) (flat_map settled_by rest))
        (subst (λ (rs : List Resolving). Sounds w ((past ++ e ∷ []) ++ flat_map settled_by rest) rs words) (append_assoc front (Resolving.idle ∷ []) (map settled_resolving rest)) all)
