-- Every turn leaves a run sound.
use Rattle.std.proofs.Common.{◌≡◌, ◌≢◌, ◌⊎◌, inl, inr, ⊎_elim, ℕ, zero, suc, Bool, true, false, cond, List, [], ◌∷◌, ◌++◌, length, map, flat_map, Option, Some, None, refl, sym, ap, subst, ◌∙◌, append-nil}
use Rattle.std.specs.Prelude.{slice_set}
use Rattle.std.specs.List.{Contains, slice_get}
use Rattle.std.specs.Option.{option_map}
use Rattle.std.proofs.lemmas.List.{length-set}
use Rattle.std.proofs.lemmas.Option.{none-some, slice_get-map}
use Rattle.std.proofs.lemmas.List.Elements.{Contains-append_right}
use Rattle.ld_base.specs.declared.linking.Role.TheVariants.{Rw, Slot}
use Rattle.ld_base.specs.declared.fault.Shown.{Shown}
use Rattle.history_event.specs.declared.event.Event.{Event}
use Rattle.history_event.specs.declared.event.Event.TheVariants as events
use Rattle.history_event.specs.declared.hart_end.HartEnd.{HartEnd}
use Rattle.history_event.specs.declared.hart_end.HartEnd.TheVariants as ends
use Rattle.history_event.specs.declared.state.Granting.{Granting}
use Rattle.history_event.specs.declared.state.Standing.TheVariants as standings
use Rattle.rv_hart.specs.declared.doubleword.Doubleword.{Doubleword}
use Rattle.rv_hart.specs.declared.bus.Item.{Item}
use Rattle.history_state.specs.Accepted.{AcceptsOnly}
use Rattle.history_state.specs.After.{after}
use Rattle.history_state.specs.Allowed.{Allowed}
use Rattle.history_state.specs.Memory.{image_of}
use Rattle.history_state.specs.Setting.{Machine, Setting}
use Rattle.history_state.specs.State.{State}
use Rattle.history_state.specs.Lemmas.History.{after_push, legal_is_lawful, legal_push, one_behind}
use Rattle.history_state.specs.Lemmas.Lists.{here, later, none_in}
use Rattle.history_calls.specs.Laws.{hart_of}
use Rattle.history_memory.specs.Holds.{Holds}
use Rattle.hart_moves.specs.Harts.{HartState, Offered, Phase, Purpose, Resolving}
use Rattle.hart_moves.specs.Moves.{AreAllowed, Did, IsOffer, ended, events_of, freed, settled_resolving, settles}
use Rattle.hart_moves.specs.Starting.{finalising_hart}
use Rattle.hart_moves.specs.Lemmas.Legality.{turns_allowed, turns_own}
use Rattle.world_turns.specs.Laws.{FinalsBeginSound, FinalsLackSound, SettlingIsSound, TurnsAreSound}
use Rattle.world_turns.specs.Run.{settled}
use Rattle.world_turns.specs.Memory.{Does, Remakes, RemakesAll, doubleword, exchanged, memory_of, word_count}
use Rattle.world_turns.specs.Sound.{Fits, HasOffer, Sound}
use Rattle.world_turns.specs.Turn.{Turn}
use Rattle.world_turns.specs.World.{World, found_harts, found_journal, settled_by, settling, won_by, winners}
use Rattle.world_turns.specs.Lemmas.Events.{EventsKeep, remade, remakes_length, same_won, settles_rightly}
use Rattle.world_turns.specs.Lemmas.Exchanging.{ExchangesKeep, exchanged_length, exchanged_sound, finished, same_winners}
use Rattle.world_turns.specs.Lemmas.Offers.{Changes, Know, granted_to, stands}
use Rattle.world_turns.specs.Lemmas.Places.{Sounds, Spares, elsewhere, fits_stay, holds_alike, placed, won_all}
use Rattle.world_turns.specs.Lemmas.Resolution.{GrantNothing, Resolution, resolution, rests_after}
use Rattle.world_turns.specs.Lemmas.Starting.{runs_idle}
use Rattle.world_turns.specs.Lemmas.Settling.{MayBeBound, MayBeLost, settled_all}
use Rattle.world_turns.specs.Lemmas.Words.{Keeps, keeps_chain}

-- ---- harts and their places

abbrev resolvings : List HartState → List Resolving
resolvings harts = map (λ b. b.resolving) harts

winners_are : (harts : List HartState) → winners harts ≡ won_all (resolvings harts)
winners_are [] = refl
winners_are (b ∷ rest) = ap (λ (ns : List ℕ). won_by b.resolving ++ ns) (winners_are rest)

settling_is : (harts : List HartState) → settling harts ≡ flat_map settled_by (resolvings harts)
settling_is [] = refl
settling_is (b ∷ rest) = ap (λ (es : List Event). settled_by b.resolving ++ es) (settling_is rest)

freed_are : (harts : List HartState) → resolvings (map freed harts) ≡ map settled_resolving (resolvings harts)
freed_are [] = refl
freed_are (b ∷ rest) = ap (λ (rs : List Resolving). settled_resolving b.resolving ∷ rs) (freed_are rest)

pub freed_length : (harts : List HartState) → length (map freed harts) ≡ length harts
freed_length [] = refl
freed_length (b ∷ rest) = ap suc (freed_length rest)

place_at : (harts : List HartState) (h : ℕ) (b : HartState) → slice_get harts h ≡ Some b → slice_get (resolvings harts) h ≡ Some b.resolving
place_at [] h b at = absurd (none-some b at)
place_at (c ∷ rest) zero b at = let same : c ≡ b = cc in ap (λ (x : HartState). Some x.resolving) same
place_at (c ∷ rest) (suc h) b at = place_at rest h b at

hart_at : (harts : List HartState) (h : ℕ) (r : Resolving) → slice_get (resolvings harts) h ≡ Some r → (b : HartState) × (slice_get harts h ≡ Some b) × (b.resolving ≡ r)
hart_at [] h r at = absurd (none-some r at)
hart_at (c ∷ rest) zero r at = (c, refl, (let same : c.resolving ≡ r = cc in same))
hart_at (c ∷ rest) (suc h) r at = hart_at rest h r at

set_place : (harts : List HartState) (h : ℕ) (b : HartState) → resolvings (slice_set harts h b) ≡ slice_set (resolvings harts) h b.resolving
set_place [] h b = refl
set_place (c ∷ rest) zero b = refl
set_place (c ∷ rest) (suc h) b = ap (λ (rs : List Resolving). c.resolving ∷ rs) (set_place rest h b)

-- the harts but for one
set_at : (harts : List HartState) (h j : ℕ) (c b : HartState) → slice_get (slice_set harts h c) j ≡ Some b → (b ≡ c) ⊎ (slice_get harts j ≡ Some b)
set_at [] h j c b at = inr at
set_at (x ∷ rest) zero zero c b at = inl (let same : b ≡ c = cc in same)
set_at (x ∷ rest) zero (suc j) c b at = inr at
set_at (x ∷ rest) (suc h) zero c b at = inr at
set_at (x ∷ rest) (suc h) (suc j) c b at = set_at rest h j c b at

pub freed_at : (harts : List HartState) (j : ℕ) (b : HartState) → slice_get (map freed harts) j ≡ Some b → (x : HartState) × (slice_get harts j ≡ Some x) × (freed x ≡ b)
freed_at [] j b at = absurd (none-some b at)
freed_at (x ∷ rest) zero b at = (x, refl, (let same : freed x ≡ b = cc in same))
freed_at (x ∷ rest) (suc j) b at = freed_at rest j b at

-- harts that have ended are at no slot
abbrev AllRest : List HartState → Type 0
AllRest harts = (j : ℕ) (b : HartState) (reason : HartEnd) → slice_get harts j ≡ Some b → b.«end» ≡ Some reason → settled_resolving b.resolving ≡ Resolving.idle

freed_rest : (harts : List HartState) → AllRest harts → AllRest (map freed harts)
freed_rest harts rests j b reason at over =
    let x = freed_at harts j b at in
    ap (λ (y : HartState). settled_resolving y.resolving) (sym x.2) ∙ ap settled_resolving (rests j x.0 reason x.1 (ap (λ (y : HartState). y.«end») x.2 ∙ over))

-- a list around one of its places
record Around (rs : List Resolving) (h : ℕ) (p : Resolving) : Type 0 where
  pub front : List Resolving
  pub rest : List Resolving
  pub is : rs ≡ placed front p rest
  pub at : length front ≡ h

around : (rs : List Resolving) (h : ℕ) (p : Resolving) → slice_get rs h ≡ Some p → Around rs h p
around [] h p at = absurd (none-some p at)
around (r ∷ rest) zero p at = record { front = []; rest = rest; is = ap (λ (q : Resolving). q ∷ rest) (let same : r ≡ p = cc in same); at = refl }
around (r ∷ rest) (suc h) p at = let x = around rest h p at in record { front = r ∷ x.front; rest = x.rest; is = ap (λ (qs : List Resolving). r ∷ qs) x.is; at = ap suc x.at }

set_placed : (front : List Resolving) (p q : Resolving) (rest : List Resolving) → slice_set (placed front p rest) (length front) q ≡ placed front q rest
set_placed [] p q rest = refl
set_placed (r ∷ front) p q rest = ap (λ (qs : List Resolving). r ∷ qs) (set_placed front p q rest)

to_sounds : (w : Setting) (world : World) → Sound w world → Sounds w world.journal (resolvings world.harts) world.words
to_sounds w world x = record {
  legal = x.legal;
  holds = subst (λ (ns : List ℕ). Holds (after world.journal) ns (memory_of world.words)) (winners_are world.harts) x.holds;
  fits = λ h r at. let b = hart_at world.harts h r at in subst (λ (q : Resolving). Fits (after world.journal) world.words h q) b.2 (x.fits h b.0 b.1);
}

-- ---- calls of the bus, and events

quiet_fits : (s : State) (h : ℕ) (r : Resolving) (old new : List Doubleword) → ((o : Offered) → HasOffer s h o → (doubleword new o.slot).value ≡ (doubleword old o.slot).value) → Fits s old h r → Fits s new h r
quiet_fits s h Resolving.idle old new same x = x
quiet_fits s h (Resolving.to_exchange o) old new same x = x
quiet_fits s h (Resolving.to_finish o found) old new same x = record { offers = x.offers; holds = same o x.offers ∙ x.holds }
quiet_fits s h (Resolving.to_settle o found) old new same x = record { offers = x.offers; holds = same o x.offers ∙ x.holds }

quiet_sounds : (w : Setting) → Know w.machine → (past : List Event) (rs : List Resolving) (old new : List Doubleword) → Keeps (after past) (won_all rs) old new → Sounds w past rs old → Sounds w past rs new
quiet_sounds w know past rs old new keeps x = record {
  legal = x.legal;
  holds = keeps.holds x.holds;
  fits = λ h r at. quiet_fits (after past) h r old new (same h) (x.fits h r at);
}
  where
    same : (h : ℕ) (o : Offered) → HasOffer (after past) h o → (doubleword new o.slot).value ≡ (doubleword old o.slot).value
    same h o y =
        let st = stands (after past) (know past (legal_is_lawful w past x.legal)) y.grant o y.offer in
        let role : (doubleword old o.slot).role ≡ Slot = (x.holds.words o.slot st.place).role ∙ st.role in
        ap (λ (d : Doubleword). d.value) (keeps.leaves.fixed o.slot st.place (λ rw. let no : Slot ≡ Rw = sym role ∙ rw in cc))

module _ (w : Setting) (only : AcceptsOnly w.machine) (know : Know w.machine) (changes : Changes w.machine) (keep : EventsKeep) where
  event_holds : (past : List Event) (rs : List Resolving) (old new : List Doubleword) (e : Event) (h : ℕ) → hart_of e ≡ Some h → Allowed w past e → Remakes (after past) e old new → Sounds w past rs old
      → Holds (after (past ++ e ∷ [])) (won_all rs) (memory_of new)
  event_holds past rs old new e h of may remakes x =
      subst (λ (ns : List ℕ). Holds (after (past ++ e ∷ [])) ns (memory_of new)) (same_won h (won_all rs) e of)
      (keep w.machine w past e (won_all rs) (memory_of old) (memory_of new) refl only (legal_is_lawful w past x.legal) may (settles_rightly h (won_all rs) e of) x.holds (remade (after past) e old new remakes))

  event_sounds : (past : List Event) (rs : List Resolving) (old new : List Doubleword) (e : Event) (h : ℕ) → hart_of e ≡ Some h → Allowed w past e → Remakes (after past) e old new
      → ((j : ℕ) (r : Resolving) → Spares e j r) → Sounds w past rs old → Sounds w (past ++ e ∷ []) rs new
  event_sounds past rs old new e h of may remakes spares x = record {
    legal = legal_push w past e x.legal may;
    holds = event_holds past rs old new e h of may remakes x;
    fits = λ j r at. fits_stay w.machine know changes w refl past e h of (legal_is_lawful w past x.legal) may j r old new remakes (spares j r) (x.fits j r at);
  }

  spared : (e : Event) → granted_to e ≡ None → (j : ℕ) (r : Resolving) → Spares e j r
  spared e none j Resolving.idle = λ same. none-some j (sym none ∙ same)
  spared e none j (Resolving.to_exchange o) = tt
  spared e none j (Resolving.to_finish o found) = tt
  spared e none j (Resolving.to_settle o found) = tt

  events_sounds : (past : List Event) (rs : List Resolving) (added : List Event) (h : ℕ) (old new : List Doubleword) → ((e : Event) → Contains added e → hart_of e ≡ Some h) → AreAllowed w past added → GrantNothing added → RemakesAll (after past) added old new
      → Sounds w past rs old → Sounds w (past ++ added) rs new
  events_sounds past rs [] h old new of may none is x = subst (λ (ws : List Doubleword). Sounds w (past ++ []) rs ws) (sym is) (subst (λ (es : List Event). Sounds w es rs old) (sym (append-nil past)) x)
  events_sounds past rs (e ∷ rest) h old new of may none (between, one, more) x =
      subst (λ (es : List Event). Sounds w es rs new) (one_behind past e rest)
      (events_sounds (past ++ e ∷ []) rs rest h between new (λ d there. of d (later e rest d there)) may.1 (λ d there. none d (later e rest d there))
      (subst (λ (s : State). RemakesAll s rest between new) (sym (after_push past e)) more)
      (event_sounds past rs old between e h (of e (here e rest)) may.0 one (spared e (none e (here e rest))) x))

  -- a grant
  grant_sounds : (past : List Event) (front rest : List Resolving) (old new : List Doubleword) (g : Granting) (o : Offered) → g.hart ≡ length front → g.standing ≡ standings.Open → IsOffer (after past) g o
      → Allowed w past (events.Grant g.number g.hart g.owner g.slot g.choice g.value) → Remakes (after past) (events.Grant g.number g.hart g.owner g.slot g.choice g.value) old new
      → Sounds w past (placed front Resolving.idle rest) old → Sounds w (past ++ events.Grant g.number g.hart g.owner g.slot g.choice g.value ∷ []) (placed front (Resolving.to_exchange o) rest) new
  grant_sounds past front rest old new g o hart open_yet offer may remakes x = record {
    legal = legal_push w past e x.legal may;
    holds = holds_alike (after (past ++ e ∷ [])) (won_all (placed front Resolving.idle rest)) (won_all (placed front (Resolving.to_exchange o) rest)) (memory_of new)
        (same_winners front rest Resolving.idle (Resolving.to_exchange o) refl) (same_winners front rest (Resolving.to_exchange o) Resolving.idle refl)
        (event_holds past (placed front Resolving.idle rest) old new e g.hart refl may remakes x);
    fits = λ j r at. ⊎_elim
        (λ (one : (j ≡ length front) × (r ≡ Resolving.to_exchange o)). subst (λ (q : Resolving). Fits (after (past ++ e ∷ [])) new j q) (sym one.1) (subst (λ (n : ℕ). HasOffer (after (past ++ e ∷ [])) n o) (hart ∙ sym one.0) own))
        (λ (other : (j ≢ length front) × (slice_get (placed front Resolving.idle rest) j ≡ Some r)).
        fits_stay w.machine know changes w refl past e g.hart refl (legal_is_lawful w past x.legal) may j r old new remakes (others j r (λ same. other.0 (sym same ∙ hart))) (x.fits j r other.1))
        (elsewhere front Resolving.idle (Resolving.to_exchange o) rest j r at);
  }
    where
      e : Event
      e = events.Grant g.number g.hart g.owner g.slot g.choice g.value

      others : (j : ℕ) (r : Resolving) → g.hart ≢ j → Spares e j r
      others j Resolving.idle differs = λ same. differs (let q : g.hart ≡ j = cc in q)
      others j (Resolving.to_exchange p) differs = tt
      others j (Resolving.to_finish p found) differs = tt
      others j (Resolving.to_settle p found) differs = tt

      made : Granting
      made = record { number = g.number; hart = g.hart; owner = g.owner; slot = g.slot; choice = g.choice; value = g.value; standing = standings.Open }

      own : HasOffer (after (past ++ e ∷ [])) g.hart o
      own = record {
        grant = made;
        is = record {
          there = subst (λ (s : State). Contains s.grants made) (sym (after_push past e)) (Contains-append_right (after past).grants (made ∷ []) made (here made []));
          numbered = sym (ap (λ (p : Offered). p.number) offer.is);
          open_yet = refl;
        };
        of = refl;
        offer = record { image = offer.image; reloc = offer.reloc; found = ap (λ (s : State). image_of s g.owner) (after_push past e) ∙ offer.found; at = offer.at; is = offer.is };
      }

-- ---- a turn

-- the laws of the linker's state and of memory that a turn needs
pub record Needs (m : Machine) : Type 0 where
  pub know : Know m
  pub changes : Changes m
  pub keep : EventsKeep
  pub exchanges : ExchangesKeep m
  pub bound : MayBeBound m
  pub lost : MayBeLost m

found_hart : (harts : List HartState) (h : ℕ) (b : HartState) (t : Bool) → slice_get harts h ≡ Some b → slice_get (resolvings (cond t (map freed harts) harts)) h ≡ Some (cond t (settled_resolving b.resolving) b.resolving)
found_hart harts h b true at = ap (λ (rs : List Resolving). slice_get rs h) (freed_are harts) ∙ mapped (resolvings harts) h b.resolving (place_at harts h b at)
  where
    mapped : (rs : List Resolving) (n : ℕ) (r : Resolving) → slice_get rs n ≡ Some r → slice_get (map settled_resolving rs) n ≡ Some (settled_resolving r)
    mapped rs n r is = slice_get-map settled_resolving rs n ∙ ap (λ (x : Option Resolving). option_map settled_resolving x) is
found_hart harts h b false at = place_at harts h b at

module _ (w : Setting) (only : AcceptsOnly w.machine) (needs : Needs w.machine) (h : ℕ) (old new : World) (sound : Sound w old) (turn : Turn w h old new) where
  abbrev past : List Event
  past = found_journal old turn.did

  abbrev harts : List HartState
  harts = found_harts old turn.did

  abbrev p_of : Bool → Resolving
  p_of t = cond t (settled_resolving turn.before.resolving) turn.before.resolving

  found_by : (t : Bool) → Sounds w (old.journal ++ cond t (settling old.harts) []) (resolvings (cond t (map freed old.harts) old.harts)) old.words
  found_by true =
      subst (λ (es : List Event). Sounds w (old.journal ++ es) (resolvings (map freed old.harts)) old.words) (sym (settling_is old.harts))
      (subst (λ (rs : List Resolving). Sounds w (old.journal ++ flat_map settled_by (resolvings old.harts)) rs old.words) (sym (freed_are old.harts))
      (settled_all w only needs.know needs.keep needs.bound needs.lost old.journal [] (resolvings old.harts) old.words (to_sounds w old sound)))
  found_by false = subst (λ (es : List Event). Sounds w es (resolvings old.harts) old.words) (sym (append-nil old.journal)) (to_sounds w old sound)

  here_is : Around (resolvings harts) h (p_of (settles turn.did))
  here_is = around (resolvings harts) h (p_of (settles turn.did)) (found_hart old.harts h turn.before (settles turn.did) turn.there)

  abbrev front : List Resolving
  front = here_is.front

  abbrev rest : List Resolving
  rest = here_is.rest

  base : Sounds w past (placed front (p_of (settles turn.did)) rest) old.words
  base = subst (λ (rs : List Resolving). Sounds w past rs old.words) here_is.is (found_by (settles turn.did))

  base_by : (d : Did) (r : Resolving) → turn.did ≡ d → p_of (settles d) ≡ r → Sounds w past (placed front r rest) old.words
  base_by d r is same = subst (λ (q : Resolving). Sounds w past (placed front q rest) old.words) (ap (λ (e : Did). p_of (settles e)) is ∙ same) base

  does_by : (d : Did) → turn.did ≡ d → Does past old.words d new.words
  does_by d is = subst (λ (e : Did). Does past old.words e new.words) is turn.does

  allowed_by : (d : Did) → turn.did ≡ d → AreAllowed w past (events_of d)
  allowed_by d is = subst (λ (e : Did). AreAllowed w past (events_of e)) is (turns_allowed w past h turn.before turn.left turn.did turn.moves)

  own_by : (d : Did) → turn.did ≡ d → (e : Event) → Contains (events_of d) e → hart_of e ≡ Some h
  own_by d is = subst (λ (q : Did). (e : Event) → Contains (events_of q) e → hart_of e ≡ Some h) is (turns_own w past h turn.before turn.left turn.did turn.moves)

  -- what the turn leaves
  record Left : Type 0 where
    pub sounds : Sounds w (past ++ events_of turn.did) (placed front turn.left.resolving rest) new.words
    pub words : length new.words ≡ length old.words

  left_by : (d : Did) (r : Resolving) → turn.did ≡ d → turn.left.resolving ≡ r → Sounds w (past ++ events_of d) (placed front r rest) new.words → length new.words ≡ length old.words → Left
  left_by d r is same x words = record {
    sounds = subst (λ (e : Did). Sounds w (past ++ events_of e) (placed front turn.left.resolving rest) new.words) (sym is) (subst (λ (q : Resolving). Sounds w (past ++ events_of d) (placed front q rest) new.words) (sym same) x);
    words = words;
  }

  no_event : (r : Resolving) (words : List Doubleword) → Sounds w past (placed front r rest) words → Sounds w (past ++ []) (placed front r rest) words
  no_event r words x = subst (λ (es : List Event). Sounds w es (placed front r rest) words) (sym (append-nil past)) x

  quiet_left : (items : List Item) → turn.did ≡ Did.quiet items → turn.left.resolving ≡ turn.before.resolving → Left
  quiet_left items is same =
      let x = base_by (Did.quiet items) turn.before.resolving is refl in
      let keeps = keeps_chain (after past) (won_all (placed front turn.before.resolving rest)) items old.words new.words (does_by (Did.quiet items) is) in
      left_by (Did.quiet items) turn.before.resolving is same
      (no_event turn.before.resolving new.words (quiet_sounds w needs.know past (placed front turn.before.resolving rest) old.words new.words keeps x)) keeps.leaves.all

  serving_left : (items : List Item) (added : List Event) → turn.did ≡ Did.serves items added → turn.left.resolving ≡ settled_resolving turn.before.resolving → GrantNothing added → Left
  serving_left items added is same none =
      let r : Resolving = settled_resolving turn.before.resolving in
      let x = base_by (Did.serves items added) r is refl in
      let does = does_by (Did.serves items added) is in
      let keeps = keeps_chain (after past) (won_all (placed front r rest)) items old.words does.0 does.1 in
      left_by (Did.serves items added) r is same
      (events_sounds w only needs.know needs.changes needs.keep past (placed front r rest) added h does.0 new.words (own_by (Did.serves items added) is) (allowed_by (Did.serves items added) is) none does.2
      (quiet_sounds w needs.know past (placed front r rest) old.words does.0 keeps x))
      (remakes_length (after past) added does.0 new.words does.2 ∙ keeps.leaves.all)

  abbrev grant_event : Granting → Event
  grant_event g = events.Grant g.number h g.owner g.slot g.choice g.value

  granting_left : (g : Granting) (o : Offered) → turn.did ≡ Did.serves [] (grant_event g ∷ []) → g.hart ≡ h → g.standing ≡ standings.Open → turn.left.resolving ≡ Resolving.to_exchange o → IsOffer (after past) g o
      → settled_resolving turn.before.resolving ≡ Resolving.idle → Left
  granting_left g o is hart open_yet same offer idle =
      let x = base_by (Did.serves [] (grant_event g ∷ [])) Resolving.idle is idle in
      let does = does_by (Did.serves [] (grant_event g ∷ [])) is in
      let event : events.Grant g.number g.hart g.owner g.slot g.choice g.value ≡ grant_event g = ap (λ (n : ℕ). events.Grant g.number n g.owner g.slot g.choice g.value) hart in
      let remakes : Remakes (after past) (grant_event g) old.words new.words =
      subst (λ (ws : List Doubleword). Remakes (after past) (grant_event g) ws new.words) (sym does.1)
      (subst (λ (ws : List Doubleword). Remakes (after past) (grant_event g) does.0 ws) (sym does.2.2) does.2.1) in
      let made : Sounds w (past ++ events.Grant g.number g.hart g.owner g.slot g.choice g.value ∷ []) (placed front (Resolving.to_exchange o) rest) new.words =
      grant_sounds w only needs.know needs.changes needs.keep past front rest old.words new.words g o (hart ∙ sym here_is.at) open_yet offer
      (subst (λ (e : Event). Allowed w past e) (sym event) (allowed_by (Did.serves [] (grant_event g ∷ [])) is).0)
      (subst (λ (e : Event). Remakes (after past) e old.words new.words) (sym event) remakes) x in
      left_by (Did.serves [] (grant_event g ∷ [])) (Resolving.to_exchange o) is same
      (subst (λ (e : Event). Sounds w (past ++ e ∷ []) (placed front (Resolving.to_exchange o) rest) new.words) event made) remakes.all

  waiting_left : (for : Shown) → turn.did ≡ Did.waits for → turn.left.resolving ≡ settled_resolving turn.before.resolving → Left
  waiting_left for is same =
      let r : Resolving = settled_resolving turn.before.resolving in
      let words : new.words ≡ old.words = does_by (Did.waits for) is in
      left_by (Did.waits for) r is same
      (no_event r new.words (subst (λ (ws : List Doubleword). Sounds w past (placed front r rest) ws) (sym words) (base_by (Did.waits for) r is refl))) (ap (λ (ws : List Doubleword). length ws) words)

  exchanging_left : (o : Offered) (found : ℕ) → turn.did ≡ Did.exchanges o found → turn.before.resolving ≡ Resolving.to_exchange o → turn.left.resolving ≡ Resolving.to_finish o found → Left
  exchanging_left o found is was same =
      let x = base_by (Did.exchanges o found) (Resolving.to_exchange o) is was in
      let does = does_by (Did.exchanges o found) is in
      let made = exchanged_sound w needs.know needs.exchanges past front rest o old.words x in
      left_by (Did.exchanges o found) (Resolving.to_finish o found) is same
      (no_event (Resolving.to_finish o found) new.words
      (subst (λ (ws : List Doubleword). Sounds w past (placed front (Resolving.to_finish o found) rest) ws) (sym does.1)
      (subst (λ (n : ℕ). Sounds w past (placed front (Resolving.to_finish o n) rest) (exchanged o old.words)) (sym does.0) made)))
      (ap (λ (ws : List Doubleword). length ws) does.1 ∙ exchanged_length w needs.know needs.exchanges past front rest o old.words x)

  finishing_left : (o : Offered) (found : ℕ) → turn.did ≡ Did.finishes → turn.before.resolving ≡ Resolving.to_finish o found → turn.left.resolving ≡ Resolving.to_settle o found → Left
  finishing_left o found is was same =
      let words : new.words ≡ old.words = does_by Did.finishes is in
      left_by Did.finishes (Resolving.to_settle o found) is same
      (no_event (Resolving.to_settle o found) new.words (subst (λ (ws : List Doubleword). Sounds w past (placed front (Resolving.to_settle o found) rest) ws) (sym words)
      (finished w past front rest o found old.words (base_by Did.finishes (Resolving.to_finish o found) is was))))
      (ap (λ (ws : List Doubleword). length ws) words)

  left_as : Resolution past h turn.before turn.did turn.left → Left
  left_as (Resolution.quietly items is same) = quiet_left items is same
  left_as (Resolution.serving items added is same none) = serving_left items added is same none
  left_as (Resolution.granting g o is hart open_yet same offer idle runs) = granting_left g o is hart open_yet same offer idle
  left_as (Resolution.waiting for is same) = waiting_left for is same
  left_as (Resolution.exchanging o found is was same) = exchanging_left o found is was same
  left_as (Resolution.finishing o found is was same) = finishing_left o found is was same

  places : resolvings new.harts ≡ placed front turn.left.resolving rest
  places =
      ap resolvings turn.harts ∙ set_place harts h turn.left
      ∙ ap (λ (rs : List Resolving). slice_set rs h turn.left.resolving) here_is.is
      ∙ ap (λ (n : ℕ). slice_set (placed front (p_of (settles turn.did)) rest) n turn.left.resolving) (sym here_is.at)
      ∙ set_placed front (p_of (settles turn.did)) turn.left.resolving rest

  found_length : (t : Bool) → length (cond t (map freed old.harts) old.harts) ≡ length old.harts
  found_length true = freed_length old.harts
  found_length false = refl

  found_rest : (t : Bool) → AllRest (cond t (map freed old.harts) old.harts)
  found_rest true = freed_rest old.harts sound.rests
  found_rest false = sound.rests

  left_rest : AllRest new.harts
  left_rest j b reason at over = ⊎_elim
      (λ (same : b ≡ turn.left). ap (λ (x : HartState). settled_resolving x.resolving) same ∙ rests_after w past h turn.before turn.did turn.left turn.moves reason (ap (λ (x : HartState). x.«end») (sym same) ∙ over))
      (λ (there : slice_get harts j ≡ Some b). found_rest (settles turn.did) j b reason there over)
      (set_at harts h j turn.left b (subst (λ (bs : List HartState). slice_get bs j ≡ Some b) turn.harts at))

  pub turn_leaves : Sound w new
  turn_leaves =
      let it : Left = left_as (resolution w past h turn.before turn.did turn.left turn.moves) in
      let sounds : Sounds w new.journal (resolvings new.harts) new.words =
      subst (λ (rs : List Resolving). Sounds w new.journal rs new.words) (sym places) (subst (λ (es : List Event). Sounds w es (placed front turn.left.resolving rest) new.words) (sym turn.journal) it.sounds) in
      record {
        legal = sounds.legal;
        harts = ap (λ (bs : List HartState). length bs) turn.harts ∙ length-set harts h turn.left ∙ found_length (settles turn.did) ∙ sound.harts;
        words = it.words ∙ sound.words;
        holds = subst (λ (ns : List ℕ). Holds (after new.journal) ns (memory_of new.words)) (sym (winners_are new.harts)) sounds.holds;
        rests = left_rest;
        fits = λ j b at. sounds.fits j b.resolving (place_at new.harts j b at);
      }

pub turns_sound : ((m : Machine) → AcceptsOnly m → Needs m) → TurnsAreSound
turns_sound needs w h old new only sound turn = turn_leaves w only (needs w.machine only) h old new sound turn

-- ---- the final destructors begin, and what is left is settled

places_length : (harts : List HartState) → length (resolvings harts) ≡ length harts
places_length [] = refl
places_length (b ∷ rest) = ap suc (places_length rest)

from_sounds : (w : Setting) (world : World) → length world.harts ≡ w.machine.harts → length world.words ≡ word_count → AllRest world.harts → Sounds w world.journal (resolvings world.harts) world.words → Sound w world
from_sounds w world harts words rests x = record {
  legal = x.legal;
  harts = harts;
  words = words;
  holds = subst (λ (ns : List ℕ). Holds (after world.journal) ns (memory_of world.words)) (sym (winners_are world.harts)) x.holds;
  rests = rests;
  fits = λ j b at. x.fits j b.resolving (place_at world.harts j b at);
}

-- other harts at the same places
same_places : (w : Setting) (world : World) (harts : List HartState) → resolvings harts ≡ resolvings world.harts → AllRest harts → Sound w world → Sound w (record world { harts = harts })
same_places w world harts same rests x =
    from_sounds w (record world { harts = harts }) (sym (places_length harts) ∙ ap (λ (rs : List Resolving). length rs) same ∙ places_length world.harts ∙ x.harts) x.words rests
    (subst (λ (rs : List Resolving). Sounds w world.journal rs world.words) (sym same) (to_sounds w world x))

pub begins_sound : FinalsBeginSound
begins_sound w registers old new x sound =
    subst (λ (world : World). Sound w world) (sym x.begun)
    (same_places w old (finalising_hart registers x.code (record { object = x.object; addresses = x.addresses }) x.first ∷ x.others)
    (ap (λ (r : Resolving). r ∷ resolvings x.others)
    (runs_idle (Purpose.of_end x.code) (record { object = x.object; addresses = x.addresses } ∷ []) [] (record x.first { registers = registers; phase = Phase.at_pc; frames = []; «end» = None }))
    ∙ sym (ap resolvings x.harts))
    others sound)
  where
    begun : HartState
    begun = finalising_hart registers x.code (record { object = x.object; addresses = x.addresses }) x.first

    running : (addresses : List ℕ) → (finalising_hart registers x.code (record { object = x.object; addresses = addresses }) x.first).«end» ≡ None
    running [] = refl
    running (function ∷ more) = refl

    none_over : (reason : HartEnd) → begun.«end» ≡ Some reason → ⊥
    none_over reason over = let no : None ≡ Some reason = sym (running x.addresses) ∙ over in cc

    others : AllRest (begun ∷ x.others)
    others zero b reason at over = absurd (none_over reason ((let same : begun.«end» ≡ b.«end» = ap (λ (y : HartState). y.«end») (let one : begun ≡ b = cc in one) in same) ∙ over))
    others (suc j) b reason at over = sound.rests (suc j) b reason (ap (λ (bs : List HartState). slice_get bs (suc j)) x.harts ∙ at) over

pub settles_sound : ((m : Machine) → AcceptsOnly m → Needs m) → SettlingIsSound
settles_sound needs w world only sound =
    let laws = needs w.machine only in
    from_sounds w (settled world) (freed_length world.harts ∙ sound.harts) sound.words (freed_rest world.harts sound.rests)
    (subst (λ (es : List Event). Sounds w (world.journal ++ es) (resolvings (map freed world.harts)) world.words) (sym (settling_is world.harts))
    (subst (λ (rs : List Resolving). Sounds w (world.journal ++ flat_map settled_by (resolvings world.harts)) rs world.words) (sym (freed_are world.harts))
    (settled_all w only laws.know laws.keep laws.bound laws.lost world.journal [] (resolvings world.harts) world.words (to_sounds w world sound))))

-- what an end makes of memory: nothing
ends_remake : (s : State) (h : ℕ) (reason : HartEnd) (words : List Doubleword) → Remakes s (events.Ended h reason) words words
ends_remake s h reason words = record {
  all = refl;
  kept = λ a is untouched. refl;
  given = λ r a is there covers. absurd (none_in r there);
  gone = λ r a is there covers. absurd (none_in r there);
}

pub lacks_sound : ((m : Machine) → AcceptsOnly m → Needs m) → FinalsLackSound
lacks_sound needs w old new only sound x =
    let laws = needs w.machine only in
    let past : List Event = old.journal ++ settling old.harts in
    let before : Sound w (settled old) = settles_sound needs w old only sound in
    let after_end : Sounds w (past ++ events.Ended 0 ends.Memory ∷ []) (resolvings (map freed old.harts)) old.words =
    event_sounds w only laws.know laws.changes laws.keep past (resolvings (map freed old.harts)) old.words old.words (events.Ended 0 ends.Memory) 0 refl x.may (ends_remake (after past) 0 ends.Memory old.words)
    (spared w only laws.know laws.changes laws.keep (events.Ended 0 ends.Memory) refl) (to_sounds w (settled old) before) in
    let same : resolvings (ended ends.Memory x.first ∷ map freed x.others) ≡ resolvings (map freed old.harts) = ap (λ (bs : List HartState). resolvings (map freed bs)) (sym x.harts) in
    subst (λ (world : World). Sound w world) (sym x.leaves)
    (from_sounds w (record old { journal = past ++ events.Ended 0 ends.Memory ∷ []; harts = ended ends.Memory x.first ∷ map freed x.others })
    (sym (places_length (ended ends.Memory x.first ∷ map freed x.others)) ∙ ap (λ (rs : List Resolving). length rs) same ∙ places_length (map freed old.harts) ∙ before.harts) before.words all_rest
    (subst (λ (rs : List Resolving). Sounds w (past ++ events.Ended 0 ends.Memory ∷ []) rs old.words) (sym same) after_end))
  where
    over_by : (e : Option HartEnd) (code : ℕ) → elim e [ Some reason ↦ elim reason [ ends.Exit n ↦ Some n | _ ↦ None ] | None ↦ None ] ≡ Some code → (reason : HartEnd) × (e ≡ Some reason)
    over_by (Some reason) code is = (reason, refl)
    over_by None code is = absurd (none-some code is)

    first_rests : settled_resolving x.first.resolving ≡ Resolving.idle
    first_rests = let over = over_by x.first.«end» x.code x.exited in sound.rests 0 x.first over.0 (ap (λ (bs : List HartState). slice_get bs 0) x.harts) over.1

    all_rest : AllRest (ended ends.Memory x.first ∷ map freed x.others)
    all_rest zero b reason at over = ap (λ (y : HartState). settled_resolving y.resolving) (sym (let one : ended ends.Memory x.first ≡ b = cc in one)) ∙ ap settled_resolving first_rests
    all_rest (suc j) b reason at over = freed_rest old.harts sound.rests (suc j) b reason (ap (λ (bs : List HartState). slice_get (map freed bs) (suc j)) x.harts ∙ at) over
