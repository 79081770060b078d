-- Which frames the events of a turn spare: all but the turn's own.
use Rattle.std.proofs.Common.{◌≡◌, ◌≢◌, ℕ, not, Bool, true, false, eqb, List, [], ◌∷◌, ◌++◌, map, refl, sym, ap, subst, ◌∙◌}
use Rattle.std.specs.List.{Contains}
use Rattle.std.specs.Str.{bytes_eq}
use Rattle.std.proofs.lemmas.Bool.{and_parts, eqb-true}
use Rattle.std.proofs.lemmas.Slice.Eq.{bytes_eq-Decides}
use Rattle.history_event.specs.declared.event.Event.{Event}
use Rattle.history_event.specs.declared.event.Event.TheVariants as events
use Rattle.history_event.specs.declared.state.Closing.{Closing}
use Rattle.history_event.specs.declared.state.Loading.{Loading}
use Rattle.history_state.specs.After.{after}
use Rattle.history_state.specs.Laws.{EachDiesOnce, SerialsAreInOrder}
use Rattle.history_state.specs.Legal.{Lawful}
use Rattle.history_state.specs.Setting.{Machine, Setting}
use Rattle.history_state.specs.State.{State}
use Rattle.history_state.specs.Step.{initialise, is_closing, step, unmap}
use Rattle.history_state.specs.Lemmas.History.{after_push, lawful_push}
use Rattle.history_state.specs.Lemmas.Lists.{here, in_filter, later}
use Rattle.hart_moves.specs.Moves.{AreAllowed}
use Rattle.world_turns.specs.WorldFrames.Belong.{Origin}
use Rattle.world_turns.specs.WorldFrames.Lemmas.Origins.{AllSpare, IsThere, Spares, loading_kept}

-- what is needed of openings and closings
pub record ApartLaws (m : Machine) : Type 0 where
  pub order : (journal : List Event) → Lawful m journal → SerialsAreInOrder (after journal)
  pub dies : (journal : List Event) → Lawful m journal → EachDiesOnce (after journal)

abbrev pub inits : ℕ → List ℕ → List Event
inits h objects = map (λ o. events.Init h o) objects

abbrev pub finis : ℕ → List ℕ → List Event
finis h objects = map (λ o. events.Fini h o) objects

abbrev pub AllOf : List ℕ → List ℕ → Type 0
AllOf set objects = (o : ℕ) → Contains objects o → Contains set o

not_init : (h o k d : ℕ) → events.Init h o ≡ events.Fini k d → ⊥
not_init h o k d e = let no : events.Init h o ≡ events.Fini k d = e in cc

not_fini : (h o k d : ℕ) → events.Fini h o ≡ events.Init k d → ⊥
not_fini h o k d e = let no : events.Fini h o ≡ events.Init k d = e in cc

same_init : (h o k d : ℕ) → events.Init h o ≡ events.Init k d → o ≡ d
same_init h o k d e = let same : events.Init h o ≡ events.Init k d = e in cc

same_fini : (h o k d : ℕ) → events.Fini h o ≡ events.Fini k d → o ≡ d
same_fini h o k d e = let same : events.Fini h o ≡ events.Fini k d = e in cc

not_unmapped_init : (h : ℕ) (set : List ℕ) (k d : ℕ) → events.Unmapped h set ≡ events.Init k d → ⊥
not_unmapped_init h set k d e = let no : events.Unmapped h set ≡ events.Init k d = e in cc

not_unmapped_fini : (h : ℕ) (set : List ℕ) (k d : ℕ) → events.Unmapped h set ≡ events.Fini k d → ⊥
not_unmapped_fini h set k d e = let no : events.Unmapped h set ≡ events.Fini k d = e in cc

-- closings are left by an Init and by a Fini
init_leaves : (s : State) (h o : ℕ) (c : Closing) → Contains s.closings c → Contains (step s (events.Init h o)).closings c
unfolding initialise
init_leaves s h o c there = there

pub fini_leaves : (s : State) (h o : ℕ) (c : Closing) → Contains s.closings c → Contains (step s (events.Fini h o)).closings c
fini_leaves s h o c there = there

module _ (m : Machine) (laws : ApartLaws m) (w : Setting) (same : w.machine ≡ m) where
  -- an initialisation of an object of an opening spares what is of no other
  inits_spare_one : (past : List Event) (h o : ℕ) (l : Loading) → Lawful m past → Contains (after past).loadings l → Contains l.serials o → (q : Origin) → q ≢ Origin.opening l → IsThere (after past) q → Spares (after past) (events.Init h o) q
  inits_spare_one past h o l lawful there inside (Origin.opening k) differs at = λ j d is has_it.
      differs (ap (λ (x : Loading). Origin.opening x) ((laws.order past lawful).loaded k l o at there (subst (Contains k.serials) (sym (same_init h o j d is)) has_it) inside))
  inits_spare_one past h o l lawful there inside (Origin.closing c) differs at = (λ j d is has_it. not_init h o j d is, init_leaves (after past) h o c at)

  pub inits_spare : (past : List Event) (h : ℕ) (objects : List ℕ) (l : Loading) → Lawful m past → AreAllowed w past (inits h objects) → Contains (after past).loadings l → AllOf l.serials objects
      → AllSpare (λ q. q ≢ Origin.opening l) past (inits h objects)
  inits_spare past h [] l lawful may there all = tt
  inits_spare past h (o ∷ rest) l lawful may there all = (
    λ q differs at. inits_spare_one past h o l lawful there (all o (here o rest)) q differs at,
    inits_spare (past ++ events.Init h o ∷ []) h rest l (lawful_push m w past (events.Init h o) same lawful may.0) may.1
        (subst (λ (s : State). Contains s.loadings l) (sym (after_push past (events.Init h o))) (loading_kept (after past) (events.Init h o) l there))
        (λ d inside. all d (later o rest d inside)),
  )

  finis_spare_one : (past : List Event) (h o : ℕ) (c : Closing) → Lawful m past → Contains (after past).closings c → Contains c.set o → (q : Origin) → q ≢ Origin.closing c → IsThere (after past) q → Spares (after past) (events.Fini h o) q
  finis_spare_one past h o c lawful there inside (Origin.opening l) differs at = λ j d is has_it. not_fini h o j d is
  finis_spare_one past h o c lawful there inside (Origin.closing k) differs at = (
    λ j d is has_it. differs (ap (λ (x : Closing). Origin.closing x) ((laws.dies past lawful).once k c o at there (subst (Contains k.set) (sym (same_fini h o j d is)) has_it) inside)),
    fini_leaves (after past) h o k at,
  )

  pub finis_spare : (past : List Event) (h : ℕ) (objects : List ℕ) (c : Closing) → Lawful m past → AreAllowed w past (finis h objects) → Contains (after past).closings c → AllOf c.set objects
      → AllSpare (λ q. q ≢ Origin.closing c) past (finis h objects)
  finis_spare past h [] c lawful may there all = tt
  finis_spare past h (o ∷ rest) c lawful may there all = (
    λ q differs at. finis_spare_one past h o c lawful there (all o (here o rest)) q differs at,
    finis_spare (past ++ events.Fini h o ∷ []) h rest c (lawful_push m w past (events.Fini h o) same lawful may.0) may.1
        (subst (λ (s : State). Contains s.closings c) (sym (after_push past (events.Fini h o))) (fini_leaves (after past) h o c there))
        (λ d inside. all d (later o rest d inside)),
  )

-- an unmapping takes the closing of its hart and set alone
unmap_leaves : (s : State) (h : ℕ) (set : List ℕ) (c k : Closing) → c.hart ≡ h → c.set ≡ set → k ≢ c → Contains s.closings k → Contains (step s (events.Unmapped h set)).closings k
unfolding unmap
unmap_leaves s h set c k by whole differs there = in_filter (λ x. not (is_closing h set x)) s.closings k there (ap not (other (is_closing h set k) refl))
  where
    other : (t : Bool) → is_closing h set k ≡ t → is_closing h set k ≡ false
    other false e = e
    other true e =
        let parts = and_parts (eqb k.hart h) (bytes_eq k.set set) e in
        absurd (differs (named (eqb-true k.hart h parts.0 ∙ sym by) ((bytes_eq-Decides k.set set).0 parts.1 ∙ sym whole)))
      where
        named : k.hart ≡ c.hart → k.set ≡ c.set → k ≡ c
        named a b = ap (λ (n : ℕ). record { hart = n; set = k.set }) a ∙ ap (λ (os : List ℕ). record { hart = c.hart; set = os }) b

pub unmap_spares : (past : List Event) (h : ℕ) (c : Closing) → c.hart ≡ h → AllSpare (λ q. q ≢ Origin.closing c) past (events.Unmapped h c.set ∷ [])
unmap_spares past h c by = (by_origin, tt)
  where
    by_origin : (q : Origin) → q ≢ Origin.closing c → IsThere (after past) q → Spares (after past) (events.Unmapped h c.set) q
    by_origin (Origin.opening l) differs at = λ j d is inside. not_unmapped_init h c.set j d is
    by_origin (Origin.closing k) differs at = (
      λ j d is inside. not_unmapped_fini h c.set j d is,
      unmap_leaves (after past) h c.set c k by refl (λ e. differs (ap (λ (x : Closing). Origin.closing x) e)) at,
    )
