-- Other harts' events spare what a hart's frames are of.
use Rattle.std.proofs.Common.{◌≡◌, ⊎_elim, ℕ, not, Bool, true, false, eqb, List, [], ◌∷◌, ◌++◌, Some, refl, sym, ap, subst, ◌∙◌, append_assoc}
use Rattle.std.specs.Prelude.{filter, reverse, ◌==◌}
use Rattle.std.specs.List.{Contains}
use Rattle.std.specs.Str.{bytes_eq}
use Rattle.std.proofs.lemmas.Bool.{and_parts, eqb-true}
use Rattle.std.proofs.lemmas.List.Elements.{Contains-append_cases}
use Rattle.history_event.specs.declared.event.Event.{Event}
use Rattle.history_event.specs.declared.event.Event.TheVariants as events
use Rattle.history_event.specs.declared.state.Closing.{Closing}
use Rattle.history_event.specs.declared.state.Loading.{Loading}
use Rattle.history_graph.specs.Initialised.{is_one_of, program_last}
use Rattle.history_state.specs.After.{after}
use Rattle.history_state.specs.Allowed.{Allowed, AtTheEnd, ByClosing, MayInitialise}
use Rattle.history_state.specs.Legal.{Lawful}
use Rattle.history_state.specs.Links.{finis_of, unfinished}
use Rattle.history_state.specs.Setting.{Machine, Setting}
use Rattle.history_state.specs.State.{State}
use Rattle.history_state.specs.Step.{initialise, is_closing, step, unmap}
use Rattle.history_state.specs.Lemmas.History.{lawful_push, one_behind}
use Rattle.history_state.specs.Lemmas.Lists.{at_in, from_filter, has_in, here, in_filter, later}
use Rattle.history_calls.specs.Laws.{hart_of}
use Rattle.hart_moves.specs.Moves.{AreAllowed}
use Rattle.world_turns.specs.WorldFrames.Belong.{Origin}
use Rattle.world_turns.specs.WorldFrames.Lemmas.Events.{ApartLaws, fini_leaves}
use Rattle.world_turns.specs.WorldFrames.Lemmas.Origins.{AllSpare, FollowLaws, IsThere, Spares, events_leave, hart_of_origin, none_touches}
use Rattle.hart_moves.specs.Follows.{AreOthers}
use Rattle.hart_fits.specs.Others.{NeverOver, OthersLeaveFrames}

-- ---- events are what they are

not_init : (h o k d : ℕ) → events.Init h o ≡ events.Fini k d → ⊥
not_init h o k d e = let no : events.Init h o ≡ events.Fini k d = e in cc

not_fini : (h o k d : ℕ) → events.Fini h o ≡ events.Init k d → ⊥
not_fini h o k d e = let no : events.Fini h o ≡ events.Init k d = e in cc

same_init : (h o k d : ℕ) → events.Init h o ≡ events.Init k d → o ≡ d
same_init h o k d e = let same : events.Init h o ≡ events.Init k d = e in cc

same_fini : (h o k d : ℕ) → events.Fini h o ≡ events.Fini k d → o ≡ d
same_fini h o k d e = let same : events.Fini h o ≡ events.Fini k d = e in cc

not_unmapped_init : (h : ℕ) (set : List ℕ) (k d : ℕ) → events.Unmapped h set ≡ events.Init k d → ⊥
not_unmapped_init h set k d e = let no : events.Unmapped h set ≡ events.Init k d = e in cc

not_unmapped_fini : (h : ℕ) (set : List ℕ) (k d : ℕ) → events.Unmapped h set ≡ events.Fini k d → ⊥
not_unmapped_fini h set k d e = let no : events.Unmapped h set ≡ events.Fini k d = e in cc

-- ---- openings and closings of other harts

init_leaves : (s : State) (h o : ℕ) (c : Closing) → Contains s.closings c → Contains (step s (events.Init h o)).closings c
unfolding initialise
init_leaves s h o c there = there

-- an unmapping takes closings of its own hart alone
unmap_leaves : (s : State) (k : ℕ) (set : List ℕ) (c : Closing) → (c.hart ≡ k → ⊥) → Contains s.closings c → Contains (step s (events.Unmapped k set)).closings c
unfolding unmap
unmap_leaves s k set c other there = in_filter (λ x. not (is_closing k set x)) s.closings c there (ap not (it (is_closing k set c) refl))
  where
    it : (t : Bool) → is_closing k set c ≡ t → is_closing k set c ≡ false
    it false e = e
    it true e = absurd (other (eqb-true c.hart k (and_parts (eqb c.hart k) (bytes_eq c.set set) e).0))

in_last : (serials : List ℕ) (o : ℕ) → Contains (program_last (Some 1) serials) o → Contains serials o
in_last serials o there = ⊎_elim
    (λ (x : Contains (filter (λ p. not (p == 1)) serials) o). (from_filter (λ p. not (p == 1)) serials o x).0)
    (λ (x : Contains (filter (λ p. p == 1) serials) o). (from_filter (λ p. p == 1) serials o x).0)
    (Contains-append_cases (filter (λ p. not (p == 1)) serials) (filter (λ p. p == 1) serials) o there)

in_finis : (s : State) (set : List ℕ) (o : ℕ) → Contains (finis_of s set) o → Contains set o
in_finis s set o there = has_in set o (from_filter (is_one_of set) (reverse (unfinished s)) o there).1

module _ (m : Machine) (laws : ApartLaws m) (w : Setting) (same : w.machine ≡ m) (h : ℕ) where
  abbrev Own : Origin → Type 0
  Own o = hart_of_origin o ≡ h

  by_init : (past : List Event) (k d : ℕ) → Lawful m past → Allowed w past (events.Init k d) → (k ≡ h → ⊥) → (o : Origin) → Own o → IsThere (after past) o → Spares (after past) (events.Init k d) o
  by_init past k d lawful may other (Origin.opening l) own at = λ j e is inside.
      let x : MayInitialise (after past) k d = may in
      let mine : x.loading ≡ l = (laws.order past lawful).loaded x.loading l d x.there at (in_last x.loading.serials d (at_in (program_last (Some 1) x.loading.serials) x.next.place d x.next.stands)) (subst (Contains l.serials) (sym (same_init k d j e is)) inside) in
      other (sym x.by ∙ ap (λ (z : Loading). z.hart) mine ∙ own)
  by_init past k d lawful may other (Origin.closing c) own at = (λ j e is inside. not_init k d j e is, init_leaves (after past) k d c at)

  by_fini : (past : List Event) (k d : ℕ) → Lawful m past → Allowed w past (events.Fini k d) → (k ≡ h → ⊥) → (AtTheEnd w past (after past) k d → ⊥) → (o : Origin) → Own o → IsThere (after past) o → Spares (after past) (events.Fini k d) o
  by_fini past k d lawful may other early (Origin.opening l) own at = λ j e is inside. not_fini k d j e is
  by_fini past k d lawful may other early (Origin.closing c) own at = (
    λ j e is inside. ⊎_elim
        (λ (x : ByClosing (after past) k d).
        let mine : x.closing ≡ c = (laws.dies past lawful).once x.closing c d x.there at (in_finis (after past) x.closing.set d (at_in (finis_of (after past) x.closing.set) 0 d x.next)) (subst (Contains c.set) (sym (same_fini k d j e is)) inside) in
        other (sym x.by ∙ ap (λ (z : Closing). z.hart) mine ∙ own))
        (λ (x : AtTheEnd w past (after past) k d). early x)
        may,
    fini_leaves (after past) k d c at,
  )

  by_unmapped : (past : List Event) (k : ℕ) (set : List ℕ) → (k ≡ h → ⊥) → (o : Origin) → Own o → IsThere (after past) o → Spares (after past) (events.Unmapped k set) o
  by_unmapped past k set other (Origin.opening l) own at = λ j e is inside. not_unmapped_init k set j e is
  by_unmapped past k set other (Origin.closing c) own at = (λ j e is inside. not_unmapped_fini k set j e is, unmap_leaves (after past) k set c (λ is. other (sym is ∙ own)) at)

  -- an event that touches no frame
  quietly : (past : List Event) (e : Event) → AllSpare Own past (e ∷ []) → (o : Origin) → Own o → IsThere (after past) o → Spares (after past) e o
  quietly past e x o own at = x.0 o own at

  by_other : (past : List Event) (e : Event) → Lawful m past → Allowed w past e → (hart_of e ≡ Some h → ⊥) → ((k d : ℕ) → e ≡ events.Fini k d → AtTheEnd w past (after past) k d → ⊥) → (o : Origin) → Own o → IsThere (after past) o
      → Spares (after past) e o
  by_other past (events.Open hart ask answer) lawful may other early = quietly past (events.Open hart ask answer) (none_touches Own past (events.Open hart ask answer ∷ []) (refl, tt))
  by_other past (events.Close hart handle answer) lawful may other early = quietly past (events.Close hart handle answer) (none_touches Own past (events.Close hart handle answer ∷ []) (refl, tt))
  by_other past (events.Unmapped hart set) lawful may other early = by_unmapped past hart set (λ is. other (ap (λ (n : ℕ). Some n) is))
  by_other past (events.Grant number hart owner slot choice value) lawful may other early = quietly past (events.Grant number hart owner slot choice value) (none_touches Own past (events.Grant number hart owner slot choice value ∷ []) (refl, tt))
  by_other past (events.Bound number) lawful may other early = quietly past (events.Bound number) (none_touches Own past (events.Bound number ∷ []) (refl, tt))
  by_other past (events.Lost number saw) lawful may other early = quietly past (events.Lost number saw) (none_touches Own past (events.Lost number saw ∷ []) (refl, tt))
  by_other past (events.Unresolved hart owner slot choice) lawful may other early = quietly past (events.Unresolved hart owner slot choice) (none_touches Own past (events.Unresolved hart owner slot choice ∷ []) (refl, tt))
  by_other past (events.Sym hart ask answer) lawful may other early = quietly past (events.Sym hart ask answer) (none_touches Own past (events.Sym hart ask answer ∷ []) (refl, tt))
  by_other past (events.Tls hart owner address) lawful may other early = quietly past (events.Tls hart owner address) (none_touches Own past (events.Tls hart owner address ∷ []) (refl, tt))
  by_other past (events.Init hart object) lawful may other early = by_init past hart object lawful may (λ is. other (ap (λ (n : ℕ). Some n) is))
  by_other past (events.Fini hart object) lawful may other early = by_fini past hart object lawful may (λ is. other (ap (λ (n : ℕ). Some n) is)) (early hart object refl)
  by_other past (events.Wrote hart bytes) lawful may other early = quietly past (events.Wrote hart bytes) (none_touches Own past (events.Wrote hart bytes ∷ []) (refl, tt))
  by_other past (events.Told hart fault) lawful may other early = quietly past (events.Told hart fault) (none_touches Own past (events.Told hart fault ∷ []) (refl, tt))
  by_other past (events.Ended hart reason) lawful may other early = quietly past (events.Ended hart reason) (none_touches Own past (events.Ended hart reason ∷ []) (refl, tt))

  -- one after another
  all_spare : (past more : List Event) → Lawful m past → AreAllowed w past more → AreOthers h more → NeverOver w (past ++ more) → AllSpare Own past more
  all_spare past [] lawful may others never = tt
  all_spare past (e ∷ rest) lawful may others never = (
    by_other past e lawful may.0 (others e (here e rest)) (λ k d is x. never x.was.before (x.was.since ++ e ∷ rest) (ap (λ (es : List Event). es ++ e ∷ rest) x.was.are ∙ append_assoc x.was.before x.was.since (e ∷ rest)) x.was.over),
    all_spare (past ++ e ∷ []) rest (lawful_push m w past e same lawful may.0) may.1 (λ d there. others d (later e rest d there)) (subst (NeverOver w) (sym (one_behind past e rest)) never),
  )

pub others_leave : FollowLaws → ((m : Machine) → ApartLaws m) → OthersLeaveFrames
others_leave follow apart w past more h frames lawful may others never x = record {
  origins = x.origins;
  are = events_leave follow w (λ (o : Origin). hart_of_origin o ≡ h) past more lawful may (all_spare w.machine (apart w.machine) w refl h past more lawful may others never) h x.origins frames (λ o there of. of) x.are;
  once = x.once;
}
