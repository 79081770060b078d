-- What the exchanges of a slot found by the end of a run.
use Rattle.std.proofs.Common.{◌≡◌, ◌≢◌, ◌⊎◌, inl, inr, ⊎_elim, ℕ, ◌-◌, Bool, true, false, ◌&&◌, eqb, List, Option, Some, None, refl, sym, ap, subst, ◌∙◌, arith}
use mathlib.Core.Logic.{dite}
use native.Mathlib.Decide.{ℕ_discrete}
use Rattle.std.specs.Prelude.{IsTrue}
use Rattle.std.specs.List.{Contains, list_any}
use Rattle.std.proofs.lemmas.Bool.{and_from, and_parts, eqb-true}
use Rattle.std.proofs.lemmas.Option.{slice_get_within}
use Rattle.history_event.specs.declared.event.Event.{Event}
use Rattle.history_event.specs.declared.event.Event.TheVariants as events
use Rattle.history_event.specs.declared.state.Granting.{Granting}
use Rattle.history_event.specs.declared.state.Standing.{Standing}
use Rattle.history_event.specs.declared.state.Standing.TheVariants.{Bound, Lost, Open}
use Rattle.history_state.specs.After.{after}
use Rattle.history_state.specs.Grants.{is_bound, is_bound_standing, is_of}
use Rattle.history_state.specs.Laws.{GrantsAreTidy}
use Rattle.history_state.specs.Legal.{IsOnlyBound, Lawful, Legal, Whole}
use Rattle.history_state.specs.Objects.{IsMapped}
use Rattle.history_state.specs.Setting.{Machine, Setting}
use Rattle.history_state.specs.Slots.{value_at_load}
use Rattle.history_state.specs.Lemmas.History.{legal_is_lawful}
use Rattle.history_state.specs.Lemmas.Lists.{any_in, in_any_not}
use Rattle.history_state.specs.Lemmas.Tidy.{one_number}
use Rattle.kept_words.specs.Over.{TrailIsTrue}
use Rattle.kept_words.specs.Staying.{IsGrantEvent, number_by, number_in}
use Rattle.word_rule.specs.declared.entry.Exchange.{Exchange}
use Rattle.word_rule.specs.declared.view.Fate.TheVariants.{Won}
use Rattle.word_rule.specs.declared.view.HartView.{HartView}
use Rattle.word_rule.specs.Views.{exchanges_of}
use Rattle.link_keeper.specs.Finishing.{IsExchangeOf}
use Rattle.kept_words.specs.Kept.{IsFateEvent}
use Rattle.world_threads.specs.Slots.{IsExchangedFor, RunsEndSlots, SlotEnds, Wins}
use Rattle.world_threads.proofs.Fates.{WasGrantedAs, bound_event, bound_there, granted_there, lost_there}
use Rattle.world_threads.proofs.Ways.{element_at}

-- ---- of one slot

-- what the journal says of the exchange of a grant
record Tells (journal : List Event) (g : Granting) (x : Exchange) : Type 0 where
  pub value : g.value ≡ x.grant.entry.value
  pub won : x.found ≡ x.grant.lazy → Contains journal (events.Bound g.number)
  pub lost : x.found ≢ x.grant.lazy → Contains journal (events.Lost g.number x.found)

is_bound_of : (standing : Standing) → is_bound_standing standing ≡ true → standing ≡ Bound
is_bound_of Open is = absurd (let no : false ≡ true = is in cc)
is_bound_of Bound is = refl
is_bound_of (Lost saw) is = absurd (let no : false ≡ true = is in cc)

bound_is : (g : Granting) → g.standing ≡ Bound → is_bound g ≡ true
bound_is g bound = ap is_bound_standing bound

module _ (w : Setting) (journal : List Event) (legal : Legal w journal) (whole : Whole w journal) (tidy : GrantsAreTidy (after journal)) (owner slot : ℕ)
    (mapped : IsMapped (after journal) owner) where
  abbrev IsGranted : Granting → Type 0
  IsGranted g = Contains (after journal).grants g × IsTrue (is_of owner slot g)

  same : (g h : Granting) → Contains (after journal).grants g → Contains (after journal).grants h → g.number ≡ h.number → g ≡ h
  same = one_number (after journal).grants (record { numbered = tidy.numbered; one_bound = tidy.one_bound; one_open = tidy.one_open })

  place : (g : Granting) → IsTrue (is_of owner slot g) → (g.owner ≡ owner) × (g.slot ≡ slot)
  place g of = let parts = and_parts (eqb g.owner owner) (eqb g.slot slot) of in (eqb-true g.owner owner parts.0, eqb-true g.slot slot parts.1)

  bound_not_loaded : (g : Granting) → IsGranted g → g.standing ≡ Bound → value_at_load (after journal) owner slot ≡ None
  bound_not_loaded g granted bound =
      let at = place g granted.1 in
      subst (λ (p : ℕ × ℕ). value_at_load (after journal) p.0 p.1 ≡ None) (λ i. (at.0 i, at.1 i)) (tidy.unbound g granted.0 bound)

  only_bound : (value : ℕ) (o : IsOnlyBound (after journal) owner slot value) → value_at_load (after journal) owner slot ≡ None
  only_bound value o = bound_not_loaded o.grant (o.there, o.of) o.bound

  lost_saw : (g : Granting) (saw : ℕ) → IsGranted g → g.standing ≡ Lost saw
      → (value_at_load (after journal) owner slot ≡ Some saw) ⊎ IsOnlyBound (after journal) owner slot saw
  lost_saw g saw granted lost =
      let at = place g granted.1 in
      subst (λ (p : ℕ × ℕ). (value_at_load (after journal) p.0 p.1 ≡ Some saw) ⊎ IsOnlyBound (after journal) p.0 p.1 saw) (λ i. (at.0 i, at.1 i))
      (whole.lost g saw granted.0 lost (subst (IsMapped (after journal)) (sym at.0) mapped))

  -- ---- an exchange

  stands_won : (g : Granting) (x : Exchange) → IsGranted g → Tells journal g x → x.found ≡ x.grant.lazy → g.standing ≡ Bound
  stands_won g x granted tells won =
      let q = bound_there w journal legal g.number (tells.won won) in
      subst (λ (h : Granting). h.standing ≡ Bound) (same q.0 g q.1.there granted.0 q.1.number_is) q.1.stands

  stands_lost : (g : Granting) (x : Exchange) → IsGranted g → Tells journal g x → x.found ≢ x.grant.lazy → g.standing ≡ Lost x.found
  stands_lost g x granted tells lost =
      let q = lost_there w journal legal g.number x.found (tells.lost lost) in
      subst (λ (h : Granting). h.standing ≡ Lost x.found) (same q.0 g q.1.there granted.0 q.1.number_is) q.1.stands

  found_at_load : (value : ℕ) → value_at_load (after journal) owner slot ≡ Some value → (g : Granting) (x : Exchange) → IsGranted g → Tells journal g x
      → x.found ≡ value
  found_at_load value at g x granted tells = dite (ℕ_discrete x.found x.grant.lazy)
      (λ (won : x.found ≡ x.grant.lazy). absurd (not_none (bound_not_loaded g granted (stands_won g x granted tells won))))
      (λ (lost : x.found ≢ x.grant.lazy). ⊎_elim
      (λ (loaded : value_at_load (after journal) owner slot ≡ Some x.found). let both : Some value ≡ Some x.found = sym at ∙ loaded in cc)
      (λ (o : IsOnlyBound (after journal) owner slot x.found). absurd (not_none (only_bound x.found o)))
      (lost_saw g x.found granted (stands_lost g x granted tells lost)))
    where
      not_none : value_at_load (after journal) owner slot ≡ None → ⊥
      not_none none = let both : Some value ≡ None = sym at ∙ none in cc

  won_or_found : (value : ℕ) (o : IsOnlyBound (after journal) owner slot value) (g : Granting) (x : Exchange) → IsGranted g → Tells journal g x
      → Wins value o.grant g x ⊎ (x.found ≡ value)
  won_or_found value o g x granted tells = dite (ℕ_discrete x.found x.grant.lazy)
      (λ (won : x.found ≡ x.grant.lazy).
      let number : g.number ≡ o.grant.number = o.only g granted.0 granted.1 (stands_won g x granted tells won) in
      inl (record {
        number_is = number;
        lazy = won;
        value_is = sym tells.value ∙ ap (λ (h : Granting). h.value) (same g o.grant granted.0 o.there number) ∙ o.holds;
      }))
      (λ (lost : x.found ≢ x.grant.lazy). ⊎_elim
      (λ (loaded : value_at_load (after journal) owner slot ≡ Some x.found). absurd (let both : None ≡ Some x.found = sym (only_bound value o) ∙ loaded in cc))
      (λ (p : IsOnlyBound (after journal) owner slot x.found).
      inr (sym p.holds ∙ ap (λ (h : Granting). h.value) (same p.grant o.grant p.there o.there (o.only p.grant p.there p.of p.bound)) ∙ o.holds))
      (lost_saw g x.found granted (stands_lost g x granted tells lost)))

  -- ---- a slot without a bound grant, and one with one

  abbrev is_bound_here : Granting → Bool
  is_bound_here g = is_of owner slot g && is_bound g

  none_granted : value_at_load (after journal) owner slot ≡ None → list_any is_bound_here (after journal).grants ≡ false
      → (g : Granting) → Contains (after journal).grants g → is_of owner slot g ≡ false
  none_granted lazy none g there = by (is_of owner slot g) refl
    where
      unbound : (h : Granting) → IsGranted h → h.standing ≡ Bound → ⊥
      unbound h granted bound =
          let no : false ≡ true = sym (in_any_not is_bound_here (after journal).grants h none granted.0) ∙ and_from (is_of owner slot h) (is_bound h) granted.1 (bound_is h bound) in
          cc

      standing : (st : Standing) → g.standing ≡ st → IsGranted g → ⊥
      standing Open on granted = whole.settled g there on
      standing Bound bound granted = unbound g granted bound
      standing (Lost saw) lost granted = ⊎_elim
          (λ (loaded : value_at_load (after journal) owner slot ≡ Some saw). let both : None ≡ Some saw = sym lazy ∙ loaded in cc)
          (λ (o : IsOnlyBound (after journal) owner slot saw). unbound o.grant (o.there, o.of) o.bound)
          (lost_saw g saw granted lost)

      by : (t : Bool) → is_of owner slot g ≡ t → is_of owner slot g ≡ false
      by true of = absurd (standing g.standing refl (there, of))
      by false of = of

  the_bound : (g : Granting) → Contains (after journal).grants g → is_bound_here g ≡ true → IsOnlyBound (after journal) owner slot g.value
  the_bound g there is =
      let parts = and_parts (is_of owner slot g) (is_bound g) is in
      let bound : g.standing ≡ Bound = is_bound_of g.standing parts.1 in
      let at = place g parts.0 in
      record {
        grant = g;
        there = there;
        of = parts.0;
        bound = bound;
        holds = refl;
        only = λ other inside of stands.
            let to = place other of in tidy.one_bound other g inside there stands bound (to.0 ∙ sym at.0) (to.1 ∙ sym at.1);
      }

  -- ---- the slot

  module _ (harts : List HartView) (tells : (g : Granting) (x : Exchange) → IsExchangedFor journal harts owner slot g x → Tells journal g x)
      (fates : (number : ℕ) → Contains journal (events.Bound number) → IsExchangeOf journal harts number Won (events.Bound number)) where
    by_grants : value_at_load (after journal) owner slot ≡ None → (t : Bool) → list_any is_bound_here (after journal).grants ≡ t → SlotEnds journal harts owner slot
    by_grants lazy false none = SlotEnds.untouched lazy (none_granted lazy none)
    by_grants lazy true some =
        let at = any_in is_bound_here (after journal).grants some in
        let o = the_bound at.0 at.1 at.2 in
        SlotEnds.bound at.0.value o (fates o.grant.number (bound_event journal o.grant o.there o.bound)) (λ g x is. won_or_found at.0.value o g x (is.granted, is.of) (tells g x is))

    by_load : (loaded : Option ℕ) → value_at_load (after journal) owner slot ≡ loaded → SlotEnds journal harts owner slot
    by_load (Some value) at = SlotEnds.at_load value at (λ g x is. found_at_load value at g x (is.granted, is.of) (tells g x is))
    by_load None at = by_grants at (list_any is_bound_here (after journal).grants) refl

    slot_ends : SlotEnds journal harts owner slot
    slot_ends = by_load (value_at_load (after journal) owner slot) refl

-- ---- what a trail that is true of the journal tells

-- a hart's exchange, whose grant is an event of the journal
told_by : (w : Setting) (past journal : List Event) → Legal w journal → GrantsAreTidy (after journal) → (hart : ℕ) (view : HartView) → TrailIsTrue w past journal hart view
    → (g : Granting) (x : Exchange) → Contains (exchanges_of view.trail) x → Contains (after journal).grants g → number_in journal hart x.grant ≡ g.number → Tells journal g x
unfolding number_by
told_by w past journal legal tidy hart view says g x made there number = record {
  value = sym (ap (λ (h : Granting). h.value) is) ∙ was.1.value_is;
  won = λ won. subst (λ (n : ℕ). Contains journal (events.Bound n)) number (says.won x made won);
  lost = λ lost. subst (λ (n : ℕ). Contains journal (events.Lost n x.found)) number (says.lost x made lost);
}
  where
    event : IsGrantEvent journal hart x.grant
    event = says.granted x made

    was : (q : Granting) × WasGrantedAs journal event.number x.grant.entry.value q
    was = granted_there journal (x.grant.entry.number - 1) event.number hart event.owner event.slot x.grant.entry.value event.choice event.at

    is : was.0 ≡ g
    is =
        one_number (after journal).grants (record { numbered = tidy.numbered; one_bound = tidy.one_bound; one_open = tidy.one_open }) was.0 g was.1.there there
        (was.1.number_is ∙ sym (ap number_by event.at) ∙ number)

pub runs_end_slots : ((m : Machine) (events : List Event) → Lawful m events → GrantsAreTidy (after events)) → RunsEndSlots
runs_end_slots tidies w setup left trails is owner slot mapped =
    slot_ends w journal is.legal is.whole tidy owner slot mapped trails.joined tells (λ number there. is.fates number Won (events.Bound number) there IsFateEvent.as_won)
  where
    journal : List Event
    journal = left.journal.events

    tidy : GrantsAreTidy (after journal)
    tidy = tidies w.machine journal (legal_is_lawful w journal is.legal)

    tells : (g : Granting) (x : Exchange) → IsExchangedFor journal trails.joined owner slot g x → Tells journal g x
    tells g x made =
        let low = slice_get_within trails.joined made.hart made.view made.there in
        let reason = element_at left.ends made.hart (omega (arith, low, is.all_told, is.last.all)) in
        told_by w _ journal is.legal tidy made.hart made.view (is.each made.hart reason.0 made.view reason.1 made.there).says.is_true g x made.made made.granted made.number_is
