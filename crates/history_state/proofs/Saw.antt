-- In a whole history each lost grant of a slot saw the slot's one value.
use Rattle.std.proofs.Common.{◌≡◌, ◌⊎◌, inl, inr, ℕ, eqb, List, Some, None, sym, ap, subst, ◌∙◌}
use Rattle.std.specs.List.{Contains}
use Rattle.std.proofs.lemmas.Bool.{and_from, and_parts, eq-eqb, eqb-true}
use Rattle.history_event.specs.declared.event.Event.{Event}
use Rattle.history_event.specs.declared.state.Granting.{Granting}
use Rattle.history_event.specs.declared.state.Standing.TheVariants.{Bound}
use Rattle.history_state.specs.State.{State}
use Rattle.history_state.specs.After.{after}
use Rattle.history_state.specs.Laws.{GrantsAreTidy, LostSawTheValue}
use Rattle.history_state.specs.Legal.{IsOnlyBound, Legal, Whole}
use Rattle.history_state.specs.Objects.{IsMapped}
use Rattle.history_state.specs.Setting.{Setting}
use Rattle.history_state.specs.Slots.{value_at_load}
use Rattle.history_state.specs.Lemmas.Brought.{LoadLaws}
use Rattle.history_state.specs.Lemmas.History.{legal_is_lawful}
use Rattle.history_state.specs.Lemmas.Tidy.{Tidy, one_number, tidy_after}
use Rattle.history_state.proofs.Unbound.{grants_tidy}

module _ (s : State) (tidy : GrantsAreTidy s) (numbers : Tidy s.grants) where
  -- no grant is bound where the slot got its value at load
  not_both : (g : Granting) (owner slot value : ℕ) → Contains s.grants g → g.standing ≡ Bound → g.owner ≡ owner → g.slot ≡ slot → value_at_load s owner slot ≡ Some value → ⊥
  not_both g owner slot value there bound is at got =
      let none : value_at_load s owner slot ≡ None = sym (ap (λ n. value_at_load s n g.slot) is ∙ ap (value_at_load s owner) at) ∙ tidy.unbound g there bound in
      let both : Some value ≡ None = sym got ∙ none in
      cc

  of_slot : (owner slot value : ℕ) → (o : IsOnlyBound s owner slot value) → (o.grant.owner ≡ owner) × (o.grant.slot ≡ slot)
  of_slot owner slot value o =
      let parts = and_parts (eqb o.grant.owner owner) (eqb o.grant.slot slot) o.of in
      (eqb-true o.grant.owner owner parts.0, eqb-true o.grant.slot slot parts.1)

  -- the one bound grant of a slot
  is_only : (owner slot value : ℕ) → (o : IsOnlyBound s owner slot value) → (h : Granting) → Contains s.grants h → h.standing ≡ Bound → h.owner ≡ owner → h.slot ≡ slot → h.value ≡ value
  is_only owner slot value o h there bound is at =
      let number : h.number ≡ o.grant.number = o.only h there (and_from (eqb h.owner owner) (eqb h.slot slot) (eq-eqb h.owner owner is) (eq-eqb h.slot slot at)) bound in
      ap (λ (g : Granting). g.value) (one_number s.grants numbers h o.grant there o.there number) ∙ o.holds

  same : (owner slot saw word : ℕ) → (value_at_load s owner slot ≡ Some saw) ⊎ IsOnlyBound s owner slot saw → (value_at_load s owner slot ≡ Some word) ⊎ IsOnlyBound s owner slot word → saw ≡ word
  same owner slot saw word (inl a) (inl b) = let both : Some saw ≡ Some word = sym a ∙ b in cc
  same owner slot saw word (inl a) (inr b) = let of = of_slot owner slot word b in absurd (not_both b.grant owner slot saw b.there b.bound of.0 of.1 a)
  same owner slot saw word (inr a) (inl b) = let of = of_slot owner slot saw a in absurd (not_both a.grant owner slot word a.there a.bound of.0 of.1 b)
  same owner slot saw word (inr a) (inr b) =
      let of = of_slot owner slot saw a in
      sym a.holds ∙ is_only owner slot word b a.grant a.there a.bound of.0 of.1

  bound_is : (owner slot saw : ℕ) → (value_at_load s owner slot ≡ Some saw) ⊎ IsOnlyBound s owner slot saw → (h : Granting) → Contains s.grants h → h.standing ≡ Bound → h.owner ≡ owner → h.slot ≡ slot → saw ≡ h.value
  bound_is owner slot saw (inl a) h there bound is at = absurd (not_both h owner slot saw there bound is at a)
  bound_is owner slot saw (inr a) h there bound is at = sym (is_only owner slot saw a h there bound is at)

abbrev Settles : State → ℕ → ℕ → ℕ → Type 0
Settles s owner slot word = (value_at_load s owner slot ≡ Some word) ⊎ IsOnlyBound s owner slot word

pub saw_the_value : LoadLaws → (w : Setting) (journal : List Event) → Legal w journal → Whole w journal → LostSawTheValue (after journal)
saw_the_value laws w journal legal whole =
    let lawful = legal_is_lawful w journal legal in
    let tidy = grants_tidy laws w.machine journal lawful in
    let numbers = tidy_after w.machine journal lawful in
    record {
      one = λ g h saw word first second lost lost' owner slot home.
          same (after journal) tidy numbers g.owner g.slot saw word (whole.lost g saw first lost home)
          (subst (λ (n : ℕ). Settles (after journal) n g.slot word) (sym owner) (subst (λ (n : ℕ). Settles (after journal) h.owner n word) (sym slot)
          (whole.lost h word second lost' (subst (IsMapped (after journal)) owner home))));
      bound = λ g h saw first second lost bound owner slot home.
          bound_is (after journal) tidy numbers g.owner g.slot saw (whole.lost g saw first lost home) h second bound (sym owner) (sym slot);
      at_load = λ g saw value first lost got home.
          same (after journal) tidy numbers g.owner g.slot saw value (whole.lost g saw first lost home) (inl got);
    }
