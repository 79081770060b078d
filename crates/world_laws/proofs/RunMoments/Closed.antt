-- What is still to be unmapped died by a closing of the journal.
use Rattle.std.proofs.Common.{◌≡◌, ◌⊎◌, inl, inr, ⊎_elim, ℕ, not, List, [], ◌∷◌, take, Some, refl, ap, subst, ◌∙◌}
use Rattle.std.specs.List.{Contains, slice_get}
use Rattle.std.proofs.lemmas.List.Elements.{Contains-append_cases}
use Rattle.history_event.specs.declared.event.CloseAnswer.TheVariants as closes
use Rattle.history_event.specs.declared.event.Event.{Event}
use Rattle.history_event.specs.declared.event.Event.TheVariants as events
use Rattle.history_event.specs.declared.event.OpenAnswer.TheVariants as opens
use Rattle.history_event.specs.declared.event.SymAnswer.TheVariants as syms
use Rattle.history_event.specs.declared.state.Closing.{Closing}
use Rattle.history_state.specs.After.{after, after_from}
use Rattle.history_state.specs.Allowed.{Allowed}
use Rattle.history_state.specs.Legal.{Legal}
use Rattle.history_state.specs.Setting.{Setting}
use Rattle.history_state.specs.State.{State}
use Rattle.history_state.specs.Step.{closing_of, die, initialise, is_closing, loaded, lower, step, unmap}
use Rattle.history_state.specs.Lemmas.Lists.{from_filter, none_in, only_in}
use Rattle.world_laws.specs.RunMoments.OfJournal.{WasClosed}
use Rattle.world_laws.proofs.RunMoments.Listed.{all_were}

record ClosedBy (e : Event) (c : Closing) : Type 0 where
  pub handle : ℕ
  pub event : e ≡ events.Close c.hart handle (closes.Done c.set)

closing_is : (hart handle : ℕ) (set : List ℕ) (c : Closing) → Contains (closing_of hart set) c → ClosedBy (events.Close hart handle (closes.Done set)) c
closing_is hart handle [] c there = absurd (none_in c there)
closing_is hart handle (d ∷ rest) c there =
    subst (ClosedBy (events.Close hart handle (closes.Done (d ∷ rest)))) (only_in (record { hart = hart; set = d ∷ rest }) c there)
    (record { handle = handle; event = refl })

closed_by : (s : State) (e : Event) (c : Closing) → Contains (step s e).closings c → Contains s.closings c ⊎ ClosedBy e c
unfolding loaded die lower unmap initialise
closed_by s (events.Open hart ask (opens.Done id root added ranges)) c there = inl there
closed_by s (events.Open hart ask opens.Absent) c there = inl there
closed_by s (events.Open hart ask (opens.Refused fault)) c there = inl there
closed_by s (events.Close hart handle (closes.Done set)) c there = ⊎_elim
    (λ (old : Contains s.closings c). inl old)
    (λ (new : Contains (closing_of hart set) c). inr (closing_is hart handle set c new))
    (Contains-append_cases s.closings (closing_of hart set) c there)
closed_by s (events.Close hart handle (closes.Refused fault)) c there = inl there
closed_by s (events.Unmapped hart set) c there = inl (from_filter (λ q. not (is_closing hart set q)) s.closings c there).0
closed_by s (events.Grant number hart owner slot choice value) c there = inl there
closed_by s (events.Bound number) c there = inl there
closed_by s (events.Lost number saw) c there = inl there
closed_by s (events.Unresolved hart owner slot choice) c there = inl there
closed_by s (events.Sym hart ask (syms.Found serial index value)) c there = inl there
closed_by s (events.Sym hart ask (syms.Refused fault)) c there = inl there
closed_by s (events.Tls hart owner address) c there = inl there
closed_by s (events.Init hart object) c there = inl there
closed_by s (events.Fini hart object) c there = inl there
closed_by s (events.Wrote hart bytes) c there = inl there
closed_by s (events.Told hart fault) c there = inl there
closed_by s (events.Ended hart reason) c there = inl there

none_closed : (c : Closing) → Contains (after []).closings c → ⊥
unfolding after_from
none_closed c there = none_in c there

module _ (w : Setting) (journal : List Event) (legal : Legal w journal) where
  allowed : (k : ℕ) (e : Event) → slice_get journal k ≡ Some e → Allowed w (take k journal) e
  unfolding Legal
  allowed = legal

  closed_at : (k : ℕ) (e : Event) (c : Closing) → slice_get journal k ≡ Some e → ClosedBy e c → WasClosed journal c
  closed_at k e c at x =
      let here : slice_get journal k ≡ Some (events.Close c.hart x.handle (closes.Done c.set)) = at ∙ ap (λ (d : Event). Some d) x.event in
      record { place = k; handle = x.handle; at = here; unneeded = allowed k (events.Close c.hart x.handle (closes.Done c.set)) here }

  pub was_closed : (c : Closing) → Contains (after journal).closings c → WasClosed journal c
  was_closed = all_were (λ (s : State). s.closings) (WasClosed journal) journal none_closed (λ k e c at were there. ⊎_elim
      (λ (was : Contains (after (take k journal)).closings c). were c was)
      (λ (by : ClosedBy e c). closed_at k e c at by)
      (closed_by (after (take k journal)) e c there))
