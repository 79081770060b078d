-- What a state holds of choices was chosen by an event of its journal.
use Rattle.std.proofs.Common.{◌≡◌, ◌⊎◌, inl, inr, ⊎_elim, ℕ, Bool, true, false, not, cond, List, [], ◌∷◌, map, take, Some, refl, sym, ap, ◌∙◌}
use Rattle.std.specs.Prelude.{◌==◌, ◌&&◌}
use Rattle.std.specs.List.{Contains, slice_get}
use Rattle.std.proofs.lemmas.List.Elements.{Contains-append_cases}
use Rattle.ld_base.specs.declared.linking.Loaded.{Loaded}
use Rattle.history_event.specs.declared.event.CloseAnswer.TheVariants as closes
use Rattle.history_event.specs.declared.event.Event.{Event}
use Rattle.history_event.specs.declared.event.Event.TheVariants as events
use Rattle.history_event.specs.declared.event.OpenAnswer.TheVariants as opens
use Rattle.history_event.specs.declared.event.OpenAsk.{OpenAsk}
use Rattle.history_event.specs.declared.event.Range.{Range}
use Rattle.history_event.specs.declared.event.SymAnswer.TheVariants as syms
use Rattle.history_event.specs.declared.state.Chosen.{Chosen}
use Rattle.history_event.specs.declared.state.Granting.{Granting}
use Rattle.history_event.specs.declared.state.Standing.{Standing}
use Rattle.history_event.specs.declared.state.Standing.TheVariants as standings
use Rattle.history_state.specs.After.{after, after_from}
use Rattle.history_state.specs.Allowed.{Allowed}
use Rattle.history_state.specs.Grants.{is_open}
use Rattle.history_state.specs.Legal.{Legal}
use Rattle.history_state.specs.Objects.{has}
use Rattle.history_state.specs.Setting.{Setting}
use Rattle.history_state.specs.State.{State}
use Rattle.history_state.specs.Step.{die, initialise, loaded, lower, settle, settled_as, step, unmap}
use Rattle.history_state.specs.Lemmas.Lists.{from_filter, from_map, none_in, only_in}
use Rattle.world_laws.specs.RunMoments.OfJournal.{WasChosen, WasGranted, opening_choice}
use Rattle.world_laws.proofs.RunMoments.Listed.{all_were}

-- ---- one event

abbrev granting : Granting → Event
granting g = events.Grant g.number g.hart g.owner g.slot g.choice g.value

-- a grant that was there, but for its standing
record Was (s : State) (g : Granting) : Type 0 where
  pub before : Granting
  pub there : Contains s.grants before
  pub same : granting before ≡ granting g

settled_same : (number : ℕ) (standing : Standing) (g : Granting) → granting (settled_as number standing g) ≡ granting g
settled_same number standing g = by (g.number == number && is_open g)
  where
    by : (t : Bool) → granting (cond t (record g { standing = standing }) g) ≡ granting g
    by true = refl
    by false = refl

settled_was : (s : State) (number : ℕ) (standing : Standing) (g : Granting) → Contains (settle number standing s).grants g → Was s g
settled_was s number standing g there =
    let x = from_map (settled_as number standing) s.grants g there in
    record { before = x.0; there = x.1; same = sym (settled_same number standing x.0) ∙ ap granting x.2 }

as_before : (s : State) (g : Granting) → Contains s.grants g → Was s g
as_before s g there = record { before = g; there = there; same = refl }

granted_by : (s : State) (e : Event) (g : Granting) → Contains (step s e).grants g → Was s g ⊎ (e ≡ granting g)
unfolding loaded die lower unmap initialise
granted_by s (events.Open hart ask (opens.Done id root added ranges)) g there = inl (as_before s g there)
granted_by s (events.Open hart ask opens.Absent) g there = inl (as_before s g there)
granted_by s (events.Open hart ask (opens.Refused fault)) g there = inl (as_before s g there)
granted_by s (events.Close hart handle (closes.Done set)) g there = inl (as_before s g there)
granted_by s (events.Close hart handle (closes.Refused fault)) g there = inl (as_before s g there)
granted_by s (events.Unmapped hart set) g there = inl (as_before s g there)
granted_by s (events.Grant number hart owner slot choice value) g there = ⊎_elim
    (λ (old : Contains s.grants g). inl (as_before s g old))
    (λ (one : Contains (new ∷ []) g). inr (ap granting (only_in new g one)))
    (Contains-append_cases s.grants (new ∷ []) g there)
  where
    new : Granting
    new = record { number = number; hart = hart; owner = owner; slot = slot; choice = choice; value = value; standing = standings.Open }
granted_by s (events.Bound number) g there = inl (settled_was s number standings.Bound g there)
granted_by s (events.Lost number saw) g there = inl (settled_was s number (standings.Lost saw) g there)
granted_by s (events.Unresolved hart owner slot choice) g there = inl (as_before s g there)
granted_by s (events.Sym hart ask (syms.Found serial index value)) g there = inl (as_before s g there)
granted_by s (events.Sym hart ask (syms.Refused fault)) g there = inl (as_before s g there)
granted_by s (events.Tls hart owner address) g there = inl (as_before s g there)
granted_by s (events.Init hart object) g there = inl (as_before s g there)
granted_by s (events.Fini hart object) g there = inl (as_before s g there)
granted_by s (events.Wrote hart bytes) g there = inl (as_before s g there)
granted_by s (events.Told hart fault) g there = inl (as_before s g there)
granted_by s (events.Ended hart reason) g there = inl (as_before s g there)

-- what an opening's new object chose
record ChosenBy (s : State) (e : Event) (c : Chosen) : Type 0 where
  pub hart : ℕ
  pub ask : OpenAsk
  pub id : ℕ
  pub root : ℕ
  pub added : List Loaded
  pub ranges : List Range
  pub event : e ≡ events.Open hart ask (opens.Done id root added ranges)
  pub object : Loaded
  pub inside : Contains added object
  pub is : c ≡ opening_choice s hart ask id root added ranges object

chosen_by : (s : State) (e : Event) (c : Chosen) → Contains (step s e).chosen c → Contains s.chosen c ⊎ ChosenBy s e c
unfolding loaded die lower unmap initialise
chosen_by s (events.Open hart ask (opens.Done id root added ranges)) c there = ⊎_elim
    (λ (old : Contains s.chosen c). inl old)
    (λ (new : Contains (map (opening_choice s hart ask id root added ranges) added) c).
    let x = from_map (opening_choice s hart ask id root added ranges) added c new in
    inr (record { hart = hart; ask = ask; id = id; root = root; added = added; ranges = ranges; event = refl; object = x.0; inside = x.1; is = sym x.2 }))
    (Contains-append_cases s.chosen (map (opening_choice s hart ask id root added ranges) added) c there)
chosen_by s (events.Open hart ask opens.Absent) c there = inl there
chosen_by s (events.Open hart ask (opens.Refused fault)) c there = inl there
chosen_by s (events.Close hart handle (closes.Done set)) c there = inl there
chosen_by s (events.Close hart handle (closes.Refused fault)) c there = inl there
chosen_by s (events.Unmapped hart set) c there = inl (from_filter (λ q. not (has set q.owner)) s.chosen c there).0
chosen_by s (events.Grant number hart owner slot choice value) c there = inl there
chosen_by s (events.Bound number) c there = inl there
chosen_by s (events.Lost number saw) c there = inl there
chosen_by s (events.Unresolved hart owner slot choice) c there = inl there
chosen_by s (events.Sym hart ask (syms.Found serial index value)) c there = inl there
chosen_by s (events.Sym hart ask (syms.Refused fault)) c there = inl there
chosen_by s (events.Tls hart owner address) c there = inl there
chosen_by s (events.Init hart object) c there = inl there
chosen_by s (events.Fini hart object) c there = inl there
chosen_by s (events.Wrote hart bytes) c there = inl there
chosen_by s (events.Told hart fault) c there = inl there
chosen_by s (events.Ended hart reason) c there = inl there

-- ---- a journal

none_granted : (g : Granting) → Contains (after []).grants g → ⊥
unfolding after_from
none_granted g there = none_in g there

none_chosen : (c : Chosen) → Contains (after []).chosen c → ⊥
unfolding after_from
none_chosen c there = none_in c there

module _ (w : Setting) (journal : List Event) (legal : Legal w journal) where
  allowed : (k : ℕ) (e : Event) → slice_get journal k ≡ Some e → Allowed w (take k journal) e
  unfolding Legal
  allowed = legal

  granted_at : (k : ℕ) (g : Granting) → slice_get journal k ≡ Some (granting g) → WasGranted journal g
  granted_at k g at = record { place = k; at = at; chosen = allowed k (granting g) at }

  -- which other grant it was before it was settled doesn't matter
  granted_alike : (q g : Granting) → granting q ≡ granting g → WasGranted journal q → WasGranted journal g
  granted_alike q g same x = granted_at x.place g (x.at ∙ ap (λ (e : Event). Some e) same)

  pub was_granted : (g : Granting) → Contains (after journal).grants g → WasGranted journal g
  was_granted = all_were (λ (s : State). s.grants) (WasGranted journal) journal none_granted (λ k e g at were there. ⊎_elim
      (λ (was : Was (after (take k journal)) g). granted_alike was.before g was.same (were was.before was.there))
      (λ (is : e ≡ granting g). granted_at k g (at ∙ ap (λ (d : Event). Some d) is))
      (granted_by (after (take k journal)) e g there))

  chosen_at : (k : ℕ) (e : Event) (c : Chosen) → slice_get journal k ≡ Some e → ChosenBy (after (take k journal)) e c → WasChosen journal c
  chosen_at k e c at x = record {
    place = k;
    hart = x.hart;
    ask = x.ask;
    id = x.id;
    root = x.root;
    added = x.added;
    ranges = x.ranges;
    at = at ∙ ap (λ (d : Event). Some d) x.event;
    object = x.object;
    inside = x.inside;
    is = x.is;
  }

  pub was_chosen : (c : Chosen) → Contains (after journal).chosen c → WasChosen journal c
  was_chosen = all_were (λ (s : State). s.chosen) (WasChosen journal) journal none_chosen (λ k e c at were there. ⊎_elim
      (λ (was : Contains (after (take k journal)).chosen c). were c was)
      (λ (by : ChosenBy (after (take k journal)) e c). chosen_at k e c at by)
      (chosen_by (after (take k journal)) e c there))
