-- A run that has started: its events, as memory and its harts' first turns have them.
use Rattle.std.proofs.Common.{◌≡◌, ⊎_elim, ℕ, ◌+◌, ◌≤◌, true, false, List, [], ◌∷◌, ◌++◌, refl, sym, ap, subst, ◌∙◌}
use Rattle.std.specs.List.{Contains}
use Rattle.history_event.specs.declared.event.Event.{Event}
use Rattle.history_calls.specs.declared.link_served.startup.Setup.{Setup}
use Rattle.history_calls.specs.declared.link_served.startup.Started.{Started}
use Rattle.history_calls.specs.Laws.{StartsLegal}
use Rattle.history_calls.specs.Startup.{FindHarts, Starts, found_at, harts_of, opening}
use Rattle.history_state.specs.Accepted.{AcceptsOnly}
use Rattle.history_state.specs.After.{after, after_from}
use Rattle.history_state.specs.Lemmas.History.{after_push}
use Rattle.history_state.specs.Lemmas.Lists.{first_or_later, none_in}
use Rattle.history_state.specs.Objects.{is_startup}
use Rattle.history_state.specs.Setting.{Setting}
use Rattle.history_state.specs.State.{State}
use Rattle.history_state.specs.Step.{loaded, step}
use Rattle.hart_fits.specs.Owners.{StartHasOwners}
use Rattle.kept_words.specs.Staying.{leaves_memory}
use Rattle.word_installs.specs.Starting.{IsStartup}
use Rattle.world_turns.specs.WorldFrames.Lemmas.Starting.{start_state}

-- ---- names that were found

found_quiet : (w : Setting) (past : List Event) (h : ℕ) (names : List (List ℕ)) (found : List Event) (addresses : List ℕ)
    → FindHarts w past h names found addresses → (e : Event) → Contains found e → leaves_memory e ≡ true
found_quiet w past h names found addresses (FindHarts.no_more _ _) e there = absurd (none_in e there)
found_quiet w past h names found addresses (FindHarts.one_more _ _ name rest serial index value more others finds later) e there = ⊎_elim
    (λ (first : found_at h name serial index value ≡ e). subst (λ (x : Event). leaves_memory x ≡ true) first refl)
    (λ (behind : Contains more e). found_quiet w (past ++ found_at h name serial index value ∷ []) (h + 1) rest more others later e behind)
    (first_or_later (found_at h name serial index value) more e there)

-- ---- startup

module _ (w : Setting) (setup : Setup) (events : List Event) (started : Started) (is : Starts w setup events started) where
  abbrev first : Event
  first = opening setup is.root is.added is.ranges

  pub machine_harts : w.machine.harts ≡ harts_of setup
  machine_harts = ap (λ (v : Setting). v.machine.harts) is.set_up

  -- no hart has ended
  pub none_ended : (after events).endings ≡ []
  unfolding after_from loaded
  none_ended = ap (λ (s : State). s.endings) (start_state w setup events started is ∙ after_push [] first) ∙ opened (after []) nobody
    where
      opened : (s : State) → s.endings ≡ [] → (step s first).endings ≡ []
      opened s none = none

      nobody : (after []).endings ≡ []
      nobody = refl

  pub startup_is : StartsLegal → StartHasOwners → AcceptsOnly w.machine → harts_of setup ≤ 16 → is_startup (after events) ≡ false → IsStartup w events started.installs
  startup_is legal owners accepts few over = record {
    accepts = accepts;
    few = subst (λ (n : ℕ). n ≤ 16) (sym machine_harts) few;
    legal = legal w setup events started is;
    started = over;
    own = owners w setup events started is;
    first = first;
    rest = is.found;
    are = is.are;
    brings = refl;
    quiet = found_quiet w (first ∷ []) 1 setup.harts is.found is.addresses is.finds;
    installed = is.installed;
  }
