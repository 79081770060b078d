-- What startup brings, and the world that it makes.
use Rattle.std.proofs.Common.{◌≡◌, ℕ, ◌+◌, false, List, [], ◌∷◌, ◌++◌, Option, Some, refl, sym, ap, subst, ◌∙◌}
use Rattle.std.specs.List.{slice_get}
use Rattle.ld_base.specs.declared.linking.File.{File}
use Rattle.history_event.specs.declared.event.Event.{Event}
use Rattle.history_event.specs.declared.handed.HartEntry.{HartEntry}
use Rattle.history_state.specs.After.{after, after_from}
use Rattle.history_state.specs.Objects.{is_startup}
use Rattle.history_state.specs.Setting.{Setting}
use Rattle.history_state.specs.State.{State, empty_state}
use Rattle.history_state.specs.Step.{step}
use Rattle.history_calls.specs.declared.link_served.startup.Setup.{Setup}
use Rattle.history_calls.specs.declared.link_served.startup.Started.{Started}
use Rattle.history_calls.specs.Served.{AreInstalls}
use Rattle.history_calls.specs.Startup.{FindHarts, Starts, found_at, harts_of, opening}
use Rattle.history_calls.specs.Lemmas.Serving.{starts_legal}
use Rattle.link_state.specs.Table.{LinkTable}
use Rattle.link_open_plan.specs.Startup.{run_of}
use Rattle.hart_moves.specs.Starting.{starting_harts}
use Rattle.hart_seat.specs.Table.{HartTable}
use Rattle.world_answers.specs.ReturnsPart.Settling.{harts_in}
use Rattle.world_answers.specs.GuestsPart.GuestWorlds.Laws.{StartIsAt}
use Rattle.world_answers.specs.GuestsPart.GuestWorlds.Worlds.{MayBeAt, world_of}
use Rattle.rv_hart.specs.declared.doubleword.Doubleword.{Doubleword}
use Rattle.world_memory.specs.TurnAnswers.Changes.{LeaveMemory}
use Rattle.world_turns.specs.Memory.{RemakesAll}
use Rattle.world_turns.specs.Run.{IsStarted}
use Rattle.plain_world.specs.Started.{BringsFirst, IsFirstMemory, StartsAt}

-- ---- names that were found change nothing

found_same : (w : Setting) (past : List Event) (h : ℕ) (names : List (List ℕ)) (found : List Event) (addresses : List ℕ)
    → FindHarts w past h names found addresses → (s : State) → after_from s found ≡ s
unfolding after_from
found_same w past h names found addresses (FindHarts.no_more _ _) s = refl
found_same w past h names found addresses (FindHarts.one_more _ _ name rest serial index value more others finds later) s =
    found_same w (past ++ found_at h name serial index value ∷ []) (h + 1) rest more others later s

found_leave : (w : Setting) (past : List Event) (h : ℕ) (names : List (List ℕ)) (found : List Event) (addresses : List ℕ)
    → FindHarts w past h names found addresses → (s : State) → LeaveMemory s found
found_leave w past h names found addresses (FindHarts.no_more _ _) s = tt
found_leave w past h names found addresses (FindHarts.one_more _ _ name rest serial index value more others finds later) s =
    (refl, refl, found_leave w (past ++ found_at h name serial index value ∷ []) (h + 1) rest more others later s)

-- ---- what startup brings

module _ (w : Setting) (setup : Setup) (events : List Event) (started : Started) (is : Starts w setup events started) where
  abbrev first : Event
  first = opening setup is.root is.added is.ranges

  opened : after events ≡ step empty_state first
  unfolding after_from
  opened = ap after is.are ∙ found_same w (first ∷ []) 1 setup.harts is.found is.addresses is.finds (step empty_state first)

  before : step (after []) first ≡ step empty_state first
  unfolding after_from
  before = refl

  pub brings : BringsFirst events started.installs
  brings = record {
    setting = w;
    legal = starts_legal w setup events started is;
    reserved = record {
      first = first;
      behind = is.found;
      are = is.are;
      takes_none = refl;
      installed = subst (λ (s : State). AreInstalls s is.added is.ranges started.installs) (opened ∙ sym before) is.installed;
      leave = found_leave w (first ∷ []) 1 setup.harts is.found is.addresses is.finds (step (after []) first);
    };
  }

pub from_start : (events : List Event) (old new : List Doubleword) → RemakesAll (after []) events old new → RemakesAll empty_state events old new
unfolding after_from
from_start events old new remakes = remakes

-- ---- the world that starts

pub starts_at : (setup : Setup) (files : Option (List File)) (state now : LinkTable) (started : Started) (words : List Doubleword) (harts : List HartTable)
    (entry : HartEntry) → Starts (run_of setup files) setup state.events started → now ≡ state → IsFirstMemory state.events words
    → harts_in harts ≡ starting_harts setup.fuel started.functions started.entries → slice_get started.entries 0 ≡ Some entry
    → StartsAt (run_of setup files) setup (world_of now words harts) entry
starts_at setup files state now started words harts entry is same memory set first =
    subst (λ (s : LinkTable). StartsAt (run_of setup files) setup (world_of s words harts) entry) (sym same) (record {
      starts = record {
        started = started;
        starts = is;
        fresh = memory.fresh;
        are_fresh = memory.are_fresh;
        words = memory.remade;
        harts = set;
      };
      first = first;
    })

pub at_start : StartIsAt → (setup : Setup) (files : Option (List File)) (state now : LinkTable) (words : List Doubleword) (harts : List HartTable)
    → IsStarted (run_of setup files) setup (world_of now words harts) → now ≡ state → state.harts ≡ harts_of setup → is_startup (after state.events) ≡ false
    → MayBeAt now.harts setup.folders false (world_of now words harts)
at_start law setup files state now words harts starts same count started =
    subst (λ (n : ℕ). MayBeAt n setup.folders false (world_of now words harts)) (sym (ap (λ (s : LinkTable). s.harts) same ∙ count))
    (law (run_of setup files) setup (world_of now words harts) (harts_of setup) refl starts (ap (λ (s : LinkTable). is_startup (after s.events)) same ∙ started))
