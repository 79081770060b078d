-- An object that is there, and nothing else: no pages, no modules and no relocations.
use Rattle.std.proofs.Common.{◌≡◌, ℕ, Bool, false, List, [], None, refl, sym, ap, subst}
use Rattle.history_event.specs.declared.event.OpenAsk.{OpenAsk}
use Rattle.history_state.specs.Areas.{Area, AreGiven, areas, free_pages}
use Rattle.history_state.specs.Objects.{is_startup}
use Rattle.history_state.specs.Opening.{Finds, Loads, refused}
use Rattle.history_state.specs.Relocating.{relocation_fault}
use Rattle.history_state.specs.Setting.{Setting}
use Rattle.history_state.specs.State.{State}

none_wanted : (w : Setting) (s : State) → is_startup s ≡ false → areas (is_startup s) s.statics w.machine.harts [] ≡ []
none_wanted w s started = ap (λ (first : Bool). areas first s.statics w.machine.harts []) started

none_refused : (s : State) (hart id root : ℕ) (ask : OpenAsk) → refused s hart ask id root [] [] ≡ None
unfolding relocation_fault
none_refused s hart id root ask = refl

pub there_alone : (w : Setting) (s : State) (hart id root : ℕ) (ask : OpenAsk) (name : List ℕ) → is_startup s ≡ false → Finds w s hart ask name id root []
    → Loads w s hart ask name id root [] []
there_alone w s hart id root ask name started finds = record {
  news = [];
  finds = finds;
  versions = refl;
  storage = record { same = refl; modules = tt };
  placed = record {
    left = free_pages s.ranges;
    given = subst (λ (xs : List Area). AreGiven (free_pages s.ranges) xs [] (free_pages s.ranges)) (sym (none_wanted w s started)) refl;
    based = tt;
  };
  relocated = none_refused s hart id root ask;
}
