-- Pages that were given to what is wanted.
use Rattle.std.proofs.Common.{◌≡◌, ⊎_elim, ℕ, ◌+◌, Bool, true, false, cond, List, [], ◌∷◌, ◌++◌, map, Option, Some, None, sym, ap, subst, ◌∙◌}
use Rattle.std.specs.List.{Contains, range_with_len}
use Rattle.std.proofs.lemmas.List.Elements.{Contains-append_cases}
use Rattle.address_space.specs.Pages.{AllFree, without}
use Rattle.ld_base.specs.declared.linking.Loaded.{Loaded}
use Rattle.history_event.specs.declared.event.OpenAsk.{OpenAsk}
use Rattle.history_event.specs.declared.event.Range.{Range}
use Rattle.history_state.specs.Areas.{Area, AreGiven, StandsAt, Where, areas, anywhere, free_pages, has_storage, object_area, only, other_areas, stack_area, static_area, static_areas}
use Rattle.history_state.specs.Objects.{has, is_startup}
use Rattle.history_state.specs.Opening.{OpensName}
use Rattle.history_state.specs.Setting.{Setting}
use Rattle.history_state.specs.State.{State, Statics}
use Rattle.history_state.specs.Step.{goes_with, purpose_goes}
use Rattle.history_state.specs.Storage.{HaveModules, statics_with}
use Rattle.history_state.specs.Lemmas.FreePages.{without_one}
use Rattle.history_state.specs.Lemmas.Lists.{first_or_later, from_map, here, later, none_in}
use Rattle.link_spaces.specs.ReservedPagesPart.Laid.{AreLaid}

-- ---- each is free

all_free : (free : List ℕ) (pages address : ℕ) (place : Where) → StandsAt free pages place address → AllFree free address pages
all_free free pages address (anywhere align) stands = stands.fits.room
all_free free pages address (only own) stands = stands.1

laid_of : (before : List Range) (wanted : List Area) (ranges : List Range) (left : List ℕ) → AreGiven (free_pages before) wanted ranges left → AreLaid before ranges
laid_of before [] [] left given = tt
laid_of before [] (r ∷ ranges) left given = absurd given
laid_of before (a ∷ wanted) [] left given = absurd given
laid_of before (a ∷ wanted) (r ∷ ranges) left given = (
  subst (AllFree (free_pages before) r.address) (sym given.0.pages) (all_free (free_pages before) a.pages r.address a.place given.0.stands),
  laid_of (before ++ r ∷ []) wanted ranges left (subst (λ (free : List ℕ). AreGiven free wanted ranges left) (without_one before r) given.1),
)

pub are_laid : (w : Setting) (s : State) (hart : ℕ) (ask : OpenAsk) (id root : ℕ) (added : List Loaded) (ranges : List Range) (name : Option (List ℕ))
    → OpensName w s hart ask name id root added ranges → AreLaid s.ranges ranges
are_laid w s hart ask id root added ranges (Some name) opens =
    laid_of s.ranges (areas (is_startup s) (statics_with added s.statics) w.machine.harts added) ranges opens.placed.left opens.placed.given
are_laid w s hart ask id root added ranges None opens = subst (AreLaid s.ranges) (sym opens.no_pages) tt

-- ---- modules

pub have_places : (w : Setting) (s : State) (hart : ℕ) (ask : OpenAsk) (id root : ℕ) (added : List Loaded) (ranges : List Range) (name : Option (List ℕ))
    → OpensName w s hart ask name id root added ranges → HaveModules (is_startup s) s.modules s.statics added
have_places w s hart ask id root added ranges (Some name) opens = opens.storage.modules
have_places w s hart ask id root added ranges None opens = subst (HaveModules (is_startup s) s.modules s.statics) (sym opens.none) tt

-- ---- none goes with objects that were there

other_stays : (set : List ℕ) (startup : Bool) (st : Statics) (harts : ℕ) (added : List Loaded) (a : Area) → Contains (other_areas startup st harts added) a → purpose_goes set a.purpose ≡ false
other_stays set false st harts added a inside = absurd (none_in a inside)
other_stays set true st harts added a inside = ⊎_elim
    (λ (stack : Contains (map stack_area (range_with_len 0 harts)) a). let at = from_map stack_area (range_with_len 0 harts) a stack in ap (λ (x : Area). purpose_goes set x.purpose) (sym at.2))
    (λ (area : Contains (static_areas st harts added) a). by (has_storage added) area)
    (Contains-append_cases (map stack_area (range_with_len 0 harts)) (static_areas st harts added) a inside)
  where
    by : (b : Bool) → Contains (cond b (map (static_area st added) (range_with_len 0 harts)) []) a → purpose_goes set a.purpose ≡ false
    by true h = let at = from_map (static_area st added) (range_with_len 0 harts) a h in ap (λ (x : Area). purpose_goes set x.purpose) (sym at.2)
    by false h = absurd (none_in a h)

area_stays : (set : List ℕ) (startup : Bool) (st : Statics) (harts : ℕ) (added : List Loaded) → ((o : Loaded) → Contains added o → has set o.serial ≡ false)
    → (a : Area) → Contains (areas startup st harts added) a → purpose_goes set a.purpose ≡ false
area_stays set startup st harts added new a inside = ⊎_elim
    (λ (front : Contains (map object_area added) a). let at = from_map object_area added a front in ap (λ (x : Area). purpose_goes set x.purpose) (sym at.2) ∙ new at.0 at.1)
    (λ (other : Contains (other_areas startup st harts added) a). other_stays set startup st harts added a other)
    (Contains-append_cases (map object_area added) (other_areas startup st harts added) a inside)

given_stay : (set free : List ℕ) (wanted : List Area) (ranges : List Range) (left : List ℕ) → AreGiven free wanted ranges left
    → ((a : Area) → Contains wanted a → purpose_goes set a.purpose ≡ false) → (r : Range) → Contains ranges r → goes_with set r ≡ false
given_stay set free wanted [] left given stay q inside = absurd (none_in q inside)
given_stay set free [] (r ∷ ranges) left given stay q inside = absurd given
given_stay set free (a ∷ wanted) (r ∷ ranges) left given stay q inside = ⊎_elim
    (λ (e : r ≡ q). ap (goes_with set) (sym e) ∙ ap (purpose_goes set) given.0.purpose ∙ stay a (here a wanted))
    (λ (h : Contains ranges q). given_stay set (without free r.address r.pages) wanted ranges left given.1 (λ b more. stay b (later a wanted b more)) q h)
    (first_or_later r ranges q inside)

pub ranges_stay : (w : Setting) (s : State) (hart : ℕ) (ask : OpenAsk) (id root : ℕ) (added : List Loaded) (ranges : List Range) (name : Option (List ℕ)) (set : List ℕ)
    → OpensName w s hart ask name id root added ranges → ((o : Loaded) → Contains added o → has set o.serial ≡ false) → (r : Range) → Contains ranges r → goes_with set r ≡ false
ranges_stay w s hart ask id root added ranges (Some name) set opens new =
    given_stay set (free_pages s.ranges) (areas (is_startup s) (statics_with added s.statics) w.machine.harts added) ranges opens.placed.left opens.placed.given
    (area_stays set (is_startup s) (statics_with added s.statics) w.machine.harts added new)
ranges_stay w s hart ask id root added ranges None set opens new = λ r inside. absurd (none_in r (subst (λ (rs : List Range). Contains rs r) opens.no_pages inside))
