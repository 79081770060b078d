-- Where nothing is read a name that no object has leads nowhere.
use Rattle.std.proofs.Common.{◌≡◌, ℕ, Bool, true, false, ◌||◌, List, [], ◌∷◌, Option, Some, None, refl, sym, ap, ◌∙◌}
use Rattle.std.specs.Option.{option_or}
use Rattle.std.specs.Prelude.{if◌then◌else◌, ◌&&◌, ◌==◌}
use Rattle.ld_base.specs.declared.linking.Loaded.{Loaded}
use Rattle.scope_rule.specs.Finding.{Reading, at_path, at_soname, candidates, is_path, with_path, with_soname}
use Rattle.scope_rule.specs.Load.{Found, Load, among, by_reading, find_opened, find_path, find_paths, nowhere, or_else}
use Rattle.scope_rule.specs.Loads.{ReadsNothing, at_first, named_there}

first_none : (x y : Option Loaded) → option_or x y ≡ None → x ≡ None
first_none None y e = refl
first_none (Some o) y e = e

second_none : (x y : Option Loaded) → option_or x y ≡ None → y ≡ None
second_none None y e = e
second_none (Some o) y e = absurd (let d : Some o ≡ None = e in cc)

module _ (load : Load) (other : load.program ≡ false) (nothing : ReadsNothing load) where
  path_nowhere : (path : List ℕ) → with_path load.there path ≡ None → find_path load [] path ≡ nowhere
  unfolding find_path
  path_nowhere path none =
      ap (λ (o : Option Loaded). among load o (at_path [] path) (by_reading path (load.reading path))) none
      ∙ ap (λ (r : Reading). among load None (at_path [] path) (by_reading path r)) (nothing path)

  paths_nowhere : (paths : List (List ℕ)) → at_first load.there paths ≡ None → find_paths load [] paths ≡ nowhere
  paths_nowhere [] e = refl
  paths_nowhere (path ∷ paths) e =
      ap (λ (f : Found). or_else f (find_paths load [] paths)) (path_nowhere path (first_none (with_path load.there path) (at_first load.there paths) e))
      ∙ paths_nowhere paths (second_none (with_path load.there path) (at_first load.there paths) e)

  by_name : (path : Bool) → option_or (if path then None else with_soname load.there load.name) (at_first load.there (candidates load.folders load.name)) ≡ None
      → (if path then find_paths load [] (candidates load.folders load.name)
      else among load (with_soname load.there load.name) (at_soname [] load.name) (find_paths load [] (candidates load.folders load.name))) ≡ nowhere
  by_name true e = paths_nowhere (candidates load.folders load.name) e
  by_name false e =
      ap (λ (o : Option Loaded). among load o (at_soname [] load.name) (find_paths load [] (candidates load.folders load.name)))
      (first_none (with_soname load.there load.name) (at_first load.there (candidates load.folders load.name)) e)
      ∙ paths_nowhere (candidates load.folders load.name) (second_none (with_soname load.there load.name) (at_first load.there (candidates load.folders load.name)) e)

  opened_nowhere : named_there load ≡ None → find_opened load [] load.name ≡ nowhere
  unfolding find_opened
  opened_nowhere e = by_name (is_path load.name)
      (ap (λ (program : Bool). option_or (if program || is_path load.name then None else with_soname load.there load.name)
      (at_first load.there (if program && 0 == 0 then load.name ∷ [] else candidates load.folders load.name))) (sym other) ∙ e)

pub leads_nowhere : (load : Load) → load.program ≡ false → ReadsNothing load → named_there load ≡ None → find_opened load [] load.name ≡ nowhere
leads_nowhere load other nothing none = opened_nowhere load other nothing none
