-- Objects of a set, and the others.
use Rattle.std.specs.Prelude.{◌≡◌, ℕ, Bool, not, List, ◌++◌, drop, filter, take}
use Rattle.ld_base.specs.declared.linking.Loaded.{Loaded}
use Rattle.history_state.specs.Objects.{has}

abbrev pub goes : List ℕ → Loaded → Bool
goes set o = has set o.serial

abbrev pub stays : List ℕ → Loaded → Bool
stays set o = not (has set o.serial)

-- of all objects so many were taken from the front of the queue: those of the set stand behind the objects that went before, the rest behind those to come
pub record IsParted (set : List ℕ) (all queue before gone : List Loaded) (place : ℕ) : Type 0 where
  pub queue_is : queue ≡ drop place all ++ filter (stays set) (take place all)
  pub went : gone ≡ before ++ filter (goes set) (take place all)
