-- Whether an object is mapped.
use Rattle.std.proofs.Common.{◌≡◌, ℕ, Bool, true, false, ◌||◌, cond, eqb, List, [], ◌∷◌, map, Some, refl}
use Rattle.std.specs.Option.{is_some}
use Rattle.history_graph.specs.Initialised.{is_one_of}
use Rattle.history_state.specs.Objects.{serial_of}
use Rattle.ld_base.specs.declared.linking.Loaded.{Loaded}
use Rattle.scope_rule.specs.Loading.{with_serial}

pub found_is : (objects : List Loaded) (serial : ℕ) → is_some (with_serial objects serial) ≡ is_one_of (map serial_of objects) serial
found_is [] serial = refl
found_is (o ∷ rest) serial = by (eqb o.serial serial) (found_is rest serial)
  where
    by : (b : Bool) → is_some (with_serial rest serial) ≡ is_one_of (map serial_of rest) serial
        → is_some (cond b (Some o) (with_serial rest serial)) ≡ (b || is_one_of (map serial_of rest) serial)
    by true e = refl
    by false e = e
