-- What is asked of the definitions of a name: for the code of this crate alone.
use Rattle.std.specs.Prelude.{ℕ, Bool, false, not, slice_get}
use Rattle.std.specs.Option.{option_map_or}
use Rattle.ld_base.specs.declared.linking.Want.{Want}
use Rattle.ld_base.specs.declared.object.Object.{Object}
use Rattle.ld_base.specs.Pick.{is_wanted}
use Rattle.ld_base.specs.Symbol.{is_hidden_version}

-- the version of the definition at an index is one that is wanted
abbrev pub is_wanted_at : Object → Want → ℕ → Bool
is_wanted_at o want k = option_map_or (is_wanted o want) (slice_get o.symbols k) false

-- it isn't hidden
abbrev pub in_sight_at : Object → ℕ → Bool
in_sight_at o k = option_map_or (λ s. not (is_hidden_version s)) (slice_get o.symbols k) false
