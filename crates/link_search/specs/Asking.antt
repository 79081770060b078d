-- What a look-up of a symbol asks for.
use Rattle.std.specs.Prelude.{ℕ, List}
use Rattle.ld_base.specs.declared.linking.Want.{Want}
use Rattle.history_event.specs.declared.event.SymAsk.{SymAsk}
use Rattle.history_state.specs.Relocating.{version_of}

abbrev pub ask_of : ℕ → ℕ → List ℕ → Want → SymAsk
ask_of ns handle name want = record { ns = ns; handle = handle; name = name; version = version_of want }
