-- What shows where blocks of thread-local storage stand.
use Rattle.std.specs.Prelude.{◌≡◌, ℕ, ◌+◌, List, find}
use Rattle.std.specs.Option.{option_map_or}
use Rattle.link_lists.specs.LateBlocksPart.Blocks.{BlockList}
use Rattle.history_event.specs.declared.event.Range.{Range}
use Rattle.history_state.specs.State.{State}
use Rattle.history_state.specs.Storage.{is_static_area}
use Rattle.tls_blocks.specs.Numbers.{ModuleTable}

-- they are those of the state
pub record ShowsBlocks (s : State) (reserved : List Range) (table : ModuleTable) (late : BlockList) : Type 0 where
  pub ranges : s.ranges ≡ reserved
  pub modules : s.modules ≡ table.modules
  pub tp : s.statics.tp ≡ table.tp
  pub blocks : s.blocks ≡ late.blocks

-- the address at an offset behind a hart's tp
abbrev pub static_at : List Range → ℕ → ℕ → ℕ → ℕ
static_at ranges tp hart offset = option_map_or (λ r. r.address + tp) (find (λ r. is_static_area hart r.purpose) ranges) 0 + offset
