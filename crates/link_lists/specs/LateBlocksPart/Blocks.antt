-- What contracts see of blocks.
use Rattle.std.specs.Prelude.{ℕ, ◌&&◌, ◌==◌, List, find, Option}
use Rattle.std.specs.Option.{option_map}
use Rattle.history_event.specs.declared.state.Block.{Block}

pub record BlockList : Type 0 where
  pub blocks : List Block
  -- how many more there is room for
  pub spare : ℕ

-- the address of a hart's block of an object's module
abbrev pub block_of : ℕ → ℕ → List Block → Option ℕ
block_of hart serial blocks = option_map (λ b. b.address) (find (λ b. b.hart == hart && b.serial == serial) blocks)
