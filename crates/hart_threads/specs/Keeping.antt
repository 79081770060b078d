-- The blocks of thread-local storage that a hart keeps, beside its trail and the journal.
use Rattle.std.specs.Prelude.{◌≡◌, ℕ, Bool, true, false, ◌==◌, if◌then◌else◌, Option, Some, None}
use Rattle.word_rule.specs.declared.view.HartView.{HartView}
use Rattle.word_rule.specs.declared.view.TrailItem.TheVariants.{Generation as ReadGeneration}
use Rattle.word_rule.specs.HartSteps.{entered}
use Rattle.word_rule.specs.Views.{NoneLater, known_of, last_block}
use Rattle.tls_blocks.specs.Blocks.{BlockTable, block_at}
use Rattle.history_calls.specs.Gives.{variable_at}
use Rattle.hart_moves.specs.Due.{back}
use Rattle.hart_moves.specs.Harts.{HartState}
use Rattle.hart_moves.specs.Moves.{freed, returning, spent}

-- what is kept of a module, if the blocks were last compared at this generation
abbrev pub kept_in : BlockTable → (generation number : ℕ) → Option ℕ
kept_in blocks generation number = if blocks.generation == generation then block_at blocks.entries number else None

-- a block answers the call; without one nothing is done
abbrev pub Answers : (offset : ℕ) → HartState → HartState → Option ℕ → Bool → Type 0
Answers offset b c (Some block) result = (result ≡ true) × (c ≡ spent (returning (back b) (variable_at block offset) (freed b)))
Answers offset b c None result = (result ≡ false) × (c ≡ b)

-- the generation was read for the module, none later than which is known, and the hart answers itself with the block that it keeps at that generation
pub record ReadsBlock (before now : HartView) (blocks : BlockTable) (number offset : ℕ) (b c : HartState) (result : Bool) : Type 0 where
  pub generation : ℕ
  pub view : now ≡ entered (ReadGeneration generation number (last_block generation number before.lane.taken)) before
  pub latest : NoneLater generation (known_of before.lane)
  pub answers : Answers offset b c (kept_in blocks generation number) result
