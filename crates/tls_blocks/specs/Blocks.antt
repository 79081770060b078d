-- The blocks that a hart keeps.
use Rattle.std.specs.Prelude.{◌≡◌, ℕ, ◌≤◌, Bool, true, false, not, ◌==◌, if◌then◌else◌, List, [], ◌∷◌, ◌++◌, filter, find, Option, Some, None, All, AllPairs}
use Rattle.std.specs.Prelude.{◌≢◌, option_map}
use Rattle.history_event.specs.declared.state.Module.{Module}
use Rattle.tls_blocks.specs.declared.entry.Entry.{Entry}
use Rattle.tls_blocks.specs.declared.dtv.TlsAnswer.{TlsAnswer}
use Rattle.tls_blocks.specs.declared.dtv.TlsAnswer.TheVariants as answers
use Rattle.tls_blocks.specs.Numbers.{ModuleTable, module_at}

-- what contracts see of a hart's blocks
pub record BlockTable : Type 0 where
  pub entries : List Entry
  pub generation : ℕ
  pub spare : ℕ

-- the entry's module is there, and is still that of the same object
abbrev pub is_current : List Module → Entry → Bool
is_current modules e = elim (module_at modules e.number) [ Some m ↦ m.serial == e.serial | None ↦ false ]

-- the entries after a comparison: where the generation is another one, those whose module is another one go
abbrev pub compared : ModuleTable → BlockTable → List Entry
compared modules blocks = if blocks.generation == modules.generation then blocks.entries else filter (is_current modules.modules) blocks.entries

-- the blocks were last compared with these modules, or with earlier ones: at one generation none of them is stale
pub record FitsModules (modules : ModuleTable) (blocks : BlockTable) : Type 0 where
  pub earlier : blocks.generation ≤ modules.generation
  pub current : blocks.generation ≡ modules.generation → All (λ e. is_current modules.modules e ≡ true) blocks.entries

-- the block that is kept for a module
abbrev pub block_at : List Entry → ℕ → Option ℕ
block_at entries number = option_map (λ e. e.block) (find (λ e. e.number == number) entries)

-- the object of a module; 0 where it isn't there
abbrev pub serial_at : List Module → ℕ → ℕ
serial_at modules number = elim (module_at modules number) [ Some m ↦ m.serial | None ↦ 0 ]

-- what a hart is told of a module
abbrev pub answer_of : List Module → List Entry → ℕ → TlsAnswer
answer_of modules entries number =
    elim (module_at modules number) [
      | None ↦ answers.BadModule
      | Some m ↦ elim (block_at entries number) [ Some block ↦ answers.Block block | None ↦ answers.NeedsBlock ]
    ]

-- the entries with another one in the place of its module's old one
abbrev pub with_entry : Entry → List Entry → List Entry
with_entry e entries = filter (λ x. not (x.number == e.number)) entries ++ e ∷ []

-- no module has two entries
abbrev pub AreApart : List Entry → Type 0
AreApart entries = AllPairs (λ x y. x.number ≢ y.number) entries
