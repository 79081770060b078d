-- What the global offset table has of names, as it is looked up.
use Rattle.std.specs.Prelude.{◌≡◌, ℕ, List, Some, None, option_map, position, sum_by, if◌then◌else◌}
use Rattle.std.specs.Option.{option_or}
use Rattle.asm_layout.specs.declared.uses.GotKind.{GotKind}
use Rattle.asm_layout.specs.declared.uses.GotKind.TheVariants as gots
use Rattle.asm_layout.specs.declared.uses.GotUse.{GotUse}
use Rattle.asm_layout.specs.Uses.{same_use}
use Rattle.asm_layout.specs.Tables.{got_words}
use Rattle.asm_layout.specs.Words.{words_before}
use Rattle.asm_uses.specs.declared.got.Got.{Got}
use Rattle.asm_uses.specs.Numbers.{number_of}

-- where the words of a kind are noted
abbrev pub numbers_in : Got → GotKind → List (List ℕ × ℕ)
numbers_in got gots.Address = got.addresses
numbers_in got gots.Pair = got.pairs
numbers_in got gots.Offset = got.offsets

-- a table has these uses, and each is noted with the words before it
pub record IsGotOf (uses : List GotUse) (got : Got) : Type 0 where
  pub each : got.uses ≡ uses
  pub words : got.words ≡ sum_by (λ it. got_words it.kind) uses
  pub numbers : (it : GotUse) → number_of (numbers_in got it.kind) it.name ≡ option_map (words_before uses) (position (same_use it) uses)

-- the words so far are noted for a name, where none are
pub record Notes (kind : GotKind) (name : List ℕ) (old new : Got) : Type 0 where
  pub uses : new.uses ≡ old.uses
  pub words : new.words ≡ old.words
  pub numbers : (it : GotUse) → number_of (numbers_in new it.kind) it.name
      ≡ option_or (number_of (numbers_in old it.kind) it.name) (if same_use it (record { kind = kind; name = name }) then Some old.words else None)
