-- Words that stand as operands.
use Rattle.std.specs.Prelude.{ℕ, Bool, true, false, List, [], ◌∷◌, Option, codes}
use Rattle.std.specs.Option.{option_map}
use Rattle.asm_statement.specs.declared.instruction.FenceSet.{FenceSet}
use Rattle.asm_statement.specs.AsmWords.Table.{named}
use Rattle.asm_statement.specs.declared.directive.ObjectKind.{ObjectKind}
use Rattle.asm_statement.specs.declared.directive.ObjectKind.TheVariants as kinds
use Rattle.asm_statement.specs.declared.directive.HashKind.{HashKind}
use Rattle.asm_statement.specs.declared.directive.HashKind.TheVariants as hashes

-- what a fence orders: input, output, reads and writes, their letters in this order
abbrev pub fence_set_rows : List (List ℕ × (Bool × Bool × Bool × Bool))
fence_set_rows =
    (codes "i", (true, false, false, false)) ∷ (codes "o", (false, true, false, false)) ∷ (codes "io", (true, true, false, false)) ∷
    (codes "r", (false, false, true, false)) ∷ (codes "ir", (true, false, true, false)) ∷ (codes "or", (false, true, true, false)) ∷
    (codes "ior", (true, true, true, false)) ∷ (codes "w", (false, false, false, true)) ∷ (codes "iw", (true, false, false, true)) ∷
    (codes "ow", (false, true, false, true)) ∷ (codes "iow", (true, true, false, true)) ∷ (codes "rw", (false, false, true, true)) ∷
    (codes "irw", (true, false, true, true)) ∷ (codes "orw", (false, true, true, true)) ∷ (codes "iorw", (true, true, true, true)) ∷
    []

unfoldable pub fence_set : List ℕ → Option FenceSet
fence_set word = option_map (λ letters. record { input = letters.0; output = letters.1; reads = letters.2; writes = letters.3 }) (named word fence_set_rows)

-- kinds of objects
abbrev pub kind_rows : List (List ℕ × ObjectKind)
kind_rows =
    (codes "lib", kinds.Library) ∷ (codes "prog", kinds.Program) ∷ (codes "exec", kinds.Executable) ∷
    []

unfoldable pub kind : List ℕ → Option ObjectKind
kind word = named word kind_rows

-- hash tables
abbrev pub hash_rows : List (List ℕ × HashKind)
hash_rows =
    (codes "gnu", hashes.Gnu) ∷ (codes "sysv", hashes.Sysv) ∷ (codes "both", hashes.Both) ∷
    []

unfoldable pub hash : List ℕ → Option HashKind
hash word = named word hash_rows
