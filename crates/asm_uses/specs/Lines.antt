-- The lines that define names or make copies, as they are looked up.
use Rattle.std.specs.Prelude.{◌≡◌, ℕ, List, position}
use Rattle.asm_statement.specs.declared.line.Line.{Line}
use Rattle.asm_layout.specs.Labels.{defines}
use Rattle.asm_layout.specs.Uses.{copies}
use Rattle.asm_uses.specs.Numbers.{number_of}

-- a name's line is the first that defines it
abbrev pub AreLabelsOf : List Line → List (List ℕ × ℕ) → Type 0
AreLabelsOf lines labels = (bytes : List ℕ) → number_of labels bytes ≡ position (defines bytes) lines

-- a copy's line is the first that makes it
abbrev pub AreCopiesOf : List Line → List (List ℕ × ℕ) → Type 0
AreCopiesOf lines numbers = (bytes : List ℕ) → number_of numbers bytes ≡ position (λ line. copies bytes line.statement) lines
