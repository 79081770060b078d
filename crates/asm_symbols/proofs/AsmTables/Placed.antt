-- Where labels stand, by what is looked up.
use Rattle.std.proofs.Common.{◌≡◌, ℕ, List, Some, None, refl}
use Rattle.std.specs.Prelude.{position}
use Rattle.asm_statement.specs.declared.line.Line.{Line}
use Rattle.asm_layout.specs.Labels.{defines, label}
use Rattle.asm_layout.specs.Places.{place_at}

pub label_there : (lines : List Line) (name : List ℕ) (line : ℕ) → Some line ≡ position (defines name) lines → Some (place_at lines line) ≡ label lines name
unfolding label
label_there lines name line e = rw (← e) refl

pub label_missing : (lines : List Line) (name : List ℕ) → None ≡ position (defines name) lines → None ≡ label lines name
unfolding label
label_missing lines name e = rw (← e) refl
