-- A line without a fault passes each test.
use Rattle.std.proofs.Common.{◌≡◌, ◌∙◌, ap, sym, refl, ℕ, Bool, true, false, not, List, [], ◌∷◌, ◌++◌, length, take}
use Rattle.std.specs.Prelude.{Some, None, slice_get}
use Rattle.ld_base.specs.declared.fault.AsmCause.{AsmCause}
use Rattle.asm_statement.specs.declared.line.Line.{Line}
use Rattle.asm_layout.specs.Faults.{HasNoFault, fault_at, fault_of, first_fault, for_statement, line_fault, statement_fits, statement_is_known, statement_may_stand}
use Rattle.asm_layout.specs.Labels.{defined_by, is_taken}
use Rattle.asm_layout.specs.Places.{place_at}

all_pass : (a b c d : Bool) (w x y z : AsmCause) → first_fault ((a, w) ∷ (b, x) ∷ (c, y) ∷ (d, z) ∷ []) ≡ None
    → (a ≡ true) × ((c ≡ true) × (d ≡ true))
all_pass true true true true w x y z none = (refl, (refl, refl))
all_pass true true true false w x y z none = absurd (cc none)
all_pass true true false d w x y z none = absurd (cc none)
all_pass true false c d w x y z none = absurd (cc none)
all_pass false b c d w x y z none = absurd (cc none)

abbrev pub Passes : List Line → ℕ → Line → Type 0
Passes lines k line = (for_statement (statement_fits lines k) line.statement ≡ true)
    × ((for_statement (statement_is_known lines) line.statement ≡ true)
    × (for_statement (statement_may_stand (place_at lines k).section) line.statement ≡ true))

pub got_at : (before : List Line) (line : Line) (rest : List Line) → slice_get (before ++ line ∷ rest) (length before) ≡ Some line
got_at [] line rest = refl
got_at (first ∷ before) line rest = got_at before line rest

pub passes : (lines : List Line) (k : ℕ) (line : Line) → HasNoFault lines → slice_get lines k ≡ Some line → Passes lines k line
unfolding fault_at
passes lines k line faultless is =
    let none : line_fault lines k line ≡ None = ap (fault_of lines k) (sym is) ∙ faultless k in
    all_pass (for_statement (statement_fits lines k) line.statement) (not (is_taken (take k lines) (defined_by line)))
    (for_statement (statement_is_known lines) line.statement) (for_statement (statement_may_stand (place_at lines k).section) line.statement) _ _ _ _ none
