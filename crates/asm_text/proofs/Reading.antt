-- The lines that are read, and those that are left.
use Rattle.std.proofs.Common.{◌≡◌, ℕ, ◌+◌, List, [], ◌∷◌, ◌++◌, ◌-◌, ◌<◌, ◌≤◌, map, take, drop, length, slice_index_or, Result, Ok, Err, refl, sym, ap, append_assoc, append-nil, arith}
use Rattle.std.proofs.lemmas.List.{take_rest}
use Rattle.asm_grammar.specs.Reading.{read_line, read_lines, behind}
use Rattle.asm_statement.specs.declared.line.Line.{Line}
use Rattle.ld_base.specs.declared.fault.AsmCause.{AsmCause}

pushed : (done : List Line) (read : Line) (rest : Result (List Line) (ℕ × AsmCause)) → behind done (behind (read ∷ []) rest) ≡ behind (done ++ read ∷ []) rest
unfolding behind
pushed done read (Ok rest) = ap Ok (sym (append_assoc done (read ∷ []) rest))
pushed done read (Err e) = refl

-- no line is read yet
pub none_yet : (rest : Result (List Line) (ℕ × AsmCause)) → behind [] rest ≡ rest
unfolding behind
none_yet (Ok rest) = refl
none_yet (Err e) = refl

-- all lines are read
pub all_read : (done : List Line) (number : ℕ) → behind done (read_lines number []) ≡ Ok done
unfolding behind
all_read done number = ap Ok (append-nil done)

-- a line that is read goes behind those before it
pub one_more : (number : ℕ) (done : List Line) (read : Line) (line : List ℕ) (lines : List (List ℕ)) → read_line line ≡ Ok read
    → behind (done ++ read ∷ []) (read_lines (number + 1) lines) ≡ behind done (read_lines number (line ∷ lines))
unfolding behind
one_more number done read line lines e = rw e (sym (pushed done read (read_lines (number + 1) lines)))

-- a line that is none is the first
pub one_refused : (number : ℕ) (done : List Line) (cause : AsmCause) (line : List ℕ) (lines : List (List ℕ)) → read_line line ≡ Err cause
    → behind done (read_lines number (line ∷ lines)) ≡ Err (number, cause)
unfolding behind
one_refused number done cause line lines e = rw e refl

pub ruleset read_rules = (none_yet, all_read, one_more, one_refused)

-- the same where a list is left
pub stepped : {B : Type 0} (f : B → List ℕ) (number : ℕ) (done new : List Line) (read : Line) (rest : List B)
    → 1 ≤ length rest → ((d : B) → read_line (f (slice_index_or rest 0 d)) ≡ Ok read) → new ≡ done ++ read ∷ []
    → behind new (read_lines (number + 1) (map f (take (length rest - 1) (drop 1 rest)))) ≡ behind done (read_lines number (map f rest))
stepped f number done new read [] some e p = absurd (omega arith)
stepped f number done new read (x ∷ xs) some e p = rw (p, take_rest (x ∷ xs) 1) (one_more number done read (f x) (map f xs) (e x))

-- no line is left
pub ended : {B : Type 0} (f : B → List ℕ) (number : ℕ) (done : List Line) (rest : List B) → length rest < 1 → behind done (read_lines number (map f rest)) ≡ Ok done
ended f number done [] none = all_read done number
ended f number done (x ∷ xs) none = absurd (omega arith)
