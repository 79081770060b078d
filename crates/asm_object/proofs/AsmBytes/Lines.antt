-- The bytes of a section's lines, one line more.
use Rattle.std.proofs.Common.{arith, ◌==◌, true, Some, ◌≡◌, ℕ, ◌+◌, ◌<◌, List, ◌∷◌, ◌++◌, length, get_or, drop, sym, ap, ◌∙◌}
use Rattle.std.specs.Prelude.{slice_get}
use Rattle.std.proofs.lemmas.Bool.Decides.{nat_tests}
use Rattle.std.proofs.lemmas.List.{append_assoc, at_drop_more}
use Rattle.asm_write.specs.declared.starts.Starts.{Starts}
use Rattle.asm_statement.specs.declared.directive.Section.{Section}
use Rattle.asm_statement.specs.declared.line.Line.{Line}
use Rattle.asm_layout.specs.declared.place.Place.{Place}
use Rattle.asm_layout.specs.Object.{bytes_in, lines_bytes, statement_bytes}
use Rattle.asm_layout.specs.Places.{place_at, is_section}
use Rattle.asm_object.specs.AsmBytes.Numbers.{number_at, line_number, statement_number}

dropped : (lines : List Line) (n : ℕ) (line : Line) → n < length lines → line ≡ get_or lines n line → drop n lines ≡ line ∷ drop (n + 1) lines
dropped lines n line below is = at_drop_more (λ (xs : List Line). xs) lines n line below ∙ ap (λ (x : Line). x ∷ drop (n + 1) lines) (sym is)

pub one_more : (lines : List Line) (starts : Starts) (section : Section) (n : ℕ) (line : Line) (out new whole : List ℕ) → n < length lines
    → line ≡ get_or lines n line → new ≡ out ++ bytes_in lines starts section n line
    → out ++ lines_bytes lines starts section n (drop n lines) ≡ whole → new ++ lines_bytes lines starts section (n + 1) (drop (n + 1) lines) ≡ whole
one_more lines starts section n line out new whole below is grown before =
    let rest = lines_bytes lines starts section (n + 1) (drop (n + 1) lines) in
    ap (λ (bytes : List ℕ). bytes ++ rest) grown ∙ append_assoc out (bytes_in lines starts section n line) rest
    ∙ ap (λ (xs : List Line). out ++ lines_bytes lines starts section n xs) (sym (dropped lines n line below is)) ∙ before

pub same_number : (m n : ℕ) → m ≡ n → (m == n) ≡ true
same_number m n e = grind (arith, nat_tests)

-- the bytes of a line in its section, and the number that its data holds
pub in_section : (lines : List Line) (starts : Starts) (section : Section) (n : ℕ) (line : Line) (place : Place) (P : List ℕ → Type 0) → place ≡ place_at lines n
    → is_section section place.section ≡ true → P (statement_bytes lines starts n line.statement) → P (bytes_in lines starts section n line)
in_section lines starts section n line place P stands is h =
    let there : is_section section (place_at lines n).section ≡ true = ap (λ (at : Place). is_section section at.section) (sym stands) ∙ is in
    rw there h

pub at_number : (lines : List Line) (starts : Starts) (n : ℕ) (line : Line) (place : Place) → slice_get lines n ≡ Some line → place ≡ place_at lines n
    → number_at lines starts n ≡ statement_number lines starts place line.statement
unfolding number_at
at_number lines starts n line place there stands =
    ap (line_number lines starts (place_at lines n)) there ∙ ap (λ (at : Place). statement_number lines starts at line.statement) (sym stands)
