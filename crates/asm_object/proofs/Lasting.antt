-- The last line with a statement, one line more.
use Rattle.std.proofs.Common.{◌≡◌, ℕ, ◌+◌, ◌<◌, ◌≤◌, List, ◌∷◌, length, get_or, drop, sym, ap, ◌∙◌}
use Rattle.std.specs.Prelude.{is_some, if◌then◌else◌}
use Rattle.std.proofs.lemmas.List.{at_drop_more, drop_all}
use Rattle.asm_statement.specs.declared.line.Line.{Line}
use Rattle.asm_layout.specs.Object.{last_from}

pub one_more : (lines : List Line) (n last next whole : ℕ) (line : Line) → n < length lines → line ≡ get_or lines n line
    → next ≡ (if is_some line.statement then n + 1 else last) → last_from (n + 1) last (drop n lines) ≡ whole
    → last_from (n + 1 + 1) next (drop (n + 1) lines) ≡ whole
one_more lines n last next whole line below is follows before =
    ap (λ (m : ℕ). last_from (n + 1 + 1) m (drop (n + 1) lines)) follows
    ∙ ap (λ (x : Line). last_from (n + 1) last (x ∷ drop (n + 1) lines)) is
    ∙ sym (at_drop_more (λ (xs : List Line). last_from (n + 1) last xs) lines n line below) ∙ before

pub at_end : (lines : List Line) (n last whole : ℕ) → length lines ≤ n → last_from (n + 1) last (drop n lines) ≡ whole → last ≡ whole
at_end lines n last whole over all = sym (ap (last_from (n + 1) last) (drop_all n lines over)) ∙ all
