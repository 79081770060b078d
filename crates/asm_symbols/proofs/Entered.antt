-- The entries of symbols, one more, and what is looked up for them.
use Rattle.std.proofs.Common.{◌≡◌, ◌∙◌, ap, sym, ℕ, ◌+◌, ◌≤◌, Bool, true, false, nat_lt, List, [], ◌∷◌, ◌++◌, length, append_assoc, Some, None, cond, refl, arith}
use Rattle.std.specs.Prelude.{find, position, slice_get}
use Rattle.std.specs.List.{position_or_len}
use Rattle.std.proofs.lemmas.Bool.Decides.{nat_tests}
use Rattle.std.proofs.lemmas.List.Folds.{find_at}
use Rattle.std.proofs.lemmas.Option.{slice_get_past}
use Rattle.asm_write.specs.declared.contents.SymbolEntry.{SymbolEntry}
use Rattle.asm_statement.specs.declared.line.Line.{Line}
use Rattle.asm_layout.specs.declared.uses.Exported.{Exported}
use Rattle.asm_layout.specs.Labels.{defines}
use Rattle.asm_layout.specs.Symbols.{import_entry, import_entries, export_entry, export_entries, label_size, size_of_line}
use Rattle.asm_layout.specs.Versions.{word}
use Rattle.asm_layout.proofs.Offsets.{cut_imports, cut_exports}

pub import_more : (lines : List Line) (entries whole : List SymbolEntry) (one : SymbolEntry) (at next : ℕ) (name : List ℕ) (rest : List (List ℕ))
    → one ≡ import_entry lines at name → next ≡ word (at + length name + 1) → entries ++ import_entries lines at (name ∷ rest) ≡ whole
    → (entries ++ one ∷ []) ++ import_entries lines next rest ≡ whole
import_more lines entries whole one at next name rest is behind all =
    append_assoc entries (one ∷ []) (import_entries lines next rest)
    ∙ ap (λ (first : SymbolEntry). entries ++ first ∷ import_entries lines next rest) is
    ∙ ap (λ (tail : List SymbolEntry). entries ++ import_entry lines at name ∷ tail)
    (ap (λ (m : ℕ). import_entries lines m rest) behind ∙ cut_imports lines (at + length name + 1) rest)
    ∙ all

pub export_more : (lines : List Line) (entries whole : List SymbolEntry) (one : SymbolEntry) (at next : ℕ) (exported : Exported) (rest : List Exported)
    → one ≡ export_entry lines at exported → next ≡ word (at + length exported.name + 1) → entries ++ export_entries lines at (exported ∷ rest) ≡ whole
    → (entries ++ one ∷ []) ++ export_entries lines next rest ≡ whole
export_more lines entries whole one at next exported rest is behind all =
    append_assoc entries (one ∷ []) (export_entries lines next rest)
    ∙ ap (λ (first : SymbolEntry). entries ++ first ∷ export_entries lines next rest) is
    ∙ ap (λ (tail : List SymbolEntry). entries ++ export_entry lines at exported ∷ tail)
    (ap (λ (m : ℕ). export_entries lines m rest) behind ∙ cut_exports lines (at + length exported.name + 1) rest)
    ∙ all

-- what is found stands at its place
pub found_first : {X : Type 0} (p : X → Bool) (xs : List X) (k : ℕ) → Some k ≡ position p xs → find p xs ≡ slice_get xs k
found_first p xs k is =
    let first = position_or_len p xs in
    let P : Bool → Type 0 = λ there. Some k ≡ cond there (Some first) None → slice_get xs first ≡ slice_get xs k in
    let cases : (there : Bool) → P there = λ there. elim there as P [
      | true ↦ λ e. let same : k ≡ first = cc in ap (slice_get xs) (sym same)
      | false ↦ λ e. absurd (cc e)
    ] in
    find_at p xs ∙ cases (nat_lt first (length xs)) is

pub found_nowhere : {X : Type 0} (p : X → Bool) (xs : List X) → None ≡ position p xs → find p xs ≡ None
found_nowhere p xs is =
    let first = position_or_len p xs in
    let P : Bool → Type 0 = λ there. nat_lt first (length xs) ≡ there → None ≡ cond there (Some first) None → slice_get xs first ≡ None in
    let cases : (there : Bool) → P there = λ there. elim there as P [
      | true ↦ λ e h. absurd (cc h)
      | false ↦ λ e h. slice_get_past xs first (beyond first (length xs) e)
    ] in
    find_at p xs ∙ cases (nat_lt first (length xs)) refl is
  where
    beyond : (a b : ℕ) → nat_lt a b ≡ false → b ≤ a
    beyond a b e = grind (arith, nat_tests)

pub size_there : (lines : List Line) (name : List ℕ) (k : ℕ) → Some k ≡ position (defines name) lines
    → size_of_line lines name k (slice_get lines k) ≡ label_size lines name
unfolding label_size
size_there lines name k is = ap (size_of_line lines name k) (sym (found_first (defines name) lines k is)) ∙ rw (← is) refl

pub size_nowhere : (lines : List Line) (name : List ℕ) → None ≡ position (defines name) lines → 0 ≡ label_size lines name
unfolding label_size
size_nowhere lines name is = rw (← is) refl
