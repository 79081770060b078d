-- How far lines reach, one line more before the others.
use Rattle.std.proofs.Common.{◌≡◌, ℕ, suc, ◌+◌, ◌-◌, ◌<◌, ◌≤◌, ◌&&◌, nat_lt, Bool, true, false, List, ◌∷◌, length, get_or, set, drop, refl, sym, ap, ◌∙◌, add-one, arith}
use Rattle.std.specs.Prelude.{if◌then◌else◌}
use Rattle.std.proofs.Math.Seq.{drop-cons}
use Rattle.std.proofs.lemmas.Bool.Decides.{nat_tests}
use Rattle.std.proofs.lemmas.List.{get_or-set_same, get_or-set_other, length-set}
use Rattle.asm_statement.specs.declared.directive.Section.{Section}
use Rattle.asm_statement.specs.declared.line.Line.{Line}
use Rattle.asm_layout.specs.Places.{is_section, place_at}
use Rattle.asm_layout.specs.Symbols.{next_offset, size_behind}
use Rattle.asm_symbols.specs.declared.label_sizes.Ends.{Ends}
use Rattle.asm_symbols.specs.Reaches.{defines_some, end_of, AreEndsFrom, AreSizesFrom}

from_line : (lines : List Line) (k : ℕ) (line : Line) → k < length lines → line ≡ get_or lines k line → drop k lines ≡ line ∷ drop (k + 1) lines
from_line lines k line below is =
    drop-cons lines k line below ∙ ap (λ (x : Line). x ∷ drop (suc k) lines) (sym is) ∙ ap (λ (n : ℕ). line ∷ drop n lines) (sym (add-one k))

pub ends_before : (lines : List Line) (k : ℕ) (line : Line) (old new : Ends) → k < length lines → line ≡ get_or lines k line → AreEndsFrom lines (k + 1) old
    → ((section : Section) → end_of new section
    ≡ (if is_section section (place_at lines k).section && defines_some line then (place_at lines k).offset else end_of old section))
    → AreEndsFrom lines k new
ends_before lines k line old new below is are made section =
    made section
    ∙ ap (λ (n : ℕ). if is_section section (place_at lines k).section && defines_some line then (place_at lines k).offset else n) (are section)
    ∙ ap (next_offset lines section k) (sym (from_line lines k line below is))

pub sizes_before : (lines : List Line) (k : ℕ) (sizes : List ℕ) (size : ℕ) → k < length lines → AreSizesFrom lines (k + 1) sizes → size ≡ size_behind lines k
    → AreSizesFrom lines k (set sizes k size)
sizes_before lines k sizes size below are is = record {
  all = length-set sizes k size ∙ are.all;
  each = λ j from within.
      let P : Bool → Type 0 = λ here. nat_lt k j ≡ here → get_or (set sizes k size) j 0 ≡ size_behind lines j in
      let cases : (here : Bool) → P here = λ here. elim here as P [
        | true ↦ λ e.
            let behind : k + 1 ≤ j = grind (arith, nat_tests) in
            get_or-set_other sizes k j size 0 (λ same. absurd (omega arith)) ∙ are.each j behind within
        | false ↦ λ e.
            let low : j ≤ k = grind (arith, nat_tests) in
            let same : j ≡ k = omega arith in
            let room : k < length sizes = rw are.all below in
            rw same (get_or-set_same sizes k size 0 room ∙ is)
      ] in
      cases (nat_lt k j) refl;
}
