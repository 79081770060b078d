-- How far lines fill the sections, one line more.
use Rattle.std.proofs.Common.{◌≡◌, ℕ, ◌+◌, ◌<◌, List, [], ◌∷◌, ◌++◌, length, get_or, take, refl, sym, ap, ◌∙◌, arith}
use Rattle.std.proofs.Common.{below_more}
use Rattle.std.specs.Prelude.{if◌then◌else◌}
use Rattle.std.specs.List.{fold}
use Rattle.std.proofs.lemmas.List.{length-append, take_more, get_or_push, get_or_append_left}
use Rattle.std.proofs.lemmas.List.Sums.{fold-append}
use Rattle.asm_statement.specs.declared.directive.Section.{Section}
use Rattle.asm_statement.specs.declared.directive.Section.TheVariants as sections
use Rattle.asm_statement.specs.declared.line.Line.{Line}
use Rattle.asm_layout.specs.declared.place.Place.{Place}
use Rattle.asm_layout.specs.Places.{section_number, is_section, next_section, section_after, growth, filling, filled, size_at, place_at}
use Rattle.asm_places.specs.declared.counter.Counter.{Counter}
use Rattle.asm_places.specs.Counts.{filled_of, Counts, Advances, ArePlacesTo}

section_push : (lines : List Line) (line : Line) → section_after (lines ++ line ∷ []) ≡ next_section (section_after lines) line
unfolding section_after
section_push lines line = fold-append next_section sections.Text lines (line ∷ [])

-- the section that is counted with is that of the lines
same_from : (s : Section) (lines : List Line) (before : Section × ℕ)
    → (fold (λ before line. growth s line before) before lines).0 ≡ fold next_section before.0 lines
same_from s [] before = refl
same_from s (line ∷ lines) before = same_from s lines (growth s line before)

same_section : (s : Section) (lines : List Line) → (filling s lines).0 ≡ section_after lines
unfolding filling section_after
same_section s lines = same_from s lines (sections.Text, 0)

filled_push : (s : Section) (lines : List Line) (line : Line)
    → filled s (lines ++ line ∷ [])
    ≡ (if is_section s (section_after lines) then filled s lines + size_at (filled s lines) line.statement else filled s lines)
unfolding filling
filled_push s lines line =
    ap (λ (after : Section × ℕ). after.1) (fold-append (λ before line. growth s line before) (sections.Text, 0) lines (line ∷ []))
    ∙ ap (λ (section : Section). if is_section s section then filled s lines + size_at (filled s lines) line.statement else filled s lines)
    (same_section s lines)

-- what a line makes of what the lines before it leave
pub counted_more : (lines : List Line) (line : Line) (old new : Counter) → Counts lines old → Advances line old new → Counts (lines ++ line ∷ []) new
counted_more lines line old new counts more = record {
  section = more.section ∙ ap (λ (section : Section). next_section section line) counts.section ∙ sym (section_push lines line);
  filled = λ s. more.filled s ∙ rw (counts.section, counts.filled s) (sym (filled_push s lines line));
}

-- the same at the line behind the first n
pub counted_line : (lines : List Line) (n : ℕ) (line : Line) (old new : Counter) → n < length lines → line ≡ get_or lines n line
    → Counts (take n lines) old
    → Advances line old new → Counts (take (n + 1) lines) new
counted_line lines n line old new lt is counts more =
    let further : take (n + 1) lines ≡ take n lines ++ line ∷ [] = take_more lines n line lt ∙ ap (λ (y : Line). take n lines ++ y ∷ []) (sym is) in
    rw further (counted_more (take n lines) line old new counts more)

-- the place of a line is what those before it leave
pub place_counted : (lines : List Line) (n : ℕ) (counter : Counter) (offset : ℕ) → Counts (take n lines) counter
    → offset ≡ filled_of counter counter.section
    → record { section = counter.section; offset = offset } ≡ place_at lines n
place_counted lines n counter offset counts is =
    let there : counter.section ≡ section_after (take n lines) = counts.section in
    let far : offset ≡ filled (section_after (take n lines)) (take n lines) =
    is ∙ counts.filled counter.section ∙ ap (λ (s : Section). filled s (take n lines)) there in
    let place : Section → ℕ → Place = λ s o. record { section = s; offset = o } in
    ap (λ (s : Section). place s offset) there ∙ ap (λ (o : ℕ). place (section_after (take n lines)) o) far

-- one place more
pub placed_more : (lines : List Line) (n : ℕ) (places : List Place) (place : Place) → ArePlacesTo lines n places → place ≡ place_at lines n
    → ArePlacesTo lines (n + 1) (places ++ place ∷ [])
placed_more lines n places place are is = record {
  all = omega (arith, length-append places (place ∷ []), are.all);
  each = λ k d below. each_of k d below;
}
  where
    each_of : (k : ℕ) (d : Place) → k < n + 1 → get_or (places ++ place ∷ []) k d ≡ place_at lines k
    each_of k d below =
        below_more (λ (k : ℕ). get_or (places ++ place ∷ []) k d ≡ place_at lines k) n
        (λ k lt. get_or_append_left places (place ∷ []) d k (omega (arith, are.all)) ∙ are.each k d lt)
        (get_or_push places place d n are.all ∙ is) k below

abbrev zeros : List ℕ
zeros = 0 ∷ 0 ∷ 0 ∷ 0 ∷ 0 ∷ 0 ∷ 0 ∷ []

none_filled : (s : Section) → get_or zeros (section_number s) 0 ≡ 0
none_filled sections.Text = refl
none_filled sections.Rodata = refl
none_filled sections.Relro = refl
none_filled sections.Data = refl
none_filled sections.Bss = refl
none_filled sections.Tdata = refl
none_filled sections.Tbss = refl

-- before the first line
pub none_counted : Counts [] (record { section = sections.Text; filled = zeros })
unfolding section_after filling
none_counted = record { section = refl; filled = λ s. none_filled s }
