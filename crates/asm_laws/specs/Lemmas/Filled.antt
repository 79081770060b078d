-- How far a section is filled before a line, and behind it.
use Rattle.std.proofs.Common.{◌≡◌, ◌∙◌, ap, sym, ℕ, zero, suc, ◌+◌, true, if◌then◌else◌, List, [], ◌∷◌, ◌++◌, fold, refl}
use Rattle.std.proofs.lemmas.Bool.{eqb-true}
use Rattle.asm_statement.specs.declared.directive.Section.{Section}
use Rattle.asm_statement.specs.declared.directive.Section.TheVariants as sections
use Rattle.asm_statement.specs.declared.line.Line.{Line}
use Rattle.asm_layout.specs.Places.{filling, filled, growth, next_section, section_after, section_number, is_section, size_at}

-- the section that a fold goes through is that of the lines
same_section : (section begin : Section) (size : ℕ) (lines : List Line)
    → (fold (λ before line. growth section line before) (begin, size) lines).0 ≡ fold next_section begin lines
same_section section begin size [] = refl
same_section section begin size (line ∷ lines) =
    same_section section (next_section begin line) (if is_section section begin then size + size_at size line.statement else size) lines

pub section_filled : (section : Section) (lines : List Line) → (filling section lines).0 ≡ section_after lines
unfolding filling section_after
section_filled section lines = same_section section sections.Text 0 lines

-- one line more
fold_more : {A B : Type 0} (f : B → A → B) (begin : B) (xs : List A) (x : A) → fold f begin (xs ++ x ∷ []) ≡ f (fold f begin xs) x
fold_more f begin [] x = refl
fold_more f begin (y ∷ xs) x = fold_more f (f begin y) xs x

pub one_more : (section : Section) (lines : List Line) (line : Line)
    → filled section (lines ++ line ∷ [])
    ≡ (if is_section section (section_after lines) then filled section lines + size_at (filled section lines) line.statement else filled section lines)
unfolding filling
one_more section lines line =
    let step : fold (λ before line. growth section line before) (sections.Text, 0) (lines ++ line ∷ []) ≡ growth section line (filling section lines)
    = fold_more (λ before line. growth section line before) (sections.Text, 0) lines line in
    let here = section_filled section lines in
    ap (λ pair. pair.1) step
    ∙ ap (λ s. if is_section section s then filled section lines + size_at (filled section lines) line.statement else filled section lines) here

-- sections with one number are one
by_number : ℕ → Section
by_number zero = sections.Text
by_number (suc zero) = sections.Rodata
by_number (suc (suc zero)) = sections.Relro
by_number (suc (suc (suc zero))) = sections.Data
by_number (suc (suc (suc (suc zero)))) = sections.Bss
by_number (suc (suc (suc (suc (suc zero))))) = sections.Tdata
by_number (suc (suc (suc (suc (suc (suc n)))))) = sections.Tbss

numbered : (section : Section) → by_number (section_number section) ≡ section
unfolding by_number
numbered sections.Text = refl
numbered sections.Rodata = refl
numbered sections.Relro = refl
numbered sections.Data = refl
numbered sections.Bss = refl
numbered sections.Tdata = refl
numbered sections.Tbss = refl

pub is_same : (one other : Section) → is_section one other ≡ true → one ≡ other
is_same one other same =
    let number : section_number one ≡ section_number other = eqb-true (section_number one) (section_number other) same in
    sym (numbered one) ∙ ap by_number number ∙ numbered other
