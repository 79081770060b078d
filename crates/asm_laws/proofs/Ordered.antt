-- The places list by list.
use Rattle.std.proofs.Common.{◌≡◌, ◌∙◌, ap, sym, subst, ℕ, ◌+◌, ◌*◌, ◌^◌, ◌<◌, ◌≤◌, Bool, true, false, if◌then◌else◌, List, [], ◌∷◌, ◌++◌, length, take, inl, inr, refl, arith}
use Rattle.std.specs.Prelude.{Option, Some, None, ⊤}
use Rattle.std.proofs.Common.{append_assoc}
use Rattle.asm_write.specs.declared.contents.Fix.{Fix}
use Rattle.asm_write.specs.declared.part.Part.{Part}
use Rattle.asm_write.specs.declared.part.Part.TheVariants as parts
use Rattle.asm_write.specs.Parts.{number_of}
use Rattle.asm_write.specs.Starts.{wrapped}
use Rattle.asm_statement.specs.declared.directive.Array.TheVariants as arrays
use Rattle.asm_statement.specs.declared.directive.Directive.{Directive}
use Rattle.asm_statement.specs.declared.directive.Section.{Section}
use Rattle.asm_statement.specs.declared.directive.Section.TheVariants as sections
use Rattle.asm_statement.specs.declared.directive.Directive.TheVariants as directives
use Rattle.asm_statement.specs.declared.directive.Doubleword.TheVariants as doublewords
use Rattle.asm_statement.specs.declared.line.Line.{Line}
use Rattle.asm_statement.specs.declared.line.Statement.{Statement}
use Rattle.asm_statement.specs.declared.line.Statement.TheVariants as statements
use Rattle.asm_layout.specs.declared.place.Place.{Place}
use Rattle.asm_layout.specs.declared.uses.GotKind.TheVariants as gots
use Rattle.asm_layout.specs.declared.uses.GotUse.{GotUse}
use Rattle.asm_layout.specs.Fixes.{got_fixes, got_fix, array_fixes, section_fixes, line_fixes, statement_fixes, fixes_of}
use Rattle.asm_layout.specs.Numbers.{count_of}
use Rattle.std.proofs.Common.{length-append}
use Rattle.asm_layout.specs.Places.{place_after, place_at, filled, section_after, is_section, size_at, directive_size}
use Rattle.asm_layout.specs.Spots.{spot_of, part_of}
use Rattle.asm_layout.specs.Tables.{got_words, entries}
use Rattle.asm_layout.specs.Uses.{got_uses}
use Rattle.asm_laws.specs.Lemmas.Fewer.{entries_few, uses_few}
use Rattle.asm_laws.specs.Lemmas.Filled.{one_more, is_same}
use Rattle.asm_laws.specs.Ascending.{AreFrom, StandsFrom, room}

-- all of these stand in parts up to this number
abbrev AreIn : ℕ → List Fix → Type 0
AreIn last [] = ⊤
AreIn last (fix ∷ fixes) = (number_of fix.spot.part ≤ last) × AreIn last fixes

in_both : (last next : ℕ) (fixes others : List Fix) → last ≤ next → AreIn last fixes → AreIn next others → AreIn next (fixes ++ others)
in_both last next [] others less inside more = more
in_both last next (fix ∷ fixes) others less (is, inside) more = (omega (arith, is, less), in_both last next fixes others less inside more)

-- what is asked of places may be asked from further back
sooner : (number offset further : ℕ) (fixes : List Fix) → offset ≤ further → AreFrom number further fixes → AreFrom number offset fixes
sooner number offset further [] less from = tt
sooner number offset further (fix ∷ fixes) less (stands, rest) =
    (elim stands as (λ _. StandsFrom number offset fix) [ inl later ↦ inl later | inr there ↦ inr (there.0, omega (arith, there.1, less)) ], rest)

earlier : (number next offset : ℕ) (fixes : List Fix) → number < next → AreFrom next 0 fixes → AreFrom number offset fixes
earlier number next offset [] less from = tt
earlier number next offset (fix ∷ fixes) less (stands, rest) =
    (elim stands as (λ _. StandsFrom number offset fix) [ inl later ↦ inl (omega (arith, later, less)) | inr there ↦ inl (omega (arith, there.0, less)) ], rest)

-- places, and those of later parts behind them
behind : (number last next offset : ℕ) (fixes others : List Fix) → number < next → last < next → AreIn last fixes → AreFrom number offset fixes → AreFrom next 0 others
    → AreFrom number offset (fixes ++ others)
behind number last next offset [] others less later inside from behind_them = earlier number next offset others less behind_them
behind number last next offset (fix ∷ fixes) others less later (is, inside) (stands, from) behind_them =
    (stands, behind (number_of fix.spot.part) last next (fix.spot.offset + room fix.kind) fixes others (omega (arith, is, later)) later inside from behind_them)

record Ordered (last : ℕ) (fixes : List Fix) : Type 0 where
  from : AreFrom 0 0 fixes
  inside : AreIn last fixes

joined : (last next : ℕ) (fixes others : List Fix) → last < next → Ordered last fixes → AreFrom next 0 others → AreIn next others → Ordered next (fixes ++ others)
joined last next fixes others less ordered from inside = record {
  from = behind 0 last next 0 fixes others (omega arith) less ordered.inside ordered.from from;
  inside = in_both last next fixes others (omega arith) ordered.inside inside;
}

unwrapped : (n : ℕ) → n < 2 ^ 64 → wrapped n ≡ n
unwrapped n fits = omega arith

-- The table

got_in : (lines : List Line) (offset : ℕ) (uses : List GotUse) → AreIn 15 (got_fixes lines offset uses)
got_in lines offset [] = tt
got_in lines offset (got ∷ uses) = elim got.kind as (λ kind. AreIn 15 (got_fix lines offset got.name kind ++ got_fixes lines (offset + 8 * got_words kind) uses)) [
  | gots.Address ↦ (omega arith, got_in lines (offset + 8 * 1) uses)
  | gots.Pair ↦ (omega arith, (omega arith, got_in lines (offset + 8 * 2) uses))
  | gots.Offset ↦ (omega arith, got_in lines (offset + 8 * 1) uses)
]

got_from : (lines : List Line) (offset : ℕ) (uses : List GotUse) → offset + 16 * length uses < 2 ^ 64 → AreFrom 15 offset (got_fixes lines offset uses)
got_from lines offset [] fits = tt
got_from lines offset (got ∷ uses) fits =
    let one = unwrapped offset (omega arith) in
    let other = unwrapped (offset + 8) (omega arith) in
    let one_word = sooner 15 (wrapped offset + 8) (offset + 8 * 1) (got_fixes lines (offset + 8 * 1) uses) (omega (arith, one)) (got_from lines (offset + 8 * 1) uses (omega arith)) in
    let two_words = sooner 15 (wrapped (offset + 8) + 8) (offset + 8 * 2) (got_fixes lines (offset + 8 * 2) uses) (omega (arith, other)) (got_from lines (offset + 8 * 2) uses (omega arith)) in
    elim got.kind as (λ kind. AreFrom 15 offset (got_fix lines offset got.name kind ++ got_fixes lines (offset + 8 * got_words kind) uses)) [
      | gots.Address ↦ (inr (refl, omega (arith, one)), one_word)
      | gots.Pair ↦ (inr (refl, omega (arith, one)), (inr (refl, omega (arith, one, other)), two_words))
      | gots.Offset ↦ (inr (refl, omega (arith, one)), one_word)
    ]

-- An array

array_in : (lines : List Line) (part : Part) (offset : ℕ) (names : List (List ℕ)) → AreIn (number_of part) (array_fixes lines part offset names)
array_in lines part offset [] = tt
array_in lines part offset (name ∷ names) = (omega arith, array_in lines part (offset + 8) names)

array_from : (lines : List Line) (part : Part) (offset : ℕ) (names : List (List ℕ)) → offset + 8 * length names < 2 ^ 64
    → AreFrom (number_of part) offset (array_fixes lines part offset names)
array_from lines part offset [] fits = tt
array_from lines part offset (name ∷ names) fits =
    let one = unwrapped offset (omega arith) in
    (inr (refl, omega (arith, one)), sooner (number_of part) (wrapped offset + 8) (offset + 8) (array_fixes lines part (offset + 8) names) (omega (arith, one)) (array_from lines part (offset + 8) names (omega arith)))

-- A section

statement_in : (lines : List Line) (place : Place) (statement : Option Statement)
    → AreIn (number_of (part_of place.section)) (statement_fixes lines (spot_of place) statement)
statement_in lines place None = tt
statement_in lines place (Some (statements.Instruction instruction)) = tt
statement_in lines place (Some (statements.Directive directive)) = elim directive as (λ directive. AreIn (number_of (part_of place.section)) (statement_fixes lines (spot_of place) (Some (statements.Directive directive)))) [
  | directives.Soname name ↦ tt
  | directives.Needed name ↦ tt
  | directives.Entry name ↦ tt
  | directives.Export export name ↦ tt
  | directives.Weak name ↦ tt
  | directives.Version name ↦ tt
  | directives.Entries array name ↦ tt
  | directives.Data size number ↦ tt
  | directives.Zero number ↦ tt
  | directives.Section _ ↦ tt
  | directives.Kind kind ↦ tt
  | directives.Hash hash ↦ tt
  | directives.Flags flags ↦ tt
  | directives.Symver symver ↦ tt
  | directives.Need need ↦ tt
  | directives.Dword (doublewords.Number number) ↦ tt
  | directives.Dword (doublewords.Address name addend) ↦ (omega arith, tt)
  | directives.Asciz text ↦ tt
  | directives.Align alignment ↦ tt
  | directives.Relr ↦ tt
  | directives.Copy name size ↦ (omega arith, tt)
]

-- a statement's place stands where the section is filled to, and what follows it behind what it fills
statement_from : (lines : List Line) (place : Place) (statement : Option Statement) (rest : List Fix)
    → AreFrom (number_of (part_of place.section)) (place.offset + size_at place.offset statement) rest
    → AreFrom (number_of (part_of place.section)) place.offset (statement_fixes lines (spot_of place) statement ++ rest)
unfolding directive_size
statement_from lines place None rest from = sooner _ _ _ rest (omega arith) from
statement_from lines place (Some (statements.Instruction instruction)) rest from = sooner _ place.offset (place.offset + size_at place.offset (Some (statements.Instruction instruction))) rest (omega arith) from
statement_from lines place (Some (statements.Directive directive)) rest from =
    let number = number_of (part_of place.section) in
    let P : Directive → Type 0 = λ directive. AreFrom number (place.offset + directive_size place.offset directive) rest
    → AreFrom number place.offset (statement_fixes lines (spot_of place) (Some (statements.Directive directive)) ++ rest) in
    let none : (size : ℕ) → AreFrom number (place.offset + size) rest → AreFrom number place.offset rest = λ size from. sooner number place.offset (place.offset + size) rest (omega arith) from in
    let cases : (directive : Directive) → P directive = λ directive. elim directive as P [
      | directives.Soname name ↦ none 0
      | directives.Needed name ↦ none 0
      | directives.Entry name ↦ none 0
      | directives.Export export name ↦ none 0
      | directives.Weak name ↦ none 0
      | directives.Version name ↦ none 0
      | directives.Entries array name ↦ none 0
      | directives.Data size number ↦ none _
      | directives.Zero number ↦ none _
      | directives.Section _ ↦ none 0
      | directives.Kind kind ↦ none 0
      | directives.Hash hash ↦ none 0
      | directives.Flags flags ↦ none 0
      | directives.Symver symver ↦ none 0
      | directives.Need need ↦ none 0
      | directives.Dword (doublewords.Number number) ↦ none 8
      | directives.Dword (doublewords.Address name addend) ↦ λ from. (inr (refl, omega arith), from)
      | directives.Asciz text ↦ none _
      | directives.Align alignment ↦ none _
      | directives.Relr ↦ none 0
      | directives.Copy name size ↦ λ from. (inr (refl, omega arith), sooner number (place.offset + 0) (place.offset + count_of size) rest (omega arith) from)
    ] in
    cases directive from

take_front : {A : Type 0} (xs ys : List A) → take (length xs) (xs ++ ys) ≡ xs
take_front [] ys = refl
take_front (x ∷ xs) ys = ap (λ rest. x ∷ rest) (take_front xs ys)

pub at_line : (lines before rest : List Line) (k : ℕ) → k ≡ length before → lines ≡ before ++ rest → place_at lines k ≡ place_after before
at_line lines before rest k count whole = ap place_after (ap (λ n. take n lines) count ∙ ap (λ ls. take (length before) ls) whole ∙ take_front before rest)

section_in : (lines : List Line) (section : Section) (k : ℕ) (rest : List Line) → AreIn (number_of (part_of section)) (section_fixes lines section k rest)
section_in lines section k [] = tt
section_in lines section k (line ∷ rest) =
    let last = number_of (part_of section) in
    let place = place_at lines k in
    let P : Bool → Type 0 = λ here. is_section section place.section ≡ here → AreIn last (if here then statement_fixes lines (spot_of place) line.statement else []) in
    let own : is_section section place.section ≡ true → AreIn last (statement_fixes lines (spot_of place) line.statement) = λ here.
    subst (λ s. AreIn (number_of (part_of s)) (statement_fixes lines (spot_of place) line.statement)) (sym (is_same section place.section here)) (statement_in lines place line.statement) in
    let cases : (here : Bool) → P here = λ here. elim here as P [ true ↦ own | false ↦ λ _. tt ] in
    in_both last last (line_fixes lines section place line) (section_fixes lines section (k + 1) rest) (omega arith)
    (cases (is_section section place.section) refl) (section_in lines section (k + 1) rest)

line_from : (lines before : List Line) (section : Section) (line : Line) (rest : List Fix)
    → AreFrom (number_of (part_of section)) (filled section (before ++ line ∷ [])) rest
    → AreFrom (number_of (part_of section)) (filled section before) (line_fixes lines section (place_after before) line ++ rest)
line_from lines before section line rest from =
    let number = number_of (part_of section) in
    let P : Bool → Type 0 = λ here. is_section section (section_after before) ≡ here
    → AreFrom number (if here then filled section before + size_at (filled section before) line.statement else filled section before) rest
    → AreFrom number (filled section before) ((if here then statement_fixes lines (spot_of (place_after before)) line.statement else []) ++ rest) in
    let R : Section → Type 0 = λ s. AreFrom (number_of (part_of s)) (filled s before + size_at (filled s before) line.statement) rest
    → AreFrom (number_of (part_of s)) (filled s before) (statement_fixes lines (spot_of (place_after before)) line.statement ++ rest) in
    let own : is_section section (section_after before) ≡ true → R section = λ here.
    subst R (sym (is_same section (section_after before) here)) (statement_from lines (place_after before) line.statement rest) in
    let cases : (here : Bool) → P here = λ here. elim here as P [ true ↦ own | false ↦ λ _ from. from ] in
    cases (is_section section (section_after before)) refl (subst (λ n. AreFrom number n rest) (one_more section before line) from)

section_from : (lines before rest : List Line) (section : Section) (k : ℕ) → k ≡ length before → lines ≡ before ++ rest
    → AreFrom (number_of (part_of section)) (filled section before) (section_fixes lines section k rest)
section_from lines before [] section k count whole = tt
section_from lines before (line ∷ rest) section k count whole =
    let number = number_of (part_of section) in
    let tail = section_fixes lines section (k + 1) rest in
    let longer : k + 1 ≡ length (before ++ line ∷ []) = omega (arith, count, length-append before (line ∷ [])) in
    let further : lines ≡ (before ++ line ∷ []) ++ rest = whole ∙ sym (append_assoc before (line ∷ []) rest) in
    let from = section_from lines (before ++ line ∷ []) rest section (k + 1) longer further in
    subst (λ place. AreFrom number (filled section before) (line_fixes lines section place line ++ tail)) (sym (at_line lines before (line ∷ rest) k count whole))
    (line_from lines before section line tail from)

from_start : (lines : List Line) (target : Section) → AreFrom (number_of (part_of target)) 0 (section_fixes lines target 0 lines)
from_start lines target = sooner (number_of (part_of target)) 0 (filled target []) (section_fixes lines target 0 lines) (omega arith) (section_from lines [] lines target 0 refl refl)

pub ascends : (lines : List Line) → length lines < 2 ^ 59 → AreFrom 0 0 (fixes_of lines)
unfolding fixes_of
ascends lines few =
    let uses = uses_few lines in
    let some = entries_few arrays.Preinit lines in
    let more = entries_few arrays.Init lines in
    let last = entries_few arrays.Fini lines in
    let got : Ordered 15 (got_fixes lines 0 (got_uses lines)) = record {
      from = earlier 0 15 0 (got_fixes lines 0 (got_uses lines)) (omega arith) (got_from lines 0 (got_uses lines) (omega (arith, uses, few)));
      inside = got_in lines 0 (got_uses lines);
    } in
    let array : (part : Part) (names : List (List ℕ)) → length names ≤ length lines → AreFrom (number_of part) 0 (array_fixes lines part 0 names)
    = λ part names fewer. array_from lines part 0 names (omega (arith, fewer, few)) in
    let preinit = joined 15 16 _ _ (omega arith) got (array parts.PreinitArray (entries arrays.Preinit lines) some) (array_in lines parts.PreinitArray 0 (entries arrays.Preinit lines)) in
    let init = joined 16 17 _ _ (omega arith) preinit (array parts.InitArray (entries arrays.Init lines) more) (array_in lines parts.InitArray 0 (entries arrays.Init lines)) in
    let fini = joined 17 18 _ _ (omega arith) init (array parts.FiniArray (entries arrays.Fini lines) last) (array_in lines parts.FiniArray 0 (entries arrays.Fini lines)) in
    let relro = joined 18 19 _ _ (omega arith) fini (from_start lines sections.Relro) (section_in lines sections.Relro 0 lines) in
    let tdata = joined 19 20 _ _ (omega arith) relro (from_start lines sections.Tdata) (section_in lines sections.Tdata 0 lines) in
    let content = joined 20 23 _ _ (omega arith) tdata (from_start lines sections.Data) (section_in lines sections.Data 0 lines) in
    let bss = joined 23 24 _ _ (omega arith) content (from_start lines sections.Bss) (section_in lines sections.Bss 0 lines) in
    bss.from
