-- The numbers of relocations and slots.
use Rattle.std.proofs.Common.{◌≡◌, ◌∙◌, ap, sym, refl, ℕ, ◌+◌, ◌-◌, ◌^◌, ◌<◌, ◌≤◌, ℤ, pos, negsuc, ◌&&◌, Bool, true, false, List, [], ◌∷◌, ◌++◌, length, map, take, arith, append_assoc, neg_ℤ}
use Rattle.std.specs.Prelude.{Option, Some, None, slice_get}
use Rattle.std.specs.Int.{w64, cast_unsigned}
use Rattle.std.specs.Option.{option_map_or}
use Rattle.std.proofs.lemmas.Bool.Decides.{nat_tests}
use Rattle.asm_write.specs.declared.contents.Fix.{Fix}
use Rattle.asm_write.specs.declared.contents.FixKind.{FixKind}
use Rattle.asm_write.specs.declared.contents.FixKind.TheVariants as kinds
use Rattle.asm_write.specs.declared.contents.Target.{Target}
use Rattle.asm_write.specs.declared.contents.Target.TheVariants as targets
use Rattle.asm_write.specs.declared.starts.Starts.{Starts}
use Rattle.asm_write.specs.Records.{fix_addend, rela_fields, reloc_type}
use Rattle.asm_laws.specs.ElfRecords.Numbers.{AllFit}
use Rattle.asm_accepted.specs.ElfTabled.Tables.{AreSymbolNumbers, ListedFit}
use Rattle.asm_statement.specs.declared.directive.Directive.TheVariants as directives
use Rattle.asm_statement.specs.declared.directive.Doubleword.TheVariants as doublewords
use Rattle.asm_statement.specs.declared.directive.Section.{Section}
use Rattle.asm_statement.specs.declared.line.Line.{Line}
use Rattle.asm_statement.specs.declared.line.Statement.{Statement}
use Rattle.asm_statement.specs.declared.line.Statement.TheVariants as statements
use Rattle.asm_statement.specs.declared.number.Number.{Number}
use Rattle.asm_layout.specs.Faults.{HasNoFault, for_statement, statement_fits, version_fits}
use Rattle.asm_layout.specs.Fixes.{addend_of, fixes_of}
use Rattle.asm_layout.specs.Numbers.{fits_addend, is_between, value_of}
use Rattle.asm_layout.specs.Places.{filled}
use Rattle.asm_layout.specs.Symbols.{symbol_index}
use Rattle.asm_laws.specs.Lemmas.Each.{Each}
use Rattle.asm_laws.specs.Lemmas.Passed.{got_at, passes}
use Rattle.asm_laws.specs.AsmBounds.Lemmas.Fixes.{Adds, IsFit, all_fit}

-- What is added

abbrev Low : ℕ → Type 0
Low n = n < 2 ^ 64

low_addend : (number : Number) → fits_addend number ≡ true → addend_of number < 2 ^ 64
low_addend number fits = of_value (value_of number) fits
  where
    of_value : (value : Option ℤ) → is_between (neg_ℤ (pos (2 ^ 63))) (pos (2 ^ 63 - 1)) value ≡ true → option_map_or (cast_unsigned w64) value 0 < 2 ^ 64
    of_value None is = omega arith
    of_value (Some (pos n)) is = grind (arith, nat_tests)
    of_value (Some (negsuc n)) is = omega arith

front_true : (a b : Bool) → (a && b) ≡ true → a ≡ true
front_true true b is = refl
front_true false b is = absurd cc

adds_low : (lines : List Line) (k : ℕ) (statement : Option Statement) → for_statement (statement_fits lines k) statement ≡ true → Adds Low statement
adds_low lines k (Some (statements.Directive (directives.Dword (doublewords.Address name addend)))) fits =
    low_addend addend (front_true (fits_addend addend) (version_fits lines (directives.Dword (doublewords.Address name addend))) fits)
adds_low lines k _ fits = tt

all_low : (lines : List Line) → HasNoFault lines → (before rest : List Line) → lines ≡ before ++ rest → Each (λ line. Adds Low line.statement) rest
all_low lines faultless before [] whole = tt
all_low lines faultless before (line ∷ rest) whole =
    let here : slice_get lines (length before) ≡ Some line = ap (λ (all : List Line). slice_get all (length before)) whole ∙ got_at before line rest in
    let (fits, rest_of) = passes lines (length before) line faultless here in
    (adds_low lines (length before) line.statement fits, all_low lines faultless (before ++ line ∷ []) rest (whole ∙ sym (append_assoc before (line ∷ []) rest)))

-- Relocations

low_type : (kind : FixKind) (target : Target) → reloc_type kind target < 2 ^ 32
low_type kinds.Address (targets.Own spot) = omega arith
low_type kinds.Address (targets.Symbol symbol) = omega arith
low_type kinds.Module target = omega arith
low_type kinds.Offset target = omega arith
low_type kinds.ThreadOffset target = omega arith
low_type kinds.Copy target = omega arith

low_sum : (starts : Starts) (kind : FixKind) (target : Target) (addend : ℕ) → addend < 2 ^ 64 → fix_addend starts kind target addend < 2 ^ 64
low_sum starts kinds.Address (targets.Own spot) addend low = omega arith
low_sum starts kinds.Address (targets.Symbol symbol) addend low = low
low_sum starts kinds.Module target addend low = low
low_sum starts kinds.Offset (targets.Own spot) addend low = omega arith
low_sum starts kinds.Offset (targets.Symbol symbol) addend low = low
low_sum starts kinds.ThreadOffset (targets.Own spot) addend low = omega arith
low_sum starts kinds.ThreadOffset (targets.Symbol symbol) addend low = low
low_sum starts kinds.Copy target addend low = low

fields_fit : (starts : Starts) (fix : Fix) → IsFit Low fix → AllFit (rela_fields starts fix)
unfolding rela_fields
fields_fit starts fix fit = (omega arith, (low_type fix.kind fix.target, (fit.symbol, (low_sum starts fix.kind fix.target fix.addend fit.addend, tt))))

listed_fit : (starts : Starts) (fixes : List Fix) → Each (IsFit Low) fixes → ListedFit starts fixes
listed_fit starts [] fit = tt
listed_fit starts (fix ∷ fixes) (first, fit) = ((λ _. fields_fit starts fix first), listed_fit starts fixes fit)

pub relocs_fit : (lines : List Line) → ((k : ℕ) (section : Section) → filled section (take k lines) < 2 ^ 53) → length lines ≤ 2 ^ 20 + 1 → HasNoFault lines
    → (starts : Starts) → ListedFit starts (fixes_of lines)
relocs_fit lines small few faultless starts = listed_fit starts (fixes_of lines) (all_fit Low (omega arith) lines small few (all_low lines faultless [] lines refl))

-- Slots

low_index : (lines : List Line) (name : List ℕ) → symbol_index lines name < 2 ^ 32
unfolding symbol_index
low_index lines name = omega arith

pub slots_fit : (lines : List Line) (names : List (List ℕ)) → AreSymbolNumbers (map (symbol_index lines) names)
slots_fit lines [] = tt
slots_fit lines (name ∷ names) = (low_index lines name, slots_fit lines names)
