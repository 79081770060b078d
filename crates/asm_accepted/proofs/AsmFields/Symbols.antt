-- The numbers of a symbol.
use Rattle.std.proofs.Common.{◌≡◌, ap, subst, refl, ℕ, ◌+◌, ◌^◌, ◌<◌, ◌≤◌, Bool, true, false, if◌then◌else◌, List, [], ◌∷◌, ◌++◌, length, fold, take, drop, find, arith}
use Rattle.std.specs.Prelude.{⊤, Option, Some, None, position, unwrap_or}
use Rattle.std.specs.List.{list_any}
use Rattle.std.specs.Str.{bytes_eq}
use Rattle.asm_write.specs.declared.contents.Spot.{Spot}
use Rattle.asm_write.specs.declared.contents.SymbolEntry.{SymbolEntry}
use Rattle.asm_write.specs.declared.starts.Starts.{Starts}
use Rattle.asm_write.specs.Records.{is_tls, offset_in, section_index, symbol_fields, symbol_value}
use Rattle.asm_write.specs.Starts.{address_in, starts_of}
use Rattle.asm_laws.specs.ElfRecords.Numbers.{AllFit}
use Rattle.asm_accepted.specs.ElfTabled.Tables.{SymbolsFit}
use Rattle.asm_statement.specs.declared.directive.Directive.TheVariants as directives
use Rattle.asm_statement.specs.declared.directive.Export.TheVariants as visibilities
use Rattle.asm_statement.specs.declared.directive.Section.{Section}
use Rattle.asm_statement.specs.declared.directive.Section.TheVariants as sections
use Rattle.asm_statement.specs.declared.line.Line.{Line}
use Rattle.asm_statement.specs.declared.line.Statement.{Statement}
use Rattle.asm_statement.specs.declared.line.Statement.TheVariants as statements
use Rattle.asm_layout.specs.declared.place.Place.{Place}
use Rattle.asm_layout.specs.declared.uses.Exported.{Exported}
use Rattle.asm_layout.specs.Contents.{contents_of, exports_at, imports_at}
use Rattle.asm_layout.specs.Labels.{defines, label}
use Rattle.asm_layout.specs.Names.{is_exported}
use Rattle.asm_layout.specs.Numbers.{count_of}
use Rattle.asm_layout.specs.Places.{filled, place_at}
use Rattle.asm_layout.specs.Spots.{label_spot}
use Rattle.asm_layout.specs.Symbols.{binding, copy_size, defines_in, export_entries, export_entry, import_entries, import_entry, label_size, next_offset, size_at_line, size_behind, size_of_line, sorted_exports, type_at, visibility, visibility_given, weakens}
use Rattle.asm_layout.specs.Uses.{imports}
use Rattle.asm_laws.specs.Lemmas.Counted.{small_count}

low_binding : (lines : List Line) (name : List ℕ) → binding lines name ≤ 2
low_binding lines name =
    elim (list_any (λ line. weakens name line.statement) lines) as (λ b. (if b then 2 else 1) ≤ 2) [ true ↦ omega arith | false ↦ omega arith ]

low_type : (place : Option Place) → type_at place ≤ 6
low_type None = omega arith
low_type (Some place) = in_section place.section
  where
    in_section : (section : Section) → type_at (Some (record { section = section; offset = 0 })) ≤ 6
    in_section sections.Text = omega arith
    in_section _ = omega arith

if_else : (b : Bool) (n m : ℕ) → n ≤ 3 → m ≤ 3 → (if b then n else m) ≤ 3
if_else true n m one other = one
if_else false n m one other = other

low_given : (name : List ℕ) (given : ℕ) (statement : Option Statement) → given ≤ 3 → visibility_given name given statement ≤ 3
low_given name given (Some (statements.Directive (directives.Export visibilities.Hidden kept))) low = if_else (bytes_eq name kept) 2 given (omega arith) low
low_given name given (Some (statements.Directive (directives.Export visibilities.Protected kept))) low = if_else (bytes_eq name kept) 3 given (omega arith) low
low_given name given _ low = low

low_folded : (name : List ℕ) (given : ℕ) (lines : List Line) → given ≤ 3 → fold (λ given line. visibility_given name given line.statement) given lines ≤ 3
low_folded name given [] low = low
low_folded name given (line ∷ lines) low = low_folded name (visibility_given name given line.statement) lines (low_given name given line.statement low)

low_visibility : (lines : List Line) (name : List ℕ) → visibility lines name ≤ 3
low_visibility lines name = if_else (is_exported lines name) _ 0 (low_folded name 0 lines (omega arith)) (omega arith)

-- Sizes

whole_list : {A : Type 0} (xs : List A) → take (length xs) xs ≡ xs
whole_list [] = refl
whole_list (x ∷ xs) = ap (λ rest. x ∷ rest) (whole_list xs)

abbrev Sized : Option ℕ → Type 0
Sized None = ⊤
Sized (Some n) = n < 2 ^ 64

copied : (name : List ℕ) (statement : Option Statement) → Sized (copy_size name statement)
copied name (Some (statements.Directive (directives.Copy copy size))) =
    let few = small_count size.is_negative size.magnitude in
    elim (bytes_eq name copy) as (λ b. (if b then count_of size else 0) < 2 ^ 64) [ true ↦ omega (arith, few) | false ↦ omega arith ]
copied name _ = tt

module _ (lines : List Line) (small : (k : ℕ) (section : Section) → filled section (take k lines) < 2 ^ 53) where
  next_low : (section : Section) (k : ℕ) (rest : List Line) → next_offset lines section k rest < 2 ^ 53
  next_low section k [] = subst (λ all. filled section all < 2 ^ 53) (whole_list lines) (small (length lines) section)
  next_low section k (line ∷ rest) =
      elim (defines_in lines section k line) as (λ b. (if b then (place_at lines k).offset else next_offset lines section (k + 1) rest) < 2 ^ 53) [
        | true ↦ small k (place_at lines k).section
        | false ↦ next_low section (k + 1) rest
      ]

  behind_low : (k : ℕ) → size_behind lines k < 2 ^ 64
  behind_low k = let low = next_low (place_at lines k).section (k + 1) (drop (k + 1) lines) in omega (arith, low)

  line_low : (name : List ℕ) (k : ℕ) (line : Option Line) → size_of_line lines name k line < 2 ^ 64
  line_low name k None = omega arith
  line_low name k (Some line) = given (copy_size name line.statement) (copied name line.statement)
    where
      given : (size : Option ℕ) → Sized size → unwrap_or size (size_behind lines k) < 2 ^ 64
      given None sized = behind_low k
      given (Some n) sized = sized

  size_low : (name : List ℕ) → label_size lines name < 2 ^ 64
  unfolding label_size
  size_low name = at (position (defines name) lines)
    where
      at : (k : Option ℕ) → size_at_line lines name k < 2 ^ 64
      at None = omega arith
      at (Some k) = line_low name k (find (defines name) lines)

  -- Entries

  low_index : (spot : Option Spot) → section_index spot < 2 ^ 16
  low_index None = omega arith
  low_index (Some spot) = omega arith

  low_value : (starts : Starts) (spot : Option Spot) → symbol_value starts spot < 2 ^ 64
  low_value starts None = omega arith
  low_value starts (Some spot) =
      elim (is_tls spot.part) as (λ b. (if b then offset_in starts spot else address_in starts spot) < 2 ^ 64) [ true ↦ omega arith | false ↦ omega arith ]

  import_fits : (starts : Starts) (at : ℕ) (name : List ℕ) → AllFit (symbol_fields starts (import_entry lines at name))
  unfolding symbol_fields
  import_fits starts at name =
      let bind = low_binding lines name in
      (omega arith, (omega (arith, bind), (omega arith, (omega arith, (omega arith, (omega arith, tt))))))

  export_fits : (starts : Starts) (at : ℕ) (exported : Exported) → AllFit (symbol_fields starts (export_entry lines at exported))
  unfolding symbol_fields
  export_fits starts at exported =
      let bind = low_binding lines exported.label in
      let type = low_type (label lines exported.label) in
      let visible = low_visibility lines exported.label in
      (omega arith, (omega (arith, bind, type), (omega (arith, visible), (low_index (label_spot lines exported.label), (low_value starts (label_spot lines exported.label), (size_low exported.label, tt))))))

  both_fit : (starts : Starts) (one other : List SymbolEntry) → SymbolsFit starts one → SymbolsFit starts other → SymbolsFit starts (one ++ other)
  both_fit starts [] other first second = second
  both_fit starts (entry ∷ one) other (fits, first) second = (fits, both_fit starts one other first second)

  imports_fit : (starts : Starts) (at : ℕ) (names : List (List ℕ)) → SymbolsFit starts (import_entries lines at names)
  imports_fit starts at [] = tt
  imports_fit starts at (name ∷ names) = (import_fits starts at name, imports_fit starts (at + length name + 1) names)

  exports_fit : (starts : Starts) (at : ℕ) (all : List Exported) → SymbolsFit starts (export_entries lines at all)
  exports_fit starts at [] = tt
  exports_fit starts at (exported ∷ rest) = (export_fits starts at exported, exports_fit starts (at + length exported.name + 1) rest)

  pub symbols_fit : SymbolsFit (starts_of (contents_of lines)) (contents_of lines).symbols
  unfolding contents_of
  symbols_fit =
      let starts = starts_of (contents_of lines) in
      both_fit starts (import_entries lines (imports_at lines) (imports lines)) (export_entries lines (exports_at lines) (sorted_exports lines))
      (imports_fit starts (imports_at lines) (imports lines)) (exports_fit starts (exports_at lines) (sorted_exports lines))
