-- The tables tell how many symbols a source's object has, and its relocations and slots name some of those.
use Rattle.std.proofs.Common.{◌≡◌, ◌∙◌, ap, sym, subst, refl, ℕ, suc, ◌+◌, ◌*◌, ◌^◌, ◌<◌, ◌≤◌, ◌⊎◌, inl, inr, Bool, true, false, ◌||◌, nat_lt, ltb-true, if◌then◌else◌, List, [], ◌∷◌, ◌++◌, length, map, filter, filter_map, arith, append_assoc, length-append}
use Rattle.std.specs.Prelude.{Option, Some, None, position, unwrap_or}
use Rattle.std.specs.List.{list_any, position_or_len}
use Rattle.std.specs.Option.{option_map_or}
use Rattle.std.specs.Str.{bytes_eq}
use Rattle.std.proofs.lemmas.Bool.{cases_Bool, lt-ltb}
use Rattle.ld_base.specs.declared.parts.GnuPart.{GnuPart}
use Rattle.ld_base.specs.declared.parts.SysvPart.{SysvPart}
use Rattle.sym_hash.specs.Hash.{gnu_hash, sysv_hash}
use Rattle.asm_write.specs.HashBuild.Hashed.{bucket_count, gnu_of, sysv_of}
use Rattle.asm_write.specs.declared.contents.Fix.{Fix}
use Rattle.asm_write.specs.declared.contents.Spot.{Spot}
use Rattle.asm_write.specs.declared.contents.Target.TheVariants as targets
use Rattle.asm_write.specs.declared.part.Part.{Part}
use Rattle.asm_write.specs.declared.part.Part.TheVariants as parts
use Rattle.asm_write.specs.Records.{target_symbol}
use Rattle.asm_write.specs.Sizes.{has_listed, symbol_count}
use Rattle.asm_laws.specs.ElfSpelled.Said.{AllBelow}
use Rattle.asm_laws.specs.ElfSpelled.Lemmas.Rows.{length-map}
use Rattle.asm_accepted.specs.ElfHashed.Hashes.{CountsSymbols}
use Rattle.asm_statement.specs.declared.directive.Array.TheVariants as arrays
use Rattle.asm_statement.specs.declared.directive.Directive.TheVariants as directives
use Rattle.asm_statement.specs.declared.directive.Doubleword.TheVariants as doublewords
use Rattle.asm_statement.specs.declared.directive.Section.{Section}
use Rattle.asm_statement.specs.declared.directive.Section.TheVariants as sections
use Rattle.asm_statement.specs.declared.line.Line.{Line}
use Rattle.asm_statement.specs.declared.line.Statement.{Statement}
use Rattle.asm_statement.specs.declared.line.Statement.TheVariants as statements
use Rattle.asm_layout.specs.declared.uses.Exported.{Exported}
use Rattle.asm_layout.specs.declared.uses.GotKind.TheVariants as gots
use Rattle.asm_layout.specs.declared.uses.GotUse.{GotUse}
use Rattle.asm_layout.specs.Contents.{contents_of, exports_at, imports_at}
use Rattle.asm_layout.specs.Fixes.{array_fixes, fixes_of, got_fix, got_fixes, line_fixes, section_fixes, statement_fixes, target_of}
use Rattle.asm_layout.specs.Names.{is_preemptible}
use Rattle.asm_layout.specs.Places.{is_section, place_at}
use Rattle.asm_layout.specs.Spots.{own_spot, spot_of}
use Rattle.asm_layout.specs.Symbols.{export_entries, export_index, first_export, import_entries, sorted_exports, symbol_index}
use Rattle.asm_layout.specs.Tables.{entries, got_words, has_gnu, has_sysv, hash_of}
use Rattle.asm_layout.specs.Uses.{callee, exports, got_use, got_uses, if_preemptible, imports, mention, own_symbol, same_export, same_use, slots}
use Rattle.asm_layout.specs.Versions.{word}
use Rattle.asm_laws.specs.Lemmas.Each.{Each}
use Rattle.asm_laws.specs.Lemmas.Given.{same_name}
use Rattle.asm_accepted.proofs.AsmHashed.Lines.{chosen, exports_few, exports_sorted, first_is, imports_few}
use Rattle.asm_accepted.proofs.AsmHashed.Numbers.{chain_long, sysv_long}
use Rattle.asm_accepted.proofs.AsmHashed.Mentioned.{InLines, called, copy_exported, each_once, mentioned, of_lines, taken}

-- positions

position_inside : {A : Type 0} (p : A → Bool) (xs : List A) (k : ℕ) → position p xs ≡ Some k → k < length xs
position_inside p xs k is =
    let n = position_or_len p xs in
    let P : Bool → Type 0 = λ inside. nat_lt n (length xs) ≡ inside → (if inside then Some n else None) ≡ Some k → k < length xs in
    let some : P true = λ below found. (let same : n ≡ k = cc in let less = ltb-true n (length xs) below in omega (arith, same, less)) in
    let cases : (inside : Bool) → P inside = λ inside. elim inside as P [ true ↦ some | false ↦ λ _ found. absurd cc ] in
    cases (nat_lt n (length xs)) refl is

found_at : (o : Option ℕ) → ((k : ℕ) × (o ≡ Some k)) ⊎ (o ≡ None)
found_at None = inr refl
found_at (Some k) = inl (k, refl)

any_inside : {A : Type 0} (p : A → Bool) (xs : List A) → list_any p xs ≡ true → position_or_len p xs < length xs
any_inside p [] any = absurd cc
any_inside p (x ∷ xs) any = elim (cases_Bool (p x)) as (λ _. position_or_len p (x ∷ xs) < length (x ∷ xs)) [
  | inl here ↦ rw here (omega arith)
  | inr not_here ↦
      let later : list_any p xs ≡ true = ap (λ b. b || list_any p xs) (sym not_here) ∙ any in
      let rest = any_inside p xs later in
      rw not_here (omega (arith, rest))
]

none_among : {A : Type 0} (p : A → Bool) (xs : List A) → list_any p xs ≡ true → position p xs ≡ None → ⊥
none_among p xs any none =
    let n = position_or_len p xs in
    let inside : nat_lt n (length xs) ≡ true = lt-ltb n (length xs) (any_inside p xs any) in
    let found : position p xs ≡ Some n = ap (λ b. if b then Some n else None) inside in
    absurd (none_some n (sym none ∙ found))
  where
    none_some : (n : ℕ) → None ≡ Some n → ⊥
    none_some n is = absurd cc

module _ (lines : List Line) (few : length lines ≤ 2 ^ 20 + 1) where
  -- so many symbols there are
  abbrev all_symbols : ℕ
  all_symbols = first_export lines + length (sorted_exports lines)

  small : all_symbols < 2 ^ 32
  small =
      let imports = imports_few lines in
      let exports = exports_few lines in
      let sorted = exports_sorted lines in
      omega (arith, imports, exports, sorted, few)

  in_range : (p : Exported → Bool) → 0 < length (sorted_exports lines) → unwrap_or (position p (sorted_exports lines)) 0 < length (sorted_exports lines)
  in_range p some = elim (found_at (position p (sorted_exports lines))) as (λ _. unwrap_or (position p (sorted_exports lines)) 0 < length (sorted_exports lines)) [
    | inl found ↦
        let inside = position_inside p (sorted_exports lines) found.0 found.1 in
        let is : unwrap_or (position p (sorted_exports lines)) 0 ≡ found.0 = ap (λ o. unwrap_or o 0) found.1 in
        omega (arith, inside, is)
    | inr none ↦ let is : unwrap_or (position p (sorted_exports lines)) 0 ≡ 0 = ap (λ o. unwrap_or o 0) none in omega (arith, some, is)
  ]

  by_export : (name : List ℕ) → 0 < length (exports lines) → symbol_index lines name < all_symbols
  unfolding symbol_index
  by_export name some =
      let sorted = exports_sorted lines in
      let own = in_range (same_export (own_symbol lines name)) (omega (arith, some, sorted)) in
      let all = small in
      elim (found_at (position (bytes_eq name) (imports lines))) as (λ _. word (option_map_or (λ at. 1 + at) (position (bytes_eq name) (imports lines)) (export_index lines (own_symbol lines name))) < all_symbols) [
        | inl found ↦
            let inside = position_inside (bytes_eq name) (imports lines) found.0 found.1 in
            let is = ap (λ o. word (option_map_or (λ at. 1 + at) o (export_index lines (own_symbol lines name)))) found.1 in
            omega (arith, inside, is)
        | inr none ↦
            let is = ap (λ o. word (option_map_or (λ at. 1 + at) o (export_index lines (own_symbol lines name)))) none in
            omega (arith, own, is, all)
      ]

  by_import : (name : List ℕ) → list_any (bytes_eq name) (imports lines) ≡ true → symbol_index lines name < all_symbols
  unfolding symbol_index
  by_import name among =
      elim (found_at (position (bytes_eq name) (imports lines))) as (λ _. word (option_map_or (λ at. 1 + at) (position (bytes_eq name) (imports lines)) (export_index lines (own_symbol lines name))) < all_symbols) [
        | inl found ↦
            let inside = position_inside (bytes_eq name) (imports lines) found.0 found.1 in
            let is = ap (λ o. word (option_map_or (λ at. 1 + at) o (export_index lines (own_symbol lines name)))) found.1 in
            omega (arith, inside, is)
        | inr none ↦ absurd (none_among (bytes_eq name) (imports lines) among none)
      ]

  named : (name : List ℕ) → (list_any (bytes_eq name) (imports lines) ≡ true) ⊎ (0 < length (exports lines)) → symbol_index lines name < all_symbols
  named name (inl among) = by_import name among
  named name (inr some) = by_export name some

  -- the target of a place that a line is about
  target_below : (name : List ℕ) → (is_preemptible lines name ≡ true → symbol_index lines name < all_symbols) → target_symbol (target_of lines name) < all_symbols
  target_below name below =
      let P : Bool → Type 0 = λ b. is_preemptible lines name ≡ b → target_symbol (if b then targets.Symbol (symbol_index lines name) else targets.Own (own_spot lines name)) < all_symbols in
      let cases : (b : Bool) → P b = λ b. elim b as P [ true ↦ below | false ↦ λ _. omega arith ] in
      cases (is_preemptible lines name) refl

  abbrev Below : List Fix → Type 0
  Below fixes = AllBelow all_symbols (map (λ fix. target_symbol fix.target) fixes)

  both_below : (one other : List Fix) → Below one → Below other → Below (one ++ other)
  both_below [] other first second = second
  both_below (fix ∷ one) other (here, first) second = (here, both_below one other first second)

  got_below : (offset : ℕ) (uses : List GotUse) → Each (λ got. target_symbol (target_of lines got.name) < all_symbols) uses → Below (got_fixes lines offset uses)
  got_below offset [] each = tt
  got_below offset (got ∷ uses) (here, each) =
      let one = got_below (offset + 8 * 1) uses each in
      let two = got_below (offset + 8 * 2) uses each in
      elim got.kind as (λ kind. Below (got_fix lines offset got.name kind ++ got_fixes lines (offset + 8 * got_words kind) uses)) [
        | gots.Address ↦ (here, one)
        | gots.Pair ↦ (here, (here, two))
        | gots.Offset ↦ (here, one)
      ]

  array_below : (part : Part) (offset : ℕ) (names : List (List ℕ)) → Below (array_fixes lines part offset names)
  array_below part offset [] = tt
  array_below part offset (name ∷ names) = (omega arith, array_below part (offset + 8) names)

  statement_below : (line : Line) → InLines lines line → (statement : Option Statement) → line.statement ≡ statement → (spot : Spot) → Below (statement_fixes lines spot statement)
  statement_below line inside (Some (statements.Directive (directives.Dword (doublewords.Address name addend)))) is spot =
      (target_below name (λ preemptible. named name (mentioned lines line inside name (ap mention is) preemptible)), tt)
  statement_below line inside (Some (statements.Directive (directives.Copy name size))) is spot =
      (by_export name (copy_exported lines line inside (Some (statements.Directive (directives.Copy name size))) is name (same_name name)), tt)
  statement_below line inside _ is spot = tt

  section_below : (section : Section) (k : ℕ) (before rest : List Line) → lines ≡ before ++ rest → Below (section_fixes lines section k rest)
  section_below section k before [] parts = tt
  section_below section k before (line ∷ rest) parts =
      let place = place_at lines k in
      let own = statement_below line (record { before = before; rest = rest; parts = parts }) line.statement refl (spot_of place) in
      let here : Below (line_fixes lines section place line)
      = elim (is_section section place.section) as (λ b. Below (if b then statement_fixes lines (spot_of place) line.statement else [])) [ true ↦ own | false ↦ tt ] in
      both_below (line_fixes lines section place line) (section_fixes lines section (k + 1) rest) here
      (section_below section (k + 1) (before ++ line ∷ []) rest (parts ∙ sym (append_assoc before (line ∷ []) rest)))

  uses_below : Each (λ got. target_symbol (target_of lines got.name) < all_symbols) (got_uses lines)
  unfolding got_uses
  uses_below =
      let P : GotUse → Type 0 = λ got. target_symbol (target_of lines got.name) < all_symbols in
      each_once same_use P (filter_map (λ line. got_use line.statement) lines) (of_lines lines (λ line. got_use line.statement) P (λ line inside got is.
      target_below got.name (λ preemptible. named got.name (mentioned lines line inside got.name (taken line.statement got is) preemptible))))

  all_below : Below (fixes_of lines)
  unfolding fixes_of
  all_below =
      both_below _ (section_fixes lines sections.Bss 0 lines)
      (both_below _ (section_fixes lines sections.Data 0 lines)
      (both_below _ (section_fixes lines sections.Tdata 0 lines)
      (both_below _ (section_fixes lines sections.Relro 0 lines)
      (both_below _ (array_fixes lines parts.FiniArray 0 (entries arrays.Fini lines))
      (both_below _ (array_fixes lines parts.InitArray 0 (entries arrays.Init lines))
      (both_below (got_fixes lines 0 (got_uses lines)) (array_fixes lines parts.PreinitArray 0 (entries arrays.Preinit lines))
      (got_below 0 (got_uses lines) uses_below)
      (array_below parts.PreinitArray 0 (entries arrays.Preinit lines)))
      (array_below parts.InitArray 0 (entries arrays.Init lines)))
      (array_below parts.FiniArray 0 (entries arrays.Fini lines)))
      (section_below sections.Relro 0 [] lines refl))
      (section_below sections.Tdata 0 [] lines refl))
      (section_below sections.Data 0 [] lines refl))
      (section_below sections.Bss 0 [] lines refl)

  listed_below : (fixes : List Fix) → Below fixes → Below (filter has_listed fixes)
  listed_below [] below = tt
  listed_below (fix ∷ fixes) (here, below) =
      let rest = listed_below fixes below in
      elim (has_listed fix) as (λ b. Below (if b then fix ∷ filter has_listed fixes else filter has_listed fixes)) [ true ↦ (here, rest) | false ↦ rest ]

  -- slots
  names_below : (names : List (List ℕ)) → Each (λ name. symbol_index lines name < all_symbols) names → AllBelow all_symbols (map (symbol_index lines) names)
  names_below [] each = tt
  names_below (name ∷ names) (here, each) = (here, names_below names each)

  slot_name : (line : Line) → InLines lines line → (name : List ℕ) → (o : Option (List ℕ)) → callee line.statement ≡ o → if_preemptible lines o ≡ Some name → symbol_index lines name < all_symbols
  slot_name line inside name None is gives = absurd cc
  slot_name line inside name (Some callee_name) is gives =
      let P : Bool → Type 0 = λ b. is_preemptible lines callee_name ≡ b → (if b then Some callee_name else None) ≡ Some name → symbol_index lines name < all_symbols in
      let some : P true = λ preemptible found.
      let same : callee_name ≡ name = cc in
      subst (λ (n : List ℕ). symbol_index lines n < all_symbols) same (named callee_name (mentioned lines line inside callee_name (called line.statement callee_name is) preemptible)) in
      let cases : (b : Bool) → P b = λ b. elim b as P [ true ↦ some | false ↦ λ _ found. absurd cc ] in
      cases (is_preemptible lines callee_name) refl gives

  slots_below : AllBelow all_symbols (map (symbol_index lines) (slots lines))
  unfolding slots
  slots_below =
      let P : List ℕ → Type 0 = λ name. symbol_index lines name < all_symbols in
      let f : Line → Option (List ℕ) = λ line. if_preemptible lines (callee line.statement) in
      names_below _ (each_once bytes_eq P (filter_map f lines) (of_lines lines f P (λ line inside name is. slot_name line inside name (callee line.statement) refl is)))

-- as many symbols as there are

imports_long : (lines : List Line) (at : ℕ) (names : List (List ℕ)) → length (import_entries lines at names) ≡ length names
imports_long lines at [] = refl
imports_long lines at (name ∷ names) = ap suc (imports_long lines (at + length name + 1) names)

exports_long : (lines : List Line) (at : ℕ) (all : List Exported) → length (export_entries lines at all) ≡ length all
exports_long lines at [] = refl
exports_long lines at (exported ∷ rest) = ap suc (exports_long lines (at + length exported.name + 1) rest)

count_is : (lines : List Line) → symbol_count (contents_of lines) ≡ first_export lines + length (sorted_exports lines)
unfolding contents_of
count_is lines =
    let one = imports_long lines (imports_at lines) (imports lines) in
    let other = exports_long lines (exports_at lines) (sorted_exports lines) in
    let both = length-append (import_entries lines (imports_at lines) (imports lines)) (export_entries lines (exports_at lines) (sorted_exports lines)) in
    omega (arith, one, other, both)

pub counts_symbols : (lines : List Line) → length lines ≤ 2 ^ 20 + 1 → CountsSymbols (contents_of lines)
unfolding contents_of gnu_of sysv_of
counts_symbols lines few =
    let first = first_is lines few in
    let count = count_is lines in
    let gnu_hashes = map (λ exported. gnu_hash exported.name) (sorted_exports lines) in
    let sysv_hashes = map (λ exported. sysv_hash exported.name) (sorted_exports lines) in
    record {
      gnu = λ g is.
          (let made = chosen (has_gnu (hash_of lines)) (gnu_of (word (first_export lines)) gnu_hashes) g is in
          let long = chain_long (bucket_count (length gnu_hashes)) gnu_hashes in
          let hashes = length-map (λ (exported : Exported). gnu_hash exported.name) (sorted_exports lines) in
          subst (λ (t : GnuPart). t.symoffset + length t.chain ≡ symbol_count (contents_of lines)) made.1 (omega (arith, long, hashes, first, count)));
      sysv = λ s is.
          (let made = chosen (has_sysv (hash_of lines)) (sysv_of (word (first_export lines)) sysv_hashes) s is in
          let long = sysv_long (word (first_export lines)) sysv_hashes in
          let hashes = length-map (λ (exported : Exported). sysv_hash exported.name) (sorted_exports lines) in
          subst (λ (t : SysvPart). length t.chain ≡ symbol_count (contents_of lines)) made.1 (omega (arith, long, hashes, first, count)));
      relocs = subst (λ n. AllBelow n (map (λ (fix : Fix). target_symbol fix.target) (filter has_listed (fixes_of lines)))) (sym count) (listed_below lines few (fixes_of lines) (all_below lines few));
      slots = subst (λ n. AllBelow n (map (symbol_index lines) (slots lines))) (sym count) (slots_below lines few);
    }
