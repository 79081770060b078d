-- The version indexes of symbols.
use Rattle.std.proofs.Common.{◌≡◌, ◌∙◌, ap, refl, ℕ, ◌+◌, ◌^◌, List, [], ◌∷◌, ◌++◌, length, map, flat_map, arith, true}
use Rattle.std.specs.Int.{w16, to_le_bytes}
use Rattle.ld_base.specs.Field.{field}
use Rattle.elf_head.specs.AcceptancePart.Table.{table}
use Rattle.asm_write.specs.declared.contents.SymbolEntry.{SymbolEntry}
use Rattle.asm_write.specs.Values.{versym_bytes}
use Rattle.asm_laws.specs.ElfSpelled.Said.{AllBelow}
use Rattle.asm_laws.specs.ElfSpelled.Lemmas.Rows.{halves_read, length-map, whole}

halves : List ℕ → List ℕ
halves numbers = flat_map (to_le_bytes w16) numbers

of_symbols : (symbols : List SymbolEntry) → flat_map (λ symbol. to_le_bytes w16 symbol.version) symbols ≡ halves (map (λ symbol. symbol.version) symbols)
unfolding halves
of_symbols [] = refl
of_symbols (symbol ∷ symbols) = ap (λ (rest : List ℕ). to_le_bytes w16 symbol.version ++ rest) (of_symbols symbols)

pub versym_read : (symbols : List SymbolEntry) → AllBelow (2 ^ 16) (map (λ symbol. symbol.version) symbols)
    → table (field 2 (versym_bytes true symbols)) 0 2 (1 + length symbols) ≡ 0 ∷ map (λ symbol. symbol.version) symbols
unfolding versym_bytes halves
versym_read symbols low =
    let numbers = map (λ (symbol : SymbolEntry). symbol.version) symbols in
    let bytes : versym_bytes true symbols ≡ halves (0 ∷ numbers) = ap (λ (rest : List ℕ). 0 ∷ 0 ∷ rest) (of_symbols symbols) in
    let count : 1 + length symbols ≡ length (0 ∷ numbers) = let long = length-map (λ (symbol : SymbolEntry). symbol.version) symbols in omega (arith, long) in
    ap (λ (part : List ℕ). table (field 2 part) 0 2 (1 + length symbols)) bytes ∙ ap (table (field 2 (halves (0 ∷ numbers))) 0 2) count ∙ halves_read (halves (0 ∷ numbers)) 0 (0 ∷ numbers) (omega arith, low) (whole (halves (0 ∷ numbers)))
