-- The symbols of a table, one after the other.
use Rattle.std.proofs.Common.{◌≡◌, ◌∙◌, ap, ℕ, suc, ◌+◌, ◌*◌, List, [], ◌∷◌, ◌++◌, arith}
use Rattle.ld_base.specs.Field.{field}
use Rattle.ld_base.specs.declared.object.Symbol.{Symbol}
use Rattle.elf_head.specs.AcceptancePart.Table.{table}
use Rattle.elf_head.specs.DynTable.Name.{string_in}
use Rattle.elf_head.specs.DynTable.Symbol.{symbol_name, symbol_named}

-- the symbol at a place, with its name
abbrev named_at : List ℕ → List ℕ → ℕ → Symbol
named_at bytes strings at = symbol_named bytes at (string_in strings (symbol_name bytes at))

-- one symbol more
pub next_symbol : (bytes strings : List ℕ) (symbols : List Symbol) (n offset : ℕ) (name : List ℕ) (more : List Symbol) (s : Symbol)
    → symbols ≡ table (named_at bytes strings) 0 24 n → more ≡ symbols ++ s ∷ [] → s ≡ symbol_named bytes (24 * n) name
    → name ≡ string_in strings offset → offset ≡ field 4 bytes (24 * n) → more ≡ table (named_at bytes strings) 0 24 (n + 1)
next_symbol bytes strings symbols n offset name more s so_far pushed is named tells =
    let place : 24 * n ≡ 0 + 24 * n = omega arith in
    let count : n + 1 ≡ suc n = omega arith in
    let last : symbol_named bytes (24 * n) name ≡ named_at bytes strings (24 * n) = ap (symbol_named bytes (24 * n)) (named ∙ ap (string_in strings) tells) in
    rw count (pushed ∙ ap (λ (x : List Symbol). x ++ s ∷ []) so_far ∙ ap (λ (x : Symbol). table (named_at bytes strings) 0 24 n ++ x ∷ []) (is ∙ last ∙ ap (named_at bytes strings) place))
