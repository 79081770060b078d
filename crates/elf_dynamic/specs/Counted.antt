-- What is read first of the tables: for the reader of this crate alone.
use Rattle.std.specs.Prelude.{◌≡◌, ℕ, Bool, List, ◌∷◌, Option, Ok}
use Rattle.ld_base.specs.declared.object.Symbol.{Symbol}
use Rattle.ld_base.specs.declared.parts.Head.{Head}
use Rattle.ld_base.specs.declared.parts.Header.{Header}
use Rattle.ld_base.specs.declared.parts.Tag.{Tag}
use Rattle.elf_head.specs.Rules.{head_verdict}
use Rattle.elf_head.specs.DynTable.HashWords.{hash_words}
use Rattle.elf_dynamic.specs.declared.reader.Counted.{Counted}
use Rattle.elf_dynamic.specs.declared.relr.Judged.{Judged}
use Rattle.elf_dynamic.specs.Judged.{ArePlaces}
use Rattle.elf_dynamic.specs.Relr.{relr_places}
use Rattle.elf_dynamic.specs.Rules.{bad_string, rules_on}
use Rattle.elf_dynamic.specs.Tables.{count_in, first_exported, plt_relocs, rela_relocs, relr_bytes, strings_in, symbol_bytes, symbols_of}

-- the relocations with addends, and how many symbols there are
abbrev pub counted_in : List ℕ → List Header → List Tag → Counted
counted_in bytes headers tags = record {
  relocs = rela_relocs bytes headers tags;
  plt_relocs = plt_relocs bytes headers tags;
  first_exported = first_exported (hash_words bytes headers tags);
  count = count_in bytes headers tags;
}

-- the rules from 12 on
abbrev pub rules_from_names : List ℕ → Head → Bool → List Tag → List (Option ℕ)
rules_from_names bytes head program tags =
    bad_string (strings_in bytes head.headers tags) tags (symbol_bytes bytes head.headers tags) (count_in bytes head.headers tags)
    ∷ rules_on bytes head program tags (symbols_of bytes head.headers tags) (rela_relocs bytes head.headers tags)
    (plt_relocs bytes head.headers tags) (relr_bytes bytes head.headers tags)

-- tables of an accepted head that were read and judged
pub record AreJudged (bytes : List ℕ) (head : Head) (tags : List Tag)
    (counted : Counted) (strings : List ℕ) (symbols : List Symbol) (judged : Judged) : Type 0 where
  pub accepted : head_verdict bytes ≡ Ok head
  pub read : counted ≡ counted_in bytes head.headers tags
  pub names : strings ≡ strings_in bytes head.headers tags
  pub named : symbols ≡ symbols_of bytes head.headers tags
  pub places : ArePlaces judged (relr_places (relr_bytes bytes head.headers tags))
