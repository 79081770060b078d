-- Whether the hash tables lead to all that an object exports, as a test: the verdict of an object is made of it.
use Rattle.std.specs.Prelude.{ℕ, List, [], ◌∷◌, map, Option, Result, Ok, Err}
use Rattle.std.specs.Option.{option_map_or}
use Rattle.ld_base.specs.Symbol.{is_visible_definition}
use Rattle.ld_base.specs.declared.fault.NotAccepted.{NotAccepted}
use Rattle.ld_base.specs.declared.object.Symbol.{Symbol}
use Rattle.ld_base.specs.declared.parts.DynParts.{DynParts}
use Rattle.ld_base.specs.declared.parts.Head.{Head}
use Rattle.ld_base.specs.declared.parts.HashTable.{HashTable}
use Rattle.ld_base.specs.declared.parts.Header.{Header}
use Rattle.ld_base.specs.declared.parts.Tag.{Tag}
use Rattle.elf_head.specs.AcceptancePart.Broken.{first_broken}
use Rattle.elf_head.specs.DynTable.HashWords.{hash_words}
use Rattle.sym_hash.specs.Hashed.{hash_by, unmet_by}

-- what breaks rule 19, of symbols by their names
abbrev pub unmet : HashTable → List Symbol → ℕ → Option ℕ
unmet t symbols first = unmet_by t (map is_visible_definition symbols) (map (λ s. hash_by t s.name) symbols) first

-- the hash tables of an object with these symbols, or the rule that they break
unfoldable pub table_verdict : List ℕ → List Header → List Tag → List Symbol → ℕ → Result HashTable NotAccepted
table_verdict bytes headers tags symbols first =
    option_map_or Err (first_broken 19 (unmet (hash_words bytes headers tags) symbols first ∷ [])) (Ok (hash_words bytes headers tags))

-- those of an object with these parts
abbrev pub hash_verdict : List ℕ → Head → DynParts → Result HashTable NotAccepted
hash_verdict bytes head parts = table_verdict bytes head.headers parts.tags parts.symbols parts.first_exported
