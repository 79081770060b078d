-- Symbols by the hashes of their names: for the reader of this crate alone.
use Rattle.std.specs.Prelude.{◌≡◌, ℕ, ◌-◌, ◌&&◌, Bool, true, false, not, nat_le, nat_lt, List, length, take, drop, Option, Some, None, if◌then◌else◌, slice_index}
use Rattle.std.specs.Prelude.{unwrap_or}
use Rattle.std.specs.Option.{option_map_or, option_or}
use Rattle.std.specs.List.{list_any, slice_get}
use Rattle.ld_base.specs.declared.parts.GnuPart.{GnuPart}
use Rattle.ld_base.specs.declared.parts.HashTable.{HashTable}
use Rattle.elf_head.specs.AcceptancePart.Least.{least_below}
use Rattle.elf_head.specs.DynTable.HashWords.{is_end}
use Rattle.sym_hash.specs.Gnu.{gnu_leads, gnu_walks_end}
use Rattle.sym_hash.specs.Hash.{gnu_hash, sysv_hash}
use Rattle.sym_hash.specs.Sysv.{sysv_leads, sysv_walks_end}

-- every walk of the table ends, for so many symbols; where there is a GNU table, no other is walked
abbrev pub walks_end : HashTable → ℕ → Bool
walks_end t count = option_map_or (λ g. gnu_walks_end g count) t.gnu (option_map_or sysv_walks_end t.sysv true)

-- the hash of a name in the table that counts
abbrev pub hash_by : HashTable → List ℕ → ℕ
hash_by t name = option_map_or (λ g. gnu_hash name) t.gnu (sysv_hash name)

-- the symbol is found by a hash
abbrev pub leads : HashTable → ℕ → ℕ → Bool
leads t hash i = option_map_or (λ g. gnu_leads g hash i) t.gnu (option_map_or (λ s. sysv_leads s hash i) t.sysv false)

-- the symbol of this index, of which it is known which are visible definitions, is an exported definition that isn't found
abbrev pub is_lost : (ℕ → Bool) → List Bool → ℕ → ℕ → Bool
is_lost found visible first i = nat_le first i && unwrap_or (slice_get visible i) false && not (found i)

-- the first of them
unfoldable pub first_lost : (ℕ → Bool) → List Bool → ℕ → Option ℕ
first_lost found visible first = least_below (is_lost found visible first) (length visible)

-- what breaks rule 19, of symbols with these hashes: a walk that doesn't end, by the number 0, or else an exported definition that isn't found
unfoldable pub unmet_by : HashTable → List Bool → List ℕ → ℕ → Option ℕ
unmet_by t visible hashes first =
    option_or (if walks_end t (length visible) then None else Some 0) (first_lost (λ i. leads t (slice_index hashes i) i) visible first)

-- how the ends stand before a symbol: from each chain word on there is one, of those before the symbol, where the word is below a number
abbrev pub EndsBelow : GnuPart → ℕ → ℕ → Type 0
EndsBelow g past ended = (k : ℕ) → list_any is_end (drop k (take (past - g.symoffset) g.chain)) ≡ nat_lt k ended
