-- The words of hash tables in a file (gABI, "Hash Table"; the GNU hash table has no section of the gABI).
use Rattle.std.specs.Prelude.{ℕ, ◌+◌, ◌-◌, ◌*◌, ◌/◌, ◌%◌, ◌==◌, Bool, nat_lt, nat_le, max, if◌then◌else◌, List, [], length, drop, take, fold, position}
use Rattle.std.specs.Prelude.{Option, Some, None, option_map}
use Rattle.std.specs.Option.{option_and_then}
use Rattle.ld_base.specs.Field.{field}
use Rattle.ld_base.specs.declared.parts.GnuPart.{GnuPart}
use Rattle.ld_base.specs.declared.parts.HashTable.{HashTable}
use Rattle.ld_base.specs.declared.parts.Header.{Header}
use Rattle.ld_base.specs.declared.parts.SysvPart.{SysvPart}
use Rattle.ld_base.specs.declared.parts.Tag.{Tag}
use Rattle.elf_head.specs.Readable.{bytes_from}
use Rattle.elf_head.specs.AcceptancePart.Table.{table}
use Rattle.elf_head.specs.DynTable.Tag.{last_of}
use Rattle.elf_head.specs.DynTable.TagNumbers.{dt_hash, dt_gnu_hash}

-- so many 32-bit words from a place on, and 64-bit ones
abbrev pub ints : List ℕ → ℕ → ℕ → List ℕ
ints bytes at count = table (field 4 bytes) at 4 count

abbrev pub longs : List ℕ → ℕ → ℕ → List ℕ
longs bytes at count = table (field 8 bytes) at 8 count

-- the words of a System V hash table, from the bytes at its address on: nbucket, nchain, the buckets, the chain
unfoldable pub sysv_words : List ℕ → Option SysvPart
sysv_words bytes =
    if nat_le 8 (length bytes) then
    (if nat_le (8 + 4 * field 4 bytes 0 + 4 * field 4 bytes 4) (length bytes) then
    Some (record { buckets = ints bytes 8 (field 4 bytes 0); chain = ints bytes (8 + 4 * field 4 bytes 0) (field 4 bytes 4) })
    else None)
    else None

-- a chain word of a GNU hash table that marks the end of its chain
abbrev pub is_end : ℕ → Bool
is_end word = word % 2 == 1

-- the words up to the first end that isn't before a place
abbrev pub up_to_end : ℕ → List ℕ → Option (List ℕ)
up_to_end first words = option_map (λ k. take (first + k + 1) words) (position is_end (drop first words))

-- the chain words from those of symbol symoffset to the end of the chain that the greatest bucket begins; none where no bucket begins one
abbrev pub chain_words : ℕ → ℕ → List ℕ → Option (List ℕ)
chain_words symoffset greatest words =
    if greatest == 0 then Some [] else if nat_lt greatest symoffset then None else up_to_end (greatest - symoffset) words

-- where the buckets and the chain words of a GNU hash table stand: behind its header, the bloom words and the buckets
abbrev pub buckets_at : List ℕ → ℕ
buckets_at bytes = 16 + 8 * field 4 bytes 8

abbrev pub chain_at : List ℕ → ℕ
chain_at bytes = buckets_at bytes + 4 * field 4 bytes 0

-- with this chain, the words of the table
abbrev pub gnu_part : List ℕ → List ℕ → GnuPart
gnu_part bytes chain = record {
  symoffset = field 4 bytes 4;
  shift = field 4 bytes 12;
  bloom = longs bytes 16 (field 4 bytes 8);
  buckets = ints bytes (buckets_at bytes) (field 4 bytes 0);
  chain = chain;
}

-- the chain of a GNU hash table
unfoldable pub gnu_chain : List ℕ → Option (List ℕ)
gnu_chain bytes =
    chain_words (field 4 bytes 4) (fold max 0 (ints bytes (buckets_at bytes) (field 4 bytes 0)))
    (ints bytes (chain_at bytes) ((length bytes - chain_at bytes) / 4))

-- the words of a GNU hash table, from the bytes at its address on: nbuckets, symoffset, bloom_size, bloom_shift, the bloom words, the buckets, the chain
unfoldable pub gnu_words : List ℕ → Option GnuPart
gnu_words bytes =
    if nat_le 16 (length bytes) then
    (if nat_le (chain_at bytes) (length bytes) then option_map (gnu_part bytes) (gnu_chain bytes) else None)
    else None

-- the words of the tables that DT_GNU_HASH and DT_HASH name, where they are there
unfoldable pub hash_words : List ℕ → List Header → List Tag → HashTable
hash_words bytes headers tags = record {
  gnu = option_and_then (λ at. gnu_words (bytes_from bytes headers at)) (last_of tags dt_gnu_hash);
  sysv = option_and_then (λ at. sysv_words (bytes_from bytes headers at)) (last_of tags dt_hash);
}
