-- GNU hash tables: buckets, chains and the bloom filter, as tests for the code of this crate alone.
use Rattle.std.specs.Prelude.{ℕ, ◌-◌, ◌/◌, ◌%◌, ◌^◌, ◌==◌, ◌&&◌, ◌||◌, Bool, false, not, nat_lt, nat_le, length, take, drop}
use Rattle.std.specs.List.{list_any, list_all, slice_get}
use Rattle.std.specs.Option.{option_map_or}
use Rattle.ld_base.specs.declared.parts.GnuPart.{GnuPart}
pub use Rattle.elf_head.specs.DynTable.Bits.{has_bit}
pub use Rattle.elf_head.specs.DynTable.HashWords.{is_end}

-- some chain word marks an end, from that of one symbol on and before that of another
abbrev pub ends_between : GnuPart → ℕ → ℕ → Bool
ends_between g first past = list_any is_end (drop (first - g.symoffset) (take (past - g.symoffset) g.chain))

-- the walk from a bucket ends inside so many symbols; that from an empty bucket has nowhere to go
abbrev pub walk_ends : GnuPart → ℕ → ℕ → Bool
walk_ends g count bucket = bucket == 0 || (nat_le g.symoffset bucket && ends_between g bucket count)

-- every walk ends inside so many symbols
unfoldable pub gnu_walks_end : GnuPart → ℕ → Bool
gnu_walks_end g count = list_all (walk_ends g count) g.buckets

-- the bloom filter has both bits of the hash
unfoldable pub in_bloom : GnuPart → ℕ → Bool
in_bloom g hash =
    option_map_or (λ word. has_bit word (hash % 64) && has_bit word (hash / 2 ^ g.shift % 64)) (slice_get g.bloom (hash / 64 % length g.bloom)) false

-- the walk from a bucket comes to the symbol
abbrev pub walk_reaches : GnuPart → ℕ → ℕ → Bool
walk_reaches g bucket i = nat_lt 0 bucket && nat_le g.symoffset bucket && nat_le bucket i && not (ends_between g bucket i)

-- the symbol is in the chain that the bucket of the hash begins
abbrev pub in_chain : GnuPart → ℕ → ℕ → Bool
in_chain g hash i = option_map_or (λ bucket. walk_reaches g bucket i) (slice_get g.buckets (hash % length g.buckets)) false

-- the chain word of the symbol is the hash, but for the bit that marks the end
abbrev pub has_word : GnuPart → ℕ → ℕ → Bool
has_word g hash i = option_map_or (λ word. word / 2 == hash / 2) (slice_get g.chain (i - g.symoffset)) false

-- the symbol is found by a hash
unfoldable pub gnu_leads : GnuPart → ℕ → ℕ → Bool
gnu_leads g hash i = in_bloom g hash && has_word g hash i && in_chain g hash i
