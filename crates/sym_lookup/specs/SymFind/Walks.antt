-- The walks of hash tables: for the walks of this crate alone.
use Rattle.std.specs.Prelude.{◌≡◌, ◌≢◌, ◌↔◌, ℕ, ◌+◌, ◌-◌, ◌/◌, ◌%◌, ◌^◌, ◌<◌, ◌≤◌, ◌==◌, ◌||◌, nat_lt, if◌then◌else◌, Bool, IsTrue}
use Rattle.std.specs.Prelude.{List, length, Option, Some, None}
use Rattle.std.specs.List.{slice_get}
use Rattle.ld_base.specs.declared.parts.GnuPart.{GnuPart}
use Rattle.sym_hash.specs.Gnu.{has_bit}
use Rattle.sym_hash.specs.Hash.{gnu_hash}
use Rattle.sym_hash.specs.Reached.{GoesOn, IsChainWord, Leads, ReachedByGnu}

-- the chain word of a symbol is a hash, but for the bit that marks the end
pub record HasWord (g : GnuPart) (hash k : ℕ) : Type 0 where
  pub word : ℕ
  pub stands : IsChainWord g k word
  pub agrees : word / 2 ≡ hash / 2

-- the chain that a symbol begins leads to another at such a word
pub record Walked (g : GnuPart) (hash first k : ℕ) : Type 0 where
  pub goes_on : GoesOn g first k
  pub word : HasWord g hash k

-- a symbol before another one in the chain stands at such a word
pub record Met (g : GnuPart) (hash first past k : ℕ) : Type 0 where
  pub from : first ≤ k
  pub before : k < past
  pub word : HasWord g hash k

-- where the chain that a bucket begins stands among the chain words; a bucket of 0 begins none
abbrev pub chain_from : ℕ → Option ℕ → Option ℕ
chain_from symoffset (Some bucket) = if bucket == 0 || nat_lt bucket symoffset then None else Some (bucket - symoffset)
chain_from symoffset None = None

-- where the chain of a hash begins, as a place among the chain words: what it leads to is what is reached
abbrev pub BeginsAt : GnuPart → ℕ → Option ℕ → Type 0
BeginsAt g hash None = (name : List ℕ) → hash ≡ gnu_hash name → (k : ℕ) → ReachedByGnu g name k → ⊥
BeginsAt g hash (Some first) = (name : List ℕ) → hash ≡ gnu_hash name → (k : ℕ) → ReachedByGnu g name k ↔ Walked g hash (g.symoffset + first) k

-- a symbol is among the first so many links from another
pub record Linked (chain : List ℕ) (from most k : ℕ) : Type 0 where
  pub links : ℕ
  pub few : links < most
  pub leads : Leads chain from links k
  pub some : k ≢ 0

-- whether the bloom filter has both bits of a hash
pub record HasBits (g : GnuPart) (hash : ℕ) : Type 0 where
  pub bloom : ℕ
  pub filter : slice_get g.bloom (hash / 64 % length g.bloom) ≡ Some bloom
  pub first_bit : IsTrue (has_bit bloom (hash % 64))
  pub second_bit : IsTrue (has_bit bloom (hash / 2 ^ g.shift % 64))

abbrev pub InBloom : GnuPart → ℕ → Bool → Type 0
InBloom g hash has = IsTrue has ↔ HasBits g hash
