-- What it is for a hash table to lead to a symbol (gABI, "Hash Table").
use Rattle.std.specs.Prelude.{◌≡◌, ◌≢◌, ℕ, zero, suc, ◌-◌, ◌/◌, ◌%◌, ◌^◌, ◌<◌, ◌≤◌, IsTrue, false, List, length, Contains, MatchOption, Some}
use Rattle.std.specs.List.{slice_get}
use Rattle.ld_base.specs.Symbol.{is_visible_definition}
use Rattle.ld_base.specs.declared.object.Object.{Object}
use Rattle.ld_base.specs.declared.object.Symbol.{Symbol}
use Rattle.ld_base.specs.declared.parts.GnuPart.{GnuPart}
use Rattle.ld_base.specs.declared.parts.HashTable.{HashTable}
use Rattle.ld_base.specs.declared.parts.SysvPart.{SysvPart}
use Rattle.elf_head.specs.DynTable.Bits.{has_bit}
use Rattle.elf_head.specs.DynTable.HashWords.{is_end}
use Rattle.sym_hash.specs.Hash.{gnu_hash, sysv_hash}

-- ---- the GNU table

-- the chain word of a symbol: the first is that of the symbol symoffset
pub record IsChainWord (g : GnuPart) (i word : ℕ) : Type 0 where
  pub from : g.symoffset ≤ i
  pub stands : slice_get g.chain (i - g.symoffset) ≡ Some word

-- a chain that begins at this symbol goes on up to another: no chain word between the two marks an end
pub record GoesOn (g : GnuPart) (first i : ℕ) : Type 0 where
  pub order : first ≤ i
  pub on : (k : ℕ) → first ≤ k → k < i → (word : ℕ) × IsChainWord g k word × (is_end word ≡ false)

-- the chain that begins at this symbol ends before a number of symbols
pub record EndsBefore (g : GnuPart) (first count : ℕ) : Type 0 where
  pub last : ℕ
  pub within : last < count
  pub goes_on : GoesOn g first last
  pub word : ℕ
  pub stands : IsChainWord g last word
  pub ended : IsTrue (is_end word)

-- a symbol is reached under a name: the bloom filter has both bits of the name's hash, and the symbol stands in the chain that the bucket
-- of the hash begins, at a chain word that is the hash but for its lowest bit; a bucket of 0 begins none
pub record ReachedByGnu (g : GnuPart) (name : List ℕ) (i : ℕ) : Type 0 where
  pub bloom : ℕ
  pub filter : slice_get g.bloom (gnu_hash name / 64 % length g.bloom) ≡ Some bloom
  pub first_bit : IsTrue (has_bit bloom (gnu_hash name % 64))
  pub second_bit : IsTrue (has_bit bloom (gnu_hash name / 2 ^ g.shift % 64))
  pub bucket : ℕ
  pub begins : slice_get g.buckets (gnu_hash name % length g.buckets) ≡ Some bucket
  pub some : bucket ≢ 0
  pub within : g.symoffset ≤ bucket
  pub goes_on : GoesOn g bucket i
  pub word : ℕ
  pub stands : IsChainWord g i word
  pub hash : word / 2 ≡ gnu_hash name / 2

-- ---- the System V table

-- so many links lead from a symbol to another; none leads on from 0, nor from where no chain word is
pub data Leads (chain : List ℕ) : ℕ → ℕ → ℕ → Type 0 where
  here : (i : ℕ) → Leads chain i zero i
  on : (from next links to : ℕ) → from ≢ 0 → slice_get chain from ≡ Some next → Leads chain next links to → Leads chain from (suc links) to

-- a symbol is reached under a name: it is among the first links from the bucket of the name's hash, of which there are as many as chain words
pub record ReachedBySysv (s : SysvPart) (name : List ℕ) (i : ℕ) : Type 0 where
  pub bucket : ℕ
  pub begins : slice_get s.buckets (sysv_hash name % length s.buckets) ≡ Some bucket
  pub links : ℕ
  pub few : links < length s.chain
  pub leads : Leads s.chain bucket links i
  pub some : i ≢ 0

-- ---- both

-- Reached: where there is a GNU table no other counts
abbrev pub Reached : HashTable → List ℕ → ℕ → Type 0
Reached t name i = MatchOption t.gnu (MatchOption t.sysv ⊥ (λ s. ReachedBySysv s name i)) (λ g. ReachedByGnu g name i)

-- every walk ends: in a GNU table inside so many symbols, in a System V table at 0, within as many steps as there are chain words
abbrev pub WalksEnd : HashTable → ℕ → Type 0
WalksEnd t count = MatchOption t.gnu
    (MatchOption t.sysv (Unit {0}) (λ s. (bucket : ℕ) → Contains s.buckets bucket → (links : ℕ) × (links ≤ length s.chain) × Leads s.chain bucket links 0))
    (λ g. (bucket : ℕ) → Contains g.buckets bucket → bucket ≢ 0 → (g.symoffset ≤ bucket) × EndsBefore g bucket count)

-- the table is that of an object with these symbols, those from the first on being exported: every walk ends, and each exported definition
-- is reached under its name
pub record IsTableFor (t : HashTable) (symbols : List Symbol) (first : ℕ) : Type 0 where
  pub ends : WalksEnd t (length symbols)
  pub reached : (i : ℕ) (s : Symbol) → first ≤ i → slice_get symbols i ≡ Some s → IsTrue (is_visible_definition s) → Reached t s.name i

abbrev pub IsTableOf : HashTable → Object → Type 0
IsTableOf t o = IsTableFor t o.symbols o.first_exported
