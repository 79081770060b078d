-- Hash tables as their words in a file can tell them (gABI, "Hash Table"; the GNU hash table has no section of the gABI).
use Rattle.std.specs.Prelude.{◌≡◌, ℕ, ◌+◌, ◌^◌, ◌<◌, IsTrue, not, max, List, [], ◌∷◌, ◌++◌, map, filter, fold, length, Some}
use Rattle.std.specs.List.{AllPass}
use Rattle.ld_base.specs.declared.parts.GnuPart.{GnuPart}
use Rattle.ld_base.specs.declared.parts.SysvPart.{SysvPart}
use Rattle.elf_head.specs.DynTable.HashWords.{is_end}
use Rattle.asm_write.specs.declared.contents.Contents.{Contents}
use Rattle.asm_write.specs.Records.{target_symbol}
use Rattle.asm_write.specs.Sizes.{has_listed, symbol_count}
use Rattle.asm_write.specs.Starts.{starts_of}
use Rattle.asm_laws.specs.ElfSpelled.Said.{AllBelow, TellsNumbers}
use Rattle.asm_accepted.specs.ElfTabled.Tables.{AreSymbolNumbers, ListedFit, SymbolsFit}

-- the greatest bucket: the symbol that begins the last chain, 0 where there is none
abbrev pub greatest : GnuPart → ℕ
greatest g = fold max 0 g.buckets

-- the chain words end where the chain of the greatest bucket does: nothing else in the file tells how many there are
pub data EndsWithGreatest (g : GnuPart) : Type 0 where
  none : greatest g ≡ 0 → g.chain ≡ [] → EndsWithGreatest g
  last : (before on : List ℕ) (end : ℕ) → 0 < greatest g → g.symoffset + length before ≡ greatest g → g.chain ≡ before ++ (on ++ end ∷ [])
      → AllPass (λ word. not (is_end word)) on → IsTrue (is_end end) → EndsWithGreatest g

-- its numbers are ones that their words hold
pub record GnuFits (g : GnuPart) : Type 0 where
  pub symoffset : g.symoffset < 2 ^ 32
  pub shift : g.shift < 2 ^ 32
  pub bloom_size : length g.bloom < 2 ^ 32
  pub bloom : AllBelow (2 ^ 64) g.bloom
  pub bucket_count : length g.buckets < 2 ^ 32
  pub buckets : AllBelow (2 ^ 32) g.buckets
  pub chain : AllBelow (2 ^ 32) g.chain
  pub ends : EndsWithGreatest g

pub record SysvFits (s : SysvPart) : Type 0 where
  pub bucket_count : length s.buckets < 2 ^ 32
  pub buckets : AllBelow (2 ^ 32) s.buckets
  pub chain_count : length s.chain < 2 ^ 32
  pub chain : AllBelow (2 ^ 32) s.chain

pub record HashesFit (contents : Contents) : Type 0 where
  pub gnu : (g : GnuPart) → contents.gnu ≡ Some g → GnuFits g
  pub sysv : (s : SysvPart) → contents.sysv ≡ Some s → SysvFits s

-- the tables tell how many symbols there are, and relocations and slots name some of those
pub record CountsSymbols (contents : Contents) : Type 0 where
  pub gnu : (g : GnuPart) → contents.gnu ≡ Some g → g.symoffset + length g.chain ≡ symbol_count contents
  pub sysv : (s : SysvPart) → contents.sysv ≡ Some s → length s.chain ≡ symbol_count contents
  pub relocs : AllBelow (symbol_count contents) (map (λ fix. target_symbol fix.target) (filter has_listed contents.fixes))
  pub slots : AllBelow (symbol_count contents) contents.slots

-- the numbers of all tables fit, and the tables tell how many symbols there are
pub record FitsTables (contents : Contents) : Type 0 where
  pub tells : TellsNumbers contents
  pub listed : ListedFit (starts_of contents) contents.fixes
  pub slots : AreSymbolNumbers contents.slots
  pub symbols : SymbolsFit (starts_of contents) contents.symbols
  pub hashes : HashesFit contents
  pub counts : CountsSymbols contents
