-- Relocations as they are judged, one after the other: for loops of this crate alone.
use Rattle.std.specs.Prelude.{◌≡◌, ◌↔◌, ℕ, ◌+◌, ◌<◌, ◌≤◌, Bool, true, false, List, [], ◌∷◌, ◌++◌, length, map, Option, Some, None, option_map}
use Rattle.std.specs.List.{list_any}
use Rattle.std.specs.BTreeMap.{BTreeMap}
use Rattle.ld_base.specs.declared.fault.NotAccepted.{NotAccepted}
use Rattle.ld_base.specs.declared.fault.ReadFault.{ReadFault}
use Rattle.ld_base.specs.declared.fault.ReadFault.TheVariants as faults
use Rattle.ld_base.specs.declared.object.Reloc.{Reloc}
use Rattle.ld_base.specs.declared.object.Span.{Span}
use Rattle.ld_base.specs.declared.object.Symbol.{Symbol}
use Rattle.ld_base.specs.declared.parts.Header.{Header}
use Rattle.elf_dynamic.specs.declared.apart.Apart.{Apart}
use Rattle.elf_dynamic.specs.declared.relr.Judged.{Judged}
use Rattle.elf_dynamic.specs.Ends.{IsMet, LieApart}
use Rattle.elf_dynamic.specs.Again.{first_again}
use Rattle.elf_dynamic.specs.Memory.{overlaps}
use Rattle.elf_dynamic.specs.Marks.{AreMarks}
use Rattle.elf_dynamic.specs.Named.{doubleword}
use Rattle.elf_dynamic.specs.Relr.{begins_odd, relr_places, relr_words}
use Rattle.elf_dynamic.specs.Rules.{bad_packed, bad_rela, bad_reloc, is_bad_place}

-- how many places are kept
unfoldable pub most_places : ℕ
most_places = 1_048_576

-- these places are counted, and kept where they aren't more than that
pub record ArePlaces (j : Judged) (places : List ℕ) : Type 0 where
  pub listed : length places ≤ most_places → j.places ≡ places
  pub count : j.count ≡ length places

-- packed relocations of these places, none of which is bad after relocations that name these ranges
pub record IsJudged (headers : List Header) (ranges : List Span) (places : List ℕ) (j : Judged) : Type 0 where
  pub none : first_again (is_bad_place headers) doubleword ranges places ≡ None
  pub marks : AreMarks j.named.words.items (ranges ++ map doubleword places)
  pub are : ArePlaces j places

-- they are kept, or the one of the index that is told is the first bad one
abbrev pub Admits : List Header → List Span → List ℕ → Bool → Judged → Type 0
Admits headers ranges places true j = IsJudged headers ranges places j
Admits headers ranges places false j = first_again (is_bad_place headers) doubleword ranges places ≡ Some j.count

-- after whichever relocations the old one was judged, it admits these places behind theirs
abbrev pub AdmitsMore : List Header → List ℕ → Judged → Bool → Judged → Type 0
AdmitsMore headers more old kept new =
    (ranges : List Span) (places : List ℕ) → IsJudged headers ranges places old → Admits headers ranges (places ++ more) kept new

-- the map of where they begin and end meets just what has a byte in common with one of these ranges
pub record AreEnds (ranges : List Span) (ends : BTreeMap ℕ ℕ) : Type 0 where
  pub apart : LieApart ends
  pub met : (s : Span) → 0 < s.size → IsMet ends s.start (s.start + s.size) ↔ (list_any (overlaps s) ranges ≡ true)

-- ranges that lie apart, as they are kept
pub record AreApart (ranges : List Span) (a : Apart) : Type 0 where
  pub ends : AreEnds ranges a.ends
  pub marks : AreMarks a.named.words.items ranges

-- a range that has no byte in common with those before it is kept behind them
abbrev pub IsPutTo : List Span → Span → Apart → Type 0
IsPutTo ranges range a = (list_any (overlaps range) ranges ≡ false) × AreApart (ranges ++ range ∷ []) a

-- the fault is this one; want of memory says nothing
abbrev pub FaultIs : Option NotAccepted → ReadFault → Type 0
FaultIs found (faults.NotAccepted broken) = found ≡ Some broken
FaultIs found faults.Memory = Unit {0}

-- the rule is broken with this number
abbrev pub broken_at : ℕ → ℕ → NotAccepted
broken_at rule number = record { rule = rule; number = number }

-- rule 14, of relocations of DT_RELA, of packed ones after so many others, and of both
abbrev pub rela_broken : List Header → List Symbol → List Reloc → Option NotAccepted
rela_broken headers symbols relocs = option_map (broken_at 14) (bad_rela headers symbols relocs)

abbrev pub packed_broken : List Header → List Span → List ℕ → ℕ → Option NotAccepted
packed_broken headers ranges packed others =
    option_map (λ k. broken_at 14 (others + k)) (bad_packed headers ranges (begins_odd (relr_words packed)) (relr_places packed))

abbrev pub reloc_broken : List Header → List Symbol → List Reloc → List ℕ → Option NotAccepted
reloc_broken headers symbols relocs packed =
    option_map (broken_at 14) (bad_reloc headers symbols relocs (begins_odd (relr_words packed)) (relr_places packed))
