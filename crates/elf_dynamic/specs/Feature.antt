-- The features of rule 15 by their numbers: for the code of this crate alone.
use Rattle.std.specs.Prelude.{ℕ}
use Rattle.elf_dynamic.specs.declared.feature.Feature.{Feature}
use Rattle.elf_dynamic.specs.declared.feature.Feature.TheVariants as features

-- the number of a feature, by which refused_feature gives it
abbrev pub number_of : Feature → ℕ
number_of features.IndirectFunction = 1
number_of features.Irelative = 2
number_of features.UniqueSymbol = 3
number_of features.TlsDescriptor = 4
number_of features.Reloc32 = 5
number_of features.RelTable = 6
number_of features.TextRelocations = 7
number_of features.CopyInLibrary = 8
number_of features.OtherRelocation = 9
number_of features.OpenSegment = 11
number_of features.FixedLibrary = 12
