-- Records of version tables with the strings at the offsets that they tell: for the code of this crate alone.
use Rattle.std.specs.Prelude.{ℕ, List}
use Rattle.ld_base.specs.declared.object.Verdef.{Verdef}
use Rattle.ld_base.specs.declared.object.Verneed.{Verneed}
use Rattle.elf_head.specs.DynTable.Name.{string_in}
use Rattle.elf_versions.specs.declared.verdef.VerdefRecord.{VerdefRecord}
use Rattle.elf_versions.specs.declared.verneed.NeedRecord.{NeedRecord}
use Rattle.elf_versions.specs.declared.verneed.VerneedRecord.{VerneedRecord}
use Rattle.elf_versions.specs.Need.{Need}

abbrev pub defined : List ℕ → VerdefRecord → Verdef
defined strings d = record { index = d.index; flags = d.flags; name = string_in strings d.name }

abbrev pub need_of : List ℕ → NeedRecord → Need
need_of strings n = record { file = string_in strings n.file; versions = n.versions; count = n.count }

abbrev pub needed : List ℕ → VerneedRecord → Verneed
needed strings n = record { index = n.index; flags = n.flags; file = string_in strings n.file; name = string_in strings n.name }
