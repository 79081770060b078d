-- Relocations whose symbols are there: for the loops that go over them.
use Rattle.std.specs.Prelude.{ℕ, ◌<◌, List}
use Rattle.std.specs.List.{AllByRecursion}
use Rattle.ld_base.specs.declared.object.Reloc.{Reloc}

-- each names one of so many symbols
abbrev pub AreNamed : ℕ → List Reloc → Type 0
AreNamed count relocs = AllByRecursion (λ r. r.symbol < count) relocs
