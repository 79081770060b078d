-- The parts of an object in the order of their addresses.
use Rattle.std.specs.Prelude.{ℕ, ◌==◌, Bool, List, [], ◌∷◌}
use Rattle.asm_write.specs.declared.part.Part.{Part}
use Rattle.asm_write.specs.declared.part.Part.TheVariants as parts

abbrev pub number_of : Part → ℕ
number_of parts.Head = 0
number_of parts.GnuHash = 1
number_of parts.SysvHash = 2
number_of parts.Symbols = 3
number_of parts.Strings = 4
number_of parts.Versym = 5
number_of parts.Verdef = 6
number_of parts.Verneed = 7
number_of parts.Rela = 8
number_of parts.Relr = 9
number_of parts.Jmprel = 10
number_of parts.Rodata = 11
number_of parts.Plt = 12
number_of parts.Text = 13
number_of parts.Dynamic = 14
number_of parts.Got = 15
number_of parts.PreinitArray = 16
number_of parts.InitArray = 17
number_of parts.FiniArray = 18
number_of parts.Relro = 19
number_of parts.Tdata = 20
number_of parts.Tbss = 21
number_of parts.GotPlt = 22
number_of parts.Data = 23
number_of parts.Bss = 24

abbrev pub same_part : Part → Part → Bool
same_part one other = number_of one == number_of other

-- the parts of the segments that are loaded: read, run, read once they are relocated, and written
abbrev pub read_parts : List Part
read_parts =
    parts.Head ∷ parts.GnuHash ∷ parts.SysvHash ∷ parts.Symbols ∷ parts.Strings ∷ parts.Versym ∷ parts.Verdef ∷ parts.Verneed
    ∷ parts.Rela ∷ parts.Relr ∷ parts.Jmprel ∷ parts.Rodata ∷ []

abbrev pub run_parts : List Part
run_parts = parts.Plt ∷ parts.Text ∷ []

abbrev pub relro_parts : List Part
relro_parts =
    parts.Dynamic ∷ parts.Got ∷ parts.PreinitArray ∷ parts.InitArray ∷ parts.FiniArray ∷ parts.Relro ∷ parts.Tdata ∷ parts.Tbss ∷ []

abbrev pub written_parts : List Part
written_parts = parts.GotPlt ∷ parts.Data ∷ parts.Bss ∷ []

abbrev pub all_parts : List Part
all_parts =
    parts.Head ∷ parts.GnuHash ∷ parts.SysvHash ∷ parts.Symbols ∷ parts.Strings ∷ parts.Versym ∷ parts.Verdef ∷ parts.Verneed
    ∷ parts.Rela ∷ parts.Relr ∷ parts.Jmprel ∷ parts.Rodata ∷ parts.Plt ∷ parts.Text ∷ parts.Dynamic ∷ parts.Got
    ∷ parts.PreinitArray ∷ parts.InitArray ∷ parts.FiniArray ∷ parts.Relro ∷ parts.Tdata ∷ parts.Tbss ∷ parts.GotPlt
    ∷ parts.Data ∷ parts.Bss ∷ []
