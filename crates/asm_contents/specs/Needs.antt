-- The flags of a needed version, as they are looked up: VER_FLG_WEAK where no need of it is strong.
use Rattle.std.specs.Prelude.{ℕ, if◌then◌else◌, List}
use Rattle.std.specs.List.{list_any}
use Rattle.std.specs.Str.{bytes_eq}
use Rattle.asm_places.specs.declared.asm_needs.needed_file.NeededFile.{NeededFile}

abbrev pub flags_in : NeededFile → List ℕ → ℕ
flags_in file version = if list_any (bytes_eq version) file.strong then 0 else 2
