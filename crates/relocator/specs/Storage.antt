-- What the rows of thread-local storage take from the chosen object (Drepper, ELF Handling For Thread-Local Storage; psABI). A relocation
-- that names the null symbol means the object itself, with value 0.
use Rattle.std.specs.Prelude.{ℕ, Bool, ◌&&◌, ◌==◌, not, List, Option, Some, None, find, if◌then◌else◌}
use Rattle.std.specs.Option.{is_some, option_map, option_map_or, option_and_then}
use Rattle.ld_base.specs.declared.object.Object.{Object}
use Rattle.ld_base.specs.declared.object.Reloc.{Reloc}
use Rattle.relocator.specs.declared.binding.Binding.{Binding}
use Rattle.relocator.specs.declared.binding.ModulePlace.{ModulePlace}
use Rattle.relocator.specs.Bindings.{relas_of}

-- the object that is meant, and the symbol's value in it
abbrev pub storage_object : ℕ → Reloc → Binding → Option ℕ
storage_object serial r b = if r.symbol == 0 then Some serial else b.object

abbrev pub storage_value : Reloc → Binding → ℕ
storage_value r b = if r.symbol == 0 then 0 else b.value

-- the module of an object, where it has one
abbrev pub place_of : List ModulePlace → ℕ → Option ModulePlace
place_of places serial = find (λ p. p.serial == serial) places

-- the number of a module: 0 where there is no object, or it has no module
abbrev pub module_of : List ModulePlace → Option ℕ → ℕ
module_of places None = 0
module_of places (Some serial) = option_map_or (λ p. p.number) (place_of places serial) 0

-- the offset in each static block: 0 where there is no object
abbrev pub offset_of : List ModulePlace → Option ℕ → Option ℕ
offset_of places None = Some 0
offset_of places (Some serial) = option_and_then (λ p. p.offset) (place_of places serial)

-- a TLS_TPREL64 (11) of an object without such an offset
abbrev pub lacks_offset : ℕ → List ModulePlace → Reloc × Binding → Bool
lacks_offset serial places x = x.0.kind == 11 && not (is_some (offset_of places (storage_object serial x.0 x.1)))

-- the place of the first such relocation
unfoldable pub first_without_offset : Object → ℕ → List Binding → List ModulePlace → Option ℕ
first_without_offset o serial bindings places = option_map (λ x. x.0.place) (find (lacks_offset serial places) (relas_of o bindings))
