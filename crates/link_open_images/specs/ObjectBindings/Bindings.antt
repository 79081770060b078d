-- What the relocations of a new object are bound to (psABI, "Relocations"), over what is seen of its namespace with the new objects in it.
use Rattle.std.specs.Prelude.{◌≡◌, ℕ, Bool, true, ◌==◌, List, [], ◌++◌, ◌*◌, length, map, min, Option, Some, None, if◌then◌else◌}
use Rattle.std.specs.List.{slice_get}
use Rattle.std.specs.Option.{option_and_then, option_map_or}
use Rattle.ld_base.specs.declared.linking.Choice.{Choice}
use Rattle.ld_base.specs.declared.linking.Choice.TheVariants.{Def, WeakZero, Missing}
use Rattle.ld_base.specs.declared.linking.Loaded.{Loaded}
use Rattle.ld_base.specs.declared.object.Object.{Object}
use Rattle.ld_base.specs.declared.object.Reloc.{Reloc}
use Rattle.ld_base.specs.declared.object.Symbol.{Symbol}
use Rattle.link_images.specs.ImageReads.Reads.{bytes_within}
use Rattle.history_state.specs.Addresses.{definition_address, linker_function, symbol_at}
use Rattle.history_state.specs.Bound.{binds_now, is_storage, no_binding}
use Rattle.relocator.specs.Bindings.{chosen, is_copy}
use Rattle.relocator.specs.Relocated.{image_byte, image_word}
use Rattle.relocator.specs.declared.binding.Binding.{Binding}
use Rattle.relocator.specs.declared.binding.ModulePlace.{ModulePlace}
use Rattle.scope_rule.specs.Loading.{object_of, with_serial}
use Rattle.scope_rule.specs.Relocation.{choice_at}
use Rattle.scope_rule.specs.Seen.{Seen}
use Rattle.seg_image.specs.Accepted.{Accepted, symbol_size}
use Rattle.seg_image.specs.Images.{IsImage}
use Rattle.seg_image.specs.Pages.{own_address, pages_of}
use Rattle.seg_image.specs.declared.image.Image.{Image}

-- ---- what a choice comes to

abbrev pub address_in : Seen → Choice → ℕ
address_in ns (Def serial index) = if serial == 0 then linker_function index else definition_address (object_of ns serial) index
address_in ns WeakZero = 0
address_in ns Missing = 0

abbrev pub symbol_in : Seen → Choice → Option Symbol
symbol_in ns (Def serial index) = option_and_then (λ o. symbol_at o.object index) (object_of ns serial)
symbol_in ns WeakZero = None
symbol_in ns Missing = None

-- the linker's own functions are in no module's block: of theirs the address is taken
abbrev pub storage_in : Seen → Choice → ℕ
storage_in ns (Def serial index) =
    if serial == 0 then linker_function index else option_map_or (λ symbol. symbol.value) (symbol_in ns (Def serial index)) 0
storage_in ns WeakZero = 0
storage_in ns Missing = 0

abbrev pub value_in : Seen → Reloc → Choice → ℕ
value_in ns r choice = if is_storage r then storage_in ns choice else address_in ns choice

abbrev pub size_in : Seen → Choice → ℕ
size_in ns choice = option_map_or (λ symbol. symbol.size) (symbol_in ns choice) 0

abbrev pub binding_in : Seen → Reloc → Choice → Binding
binding_in ns r choice = record { bound = true; choice = choice; value = value_in ns r choice; size = size_in ns choice; object = chosen choice; copied = [] }

-- ---- the bindings of an object

-- so many bytes of an object's image, from an address on
abbrev pub Copies : Type 0
Copies = Option ℕ → ℕ → ℕ → List ℕ

-- the smaller of the two sizes is copied
abbrev pub copied_by : Copies → Object → Reloc → Binding → Binding
copied_by bytes o r b = if is_copy r then record b { copied = bytes b.object b.value (min (symbol_size o r) b.size) } else b

abbrev pub copied_bytes : Copies → Seen → Object → Reloc → Choice → List ℕ
copied_bytes bytes ns o r choice = if is_copy r then bytes (chosen choice) (value_in ns r choice) (min (symbol_size o r) (size_in ns choice)) else []

abbrev pub rela_binding : Copies → Seen → Loaded → Reloc → Binding
rela_binding bytes ns o r = copied_by bytes o.object r (binding_in ns r (choice_at ns o r))

abbrev pub slot_binding : Seen → Bool → Loaded → Reloc → Binding
slot_binding ns now o r = if binds_now now o.object then binding_in ns r (choice_at ns o r) else no_binding

unfoldable pub bindings_in : Copies → Seen → Bool → Loaded → List Binding
bindings_in bytes ns now o = map (rela_binding bytes ns o) o.object.relocs ++ map (slot_binding ns now o) o.object.plt_relocs

-- ---- copies

-- of objects without copies
abbrev pub none_copied : Copies
none_copied object a count = []

-- the byte of such an object's image, by its own address
abbrev pub plain_byte : Seen → Bool → List ModulePlace → Loaded → ℕ → ℕ
plain_byte ns now places o = image_byte o.object o.base o.serial (bindings_in none_copied ns now o) places

-- bytes of their images
abbrev pub copies_from : Seen → Bool → List ModulePlace → List Loaded → Copies
copies_from ns now places objects None a count = []
copies_from ns now places objects (Some serial) a count =
    option_map_or (λ o. bytes_within o.object (plain_byte ns now places o) (own_address o.base a) count) (with_serial objects serial) []

-- the image is that of an object without copies
pub record IsMade (ns : Seen) (now : Bool) (places : List ModulePlace) (o : Loaded) (image : Image) : Type 0 where
  pub accepted : Accepted o.object
  pub relocated : IsImage o.object o.base (image_word o.object o.base o.serial (bindings_in none_copied ns now o) places) image

-- an image an object
pub record AreMade (ns : Seen) (now : Bool) (places : List ModulePlace) (objects : List Loaded) (images : List Image) : Type 0 where
  pub count : length images ≡ length objects
  pub each : (k : ℕ) (o : Loaded) (image : Image) → slice_get objects k ≡ Some o → slice_get images k ≡ Some image → IsMade ns now places o image

-- bytes of the images can be read
pub record CanRead (objects : List Loaded) (images : List Image) : Type 0 where
  pub count : length images ≡ length objects
  pub accepted : (k : ℕ) (o : Loaded) → slice_get objects k ≡ Some o → Accepted o.object
  pub whole : (k : ℕ) (o : Loaded) (image : Image) → slice_get objects k ≡ Some o → slice_get images k ≡ Some image
      → length image.words ≡ 512 * pages_of o.object
