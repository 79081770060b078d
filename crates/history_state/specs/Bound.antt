-- What the relocations of a new object are bound to (psABI, "Relocations"), in the state with the new objects in it.
use Rattle.std.specs.Prelude.{ℕ, ◌+◌, ◌*◌, ◌/◌, Bool, true, false, ◌||◌, ◌==◌, List, [], ◌∷◌, ◌++◌, map, min, Option, Some, None, find, if◌then◌else◌}
use Rattle.std.specs.List.{range_with_len}
use Rattle.std.specs.Option.{option_map, option_map_or}
use Rattle.ld_base.specs.declared.linking.Choice.{Choice}
use Rattle.ld_base.specs.declared.linking.Choice.TheVariants.{Def, WeakZero, Missing}
use Rattle.ld_base.specs.declared.linking.Loaded.{Loaded}
use Rattle.ld_base.specs.declared.object.Object.{Object}
use Rattle.ld_base.specs.declared.object.Reloc.{Reloc}
use Rattle.history_event.specs.declared.state.Chosen.{Chosen}
use Rattle.history_event.specs.declared.state.Module.{Module}
use Rattle.scope_rule.specs.Relocation.{choice_at}
use Rattle.scope_rule.specs.Seen.{Seen}
use Rattle.seg_image.specs.Accepted.{symbol_size}
use Rattle.seg_image.specs.Pages.{own_address}
use Rattle.seg_image.specs.Words.{byte_of}
use Rattle.relocator.specs.declared.binding.Binding.{Binding}
use Rattle.relocator.specs.declared.binding.ModulePlace.{ModulePlace}
use Rattle.relocator.specs.Bindings.{chosen, is_copy}
use Rattle.relocator.specs.Relocated.{moved_word, settled_word}
use Rattle.history_state.specs.State.{State, Linked}
use Rattle.history_state.specs.Addresses.{address, chosen_symbol, linker_function}

-- the slots of an object are bound when it is loaded: the opening or the object asks for it (RTLD_NOW, DT_BIND_NOW)
abbrev pub binds_now : Bool → Object → Bool
binds_now now o = now || o.flags.bind_now

-- ---- what is chosen

-- what a slot chooses at load: nothing where it stays lazy
abbrev pub slot_choice : Seen → Bool → Loaded → Reloc → Option Choice
slot_choice ns now o r = if binds_now now o.object then Some (choice_at ns o r) else None

abbrev pub slot_choices : Seen → Bool → Loaded → List (Option Choice)
slot_choices ns now o = map (slot_choice ns now o) o.object.plt_relocs

abbrev pub reloc_choices : Seen → Loaded → List (Option Choice)
reloc_choices ns o = map (λ r. Some (choice_at ns o r)) o.object.relocs

-- the choices of an object, and the values of its slots
abbrev pub chosen_of : State → Seen → Bool → Loaded → Chosen
chosen_of s ns now o = record {
  owner = o.serial;
  choices = reloc_choices ns o ++ slot_choices ns now o;
  values = map (option_map (address s)) (slot_choices ns now o);
}

-- what a slot holds until it is bound: the file's word, moved with the object
abbrev pub lazy_word : Loaded → Reloc → ℕ
lazy_word o r = moved_word o.object o.base r.place

-- ---- what images are made of

-- TLS_DTPMOD64 is 7, TLS_DTPREL64 9, TLS_TPREL64 11: they take the symbol's place in its module's block
abbrev pub is_storage : Reloc → Bool
is_storage r = r.kind == 7 || r.kind == 9 || r.kind == 11

-- the linker's own functions are in no module's block: of theirs the address is taken
abbrev pub place_in_block : State → Choice → ℕ
place_in_block s (Def serial index) =
    if serial == 0 then linker_function index else option_map_or (λ symbol. symbol.value) (chosen_symbol s (Def serial index)) 0
place_in_block s WeakZero = 0
place_in_block s Missing = 0

abbrev pub bound_value : State → Reloc → Choice → ℕ
bound_value s r choice = if is_storage r then place_in_block s choice else address s choice

abbrev pub binding_of : State → Reloc → Choice → Binding
binding_of s r choice = record {
  bound = true;
  choice = choice;
  value = bound_value s r choice;
  size = option_map_or (λ symbol. symbol.size) (chosen_symbol s choice) 0;
  object = chosen choice;
  copied = [];
}

-- of a slot that stays lazy nothing is bound
abbrev pub no_binding : Binding
no_binding = record { bound = false; choice = Missing; value = 0; size = 0; object = None; copied = [] }

abbrev pub slot_binding : State → Reloc × Option Choice → Binding
slot_binding s (r, Some choice) = binding_of s r choice
slot_binding s (r, None) = no_binding

abbrev pub reloc_bindings : State → Seen → Loaded → List Binding
reloc_bindings s ns o = map (λ r. binding_of s r (choice_at ns o r)) o.object.relocs

abbrev pub slot_bindings : State → Seen → Bool → Loaded → List Binding
slot_bindings s ns now o = map (λ r. slot_binding s (r, slot_choice ns now o r)) o.object.plt_relocs

-- where the modules of a state are
abbrev pub place_of : Module → ModulePlace
place_of m = record { serial = m.serial; number = m.number; offset = m.offset }

-- an object before its copies are made
abbrev pub uncopied : State → Seen → Bool → Loaded → Linked
uncopied s ns now o = record {
  serial = o.serial;
  object = o.object;
  base = o.base;
  bindings = reloc_bindings s ns o ++ slot_bindings s ns now o;
  places = map place_of s.modules;
}

-- ---- copies

-- the byte of an image at a guest address, once all but copies are done
abbrev pub settled_byte : Linked → ℕ → ℕ
settled_byte m a =
    let v = own_address m.base a in
    byte_of (settled_word m.object m.base m.serial m.bindings m.places ((v / 8) * 8)) v

-- so many bytes of an object's image from an address on
abbrev pub bytes_from : List Linked → Option ℕ → ℕ → ℕ → List ℕ
bytes_from images None a count = []
bytes_from images (Some serial) a count =
    option_map_or (λ m. map (λ i. settled_byte m (a + i)) (range_with_len 0 count)) (find (λ m. m.serial == serial) images) []

-- the smaller of the two sizes is copied
abbrev pub copied_of : List Linked → Object → Reloc → Binding → Binding
copied_of images o r b =
    if is_copy r then record b { copied = bytes_from images b.object b.value (min (symbol_size o r) b.size) } else b

abbrev pub copies_made : List Linked → Object → List Reloc → List Binding → List Binding
copies_made images o [] bindings = bindings
copies_made images o (r ∷ relocs) [] = []
copies_made images o (r ∷ relocs) (b ∷ bindings) = copied_of images o r b ∷ copies_made images o relocs bindings

abbrev pub with_copies : List Linked → Linked → Linked
with_copies images m = record m { bindings = copies_made images m.object m.object.relocs m.bindings }

-- the images of new objects, beside those that were there: copies are taken from the definition's object before its own
unfoldable pub linked_with : List Linked → List Linked → List Linked
linked_with old new = map (with_copies (old ++ new)) new
