-- The bytes of an object once it is relocated (psABI, "Relocations"; gABI, "Relative Relocation Table" and "Procedure Linkage Table").
-- Addresses are the object's own. Sums wrap at 64 bits.
use Rattle.std.specs.Prelude.{ℕ, ◌+◌, ◌-◌, ◌*◌, ◌/◌, ◌%◌, ◌^◌, Bool, ◌&&◌, ◌||◌, ◌==◌, false, nat_le, nat_lt, List, length, slice_index, Option, Some, None}
use Rattle.std.specs.Prelude.{find, unwrap_or, if◌then◌else◌}
use Rattle.std.specs.Int.{w64, cast_unsigned}
use Rattle.std.specs.List.{list_any}
use Rattle.std.specs.Option.{option_map, option_map_or}
use Rattle.ld_base.specs.declared.object.Object.{Object}
use Rattle.ld_base.specs.declared.object.Reloc.{Reloc}
use Rattle.seg_image.specs.Roles.{is_linkers}
use Rattle.seg_image.specs.Words.{byte_of, file_word, word_of}
use Rattle.relocator.specs.declared.binding.Binding.{Binding}
use Rattle.relocator.specs.declared.binding.ModulePlace.{ModulePlace}
use Rattle.relocator.specs.Bindings.{is_copy, relas_of, slots_of}
use Rattle.relocator.specs.Storage.{module_of, offset_of, storage_object, storage_value}

-- a sum of 64 bits
abbrev pub wrapped : ℕ → ℕ
wrapped sum = sum % 2 ^ 64

-- the addend as a number of 64 bits
abbrev pub addend_of : Reloc → ℕ
addend_of r = cast_unsigned w64 r.addend

-- the file's word, moved with the object
unfoldable pub moved_word : Object → ℕ → ℕ → ℕ
moved_word o base v = wrapped (file_word o v + base)

-- the types that fill a word: 64 (2), RELATIVE (3), TLS_DTPMOD64 (7), TLS_DTPREL64 (9), TLS_TPREL64 (11)
abbrev pub fills_word : Reloc → Bool
fills_word r = r.kind == 2 || r.kind == 3 || r.kind == 7 || r.kind == 9 || r.kind == 11

-- the word that a relocation of one of these types gives
unfoldable pub value_of : ℕ → ℕ → List ModulePlace → Reloc × Binding → ℕ
value_of base serial places (r, b) =
    if r.kind == 2 then wrapped (b.value + addend_of r)
    else if r.kind == 3 then wrapped (base + addend_of r)
    else if r.kind == 7 then module_of places (storage_object serial r b)
    else if r.kind == 9 then wrapped (storage_value r b + addend_of r + (2 ^ 64 - 0x800))
    else wrapped (storage_value r b + addend_of r + unwrap_or (offset_of places (storage_object serial r b)) 0)

-- the word at an address, where a relocation of DT_RELA fills it
unfoldable pub rela_at : ℕ → ℕ → List ModulePlace → List (Reloc × Binding) → ℕ → Option ℕ
rela_at base serial places relas v = option_map (value_of base serial places) (find (λ x. x.0.place == v && fills_word x.0) relas)

-- where it is a slot's: the chosen address of a slot that is bound, and else the file's word, moved
unfoldable pub slot_at : Object → ℕ → List (Reloc × Binding) → ℕ → Option ℕ
slot_at o base slots v = option_map (λ x. if x.1.bound then x.1.value else moved_word o base v) (find (λ x. x.0.place == v) slots)

-- the word of a slot: the chosen address where it is bound, and else the file's word, moved
unfoldable pub slot_word : Object → ℕ → Reloc → Binding → ℕ
slot_word o base r b = if b.bound then b.value else moved_word o base r.place

-- where it is one of the first two of .got.plt: the linker's entry for slots, and the object's serial
unfoldable pub linkers_at : Object → ℕ → ℕ → Option ℕ
linkers_at o serial v = if is_linkers o v then Some (if option_map_or (λ table. v == table) o.pltgot false then 0x80f000 else serial) else None

-- where a packed relocation (RELR) names it: the file's word, moved
unfoldable pub packed_at : Object → ℕ → List ℕ → ℕ → Option ℕ
packed_at o base packed v = if list_any (λ place. place == v) packed then Some (moved_word o base v) else None

-- the first of two where it gives a word, and else the second
abbrev pub over : (ℕ → Option ℕ) → (ℕ → ℕ) → ℕ → ℕ
over first second v = unwrap_or (first v) (second v)

-- the word at an address once all but copies are done; no place of an accepted object has two of these, and any other word is the file's
unfoldable pub settled_word : Object → ℕ → ℕ → List Binding → List ModulePlace → ℕ → ℕ
settled_word o base serial bindings places =
    over (linkers_at o serial)
    (over (rela_at base serial places (relas_of o bindings))
    (over (slot_at o base (slots_of o bindings))
    (over (packed_at o base o.relr)
    (file_word o))))

-- the byte at an address that a copy gives
unfoldable pub copied_at : List (Reloc × Binding) → ℕ → Option ℕ
copied_at relas v =
    option_map (λ x. slice_index x.1.copied (v - x.0.place))
    (find (λ x. is_copy x.0 && (nat_le x.0.place v && nat_lt v (x.0.place + length x.1.copied))) relas)

-- the bytes of words, with copies on top
unfoldable pub with_copies : List (Reloc × Binding) → (ℕ → ℕ) → ℕ → ℕ
with_copies relas word v = unwrap_or (copied_at relas v) (byte_of (word (v / 8 * 8)) v)

-- ImageByte: the byte at an address, copies on top of all else
unfoldable pub image_byte : Object → ℕ → ℕ → List Binding → List ModulePlace → ℕ → ℕ
image_byte o base serial bindings places = with_copies (relas_of o bindings) (settled_word o base serial bindings places)

-- ImageWord: eight such bytes
unfoldable pub image_word : Object → ℕ → ℕ → List Binding → List ModulePlace → ℕ → ℕ
image_word o base serial bindings places = word_of (image_byte o base serial bindings places)
