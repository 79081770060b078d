-- Guest memory as a state has it: the role of each address, and the word that was put there first.
use Rattle.std.specs.Prelude.{ℕ, ◌+◌, ◌-◌, ◌*◌, Bool, true, false, ◌&&◌, ◌==◌, nat_le, nat_lt, if◌then◌else◌, find, Option, Some, None}
use Rattle.std.specs.Option.{option_map_or, option_and_then}
use Rattle.ld_base.specs.declared.linking.Loaded.{Loaded}
use Rattle.ld_base.specs.declared.linking.Role.{Role}
use Rattle.ld_base.specs.declared.linking.Role.TheVariants.{None as NoRole, Rx, Rw}
use Rattle.ld_base.specs.declared.object.TlsSeg.{TlsSeg}
use Rattle.history_event.specs.declared.event.Purpose.{Purpose}
use Rattle.history_event.specs.declared.event.Purpose.TheVariants as purposes
use Rattle.history_event.specs.declared.event.Range.{Range}
use Rattle.history_event.specs.declared.state.Module.{Module}
use Rattle.seg_image.specs.Pages.{low_of, own_address, pages_of}
use Rattle.seg_image.specs.Roles.{role_of}
use Rattle.seg_image.specs.Words.{word_of}
use Rattle.relocator.specs.Relocated.{image_byte, image_word}
use Rattle.history_state.specs.State.{State, Linked}
use Rattle.history_state.specs.Addresses.{is_linkers_page}
use Rattle.history_state.specs.Storage.{tls_block}

-- the address lies in the pages of the object
abbrev pub is_in : Linked → ℕ → Bool
is_in m a = let v = own_address m.base a in nat_le (low_of m.object) v && nat_lt v (low_of m.object + 4096 * pages_of m.object)

-- the address lies in the pages of a mapped object
abbrev pub holds : Loaded → ℕ → Bool
holds o a = let v = own_address o.base a in nat_le (low_of o.object) v && nat_lt v (low_of o.object + 4096 * pages_of o.object)

abbrev pub image_at : State → ℕ → Option Linked
image_at s a = find (λ m. is_in m a) s.images

abbrev pub image_of : State → ℕ → Option Linked
image_of s serial = find (λ m. m.serial == serial) s.images

-- the address lies in the range
abbrev pub covers : ℕ → Range → Bool
covers a r = nat_le r.address a && nat_lt a (r.address + 4096 * r.pages)

-- pages of a stack, a static area or a block
abbrev pub is_data_purpose : Purpose → Bool
is_data_purpose (purposes.Object serial) = false
is_data_purpose (purposes.Stack hart) = true
is_data_purpose (purposes.StaticTls hart) = true
is_data_purpose (purposes.Block hart serial) = true

abbrev pub data_at : State → ℕ → Option Range
data_at s a = find (λ r. is_data_purpose r.purpose && covers a r) s.ranges

-- RoleAt: the role of the doubleword at an address that is a multiple of 8. At any other address Rx says that its doubleword is RX
-- (history_memory's code_is_whole); of a byte inside a slot it doesn't say the role
unfoldable pub role_at : State → ℕ → Role
role_at s a =
    if is_linkers_page a then Rx
    else elim (image_at s a) [
      | Some m ↦ role_of m.object (own_address m.base a)
      | None ↦ elim (data_at s a) [ Some r ↦ Rw | None ↦ NoRole ]
    ]

-- ---- the words of images

-- ImageWord: the word of an object's image at a guest address
unfoldable pub word_in : Linked → ℕ → ℕ
word_in m a = image_word m.object m.base m.serial m.bindings m.places (own_address m.base a)

-- ---- the first words of stacks and blocks

-- the byte of a block with an image: its segment's bytes, as relocated at load
abbrev pub segment_byte : Linked → TlsSeg → ℕ → ℕ → ℕ
segment_byte m seg block a =
    if nat_le block a && nat_lt a (block + seg.filesz) then image_byte m.object m.base m.serial m.bindings m.places (seg.vaddr + (a - block)) else 0

-- the hart's block of the module holds the address
abbrev pub is_in_block : State → ℕ → ℕ → Module → Bool
is_in_block s hart a m =
    option_map_or (λ block. option_map_or (λ seg. nat_le block a
    && nat_lt a (block + seg.memsz)) (option_and_then (λ i. i.object.tls) (image_of s m.serial)) false)
    (tls_block s hart m.serial) false

abbrev pub block_byte : State → ℕ → ℕ → Module → ℕ
block_byte s hart a m =
    option_map_or (λ block. option_map_or (λ i. option_map_or (λ seg. segment_byte i seg block a) i.object.tls 0) (image_of s m.serial) 0)
    (tls_block s hart m.serial) 0

-- the byte that was put first into the pages of a hart's blocks: that of the block that holds it, and 0 beside blocks
abbrev pub storage_byte : State → ℕ → ℕ → ℕ
storage_byte s hart a = option_map_or (block_byte s hart a) (find (is_in_block s hart a) s.modules) 0

-- into pages for a purpose: a stack's are 0
abbrev pub first_byte : State → Purpose → ℕ → ℕ
first_byte s (purposes.Object serial) a = 0
first_byte s (purposes.Stack hart) a = 0
first_byte s (purposes.StaticTls hart) a = storage_byte s hart a
first_byte s (purposes.Block hart serial) a = storage_byte s hart a

-- two ebreaks: the words of the linker's own page
abbrev pub ebreaks : ℕ
ebreaks = 0x0010007300100073

-- the word at a multiple of 8 when its pages were reserved
unfoldable pub first_word_at : State → ℕ → ℕ
first_word_at s a =
    if is_linkers_page a then ebreaks
    else elim (image_at s a) [
      | Some m ↦ word_in m a
      | None ↦ option_map_or (λ r. word_of (first_byte s r.purpose) a) (data_at s a) 0
    ]
