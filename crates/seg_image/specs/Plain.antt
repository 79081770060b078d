-- The words of an object's pages before the slots and the linker's words are marked.
use Rattle.std.specs.Prelude.{◌≡◌, ℕ, ◌+◌, ◌*◌, ◌<◌, ◌≤◌, nat_le, not, ◌&&◌, Some, None, if◌then◌else◌}
use Rattle.std.specs.Option.{option_map_or}
use Rattle.ld_base.specs.declared.linking.Role.{Role}
use Rattle.ld_base.specs.declared.linking.Role.TheVariants.{None as NoRole, Ro, Rx, Rw, Slot}
use Rattle.ld_base.specs.declared.object.Object.{Object}
use Rattle.ld_base.specs.declared.object.Segment.{Segment}
use Rattle.seg_image.specs.declared.image.Word.{Word}
use Rattle.seg_image.specs.Pages.{end_of, low_of, segment_at, start_of}
use Rattle.seg_image.specs.Roles.{is_executable, is_linkers, is_relro, is_slot, is_writable}
use Rattle.seg_image.specs.Words.{file_word}

-- the role of a doubleword of a segment's pages that is neither a slot's nor the linker's
abbrev pub plain_in : Object → ℕ → Segment → Role
plain_in o v g = if is_executable g then Rx else if is_writable g && not (is_relro o v) then Rw else Ro

abbrev pub plain_role : Object → ℕ → Role
plain_role o v = option_map_or (plain_in o v) (segment_at o v) NoRole

-- the word at an address, with that role
unfoldable pub plain_word : Object → ℕ → Word
plain_word o v = record { value = file_word o v; role = plain_role o v }

-- words with the linker's marked, and with the slots' marked
abbrev pub linkers_marked : Object → (ℕ → Word) → ℕ → Word
linkers_marked o word v = if is_linkers o v then record { value = (word v).value; role = Ro } else word v

abbrev pub slots_marked : Object → (ℕ → Word) → ℕ → Word
slots_marked o word v = if is_slot o v then record { value = (word v).value; role = Slot } else word v

-- the next segment behind so many words: up to its end no address is another's
pub record IsNext (o : Object) (g : Segment) (count : ℕ) : Type 0 where
  pub before : low_of o + 8 * count ≤ end_of g
  pub gap : (v : ℕ) → low_of o + 8 * count ≤ v → v < end_of g → segment_at o v ≡ (if nat_le (start_of g) v then Some g else None)
