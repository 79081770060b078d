-- What each doubleword of an object's pages may be used for (gABI, p_flags; GNU_RELRO). Addresses are the object's own.
use Rattle.std.specs.Prelude.{ℕ, ◌+◌, ◌/◌, ◌%◌, Bool, not, ◌&&◌, ◌||◌, ◌==◌, nat_le, if◌then◌else◌, false, length}
use Rattle.std.specs.List.{list_any}
use Rattle.std.specs.Option.{option_map_or}
use Rattle.ld_base.specs.declared.linking.Role.{Role}
use Rattle.ld_base.specs.declared.linking.Role.TheVariants.{None as NoRole, Ro, Rx, Rw, Slot}
use Rattle.ld_base.specs.declared.object.Object.{Object}
use Rattle.ld_base.specs.declared.object.Segment.{Segment}
use Rattle.seg_image.specs.Pages.{segment_at}

-- PF_X is 1, PF_W is 2
abbrev pub is_executable : Segment → Bool
is_executable g = g.flags % 2 == 1

abbrev pub is_writable : Segment → Bool
is_writable g = g.flags / 2 % 2 == 1

-- the doubleword of a slot
abbrev pub is_slot : Object → ℕ → Bool
is_slot o v = list_any (λ r. r.place == v) o.plt_relocs

-- one of the first two words of .got.plt, which are the linker's in an object with slots
abbrev pub is_linkers : Object → ℕ → Bool
is_linkers o v = not (length o.plt_relocs == 0) && option_map_or (λ p. v == p || v == p + 8) o.pltgot false

-- the doubleword lies wholly inside GNU_RELRO
abbrev pub is_relro : Object → ℕ → Bool
is_relro o v = option_map_or (λ s. nat_le s.start v && nat_le (v + 8) (s.start + s.size)) o.relro false

-- the role of a doubleword of a segment's pages
abbrev pub role_in : Object → ℕ → Segment → Role
role_in o v g =
    if is_executable g then Rx
    else if not (is_writable g) then Ro
    else if is_slot o v then Slot
    else if is_linkers o v || is_relro o v then Ro
    else Rw

-- the role of the doubleword at an address: none outside the segments' pages
unfoldable pub role_of : Object → ℕ → Role
role_of o v = option_map_or (role_in o v) (segment_at o v) NoRole
