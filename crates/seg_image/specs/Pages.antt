-- The pages of an object (gABI, "Program Header" and "Program Loading"). Addresses are the object's own, without its base.
use Rattle.std.specs.Prelude.{◌≡◌, ℕ, ◌+◌, ◌-◌, ◌*◌, ◌/◌, ◌%◌, ◌^◌, ◌<◌, ◌≤◌, Bool, ◌&&◌, nat_le, nat_lt, length, max, Option, Some, find}
use Rattle.std.specs.List.{fold, slice_get}
use Rattle.std.specs.Option.{option_map_or}
use Rattle.ld_base.specs.declared.object.Object.{Object}
use Rattle.ld_base.specs.declared.object.Segment.{Segment}

-- the bytes of a page
abbrev pub page_size : ℕ
page_size = 4096

-- where the first page of a segment begins, and where its last page ends
abbrev pub start_of : Segment → ℕ
start_of g = g.vaddr / page_size * page_size

abbrev pub end_of : Segment → ℕ
end_of g = (g.vaddr + g.memsz + (page_size - 1)) / page_size * page_size

-- the address lies in a page of the segment
abbrev pub has_page : ℕ → Segment → Bool
has_page v g = nat_le (start_of g) v && nat_lt v (end_of g)

-- the segment in whose pages an address lies
unfoldable pub segment_at : Object → ℕ → Option Segment
segment_at o v = find (has_page v) o.segments

-- the address lies in the memory of a segment
pub record IsInside (o : Object) (v : ℕ) : Type 0 where
  pub segment : Segment
  pub at : ℕ
  pub is : slice_get o.segments at ≡ Some segment
  pub low : segment.vaddr ≤ v
  pub high : v < segment.vaddr + segment.memsz

-- where the object's first page begins, and where its last one ends: its segments are in ascending order
unfoldable pub low_of : Object → ℕ
low_of o = option_map_or start_of (slice_get o.segments 0) 0

unfoldable pub high_of : Object → ℕ
high_of o = option_map_or end_of (slice_get o.segments (length o.segments - 1)) 0

-- all pages from the first to the last
unfoldable pub pages_of : Object → ℕ
pages_of o = (high_of o - low_of o) / page_size

-- the greatest alignment that a segment asks for, and at least a page
unfoldable pub align_of : Object → ℕ
align_of o = fold (λ align g. max align g.align) page_size o.segments

-- where an address of the object's own lies in guest memory, and back: the base may lie below 0, so sums wrap at 64 bits
unfoldable pub guest_address : ℕ → ℕ → ℕ
guest_address base v = (base + v) % 2 ^ 64

unfoldable pub own_address : ℕ → ℕ → ℕ
own_address base a = (a + (2 ^ 64 - base)) % 2 ^ 64

-- at this base the object's pages are pages of guest memory
pub record IsPlaced (o : Object) (base : ℕ) : Type 0 where
  pub aligned : base % page_size ≡ 0
  pub low : 0x10000 ≤ guest_address base (low_of o)
  pub high : guest_address base (low_of o) + page_size * pages_of o ≤ 0x810000
