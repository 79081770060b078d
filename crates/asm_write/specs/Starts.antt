-- Where the parts of an object start.
use Rattle.std.specs.Prelude.{ℕ, ◌+◌, ◌-◌, ◌*◌, ◌%◌, ◌^◌, ◌==◌, max, if◌then◌else◌, List, [], ◌∷◌, ◌++◌, map, filter, length, slice_index}
use Rattle.ld_base.specs.declared.object.Kind.{Kind}
use Rattle.ld_base.specs.declared.object.Kind.TheVariants.{Exec, Dyn}
use Rattle.asm_write.specs.declared.contents.Contents.{Contents}
use Rattle.asm_write.specs.declared.contents.Extent.{Extent}
use Rattle.asm_write.specs.declared.contents.Fix.{Fix}
use Rattle.asm_write.specs.declared.contents.Sections.{Sections}
use Rattle.asm_write.specs.declared.contents.Spot.{Spot}
use Rattle.asm_write.specs.declared.part.Part.{Part}
use Rattle.asm_write.specs.declared.starts.Starts.{Starts}
use Rattle.asm_write.specs.declared.part.Part.TheVariants as parts
use Rattle.asm_write.specs.Parts.{number_of, relro_parts, written_parts, all_parts}
use Rattle.asm_write.specs.Relr.{relr_words}
use Rattle.asm_write.specs.Sizes.{plain_size, has_packed}

-- how many bytes stand between an address and the next multiple of an alignment; 0 asks for none
abbrev pub padding : ℕ → ℕ → ℕ
padding address alignment = if alignment == 0 then 0 else (alignment - address % alignment) % alignment

-- parts behind an address, each at the first place that its alignment allows
abbrev pub starts_from : ℕ → List Extent → List ℕ
starts_from behind [] = []
starts_from behind (extent ∷ rest) = (behind + padding behind extent.align) ∷ starts_from (behind + padding behind extent.align + extent.size) rest

abbrev pub page : ℕ
page = 4096

-- an empty .tdata stands where .tbss may begin
abbrev pub tls_start_align : Sections → ℕ
tls_start_align sections = if sections.tdata.size == 0 then max sections.tdata.align sections.tbss.align else sections.tdata.align

-- what a part's start is a multiple of; a segment begins on a page
unfoldable pub align_of : Contents → Part → ℕ
align_of contents parts.Plt = page
align_of contents parts.Dynamic = page
align_of contents parts.GotPlt = page
align_of contents parts.Rodata = contents.sections.rodata.align
align_of contents parts.Text = contents.sections.text.align
align_of contents parts.Relro = contents.sections.relro.align
align_of contents parts.Tdata = tls_start_align contents.sections
align_of contents parts.Tbss = contents.sections.tbss.align
align_of contents parts.Data = contents.sections.data.align
align_of contents parts.Bss = contents.sections.bss.align
align_of contents part = 8

-- a number of 64 bits
abbrev pub wrapped : ℕ → ℕ
wrapped number = number % 2 ^ 64

-- where a part starts, how many bytes it has, and the address of a place
abbrev pub start_in : Starts → Part → ℕ
start_in starts part = slice_index starts.addresses (number_of part)

abbrev pub size_in : Starts → Part → ℕ
size_in starts part = slice_index starts.sizes (number_of part)

abbrev pub address_in : Starts → Spot → ℕ
address_in starts spot = wrapped (start_in starts spot.part + spot.offset)

-- the packed table: how many words it has depends on how far its places are apart, so not on where the third segment begins, before which no place stands
abbrev pub third_parts : List Part
third_parts = relro_parts ++ written_parts

abbrev pub plain_extent : Contents → Part → Extent
plain_extent contents part = record { size = plain_size contents part; align = align_of contents part }

unfoldable pub third_starts : Contents → List ℕ
third_starts contents = starts_from 0 (map (plain_extent contents) third_parts)

abbrev pub place_in : List ℕ → Fix → ℕ
place_in starts fix = wrapped (slice_index starts (number_of fix.spot.part - number_of parts.Dynamic) + fix.spot.offset)

abbrev pub packed_from : List ℕ → List Fix → List ℕ
packed_from starts fixes = map (place_in starts) (filter has_packed fixes)

unfoldable pub relr_size : Contents → ℕ
relr_size contents = 8 * length (relr_words (packed_from (third_starts contents) contents.fixes))

-- how many bytes a part has
unfoldable pub size_of : Contents → Part → ℕ
size_of contents parts.Relr = relr_size contents
size_of contents part = plain_size contents part

abbrev pub extent_of : Contents → Part → Extent
extent_of contents part = record { size = size_of contents part; align = align_of contents part }

-- the first address: an executable's, or 0
abbrev pub base_of : Kind → ℕ
base_of Exec = 0x10000
base_of Dyn = 0

-- where the parts start and how many bytes they have, in their order
unfoldable pub starts_of : Contents → Starts
starts_of contents = record {
  addresses = starts_from (base_of contents.kind) (map (extent_of contents) all_parts);
  sizes = map (size_of contents) all_parts;
}
