-- The head that a reader finds.
use Rattle.std.proofs.Common.{◌≡◌, ◌∙◌, ap, sym, subst, refl, ℕ, zero, suc, ◌+◌, ◌-◌, ◌*◌, ◌%◌, ◌^◌, ◌<◌, ◌≤◌, ◌==◌, ◌⊎◌, inl, inr, max, Bool, true, false, if◌then◌else◌, List, [], ◌∷◌, ◌++◌, length, flat_map, fold, map, arith}
use Rattle.std.specs.Prelude.{Some, None, Option}
use Rattle.std.specs.List.{slice_get}
use Rattle.std.proofs.lemmas.Option.{slice_get_within}
use Rattle.ld_base.specs.Field.{field}
use Rattle.ld_base.specs.declared.object.Kind.{Kind}
use Rattle.ld_base.specs.declared.object.Kind.TheVariants.{Exec, Dyn}
use Rattle.ld_base.specs.declared.parts.Head.{Head}
use Rattle.ld_base.specs.declared.parts.Header.{Header}
use Rattle.elf_head.specs.Header.{header_at, header_count}
use Rattle.elf_head.specs.Rules.{kind_of}
use Rattle.elf_head.specs.Verdict.{SpellsHead}
use Rattle.asm_write.specs.declared.contents.Contents.{Contents}
use Rattle.asm_write.specs.declared.contents.Sections.{Sections}
use Rattle.asm_write.specs.declared.contents.SectionBytes.{SectionBytes}
use Rattle.asm_write.specs.declared.contents.Spot.{Spot}
use Rattle.asm_write.specs.declared.entries.SegmentKind.{SegmentKind}
use Rattle.asm_write.specs.declared.entries.SegmentKind.TheVariants as segments
use Rattle.asm_write.specs.declared.part.Part.{Part}
use Rattle.asm_write.specs.declared.part.Part.TheVariants as parts
use Rattle.asm_write.specs.declared.starts.Starts.{Starts}
use Rattle.asm_write.specs.Fields.{record_bytes}
use Rattle.asm_write.specs.Records.{head_fields, header_fields, header_of, header_type, header_flags, header_align, first_part, end_behind, file_end, memory_end, parts_with_bytes}
use Rattle.asm_write.specs.Sizes.{segments_of, segment_if, has_run, has_written, has_tls}
use Rattle.asm_write.specs.Starts.{starts_of, start_in, size_in, wrapped, align_of}
use Rattle.asm_write.specs.Values.{entry_of, head_bytes}
use Rattle.asm_laws.specs.ElfWritten.Standing.{AlignsInPages, EndsInside}
use Rattle.asm_laws.specs.ElfRecords.Numbers.{AllFit}
use Rattle.asm_laws.specs.ElfRecords.Standing.{StandAt}
use Rattle.asm_laws.specs.ElfRecords.Lemmas.Head.{head}
use Rattle.asm_laws.specs.ElfRecords.Lemmas.Records.{header}
use Rattle.asm_laws.specs.ElfRecords.Lemmas.Standing.{front, behind, within}
use Rattle.asm_laws.specs.ElfSpelled.Said.{said_head}
use Rattle.asm_laws.specs.ElfSpelled.Whole.{IsWhole}
use Rattle.asm_laws.specs.ElfSpelled.Lemmas.Rows.{rows, same_rows}

-- Values that 64 bits hold

low : (number : ℕ) → wrapped number < 2 ^ 64
low number = omega arith

end_fits : (starts : Starts) (parts : List Part) (end : ℕ) → end < 2 ^ 64 → fold (end_behind starts) end parts < 2 ^ 64
end_fits starts [] end fits = fits
end_fits starts (part ∷ parts) end fits =
    let P : Bool → Type 0 = λ empty. (if empty then end else wrapped (start_in starts part + size_in starts part)) < 2 ^ 64 in
    let cases : (empty : Bool) → P empty = λ empty. elim empty as P [ true ↦ fits | false ↦ low (start_in starts part + size_in starts part) ] in
    end_fits starts parts (end_behind starts end part) (cases (size_in starts part == 0))

start_fits : (starts : Starts) → EndsInside starts → (part : Part) → start_in starts part < 2 ^ 64
start_fits starts ends part = let end = ends part in omega (arith, end)

file_fits : (starts : Starts) → EndsInside starts → (segment : SegmentKind) → file_end starts segment < 2 ^ 64
file_fits starts ends segment = end_fits starts (parts_with_bytes segment) (start_in starts (first_part segment)) (start_fits starts ends (first_part segment))

memory_fits : (starts : Starts) (sections : Sections) → EndsInside starts → (segment : SegmentKind) → memory_end starts sections segment < 2 ^ 64
memory_fits starts sections ends segments.Read = file_fits starts ends segments.Read
memory_fits starts sections ends segments.Run = file_fits starts ends segments.Run
memory_fits starts sections ends segments.Relocated = file_fits starts ends segments.Relocated
memory_fits starts sections ends segments.Written = end_fits starts (parts.Bss ∷ []) (file_end starts segments.Written) (file_fits starts ends segments.Written)
memory_fits starts sections ends segments.Dynamic = file_fits starts ends segments.Dynamic
memory_fits starts sections ends segments.Tls =
    low (if sections.tbss.size == 0 then start_in starts parts.Tdata + sections.tdata.size else start_in starts parts.Tbss + sections.tbss.size)
memory_fits starts sections ends segments.Relro = low _

divides : (times align : ℕ) → 4096 ≡ times * align → align ≤ 4096
divides zero align is = absurd (omega (arith, is))
divides (suc times) align is = let more : suc times * align ≡ times * align + align = omega arith in omega (arith, is, more)

in_page : (contents : Contents) → AlignsInPages contents → (part : Part) → align_of contents part ≤ 4096
in_page contents aligns part = let (times, is) = aligns part in divides times (align_of contents part) is

both_small : (tdata tbss : ℕ) (empty : Bool) → (if empty then max tdata tbss else tdata) ≤ 4096 → tbss ≤ 4096 → max tdata tbss < 2 ^ 64
both_small tdata tbss true both one = omega (arith, both)
both_small tdata tbss false other one = omega (arith, other, one)

tls_fits : (contents : Contents) → AlignsInPages contents → max contents.sections.tdata.align contents.sections.tbss.align < 2 ^ 64
unfolding align_of
tls_fits contents aligns =
    both_small contents.sections.tdata.align contents.sections.tbss.align (contents.sections.tdata.size == 0) (in_page contents aligns parts.Tdata) (in_page contents aligns parts.Tbss)

align_fits : (contents : Contents) → AlignsInPages contents → (segment : SegmentKind) → header_align contents.sections segment < 2 ^ 64
align_fits contents aligns segments.Read = omega arith
align_fits contents aligns segments.Run = omega arith
align_fits contents aligns segments.Relocated = omega arith
align_fits contents aligns segments.Written = omega arith
align_fits contents aligns segments.Dynamic = omega arith
align_fits contents aligns segments.Tls = tls_fits contents aligns
align_fits contents aligns segments.Relro = omega arith

type_fits : (segment : SegmentKind) → header_type segment < 2 ^ 32
type_fits segments.Read = omega arith
type_fits segments.Run = omega arith
type_fits segments.Relocated = omega arith
type_fits segments.Written = omega arith
type_fits segments.Dynamic = omega arith
type_fits segments.Tls = omega arith
type_fits segments.Relro = omega arith

flags_fit : (segment : SegmentKind) → header_flags segment < 2 ^ 32
flags_fit segments.Read = omega arith
flags_fit segments.Run = omega arith
flags_fit segments.Relocated = omega arith
flags_fit segments.Written = omega arith
flags_fit segments.Dynamic = omega arith
flags_fit segments.Tls = omega arith
flags_fit segments.Relro = omega arith

less : (a b : ℕ) → a < 2 ^ 64 → a - b < 2 ^ 64
less a b fits = omega (arith, fits)

all_fit : (contents : Contents) → AlignsInPages contents → EndsInside (starts_of contents) → (segment : SegmentKind)
    → AllFit (header_fields (header_of (starts_of contents) contents.sections segment))
unfolding header_fields header_of
all_fit contents aligns ends segment =
    let starts = starts_of contents in
    let start = start_in starts (first_part segment) in
    let fits = start_fits starts ends (first_part segment) in (
      type_fits segment,
      (
        flags_fit segment,
        (
          less start (start_in starts parts.Head) fits,
          (
            fits,
            (
              fits,
              (
                less (file_end starts segment) start (file_fits starts ends segment),
                (less (memory_end starts contents.sections segment) start (memory_fits starts contents.sections ends segment), (align_fits contents aligns segment, tt)),
              ),
            ),
          ),
        ),
      ),
    )

entry_fits : (starts : Starts) (entry : Option Spot) → entry_of starts entry < 2 ^ 64
entry_fits starts None = omega arith
entry_fits starts (Some spot) = low (start_in starts spot.part + spot.offset)

few_segments : (contents : Contents) → length (segments_of contents) < 2 ^ 16
unfolding segments_of
few_segments contents = few (has_run contents) (has_written contents) (has_tls contents)
  where
    few : (run written tls : Bool) → length ((segments.Read ∷ []) ++ segment_if run segments.Run ++ (segments.Relocated ∷ []) ++ segment_if written segments.Written
        ++ (segments.Dynamic ∷ []) ++ segment_if tls segments.Tls ++ (segments.Relro ∷ [])) < 2 ^ 16
    few true true true = omega arith
    few true true false = omega arith
    few true false true = omega arith
    few true false false = omega arith
    few false true true = omega arith
    few false true false = omega arith
    few false false true = omega arith
    few false false false = omega arith

-- What stands at the begin

module _ (starts : Starts) (contents : Contents) (bytes : List ℕ) (stand : StandAt bytes 0 (head_bytes starts contents)) where
  abbrev first : List ℕ
  first = record_bytes (head_fields contents.kind (entry_of starts contents.entry) (length (segments_of contents) % 2 ^ 16))

  abbrev row : SegmentKind → List ℕ
  row segment = record_bytes (header_fields (header_of starts contents.sections segment))

  begins : StandAt bytes 0 first
  unfolding head_bytes
  begins = within bytes (head_bytes starts contents) first 0 0 stand (front first (flat_map row (segments_of contents)))

  long_row : (segment : SegmentKind) → length (row segment) ≡ 56
  unfolding record_bytes header_fields
  long_row segment = refl

  long_first : length first ≡ 64
  unfolding record_bytes head_fields
  long_first = refl

  header_stands : (i : ℕ) (segment : SegmentKind) → slice_get (segments_of contents) i ≡ Some segment → StandAt bytes (64 + 56 * i) (row segment)
  unfolding head_bytes
  header_stands i segment is =
      let rest = within (head_bytes starts contents) (flat_map row (segments_of contents)) (row segment) 64 (56 * i)
      (subst (λ n. StandAt (head_bytes starts contents) n (flat_map row (segments_of contents))) long_first (behind first (flat_map row (segments_of contents))))
      (rows row 56 long_row (segments_of contents) i segment is) in
      let place : 0 + (64 + 56 * i) ≡ 64 + 56 * i = omega arith in
      subst (λ n. StandAt bytes n (row segment)) place (within bytes (head_bytes starts contents) (row segment) 0 (64 + 56 * i) stand rest)

kind_told : (bytes : List ℕ) (kind told : Kind) → kind_of bytes ≡ kind → ((field 2 bytes 16 ≡ 2) × (told ≡ Exec)) ⊎ ((field 2 bytes 16 ≡ 3) × (told ≡ Dyn)) → told ≡ kind
kind_told bytes kind told is (inl (two, exec)) = exec ∙ sym (ap (λ n. if n == 2 then Exec else Dyn) two) ∙ is
kind_told bytes kind told is (inr (three, dyn)) = dyn ∙ sym (ap (λ n. if n == 2 then Exec else Dyn) three) ∙ is

pub head_said : (contents : Contents) (code : SectionBytes) → IsWhole contents code → (bytes : List ℕ)
    → StandAt bytes 0 (head_bytes (starts_of contents) contents) → (told : Head) → SpellsHead bytes told → told ≡ said_head contents
head_said contents code whole bytes stand told spells =
    let starts = starts_of contents in
    let count = length (segments_of contents) in
    let few : count % 2 ^ 16 ≡ count = let small = few_segments contents in omega (arith, small) in
    let reads = head bytes contents.kind (entry_of starts contents.entry) (count % 2 ^ 16) (entry_fits starts contents.entry) (omega arith) (begins starts contents bytes stand) in
    let counted : header_count bytes ≡ count = reads.count ∙ few in
    let headers : told.headers ≡ map (header_of starts contents.sections) (segments_of contents) =
    same_rows (header_of starts contents.sections) (segments_of contents) told.headers (spells.count ∙ counted) (λ i segment is.
    let inside : i < header_count bytes = let below = slice_get_within (segments_of contents) i segment is in omega (arith, below, counted) in
    spells.headers i inside ∙ ap (λ n. Some (header_at bytes (n + 56 * i))) reads.start
    ∙ ap Some (header bytes (64 + 56 * i) (header_of starts contents.sections segment) (all_fit contents whole.aligns whole.ends segment) (header_stands starts contents bytes stand i segment is))) in
    let kind = kind_told bytes contents.kind told.kind reads.kind_is spells.kind in
    let entry : told.entry ≡ entry_of starts contents.entry = spells.entry ∙ reads.entry_is in
    alike told (said_head contents) kind entry headers
  where
    alike : (one other : Head) → one.kind ≡ other.kind → one.entry ≡ other.entry → one.headers ≡ other.headers → one ≡ other
    alike one other kind entry headers =
        let make : Kind → ℕ → List Header → Head = λ k e hs. record { kind = k; entry = e; headers = hs } in
        ap (λ k. make k one.entry one.headers) kind ∙ ap (λ e. make other.kind e one.headers) entry ∙ ap (make other.kind other.entry) headers
