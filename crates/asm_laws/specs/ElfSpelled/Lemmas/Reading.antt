-- The bytes of a part, where the reader finds them by the program headers.
use Rattle.std.proofs.Common.{◌≡◌, ◌∙◌, ap, sym, refl, ℕ, zero, suc, ◌+◌, ◌-◌, ◌*◌, ◌<◌, ◌≤◌, ◌==◌, ◌&&◌, nat_le, Bool, true, false, if◌then◌else◌, List, [], ◌∷◌, length, map, find, drop, slice_index, slice_range, arith, inl, inr}
use Rattle.std.specs.Prelude.{Some, None, Option, ⊤}
use Rattle.std.specs.Option.{option_map}
use Rattle.std.proofs.lemmas.Bool.{and_parts, cases_eq, leb-true, ne_eqb}
use Rattle.std.proofs.lemmas.List.{get_or-drop, get_or-take}
use Rattle.ld_base.specs.Field.{field, little}
use Rattle.ld_base.specs.declared.parts.Header.{Header}
use Rattle.elf_head.specs.Header.{is_loaded}
use Rattle.elf_head.specs.Readable.{covers, file_bytes, file_offset}
use Rattle.asm_write.specs.declared.contents.Contents.{Contents}
use Rattle.asm_write.specs.declared.entries.SegmentKind.{SegmentKind}
use Rattle.asm_write.specs.declared.part.Part.TheVariants as parts
use Rattle.asm_write.specs.Records.{header_of, first_part}
use Rattle.asm_write.specs.Starts.{start_in, starts_of}
use Rattle.asm_laws.specs.ElfRecords.Standing.{StandAt}
use Rattle.asm_laws.specs.ElfRecords.Lemmas.Standing.{cut_out}
use Rattle.asm_laws.specs.ElfSpelled.Lemmas.Starting.{Apart, from_head}

-- each segment has its bytes as far behind the file's begin as its address is behind the first
abbrev pub ArePlaced : ℕ → List Header → Type 0
ArePlaced head [] = ⊤
ArePlaced head (h ∷ headers) = (h.offset + head ≡ h.vaddr) × ArePlaced head headers

reached : (h : Header) (start size : ℕ) → covers start size h ≡ true → h.vaddr ≤ start
reached h start size covered =
    let (front, reaches) = and_parts (is_loaded h && nat_le h.vaddr start) (nat_le (start + size) (h.vaddr + h.filesz)) covered in
    leb-true h.vaddr start (and_parts (is_loaded h) (nat_le h.vaddr start) front).1

found_at : (head start size : ℕ) (headers : List Header) → ArePlaced head headers → (at : ℕ)
    → option_map (λ h. h.offset + (start - h.vaddr)) (find (covers start size) headers) ≡ Some at → at ≡ start - head
found_at head start size [] placed at found = absurd cc
found_at head start size (h ∷ headers) (place, placed) at found =
    let P : Bool → Type 0 = λ here. covers start size h ≡ here
    → option_map (λ (h : Header). h.offset + (start - h.vaddr)) (if here then Some h else find (covers start size) headers) ≡ Some at → at ≡ start - head in
    let first : P true = λ covered is.
    let from = reached h start size covered in
    let same : h.offset + (start - h.vaddr) ≡ at = cc in
    omega (arith, from, same, place) in
    let cases : (here : Bool) → P here = λ here. elim here as P [ true ↦ first | false ↦ λ _ is. found_at head start size headers placed at is ] in
    cases (covers start size h) refl found

pub some_is : {X : Type 0} (x y : X) → Some x ≡ Some y → x ≡ y
some_is x y e = cc

mapped_some : {A B : Type 0} (f : A → B) (o : Option A) (y : B) → option_map f o ≡ Some y → (x : A) × (o ≡ Some x) × (f x ≡ y)
mapped_some f None y is = absurd cc
mapped_some f (Some x) y is = (x, refl, some_is (f x) y is)

nothing : (part : List ℕ) → length part ≡ 0 → part ≡ []
nothing [] none = refl
nothing (byte ∷ part) none = absurd (omega (arith, none))

cut_byte : (bytes : List ℕ) (at size k : ℕ) → k < size → slice_index (slice_range bytes at (at + size)) k ≡ slice_index bytes (at + k)
cut_byte bytes at size k inside =
    get_or-take (at + size - at) (drop at bytes) k 0 (omega (arith, inside)) ∙ get_or-drop at bytes k 0

cut_little : (n : ℕ) (bytes : List ℕ) (at size k : ℕ) → k + n ≤ size → little n (slice_range bytes at (at + size)) k ≡ little n bytes (at + k)
cut_little zero bytes at size k inside = refl
cut_little (suc n) bytes at size k inside =
    let part = slice_range bytes at (at + size) in
    let first = cut_byte bytes at size k (omega (arith, inside)) in
    let rest = cut_little n bytes at size (k + 1) (omega (arith, inside)) in
    let place : at + (k + 1) ≡ at + k + 1 = omega arith in
    ap (λ byte. byte + 256 * little n part (k + 1)) first ∙ ap (λ low. slice_index bytes (at + k) + 256 * low) (rest ∙ ap (little n bytes) place)

cut_field : (n : ℕ) (bytes : List ℕ) (at size k : ℕ) → k + n ≤ size → field n (slice_range bytes at (at + size)) k ≡ field n bytes (at + k)
unfolding field
cut_field n bytes at size k inside = cut_little n bytes at size k inside

pub part_read : (bytes : List ℕ) (headers : List Header) (head start size : ℕ) (part r : List ℕ) → ArePlaced head headers → StandAt bytes (start - head) part → length part ≡ size
    → file_bytes bytes headers start size ≡ Some r → r ≡ part
unfolding file_bytes file_offset
part_read bytes headers head start size part r placed stand long found =
    elim (cases_eq size 0) as (λ _. r ≡ part) [
      | inl none ↦
          let is : Some (slice_range bytes 0 0) ≡ Some r = sym (ap (λ n. option_map (λ at. slice_range bytes at (at + n)) (if n == 0 then Some 0 else option_map (λ (h : Header). h.offset + (start - h.vaddr)) (find (covers start n) headers))) none) ∙ found in
          let empty : part ≡ [] = nothing part (omega (arith, long, none)) in
          sym (some_is (slice_range bytes 0 0) r is) ∙ sym empty
      | inr some ↦
          let no : (size == 0) ≡ false = ne_eqb size 0 some in
          let (at, there, is) = mapped_some (λ at. slice_range bytes at (at + size)) (option_map (λ (h : Header). h.offset + (start - h.vaddr)) (find (covers start size) headers)) r (rw no at found) in
          let place = found_at head start size headers placed at there in
          sym is ∙ ap (λ n. slice_range bytes n (n + size)) place ∙ ap (λ n. slice_range bytes (start - head) (start - head + n)) (sym long) ∙ cut_out bytes part (start - head) stand
    ]

-- the field of a range that is read is that of the file
pub fields_at : (bytes : List ℕ) (headers : List Header) (head start size : ℕ) (r : List ℕ) → ArePlaced head headers → 0 < size → file_bytes bytes headers start size ≡ Some r
    → (n k : ℕ) → k + n ≤ size → field n r k ≡ field n bytes (start - head + k)
unfolding file_bytes file_offset
fields_at bytes headers head start size r placed some found n k inside =
    let no : (size == 0) ≡ false = ne_eqb size 0 (λ none. absurd (omega (arith, none, some))) in
    let (at, there, is) = mapped_some (λ at. slice_range bytes at (at + size)) (option_map (λ (h : Header). h.offset + (start - h.vaddr)) (find (covers start size) headers)) r (rw no at found) in
    let place = found_at head start size headers placed at there in
    sym (ap (λ all. field n all k) is) ∙ cut_field n bytes at size k inside ∙ ap (λ o. field n bytes (o + k)) place

-- the object's own headers are placed so
pub all_placed : Apart → (contents : Contents) (segments : List SegmentKind)
    → ArePlaced (start_in (starts_of contents) parts.Head) (map (header_of (starts_of contents) contents.sections) segments)
unfolding header_of
all_placed apart contents [] = tt
all_placed apart contents (segment ∷ rest) =
    let from = from_head apart contents (first_part segment) in
    (omega (arith, from), all_placed apart contents rest)
