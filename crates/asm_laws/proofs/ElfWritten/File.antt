-- The file is as long as its size says.
use Rattle.std.proofs.Common.{◌≡◌, ◌∙◌, ap, sym, ℕ, suc, ◌+◌, ◌-◌, ◌^◌, ◌<◌, ◌≤◌, ◌==◌, Bool, true, false, if◌then◌else◌, List, [], ◌∷◌, ◌++◌, length, fold, replicate, refl, arith, slice_index, length-append}
use Rattle.std.proofs.lemmas.List.{length-replicate}
use Rattle.std.proofs.lemmas.Bool.{cases_eq}
use Rattle.std.proofs.Common.{inl, inr}
use Rattle.asm_write.specs.declared.contents.Contents.{Contents}
use Rattle.asm_write.specs.declared.contents.SectionBytes.{SectionBytes}
use Rattle.asm_write.specs.declared.part.Part.{Part}
use Rattle.asm_write.specs.declared.part.Part.TheVariants as parts
use Rattle.asm_write.specs.declared.starts.Starts.{Starts}
use Rattle.asm_write.specs.Parts.{number_of, all_parts}
use Rattle.asm_write.specs.Records.{end_behind, file_parts, file_size}
use Rattle.asm_write.specs.Sizes.{plain_size}
use Rattle.asm_write.specs.Starts.{starts_of, start_in, size_in, size_of, wrapped}
use Rattle.asm_write.specs.Values.{part_bytes, joined, join_part, object_bytes}
use Rattle.asm_laws.proofs.ElfWritten.Apart.{parts_apart, size_told}
use Rattle.asm_laws.proofs.ElfWritten.Packed.{packed_size, unwrapped}
use Rattle.asm_laws.proofs.ElfWritten.Sizes.{sized}
use Rattle.asm_laws.specs.ElfWritten.Fitting.{FitsSections, HasOwnBytes}
use Rattle.asm_laws.specs.ElfWritten.Standing.{AlignsInPages, PacksBehind, EndsInside}

-- a part that is joined to a file ends it, unless it is empty
joined_end : (head end start : ℕ) (file bytes : List ℕ) → head + length file ≡ end → end ≤ start
    → head + length (joined file (start - head) bytes) ≡ (if length bytes == 0 then end else start + length bytes)
joined_end head end start file bytes ends behind =
    let zeros = replicate (start - head - length file) 0 in
    let whole = length-append (file ++ zeros) bytes in
    let front = length-append file zeros in
    let filled = length-replicate {A = ℕ} (start - head - length file) 0 in
    let P : Bool → Type 0 = λ empty. head + length (if empty then file else file ++ zeros ++ bytes) ≡ (if empty then end else start + length bytes) in
    let cases : (empty : Bool) → P empty = λ empty. elim empty as P [ true ↦ ends | false ↦ omega (arith, whole, front, filled) ] in
    cases (length bytes == 0)

same_end : (end start size fit : ℕ) → fit ≡ size → start + size < 2 ^ 64 → (if fit == 0 then end else start + fit) ≡ (if size == 0 then end else wrapped (start + size))
same_end end start size fit is inside =
    ap (λ n. if n == 0 then end else start + n) is ∙ ap (λ n. if size == 0 then end else n) (sym (unwrapped (start + size) inside))

step : (starts : Starts) (contents : Contents) (code : SectionBytes) (part : Part) (end : ℕ) (file : List ℕ)
    → start_in starts parts.Head + length file ≡ end → end ≤ start_in starts part → length (part_bytes starts contents code part) ≡ size_in starts part
    → start_in starts part + size_in starts part < 2 ^ 64
    → start_in starts parts.Head + length (join_part starts contents code file part) ≡ end_behind starts end part
step starts contents code part end file ends behind is inside =
    joined_end (start_in starts parts.Head) end (start_in starts part) file (part_bytes starts contents code part) ends behind
    ∙ same_end end (start_in starts part) (size_in starts part) (length (part_bytes starts contents code part)) is inside

-- all later parts start behind an end
Reaches : Starts → ℕ → ℕ → Type 0
Reaches starts end number = (part : Part) → number ≤ number_of part → end ≤ start_in starts part

reaches : (contents : Contents) (part : Part) (end : ℕ) → start_in (starts_of contents) part + size_in (starts_of contents) part < 2 ^ 64
    → Reaches (starts_of contents) end (number_of part) → Reaches (starts_of contents) (end_behind (starts_of contents) end part) (suc (number_of part))
unfolding Reaches
reaches contents part end inside before other later =
    let starts = starts_of contents in
    let P : Bool → Type 0 = λ empty. (if empty then end else wrapped (start_in starts part + size_in starts part)) ≤ start_in starts other in
    let whole : wrapped (start_in starts part + size_in starts part) ≤ start_in starts other =
    let apart = parts_apart contents part other (omega arith) in
    rw (unwrapped (start_in starts part + size_in starts part) inside) apart in
    let cases : (empty : Bool) → P empty = λ empty. elim empty as P [ true ↦ before other (omega arith) | false ↦ whole ] in
    cases (size_in starts part == 0)

-- the parts that go into a file, in their order, and those among them that have bytes there
data Files (contents : Contents) (code : SectionBytes) : ℕ → List Part → List Part → Type 0 where
  done : (number : ℕ) → Files contents code number [] []
  with_bytes : (part : Part) (rest written : List Part) → length (part_bytes (starts_of contents) contents code part) ≡ size_in (starts_of contents) part
      → Files contents code (suc (number_of part)) rest written → Files contents code (number_of part) (part ∷ rest) (part ∷ written)
  without : (part : Part) (rest written : List Part) → part_bytes (starts_of contents) contents code part ≡ []
      → Files contents code (suc (number_of part)) rest written → Files contents code (number_of part) (part ∷ rest) written

sooner : (starts : Starts) (end number : ℕ) → Reaches starts end number → Reaches starts end (suc number)
unfolding Reaches
sooner starts end number before other later = before other (omega arith)

at_part : (starts : Starts) (end : ℕ) (part : Part) → Reaches starts end (number_of part) → end ≤ start_in starts part
unfolding Reaches
at_part starts end part before = before part (omega arith)

file_end : (contents : Contents) (code : SectionBytes) → EndsInside (starts_of contents) → (number : ℕ) (listed written : List Part) → Files contents code number listed written
    → (end : ℕ) (file : List ℕ) → start_in (starts_of contents) parts.Head + length file ≡ end → Reaches (starts_of contents) end number
    → start_in (starts_of contents) parts.Head + length (fold (join_part (starts_of contents) contents code) file listed) ≡ fold (end_behind (starts_of contents)) end written
file_end contents code inside _ _ _ (done number) end file ends before = ends
file_end contents code inside _ _ _ (with_bytes part rest written is files) end file ends before =
    let starts = starts_of contents in
    file_end contents code inside (suc (number_of part)) rest written files (end_behind starts end part) (join_part starts contents code file part)
    (step starts contents code part end file ends (at_part starts end part before) is (inside part)) (reaches contents part end (inside part) before)
file_end contents code inside _ _ _ (without part rest written is files) end file ends before =
    let starts = starts_of contents in
    let head = start_in starts parts.Head in
    let same : head + length (join_part starts contents code file part) ≡ end = ap (λ bytes. head + length (joined file (start_in starts part - head) bytes)) is ∙ ends in
    file_end contents code inside (suc (number_of part)) rest written files end (join_part starts contents code file part) same (sooner starts end (number_of part) before)

-- a part's bytes are as many as its size
plain : (contents : Contents) (part : Part) → HasOwnBytes part → plain_size contents part ≡ size_of contents part
unfolding size_of
plain contents parts.Head own = refl
plain contents parts.GnuHash own = refl
plain contents parts.SysvHash own = refl
plain contents parts.Symbols own = refl
plain contents parts.Strings own = refl
plain contents parts.Versym own = refl
plain contents parts.Verdef own = refl
plain contents parts.Verneed own = refl
plain contents parts.Rela own = refl
plain contents parts.Relr own = absurd own
plain contents parts.Jmprel own = refl
plain contents parts.Rodata own = refl
plain contents parts.Plt own = refl
plain contents parts.Text own = refl
plain contents parts.Dynamic own = refl
plain contents parts.Got own = refl
plain contents parts.PreinitArray own = refl
plain contents parts.InitArray own = refl
plain contents parts.FiniArray own = refl
plain contents parts.Relro own = refl
plain contents parts.Tdata own = refl
plain contents parts.Tbss own = refl
plain contents parts.GotPlt own = refl
plain contents parts.Data own = refl
plain contents parts.Bss own = absurd own

packed : (contents : Contents) (code : SectionBytes) → AlignsInPages contents → PacksBehind (starts_of contents) contents.fixes
    → length (part_bytes (starts_of contents) contents code parts.Relr) ≡ size_in (starts_of contents) parts.Relr
unfolding part_bytes size_of
packed contents code aligns behind = packed_size contents aligns behind ∙ sym (size_told contents parts.Relr)

empty : (starts : Starts) (contents : Contents) (code : SectionBytes) → (part_bytes starts contents code parts.Tbss ≡ []) × (part_bytes starts contents code parts.Bss ≡ [])
unfolding part_bytes
empty starts contents code = (refl, refl)

files : (contents : Contents) (code : SectionBytes) → FitsSections contents code → AlignsInPages contents → PacksBehind (starts_of contents) contents.fixes
    → Files contents code 0 all_parts file_parts
files contents code fits aligns behind =
    let starts = starts_of contents in
    let own : (part : Part) → HasOwnBytes part → length (part_bytes starts contents code part) ≡ size_in starts part
    = λ part own. sized starts contents code fits part own ∙ plain contents part own ∙ sym (size_told contents part) in
    let (no_block, no_zeros) = empty starts contents code in
    with_bytes parts.Head _ _ (own parts.Head tt) (with_bytes parts.GnuHash _ _ (own parts.GnuHash tt) (with_bytes parts.SysvHash _ _ (own parts.SysvHash tt)
    (with_bytes parts.Symbols _ _ (own parts.Symbols tt) (with_bytes parts.Strings _ _ (own parts.Strings tt) (with_bytes parts.Versym _ _ (own parts.Versym tt)
    (with_bytes parts.Verdef _ _ (own parts.Verdef tt) (with_bytes parts.Verneed _ _ (own parts.Verneed tt) (with_bytes parts.Rela _ _ (own parts.Rela tt)
    (with_bytes parts.Relr _ _ (packed contents code aligns behind) (with_bytes parts.Jmprel _ _ (own parts.Jmprel tt)
    (with_bytes parts.Rodata _ _ (own parts.Rodata tt) (with_bytes parts.Plt _ _ (own parts.Plt tt) (with_bytes parts.Text _ _ (own parts.Text tt)
    (with_bytes parts.Dynamic _ _ (own parts.Dynamic tt) (with_bytes parts.Got _ _ (own parts.Got tt) (with_bytes parts.PreinitArray _ _ (own parts.PreinitArray tt)
    (with_bytes parts.InitArray _ _ (own parts.InitArray tt) (with_bytes parts.FiniArray _ _ (own parts.FiniArray tt) (with_bytes parts.Relro _ _ (own parts.Relro tt)
    (with_bytes parts.Tdata _ _ (own parts.Tdata tt) (without parts.Tbss _ _ no_block (with_bytes parts.GotPlt _ _ (own parts.GotPlt tt)
    (with_bytes parts.Data _ _ (own parts.Data tt) (without parts.Bss _ _ no_zeros (done _)))))))))))))))))))))))))

-- every part stands behind the first
first : (contents : Contents) → Reaches (starts_of contents) (start_in (starts_of contents) parts.Head) 0
unfolding Reaches
first contents part late =
    let starts = starts_of contents in
    elim (cases_eq (number_of part) 0) as (λ _. start_in starts parts.Head ≤ start_in starts part) [
      | inl is ↦ omega (arith, ap (λ n. slice_index starts.addresses n) is)
      | inr later ↦ let apart = parts_apart contents parts.Head part (omega arith) in omega (arith, apart)
    ]

pub file_length : (contents : Contents) (code : SectionBytes) → FitsSections contents code → AlignsInPages contents → PacksBehind (starts_of contents) contents.fixes
    → EndsInside (starts_of contents) → length (object_bytes (starts_of contents) contents code) ≡ file_size (starts_of contents)
unfolding object_bytes file_size
file_length contents code fits aligns behind inside =
    let head = start_in (starts_of contents) parts.Head in
    let ends = file_end contents code inside 0 all_parts file_parts (files contents code fits aligns behind) head [] (omega arith) (first contents) in
    less head _ _ ends
  where
    less : (head long end : ℕ) → head + long ≡ end → long ≡ end - head
    less head long end ends = omega (arith, ends)
