-- The bytes of a table are those of its part, where no rule of the tables is broken.
use Rattle.std.proofs.Common.{◌≡◌, ◌∙◌, ap, sym, refl, ℕ, ◌+◌, ◌-◌, ◌==◌, ◌||◌, Bool, true, false, if◌then◌else◌, IsTrue, List, [], ◌∷◌, find, slice_range}
use Rattle.std.specs.Prelude.{Some}
use Rattle.std.specs.Option.{option_map}
use Rattle.std.specs.List.{list_any}
use Rattle.elf_head.specs.AcceptancePart.Lemmas.Finds.{never}
use Rattle.ld_base.specs.declared.object.Span.{Span}
use Rattle.ld_base.specs.declared.parts.DynParts.{DynParts}
use Rattle.ld_base.specs.declared.parts.Head.{Head}
use Rattle.ld_base.specs.declared.parts.Header.{Header}
use Rattle.elf_head.specs.Readable.{covers, file_bytes, file_offset, readable}
use Rattle.elf_head.specs.DynTable.HashWords.{hash_words}
use Rattle.elf_dynamic.specs.Breaks.{IsBadTable}
use Rattle.elf_dynamic.specs.Parts.{AreBytes}
use Rattle.elf_dynamic.specs.Verdict.{SpellsDynamic, by_tables, bad_table}

some_found : {X : Type 0} (p : X → Bool) (xs : List X) → list_any p xs ≡ true → (x : X) × (find p xs ≡ Some x)
some_found p [] is = absurd cc
some_found {X} p (x ∷ xs) is =
    let P : Bool → Type 0 = λ here. (here || list_any p xs) ≡ true → (y : X) × ((if here then Some x else find p xs) ≡ Some y) in
    let cases : (here : Bool) → P here = λ here. elim here as P [ true ↦ λ _. (x, refl) | false ↦ λ rest. some_found p xs rest ] in
    cases (p x) is

-- a range that is readable has its bytes
pub held_bytes : (bytes : List ℕ) (headers : List Header) (start size : ℕ) → IsTrue (readable headers start size) → (r : List ℕ) × (file_bytes bytes headers start size ≡ Some r)
unfolding file_bytes file_offset
held_bytes bytes headers start size held =
    let offset : Header → ℕ = λ h. h.offset + (start - h.vaddr) in
    let P : Bool → Type 0 = λ none. (none || list_any (covers start size) headers) ≡ true
    → (r : List ℕ) × (option_map (λ at. slice_range bytes at (at + size)) (if none then Some 0 else option_map offset (find (covers start size) headers)) ≡ Some r) in
    let found : P false = λ any. (let (h, is) = some_found (covers start size) headers any in
    (slice_range bytes (offset h) (offset h + size), ap (λ o. option_map (λ at. slice_range bytes at (at + size)) (option_map offset o)) is)) in
    let cases : (none : Bool) → P none = λ none. elim none as P [ true ↦ λ _. (slice_range bytes 0 (0 + size), refl) | false ↦ found ] in
    cases (size == 0) held

-- no table of an accepted file is bad
pub none_bad : (bytes : List ℕ) (head : Head) (program : Bool) (said : DynParts) → SpellsDynamic bytes head program said → (tag : ℕ)
    → IsBadTable head.headers said.tags (hash_words bytes head.headers said.tags) tag → ⊥
none_bad bytes head program said spells =
    never (IsBadTable head.headers said.tags (hash_words bytes head.headers said.tags))
    (λ tag first. spells.kept 11 tag (by_tables said spells.say 11 tag (bad_table tag first)))

pub table_bytes : (bytes : List ℕ) (headers : List Header) (R : Span → Type 0) (start size : ℕ) (expected part : List ℕ) → ((s : Span) → R s → (s.start ≡ start) × (s.size ≡ size))
    → ((r : List ℕ) → file_bytes bytes headers start size ≡ Some r → r ≡ expected)
    → (((s : Span) (r : List ℕ) → R s → file_bytes bytes headers s.start s.size ≡ Some r → ⊥) → expected ≡ [])
    → AreBytes bytes headers R part → part ≡ expected
table_bytes bytes headers R start size expected part is read there (AreBytes.held s range stands) =
    let (begin, long) = is s range in
    read part (ap (λ n. file_bytes bytes headers n size) (sym begin) ∙ ap (λ n. file_bytes bytes headers s.start n) (sym long) ∙ stands)
table_bytes bytes headers R start size expected part is read there (AreBytes.missing none empty) = empty ∙ sym (there none)
