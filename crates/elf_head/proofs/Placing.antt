-- Where the bytes of a readable range stand in a file that is accepted.
use Rattle.std.proofs.Common.{◌≡◌, ◌∙◌, sym, ℕ, ◌+◌, ◌≤◌, ◌<◌, ◌^◌, true, false, get_or, List, length, arith, ap, Bor}
use Rattle.std.specs.Prelude.{Option, Some, Ok, find, is_some, ◌==◌}
use Rattle.std.specs.List.{slice_get, position_or_len}
use Rattle.std.specs.Option.{option_copied}
use Rattle.std.proofs.lemmas.List.Folds.{find_at}
use Rattle.std.proofs.lemmas.Option.{slice_get_within, get_or_from_slice_get}
use Rattle.ld_base.specs.declared.parts.Head.{Head}
use Rattle.ld_base.specs.declared.parts.Header.{Header}
use Rattle.elf_head.proofs.Finding.{find_passes, found_none, found_some, some_find}
use Rattle.elf_head.proofs.Accepted.{all_fit}
use Rattle.elf_head.specs.Accepted.{Fits}
use Rattle.elf_head.specs.Header.{is_loaded}
use Rattle.elf_head.specs.Readable.{covers, readable}
use Rattle.elf_head.specs.Rules.{head_verdict}

-- what is known of the segment that has the range
pub record HasRange (size start count : ℕ) (h : Header) : Type 0 where
  pub begins : h.vaddr ≤ start
  pub ends : start + count ≤ h.vaddr + h.filesz
  pub held : h.offset + h.filesz ≤ size
  pub low : start + count ≤ 2 ^ 32

pub has_range : (bytes : List ℕ) (head : Head) (start count : ℕ) (h : Header) → head_verdict bytes ≡ Ok head → find (covers start count) head.headers ≡ Some h → 0 < count → HasRange (length bytes) start count h
has_range bytes head start count h ok found some =
    let i = position_or_len (covers start count) head.headers in
    let got : slice_get head.headers i ≡ Some h = sym (find_at (covers start count) head.headers) ∙ found in
    let covered : covers start count h ≡ true = find_passes (covers start count) head.headers h found in
    let loaded : is_loaded h ≡ true = grind arith in
    let same : get_or head.headers i h ≡ h = get_or_from_slice_get head.headers i h h got in
    let fit : Fits (length bytes) h = rw same at (all_fit bytes head ok i h (slice_get_within head.headers i h got)) loaded in
    let begins : h.vaddr ≤ start = grind arith in
    let ends : start + count ≤ h.vaddr + h.filesz = grind arith in
    record { begins = begins; ends = ends; held = fit.held (omega arith); low = omega (arith, ends, fit.memory, fit.low) }

-- the same of the segment that a search lent
pub range_found : (bytes : List ℕ) (head : Head) (start count : ℕ) (headers : List Header) (found : Option (Bor Header)) (x : Bor Header)
    → head_verdict bytes ≡ Ok head → option_copied found ≡ find (covers start count) headers → headers ≡ head.headers → found ≡ Some x → 0 < count
    → HasRange (length bytes) start count x.now
range_found bytes head start count headers found x ok same list is some =
    has_range bytes head start count x.now ok (found_some (covers start count) head.headers headers found x same list is) some

-- readable as the search of the segments went
pub readable_is : (headers : List Header) (start size : ℕ) (found : Option Header) → find (covers start size) headers ≡ found → (size ≡ 0 → ⊥) → readable headers start size ≡ is_some found
readable_is headers start size found search some =
    let no : (size == 0) ≡ false = grind arith in
    rw no (sym (some_find (covers start size) headers) ∙ ap is_some search)

-- what a reader knows of a range from the search of its segment
pub ruleset found = (range_found, found_some, found_none, readable_is)
