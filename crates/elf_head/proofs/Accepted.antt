-- What the head of an accepted file keeps.
use Rattle.std.proofs.Common.{◌≡◌, ap, ℕ, ◌-◌, ◌≤◌, ◌<◌, true, false, List, ◌++◌, length, take, drop, get_or, refl, arith, length-drop}
use Rattle.std.specs.Prelude.{Option, Some, None, Ok, slice_range}
use Rattle.std.specs.Option.{option_or}
use Rattle.std.proofs.lemmas.Bool.{ltb-false}
use Rattle.std.proofs.lemmas.List.{length-take}
use Rattle.std.proofs.lemmas.Option.{slice_get-get_or}
use Rattle.ld_base.specs.declared.parts.Head.{Head}
use Rattle.ld_base.specs.declared.parts.Header.{Header}
use Rattle.elf_head.specs.AcceptancePart.Lemmas.Firsts.{none_at, test_kept}
use Rattle.elf_head.specs.AcceptancePart.Lemmas.Leasts.{least_none}
use Rattle.elf_head.proofs.Verdicts.{verdict_ok}
use Rattle.elf_head.specs.Accepted.{AllFit, Fits}
use Rattle.elf_head.specs.Header.{headers_of, is_loaded}
use Rattle.elf_head.specs.Rules.{file_rules, head_broken, head_of, head_verdict, header_rules, is_too_big}
use Rattle.elf_head.specs.Segments.{bad_segment, is_bad, is_bad_at, is_misshapen}

no_number : (broken : Option ℕ) → ((number : ℕ) → broken ≡ Some number → ⊥) → broken ≡ None
no_number None never = refl
no_number (Some number) never = absurd (never number refl)

none_bad : (bytes : List ℕ) → head_broken bytes ≡ None → bad_segment (length bytes) (headers_of bytes) ≡ None
unfolding head_broken
none_bad bytes none = no_number (bad_segment (length bytes) (headers_of bytes)) (λ number found. none_at 1 (header_rules bytes ++ file_rules bytes) 7 number none (ap Some found))

neither : (first second : Option ℕ) → option_or first second ≡ None → first ≡ None
neither None second none = refl
neither (Some k) second none = cc

good_at : (size : ℕ) (headers : List Header) (i : ℕ) → bad_segment size headers ≡ None → i < length headers → is_bad_at size headers i ≡ false
unfolding bad_segment
good_at size headers i none within = least_none (is_bad_at size headers) (length headers) i (neither _ _ none) within

headers_same : (bytes : List ℕ) (head : Head) → head ≡ head_of bytes → head.headers ≡ headers_of bytes
unfolding head_of
headers_same bytes head same = ap (λ (h : Head). h.headers) same

shape_of : (size : ℕ) (headers before : List Header) (h : Header) → is_bad size headers before h ≡ false → is_loaded h ≡ true → is_misshapen size h ≡ false
unfolding is_bad
shape_of size headers before h good loaded = grind arith

fits : (size : ℕ) (h : Header) → is_misshapen size h ≡ false → Fits size h
unfolding is_misshapen
fits size h shape = record { memory = grind arith; low = grind arith; held = λ some. grind arith }

pub all_fit : (bytes : List ℕ) (head : Head) → head_verdict bytes ≡ Ok head → AllFit (length bytes) head.headers
all_fit bytes head ok k d within loaded =
    let parts = verdict_ok bytes head ok in
    let none : bad_segment (length bytes) head.headers ≡ None = rw (headers_same bytes head parts.1) (none_bad bytes parts.0) in
    let good : is_bad_at (length bytes) head.headers k ≡ false = good_at (length bytes) head.headers k none within in
    let h = get_or head.headers k d in
    let here : is_bad (length bytes) head.headers (take k head.headers) h ≡ false = rw (slice_get-get_or head.headers k d within) at good in
    fits (length bytes) h (shape_of (length bytes) head.headers (take k head.headers) h here loaded)

-- an accepted file has at most 8 MiB
pub file_limit : (bytes : List ℕ) (head : Head) → head_verdict bytes ≡ Ok head → length bytes ≤ 8_388_608
unfolding head_broken
file_limit bytes head ok =
    let kept = test_kept 1 (header_rules bytes ++ file_rules bytes) 8 (is_too_big bytes) (verdict_ok bytes head ok).0 refl in
    ltb-false 8_388_608 (length bytes) kept

range_within : (bytes : List ℕ) (i j : ℕ) → length (slice_range bytes i j) ≤ length bytes
range_within bytes i j = omega (arith, length-take (j - i) (drop i bytes), length-drop i bytes)

-- and so has a part of it
pub few_range : (bytes : List ℕ) (head : Head) (i j : ℕ) → head_verdict bytes ≡ Ok head → length (slice_range bytes i j) ≤ 8_388_608
few_range bytes head i j ok = omega (arith, file_limit bytes head ok, range_within bytes i j)
