-- A verdict and the relations that say what it means.
use Rattle.std.proofs.Common.{◌≡◌, ◌⊎◌, ◌∙◌, ap, sym, ℕ, zero, suc, ◌<◌, Bool, true, false, List, ◌++◌, length, refl, arith, inl, inr}
use Rattle.std.specs.Prelude.{Option, Some, None, Result, Ok, Err, ◌↔◌, if◌then◌else◌}
use Rattle.std.specs.List.{list_any}
use Rattle.std.specs.Option.{option_or}
use Rattle.std.proofs.lemmas.Bool.{cases_lt}
use Rattle.std.proofs.lemmas.Bool.Decides.{Decides-eqb}
use Rattle.std.proofs.lemmas.Option.{slice_get_past}
use Rattle.ld_base.specs.Field.{field}
use Rattle.ld_base.specs.declared.fault.NotAccepted.{NotAccepted}
use Rattle.ld_base.specs.declared.object.Kind.{Kind}
use Rattle.ld_base.specs.declared.object.Kind.TheVariants.{Exec, Dyn}
use Rattle.ld_base.specs.declared.parts.Head.{Head}
use Rattle.ld_base.specs.declared.parts.Header.{Header}
use Rattle.ld_base.specs.declared.fault.ReadFault.{ReadFault}
use Rattle.elf_head.specs.AcceptancePart.Gives.{Answers, Gives}
use Rattle.elf_head.specs.AcceptancePart.Lemmas.Answers.{answers}
use Rattle.elf_head.specs.AcceptancePart.Lemmas.Tables.{length-table, get-table, same_elements}
use Rattle.elf_head.specs.AcceptancePart.Lemmas.Finds.{same_some, Finds}
use Rattle.elf_head.specs.AcceptancePart.Lemmas.Leasts.{finds_least}
use Rattle.elf_head.specs.AcceptancePart.Lemmas.Tests.{contrary, decided, either, itself, refuted}
use Rattle.elf_head.specs.AcceptancePart.Lemmas.Firsts.{accepts, refuses, Breaking, Listed}
use Rattle.elf_head.specs.AcceptancePart.Broken.{broken_if}
use Rattle.elf_head.specs.AcceptancePart.First.{NoneBroken}
use Rattle.elf_head.specs.Header.{header_at, header_count, headers_of, is_loaded, table_start}
use Rattle.elf_head.specs.Rules.{file_rules, head_broken, head_of, head_verdict, header_rules, kind_of}
use Rattle.elf_head.specs.Segments.{bad_segment, is_bad_at}
use Rattle.elf_head.specs.Verdict.{Breaks, BreaksFirst, IsFirstBad, SpellsHead}
use Rattle.elf_head.specs.Verdict.Breaks.{too_short, not_elf, not_class64_little, not_riscv, not_linked, needs_an_extension, bad_program_headers, bad_segment_at, too_big}

module _ (size : ℕ) (headers : List Header) (k : ℕ) where
  abbrev test : ℕ → Bool
  test = is_bad_at size headers

  -- no index past the headers is bad
  bad_within : (j : ℕ) → test j ≡ true → j < length headers
  bad_within j bad = elim (cases_lt j (length headers)) [ inl below ↦ below | inr past ↦ (let none = slice_get_past headers j past in cc (rw none at bad)) ]

  -- the first bad header is what the rule on segments is broken with
  pub first_bad : (bad_segment size headers ≡ Some k) ↔ IsFirstBad size headers k
  unfolding bad_segment
  first_bad = by _ _ (finds_least test (λ j. test j ≡ true) (length headers) (λ j. itself (test j)) bad_within) refl
    where
      by : (first : Option ℕ) (loaded : Bool) → Finds (λ j. test j ≡ true) first → list_any is_loaded headers ≡ loaded
          → (option_or first (if loaded then None else Some (length headers)) ≡ Some k) ↔ IsFirstBad size headers k
      by None true none some = (λ e. cc, λ f. elim f.bad [ inl bad ↦ absurd (none k bad) | inr (at, missing) ↦ cc ])
      by None false none missing = (
        λ e. record { bad = inr (sym (same_some e), missing); before = λ j below. refuted (itself (test j)) (none j) },
        λ f. elim f.bad [ inl bad ↦ absurd (none k bad) | inr (at, never) ↦ ap Some (sym at) ],
      )
      by (Some i) loaded f is = (
        λ e. rw (← same_some e) (record { bad = inl f.bad; before = λ j below. refuted (itself (test j)) (f.before j below) }),
        λ g. (let bad = g.bad in let least = g.before in let here = f.bad in let first = f.before in let within = bad_within i f.bad in ap Some (grind arith)),
      )

-- a rule that is broken has its number in the list of rules
listed : (bytes : List ℕ) → Listed 1 (header_rules bytes ++ file_rules bytes) (Breaks bytes)
listed bytes rule number (too_short h) = (0, refl, rw h)
listed bytes rule number (not_elf h) = (1, refl, rw h)
listed bytes rule number (not_class64_little h) = (2, refl, rw h)
listed bytes rule number (not_riscv h) = (3, refl, rw h)
listed bytes rule number (not_linked h) = (4, refl, rw h)
listed bytes rule number (needs_an_extension h) = (5, refl, rw h)
listed bytes rule number (bad_program_headers h) = (6, refl, rw h)
listed bytes rule number (bad_segment_at k h) = (7, refl, rw ((first_bad (length bytes) (headers_of bytes) k).1 h))
listed bytes rule number (too_big h) = (8, refl, rw h)

test_of : (bytes : List ℕ) (rule number : ℕ) (test : Bool) → Some (broken_if test) ≡ Some (Some number) → (test ≡ true → Breaks bytes rule 0) → Breaks bytes rule number
test_of bytes rule number true found breaks = rw (← same_some (same_some found)) (breaks refl)
test_of bytes rule number false found breaks = cc

-- a number in the list of rules is of a rule that is broken
breaking : (bytes : List ℕ) → Breaking 1 (header_rules bytes ++ file_rules bytes) (Breaks bytes)
breaking bytes zero number found = test_of bytes 1 number _ found (λ h. too_short h)
breaking bytes (suc zero) number found = test_of bytes 2 number _ found (λ h. not_elf h)
breaking bytes (suc (suc zero)) number found = test_of bytes 3 number _ found (λ h. not_class64_little h)
breaking bytes (suc (suc (suc zero))) number found = test_of bytes 4 number _ found (λ h. not_riscv h)
breaking bytes (suc (suc (suc (suc zero)))) number found = test_of bytes 5 number _ found (λ h. not_linked h)
breaking bytes (suc (suc (suc (suc (suc zero))))) number found = test_of bytes 6 number _ found (λ h. needs_an_extension h)
breaking bytes (suc (suc (suc (suc (suc (suc zero)))))) number found = test_of bytes 7 number _ found (λ h. bad_program_headers h)
breaking bytes (suc (suc (suc (suc (suc (suc (suc zero))))))) number found =
    bad_segment_at number ((first_bad (length bytes) (headers_of bytes) number).0 (same_some found))
breaking bytes (suc (suc (suc (suc (suc (suc (suc (suc zero)))))))) number found = test_of bytes 9 number _ found (λ h. too_big h)
breaking bytes (suc (suc (suc (suc (suc (suc (suc (suc (suc i))))))))) number found = cc

kind_is : (bytes : List ℕ) → NoneBroken (Breaks bytes) → ((field 2 bytes 16 ≡ 2) × (kind_of bytes ≡ Exec)) ⊎ ((field 2 bytes 16 ≡ 3) × (kind_of bytes ≡ Dyn))
kind_is bytes kept =
    let linked = either (Decides-eqb (field 2 bytes 16) 2) (Decides-eqb (field 2 bytes 16) 3) in
    elim (decided linked (λ none. kept 5 0 (not_linked ((contrary linked).1 none)))) [ inl exec ↦ inl (exec, rw exec) | inr dyn ↦ inr (dyn, rw dyn) ]

-- a kind that agrees with the bytes is theirs
same_kind : (bytes : List ℕ) (kind : Kind) → ((field 2 bytes 16 ≡ 2) × (kind ≡ Exec)) ⊎ ((field 2 bytes 16 ≡ 3) × (kind ≡ Dyn)) → kind ≡ kind_of bytes
same_kind bytes kind agrees = elim agrees [ inl exec ↦ rw exec.0 exec.1 | inr dyn ↦ rw dyn.0 dyn.1 ]

-- what a file that breaks no rule says
spelled : (bytes : List ℕ) → NoneBroken (Breaks bytes) → SpellsHead bytes (head_of bytes)
unfolding head_of headers_of
spelled bytes kept = record {
  kept = kept;
  kind = kind_is bytes kept;
  entry = refl;
  count = length-table (header_at bytes) (table_start bytes) 56 (header_count bytes);
  headers = get-table (header_at bytes) (table_start bytes) 56 (header_count bytes);
}

same_headers : (bytes : List ℕ) (head : Head) → SpellsHead bytes head → head.headers ≡ headers_of bytes
unfolding head_of
same_headers bytes head spells =
    let own = spelled bytes spells.kept in
    same_elements head.headers _ (spells.count ∙ sym own.count)
    (λ i below. (let within = rw own.count at below in spells.headers i within ∙ sym (own.headers i within)))

same_head : (bytes : List ℕ) (head : Head) → SpellsHead bytes head → head ≡ head_of bytes
unfolding head_of
same_head bytes head spells = rw (← same_kind bytes head.kind spells.kind, ← spells.entry, ← same_headers bytes head spells) refl

pub accepted : (bytes : List ℕ) (head : Head) → (head_verdict bytes ≡ Ok head) ↔ SpellsHead bytes head
unfolding head_verdict head_broken
accepted bytes head =
    let one = accepts 1 (header_rules bytes ++ file_rules bytes) (Breaks bytes) (listed bytes) (breaking bytes) (head_of bytes) head in
    (λ ok. (let got = one.0 ok in rw got.1 (spelled bytes got.0)), λ s. one.1 (s.kept, same_head bytes head s))

pub refused : (bytes : List ℕ) (fault : NotAccepted) → (head_verdict bytes ≡ Err fault) ↔ BreaksFirst bytes fault
unfolding head_verdict head_broken
refused bytes = refuses 1 (header_rules bytes ++ file_rules bytes) (Breaks bytes) (listed bytes) (breaking bytes) (head_of bytes)

-- what is given is what is answered
pub head_answers : (bytes : List ℕ) (result : Result Head ReadFault) → Gives result (head_verdict bytes) → Answers (SpellsHead bytes) (BreaksFirst bytes) result
head_answers bytes = answers (SpellsHead bytes) (BreaksFirst bytes) (head_verdict bytes) (λ head. (accepted bytes head).0) (λ fault. (refused bytes fault).0)
