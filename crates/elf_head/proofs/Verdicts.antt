-- The first broken rule, rule by rule.
use Rattle.std.proofs.Common.{◌≡◌, ℕ, ◌+◌, ◌*◌, ◌≤◌, false, List, length, refl, arith}
use Rattle.std.specs.Prelude.{None, Ok}
use Rattle.std.specs.Option.{option_or}
use Rattle.ld_base.specs.declared.parts.Head.{Head}
use Rattle.elf_head.specs.AcceptancePart.Broken.{first_broken}
use Rattle.elf_head.specs.AcceptancePart.Lemmas.Firsts.{first_of_both, test_kept, verdict_ok_is}
use Rattle.elf_head.specs.Header.{table_start, header_count}
use Rattle.elf_head.specs.Rules.{is_too_short, has_bad_program_headers, header_rules, file_rules, head_broken, head_of, head_verdict}

-- one verdict or the other
pub verdict_ok : (bytes : List ℕ) (head : Head) → head_verdict bytes ≡ Ok head → (head_broken bytes ≡ None) × (head ≡ head_of bytes)
unfolding head_verdict
verdict_ok bytes head ok = verdict_ok_is (head_broken bytes) (head_of bytes) head ok

pub head_parts : (bytes : List ℕ) → head_broken bytes ≡ option_or (first_broken 1 (header_rules bytes)) (first_broken 8 (file_rules bytes))
unfolding head_broken
head_parts bytes = first_of_both 1 (header_rules bytes) (file_rules bytes)

-- where the rules 1 to 7 hold, the file has its headers
pub table_held : (bytes : List ℕ) → first_broken 1 (header_rules bytes) ≡ None → (64 ≤ length bytes) × (table_start bytes + 56 * header_count bytes ≤ length bytes)
table_held bytes none =
    let long : is_too_short bytes ≡ false = test_kept 1 (header_rules bytes) 0 (is_too_short bytes) none refl in
    let held : has_bad_program_headers bytes ≡ false = test_kept 1 (header_rules bytes) 6 (has_bad_program_headers bytes) none refl in
    (grind arith, grind arith)

-- what a reader knows of a verdict from the rules that it tried
pub ruleset verdicts = (head_parts, table_held)
