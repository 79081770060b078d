use Rattle.std.proofs.Common.{rules, ◌≡◌, ℕ, map, List, Bor, length, sym, ap, subst, ◌∙◌, arith}
use Rattle.std.proofs.lemmas.List.{length-map}
use Rattle.cli_read.proofs.ScheduleRead.Texts.{AreNumbers, alone, by_star, neither, one_part, pair, two_parts}
use Rattle.cli_read.proofs.schedule_read.items.numbers_of.Goals as goal
use Rattle.cli_read.proofs.schedule_read.items.numbers_of.Goals.{in-len1, in-len2, in_default, in_default-2}

-- as many parts as are lent
count : (c : goal.After-drop-parts) → length (by_star c.args.text.now) ≡ length c.as_slice.result.now
count c = ap length (sym c.in_ok-parts.ensures) ∙ length-map c.in_ok-parts.parts.items (λ (p : Bor (List ℕ)). p.now) ∙ ap length (sym c.as_slice.ensures.value)

are : (c : goal.After-drop-parts) → AreNumbers c.args.text.now c.if-as_slice-lt1.result
are c = elim c.if-as_slice-lt1.branch [
  | in-len1 w ↦
      let split = sym c.in_ok-parts.ensures ∙ ap (map (λ (p : Bor (List ℕ)). p.now)) (sym c.as_slice.ensures.value) ∙ one_part c.as_slice.result.now _ w.in-len1.len_at_least w.in-len1.len_below in
      subst (AreNumbers c.args.text.now) (search rules) (alone c.args.text.now _ w.decimal_number.result split (record { is = w.decimal_number.ensures.is; every = w.decimal_number.ensures.every }))
  | in-len2 w ↦
      let split = sym c.in_ok-parts.ensures ∙ ap (map (λ (p : Bor (List ℕ)). p.now)) (sym c.as_slice.ensures.value) ∙ two_parts c.as_slice.result.now _ w.in-len2.len_at_least w.in-len2.len_below in
      subst (AreNumbers c.args.text.now) (sym (w.result-is ∙ w.zip.ensures))
      (pair c.args.text.now _ _ w.decimal_number-in-len2.result w.decimal_number-in-len2-2.result split
      (record { is = w.decimal_number-in-len2.ensures.is; every = w.decimal_number-in-len2.ensures.every })
      (record { is = w.decimal_number-in-len2-2.ensures.is; every = w.decimal_number-in-len2-2.ensures.every }))
  | in_default w ↦ subst (AreNumbers c.args.text.now) (sym w.result-is)
      (neither c.args.text.now (λ e. omega (arith, e, count c, w.in_default.len_below)) (λ e. omega (arith, e, count c, w.in_default.len_below)))
  | in_default-2 w ↦ subst (AreNumbers c.args.text.now) (sym w.result-is)
      (neither c.args.text.now (λ e. omega (arith, e, count c, w.in_default.len_at_least)) (λ e. omega (arith, e, count c, w.in_default.len_at_least)))
]

pub returns-clause-written : goal.returns-clause-written
returns-clause-written c = (are c).written

pub returns-clause-every : goal.returns-clause-every
returns-clause-every c = (are c).every
