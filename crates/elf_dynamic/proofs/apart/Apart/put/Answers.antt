use Rattle.std.proofs.Common.{◌+◌, arith}
use Rattle.std.proofs.lemmas.Bool.{false_from_ne_true}
use Rattle.elf_dynamic.specs.Ends.{IsMet}
use Rattle.elf_dynamic.proofs.Ranges.{none_ends, none_marks, none_overlaps, put_ends, put_marks}
use Rattle.elf_dynamic.proofs.apart.Apart.put.Goals as goal

pub returns-then-range-eq0-clause-put : goal.returns-then-range-eq0-clause-put
returns-then-range-eq0-clause-put c ranges are truth = (
  none_overlaps c.args.range c.if-range-eq0.true ranges,
  record { ends = none_ends c.args.range c.if-range-eq0.true ranges _ are.ends; marks = none_marks _ ranges c.args.range are.marks c.if-range-eq0.true },
)

pub returns-then-is_met-clause-met : goal.returns-then-is_met-clause-met
returns-then-is_met-clause-met c ranges are truth = (are.ends.met c.args.range (omega arith)).0 (c.is_met.ensures.0 c.if-is_met.true)

pub returns-clause-put : goal.returns-clause-put
returns-clause-put c ranges are truth =
    let clear : IsMet c.args.self.now.ends c.args.range.start (c.args.range.start + c.args.range.size)
    → ⊥ = λ met. (let found = c.is_met.ensures.1 met in let none = c.if-is_met.false in cc) in (
      false_from_ne_true _ (λ any. clear ((are.ends.met c.args.range (omega arith)).1 any)),
      record {
        ends = put_ends ranges c.args.self.now.ends are.ends c.args.range (omega arith) clear c.insert.new.self c.in_ok-insert.ensures.updates;
        marks = put_marks _ c.mark.new.self.words.items ranges c.args.range are.marks c.in_ok-mark.ensures;
      },
    )
