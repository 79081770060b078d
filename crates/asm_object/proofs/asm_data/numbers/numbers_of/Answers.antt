use Rattle.std.proofs.Common.{◌∙◌}
use Rattle.asm_object.proofs.asm_data.numbers.numbers_of.Goals as goal

pub of-fixer-requires-clause-indexes : goal.of-fixer-requires-clause-indexes
of-fixer-requires-clause-indexes c =
    let lines = c.args.statements.now in
    record {
      imports = c.requires.uses.imports;
      own = c.in_ok-own.ensures lines (c.as_slice-2.ensures ∙ c.in_ok-sorted.ensures lines (c.as_slice.ensures ∙ c.requires.uses.exports));
    }
