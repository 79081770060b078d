use Rattle.std.proofs.Common.{◌≡◌, ◌∙◌, sym, length, None, arith}
use Rattle.elf_dynamic.specs.Rules.{bad_table}
use Rattle.elf_dynamic.proofs.Reading.{few_symbols}
use Rattle.elf_dynamic.proofs.reader.read_counted.Goals as goal

pub overflow_cast-result : goal.overflow_cast-result
overflow_cast-result c =
    let none : bad_table c.args.head.now.headers c.args.tags.now c.in_ok-words.words c.symbol_count-count.result
    ≡ None = rw c.as_slice-3.ensures at (sym c.bad_table.ensures ∙ c.in_default.is) in
    let few = few_symbols (length c.args.bytes.now) c.args.head.now.headers c.args.tags.now c.in_ok-words.words c.symbol_count-count.result
    (c.accepted_head.ensures.segments c.args.bytes.now c.args.head.now c.requires) none in
    omega (arith, few)
