use Rattle.std.proofs.Common.{sym}
use Rattle.asm_statement.proofs.AsmWords.Numbered.{is_register}
use Rattle.asm_statement.proofs.asm_words.registers.register.Goals as goal

pub new-requires : goal.new-requires
new-requires c = is_register c.args.word.now c.in_ok-number.number (sym c.in_ok-number.ensures)
