use Rattle.std.proofs.Common.{refl}
use Rattle.asm_grammar.specs.Lines.{is_printed}
use Rattle.asm_grammar.specs.Operands.{parenthesised, address, base, of_registers, of_memory, instruction}
use Rattle.asm_grammar.specs.Directives.{is_flag, flags, versioned, need_of, need, sum, doubleword, quoted, alignment, named, directive}
use Rattle.asm_grammar.specs.Reading.{statement, read_statement, read_text, line_of, read_line}
use Rattle.asm_statement.specs.AsmWords.Text.{is_blank, is_mark}
use Rattle.asm_statement.specs.AsmWords.Names.{is_name_byte, may_begin, is_name}
use Rattle.asm_statement.specs.AsmWords.Number.{digit_below, number}
use Rattle.asm_statement.specs.AsmWords.Registers.{register}
use Rattle.asm_statement.specs.AsmWords.DirectiveWords.{directive_word}
use Rattle.asm_statement.specs.AsmWords.Mnemonics.{word_form, atomic_part, access, pointed_form, mnemonic}
use Rattle.asm_statement.specs.Alignments.{is_alignment}
use Rattle.asm_grammar.proofs.law.lines_are_read.Goals as goal

pub returns : goal.returns
unfolding is_printed parenthesised address base of_registers of_memory instruction is_flag flags versioned need_of need sum doubleword quoted alignment named directive statement read_statement read_text line_of read_line is_blank is_mark is_name_byte may_begin is_name digit_below number register directive_word word_form atomic_part access pointed_form mnemonic is_alignment
returns c = (refl, (refl, (refl, (refl, (refl, (refl, (refl, (refl, (refl, (refl, (refl, (refl, (refl, (refl, (refl, (refl, (refl, (refl, (refl, (refl, tt))))))))))))))))))))
