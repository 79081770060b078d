use Rattle.std.proofs.Common.{◌≡◌, ◌++◌, take}
use Rattle.asm_write.specs.Values.{words}
use Rattle.asm_write.proofs.tables.append_words.Given as goal

abbrev pub invariant-loop-word : goal.invariant-loop-word
invariant-loop-word l = l.out.items ≡ l.initial.out.items ++ words (take l.word-index l.numbers)
