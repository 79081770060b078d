use Rattle.std.proofs.Common.{◌≡◌, ◌++◌, take}
use Rattle.std.specs.Prelude.{flat_map}
use Rattle.asm_object.specs.AsmBytes.Words.{word_bytes}
use Rattle.asm_object.proofs.asm_bytes.plt.push_words.Given as goal

-- the words so far are appended
abbrev pub invariant-loop-word : goal.invariant-loop-word
invariant-loop-word l = l.out.items ≡ l.initial.out.items ++ flat_map word_bytes (take l.word-index l.words)
