use Rattle.std.proofs.Common.{refl}
use Rattle.asm_statement.proofs.asm_words.law.each_word_once.Goals as goal

pub returns-clause-registers : goal.returns-clause-registers
returns-clause-registers c = refl

pub returns-clause-directives : goal.returns-clause-directives
returns-clause-directives c = refl

pub returns-clause-mnemonics : goal.returns-clause-mnemonics
returns-clause-mnemonics c = refl

pub returns-clause-atomics : goal.returns-clause-atomics
returns-clause-atomics c = refl

pub returns-clause-accesses : goal.returns-clause-accesses
returns-clause-accesses c = refl

pub returns-clause-fence_sets : goal.returns-clause-fence_sets
returns-clause-fence_sets c = refl

pub returns-clause-kinds : goal.returns-clause-kinds
returns-clause-kinds c = refl

pub returns-clause-hashes : goal.returns-clause-hashes
returns-clause-hashes c = refl
