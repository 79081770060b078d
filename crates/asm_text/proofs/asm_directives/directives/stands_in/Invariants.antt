use Rattle.std.proofs.Common.{◌≡◌, length, map}
use Rattle.asm_grammar.specs.Directives.{stands_in}
use Rattle.asm_text.proofs.asm_directives.directives.stands_in.Given as goal

-- the words that are left decide
abbrev pub invariant-loop-words : goal.invariant-loop-words
invariant-loop-words l = stands_in (map (λ other. other.now) l.words) l.word ≡ stands_in (map (λ other. other.now) l.fn.words) l.word

abbrev pub decreases-loop-words : goal.decreases-loop-words
decreases-loop-words l = length l.words
