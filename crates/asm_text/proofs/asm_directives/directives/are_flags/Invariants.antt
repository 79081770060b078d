use Rattle.std.proofs.Common.{◌≡◌, length, map}
use Rattle.std.specs.List.{list_all}
use Rattle.asm_grammar.specs.Directives.{is_flag}
use Rattle.asm_text.proofs.asm_directives.directives.are_flags.Given as goal

-- the words that are left decide
abbrev pub invariant-loop-words : goal.invariant-loop-words
invariant-loop-words l = list_all is_flag (map (λ other. other.now) l.words) ≡ list_all is_flag (map (λ other. other.now) l.fn.words)

abbrev pub decreases-loop-words : goal.decreases-loop-words
decreases-loop-words l = length l.words
