use Rattle.std.proofs.Common.{◌≡◌, ℕ, ◌<◌, None}
use Rattle.asm_layout.specs.Faults.{fault_at}
use Rattle.asm_code.specs.Code.{AreWordsTo}
use Rattle.asm_code.proofs.words.line_words.Given as goal

-- the words of the lines so far, none of which is refused
abbrev pub invariant-loop-number : goal.invariant-loop-number
invariant-loop-number l = record {
  words : AreWordsTo l.line-items l.number l.words;
  accepted : (k : ℕ) → k < l.number → fault_at l.line-items k ≡ None;
}
