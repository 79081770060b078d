use Rattle.std.proofs.Common.{◌≡◌, ◌-◌, ℕ, length, get_or}
use Rattle.elf_dynamic.proofs.marks.Marks.grow.Given as goal

-- the words read as before
abbrev pub invariant-loop-self : goal.invariant-loop-self
invariant-loop-self l = (k : ℕ) → get_or l.self.words.items k 0 ≡ get_or l.initial.self.words.items k 0

abbrev pub decreases-loop-self : goal.decreases-loop-self
decreases-loop-self l = l.len - length l.self.words.items
