use Rattle.std.proofs.Common.{◌≡◌, ◌≤◌, ◌-◌, ◌/◌, ◌&&◌, ◌||◌, ℕ, nat_le, nat_lt}
use Rattle.elf_dynamic.specs.Marks.{is_marked}
use Rattle.elf_dynamic.proofs.marks.Marks.mark.Given as goal

-- the doublewords so far are in the set
abbrev pub invariant-loop-d : goal.invariant-loop-d
invariant-loop-d l = record {
  from : l.fn.span.start / 8 ≤ l.d;
  to : l.d ≤ l.limit;
  marks : (e : ℕ) → is_marked l.self.words.items e ≡ ((nat_le (l.fn.span.start / 8) e && nat_lt e l.d) || is_marked l.initial.self.words.items e);
}

abbrev pub decreases-loop-d : goal.decreases-loop-d
decreases-loop-d l = l.limit - l.d
