use Rattle.std.proofs.Common.{◌++◌, ◌+◌, ◌-◌, ◌*◌, ◌≤◌, ℕ, List, map}
use Rattle.ld_base.specs.declared.object.Span.{Span}
use Rattle.elf_dynamic.specs.Judged.{IsJudged}
use Rattle.elf_dynamic.specs.Relr.{bits_of}
use Rattle.elf_dynamic.proofs.Packed.{bits_from, JudgedFront}
use Rattle.elf_dynamic.proofs.relr.Judged.admit_bits.Given as goal

-- the places of the bits before this one are kept
abbrev pub invariant-loop-bit : goal.invariant-loop-bit
invariant-loop-bit l = record {
  kept : (ranges : List Span) (places : List ℕ) → IsJudged l.headers ranges places l.initial.self
      → JudgedFront l.headers ranges (bits_from l.word l.next l.bit) (places ++ map (λ i. l.next + 8 * (i - 1)) (bits_of l.word)) l.self;
  few : l.self.count + 1 ≤ l.initial.self.count + l.bit;
}
