use Rattle.std.proofs.Common.{◌+◌, ◌*◌, ◌^◌, ◌≤◌, List, [], drop}
use Rattle.ld_base.specs.declared.object.Span.{Span}
use Rattle.elf_dynamic.specs.Judged.{IsJudged}
use Rattle.elf_dynamic.specs.Relr.{places_from, relr_places, relr_words}
use Rattle.elf_dynamic.proofs.Packed.{JudgedFront}
use Rattle.elf_dynamic.proofs.relr.judge_packed.Given as goal

-- the places of the words so far are kept
abbrev pub invariant-loop-index : goal.invariant-loop-index
invariant-loop-index l = record {
  kept : (ranges : List Span) → IsJudged l.headers ranges [] l.initial.judged
      → JudgedFront l.headers ranges (places_from l.next (drop l.index (relr_words l.packed))) (relr_places l.packed) l.judged;
  near : l.next ≤ 2 ^ 32 + 504 * l.index;
  few : l.judged.count ≤ 64 * l.index;
}
