-- The steps that are left add what is missing.
use Rattle.std.proofs.Common.{◌≡◌, ◌-◌}
use Rattle.std.specs.Prelude.{None}
use Rattle.asm_write.specs.Packing.{left}
use Rattle.asm_write.specs.Relr.{words_within}
use Rattle.asm_write.proofs.relr.relr_words.Given as goal

abbrev pub invariant-loop-step : goal.invariant-loop-step
invariant-loop-step l = left (l._step-end - l._step) l.packing ≡ words_within l._step-end None l.places
