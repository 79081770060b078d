use Rattle.std.specs.Prelude.{◌≡◌, ◌+◌}
use Rattle.plain_world.specs.Stretches.{StretchesBy}
use Rattle.plain_world.proofs.stretch.take_instructions.Given as goal

-- so many instructions were taken, by which registers and turns alone have changed
abbrev pub invariant-loop-taken : goal.invariant-loop-taken
invariant-loop-taken l = record {
  stays : l.hart.hart ≡ record l.fn.hart.hart { registers = l.hart.hart.registers; turns = l.fn.hart.hart.turns + l.taken };
  takes : StretchesBy l.taken l.fn.memory l.memory l.fn.hart.hart l.hart.hart;
}
