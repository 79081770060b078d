use Rattle.std.proofs.Common.{◌≡◌, map, take, length}
use Rattle.std.specs.List.{Contains}
use Rattle.std.specs.Vec.{vec_len}
use Rattle.hart_moves.specs.Starting.{starting_hart}
use Rattle.tls_blocks.specs.Blocks.{BlockTable}
use Rattle.world_threads.specs.Setting.{KeepsNone, hears}
use Rattle.world_threads.proofs.setting_up.runs_at.Given as goal

-- the harts so far
abbrev pub invariant-loop-seat : goal.invariant-loop-seat
invariant-loop-seat g l = record {
  keeper : l.keeper ≡ l.fn.keeper;
  long : vec_len l.runs ≡ length l.yielded;
  seats : map (λ r. r.seat) l.runs.items ≡ map (hears l.fn.keeper.events) l.yielded;
  harts : map (λ r. r.hart.hart) l.runs.items ≡ map (starting_hart l.fuel) (take (length l.yielded) l.entries);
  blocks : (b : BlockTable) → Contains (map (λ r. r.blocks) l.runs.items) b → KeepsNone b;
}
