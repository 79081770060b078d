use Rattle.std.proofs.Common.{◌≡◌, ◌++◌}
use Rattle.std.specs.Prelude.{flat_map}
use Rattle.std.specs.List.{range_with_len}
use Rattle.asm_object.specs.AsmBytes.Words.{slot_code}
use Rattle.asm_object.proofs.asm_bytes.plt.push_slots.Given as goal

-- the slots so far are appended
abbrev pub invariant-loop-slot : goal.invariant-loop-slot
invariant-loop-slot l = l.out.items ≡ l.initial.out.items ++ flat_map (slot_code l.plt l.got_plt) (range_with_len 0 l.slot)
