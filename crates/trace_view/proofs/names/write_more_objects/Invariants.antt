use Rattle.std.proofs.Common.{◌∷◌, take}
use Rattle.std.specs.List.{flat_map}
use Rattle.std.specs.Fmt.{HasWritten, IsPlainFormatter}
use Rattle.trace_view.specs.Names.{object_name}
use Rattle.trace_view.proofs.names.write_more_objects.Given as goal

-- the serials so far are written
abbrev pub invariant-loop-serial : goal.invariant-loop-serial
invariant-loop-serial g l =
    IsPlainFormatter l.initial.f → HasWritten g.W.Write.write_str_gives l.initial.f (flat_map (λ s. 44 ∷ 32 ∷ object_name l.members s) (take l.serial-index l.serials)) l.f
