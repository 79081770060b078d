use Rattle.std.proofs.Common.{◌≡◌, ◌∷◌, ◌++◌, take}
use Rattle.std.specs.Fmt.{decimal}
use Rattle.std.specs.List.{flat_map}
use Rattle.std.specs.String.{string_bytes}
use Rattle.trace_text.proofs.lists.write_more_serials.Given as goal

-- the serials so far are written
abbrev pub invariant-loop-serial : goal.invariant-loop-serial
invariant-loop-serial l = string_bytes l.text ≡ string_bytes l.fn.text ++ flat_map (λ s. 44 ∷ decimal s) (take l.serial-index l.serials)
