use Rattle.std.proofs.Common.{◌≡◌, ◌++◌, take}
use Rattle.std.specs.List.{flat_map}
use Rattle.std.specs.String.{string_bytes}
use Rattle.cli_text.specs.Lines.{object_line}
use Rattle.cli_text.proofs.lines.write_objects.Given as goal

-- the lines of the objects so far are written
abbrev pub invariant-loop-object : goal.invariant-loop-object
invariant-loop-object l = string_bytes l.text ≡ string_bytes l.fn.text ++ flat_map object_line (take l.object-index l.objects)
