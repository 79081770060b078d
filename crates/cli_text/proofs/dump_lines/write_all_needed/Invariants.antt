use Rattle.std.proofs.Common.{◌≡◌, ◌++◌, take}
use Rattle.std.specs.List.{flat_map}
use Rattle.std.specs.String.{string_bytes}
use Rattle.cli_text.specs.DumpLines.{needed_line}
use Rattle.cli_text.proofs.dump_lines.write_all_needed.Given as goal

-- the lines of the names so far are written
abbrev pub invariant-loop-name : goal.invariant-loop-name
invariant-loop-name l = string_bytes l.text ≡ string_bytes l.fn.text ++ flat_map needed_line (take l.name-index l.names)
