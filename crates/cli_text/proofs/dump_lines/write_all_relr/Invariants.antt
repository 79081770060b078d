use Rattle.std.proofs.Common.{◌≡◌, ◌++◌, drop}
use Rattle.std.specs.List.{flat_map, enumerate_from}
use Rattle.std.specs.String.{string_bytes}
use Rattle.cli_text.specs.DumpLines.{relr_line}
use Rattle.cli_text.proofs.dump_lines.write_all_relr.Given as goal

-- what is written and the lines that are left are the lines of all
abbrev pub invariant-loop-number : goal.invariant-loop-number
invariant-loop-number l = string_bytes l.text ++ flat_map relr_line (enumerate_from l.number (drop l.number l.places)) ≡ string_bytes l.fn.text ++ flat_map relr_line (enumerate_from 0 l.places)
