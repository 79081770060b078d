use Rattle.std.proofs.Common.{◌≡◌, ◌+◌, ◌++◌, drop}
use Rattle.std.specs.List.{flat_map, enumerate_from}
use Rattle.std.specs.String.{string_bytes}
use Rattle.cli_text.specs.DumpLines.{symbol_line}
use Rattle.cli_text.proofs.dump_lines.write_symbols.Given as goal

-- what is written and the lines that are left are the lines of all
abbrev pub invariant-loop-place : goal.invariant-loop-place
invariant-loop-place l = string_bytes l.text ++ flat_map (symbol_line l.object) (enumerate_from (l.place + 1) (drop l.place l.symbols)) ≡ string_bytes l.fn.text ++ flat_map (symbol_line l.object) (enumerate_from 1 l.symbols)
