use Rattle.std.proofs.Common.{◌≡◌, ◌++◌}
use Rattle.std.specs.List.{flat_map, range_with_len}
use Rattle.std.specs.String.{string_bytes}
use Rattle.lib_gen.specs.GeneratedSources.Sources.{function_lines}
use Rattle.lib_gen.proofs.generated_sources.writing.write_functions.Given as goal

-- the functions so far are written
abbrev pub invariant-loop-function : goal.invariant-loop-function
invariant-loop-function l = string_bytes l.text ≡ string_bytes l.fn.text ++ flat_map (function_lines l.index) (range_with_len 0 l.function-counter)
