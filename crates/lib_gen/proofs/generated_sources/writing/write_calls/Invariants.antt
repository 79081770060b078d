use Rattle.std.proofs.Common.{◌≡◌, ◌++◌, ◌+◌, ◌%◌}
use Rattle.std.specs.List.{flat_map, range_with_len}
use Rattle.std.specs.String.{string_bytes}
use Rattle.lib_gen.specs.GeneratedSources.Sources.{call_lines}
use Rattle.lib_gen.proofs.generated_sources.writing.write_calls.Given as goal

-- the calls so far are written
abbrev pub invariant-loop-place : goal.invariant-loop-place
invariant-loop-place l = string_bytes l.text ≡ string_bytes l.fn.text ++ flat_map (λ place. call_lines l.functions ((place + l.number) % l.calls)) (range_with_len 0 l.place)
