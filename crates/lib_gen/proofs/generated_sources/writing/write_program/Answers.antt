use Rattle.std.proofs.Common.{◌≡◌, ℕ, List, ◌++◌, ◌+◌, ◌*◌, ◌%◌, ap, ◌∙◌}
use Rattle.std.specs.List.{flat_map, range_with_len}
use Rattle.std.specs.String.{string_bytes}
use Rattle.lib_gen.specs.GeneratedSources.Shape.{call_count, function_count, library_count}
use Rattle.lib_gen.specs.GeneratedSources.Sources.{call_lines, calls_from, exit_lines, first_lines, program_source}
use Rattle.lib_gen.proofs.GeneratedSources.Joined.{on_ok, three}
use Rattle.lib_gen.proofs.generated_sources.writing.write_program.Goals as goal

-- the calls, by the counts that the number gives
calls_are : (number same libraries functions : ℕ) → same ≡ number → libraries ≡ library_count number → functions ≡ function_count number
    → flat_map (λ place. call_lines functions ((place + same) % (libraries * functions))) (range_with_len 0 (libraries * functions))
    ≡ calls_from (function_count number) number (call_count number)
calls_are number same libraries functions n l f =
    ap (λ (k : ℕ). flat_map (λ place. call_lines functions ((place + k) % (libraries * functions))) (range_with_len 0 (libraries * functions))) n
    ∙ ap (λ (k : ℕ). flat_map (λ place. call_lines functions ((place + number) % (k * functions))) (range_with_len 0 (k * functions))) l
    ∙ ap (λ (k : ℕ). flat_map (λ place. call_lines k ((place + number) % (library_count number * k))) (range_with_len 0 (library_count number * k))) f

pub returns : goal.returns
unfolding program_source
returns c = on_ok c.write-2.result c.write-2.ensures.bytes (λ last.
    three (string_bytes c.args.text.now) (string_bytes c.write.new.self) (string_bytes c.write_calls.new.text) (string_bytes c.write-2.new.self)
    first_lines (calls_from (function_count c.args.number) c.args.number (call_count c.args.number)) exit_lines
    c.in_ok-write.ensures.bytes
    (c.in_ok-write_calls.ensures ∙ ap (λ (t : List ℕ). string_bytes c.write.new.self ++ t)
    (calls_are c.args.number c.from.result c.library_count.result c.function_count-functions.result c.from.ensures c.library_count.ensures.is c.function_count-functions.ensures.is))
    last)
