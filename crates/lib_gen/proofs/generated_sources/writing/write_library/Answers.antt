use Rattle.std.proofs.Common.{◌+◌, ◌*◌}
use Rattle.std.specs.List.{flat_map, range_with_len}
use Rattle.std.specs.String.{string_bytes}
use Rattle.lib_gen.specs.GeneratedSources.Sources.{function_lines, last_lines, library_source, name_line, needed_line}
use Rattle.lib_gen.proofs.GeneratedSources.Joined.{five, on_ok}
use Rattle.lib_gen.proofs.generated_sources.writing.write_library.Goals as goal

pub returns : goal.returns
unfolding library_source
returns c = on_ok c.write-2.result c.write-2.ensures.bytes (λ last.
    five (string_bytes c.args.text.now) (string_bytes c.write.new.self) (string_bytes c.write_needed.new.text) (string_bytes c.write_needed-2.new.text) (string_bytes c.write_functions.new.text) (string_bytes c.write-2.new.self)
    (name_line c.args.index) (needed_line c.args.libraries (2 * c.args.index + 1)) (needed_line c.args.libraries (2 * c.args.index + 2))
    (flat_map (function_lines c.args.index) (range_with_len 0 c.args.functions)) (last_lines c.args.index)
    c.in_ok-write.ensures.bytes c.in_ok-write_needed.ensures c.in_ok-write_needed-2.ensures c.in_ok-write_functions.ensures last)
