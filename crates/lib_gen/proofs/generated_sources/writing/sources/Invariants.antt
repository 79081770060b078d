use Rattle.std.proofs.Common.{◌≡◌, map}
use Rattle.std.specs.List.{range_with_len}
use Rattle.lib_gen.specs.GeneratedSources.Sources.{library_file}
use Rattle.lib_gen.proofs.generated_sources.writing.sources.Given as goal

-- the libraries so far are there
abbrev pub invariant-loop-index : goal.invariant-loop-index
invariant-loop-index l = l.files ≡ map (library_file l.number) (range_with_len 0 l.index)
