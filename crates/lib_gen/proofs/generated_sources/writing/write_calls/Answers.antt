use Rattle.std.specs.String.{string_bytes}
use Rattle.lib_gen.proofs.GeneratedSources.Ranges.{calls_more}
use Rattle.lib_gen.proofs.generated_sources.writing.write_calls.Goals as goal

pub loop-place-preserved : goal.loop-place-preserved
loop-place-preserved c =
    calls_more c.args.functions c.args.number c.args.calls (string_bytes c.args.text.now) (string_bytes c.loop-place.text) (string_bytes c.write.new.self) c.loop-place.place c.loop-place.invariant c.in_ok-write.ensures.bytes
