-- The offsets that are still to come stand behind those that are there.
use Rattle.std.proofs.Common.{◌≡◌, ◌++◌, drop}
use Rattle.std.specs.Prelude.{filter_map}
use Rattle.asm_layout.specs.Contents.{offsets_from}
use Rattle.asm_layout.specs.Tables.{library_needed}
use Rattle.asm_contents.proofs.strings.push_offsets.Given as goal

abbrev pub invariant-loop-line : goal.invariant-loop-line
invariant-loop-line l =
    l.offsets ++ offsets_from l.at (filter_map (λ line. library_needed line.statement) (drop l.line-index l.line-items))
    ≡ l.initial.offsets ++ offsets_from l.first (filter_map (λ line. library_needed line.statement) l.line-items)
