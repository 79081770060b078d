-- The strings are short, since they stand in the object.
use Rattle.std.proofs.Common.{ap, ◌-◌, length, arith}
use Rattle.asm_write.specs.declared.part.Part.TheVariants as parts
use Rattle.asm_write.specs.Starts.{start_in, starts_of}
use Rattle.asm_write.specs.Values.{part_bytes}
use Rattle.asm_laws.specs.ElfRecords.Standing.{StandAt}
use Rattle.asm_laws.specs.ElfSpelled.Lemmas.Rows.{reaches}
use Rattle.asm_layout.specs.Contents.{contents_of, strings_of}
use Rattle.asm_layout.specs.Object.{code_of, object_of}
use Rattle.asm_accepted.proofs.AsmFields.Strings.{names_stand}
use Rattle.asm_accepted.proofs.asm_fields.law.names_stand_at_their_offsets.Goals as goal

pub returns : goal.returns
unfolding object_of contents_of part_bytes strings_of
returns c source bytes denotes =
    let lines = denotes.lines in
    let starts = starts_of (contents_of lines) in
    let (short, aligned, named) = c.sources_are_short.ensures source lines denotes.says in
    let whole = c.objects_are_whole.ensures source lines denotes.says denotes.object.faultless in
    let stand : StandAt (object_of lines) (start_in starts parts.Strings - start_in starts parts.Head) (strings_of lines)
    = c.parts_stand_at_their_starts.ensures (contents_of lines) (code_of lines starts) whole parts.Strings in
    let within = reaches (object_of lines) (strings_of lines) (start_in starts parts.Strings - start_in starts parts.Head) stand (omega arith) in
    let small = c.denoted_objects_are_small.ensures source bytes denotes in
    let long = ap length denotes.object.are in
    names_stand lines named (c.strings_are_said.ensures lines) (omega (arith, within, small, long))
