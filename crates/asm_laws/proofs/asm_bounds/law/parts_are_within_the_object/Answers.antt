-- A part with bytes ends within the object.
use Rattle.std.proofs.Common.{ap, ◌-◌, ◌≤◌, length, arith, inl, inr}
use Rattle.std.proofs.lemmas.Bool.{cases_lt}
use Rattle.asm_write.specs.declared.part.Part.TheVariants as parts
use Rattle.asm_write.specs.Sizes.{plain_size}
use Rattle.asm_write.specs.Starts.{start_in, starts_of}
use Rattle.asm_write.specs.Values.{part_bytes}
use Rattle.asm_laws.specs.ElfSpelled.Lemmas.Rows.{reaches}
use Rattle.asm_layout.specs.Contents.{contents_of}
use Rattle.asm_layout.specs.Object.{code_of, object_of}
use Rattle.asm_laws.proofs.asm_bounds.law.parts_are_within_the_object.Goals as goal

pub returns : goal.returns
unfolding object_of
returns c source bytes denotes part own =
    let lines = denotes.lines in
    let contents = contents_of lines in
    let starts = starts_of contents in
    let code = code_of lines starts in
    let object = denotes.object in
    let whole = c.objects_are_whole.ensures source lines denotes.says object.faultless in
    let size = c.parts_have_their_sizes.ensures starts contents code whole.fits part own in
    let stand = c.parts_stand_at_their_starts.ensures contents code whole part in
    let small = c.denoted_objects_are_small.ensures source bytes denotes in
    let long = ap length object.are in
    elim (cases_lt 0 (plain_size contents part)) as (λ _. plain_size contents part ≤ 8_388_608) [
      | inl some ↦
          let within = reaches (object_of lines) (part_bytes starts contents code part) (start_in starts part - start_in starts parts.Head) stand (omega (arith, some, size)) in
          omega (arith, within, size, small, long)
      | inr none ↦ omega (arith, none)
    ]
