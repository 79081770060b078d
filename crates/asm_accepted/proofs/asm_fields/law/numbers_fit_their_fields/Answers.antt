-- Table by table.
use Rattle.asm_write.specs.Starts.{starts_of}
use Rattle.asm_layout.specs.Contents.{contents_of}
use Rattle.asm_layout.specs.Uses.{slots}
use Rattle.asm_accepted.proofs.AsmFields.Relocs.{relocs_fit, slots_fit}
use Rattle.asm_accepted.proofs.AsmFields.Symbols.{symbols_fit}
use Rattle.asm_accepted.proofs.AsmFields.Told.{tells}
use Rattle.asm_accepted.proofs.asm_fields.law.numbers_fit_their_fields.Goals as goal

pub returns : goal.returns
unfolding contents_of
returns c source lines says faultless =
    let (short, aligned, named) = c.sources_are_short.ensures source lines says in
    let small = c.sections_are_small.ensures lines short in
    record {
      tells = tells lines short.count;
      listed = relocs_fit lines small short.count faultless (starts_of (contents_of lines));
      slots = slots_fit lines (slots lines);
      symbols = symbols_fit lines small;
    }
