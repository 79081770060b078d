use Rattle.std.proofs.Common.{arith}
use Rattle.elf_dynamic.specs.Tables.{parts_in, strings_in}
use Rattle.elf_dynamic.proofs.Packed.{all_places}
use Rattle.elf_dynamic.proofs.reader.JudgedParts.into_parts.Goals as goal

pub returns : goal.returns
unfolding parts_in strings_in
returns c =
    let places = all_places c.self.inside.judged _ c.self.invariant.places (omega arith) in
    let read = c.self.invariant.read in
    let view = c.self.view_is in
    grind arith
