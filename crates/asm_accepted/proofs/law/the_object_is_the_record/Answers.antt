-- What the contents of the source say, and that its names are strings, makes the record.
use Rattle.std.proofs.Common.{subst, refl, ℕ, List, arith}
use Rattle.ld_base.specs.declared.parts.Head.{Head}
use Rattle.elf_head.specs.DynTable.TagNumbers.{dt_verdef}
use Rattle.elf_dynamic.specs.Verdict.{SpellsDynamic}
use Rattle.asm_accepted.specs.ElfHashed.Hashes.{FitsTables}
use Rattle.elf_object.specs.Spells.{Spells}
use Rattle.elf_versions.specs.Verdict.{source_of}
use Rattle.asm_write.specs.declared.part.Part.TheVariants as parts
use Rattle.asm_write.specs.Starts.{starts_of}
use Rattle.asm_layout.specs.AsmDenotes.Denotes.{Denotes}
use Rattle.asm_layout.specs.Contents.{contents_of}
use Rattle.asm_layout.specs.Object.{code_of, object_of}
use Rattle.asm_accepted.specs.AsmRecord.Record.{record_of}
use Rattle.asm_accepted.proofs.Bounds.{verdefs_few}
use Rattle.asm_accepted.proofs.Fields.{one_object}
use Rattle.asm_accepted.proofs.Record.{fields}
use Rattle.asm_accepted.proofs.law.the_object_is_the_record.Goals as goal

pub returns : goal.returns
unfolding object_of contents_of
returns c source bytes denotes program object accepted =
    let lines = denotes.lines in
    let says = denotes.says in
    let faultless = denotes.object.faultless in
    let contents = contents_of lines in
    let code = code_of lines (starts_of contents) in
    let spells = subst (λ (b : List ℕ). Spells b program object) denotes.object.are accepted in
    let own : Denotes source (object_of lines) = record { lines = lines; says = says; object = record { faultless = faultless; fits = denotes.object.fits; are = refl } } in
    let whole = c.objects_are_whole.ensures source lines says faultless in
    let numbers = c.numbers_fit_their_fields.ensures source lines says faultless in
    let fits : FitsTables contents = record {
      tells = numbers.tells;
      listed = numbers.listed;
      slots = numbers.slots;
      symbols = numbers.symbols;
      hashes = c.hash_tables_fit.ensures source lines says;
      counts = c.hash_tables_count_symbols.ensures source lines says;
    } in
    let ascending = c.packed_places_ascend.ensures source lines says faultless in
    let of_contents = c.the_object_is_spelled.ensures contents code whole fits (c.versions_lead_on.ensures source bytes denotes) ascending program object spells in
    let own_head = c.the_head_is_spelled.ensures contents code whole spells.head spells.is_head in
    let own_parts = subst (λ (h : Head). SpellsDynamic (object_of lines) h program spells.parts) own_head spells.are_parts in
    let names = c.the_names_are_strings.ensures contents code whole fits program spells.parts own_parts in
    let head_is = c.the_head_is_said.ensures source (object_of lines) own spells.head spells.is_head in
    let few = verdefs_few (source_of (object_of lines) spells.head.headers spells.parts.tags dt_verdef) spells.parts.tags spells.versions.verdefs spells.are_versions.say.verdefs in
    let low = c.parts_end_low.ensures source lines says parts.GotPlt in
    one_object object (record_of lines)
    (fields lines (c.names_stand_at_their_offsets.ensures source bytes denotes) code spells.head spells.parts spells.versions object head_is spells.say of_contents.0 names
    faultless (c.sources_are_short.ensures source lines says).0.count (omega (arith, low)) few)
