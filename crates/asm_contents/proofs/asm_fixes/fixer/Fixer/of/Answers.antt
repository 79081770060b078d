use Rattle.std.proofs.Common.{◌≡◌, ◌∙◌, ap, ℕ, ◌+◌, ◌%◌}
use Rattle.asm_write.specs.declared.contents.Sections.{Sections}
use Rattle.asm_statement.specs.declared.directive.Section.TheVariants as sections
use Rattle.asm_layout.specs.Names.{is_executable}
use Rattle.asm_layout.specs.Places.{filled, padding}
use Rattle.asm_layout.specs.Spots.{section_align, sections_of}
use Rattle.asm_contents.proofs.asm_fixes.fixer.Fixer.of.Goals as goal

pub returns : goal.returns
unfolding sections_of
returns c =
    let lines = c.args.statements.now in
    let size : c.args.sections.now.relro.size ≡ filled sections.Relro lines = ap (λ (all : Sections). all.relro.size) c.requires.sections in
    let align : c.args.sections.now.tdata.align ≡ section_align lines sections.Tdata = ap (λ (all : Sections). all.tdata.align) c.requires.sections in
    let behind = c.from-2.ensures ∙ c.padding.ensures ∙ ap (λ (n : ℕ). padding n c.args.sections.now.tdata.align) size ∙ ap (padding (filled sections.Relro lines)) align in
    record {
      spots = c.requires.spots;
      indexes = c.requires.indexes;
      executable = c.is_executable.ensures ∙ ap is_executable c.kind_of.ensures;
      relr = c.is_relr.ensures;
      phase = ap (λ (n : ℕ). (n + c.from-2.result) % 8) (c.from.ensures ∙ size) ∙ ap (λ (n : ℕ). (filled sections.Relro lines + n) % 8) behind;
    }
