-- Table by table, section by section.
use Rattle.std.proofs.Common.{◌∙◌, ◌++◌, List, ap}
use Rattle.asm_write.specs.declared.contents.Fix.{Fix}
use Rattle.asm_write.specs.declared.part.Part.TheVariants as parts
use Rattle.asm_statement.specs.declared.directive.Array.TheVariants as arrays
use Rattle.asm_statement.specs.declared.directive.Section.TheVariants as sections
use Rattle.asm_layout.specs.declared.uses.GotUse.{GotUse}
use Rattle.asm_layout.specs.Fixes.{got_fixes, array_fixes, section_fixes, fixes_of}
use Rattle.asm_layout.specs.Tables.{entries}
use Rattle.asm_layout.specs.Uses.{got_uses}
use Rattle.asm_contents.proofs.AsmFixes.Joined.{regroup, on_ok}
use Rattle.asm_contents.proofs.asm_fixes.fixes.fill_fixes.Goals as goal

pub returns : goal.returns
unfolding fixes_of
returns c =
    let lines = c.args.statements.now in
    let is = c.requires in
    let old = c.args.fixes.now in
    let got = got_fixes lines 0 (got_uses lines) in
    let preinit = array_fixes lines parts.PreinitArray 0 (entries arrays.Preinit lines) in
    let init = array_fixes lines parts.InitArray 0 (entries arrays.Init lines) in
    let fini = array_fixes lines parts.FiniArray 0 (entries arrays.Fini lines) in
    let relro = section_fixes lines sections.Relro 0 lines in
    let tdata = section_fixes lines sections.Tdata 0 lines in
    let written = section_fixes lines sections.Data 0 lines in
    let bss = section_fixes lines sections.Bss 0 lines in
    let one = c.in_ok-push_gots.ensures lines is ∙ ap (λ (uses : List GotUse). old ++ got_fixes lines 0 uses) (c.as_slice.ensures ∙ is.spots.uses.got.each) in
    let two = c.in_ok-push_array.ensures is ∙ ap (λ (front : List Fix). front ++ preinit) one in
    let three = c.in_ok-push_array-2.ensures is ∙ ap (λ (front : List Fix). front ++ init) two in
    let four = c.in_ok-push_array-3.ensures is ∙ ap (λ (front : List Fix). front ++ fini) three in
    let five = c.in_ok-push_section.ensures is ∙ ap (λ (front : List Fix). front ++ relro) four in
    let six = c.in_ok-push_section-2.ensures is ∙ ap (λ (front : List Fix). front ++ tdata) five in
    let seven = c.in_ok-push_section-3.ensures is ∙ ap (λ (front : List Fix). front ++ written) six in
    on_ok c.push_section-4.result c.push_section-4.ensures (λ last.
    last is ∙ ap (λ (front : List Fix). front ++ bss) seven ∙ regroup old got preinit init fini relro tdata written bss)
