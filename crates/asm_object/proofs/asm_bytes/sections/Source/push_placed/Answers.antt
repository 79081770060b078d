use Rattle.std.proofs.Common.{◌≡◌, ◌++◌, ℕ, ◌<◌, List, length, ◌∙◌, sym, true, arith}
use Rattle.std.specs.Prelude.{OnOk}
use Rattle.asm_layout.specs.Places.{is_section}
use Rattle.asm_object.proofs.AsmBytes.Lines.{in_section, at_number, same_number}
use Rattle.asm_object.proofs.asm_bytes.sections.Source.push_placed.Goals as goal

pub returns-then-section_number : goal.returns-then-section_number
returns-then-section_number c = λ lines starts source there stands.
    let n = c.args.number in
    let line = c.args.line.now in
    let below : n < length lines = omega (arith, source.words.all, c.requires.words) in
    let here : is_section c.args.section c.args.place.section ≡ true =
    same_number _ _ (sym c.section_number.ensures.value ∙ c.if-section_number.true ∙ c.section_number-2.ensures.value) in
    in_section lines starts c.args.section n line c.args.place
    (λ (bytes : List ℕ). OnOk c.push_statement.result (c.push_statement.new.out.items ≡ c.args.out.now.items ++ bytes))
    stands here
    (c.push_statement.ensures lines starts n stands (source.words.each n _ below)
    (source.numbers.each n _ below ∙ at_number lines starts n line c.args.place there stands))
