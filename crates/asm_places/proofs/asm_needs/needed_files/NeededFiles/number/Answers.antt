use Rattle.std.proofs.Common.{◌∙◌, ap, List, ℕ}
use Rattle.std.specs.Prelude.{position}
use Rattle.std.specs.Str.{bytes_eq}
use Rattle.asm_places.proofs.AsmNeeds.Numbers.{number_found, number_nowhere}
use Rattle.asm_places.proofs.asm_needs.needed_files.NeededFiles.number.Goals as goal

pub returns-in-Some-clause-value : goal.returns-in-Some-clause-value
returns-in-Some-clause-value c = λ lines are.
    let file = c.args.file.now in
    c.number_in.ensures.value lines are
    ∙ number_found lines file c.args.version.now c.in-Some.at (c.in-Some.ensures ∙ ap (λ (names : List (List ℕ)). position (bytes_eq file) names) are.names)

pub returns-in-None-clause-value : goal.returns-in-None-clause-value
returns-in-None-clause-value c = λ lines are.
    let file = c.args.file.now in
    number_nowhere lines file c.args.version.now (c.in-None.ensures ∙ ap (λ (names : List (List ℕ)). position (bytes_eq file) names) are.names)
