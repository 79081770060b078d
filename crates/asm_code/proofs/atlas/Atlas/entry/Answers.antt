use Rattle.std.proofs.Common.{ℕ, Some, ◌+◌, ◌*◌, ◌∙◌, ap}
use Rattle.std.specs.Prelude.{Option, option_map}
use Rattle.asm_layout.specs.declared.uses.GotUse.{GotUse}
use Rattle.asm_code.proofs.Names.{entry_found}
use Rattle.asm_code.proofs.atlas.Atlas.entry.Goals as goal

pub returns-in-Some-clause-value : goal.returns-in-Some-clause-value
returns-in-Some-clause-value c = λ lines is.
    let got = c.args.self.bases.now.got in
    let it : GotUse = record { kind = c.args.kind; name = c.args.name.now } in
    ap Some c.word_address.ensures.value
    ∙ ap (λ (o : Option ℕ). option_map (λ word. got + 8 * word) o) (c.in-Some.ensures ∙ is.uses.got.numbers it)
    ∙ entry_found lines it got is.bases.got

pub returns-in-None-clause-value : goal.returns-in-None-clause-value
returns-in-None-clause-value c = λ lines is.
    let got = c.args.self.bases.now.got in
    let it : GotUse = record { kind = c.args.kind; name = c.args.name.now } in
    ap (λ (o : Option ℕ). option_map (λ word. got + 8 * word) o) (c.in-None.ensures ∙ is.uses.got.numbers it)
    ∙ entry_found lines it got is.bases.got
