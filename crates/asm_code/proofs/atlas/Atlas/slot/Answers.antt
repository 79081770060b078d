use Rattle.std.proofs.Common.{ℕ, Some, ◌+◌, ◌*◌, ◌∙◌, ap}
use Rattle.std.specs.Prelude.{Option, option_map}
use Rattle.asm_code.proofs.Names.{slot_found}
use Rattle.asm_code.proofs.atlas.Atlas.slot.Goals as goal

pub returns-in-Some-clause-value : goal.returns-in-Some-clause-value
returns-in-Some-clause-value c = λ lines is.
    let plt = c.args.self.bases.now.plt in
    ap Some c.slot_entry.ensures.value
    ∙ ap (λ (o : Option ℕ). option_map (λ slot. plt + 32 + 16 * slot) o) c.in-Some.ensures
    ∙ slot_found lines c.args.name.now c.args.self.uses.now.slots plt is.uses.slots is.bases.plt

pub returns-in-None-clause-value : goal.returns-in-None-clause-value
returns-in-None-clause-value c = λ lines is.
    let plt = c.args.self.bases.now.plt in
    ap (λ (o : Option ℕ). option_map (λ slot. plt + 32 + 16 * slot) o) c.in-None.ensures
    ∙ slot_found lines c.args.name.now c.args.self.uses.now.slots plt is.uses.slots is.bases.plt
