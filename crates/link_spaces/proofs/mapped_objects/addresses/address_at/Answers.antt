use Rattle.std.proofs.Common.{◌≡◌, ◌+◌, ◌*◌, true, false, eqb, Some, None, rules, ap, ◌∙◌}
use Rattle.link_spaces.proofs.MappedObjects.Choices.{of_linker, of_object}
use Rattle.link_spaces.proofs.mapped_objects.addresses.address_at.Goals as goal

pub returns-then-number-eq0 : goal.returns-then-number-eq0
returns-then-number-eq0 c = λ s are.
    let is : eqb c.args.serial 0 ≡ true = search rules in
    ap (λ n. 0x80f000 + 16 * n) c.from.ensures ∙ of_linker s c.args.serial c.args.index is

pub returns-in-Some : goal.returns-in-Some
returns-in-Some c = λ s are.
    let isnt : eqb c.args.serial 0 ≡ false = search rules in
    c.definition_in.ensures ∙ of_object s c.args.namespaces.now c.args.serial c.args.index (Some c.in-Some.object.now) isnt are c.in-Some.ensures

pub returns-in-None : goal.returns-in-None
returns-in-None c = λ s are.
    let isnt : eqb c.args.serial 0 ≡ false = search rules in
    of_object s c.args.namespaces.now c.args.serial c.args.index None isnt are c.in-None.ensures
