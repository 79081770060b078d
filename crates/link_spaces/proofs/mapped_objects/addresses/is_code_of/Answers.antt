use Rattle.std.proofs.Common.{◌≡◌, true, false, eqb, Some, None, rules, sym, ◌∙◌}
use Rattle.history_state.specs.Addresses.{is_linkers_page}
use Rattle.link_spaces.proofs.MappedObjects.Choices.{code_of_linker, code_of_object}
use Rattle.link_spaces.proofs.MappedObjects.Finding.{found_accepted}
use Rattle.link_spaces.proofs.mapped_objects.addresses.is_code_of.Goals as goal

pub returns-then-number-eq0 : goal.returns-then-number-eq0
returns-then-number-eq0 c = λ s are.
    let is : eqb c.args.serial 0 ≡ true = search rules in
    let page : c.contains.result ≡ is_linkers_page c.args.address = search rules in
    page ∙ code_of_linker s c.args.serial c.args.address is

pub is_code_in-requires : goal.is_code_in-requires
is_code_in-requires c = found_accepted c.args.namespaces.now c.args.serial c.in-Some.object.now c.requires (sym c.in-Some.ensures)

pub returns-in-Some : goal.returns-in-Some
returns-in-Some c = λ s are.
    let isnt : eqb c.args.serial 0 ≡ false = search rules in
    c.is_code_in.ensures ∙ code_of_object s c.args.namespaces.now c.args.serial c.args.address (Some c.in-Some.object.now) isnt are c.in-Some.ensures

pub returns-in-None : goal.returns-in-None
returns-in-None c = λ s are.
    let isnt : eqb c.args.serial 0 ≡ false = search rules in
    code_of_object s c.args.namespaces.now c.args.serial c.args.address None isnt are c.in-None.ensures
