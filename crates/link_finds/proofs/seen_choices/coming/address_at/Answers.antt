use Rattle.std.proofs.Common.{◌≡◌, true, false, eqb, [], Some, rules, refl, sym, ◌∙◌}
use Rattle.history_state.specs.Objects.{object_at}
use Rattle.history_state.specs.State.{empty_state}
use Rattle.link_finds.proofs.SeenChoices.Leading.{address_by, linkers_address}
use Rattle.link_finds.proofs.seen_choices.coming.address_at.Goals as goal

pub returns-then-number-eq0 : goal.returns-then-number-eq0
returns-then-number-eq0 c = λ s shows.
    let is : eqb c.args.serial 0 ≡ true = search rules in
    c.address_of.ensures (record empty_state { namespaces = [] }) refl ∙ linkers_address s (record empty_state { namespaces = [] }) c.args.serial c.args.index is

pub returns-in-Some : goal.returns-in-Some
returns-in-Some c = λ s shows.
    let isnt : eqb c.args.serial 0 ≡ false = search rules in
    let found : object_at s c.args.serial ≡ Some c.in-Some.object.now = shows c.args.serial c.in-Some.object.now (sym c.in-Some.ensures) in
    address_by s c.args.serial c.args.index c.definition_in.result c.in-Some.object.now isnt found c.definition_in.ensures
