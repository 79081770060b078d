use Rattle.std.proofs.Common.{◌≡◌, ◌&&◌, Bool, true, false, not, eqb, [], Some, rules, refl, sym, ap, ◌∙◌}
use Rattle.ld_base.specs.declared.linking.Loaded.{Loaded}
use Rattle.history_state.specs.Lemmas.Lists.{found_in}
use Rattle.history_state.specs.Objects.{object_at}
use Rattle.history_state.specs.State.{empty_state}
use Rattle.scope_rule.specs.Seen.{seen}
use Rattle.link_finds.proofs.SeenChoices.Leading.{of_linker, of_object}
use Rattle.link_finds.proofs.seen_choices.coming.enters_code.Goals as goal

pub returns-then-number-eq0 : goal.returns-then-number-eq0
returns-then-number-eq0 c = λ s shows.
    let is : eqb c.args.serial 0 ≡ true = search rules in
    c.leads_to_code.ensures (record empty_state { namespaces = [] }) refl ∙ of_linker s (record empty_state { namespaces = [] }) c.args.lazy c.args.serial c.args.index is

pub is_code_in-requires : goal.is_code_in-requires
is_code_in-requires c =
    c.requires.accepted c.in-Some.object.now
    (found_in (λ (o : Loaded). eqb o.serial c.args.serial) (seen c.args.view.now).objects c.in-Some.object.now (sym c.in-Some.ensures)).0

pub returns-then-is_code_in : goal.returns-then-is_code_in
returns-then-is_code_in c = λ s shows.
    let isnt : eqb c.args.serial 0 ≡ false = search rules in
    let found : object_at s c.args.serial ≡ Some c.in-Some.object.now = shows c.args.serial c.in-Some.object.now (sym c.in-Some.ensures) in
    sym (ap (λ (b : Bool). b && not (eqb c.definition_in-address.result c.args.lazy)) c.if-is_code_in.true)
    ∙ of_object s c.args.lazy c.args.serial c.args.index c.definition_in-address.result c.in-Some.object.now c.is_code_in.result isnt found c.definition_in-address.ensures c.is_code_in.ensures

pub returns-else-is_code_in : goal.returns-else-is_code_in
returns-else-is_code_in c = λ s shows.
    let isnt : eqb c.args.serial 0 ≡ false = search rules in
    let found : object_at s c.args.serial ≡ Some c.in-Some.object.now = shows c.args.serial c.in-Some.object.now (sym c.in-Some.ensures) in
    c.if-is_code_in.false
    ∙ sym (ap (λ (b : Bool). b && not (eqb c.definition_in-address.result c.args.lazy)) c.if-is_code_in.false)
    ∙ of_object s c.args.lazy c.args.serial c.args.index c.definition_in-address.result c.in-Some.object.now c.is_code_in.result isnt found c.definition_in-address.ensures c.is_code_in.ensures
