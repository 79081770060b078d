use Rattle.std.proofs.Common.{◌≡◌, rules, sym, ◌∙◌}
use Rattle.history_event.specs.declared.event.Event.TheVariants.{Unresolved}
use Rattle.history_state.specs.After.{after}
use Rattle.link_state.specs.Table.{appended}
use Rattle.link_state.proofs.Granted.{may_not, missing, not_missing}
use Rattle.link_holds.specs.Lemmas.Held.{follows}
use Rattle.link_state.proofs.state.LinkState.grant_choice.Goals as goal

pub note_unresolved-requires : goal.note_unresolved-requires
note_unresolved-requires c =
    follows c.args.self.now.harts c.args.self.now.events (Unresolved c.args.hart c.args.owner c.args.chosen.now.slot c.args.chosen.now.choice)
    (may_not (after c.args.self.now.events) c.args.hart c.args.owner c.args.eights c.args.chosen.now c.requires.free c.requires.chosen c.if-chosen.false)

pub returns-then-is_missing-clause-err : goal.returns-then-is_missing-clause-err
returns-then-is_missing-clause-err c =
    let is : c.note_unresolved.new.self ≡ appended c.args.self.now (Unresolved c.args.hart c.args.owner c.args.chosen.now.slot c.args.chosen.now.choice) = search rules in
    missing c.args.self.now c.note_unresolved.new.self c.args.hart c.args.owner c.args.eights c.args.chosen.now c.requires.free c.requires.chosen c.if-chosen.false
    (sym c.is_missing.ensures ∙ c.if-is_missing.true) is

pub returns-else-is_missing-clause-err : goal.returns-else-is_missing-clause-err
returns-else-is_missing-clause-err c =
    let is : c.note_unresolved.new.self ≡ appended c.args.self.now (Unresolved c.args.hart c.args.owner c.args.chosen.now.slot c.args.chosen.now.choice) = search rules in
    not_missing c.args.self.now c.note_unresolved.new.self c.args.hart c.args.owner c.args.eights c.args.chosen.now c.requires.free c.requires.chosen c.if-chosen.false
    (sym c.is_missing.ensures ∙ c.if-is_missing.false) is
