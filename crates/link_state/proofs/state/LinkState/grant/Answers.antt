use Rattle.std.proofs.Common.{sym, subst}
use Rattle.history_event.specs.declared.hart_end.HartEnd.TheVariants as ends
use Rattle.history_state.specs.After.{after}
use Rattle.history_state.specs.Slots.{HasNoGrant}
use Rattle.link_finds.specs.SlotChoosing.Choosing.{IsFaultOf}
use Rattle.link_finds.specs.declared.slot_choosing.choosing.SlotFault.TheVariants as slots
use Rattle.link_state.specs.Granting.{EndsUnchanged}
use Rattle.link_state.specs.Table.{LinkTable}
use Rattle.link_state.proofs.Granted.{gives_no_slot, gives_unloaded}
use Rattle.link_state.proofs.state.LinkState.grant.Goals as goal

pub grant_choice-requires-clause-free : goal.grant_choice-requires-clause-free
grant_choice-requires-clause-free c = subst (λ (v : LinkTable). HasNoGrant (after v.events) c.args.hart) (sym c.chosen.ensures.same) c.requires.free

pub returns-in-Err-Unloaded-clause-err : goal.returns-in-Err-Unloaded-clause-err
returns-in-Err-Unloaded-clause-err c =
    let fault : IsFaultOf (after c.args.self.now.events) c.new-serial.result c.args.eights slots.Unloaded =
    subst (IsFaultOf (after c.args.self.now.events) c.new-serial.result c.args.eights) c.in-Err-Unloaded.field-0-is c.in-Err-Unloaded.ensures.err in
    subst (λ (v : LinkTable). EndsUnchanged c.args.self.now c.args.hart c.args.owner c.args.eights (ends.Unloaded c.args.owner) v) (sym c.chosen.ensures.same)
    (gives_unloaded c.args.self.now c.args.hart c.args.owner c.args.eights (subst (λ n. IsFaultOf (after c.args.self.now.events) n c.args.eights slots.Unloaded) c.new-serial.ensures fault))

pub returns-in-Err-NoSlot-clause-err : goal.returns-in-Err-NoSlot-clause-err
returns-in-Err-NoSlot-clause-err c =
    let fault : IsFaultOf (after c.args.self.now.events) c.new-serial.result c.args.eights slots.NoSlot =
    subst (IsFaultOf (after c.args.self.now.events) c.new-serial.result c.args.eights) c.in-Err-NoSlot.field-0-is c.in-Err-NoSlot.ensures.err in
    subst (λ (v : LinkTable). EndsUnchanged c.args.self.now c.args.hart c.args.owner c.args.eights (ends.NoSlot c.new-serial.result c.args.eights) v) (sym c.chosen.ensures.same)
    (subst (λ n. EndsUnchanged c.args.self.now c.args.hart c.args.owner c.args.eights (ends.NoSlot n c.args.eights) c.args.self.now) (sym c.new-serial.ensures)
    (gives_no_slot c.args.self.now c.args.hart c.args.owner c.args.eights (subst (λ n. IsFaultOf (after c.args.self.now.events) n c.args.eights slots.NoSlot) c.new-serial.ensures fault)))
