use Rattle.std.proofs.Common.{◌≡◌, ap, subst, ◌∙◌}
use Rattle.std.specs.Prelude.{IfErr, IfOk}
use Rattle.ld_base.specs.declared.linking.Loaded.{Loaded}
use Rattle.history_state.specs.After.{after}
use Rattle.history_state.specs.Areas.{free_pages}
use Rattle.history_state.specs.Accepted.{IsAccepted}
use Rattle.history_state.specs.State.{State}
use Rattle.history_journal.specs.Following.{machine_of}
use Rattle.link_open_images.specs.NewBlocks.Placing.{IsBlockFault, IsNewBlock}
use Rattle.link_state.specs.Locating.{PlansBlock, PlansNone}
use Rattle.link_state.specs.Table.{LinkTable}
use Rattle.link_state.proofs.Stored.{accepted_at, if_err, if_ok, object_is, plan_is, plan_none}
use Rattle.link_state.proofs.state.LinkState.plan_block.Goals as goal

pub new_block-requires-clause-align : goal.new_block-requires-clause-align
new_block-requires-clause-align c =
    let s : State = after c.self.inside.journal.events in
    let o : Loaded = c.in-Some.object.now in
    let at = object_is s c.as_slice.result.now c.args.serial o (c.as_slice.ensures.value ∙ c.self.invariant.running.spaces) c.in-Some.ensures in
    let accepted : IsAccepted o.object = accepted_at s c.args.serial o at (λ ns is_in.
    let read = c.objects_are_read.ensures.mapped (machine_of c.self.inside.journal.harts) c.self.inside.journal.events c.journal.ensures.lawful ns o is_in in
    c.accepted_object.ensures.read read.bytes read.program o.object o.table read.is) in
    (accepted.storage c.in-Some-tls.segment c.in-Some-tls.is).align

pub new_block-requires-clause-memory : goal.new_block-requires-clause-memory
new_block-requires-clause-memory c =
    let s : State = after c.self.inside.journal.events in
    let o : Loaded = c.in-Some.object.now in
    let at = object_is s c.as_slice.result.now c.args.serial o (c.as_slice.ensures.value ∙ c.self.invariant.running.spaces) c.in-Some.ensures in
    let accepted : IsAccepted o.object = accepted_at s c.args.serial o at (λ ns is_in.
    let read = c.objects_are_read.ensures.mapped (machine_of c.self.inside.journal.harts) c.self.inside.journal.events c.journal.ensures.lawful ns o is_in in
    c.accepted_object.ensures.read read.bytes read.program o.object o.table read.is) in
    (accepted.storage c.in-Some-tls.segment c.in-Some-tls.is).memory

pub returns-clause-ok : goal.returns-clause-ok
returns-clause-ok c =
    let s : State = after c.self.inside.journal.events in
    let o : Loaded = c.in-Some.object.now in
    let at = object_is s c.as_slice.result.now c.args.serial o (c.as_slice.ensures.value ∙ c.self.invariant.running.spaces) c.in-Some.ensures in
    let free : c.regions.result.now ≡ free_pages s.ranges = c.regions.ensures ∙ ap free_pages c.self.invariant.memory.ranges in
    subst (λ (v : LinkTable). IfOk c.new_block.result (PlansBlock (after v.events) c.args.serial)) c.self.view_is
    (if_ok c.new_block.result (IsNewBlock c.regions.result.now c.in-Some-tls.segment c.as_slice-2.result.now) (PlansBlock s c.args.serial)
    (λ b is. plan_is s c.args.serial o c.in-Some-tls.segment c.self.inside.parts.parts c.in-Some-find.part.now c.regions.result.now c.as_slice-2.result.now b at c.in-Some-tls.is
    (c.images_are_found.ensures (machine_of c.self.inside.journal.harts) c.self.inside.journal.events c.journal.ensures.lawful) c.self.invariant.memory.parts c.in-Some-find.ensures free c.as_slice-2.ensures is)
    c.new_block.ensures.ok)

pub returns-clause-err : goal.returns-clause-err
returns-clause-err c =
    let s : State = after c.self.inside.journal.events in
    let o : Loaded = c.in-Some.object.now in
    let at = object_is s c.as_slice.result.now c.args.serial o (c.as_slice.ensures.value ∙ c.self.invariant.running.spaces) c.in-Some.ensures in
    let free : c.regions.result.now ≡ free_pages s.ranges = c.regions.ensures ∙ ap free_pages c.self.invariant.memory.ranges in
    subst (λ (v : LinkTable). IfErr c.new_block.result (PlansNone (after v.events) c.args.serial)) c.self.view_is
    (if_err c.new_block.result (IsBlockFault c.regions.result.now c.in-Some-tls.segment) (PlansNone s c.args.serial)
    (λ e is. plan_none s c.args.serial o c.in-Some-tls.segment c.regions.result.now e at c.in-Some-tls.is
    (c.images_are_found.ensures (machine_of c.self.inside.journal.harts) c.self.inside.journal.events c.journal.ensures.lawful) free is)
    c.new_block.ensures.err)
