use Rattle.std.proofs.Common.{◌≡◌, [], ◌∷◌, ◌++◌, refl, sym, ap, subst, ◌∙◌}
use Rattle.history_journal.specs.Following.{MayFollow, machine_of}
use Rattle.history_event.specs.declared.event.Event.{Event}
use Rattle.history_event.specs.declared.event.Event.TheVariants.{Tls}
use Rattle.history_event.specs.declared.event.Purpose.TheVariants as purposes
use Rattle.history_event.specs.declared.event.Range.{Range}
use Rattle.history_state.specs.After.{after}
use Rattle.history_state.specs.Legal.{Lawful}
use Rattle.history_state.specs.Lemmas.History.{after_push}
use Rattle.history_state.specs.Lookup.{MayHaveBlock}
use Rattle.history_state.specs.Step.{add_block}
use Rattle.link_state.specs.Inside.{lists_of}
use Rattle.link_state.specs.Locating.{IsNotLocated, PlansBlock}
use Rattle.link_state.specs.Table.{LinkTable}
use Rattle.link_state.specs.TlsFaults.{tls_fault}
use Rattle.link_state.specs.declared.faults.TlsFault.{TlsFault}
use Rattle.link_open_images.specs.declared.new_blocks.placing.BlockFault.{BlockFault}
use Rattle.link_holds.specs.Lemmas.Held.{follows, holds_after}
use Rattle.link_state.proofs.Stored.{block_made, free_there, has_module, if_err_and, is_got, may_have, not_got, range_is}
use Rattle.link_holds.specs.Lemmas.Stored.{all_blocked, all_roomier_closings}
use Rattle.link_state.proofs.state.LinkState.get_block.Goals as goal

pub returns-in_err-block-clause-err : goal.returns-in_err-block-clause-err
returns-in_err-block-clause-err c =
    let e : BlockFault = c.in_err-block.field-0.0 in
    if_err_and c.from_residual.result (λ (f : TlsFault). f ≡ tls_fault e) (λ (f : TlsFault). IsNotLocated c.args.self.now c.args.hart c.args.module f c.args.self.now) c.from_residual.ensures.1
    (λ f is. subst (λ (x : TlsFault). IsNotLocated c.args.self.now c.args.hart c.args.module x c.args.self.now) (sym is)
    (not_got c.args.self.now c.args.self.now c.args.hart c.args.module c.args.serial e c.requires.there c.requires.none c.in_err-block.ensures.err refl))

pub store_block-requires-clause-free : goal.store_block-requires-clause-free
store_block-requires-clause-free c =
    free_there (after c.args.self.now.events) c.args.serial c.in_ok-block.block c.self.inside.reserved.ranges c.in_ok-block.ensures.ok
    (c.self.invariant.memory.ranges ∙ ap (λ (v : LinkTable). (after v.events).ranges) c.self.view_is)

pub store_block-requires-clause-may : goal.store_block-requires-clause-may
store_block-requires-clause-may c =
    let e : Event = Tls c.args.hart c.args.serial c.in_ok-block.block.address in
    subst (λ (v : LinkTable). MayFollow v.harts v.events e) (sym c.self.view_is)
    (follows c.args.self.now.harts c.args.self.now.events e
    (may_have (after c.args.self.now.events) c.args.hart c.args.serial c.in_ok-block.block c.in_ok-block.ensures.ok (has_module (after c.args.self.now.events) c.args.module c.args.serial c.requires.there) c.requires.none))

pub invariant_of-self : goal.invariant_of-self
invariant_of-self c =
    holds_after (after c.self.inside.journal.events) (after c.store_block.new.journal.events)
    (record (lists_of c.self.inside) { reserved = c.store_block.new.reserved; blocks = c.store_block.new.blocks; closings = c.store_block.new.closings }) (ap after c.in_err-store_block.ensures.no_event)
    (all_roomier_closings (after c.self.inside.journal.events) (lists_of c.self.inside) c.store_block.new.reserved c.store_block.new.blocks c.store_block.new.closings c.self.invariant
    c.in_err-store_block.ensures.no_range c.in_err-store_block.ensures.no_block c.store_block.ensures.closings)

pub invariant_of-self-2 : goal.invariant_of-self-2
invariant_of-self-2 c =
    let plan : PlansBlock (after c.self.inside.journal.events) c.args.serial c.in_ok-block.block =
    subst (λ (v : LinkTable). PlansBlock (after v.events) c.args.serial c.in_ok-block.block) (sym c.self.view_is) c.in_ok-block.ensures.ok in
    let r : Range = record { address = c.in_ok-block.block.start; pages = c.in_ok-block.block.pages; purpose = purposes.Block c.args.hart c.args.serial } in
    let e : Event = Tls c.args.hart c.args.serial c.in_ok-block.block.address in
    holds_after (add_block c.args.hart c.args.serial c.in_ok-block.block.address (after c.self.inside.journal.events)) (after c.store_block.new.journal.events)
    (record (lists_of c.self.inside) { reserved = c.store_block.new.reserved; blocks = c.store_block.new.blocks; closings = c.store_block.new.closings })
    (ap after c.in_ok-store_block.ensures.events ∙ after_push c.self.inside.journal.events e)
    (all_blocked (after c.self.inside.journal.events) c.args.hart c.args.serial c.in_ok-block.block.address r (lists_of c.self.inside) c.store_block.new.reserved c.store_block.new.blocks
    c.store_block.new.closings c.self.invariant (range_is (after c.self.inside.journal.events) c.args.hart c.args.serial c.in_ok-block.block plan)
    c.in_ok-store_block.ensures.ranges c.in_ok-store_block.ensures.blocks c.in_ok-store_block.ensures.closing_room)

pub returns-clause-ok : goal.returns-clause-ok
returns-clause-ok c =
    let e : Event = Tls c.args.hart c.args.serial c.in_ok-block.block.address in
    let some = has_module (after c.args.self.now.events) c.args.module c.args.serial c.requires.there in
    let may : MayHaveBlock (after c.args.self.now.events) c.args.hart c.args.serial c.in_ok-block.block.address =
    may_have (after c.args.self.now.events) c.args.hart c.args.serial c.in_ok-block.block c.in_ok-block.ensures.ok some c.requires.none in
    let lawful : Lawful (machine_of c.args.self.now.harts) c.args.self.now.events = subst (λ (v : LinkTable). Lawful (machine_of v.harts) v.events) c.self.view_is c.journal.ensures.lawful in
    let events : c.store_block.new.journal.events ≡ c.args.self.now.events ++ e ∷ [] = c.in_ok-store_block.ensures.events ∙ ap (λ (v : LinkTable). v.events ++ e ∷ []) c.self.view_is in
    is_got c.args.self.now (record { harts = c.store_block.new.journal.harts; events = c.store_block.new.journal.events; made = c.in_ok-block.block.installs }) c.args.hart c.args.module c.args.serial c.in_ok-block.block.address
    c.in_ok-block.block.installs c.requires.there may events (c.store_block.ensures.harts ∙ ap (λ (v : LinkTable). v.harts) c.self.view_is)
    (block_made c.new_blocks_are_installed.ensures c.args.self.now.harts (c.accepted_object.ensures.machine (machine_of c.args.self.now.harts) refl) c.args.self.now.events c.args.hart c.args.serial
    c.in_ok-block.block lawful c.requires.hart c.in_ok-block.ensures.ok some c.requires.none)
    refl (ap after events ∙ after_push c.args.self.now.events e) c.harts_have_new_blocks.ensures
