use Rattle.std.proofs.Common.{◌≡◌, ℕ, ◌+◌, ◌%◌, ◌^◌, List, [], ◌∷◌, ◌++◌, refl, sym, ap, subst, ◌∙◌}
use Rattle.std.specs.Prelude.{IsSome}
use Rattle.history_journal.specs.Following.{MayFollow, machine_of}
use Rattle.history_event.specs.declared.event.Event.{Event}
use Rattle.history_event.specs.declared.event.Event.TheVariants.{Sym, Tls}
use Rattle.history_event.specs.declared.event.Purpose.TheVariants as purposes
use Rattle.history_event.specs.declared.event.Range.{Range}
use Rattle.history_event.specs.declared.event.SymAnswer.TheVariants.{Found}
use Rattle.history_state.specs.After.{after}
use Rattle.history_state.specs.Legal.{Lawful}
use Rattle.history_state.specs.Lemmas.History.{after_push}
use Rattle.history_state.specs.Lookup.{MayAnswer, MayHaveBlock}
use Rattle.history_state.specs.Step.{add_block, step}
use Rattle.history_state.specs.Storage.{module_of}
use Rattle.link_search.specs.Finding.{IsSymFault}
use Rattle.link_search.specs.declared.finding.SymFault.{SymFault}
use Rattle.link_state.specs.Inside.{lists_of}
use Rattle.link_state.specs.Locating.{PlansBlock}
use Rattle.link_state.specs.Table.{LinkTable}
use Rattle.link_holds.specs.Lemmas.Held.{follows, holds_after}
use Rattle.link_state.proofs.Looked.{found_first, no_block_there, once_had, stored}
use Rattle.link_state.proofs.Stored.{block_made, free_there, may_have, range_is}
use Rattle.link_holds.specs.Lemmas.Stored.{all_blocked, all_roomier_closings}
use Rattle.link_state.proofs.state.LinkState.find_in_new_block.Goals as goal

pub returns-in-Err-clause-refused : goal.returns-in-Err-clause-refused
returns-in-Err-clause-refused c =
    let lawful : Lawful (machine_of c.args.self.now.harts) c.args.self.now.events = subst (λ (v : LinkTable). Lawful (machine_of v.harts) v.events) c.self.view_is c.journal.ensures.lawful in
    let some : IsSome (module_of (after c.args.self.now.events) c.args.serial) =
    stored c.symbols_are_stored.ensures c.args.self.now.harts (c.accepted_object.ensures.machine (machine_of c.args.self.now.harts) refl) c.args.self.now.events lawful c.args.ask c.args.serial c.args.index
    c.args.offset c.requires.finds in
    subst (λ (f : SymFault). IsSymFault (after c.args.self.now.events) c.args.hart c.args.ask f) (sym c.sym_fault.ensures)
    (no_block_there (after c.args.self.now.events) c.args.hart c.args.ask c.args.serial c.args.index c.args.offset c.in-Err.fault c.requires.finds some c.requires.none c.in-Err.ensures.err)

pub store_block-requires-clause-free : goal.store_block-requires-clause-free
store_block-requires-clause-free c =
    free_there (after c.args.self.now.events) c.args.serial c.in-Ok.block c.self.inside.reserved.ranges c.in-Ok.ensures.ok
    (c.self.invariant.memory.ranges ∙ ap (λ (v : LinkTable). (after v.events).ranges) c.self.view_is)

pub store_block-requires-clause-may : goal.store_block-requires-clause-may
store_block-requires-clause-may c =
    let lawful : Lawful (machine_of c.args.self.now.harts) c.args.self.now.events = subst (λ (v : LinkTable). Lawful (machine_of v.harts) v.events) c.self.view_is c.journal.ensures.lawful in
    let only = c.accepted_object.ensures.machine (machine_of c.args.self.now.harts) refl in
    let some : IsSome (module_of (after c.args.self.now.events) c.args.serial) =
    stored c.symbols_are_stored.ensures c.args.self.now.harts only c.args.self.now.events lawful c.args.ask c.args.serial c.args.index c.args.offset c.requires.finds in
    let address : ℕ = c.in-Ok.block.address in
    let e : Event = Tls c.args.hart c.args.serial address in
    let may : MayHaveBlock (after c.args.self.now.events) c.args.hart c.args.serial address =
    may_have (after c.args.self.now.events) c.args.hart c.args.serial c.in-Ok.block c.in-Ok.ensures.ok some c.requires.none in
    subst (λ (v : LinkTable). MayFollow v.harts v.events e) (sym c.self.view_is) (follows c.args.self.now.harts c.args.self.now.events e may)

pub push-requires-clause-may : goal.push-requires-clause-may
push-requires-clause-may c =
    let lawful : Lawful (machine_of c.args.self.now.harts) c.args.self.now.events = subst (λ (v : LinkTable). Lawful (machine_of v.harts) v.events) c.self.view_is c.journal.ensures.lawful in
    let only = c.accepted_object.ensures.machine (machine_of c.args.self.now.harts) refl in
    let some : IsSome (module_of (after c.args.self.now.events) c.args.serial) =
    stored c.symbols_are_stored.ensures c.args.self.now.harts only c.args.self.now.events lawful c.args.ask c.args.serial c.args.index c.args.offset c.requires.finds in
    let address : ℕ = c.in-Ok.block.address in
    let e : Event = Tls c.args.hart c.args.serial address in
    let may : MayHaveBlock (after c.args.self.now.events) c.args.hart c.args.serial address =
    may_have (after c.args.self.now.events) c.args.hart c.args.serial c.in-Ok.block c.in-Ok.ensures.ok some c.requires.none in
    let value : ℕ = (address + c.args.offset) % 2 ^ 64 in
    let first : c.store_block.new.journal.events ≡ c.args.self.now.events ++ e ∷ [] = c.in_ok-store_block.ensures.events ∙ ap (λ (v : LinkTable). v.events ++ e ∷ []) c.self.view_is in
    let then : MayAnswer (after c.store_block.new.journal.events) c.args.hart c.args.ask (Found c.args.serial c.args.index value) =
    once_had c.harts_have_new_blocks.ensures c.args.self.now.events c.store_block.new.journal.events c.args.hart c.args.ask c.args.serial c.args.index c.args.offset address value c.requires.finds may
    first (ap after first ∙ after_push c.args.self.now.events e) refl in
    subst (λ (x : Event). MayFollow c.store_block.new.journal.harts c.store_block.new.journal.events x) (sym c.found_event.ensures)
    (follows c.store_block.new.journal.harts c.store_block.new.journal.events (Sym c.args.hart c.args.ask (Found c.args.serial c.args.index value)) then)

pub invariant_of-self : goal.invariant_of-self
invariant_of-self c =
    holds_after (after c.self.inside.journal.events) (after c.store_block.new.journal.events)
    (record (lists_of c.self.inside) { reserved = c.store_block.new.reserved; blocks = c.store_block.new.blocks; closings = c.store_block.new.closings }) (ap after c.in_err-store_block.ensures.no_event)
    (all_roomier_closings (after c.self.inside.journal.events) (lists_of c.self.inside) c.store_block.new.reserved c.store_block.new.blocks c.store_block.new.closings c.self.invariant
    c.in_err-store_block.ensures.no_range c.in_err-store_block.ensures.no_block c.store_block.ensures.closings)

pub invariant_of-self-2 : goal.invariant_of-self-2
invariant_of-self-2 c =
    let plan : PlansBlock (after c.self.inside.journal.events) c.args.serial c.in-Ok.block =
    subst (λ (v : LinkTable). PlansBlock (after v.events) c.args.serial c.in-Ok.block) (sym c.self.view_is) c.in-Ok.ensures.ok in
    let r : Range = record { address = c.in-Ok.block.start; pages = c.in-Ok.block.pages; purpose = purposes.Block c.args.hart c.args.serial } in
    let e : Event = Tls c.args.hart c.args.serial c.in-Ok.block.address in
    let same : after c.push.new.self.events ≡ after c.store_block.new.journal.events = c.push.ensures.state ∙ ap (λ (x : Event). step (after c.store_block.new.journal.events) x) c.found_event.ensures in
    holds_after (add_block c.args.hart c.args.serial c.in-Ok.block.address (after c.self.inside.journal.events)) (after c.push.new.self.events)
    (record (lists_of c.self.inside) { reserved = c.store_block.new.reserved; blocks = c.store_block.new.blocks; closings = c.store_block.new.closings })
    (same ∙ ap after c.in_ok-store_block.ensures.events ∙ after_push c.self.inside.journal.events e)
    (all_blocked (after c.self.inside.journal.events) c.args.hart c.args.serial c.in-Ok.block.address r (lists_of c.self.inside) c.store_block.new.reserved c.store_block.new.blocks
    c.store_block.new.closings c.self.invariant (range_is (after c.self.inside.journal.events) c.args.hart c.args.serial c.in-Ok.block plan)
    c.in_ok-store_block.ensures.ranges c.in_ok-store_block.ensures.blocks c.in_ok-store_block.ensures.closing_room)

pub returns-clause-ok : goal.returns-clause-ok
returns-clause-ok c =
    let lawful : Lawful (machine_of c.args.self.now.harts) c.args.self.now.events = subst (λ (v : LinkTable). Lawful (machine_of v.harts) v.events) c.self.view_is c.journal.ensures.lawful in
    let only = c.accepted_object.ensures.machine (machine_of c.args.self.now.harts) refl in
    let some : IsSome (module_of (after c.args.self.now.events) c.args.serial) =
    stored c.symbols_are_stored.ensures c.args.self.now.harts only c.args.self.now.events lawful c.args.ask c.args.serial c.args.index c.args.offset c.requires.finds in
    let address : ℕ = c.in-Ok.block.address in
    let e : Event = Tls c.args.hart c.args.serial address in
    let may : MayHaveBlock (after c.args.self.now.events) c.args.hart c.args.serial address =
    may_have (after c.args.self.now.events) c.args.hart c.args.serial c.in-Ok.block c.in-Ok.ensures.ok some c.requires.none in
    let value : ℕ = (address + c.args.offset) % 2 ^ 64 in
    let first : c.store_block.new.journal.events ≡ c.args.self.now.events ++ e ∷ [] = c.in_ok-store_block.ensures.events ∙ ap (λ (v : LinkTable). v.events ++ e ∷ []) c.self.view_is in
    let then : MayAnswer (after c.store_block.new.journal.events) c.args.hart c.args.ask (Found c.args.serial c.args.index value) =
    once_had c.harts_have_new_blocks.ensures c.args.self.now.events c.store_block.new.journal.events c.args.hart c.args.ask c.args.serial c.args.index c.args.offset address value c.requires.finds may
    first (ap after first ∙ after_push c.args.self.now.events e) refl in
    let same : after c.push.new.self.events ≡ after c.store_block.new.journal.events = c.push.ensures.state ∙ ap (λ (x : Event). step (after c.store_block.new.journal.events) x) c.found_event.ensures in
    found_first c.args.self.now (record { harts = c.push.new.self.harts; events = c.push.new.self.events; made = c.in-Ok.block.installs }) c.args.hart c.args.ask c.args.serial c.args.index c.args.offset
    address value c.store_block.new.journal.events c.requires.finds may
    (subst (λ (es : List Event). MayAnswer (after es) c.args.hart c.args.ask (Found c.args.serial c.args.index value)) first then) first
    (c.push.ensures.events ∙ ap (λ (x : Event). c.store_block.new.journal.events ++ x ∷ []) c.found_event.ensures) same
    (c.push.ensures.harts ∙ c.store_block.ensures.harts ∙ ap (λ (v : LinkTable). v.harts) c.self.view_is)
    (block_made c.new_blocks_are_installed.ensures c.args.self.now.harts only c.args.self.now.events c.args.hart c.args.serial c.in-Ok.block lawful c.requires.hart c.in-Ok.ensures.ok some c.requires.none)
