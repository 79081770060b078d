use Rattle.std.proofs.Common.{List, refl, sym, ap, ◌∙◌}
use Rattle.history_event.specs.declared.state.Module.{Module}
use Rattle.history_state.specs.After.{after}
use Rattle.tls_blocks.specs.Numbers.{module_at}
use Rattle.link_state.specs.Locating.{IsModuleOf}
use Rattle.link_state.specs.Table.{LinkTable}
use Rattle.link_state.proofs.Stored.{is_bad, is_kept}
use Rattle.link_state.proofs.state.LinkState.tls_block.Goals as goal

pub returns-in_default-clause-err : goal.returns-in_default-clause-err
returns-in_default-clause-err c =
    is_bad c.args.self.now c.args.self.now c.args.hart c.args.module
    (sym (c.in_default.ensures ∙ ap (λ (ms : List Module). module_at ms c.args.module) (c.self.invariant.memory.modules ∙ ap (λ (v : LinkTable). (after v.events).modules) c.self.view_is))) refl

pub returns-in-Ok-Some-clause-ok : goal.returns-in-Ok-Some-clause-ok
returns-in-Ok-Some-clause-ok c =
    let its : IsModuleOf (after c.args.self.now.events) c.args.module c.in-Some.found.serial = record {
      of = c.in-Some.found;
      there = sym (c.in-Some.ensures ∙ ap (λ (ms : List Module). module_at ms c.args.module) (c.self.invariant.memory.modules ∙ ap (λ (v : LinkTable). (after v.events).modules) c.self.view_is));
      is = refl;
    } in
    is_kept c.args.self.now (record { harts = c.self.inside.journal.harts; events = c.self.inside.journal.events; made = c.nothing.result }) c.args.hart c.args.module c.in-Some.found.serial c.in-Ok-Some.block
    its (sym c.in-Ok-Some.field-0-is ∙ c.in-Ok-Some.ensures) (ap (λ (v : LinkTable). v.events) c.self.view_is) (ap (λ (v : LinkTable). v.harts) c.self.view_is) c.nothing.ensures
