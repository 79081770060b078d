use Rattle.std.proofs.Common.{◌&&◌, eqb, List, ap, ◌∙◌}
use Rattle.std.specs.List.{list_any}
use Rattle.std.proofs.lemmas.Bool.Decides.{Decides-at}
use Rattle.history_event.specs.declared.state.Module.{Module}
use Rattle.history_state.specs.After.{after}
use Rattle.trace_rows.proofs.Stored.{gets_so}
use Rattle.trace_rows.proofs.Tests.{all_three}
use Rattle.trace_rows.proofs.rows.blocks.may_have_block.Goals as goal

pub returns : goal.returns
returns c = λ w past same x.
    Decides-at c.all.result ((c.is_none.result && c.has_module-is_there.result) && c.stands_at-stands.result)
    (c.all.ensures ∙ all_three c.is_none.result c.has_module-is_there.result c.stands_at-stands.result)
    (gets_so (after past) c.args.replay.now c.args.hart c.args.owner c.args.address c.in_ok-block.block c.is_none.result c.has_module-is_there.result c.stands_at-stands.result x.state
    (c.in_ok-block.ensures (after past) x.state) c.is_none.ensures
    (c.has_module-is_there.ensures ∙ ap (λ (ms : List Module). list_any (λ (m : Module). eqb m.serial c.args.owner) ms) (c.as_slice.ensures ∙ c.modules.ensures.modules)) c.stands_at-stands.ensures)
