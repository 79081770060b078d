use Rattle.std.proofs.Common.{◌≡◌, ◌<◌, length, true, false, sym, ap, ◌∙◌, arith}
use Rattle.std.specs.Option.{option_map}
use Rattle.history_event.specs.declared.state.Module.{Module}
use Rattle.close_mark.specs.UnmapSteps.Touched.{is_of_set}
use Rattle.close_mark.proofs.UnmapSteps.Removed.{found_here, passed_by}
use Rattle.close_mark.proofs.unmap_steps.gone.number_of.Goals as goal

pub returns-then-has : goal.returns-then-has
returns-then-has c =
    let lt : c.loop-module.module-index < length c.args.modules.now = omega arith in
    let is : is_of_set c.args.set.now c.module-item.result ≡ true = sym c.has.ensures ∙ c.if-has.true in
    ap (option_map (λ (m : Module). m.number)) (sym (found_here c.args.set.now c.args.modules.now c.loop-module.module-index c.module-item.result lt c.module-item.is is c.loop-module.invariant))

pub loop-module-preserved : goal.loop-module-preserved
loop-module-preserved c =
    let lt : c.loop-module.module-index < length c.args.modules.now = omega arith in
    let is : is_of_set c.args.set.now c.module-item.result ≡ false = sym c.has.ensures ∙ c.if-has.false in
    passed_by c.args.set.now c.args.modules.now c.loop-module.module-index c.module-item.result lt c.module-item.is is c.loop-module.invariant
