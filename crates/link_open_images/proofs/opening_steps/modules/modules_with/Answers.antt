use Rattle.std.proofs.Common.{◌≡◌, ◌<◌, ◌+◌, List, ◌∷◌, drop, length, sym, ap, ◌∙◌, arith}
use Rattle.std.proofs.lemmas.List.{drop_more}
use Rattle.ld_base.specs.declared.linking.Loaded.{Loaded}
use Rattle.history_state.specs.Storage.{with_modules}
use Rattle.link_open_images.specs.OpeningSteps.Steps.{statics_of}
use Rattle.link_open_images.proofs.OpeningSteps.Placed.{generation_more, have_more, statics_more}
use Rattle.link_open_images.proofs.opening_steps.modules.modules_with.Goals as goal

pub add_module-requires-clause-storage : goal.add_module-requires-clause-storage
add_module-requires-clause-storage c = λ seg is.
    let lt : c.loop-object.object-index < length c.args.added.now = omega arith in
    c.requires.storage c.object-item.result seg (c.loop-object.object-index, lt, sym c.object-item.is) is

pub loop-object-preserved : goal.loop-object-preserved
loop-object-preserved c =
    let lt : c.loop-object.object-index < length c.args.added.now = omega arith in
    let o : Loaded = c.object-item.result in
    let rest : List Loaded = drop (c.loop-object.object-index + 1) c.args.added.now in
    let left : List Loaded = drop c.loop-object.object-index c.args.added.now in
    let are : drop c.loop-object.object-index c.args.added.now ≡ c.object-item.result ∷ drop (c.loop-object.object-index + 1) c.args.added.now =
    drop_more c.args.added.now c.loop-object.object-index c.object-item.result lt ∙ ap (λ (x : Loaded). x ∷ rest) (sym c.object-item.is) in
    record {
      have = have_more c.args.startup o left rest c.loop-object.all c.add_module.new.modules are c.loop-object.invariant.have c.in_ok-add_module.ensures.modules c.in_ok-add_module.ensures.statics;
      modules = ap (with_modules rest) c.in_ok-add_module.ensures.modules ∙ ap (λ (os : List Loaded). with_modules os c.loop-object.all.modules) (sym are) ∙ c.loop-object.invariant.modules;
      statics = statics_more c.args.startup o left rest (statics_of c.loop-object.all) (statics_of c.add_module.new.modules) are c.in_ok-add_module.ensures.statics ∙ c.loop-object.invariant.statics;
      generation = generation_more o left rest c.loop-object.all.generation c.add_module.new.modules.generation _ are c.in_ok-add_module.ensures.generation c.loop-object.invariant.generation;
    }
