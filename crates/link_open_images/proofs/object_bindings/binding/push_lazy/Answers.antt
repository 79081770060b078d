use Rattle.std.proofs.Common.{◌≡◌, ℕ, Bool, List, ◌++◌, map, None, sym, ap, ◌∙◌, zero-add}
use Rattle.ld_base.specs.declared.linking.Choice.TheVariants.{Missing}
use Rattle.std.specs.List.{range_with_len}
use Rattle.std.proofs.lemmas.List.FromFn.{map-range_with_len_more}
use Rattle.history_state.specs.Bound.{no_binding}
use Rattle.relocator.specs.declared.binding.Binding.{Binding}
use Rattle.link_open_images.proofs.ObjectBindings.Lists.{one_behind}
use Rattle.link_open_images.proofs.object_bindings.binding.push_lazy.Goals as goal

pub loop-preserved : goal.loop-preserved
loop-preserved c =
    let f : ℕ → Binding = λ k. no_binding in
    let last : record { bound = Bool.false; choice = Missing; value = 0; size = 0; object = None; copied = c.new.result } ≡ no_binding =
    ap (λ (bs : List ℕ). record { bound = Bool.false; choice = Missing; value = 0; size = 0; object = None; copied = bs }) c.new.ensures in
    one_behind c.loop.bindings c.args.bindings.now (map f (range_with_len 0 c.loop.counter)) c.push.new.self _ no_binding c.in_ok-push.ensures.ok c.loop.invariant last
    ∙ ap (λ (bs : List Binding). c.args.bindings.now ++ bs) (sym (map-range_with_len_more f 0 c.loop.counter c.loop.counter (zero-add c.loop.counter)))
