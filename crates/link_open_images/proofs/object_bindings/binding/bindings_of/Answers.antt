use Rattle.std.proofs.Common.{◌≡◌, ℕ, ◌++◌, List, map, sym, ap, ◌∙◌}
use Rattle.std.specs.List.{range_with_len}
use Rattle.history_state.specs.Bound.{no_binding}
use Rattle.relocator.specs.declared.binding.Binding.{Binding}
use Rattle.scope_rule.specs.Relocation.{choice_at}
use Rattle.scope_rule.specs.Seen.{Seen}
use Rattle.link_open_images.specs.ObjectBindings.Bindings.{Copies, binding_in, bindings_in, copies_from, rela_binding}
use Rattle.link_open_images.proofs.ObjectBindings.Lists.{all_alike, can_read, slots_bound, slots_lazy}
use Rattle.link_open_images.proofs.object_bindings.binding.bindings_of.Goals.{then-binds_now+in_ok-push_bound, else-binds_now+in_ok-push_lazy}
use Rattle.link_open_images.proofs.object_bindings.binding.bindings_of.Goals as goal

pub push_relas-requires-clause-read : goal.push_relas-requires-clause-read
push_relas-requires-clause-read c = can_read c.args.indexed.now c.args.now c.args.made.now.places.now c.args.made.now.objects.now c.args.made.now.images.now c.requires.made

pub returns : goal.returns
unfolding bindings_in
returns c =
    let ns : Seen = c.args.indexed.now in
    let bytes : Copies = copies_from ns c.args.now c.args.made.now.places.now c.args.made.now.objects.now in
    let relas : List Binding = map (rela_binding bytes ns c.args.owner.now) c.args.owner.now.object.relocs in
    let first : c.push_relas.new.bindings ≡ relas = c.in_ok-push_relas.ensures c.args.now c.requires.made ∙ ap (λ (bs : List Binding). bs ++ relas) c.new-bindings.ensures in
    elim c.if-binds_now.branch [
      | then-binds_now+in_ok-push_bound w ↦
          w.bindings-is ∙ w.in_ok-push_bound.ensures
          ∙ ap (λ (bs : List Binding). bs ++ map (λ r. binding_in ns r (choice_at ns c.args.owner.now r)) c.args.owner.now.object.plt_relocs) first
          ∙ ap (λ (bs : List Binding). relas ++ bs) (slots_bound ns c.args.now c.args.owner.now (sym c.binds_now.ensures ∙ w.if-binds_now.true))
      | else-binds_now+in_ok-push_lazy w ↦
          w.bindings-is ∙ w.in_ok-push_lazy.ensures
          ∙ ap (λ (bs : List Binding). bs ++ map (λ k. no_binding) (range_with_len 0 w.len-else-binds_now.result)) first
          ∙ ap (λ (n : ℕ). relas ++ map (λ k. no_binding) (range_with_len 0 n)) w.len-else-binds_now.ensures
          ∙ ap (λ (bs : List Binding). relas ++ bs)
          (all_alike no_binding c.args.owner.now.object.plt_relocs 0 ∙ slots_lazy ns c.args.now c.args.owner.now (sym c.binds_now.ensures ∙ w.if-binds_now.false))
    ]
