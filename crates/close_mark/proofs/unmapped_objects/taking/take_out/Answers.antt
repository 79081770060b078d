use Rattle.std.proofs.Common.{◌≡◌, ◌++◌, ℕ, List, map, take, drop, length, rules, ap, ◌∙◌}
use Rattle.std.specs.List.{filter}
use Rattle.std.proofs.lemmas.Fn.{filter_same}
use Rattle.history_state.specs.Step.{gone_in, is_left}
use Rattle.close_mark.proofs.UnmappedObjects.Written.{written_back}
use Rattle.close_mark.proofs.unmapped_objects.taking.take_out.Goals as goal

pub returns-clause-namespaces : goal.returns-clause-namespaces
returns-clause-namespaces c =
    let gone : take c.args.namespaces.now.len (c.take_all.new.namespaces ++ drop (length c.take_all.new.namespaces) c.args.namespaces.now.items) ≡ map (gone_in c.args.set.now) c.args.namespaces.now.items =
    written_back (gone_in c.args.set.now) c.args.namespaces.now.items c.as_mut_slice.result.now c.take_all.new.namespaces c.args.namespaces.now.len c.as_mut_slice.ensures.value c.as_mut_slice.ensures.len
    (c.take_all.ensures.namespaces ∙ ap (λ (ds : List ℕ). map (gone_in ds) c.as_mut_slice.result.now) c.new-set.ensures) in
    filter_same _ is_left _ (λ x b f' k. search rules) _ _ c.retain.ensures.filtered ∙ ap (filter is_left) gone
