use Rattle.std.proofs.Common.{◌≡◌, ◌+◌, ◌<◌, ◌++◌, List, drop, get_or, length, suc, add-one, sym, ap, ◌∙◌, arith}
use Rattle.std.proofs.Math.ListN.{set}
use Rattle.std.specs.List.{count_by, filter}
use Rattle.std.proofs.lemmas.List.Edits.{map_over_more}
use Rattle.history_state.specs.Step.{gone_in}
use Rattle.scope_rule.specs.declared.namespace.Namespace.{Namespace}
use Rattle.close_mark.specs.UnmappedObjects.Taken.{goes}
use Rattle.close_mark.proofs.UnmappedObjects.Parting.{count_parts, gone_more, here, objects_of}
use Rattle.close_mark.proofs.unmapped_objects.taking.take_all.Goals as goal

pub take_from-requires : goal.take_from-requires
take_from-requires c =
    let lt : c.loop-namespace.namespace-index < length c.args.namespaces.now = omega arith in
    let same : get_or c.loop-namespace.namespaces c.loop-namespace.namespace-index c.namespace-item.result ≡ get_or c.args.namespaces.now c.loop-namespace.namespace-index c.namespace-item.result =
    ap (λ (nss : List Namespace). get_or nss c.loop-namespace.namespace-index c.namespace-item.result) c.loop-namespace.invariant.out
    ∙ here (gone_in c.args.set.now) c.args.namespaces.now c.loop-namespace.namespace-index c.namespace-item.result lt in
    let at : c.namespace-item.result ≡ get_or c.args.namespaces.now c.loop-namespace.namespace-index c.namespace-item.result = c.namespace-item.is ∙ same in
    let parts = count_parts c.args.set.now c.args.namespaces.now c.loop-namespace.namespace-index c.namespace-item.result lt at in
    let own : count_by (goes c.args.set.now) (get_or c.loop-namespace.namespaces c.loop-namespace.namespace-index c.namespace-item.result).objects ≡ count_by (goes c.args.set.now) c.namespace-item.result.objects =
    ap (λ (ns : Namespace). count_by (goes c.args.set.now) ns.objects) (sym c.namespace-item.is) in
    omega (arith, parts, own, c.loop-namespace.invariant.total)

pub loop-namespace-preserved : goal.loop-namespace-preserved
loop-namespace-preserved c =
    let lt : c.loop-namespace.namespace-index < length c.args.namespaces.now = omega arith in
    let same : get_or c.loop-namespace.namespaces c.loop-namespace.namespace-index c.namespace-item.result ≡ get_or c.args.namespaces.now c.loop-namespace.namespace-index c.namespace-item.result =
    ap (λ (nss : List Namespace). get_or nss c.loop-namespace.namespace-index c.namespace-item.result) c.loop-namespace.invariant.out
    ∙ here (gone_in c.args.set.now) c.args.namespaces.now c.loop-namespace.namespace-index c.namespace-item.result lt in
    let at : c.namespace-item.result ≡ get_or c.args.namespaces.now c.loop-namespace.namespace-index c.namespace-item.result = c.namespace-item.is ∙ same in
    let parts = count_parts c.args.set.now c.args.namespaces.now c.loop-namespace.namespace-index c.namespace-item.result lt at in
    let own : count_by (goes c.args.set.now) (get_or c.loop-namespace.namespaces c.loop-namespace.namespace-index c.namespace-item.result).objects ≡ count_by (goes c.args.set.now) c.namespace-item.result.objects =
    ap (λ (ns : Namespace). count_by (goes c.args.set.now) ns.objects) (sym c.namespace-item.is) in
    let next : count_by (goes c.args.set.now) (objects_of (drop (c.loop-namespace.namespace-index + 1) c.args.namespaces.now)) ≡ count_by (goes c.args.set.now) (objects_of (drop (suc c.loop-namespace.namespace-index) c.args.namespaces.now)) =
    ap (λ n. count_by (goes c.args.set.now) (objects_of (drop n c.args.namespaces.now))) (add-one c.loop-namespace.namespace-index) in
    record {
      out = ap (λ (ns : Namespace). set c.loop-namespace.namespaces c.loop-namespace.namespace-index ns) (c.take_from.ensures.namespace ∙ ap (gone_in c.args.set.now) (sym c.namespace-item.is))
          ∙ map_over_more (gone_in c.args.set.now) c.args.namespaces.now c.loop-namespace.namespaces c.loop-namespace.namespace-index c.namespace-item.result lt c.loop-namespace.invariant.out c.namespace-item.is;
      gone = gone_more c.args.set.now c.args.namespaces.now c.loop-namespace.namespace-index c.namespace-item.result c.args.gone.now.items c.loop-namespace.gone.items c.take_from.new.gone.items lt at
          c.loop-namespace.invariant.gone (c.take_from.ensures.gone ∙ ap (λ (ns : Namespace). c.loop-namespace.gone.items ++ filter (goes c.args.set.now) ns.objects) (sym c.namespace-item.is));
      total = omega (arith, parts, own, next, c.loop-namespace.invariant.total, c.take_from.ensures.len, c.take_from.ensures.capacity);
    }
