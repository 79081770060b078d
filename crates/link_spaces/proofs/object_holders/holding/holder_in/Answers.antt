use Rattle.std.proofs.Common.{◌<◌, ◌≤◌, List, length, subst, arith}
use Rattle.std.specs.List.{Contains}
use Rattle.std.proofs.lemmas.List.{take_all}
use Rattle.ld_base.specs.declared.linking.Loaded.{Loaded}
use Rattle.scope_rule.specs.declared.namespace.Namespace.{Namespace}
use Rattle.link_spaces.specs.ObjectHolders.Holders.{HasNone, HoldsNone}
use Rattle.link_spaces.proofs.ObjectHolders.Passing.{is_in, passed_more}
use Rattle.link_spaces.proofs.object_holders.holding.holder_in.Goals as goal

pub holder_among-requires : goal.holder_among-requires
holder_among-requires c =
    let lt : c.loop-namespace.namespace-index < length c.args.namespaces.now = omega arith in
    λ o h. c.requires c.namespace-item.result o (is_in c.args.namespaces.now c.loop-namespace.namespace-index c.namespace-item.result lt c.namespace-item.is)
    (subst (λ (os : List Loaded). Contains os o) c.as_slice.ensures h)

pub loop-namespace-preserved : goal.loop-namespace-preserved
loop-namespace-preserved c =
    let lt : c.loop-namespace.namespace-index < length c.args.namespaces.now = omega arith in
    let here : HoldsNone c.namespace-item.result.objects c.args.address = subst (λ (os : List Loaded). HoldsNone os c.args.address) c.as_slice.ensures c.in_default.ensures.none in
    passed_more (λ (ns : Namespace). HoldsNone ns.objects c.args.address) c.args.namespaces.now c.loop-namespace.namespace-index c.namespace-item.result lt c.namespace-item.is
    c.loop-namespace.invariant here

pub returns-clause-none : goal.returns-clause-none
returns-clause-none c =
    let all : length c.args.namespaces.now ≤ c.loop-namespace.namespace-index = omega arith in
    subst (λ (all_of : List Namespace). HasNone all_of c.args.address) (take_all c.loop-namespace.namespace-index c.args.namespaces.now all) c.loop-namespace.invariant
