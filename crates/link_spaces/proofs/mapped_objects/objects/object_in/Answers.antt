use Rattle.std.proofs.Common.{◌≡◌, ◌<◌, ◌≤◌, List, Some, None, length, sym, ap, ◌∙◌, arith}
use Rattle.std.proofs.lemmas.List.{drop_all}
use Rattle.ld_base.specs.declared.linking.Loaded.{Loaded}
use Rattle.scope_rule.specs.Loading.{with_serial}
use Rattle.scope_rule.specs.declared.namespace.Namespace.{Namespace}
use Rattle.link_spaces.proofs.MappedObjects.Finding.{first_has, first_lacks, in_all}
use Rattle.link_spaces.proofs.mapped_objects.objects.object_in.Goals as goal

pub returns-in-Some : goal.returns-in-Some
returns-in-Some c =
    let lt : c.loop-namespace.namespace-index < length c.args.namespaces.now = omega arith in
    let found : with_serial c.namespace-item.result.objects c.args.serial ≡ Some c.in-Some.object.now = ap (λ (os : List Loaded). with_serial os c.args.serial) (sym c.as_slice.ensures) ∙ sym c.in-Some.ensures in
    sym (first_has c.args.namespaces.now c.loop-namespace.namespace-index c.namespace-item.result c.args.serial c.in-Some.object.now lt c.namespace-item.is found) ∙ c.loop-namespace.invariant

pub loop-namespace-preserved : goal.loop-namespace-preserved
loop-namespace-preserved c =
    let lt : c.loop-namespace.namespace-index < length c.args.namespaces.now = omega arith in
    let none : with_serial c.namespace-item.result.objects c.args.serial ≡ None = ap (λ (os : List Loaded). with_serial os c.args.serial) (sym c.as_slice.ensures) ∙ sym c.in_default.ensures in
    sym (first_lacks c.args.namespaces.now c.loop-namespace.namespace-index c.namespace-item.result c.args.serial lt c.namespace-item.is none) ∙ c.loop-namespace.invariant

pub returns : goal.returns
returns c =
    let all : length c.args.namespaces.now ≤ c.loop-namespace.namespace-index = omega arith in
    ap (λ (nss : List Namespace). in_all nss c.args.serial) (sym (drop_all c.loop-namespace.namespace-index c.args.namespaces.now all)) ∙ c.loop-namespace.invariant
