use Rattle.std.proofs.Common.{◌≡◌, List, ℕ, false, true≢false, subst, sym, ap, ◌∙◌, rules}
use Rattle.std.specs.Prelude.{filter}
use Rattle.scope_lists.specs.NameOrder.{IsOrder, by_name, by_version, exported, is_offered, is_unversioned_at, key_of}
use Rattle.scope_lists.specs.declared.name_order.keys.Keys.{Keys}
use Rattle.scope_lists.proofs.name_order.NameOrder.of.Goals as goal

pub returns-then-not-object : goal.returns-then-not-object
returns-then-not-object c =
    let o = c.args.object.now in
    let without : o.has_versym ≡ false = search rules in
    record {
      names = subst (λ (xs : List ℕ). IsOrder (by_name o) xs c.in_ok-order.field-0.items) c.in_ok-offered.ensures c.in_ok-order.ensures;
      versions = λ some. absurd (true≢false (sym some ∙ without));
      unversioned = λ some. absurd (true≢false (sym some ∙ without));
    }

pub returns : goal.returns
returns c =
    let o = c.args.object.now in
    let all : List ℕ = c.in_ok-offered.offered.items in
    let copied : c.in_ok-by_name.by_name.items ≡ exported o (is_offered o) = c.in_ok-by_name.ensures.items ∙ c.as_slice.ensures.value ∙ c.in_ok-offered.ensures in
    let kept : c.in_ok-unversioned.unversioned.items ≡ filter (is_unversioned_at o) (exported o (is_offered o)) =
    c.in_ok-unversioned.ensures ∙ ap (filter (is_unversioned_at o)) (c.as_slice-2.ensures.value ∙ c.in_ok-offered.ensures) in
    let versions = subst (λ (keys : Keys). IsOrder (key_of keys) all c.in_ok-order-3.field-0.items) c.versions.ensures c.in_ok-order-3.ensures in
    record {
      names = subst (λ (xs : List ℕ). IsOrder (by_name o) xs c.in_ok-order-2.field-0.items) copied c.in_ok-order-2.ensures;
      versions = λ some. subst (λ (xs : List ℕ). IsOrder (by_version o) xs c.in_ok-order-3.field-0.items) c.in_ok-offered.ensures versions;
      unversioned = λ some. subst (λ (xs : List ℕ). IsOrder (by_name o) xs c.in_ok-order-4.field-0.items) kept c.in_ok-order-4.ensures;
    }
