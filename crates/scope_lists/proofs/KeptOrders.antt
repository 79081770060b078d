-- Orders by name that are kept.
use Rattle.std.proofs.Common.{◌≡◌, ℕ, cond, inl, inr, subst, sym, ap, ◌∙◌}
use Rattle.std.specs.Prelude.{nat_eq, slice_get, Some, None}
use Rattle.std.specs.Map.{lookup}
use Rattle.std.proofs.lemmas.Bool.{cases_Bool, eqb-true}
use Rattle.ld_base.specs.declared.linking.Loaded.{Loaded}
use Rattle.scope_rule.specs.Seen.{Seen}
use Rattle.scope_lists.specs.NameOrder.{IsNameOrder, Orders}
use Rattle.scope_lists.specs.NameOrders.{AreNameOrders, order_at}
use Rattle.scope_lists.specs.declared.name_orders.NameOrders.{NameOrders}

-- none is made at first
pub no_orders : (s : Seen) (orders : NameOrders) → ((place : ℕ) → order_at orders place ≡ None) → AreNameOrders s orders
no_orders s orders none place o order here has = absurd (let no : None ≡ Some order = sym (none place) ∙ has in cc no)

-- one more
pub one_order : (s : Seen) (old new : NameOrders) (k : ℕ) (o : Loaded) (one : Orders) → AreNameOrders s old → slice_get s.objects k ≡ Some o → IsNameOrder o.object one
    → ((q : ℕ) → order_at new q ≡ cond (nat_eq k q) (Some one) (order_at old q)) → AreNameOrders s new
one_order s old new k o one are there is updates q other order here has =
    elim (cases_Bool (nat_eq k q)) [
      | inl same ↦
          let e : k ≡ q = eqb-true k q same in
          let two : Some one ≡ Some order = ap (λ b. cond b (Some one) (order_at old q)) (sym same) ∙ sym (updates q) ∙ has in
          let found : one ≡ order = cc two in
          let both : Some o ≡ Some other = sym there ∙ ap (slice_get s.objects) e ∙ here in
          let home : o ≡ other = cc both in
          subst (λ (x : Loaded). IsNameOrder x.object order) home (subst (IsNameOrder o.object) found is)
      | inr apart ↦ are q other order here (sym (updates q ∙ ap (λ b. cond b (Some one) (order_at old q)) apart) ∙ has)
    ]

-- what is unchanged
pub same_orders : (s : Seen) (old new : NameOrders) → AreNameOrders s old → new.by_place.entries ≡ old.by_place.entries → AreNameOrders s new
same_orders s old new are same place o order here has = are place o order here (ap (lookup (nat_eq place)) (sym same) ∙ has)
