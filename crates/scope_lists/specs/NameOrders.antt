-- The orders by name that are kept: for the code of this crate alone.
use Rattle.std.specs.Prelude.{◌≡◌, ℕ, nat_eq, Option, Some, slice_get}
use Rattle.std.specs.HashMap.{get}
use Rattle.ld_base.specs.declared.linking.Loaded.{Loaded}
use Rattle.scope_rule.specs.Seen.{Seen}
use Rattle.scope_lists.specs.NameOrder.{IsNameOrder, Orders}
use Rattle.scope_lists.specs.declared.name_orders.NameOrders.{NameOrders}

-- that of the object at a place, if it was made
abbrev pub order_at : NameOrders → ℕ → Option Orders
order_at orders place = get nat_eq orders.by_place place

-- those that were made are those of these objects
abbrev pub AreNameOrders : Seen → NameOrders → Type 0
AreNameOrders s orders = (place : ℕ) (o : Loaded) (order : Orders) → slice_get s.objects place ≡ Some o → order_at orders place ≡ Some order → IsNameOrder o.object order
