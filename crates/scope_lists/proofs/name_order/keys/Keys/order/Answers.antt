use Rattle.std.proofs.Common.{ap, rules}
use Rattle.std.specs.Ordering.{is_lt}
use Rattle.std.proofs.lemmas.Fn.{always_returns_same}
use Rattle.std.proofs.lemmas.List.Sorted.{ranks_by}
use Rattle.scope_lists.specs.NameOrder.{key_of}
use Rattle.scope_lists.proofs.ByName.{keys_total, ordered, precedes}
use Rattle.scope_lists.proofs.name_order.keys.Keys.order.Goals as goal

pub returns : goal.returns
returns c =
    let key = key_of c.args.self in
    let weak = ranks_by keys_total key in
    let compares = always_returns_same _ _ _ (λ a r f k. search (rules, ap is_lt)) in
    ordered key _ _ c.in_ok-sort_by.ensures.permutation (c.in_ok-sort_by.ensures.sorted (precedes key) weak compares) (c.in_ok-sort_by.ensures.stable (precedes key) weak compares)
