use Rattle.std.proofs.Common.{◌≡◌, ◌≤◌, ℕ, List, length, take, drop, rules, ap, ◌∙◌}
use Rattle.std.proofs.lemmas.List.Sorted.{IsPartitionPoint-from_clause}
use Rattle.scope_lists.specs.NameOrder.{key_of}
use Rattle.scope_lists.proofs.ByName.{before, found_between, not_behind, parted_before, parted_behind}
use Rattle.scope_lists.proofs.name_order.keys.Keys.run.Goals as goal

pub returns : goal.returns
returns c =
    let key = key_of c.args.self in
    let sought : List (List ℕ) = c.args.key.now in
    let xs : List ℕ = c.args.indexes.now in
    let rest : List ℕ = c.split_at.result.1.now in
    let back : rest ≡ drop c.partition_point-start.result xs = c.split_at.ensures.back in
    let first = IsPartitionPoint-from_clause (before key sought) _ _ c.partition_point-start.ensures.partitioned (parted_before key sought xs c.requires.sorted) (λ a r f k. search rules) in
    let second = IsPartitionPoint-from_clause (not_behind key sought) _ _ c.partition_point-end.ensures.partitioned (rw back (parted_behind key sought c.partition_point-start.result xs c.requires.sorted)) (λ a r f k. search rules) in
    let low : c.partition_point-start.result ≤ length xs = c.partition_point-start.ensures.bound in
    let high : c.partition_point-end.result ≤ length rest = c.partition_point-end.ensures.bound in
    c.split_at-2.ensures.front ∙ ap (take c.partition_point-end.result) back ∙ found_between key sought c.partition_point-start.result c.partition_point-end.result xs low (rw back at high) first (rw back at second)
