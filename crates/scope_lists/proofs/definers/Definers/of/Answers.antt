use Rattle.std.proofs.Common.{arith, rules, sym, ◌∙◌}
use Rattle.std.proofs.lemmas.List.Sorted.{IsNonDecreasingBy-from_sort_by_key}
use Rattle.scope_rule.specs.Seen.{seen}
use Rattle.scope_lists.specs.Definers.{rank}
use Rattle.scope_lists.proofs.Defining.{sorted_definers}
use Rattle.scope_lists.proofs.definers.Definers.of.Goals as goal

pub returns : goal.returns
returns c =
    sorted_definers (seen c.args.view.now).objects c.args.list.now c.in_ok-entries.entries.items c.sort_unstable_by_key.new.self.items c.in-Ok.count c.in-Ok.ensures.1 (omega (arith, c.in-Ok.ensures.0, c.in-Ok.ensures.1)) (sym c.has_linker.ensures ∙ c.if-has_linker.false)
    c.in_ok-entries.ensures c.sort_unstable_by_key.ensures.permutation (IsNonDecreasingBy-from_sort_by_key rank _ c.sort_unstable_by_key.ensures.sorted (λ a r f k. search rules))
