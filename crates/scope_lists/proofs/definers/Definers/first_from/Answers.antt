use Rattle.std.proofs.Common.{◌≡◌, ℕ, List, ltb, rules, subst, sym, ◌∙◌, arith}
use Rattle.std.specs.Prelude.{slice_get}
use Rattle.std.specs.List.Sorted.{IsNonDecreasingBy}
use Rattle.std.specs.Option.{option_copied}
use Rattle.std.proofs.lemmas.Grind.{common_steps}
use Rattle.std.proofs.lemmas.Option.{gets}
use Rattle.std.proofs.lemmas.List.Sorted.{IsPartitionPoint-from_clause, IsPartitionedBy-ltb}
use Rattle.scope_lists.specs.Definers.{IsFirstFrom, rank}
use Rattle.scope_lists.specs.declared.definers.Definer.{Definer}
use Rattle.scope_lists.proofs.Defining.{first_behind}
use Rattle.scope_lists.proofs.definers.Definers.first_from.Goals as goal

pub returns : goal.returns
returns c = λ given.
    let entries : List Definer = c.as_slice-entries.result.now in
    let low : ℕ = rank c.args.wanted.now in
    let sorted = subst (λ (l : List Definer). IsNonDecreasingBy rank l) (sym (c.as_slice-entries.ensures.value ∙ c.self.view_is)) given in
    let parted = IsPartitionPoint-from_clause (λ (d : Definer). ltb (rank d) low) _ _ c.partition_point-start.ensures.partitioned (IsPartitionedBy-ltb rank entries low sorted) (λ a r f k. search rules) in
    let got : option_copied c.get.result ≡ slice_get entries c.partition_point-start.result = grind (arith, common_steps, gets) in
    subst (λ (l : List Definer). IsFirstFrom low l c.copied.result) (c.as_slice-entries.ensures.value ∙ c.self.view_is)
    (first_behind low c.partition_point-start.result entries c.copied.result sorted parted (c.copied.ensures ∙ got))
