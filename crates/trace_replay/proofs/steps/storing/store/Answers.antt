use Rattle.std.proofs.Common.{List, sym, ap, ◌∙◌}
use Rattle.scope_rule.specs.declared.namespace.Namespace.{Namespace}
use Rattle.trace_replay.specs.Steps.{storage_in}
use Rattle.trace_replay.proofs.steps.storing.store.Goals as goal

pub reserve-requires-clause-align : goal.reserve-requires-clause-align
reserve-requires-clause-align c = (c.requires c.in-Some.segment (sym (c.in-Some.ensures ∙ ap (λ (nss : List Namespace). storage_in nss c.args.serial) c.as_slice.ensures.value))).align

pub reserve-requires-clause-memory : goal.reserve-requires-clause-memory
reserve-requires-clause-memory c = (c.requires c.in-Some.segment (sym (c.in-Some.ensures ∙ ap (λ (nss : List Namespace). storage_in nss c.args.serial) c.as_slice.ensures.value))).memory
