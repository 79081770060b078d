use Rattle.std.proofs.Common.{Bool, not, eqb, Some, sym, ap, subst}
use Rattle.std.specs.Bool.{Decides}
use Rattle.std.specs.Option.{option_eq}
use Rattle.std.proofs.lemmas.Bool.Decides.{Decides-at}
use Rattle.history_state.specs.Objects.{IsMapped}
use Rattle.trace_rows.proofs.Running.{mapped_so}
use Rattle.trace_rows.proofs.Settled.{lost_so, unmapped_so}
use Rattle.trace_rows.proofs.Tests.{option_so, or_else}
use Rattle.trace_rows.proofs.whole.is_settled.Goals as goal

pub returns-then-not-is_mapped : goal.returns-then-not-is_mapped
returns-then-not-is_mapped c = λ s x tidy.
    unmapped_so s c.args.grant.now c.is_mapped.result (subst (λ (b : Bool). Decides b (IsMapped s c.args.grant.now.owner)) (sym c.is_mapped.ensures) (mapped_so s c.args.replay.now c.args.grant.now.owner x))
    c.if-not-is_mapped.true

pub returns-else-not-is_mapped : goal.returns-else-not-is_mapped
returns-else-not-is_mapped c = λ s x tidy.
    or_else (not c.is_mapped.result) c.eq.result (ap not c.if-not-is_mapped.false)
    (lost_so s c.args.replay.now c.args.grant.now c.in-Lost.saw c.slot_value.result c.is_mapped.result c.eq.result tidy c.in-Lost.is
    (subst (λ (b : Bool). Decides b (IsMapped s c.args.grant.now.owner)) (sym c.is_mapped.ensures) (mapped_so s c.args.replay.now c.args.grant.now.owner x)) (c.slot_value.ensures s x)
    (Decides-at c.eq.result (option_eq eqb c.slot_value.result (Some c.in-Lost.saw)) c.eq.ensures (option_so c.slot_value.result c.in-Lost.saw)))
