use Rattle.std.proofs.Common.{◌≡◌, ◌+◌, ◌-◌, sym, ap, true≢false, ◌∙◌, arith}
use Rattle.hart_seat.specs.Table.{HartTable}
use Rattle.hart_seat.proofs.Instructions.{instructs, no_more}
use Rattle.hart_seat.proofs.hart.LinkedHart.instructions_left.Goals as goal

pub returns-then-is_at_pc-clause-instructions : goal.returns-then-is_at_pc-clause-instructions
returns-then-is_at_pc-clause-instructions c = λ s r k lt none.
    let counted : c.saturating_sub.result ≡ c.args.self.now.hart.fuel - c.args.self.now.hart.turns =
    c.saturating_sub.ensures ∙ ap (λ (t : HartTable). t.hart.fuel - t.hart.turns) c.self.view_is in
    instructs s c.args.self.now.hart r k (sym c.is_at_pc.ensures ∙ c.if-is_at_pc.true) (omega (arith, lt, counted)) none

pub returns-then-is_at_pc-clause-no_more : goal.returns-then-is_at_pc-clause-no_more
returns-then-is_at_pc-clause-no_more c = λ s r.
    let counted : c.saturating_sub.result ≡ c.args.self.now.hart.fuel - c.args.self.now.hart.turns =
    c.saturating_sub.ensures ∙ ap (λ (t : HartTable). t.hart.fuel - t.hart.turns) c.self.view_is in
    no_more s c.args.self.now.hart r (c.args.self.now.hart.turns + c.saturating_sub.result) (λ at. omega (arith, counted))

pub returns-else-is_at_pc-clause-no_more : goal.returns-else-is_at_pc-clause-no_more
returns-else-is_at_pc-clause-no_more c = λ s r.
    no_more s c.args.self.now.hart r (c.args.self.now.hart.turns + 0)
    (λ at. absurd (true≢false (sym at ∙ sym c.is_at_pc.ensures ∙ c.if-is_at_pc.false)))
