use Rattle.std.proofs.Common.{◌≡◌, true, false, Result, Ok, Err, OnErr, None, sym, ap, ◌∙◌, true≢false}
use Rattle.std.specs.Prelude.{is_err}
use Rattle.rv_hart.specs.Registers.{Registers}
use Rattle.rv_hart.specs.declared.stepping.Stop.{Stop}
use Rattle.hart_seat.specs.HartParts.Views.{service_of}
use Rattle.hart_moves.specs.Services.{service_at}
use Rattle.plain_world.proofs.Instructions.{instructed, none_served, stops_as_before}
use Rattle.plain_world.proofs.stretch.take_instruction.Goals as goal

as_before : (result : Result Unit Stop) (P : Type 0) → is_err result ≡ true → OnErr result P → P
as_before (Ok done) P is x = absurd (true≢false (sym is))
as_before (Err stop) P is x = x

pub returns-then-is_err-clause-other : goal.returns-then-is_err-clause-other
returns-then-is_err-clause-other c =
    let err : is_err c.step.result ≡ true = sym c.is_err.ensures.value ∙ c.if-is_err.true in (
      stops_as_before c.args.memory.now c.step.new.bus c.args.hart.now.hart.registers c.step.new.self.hart.registers c.step.result err c.step.ensures.followed,
      as_before c.step.result (c.step.new.self.hart ≡ c.args.hart.now.hart) err c.step.ensures.stopped,
    )

pub returns-clause-instructs : goal.returns-clause-instructs
returns-clause-instructs c =
    let none : service_at c.args.hart.now.hart.registers.pc ≡ None =
    ap (λ (r : Registers). service_at r.pc) (sym c.registers.ensures)
    ∙ none_served service_of c.service_at.result (service_at c.registers.result.now.pc) c.service_at.ensures (sym c.is_some.ensures ∙ c.if-is_some.false) in
    instructed c.guests_take_turns.ensures.quiet c.args.memory.now c.step.new.bus c.args.hart.now.hart c.step.new.self.hart c.spend.new.self.hart c.step.result
    (λ s. c.requires.due s none) (sym c.is_err.ensures.value ∙ c.if-is_err.false) c.step.ensures.followed c.step.ensures.hart c.spend.ensures
