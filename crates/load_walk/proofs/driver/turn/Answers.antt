use Rattle.std.proofs.lemmas.Result.{err_from_is_err_and}
use Rattle.load_walk.proofs.Stages.{stage_found, faulted_now}
use Rattle.load_walk.proofs.driver.turn.Goals as goal

pub returns-in_err-serial : goal.returns-in_err-serial
returns-in_err-serial g c = λ first stage.
    let p = err_from_is_err_and c.from_residual.result c.from_residual.ensures.1 in
    rw (p.1, p.2) (faulted_now _ _ _ _ _ _ stage c.missing_library.ensures.name c.in_err-serial.field-0.0 c.in_err-serial.ensures)

pub returns-in_ok-push-in-Found : goal.returns-in_ok-push-in-Found
returns-in_ok-push-in-Found g c = λ first stage. (rw c.in_ok-push-in-Found.ensures.ok (stage_found _ _ _ _ _ _ stage c.in-Found.serial (rw c.in-Found.is at c.in_ok-serial.ensures)), λ e. absurd cc)

pub returns-in_ok-read_next-in-Read : goal.returns-in_ok-read_next-in-Read
returns-in_ok-read_next-in-Read g c = λ first stage. (c.in_ok-read_next-in-Read.ensures _ first stage (rw c.in-Read.is at c.in_ok-serial.ensures), λ e. absurd cc)

pub returns-in_err-read_next-in-Read : goal.returns-in_err-read_next-in-Read
returns-in_err-read_next-in-Read g c = λ first stage.
    let p = err_from_is_err_and c.from_residual-in_err-read_next-in-Read.result c.from_residual-in_err-read_next-in-Read.ensures.1 in
    rw (p.1, p.2) (c.in_err-read_next-in-Read.ensures _ first stage (rw c.in-Read.is at c.in_ok-serial.ensures))

pub returns-in-Done : goal.returns-in-Done
returns-in-Done g c = λ first stage. (stage, λ e. rw c.in-Done.is at c.in_ok-serial.ensures)
