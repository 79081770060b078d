use Rattle.std.proofs.Common.{◌∙◌}
use Rattle.std.proofs.lemmas.Result.{err_from_is_err_and}
use Rattle.load_walk.proofs.driver.drive.Goals as goal

pub turn-requires : goal.turn-requires
turn-requires g c = rw (c.note_places.ensures, c.loop.invariant.there) c.loop.invariant.stage.walker

pub returns-in_err-turn : goal.returns-in_err-turn
returns-in_err-turn g c =
    let p = err_from_is_err_and c.from_residual-in_err-turn.result c.from_residual-in_err-turn.ensures.1 in
    rw (p.1, p.2) ((rw (c.note_places.ensures, c.loop.invariant.there) at c.in_err-turn.ensures) _ c.loop.invariant.stage)

pub returns-then-branch : goal.returns-then-branch
returns-then-branch g c = let turned = (rw (c.note_places.ensures, c.loop.invariant.there) at c.in_ok-turn.ensures) _ c.loop.invariant.stage in (turned.0, turned.1 c.if-branch.true)

pub loop-preserved : goal.loop-preserved
loop-preserved g c = record {
  stage = ((rw (c.note_places.ensures, c.loop.invariant.there) at c.in_ok-turn.ensures) _ c.loop.invariant.stage).0;
  there = c.note_places.ensures ∙ c.loop.invariant.there;
}
