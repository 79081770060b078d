use Rattle.std.proofs.Common.{◌≡◌, ◌<◌, ◌≤◌, ◌^◌, List, arith, length, refl, subst, sym}
use Rattle.history_event.specs.declared.hart_end.HartEnd.{HartEnd}
use Rattle.trace_text.specs.RunTexts.Ends.{IsRunEnd}
use Rattle.ldso_cli.proofs.Turned.{ends_length}
use Rattle.ldso_cli.proofs.play.over.Goals as goal

pub of-run_end-requires-clause-some : goal.of-run_end-requires-clause-some
of-run_end-requires-clause-some c =
    let many : length c.into_record-left.result.ends ≡ length c.args.run.world.harts = ends_length c.args.run.world.harts c.into_record-left.result.ends c.into_record-left.ensures.ends in
    subst (λ (l : List HartEnd). 0 < length l) (sym c.as_slice.ensures) (omega (arith, many, c.count.ensures.harts, c.requires.some))

pub of-run_end-requires-clause-few : goal.of-run_end-requires-clause-few
of-run_end-requires-clause-few c =
    let many : length c.into_record-left.result.ends ≡ length c.args.run.world.harts = ends_length c.args.run.world.harts c.into_record-left.result.ends c.into_record-left.ensures.ends in
    subst (λ (l : List HartEnd). length l ≤ 2 ^ 32) (sym c.as_slice.ensures) (omega (arith, many, c.count.ensures.harts, c.count.ensures.count, c.count.type_inv))

pub returns : goal.returns
returns c = record {
  run_end = c.of-run_end.result;
  ended_is = refl;
  journal = c.into_record-left.ensures.journal;
  ends = c.into_record-left.ensures.ends;
  decides = subst (λ (l : List HartEnd). IsRunEnd l c.of-run_end.result) c.as_slice.ensures c.of-run_end.ensures;
}
