use Rattle.std.proofs.Common.{rules, ◌≡◌, ◌<◌, length, map, None, Ok, refl, subst, ◌∙◌, arith}
use Rattle.std.proofs.lemmas.List.{length-map}
use Rattle.trace_check.specs.Rows.{AreTaken}
use Rattle.trace_opens.specs.OpeningRows.Expected.{trace_run}
use Rattle.trace_check.proofs.Opened.{line_stops, line_taken, none_taken}
use Rattle.trace_check.proofs.Taken.{got_mapped, line_more}
use Rattle.trace_check.proofs.check.take_lines.Goals as goal

pub loop-index-init : goal.loop-index-init
loop-index-init g c = record {
  taken = none_taken (trace_run c.args.replay.now.harts c.args.folders.now (g.L.Library.files c.args.library)) c.args.replay.now c.requires.begins;
  harts = refl;
  files = refl;
  faults = omega arith;
  misses = omega arith;
}

pub returns-in-Err-clause-stopped : goal.returns-in-Err-clause-stopped
returns-in-Err-clause-stopped g c =
    let inside : c.loop-index.index < length c.args.lines.now = omega arith in
    line_stops c.args.folders.now c.args.replay.now.harts c.loop-index.replay.harts (g.L.Library.files c.args.library) (g.L.Library.files c.loop-index.library) c.loop-index.invariant.harts c.loop-index.invariant.files
    (map (λ line. line.now) c.args.lines.now) c.loop-index.index _ c.loop-index.replay c.take_line-checked.new.replay (omega (arith, inside, length-map c.args.lines.now (λ line. line.now)))
    (got_mapped (λ line. line.now) c.args.lines.now c.loop-index.index _ _ inside) c.loop-index.invariant.taken c.take_line-checked.result.0 c.take_line-checked.ensures.checked c.take_line-checked.ensures.path c.in-Err.fault c.in-Err.ensures.err

pub loop-index-preserved : goal.loop-index-preserved
loop-index-preserved g c =
    let inside : c.loop-index.index < length c.args.lines.now = omega arith in
    let passed : c.take_line-checked.result.0 ≡ Ok None = search rules in
    record {
      taken = subst (λ ls. AreTaken (trace_run c.args.replay.now.harts c.args.folders.now (g.L.Library.files c.args.library)) ls c.take_line-checked.new.replay) (line_more (λ line. line.now) c.args.lines.now c.loop-index.index _ inside)
          (line_taken c.legal_step_by_step.ensures.push c.args.folders.now c.args.replay.now.harts c.loop-index.replay.harts (g.L.Library.files c.args.library) (g.L.Library.files c.loop-index.library) c.loop-index.invariant.harts
          c.loop-index.invariant.files _ _ c.loop-index.replay c.take_line-checked.new.replay c.loop-index.invariant.taken c.take_line-checked.result.0 passed c.take_line-checked.ensures.checked);
      harts = c.take_line-checked.ensures.harts ∙ c.loop-index.invariant.harts;
      files = c.take_line-checked.ensures.files ∙ c.loop-index.invariant.files;
      faults = omega (arith, c.take_line-checked.ensures.faults, c.loop-index.invariant.faults);
      misses = omega (arith, c.take_line-checked.ensures.misses, c.loop-index.invariant.misses);
    }
