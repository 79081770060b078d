use Rattle.std.proofs.Common.{◌≤◌, ◌<◌, ◌^◌, length, arith}
use Rattle.ldso_cli.specs.Outside.{library_at}
use Rattle.ldso_cli.proofs.Traces.{judged_comes, long_comes}
use Rattle.ldso_cli.proofs.check.of_trace.Goals as goal

pub returns-then-trace-gt-MOST_BYTES-clause-comes : goal.returns-then-trace-gt-MOST_BYTES-clause-comes
returns-then-trace-gt-MOST_BYTES-clause-comes g c =
    let before = library_at g.L.Library.files g.L.Library.faults g.L.Library.misses c.args.library in
    let long : 2 ^ 23 < length c.args.trace.now = omega arith in
    long_comes c.args.folders.now before before c.args.trace.now c.trace_refused.result long c.trace_refused.ensures.end c.trace_refused.ensures.text

pub returns-clause-comes : goal.returns-clause-comes
returns-clause-comes g c =
    let before = library_at g.L.Library.files g.L.Library.faults g.L.Library.misses c.args.library in
    let after = library_at g.L.Library.files g.L.Library.faults g.L.Library.misses c.check_trace-judged.result.1 in
    let fits : length c.args.trace.now ≤ 2 ^ 23 = omega arith in
    judged_comes c.args.folders.now before after c.args.trace.now c.check_trace-judged.result.0 c.judgement.result (record {
      fits = fits;
      passed = c.check_trace-judged.ensures.passed;
      refused = c.check_trace-judged.ensures.refused;
      path = c.check_trace-judged.ensures.path;
      failed = c.check_trace-judged.ensures.failed;
    }) c.judgement.ensures
