use Rattle.trace_opens.proofs.FailedPaths.Rows.{anyway, only, reads}
use Rattle.trace_opens.proofs.failed_paths.law.a_failed_read_is_an_empty_file.Goals as goal

pub returns-clause-reads : goal.returns-clause-reads
returns-clause-reads c = reads (record {
  one_stop = c.one_outcome.ensures.one_stop;
  not_both = c.one_outcome.ensures.not_both;
  brings = c.finds_loaded.ensures.brings;
  ends = c.finds_loaded.ensures.stops;
  missing = c.finds_loaded.ensures.missing;
})

pub returns-clause-only : goal.returns-clause-only
returns-clause-only c = only (record {
  one_stop = c.one_outcome.ensures.one_stop;
  not_both = c.one_outcome.ensures.not_both;
  brings = c.finds_loaded.ensures.brings;
  ends = c.finds_loaded.ensures.stops;
  missing = c.finds_loaded.ensures.missing;
}) c.one_answer.ensures.openings

pub returns-clause-fails : goal.returns-clause-fails
returns-clause-fails c = anyway (record {
  one_stop = c.one_outcome.ensures.one_stop;
  not_both = c.one_outcome.ensures.not_both;
  brings = c.finds_loaded.ensures.brings;
  ends = c.finds_loaded.ensures.stops;
  missing = c.finds_loaded.ensures.missing;
})
