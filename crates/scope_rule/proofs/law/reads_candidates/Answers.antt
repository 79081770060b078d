use Rattle.scope_rule.proofs.Walks.{arrivals_read, paths_differ}
use Rattle.scope_rule.proofs.law.reads_candidates.Goals as goal

pub returns : goal.returns
returns c = record { candidates = arrivals_read; once = paths_differ }
