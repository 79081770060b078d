use Rattle.tls_blocks.proofs.Gaps.{numbered_filter, numbered_with}
use Rattle.tls_blocks.proofs.law.modules_stay_numbered.Goals as goal

pub returns-clause-more : goal.returns-clause-more
returns-clause-more c modules m numbered positive = numbered_with modules m numbered positive

pub returns-clause-fewer : goal.returns-clause-fewer
returns-clause-fewer c keep modules numbered = numbered_filter keep modules numbered
