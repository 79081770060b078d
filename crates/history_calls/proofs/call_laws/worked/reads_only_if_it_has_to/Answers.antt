use Rattle.history_calls.proofs.CallLaws.Examples.{may_read, reads_none_by_flags, reads_none_noload}
use Rattle.history_calls.proofs.call_laws.worked.reads_only_if_it_has_to.Goals as goal

pub returns-clause-flags : goal.returns-clause-flags
returns-clause-flags c = reads_none_by_flags

pub returns-clause-noload : goal.returns-clause-noload
returns-clause-noload c = reads_none_noload

pub returns-clause-may_read : goal.returns-clause-may_read
returns-clause-may_read c = may_read
