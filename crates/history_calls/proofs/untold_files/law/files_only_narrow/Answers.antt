use Rattle.history_calls.proofs.UntoldFiles.Allowing.{allowed}
use Rattle.history_calls.proofs.UntoldFiles.Serving.{serves, starts}
use Rattle.history_calls.proofs.untold_files.law.files_only_narrow.Goals as goal

pub returns-clause-events : goal.returns-clause-events
returns-clause-events c = allowed

pub returns-clause-calls : goal.returns-clause-calls
returns-clause-calls c = serves

pub returns-clause-starts : goal.returns-clause-starts
returns-clause-starts c = starts
