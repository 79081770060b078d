use Rattle.std.proofs.Common.{refl}
use Rattle.elf_head.specs.Rules.{head_broken, head_verdict}
use Rattle.elf_object.specs.Verdict.{object_verdict}
use Rattle.trace_opens.proofs.failed_paths.law.empty_is_refused.Goals as goal

pub returns : goal.returns
unfolding object_verdict head_verdict head_broken
returns c = λ program. refl
