use Rattle.std.proofs.Common.{ℕ, List, subst}
use Rattle.elf_object.specs.Spells.{Spells}
use Rattle.ldso_view.proofs.spelled.object_at.Goals as goal

pub returns-in-Ok-read_object-clause-found : goal.returns-in-Ok-read_object-clause-found
returns-in-Ok-read_object-clause-found g c = record {
  bytes = c.in-Ok.bytes.items;
  there = c.in-Ok.ensures.found;
  spelled = subst (λ (b : List ℕ). Spells b c.args.program c.in-Ok-read_object.object) c.in_ok-file-in-Ok.ensures.ok c.in-Ok-read_object.ensures.answers;
}
