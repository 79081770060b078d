use Rattle.std.proofs.Common.{◌+◌, ap, subst, ◌∙◌}
use Rattle.tls_blocks.specs.Numbers.{IsLeastFree}
use Rattle.tls_blocks.proofs.Gaps.{gap_is_free}
use Rattle.tls_blocks.proofs.modules.TlsModules.add.Goals as goal

pub returns-clause-number : goal.returns-clause-number
returns-clause-number c =
    subst (λ ms. IsLeastFree ms (c.first_gap-gap.result + 1)) (c.as_slice.ensures.value ∙ ap (λ v. v.modules) c.self.view_is)
    (gap_is_free c.as_slice.result.now c.first_gap-gap.result c.first_gap-gap.ensures)

pub returns-then-late-clause-number : goal.returns-then-late-clause-number
returns-then-late-clause-number c =
    subst (λ ms. IsLeastFree ms (c.first_gap-gap.result + 1)) (c.as_slice.ensures.value ∙ ap (λ v. v.modules) c.self.view_is)
    (gap_is_free c.as_slice.result.now c.first_gap-gap.result c.first_gap-gap.ensures)
