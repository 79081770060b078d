use Rattle.std.proofs.Common.{sym, ◌∙◌}
use Rattle.std.proofs.lemmas.Bool.Decides.{Decides-eqb}
use Rattle.std.proofs.lemmas.Slice.Eq.{slice_eq-Decides}
use Rattle.trace_rows.proofs.said.fields.same_serials.Goals as goal

pub returns : goal.returns
returns c =
    let both = slice_eq-Decides Decides-eqb c.as_slice.result.now c.as_slice-2.result.now c.eq.result c.eq.ensures in
    (λ is. sym c.as_slice.ensures ∙ both.0 is ∙ c.as_slice-2.ensures, λ same. both.1 (c.as_slice.ensures ∙ same ∙ sym c.as_slice-2.ensures))
