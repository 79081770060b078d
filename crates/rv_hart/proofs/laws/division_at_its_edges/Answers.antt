use Rattle.std.proofs.Common.{refl}
use Rattle.rv_hart.proofs.laws.division_at_its_edges.Goals as goal

pub returns : goal.returns
returns c = λ a. (refl, refl, refl, refl, refl, refl)
