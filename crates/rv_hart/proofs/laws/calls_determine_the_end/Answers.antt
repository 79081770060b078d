use Rattle.rv_hart.proofs.Trails.{one_end}
use Rattle.rv_hart.proofs.laws.calls_determine_the_end.Goals as goal

pub returns : goal.returns
returns c = one_end c.decoding_inverts_encoding.ensures.unique
