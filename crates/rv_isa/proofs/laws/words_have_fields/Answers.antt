use Rattle.rv_isa.proofs.Inverse.{words_have_fields_lem}
use Rattle.rv_isa.proofs.laws.words_have_fields.Goals as goal

pub returns : goal.returns
returns c = words_have_fields_lem
