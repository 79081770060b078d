use Rattle.rv_isa.proofs.Inverse.{decoding_inverts, one_decoding}
use Rattle.rv_isa.proofs.laws.decoding_inverts_encoding.Goals as goal

pub returns : goal.returns
returns c = record { inverts = decoding_inverts; unique = one_decoding }
