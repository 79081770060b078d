use Rattle.tls_blocks.proofs.Residues.{residue_ahead, residue_behind, least_ahead, least_behind}
use Rattle.std.proofs.Common.{arith}
use Rattle.tls_blocks.proofs.placing.gap.Goals as goal

pub returns-then-here-residue-clause-fits : goal.returns-then-here-residue-clause-fits
returns-then-here-residue-clause-fits c = residue_ahead c.args.align c.args.address c.args.residue c.requires (omega arith)

pub returns-else-here-residue-clause-fits : goal.returns-else-here-residue-clause-fits
returns-else-here-residue-clause-fits c = let small = c.requires in residue_behind c.args.align c.args.address c.args.residue c.requires (omega arith) (omega arith)

pub returns-then-here-residue-clause-least : goal.returns-then-here-residue-clause-least
returns-then-here-residue-clause-least c = λ more same. least_ahead c.args.align c.args.address c.args.residue more c.requires (omega arith) same

pub returns-else-here-residue-clause-least : goal.returns-else-here-residue-clause-least
returns-else-here-residue-clause-least c = λ more same. least_behind c.args.align c.args.address c.args.residue more c.requires (omega arith) same
