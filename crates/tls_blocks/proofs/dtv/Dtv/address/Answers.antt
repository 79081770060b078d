use Rattle.std.proofs.Common.{◌∙◌}
use Rattle.tls_blocks.proofs.Entries.{compared_fits}
use Rattle.tls_blocks.proofs.dtv.Dtv.address.Goals as goal

pub returns-in-None-default-clause-entries : goal.returns-in-None-default-clause-entries
returns-in-None-default-clause-entries c = c.compare.ensures.entries ∙ compared_fits c.args.modules.now c.args.self.now c.requires

pub returns-in-Some-Some-clause-entries : goal.returns-in-Some-Some-clause-entries
returns-in-Some-Some-clause-entries c = c.compare.ensures.entries ∙ compared_fits c.args.modules.now c.args.self.now c.requires

pub returns-in-Some-None-clause-entries : goal.returns-in-Some-None-clause-entries
returns-in-Some-None-clause-entries c = c.compare.ensures.entries ∙ compared_fits c.args.modules.now c.args.self.now c.requires
