use Rattle.std.proofs.Common.{sym}
use Rattle.sym_lookup.proofs.SymFind.Found.{fits_dlsym, fits_plain}
use Rattle.sym_lookup.proofs.sym_find.finding.kept_with_versions.Goals as goal

pub returns-in-Plain : goal.returns-in-Plain
returns-in-Plain c = c.kept.ensures (λ s. fits_plain c.args.object.now c.args.sought.now.name s c.args.sought.now.want c.requires.versions (sym c.in-Plain.ensures))

pub returns-in-Dlsym : goal.returns-in-Dlsym
returns-in-Dlsym c = c.kept-in-Dlsym.ensures (λ s. fits_dlsym c.args.object.now c.args.sought.now.name s c.args.sought.now.want c.requires.versions (sym c.in-Dlsym.ensures))
