use Rattle.std.proofs.Common.{sym, subst}
use Rattle.trace_view.specs.Journal.{IsGrantOf}
use Rattle.trace_view.proofs.Grants.{is_found}
use Rattle.trace_view.proofs.reading.grant_of.Goals as goal

pub returns-in-None : goal.returns-in-None
returns-in-None c = subst (IsGrantOf c.args.grants.now c.args.number) (sym c.searched.ensures) (is_found c.args.grants.now c.args.number)
