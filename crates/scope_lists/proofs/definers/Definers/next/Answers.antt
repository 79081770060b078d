use Rattle.scope_lists.proofs.Defining.{next_found, next_none, next_other}
use Rattle.scope_lists.proofs.definers.Definers.next.Goals as goal

pub returns-in_err-found : goal.returns-in_err-found
returns-in_err-found c = λ objects list are.
    rw c.from_residual.ensures (next_none objects list c.args.self.now c.args.hash c.args.from are (rw c.in-Ok.ensures.1 at (c.in_err-found.ensures are.sorted)))

pub returns-then-found-hash : goal.returns-then-found-hash
returns-then-found-hash c = λ objects list are.
    next_found objects list c.args.self.now c.args.hash c.args.from are c.in_ok-found.found (rw c.in-Ok.ensures.1 at (c.in_ok-found.ensures are.sorted)) c.if-found-hash.true

pub returns-else-found-hash : goal.returns-else-found-hash
returns-else-found-hash c = λ objects list are.
    next_other objects list c.args.self.now c.args.hash c.args.from are c.in_ok-found.found (rw c.in-Ok.ensures.1 at (c.in_ok-found.ensures are.sorted)) c.if-found-hash.false
