use Rattle.std.proofs.Common.{◌≡◌, length, Some, sym}
use Rattle.std.proofs.lemmas.Result.{err_from_is_err_and}
use Rattle.std.specs.List.{slice_get}
use Rattle.load_walk.proofs.Walkers.{looks_ends, looks_found, looks_reads}
use Rattle.load_walk.proofs.walker.Walker.look.Goals as goal

pub returns-in-Found : goal.returns-in-Found
returns-in-Found c =
    let at : slice_get c.args.self.now.names (length c.args.self.now.found) ≡ Some c.in-Some.name.now = sym c.in-Some.ensures in
    looks_found c.args.ask.now c.args.there.now c.args.self.now c.in-Some.name.now c.requires at c.in-Found.serial (rw (c.as_bytes.ensures, c.in-Found.is) at c.in_ok-serial.ensures)

pub returns-in-Read : goal.returns-in-Read
returns-in-Read c =
    let at : slice_get c.args.self.now.names (length c.args.self.now.found) ≡ Some c.in-Some.name.now = sym c.in-Some.ensures in
    looks_reads c.args.ask.now c.args.there.now c.args.self.now c.in-Some.name.now c.requires at c.in-Read.path (rw (c.as_bytes.ensures, c.in-Read.is) at c.in_ok-serial.ensures)

pub returns-in_err-serial : goal.returns-in_err-serial
returns-in_err-serial c =
    let p = err_from_is_err_and c.from_residual.result c.from_residual.ensures.1 in
    let at : slice_get c.args.self.now.names (length c.args.self.now.found) ≡ Some c.in-Some.name.now = sym c.in-Some.ensures in
    rw (p.1, p.2) (looks_ends c.args.ask.now c.args.there.now c.args.self.now c.in-Some.name.now c.requires at _ (rw c.as_bytes.ensures at c.in_err-serial.ensures))
