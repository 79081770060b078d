use Rattle.std.proofs.lemmas.Result.{on_ok_weaker}
use Rattle.load_walk.proofs.places.add_soname.Goals as goal

pub returns-in-Some : goal.returns-in-Some
returns-in-Some c = on_ok_weaker c.add.result (λ adds name. rw c.in-Some.is ((rw c.as_bytes.ensures at adds) name)) c.add.ensures
