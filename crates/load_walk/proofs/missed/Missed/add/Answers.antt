use Rattle.std.proofs.Common.{◌≡◌, ◌∙◌, ap, false}
use Rattle.std.specs.Set.{is_member}
use Rattle.std.specs.Str.{bytes_eq}
use Rattle.load_walk.proofs.Missing.{bytes_of, inserted_last}
use Rattle.load_walk.proofs.missed.Missed.add.Goals as goal

pub returns-clause-ok : goal.returns-clause-ok
returns-clause-ok c = λ unmissed.
    let bytes = c.in_ok-path.ensures.items in
    let new : is_member bytes_eq (bytes_of c.self.inside.paths.keys) c.in_ok-path.path.items ≡ false = rw (bytes, c.self.view_is) unmissed in
    rw (← c.self.view_is, ← bytes) (ap bytes_of c.in_ok-insert.ensures.keys ∙ inserted_last c.self.inside.paths.keys c.in_ok-path.path new)
