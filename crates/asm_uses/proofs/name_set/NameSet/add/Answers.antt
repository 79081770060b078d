use Rattle.std.proofs.Common.{◌∙◌, ap, List, ℕ}
use Rattle.std.specs.Str.{bytes_eq}
use Rattle.asm_layout.specs.Once.{added}
use Rattle.asm_uses.proofs.Keys.{spelled, spelled_insert}
use Rattle.asm_uses.proofs.name_set.NameSet.add.Goals as goal

pub returns : goal.returns
returns c =
    rw (← c.self.view_is)
    (ap spelled c.in_ok-insert.ensures.keys ∙ spelled_insert c.self.inside.names.keys c.in_ok-name.name
    ∙ ap (λ (name : List ℕ). added bytes_eq (spelled c.self.inside.names.keys) name) c.in_ok-name.ensures.items)
