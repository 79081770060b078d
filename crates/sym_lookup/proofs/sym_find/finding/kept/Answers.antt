use Rattle.std.proofs.Common.{◌∙◌, ap, sym}
use Rattle.std.specs.Prelude.{◌&&◌}
use Rattle.ld_base.specs.Pick.{is_offer}
use Rattle.ld_base.specs.Taken.{in_sight}
use Rattle.sym_hash.specs.Reached.{Reached}
use Rattle.sym_lookup.specs.SymFind.Best.{passes}
use Rattle.sym_lookup.proofs.SymFind.Found.{keeps}
use Rattle.sym_lookup.proofs.sym_find.finding.kept.Goals as goal

pub returns : goal.returns
returns c = λ same.
    keeps c.args.object.now c.args.sought.now.name c.args.sought.now.want (Reached c.args.table.now c.args.sought.now.name) c.walk.result
    (λ s. is_offer c.args.object.now c.name.result.now s && passes c.args.test s) (λ s. in_sight c.args.object.now c.name.result.now s)
    (λ s. same s ∙ ap (λ n. is_offer c.args.object.now n s && passes c.args.test s) (sym c.name.ensures)) (λ s. ap (λ n. in_sight c.args.object.now n s) (sym c.name.ensures))
    c.walk.ensures.first c.walk.ensures.sight
