use Rattle.std.proofs.Common.{◌∙◌, ap, sym, true}
use Rattle.std.specs.Prelude.{◌&&◌}
use Rattle.ld_base.specs.Pick.{is_offer}
use Rattle.ld_base.specs.Taken.{in_sight}
use Rattle.sym_hash.specs.Reached.{Reached}
use Rattle.sym_lookup.proofs.SymFind.Found.{keeps_all, with_true}
use Rattle.sym_lookup.proofs.sym_find.finding.kept_of_all.Goals as goal

pub returns : goal.returns
returns c =
    keeps_all c.args.object.now c.args.sought.now.name (Reached c.args.table.now c.args.sought.now.name) c.walk.result
    (λ s. is_offer c.args.object.now c.name.result.now s && true) (λ s. in_sight c.args.object.now c.name.result.now s)
    (λ s. ap (λ n. is_offer c.args.object.now n s) (sym c.name.ensures) ∙ with_true (is_offer c.args.object.now c.name.result.now s)) (λ s. ap (λ n. in_sight c.args.object.now n s) (sym c.name.ensures))
    c.walk.ensures.first c.walk.ensures.sight
