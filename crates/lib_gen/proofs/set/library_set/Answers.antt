use Rattle.std.proofs.Common.{[], ◌∷◌, ◌++◌, subst, sym}
use Rattle.std.specs.List.{AllZip}
use Rattle.std.proofs.lemmas.List.Elements.{AllZip-push}
use Rattle.lib_gen.specs.Set.{IsObjectOf}
use Rattle.lib_gen.proofs.set.library_set.Goals as goal

pub loop-source-preserved : goal.loop-source-preserved
loop-source-preserved c =
    subst (AllZip IsObjectOf (c.loop-source.yielded ++ c.in-Some.source ∷ [])) (sym c.in_ok-push.ensures.ok)
    (AllZip-push IsObjectOf c.loop-source.yielded c.loop-source.files c.in-Some.source c.in_ok-object_of.field-0 c.loop-source.invariant c.in_ok-object_of.ensures)
