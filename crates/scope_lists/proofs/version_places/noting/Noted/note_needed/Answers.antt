use Rattle.std.specs.Prelude.{◌==◌}
use Rattle.ld_base.specs.declared.object.Verneed.{Verneed}
use Rattle.scope_lists.specs.declared.version_places.names.VersionPlace.TheVariants.{Needed}
use Rattle.scope_lists.proofs.VersionPlaces.Noted.{noted_more}
use Rattle.scope_lists.proofs.version_places.noting.Noted.note_needed.Goals as goal

pub loop-number-preserved : goal.loop-number-preserved
loop-number-preserved c = λ k.
    noted_more (λ (n : Verneed). n.index == k) (λ n. Needed n) c.args.verneeds.now c.loop-number.number c.index-verneeds-number.result _ _ _ c.loop-number-test.true c.index-verneeds-number.is
    (c.loop-number.invariant k) (c.in_ok-note.ensures k)
