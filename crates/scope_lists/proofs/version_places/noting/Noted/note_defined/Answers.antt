use Rattle.std.specs.Prelude.{◌==◌, ◌&&◌, not}
use Rattle.ld_base.specs.Version.{is_base}
use Rattle.ld_base.specs.declared.object.Verdef.{Verdef}
use Rattle.scope_lists.specs.declared.version_places.names.VersionPlace.TheVariants.{Defined}
use Rattle.scope_lists.proofs.VersionPlaces.Noted.{noted_more}
use Rattle.scope_lists.proofs.version_places.noting.Noted.note_defined.Goals as goal

pub loop-number-preserved : goal.loop-number-preserved
loop-number-preserved c = λ k.
    noted_more (λ (d : Verdef). d.index == k && not (is_base d)) (λ n. Defined n) c.args.verdefs.now c.loop-number.number c.index-verdefs-number.result _ _ _ c.loop-number-test.true c.index-verdefs-number.is
    (c.loop-number.invariant k) (c.in_ok-note_verdef.ensures k)
