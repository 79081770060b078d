use Rattle.std.proofs.Common.{◌≡◌, ℕ, Option, subst, sym}
use Rattle.std.specs.List.{slice_get}
use Rattle.std.specs.Prelude.{IfSome}
use Rattle.scope_lists.specs.Searched.{at_place}
use Rattle.scope_lists.specs.VersionPlaces.Places.{places_of}
use Rattle.sym_lookup.proofs.Searches.{names_there}
use Rattle.sym_lookup.proofs.searched.names_of.Goals as goal

pub returns-in-Some : goal.returns-in-Some
returns-in-Some c = λ s are.
    let P : Option ℕ → Type 0 = λ place. IfSome (at_place s place) (λ o. IfSome c.names_at.result (λ n. n.now ≡ places_of o.object)) in
    subst P (sym c.in-Some.is) (names_there (slice_get s.objects c.in-Some.place) c.names_at.result (λ o here. c.names_at.ensures s o are here))
