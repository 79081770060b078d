use Rattle.std.proofs.Common.{◌≡◌, sym, ap, ◌∙◌, arith}
use Rattle.std.specs.Vec.{vec_capacity}
use Rattle.ld_base.specs.declared.linking.Loaded.{Loaded}
use Rattle.link_images.specs.ImageReads.Reads.{constructors_in}
use Rattle.link_images.proofs.ObjectFunctions.Places.{read_is}
use Rattle.link_images.proofs.object_functions.rooms.Room.new.Goals as goal

pub returns-clause-enough : goal.returns-clause-enough
returns-clause-enough c =
    let is = c.place_of-place.ensures.is in
    let same : c.index-added-place.result ≡ is.of = read_is c.args.added.now c.place_of-place.result is.of c.index-added-place.result is.at c.index-added-place.is in
    let count : constructors_in is.of.object ≡ c.constructor_count-count.result = sym (c.constructor_count-count.ensures ∙ ap (λ (o : Loaded). constructors_in o.object) (sym c.index-added-place.is ∙ same)) in
    let exact : vec_capacity c.in_ok-with_capacity.field-0 ≡ c.constructor_count-count.result = c.in_ok-with_capacity.ensures.exact in
    record { of = is.of; at = is.at; is = is.is; enough = omega (arith, count, exact) }
