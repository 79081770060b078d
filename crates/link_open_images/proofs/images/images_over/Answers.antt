use Rattle.std.proofs.Common.{◌≡◌, suc, ◌-◌, ◌<◌, false, List, ◌∷◌, drop, take, length, get_or, Some, sym, ap, subst, ◌∙◌}
use Rattle.std.specs.List.{Contains, slice_get}
use Rattle.std.proofs.lemmas.Option.{slice_get-get_or}
use Rattle.ld_base.specs.declared.linking.Loaded.{Loaded}
use Rattle.ld_base.specs.declared.object.Reloc.{Reloc}
use Rattle.link_open_images.specs.ObjectBindings.Bindings.{bindings_in, copies_from, none_copied}
use Rattle.link_open_images.specs.Relocated.{AreBehind, AreRelocated, MayRelocate, copies_among}
use Rattle.link_open_images.specs.Lemmas.Libraries.{copies_alike}
use Rattle.link_open_images.proofs.Places.{behind_at, if_ok, relocated_all, rest_is, split}
use Rattle.relocator.specs.Bindings.{is_copy}
use Rattle.relocator.specs.declared.binding.Binding.{Binding}
use Rattle.scope_rule.specs.Seen.{Seen}
use Rattle.link_open_images.proofs.images.images_over.Goals as goal

pub images_behind-requires-clause-first : goal.images_behind-requires-clause-first
images_behind-requires-clause-first c =
    let some : 0 < length c.args.objects.now = c.requires.some in
    let at : slice_get c.args.objects.now 0 ≡ Some c.index-objects-0.result =
    slice_get-get_or c.args.objects.now 0 c.index-objects-0.result some ∙ ap (λ (o : Loaded). Some o) (sym c.index-objects-0.is) in
    subst (λ (rest : List Loaded). MayRelocate c.index-objects-0.result
    (bindings_in (copies_from c.args.indexed.now c.args.now c.args.places.now rest) c.args.indexed.now c.args.now c.index-objects-0.result) c.args.places.now)
    (sym (rest_is c.args.objects.now)) (c.requires.may.each 0 c.index-objects-0.result at)

pub images_behind-requires-clause-rest : goal.images_behind-requires-clause-rest
images_behind-requires-clause-rest c = λ k o at.
    let ns : Seen = c.args.indexed.now in
    let some : 0 < length c.args.objects.now = c.requires.some in
    let rest : List Loaded = take (length c.args.objects.now - 1) (drop 1 c.args.objects.now) in
    let are : c.args.objects.now ≡ get_or c.args.objects.now 0 c.index-objects-0.result ∷ rest = split c.args.objects.now c.index-objects-0.result some in
    let libraries : (r : Reloc) → Contains o.object.relocs r → is_copy r ≡ false =
    c.requires.may.libraries k o (ap (λ (os : List Loaded). slice_get os k) (sym (rest_is c.args.objects.now)) ∙ at) in
    subst (λ (bs : List Binding). MayRelocate o bs c.args.places.now)
    (copies_alike (copies_among ns c.args.now c.args.places.now c.args.objects.now) none_copied ns c.args.now o libraries)
    (c.requires.may.each (suc k) o (behind_at (get_or c.args.objects.now 0 c.index-objects-0.result) rest c.args.objects.now are k o at))

pub returns : goal.returns
returns c =
    let ns : Seen = c.args.indexed.now in
    let some : 0 < length c.args.objects.now = c.requires.some in
    let rest : List Loaded = take (length c.args.objects.now - 1) (drop 1 c.args.objects.now) in
    let first : Loaded = c.index-objects-0.result in
    let are : c.args.objects.now ≡ first ∷ rest =
    split c.args.objects.now c.index-objects-0.result some ∙ ap (λ (o : Loaded). o ∷ rest) (sym c.index-objects-0.is) in
    if_ok c.images_behind.result (AreBehind ns c.args.now c.args.places.now first rest) (AreRelocated ns c.args.now c.args.places.now c.args.objects.now)
    (λ images behind.
    subst (λ (os : List Loaded). AreRelocated ns c.args.now c.args.places.now os images) (sym are)
    (relocated_all ns c.args.now c.args.places.now first rest images behind
    (λ k o at. c.requires.may.libraries k o (ap (λ (os : List Loaded). slice_get os k) (sym (rest_is c.args.objects.now)) ∙ at))))
    c.images_behind.ensures
