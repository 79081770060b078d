use Rattle.std.proofs.Common.{◌≡◌, ℕ, ◌<◌, ◌++◌, List, Some, map, length, get_or, pos, sym, ap, ◌∙◌}
use Rattle.std.specs.List.{slice_get}
use Rattle.std.proofs.lemmas.List.{take_all}
use Rattle.std.proofs.lemmas.Option.{get_or_from_slice_get, slice_get-get_or}
use Rattle.ld_base.specs.declared.linking.Choice.{Choice}
use Rattle.ld_base.specs.declared.object.Reloc.{Reloc}
use Rattle.relocator.specs.declared.binding.Binding.{Binding}
use Rattle.scope_rule.specs.Relocation.{choice_at}
use Rattle.scope_rule.specs.Seen.{Seen}
use Rattle.link_open_images.specs.ObjectBindings.Bindings.{Copies, binding_in, copied_by, copies_from, rela_binding}
use Rattle.link_open_images.proofs.ObjectBindings.Lists.{next_mapped}
use Rattle.link_open_images.proofs.object_bindings.binding.push_relas.Goals as goal

abbrev no_reloc : Reloc
no_reloc = record { place = 0; kind = 0; symbol = 0; addend = pos 0 }

pub loop-index-preserved : goal.loop-index-preserved
loop-index-preserved c = λ now are.
    let ns : Seen = c.args.indexed.now in
    let bytes : Copies = copies_from ns now c.args.made.now.places.now c.args.made.now.objects.now in
    let items : List Reloc = c.as_slice-reloc-items.result.now in
    let k : ℕ = c.loop-index.index in
    let lt : k < length items = c.loop-index-test.true in
    let r : Reloc = get_or items k no_reloc in
    let at : slice_get c.args.owner.now.object.relocs k ≡ Some r = ap (λ (rs : List Reloc). slice_get rs k) (sym c.as_slice-reloc-items.ensures) ∙ slice_get-get_or items k no_reloc lt in
    let choice : c.index-choices-index.result ≡ choice_at ns c.args.owner.now r =
    c.index-choices-index.is ∙ get_or_from_slice_get c.args.choices.now k (choice_at ns c.args.owner.now r) c.index-choices-index.result (c.requires.choices k r at) in
    let bound : c.in_ok-rela_binding.field-0 ≡ rela_binding bytes ns c.args.owner.now r =
    c.in_ok-rela_binding.ensures now are ∙ ap (λ (ch : Choice). copied_by bytes c.args.owner.now.object r (binding_in ns r ch)) choice in
    next_mapped (rela_binding bytes ns c.args.owner.now) items k no_reloc c.loop-index.bindings c.args.bindings.now c.push.new.self c.in_ok-rela_binding.field-0 lt c.in_ok-push.ensures.ok
    (c.loop-index.invariant now are) bound

pub returns : goal.returns
returns c = λ now are.
    let items : List Reloc = c.as_slice-reloc-items.result.now in
    let f : Reloc → Binding = rela_binding (copies_from c.args.indexed.now now c.args.made.now.places.now c.args.made.now.objects.now) c.args.indexed.now c.args.owner.now in
    c.loop-index.invariant now are
    ∙ ap (λ (rs : List Reloc). c.args.bindings.now ++ map f rs) (take_all c.loop-index.index items c.loop-index-test.false ∙ c.as_slice-reloc-items.ensures)
