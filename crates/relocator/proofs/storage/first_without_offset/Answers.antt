use Rattle.std.proofs.Common.{◌≡◌, ◌∙◌, ap, length, drop, sym, arith}
use Rattle.std.proofs.lemmas.Slice.Zip.{length-zip}
use Rattle.std.specs.List.{find, zip}
use Rattle.std.specs.Option.{option_map}
use Rattle.ld_base.specs.declared.object.Reloc.{Reloc}
use Rattle.relocator.specs.declared.binding.Binding.{Binding}
use Rattle.relocator.specs.Storage.{first_without_offset, lacks_offset}
use Rattle.relocator.proofs.Pairs.{pairs_from, search_end, search_hit, search_on}
use Rattle.relocator.proofs.storage.first_without_offset.Goals as goal

pub returns-then-lacks_offset : goal.returns-then-lacks_offset
unfolding first_without_offset
returns-then-lacks_offset c =
    let o = c.args.object.now in
    let bindings = c.args.bindings.now in
    let test = lacks_offset c.args.serial c.args.places.now in
    let so_far : find test (drop c.loop-index.index (zip o.relocs bindings)) ≡ find test (zip o.relocs bindings) = rw c.as_slice-bindings.ensures at c.loop-index.invariant in
    let here = pairs_from c.as_slice-reloc-items.result.now o.relocs c.as_slice-bindings.result.now bindings c.as_slice-reloc-items.ensures c.as_slice-bindings.ensures
    c.loop-index.index _ c.index-bindings-index.result c.requires c.loop-index-test.true c.index-bindings-index.is in
    ap (option_map (λ (x : Reloc × Binding). x.0.place)) (sym (search_hit test (zip o.relocs bindings) c.loop-index.index so_far _ here (sym c.lacks_offset.ensures ∙ c.if-lacks_offset.true)))

pub loop-index-preserved : goal.loop-index-preserved
loop-index-preserved c =
    let o = c.args.object.now in
    let bindings = c.args.bindings.now in
    let test = lacks_offset c.args.serial c.args.places.now in
    let so_far : find test (drop c.loop-index.index (zip o.relocs bindings)) ≡ find test (zip o.relocs bindings) = rw c.as_slice-bindings.ensures at c.loop-index.invariant in
    let here = pairs_from c.as_slice-reloc-items.result.now o.relocs c.as_slice-bindings.result.now bindings c.as_slice-reloc-items.ensures c.as_slice-bindings.ensures
    c.loop-index.index _ c.index-bindings-index.result c.requires c.loop-index-test.true c.index-bindings-index.is in
    rw c.as_slice-bindings.ensures (search_on test (zip o.relocs bindings) c.loop-index.index so_far _ here (sym c.lacks_offset.ensures ∙ c.if-lacks_offset.false))

pub returns : goal.returns
unfolding first_without_offset
returns c =
    let o = c.args.object.now in
    let bindings = c.args.bindings.now in
    let test = lacks_offset c.args.serial c.args.places.now in
    let so_far : find test (drop c.loop-index.index (zip o.relocs bindings)) ≡ find test (zip o.relocs bindings) = rw c.as_slice-bindings.ensures at c.loop-index.invariant in
    let long = length-zip o.relocs bindings in
    let past = c.loop-index-test.false in
    let same = ap length c.as_slice-reloc-items.ensures in
    ap (option_map (λ (x : Reloc × Binding). x.0.place)) (sym (search_end test (zip o.relocs bindings) c.loop-index.index so_far (omega arith)))
