use Rattle.std.proofs.Common.{◌≡◌, ◌∙◌, ap, get_or, length, refl}
use Rattle.ld_base.specs.declared.linking.Loaded.{Loaded}
use Rattle.scope_rule.specs.Relocation.{choice_at}
use Rattle.sym_lookup.specs.References.{Referring}
use Rattle.cli_text.proofs.Slots.{slot_step, named_rest, named_second, named_here, read_at, no_reloc}
use Rattle.cli_text.proofs.lines.write_each_slot.Goals as goal

pub loop-number-init : goal.loop-number-init
loop-number-init c = record {
  written = refl;
  same = refl;
  rest = rw c.as_slice-slot-items.ensures (named_second (length c.args.owner.now.object.symbols) c.args.owner.now.object.relocs c.args.owner.now.object.plt_relocs c.requires.names);
}

pub loop-number-preserved : goal.loop-number-preserved
loop-number-preserved c =
    let symbols = c.args.owner.now.object.symbols in
    let slots = c.as_slice-slot-items.result.now in
    let n = c.loop-number.number in
    let lt = c.loop-number-test.true in
    let here = named_here (length symbols) n slots no_reloc lt c.loop-number.invariant.rest in
    let slot = get_or slots n no_reloc in
    let seen = c.args.references.now.seen in
    let chosen : c.choice-choice.result ≡ choice_at seen c.args.owner.now slot =
    c.choice-choice.ensures.choice
    ∙ ap (λ (r : Referring). choice_at r.seen r.owner slot) c.loop-number.invariant.same
    ∙ ap (λ (o : Loaded). choice_at seen o slot) c.requires.owner in
    record {
      written = slot_step c.args.references.now.seen c.args.owner.now _ _ _ n slots no_reloc c.index-as_slice-slot.result c.choice-choice.result lt (read_at symbols c.as_slice.result.now _ c.index-as_slice-slot.result c.as_slice.ensures.value here c.index-as_slice-slot.is) chosen c.in_ok-write_slot.ensures c.loop-number.invariant.written;
      same = c.choice-choice.ensures.same ∙ c.loop-number.invariant.same;
      rest = named_rest (length symbols) n slots no_reloc lt c.loop-number.invariant.rest;
    }
