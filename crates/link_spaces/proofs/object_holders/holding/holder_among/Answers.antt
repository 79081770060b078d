use Rattle.std.proofs.Common.{◌≡◌, ◌<◌, false, length, sym, ◌∙◌, arith}
use Rattle.ld_base.specs.declared.linking.Loaded.{Loaded}
use Rattle.history_state.specs.Memory.{holds}
use Rattle.link_spaces.proofs.ObjectHolders.Passing.{is_in, passed_more}
use Rattle.link_spaces.proofs.object_holders.holding.holder_among.Goals as goal

pub holds-requires : goal.holds-requires
holds-requires c =
    let lt : c.loop-object.object-index < length c.args.objects.now = omega arith in
    c.requires c.object-item.result (is_in c.args.objects.now c.loop-object.object-index c.object-item.result lt c.object-item.is)

pub loop-object-preserved : goal.loop-object-preserved
loop-object-preserved c =
    let lt : c.loop-object.object-index < length c.args.objects.now = omega arith in
    let here : holds c.object-item.result c.args.address ≡ false = sym c.holds.ensures ∙ c.if-holds.false in
    passed_more (λ (o : Loaded). holds o c.args.address ≡ false) c.args.objects.now c.loop-object.object-index c.object-item.result lt c.object-item.is c.loop-object.invariant here
