use Rattle.std.proofs.Common.{◌≡◌, List, length, sym, ap, subst, arith}
use Rattle.std.proofs.lemmas.List.{with_items_is}
use Rattle.std.specs.Vec.{with_items}
use Rattle.hart_seat.specs.Table.{HartTable}
use Rattle.world_answers.specs.GuestsPart.GuestWorlds.Worlds.{MayBeAt, world_of}
use Rattle.world_turns.specs.World.{World}
use Rattle.plain_world.specs.Inside.{world_in}
use Rattle.plain_world.specs.Stretches.{TakesStretch}
use Rattle.plain_world.specs.Table.{WorldTable}
use Rattle.plain_world.proofs.Stretches.{stretch_stays}
use Rattle.plain_world.proofs.Telling.{turn_seen}
use Rattle.plain_world.proofs.world.World.stretch.Goals as goal

pub invariant_of-self : goal.invariant_of-self
invariant_of-self c =
    let same = c.take_stretch.auto.harts in
    let were : length c.as_mut_slice-harts.result.now ≡ length c.self.inside.harts.items =
    ap (λ (hs : List HartTable). length hs) c.as_mut_slice-harts.ensures.value in
    let counted = c.self.inside.harts.ok.0 in
    let long : length c.take_stretch.new.harts ≡ c.self.inside.harts.len = omega (arith, same, were, counted) in
    let kept : (with_items c.self.inside.harts c.take_stretch.new.harts).items ≡ c.take_stretch.new.harts = with_items_is c.self.inside.harts c.take_stretch.new.harts long in
    let new : World = world_of c.self.inside.state c.take_stretch.new.memory c.take_stretch.new.harts in
    record {
      some = c.self.invariant.some;
      at = subst (λ (hs : List HartTable). MayBeAt c.self.inside.state.harts c.self.inside.folders c.self.inside.begun
          (world_of c.self.inside.state c.take_stretch.new.memory hs)) (sym kept)
          (stretch_stays c.runs_stay.ensures.turns c.self.inside.state.harts c.self.inside.folders c.self.inside.begun c.args.id c.take_stretch.result
          (world_in c.self.inside) new c.self.invariant.at
          (subst (λ (hs : List HartTable). TakesStretch c.args.id c.take_stretch.result (world_of c.self.inside.state c.self.inside.memory hs) new)
          c.as_mut_slice-harts.ensures.value (c.take_stretch.ensures.takes c.self.inside.state)));
      no_ends = c.self.invariant.no_ends;
      room = c.self.invariant.room;
    }

pub returns-clause-takes : goal.returns-clause-takes
returns-clause-takes c =
    let same = c.take_stretch.auto.harts in
    let were : length c.as_mut_slice-harts.result.now ≡ length c.self.inside.harts.items =
    ap (λ (hs : List HartTable). length hs) c.as_mut_slice-harts.ensures.value in
    let counted = c.self.inside.harts.ok.0 in
    let long : length c.take_stretch.new.harts ≡ c.self.inside.harts.len = omega (arith, same, were, counted) in
    let kept : (with_items c.self.inside.harts c.take_stretch.new.harts).items ≡ c.take_stretch.new.harts = with_items_is c.self.inside.harts c.take_stretch.new.harts long in
    turn_seen (λ (t : WorldTable) (v : World). TakesStretch c.args.id c.take_stretch.result t.world v)
    c.self.inside c.as_mut_slice-harts.result.now c.args.self.now c.self.inside.state c.take_stretch.new.memory c.take_stretch.new.harts
    (with_items c.self.inside.harts c.take_stretch.new.harts).items c.as_mut_slice-harts.ensures.value c.self.view_is kept
    (c.take_stretch.ensures.takes c.self.inside.state)
