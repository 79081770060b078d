use Rattle.std.proofs.Common.{◌≡◌, ℕ, ◌≤◌, List, length, sym, ap, subst, ◌∙◌, arith}
use Rattle.std.proofs.lemmas.List.{with_items_is}
use Rattle.std.specs.Vec.{vec_capacity, with_items}
use Rattle.link_state.specs.Table.{LinkTable}
use Rattle.world_memory.specs.TurnAnswers.Following.{MayFollowAll}
use Rattle.hart_seat.specs.Table.{HartTable}
use Rattle.world_answers.specs.ReturnsPart.Settling.{harts_in}
use Rattle.world_answers.specs.GuestsPart.GuestWorlds.Worlds.{MayBeAt, world_of}
use Rattle.world_turns.specs.Run.{settled}
use Rattle.world_turns.specs.World.{settling}
use Rattle.plain_world.specs.Inside.{world_in}
use Rattle.plain_world.specs.Table.{WorldTable, moved}
use Rattle.plain_world.proofs.Parts.{same_table, settled_at, settles_to}
use Rattle.plain_world.proofs.world.World.settle.Goals as goal

pub settle_all-requires : goal.settle_all-requires
settle_all-requires c =
    subst (λ (hs : List HartTable). MayFollowAll c.self.inside.state.harts c.self.inside.state.events (settling (harts_in hs))) (sym c.as_mut_slice.ensures.value)
    (c.guests_may_turn.ensures.settles c.self.inside.state.harts c.self.inside.folders c.self.inside.begun (world_in c.self.inside) c.self.invariant.at).may

pub invariant_of-self : goal.invariant_of-self
invariant_of-self c =
    let same = c.settle_all.auto.harts in
    let were : length c.as_mut_slice.result.now ≡ length c.self.inside.harts.items = ap (λ (hs : List HartTable). length hs) c.as_mut_slice.ensures.value in
    let counted = c.self.inside.harts.ok.0 in
    let long : length c.settle_all.new.harts ≡ c.self.inside.harts.len = omega (arith, same, were, counted) in
    let kept : (with_items c.self.inside.harts c.settle_all.new.harts).items ≡ c.settle_all.new.harts =
    with_items_is c.self.inside.harts c.settle_all.new.harts long in
    record {
      some = subst (λ (n : ℕ). 1 ≤ n) (sym (ap (λ (s : LinkTable). s.harts) c.settle_all.ensures.journal)) c.self.invariant.some;
      at = subst (λ (hs : List HartTable). MayBeAt c.settle_all.new.state.harts c.self.inside.folders c.self.inside.begun
          (world_of c.settle_all.new.state c.self.inside.memory hs)) (sym kept)
          (settled_at c.self.inside.folders c.self.inside.begun c.self.inside.state c.settle_all.new.state c.self.inside.memory c.as_mut_slice.result.now
          c.self.inside.harts.items c.settle_all.new.harts c.as_mut_slice.ensures.value c.settle_all.ensures.journal c.settle_all.ensures.harts
          (c.guests_may_turn.ensures.settles c.self.inside.state.harts c.self.inside.folders c.self.inside.begun (world_in c.self.inside) c.self.invariant.at).at);
      no_ends = c.self.invariant.no_ends;
      room = subst (λ (n : ℕ). n ≤ vec_capacity c.self.inside.ends) (sym (ap (λ (s : LinkTable). s.harts) c.settle_all.ensures.journal)) c.self.invariant.room;
    }

pub returns : goal.returns
returns c =
    let same = c.settle_all.auto.harts in
    let were : length c.as_mut_slice.result.now ≡ length c.self.inside.harts.items = ap (λ (hs : List HartTable). length hs) c.as_mut_slice.ensures.value in
    let counted = c.self.inside.harts.ok.0 in
    let long : length c.settle_all.new.harts ≡ c.self.inside.harts.len = omega (arith, same, were, counted) in
    let kept : (with_items c.self.inside.harts c.settle_all.new.harts).items ≡ c.settle_all.new.harts =
    with_items_is c.self.inside.harts c.settle_all.new.harts long in
    same_table c.self.inside.folders c.self.inside.entry c.self.inside.begun c.settle_all.new.state.harts c.self.inside.state.harts
    (world_of c.settle_all.new.state c.self.inside.memory (with_items c.self.inside.harts c.settle_all.new.harts).items) (settled (world_in c.self.inside))
    (ap (λ (s : LinkTable). s.harts) c.settle_all.ensures.journal)
    (ap (λ (hs : List HartTable). world_of c.settle_all.new.state c.self.inside.memory hs) kept
    ∙ settles_to c.self.inside.state c.settle_all.new.state c.self.inside.memory c.as_mut_slice.result.now c.settle_all.new.harts c.settle_all.ensures.journal
    c.settle_all.ensures.harts
    ∙ ap (λ (hs : List HartTable). settled (world_of c.self.inside.state c.self.inside.memory hs)) c.as_mut_slice.ensures.value)
    ∙ ap (λ (t : WorldTable). moved t (settled t.world)) c.self.view_is
