use Rattle.std.proofs.Common.{◌≡◌, ℕ, ◌≤◌, List, length, sym, ap, subst, arith}
use Rattle.std.proofs.lemmas.List.{with_items_is}
use Rattle.std.specs.Vec.{vec_capacity, with_items}
use Rattle.hart_seat.specs.Table.{HartTable}
use Rattle.world_answers.specs.GuestsPart.GuestWorlds.Coming.{LeavesHart}
use Rattle.world_answers.specs.GuestsPart.GuestWorlds.Worlds.{MayBeAt, TakesOver, world_of}
use Rattle.world_answers.specs.GuestsPart.Counting.{IsCounted, counts_at}
use Rattle.world_answers.specs.GuestsPart.Next.{NextOpens, NextReadsNothing, NextTells}
use Rattle.world_turns.specs.World.{World}
use Rattle.plain_world.specs.Inside.{world_in}
use Rattle.plain_world.specs.Table.{WorldTable}
use Rattle.plain_world.proofs.Telling.{turn_seen}
use Rattle.plain_world.proofs.world.World.turn.Goals as goal

pub invariant_of-self : goal.invariant_of-self
invariant_of-self g c =
    let new : World = world_of c.take_turn.new.state c.take_turn.new.memory c.take_turn.new.harts in
    let same = c.take_turn.auto.harts in
    let were : length c.as_mut_slice-harts.result.now ≡ length c.self.inside.harts.items =
    ap (λ (hs : List HartTable). length hs) c.as_mut_slice-harts.ensures.value in
    let counted = c.self.inside.harts.ok.0 in
    let long : length c.take_turn.new.harts ≡ c.self.inside.harts.len = omega (arith, same, were, counted) in
    let kept : (with_items c.self.inside.harts c.take_turn.new.harts).items ≡ c.take_turn.new.harts = with_items_is c.self.inside.harts c.take_turn.new.harts long in
    record {
      some = subst (λ (n : ℕ). 1 ≤ n) (sym c.take_turn.ensures.count) c.self.invariant.some;
      at = subst (λ (hs : List HartTable). MayBeAt c.take_turn.new.state.harts c.self.inside.folders c.self.inside.begun
          (world_of c.take_turn.new.state c.take_turn.new.memory hs)) (sym kept)
          (subst (λ (n : ℕ). MayBeAt n c.self.inside.folders c.self.inside.begun new) (sym c.take_turn.ensures.count)
          (c.runs_stay.ensures.turns c.self.inside.state.harts c.self.inside.folders (g.L.Library.files c.args.library.now) c.self.inside.begun c.args.id
          (world_in c.self.inside) new c.self.invariant.at
          (subst (λ (hs : List HartTable). TakesOver c.self.inside.state.harts c.self.inside.folders (g.L.Library.files c.args.library.now) c.args.id
          (world_of c.self.inside.state c.self.inside.memory hs) new) c.as_mut_slice-harts.ensures.value c.take_turn.ensures.takes)));
      no_ends = c.self.invariant.no_ends;
      room = subst (λ (n : ℕ). n ≤ vec_capacity c.self.inside.ends) (sym c.take_turn.ensures.count) c.self.invariant.room;
    }

pub returns-clause-takes : goal.returns-clause-takes
returns-clause-takes g c =
    let same = c.take_turn.auto.harts in
    let were : length c.as_mut_slice-harts.result.now ≡ length c.self.inside.harts.items =
    ap (λ (hs : List HartTable). length hs) c.as_mut_slice-harts.ensures.value in
    let counted = c.self.inside.harts.ok.0 in
    let long : length c.take_turn.new.harts ≡ c.self.inside.harts.len = omega (arith, same, were, counted) in
    let kept : (with_items c.self.inside.harts c.take_turn.new.harts).items ≡ c.take_turn.new.harts = with_items_is c.self.inside.harts c.take_turn.new.harts long in
    turn_seen (λ (t : WorldTable) (v : World). TakesOver t.count t.folders (g.L.Library.files c.args.library.now) c.args.id t.world v)
    c.self.inside c.as_mut_slice-harts.result.now c.args.self.now c.take_turn.new.state c.take_turn.new.memory c.take_turn.new.harts
    (with_items c.self.inside.harts c.take_turn.new.harts).items c.as_mut_slice-harts.ensures.value c.self.view_is kept c.take_turn.ensures.takes

pub returns-clause-comes : goal.returns-clause-comes
returns-clause-comes g c =
    let same = c.take_turn.auto.harts in
    let were : length c.as_mut_slice-harts.result.now ≡ length c.self.inside.harts.items =
    ap (λ (hs : List HartTable). length hs) c.as_mut_slice-harts.ensures.value in
    let counted = c.self.inside.harts.ok.0 in
    let long : length c.take_turn.new.harts ≡ c.self.inside.harts.len = omega (arith, same, were, counted) in
    let kept : (with_items c.self.inside.harts c.take_turn.new.harts).items ≡ c.take_turn.new.harts = with_items_is c.self.inside.harts c.take_turn.new.harts long in
    turn_seen (λ (t : WorldTable) (v : World). LeavesHart t.world v c.args.id c.take_turn.result)
    c.self.inside c.as_mut_slice-harts.result.now c.args.self.now c.take_turn.new.state c.take_turn.new.memory c.take_turn.new.harts
    (with_items c.self.inside.harts c.take_turn.new.harts).items c.as_mut_slice-harts.ensures.value c.self.view_is kept c.take_turn.ensures.comes

pub returns-clause-tells : goal.returns-clause-tells
returns-clause-tells g c =
    let same = c.take_turn.auto.harts in
    let were : length c.as_mut_slice-harts.result.now ≡ length c.self.inside.harts.items =
    ap (λ (hs : List HartTable). length hs) c.as_mut_slice-harts.ensures.value in
    let counted = c.self.inside.harts.ok.0 in
    let long : length c.take_turn.new.harts ≡ c.self.inside.harts.len = omega (arith, same, were, counted) in
    let kept : (with_items c.self.inside.harts c.take_turn.new.harts).items ≡ c.take_turn.new.harts = with_items_is c.self.inside.harts c.take_turn.new.harts long in
    turn_seen (λ (t : WorldTable) (v : World). NextTells t.count t.folders (g.L.Library.files c.args.library.now) t.world v.journal c.args.id c.take_turn.result)
    c.self.inside c.as_mut_slice-harts.result.now c.args.self.now c.take_turn.new.state c.take_turn.new.memory c.take_turn.new.harts
    (with_items c.self.inside.harts c.take_turn.new.harts).items c.as_mut_slice-harts.ensures.value c.self.view_is kept c.take_turn.ensures.tells

pub returns-clause-whole : goal.returns-clause-whole
returns-clause-whole g c =
    let same = c.take_turn.auto.harts in
    let were : length c.as_mut_slice-harts.result.now ≡ length c.self.inside.harts.items =
    ap (λ (hs : List HartTable). length hs) c.as_mut_slice-harts.ensures.value in
    let counted = c.self.inside.harts.ok.0 in
    let long : length c.take_turn.new.harts ≡ c.self.inside.harts.len = omega (arith, same, were, counted) in
    let kept : (with_items c.self.inside.harts c.take_turn.new.harts).items ≡ c.take_turn.new.harts = with_items_is c.self.inside.harts c.take_turn.new.harts long in
    turn_seen (λ (t : WorldTable) (v : World). NextOpens t.count t.folders (g.L.Library.files c.args.library.now) (g.L.Library.faults c.args.library.now) (g.L.Library.faults c.take_turn.new.library) t.world v.journal
    c.args.id c.take_turn.result)
    c.self.inside c.as_mut_slice-harts.result.now c.args.self.now c.take_turn.new.state c.take_turn.new.memory c.take_turn.new.harts
    (with_items c.self.inside.harts c.take_turn.new.harts).items c.as_mut_slice-harts.ensures.value c.self.view_is kept c.take_turn.ensures.whole

pub returns-clause-counts : goal.returns-clause-counts
returns-clause-counts g c =
    let same = c.take_turn.auto.harts in
    let were : length c.as_mut_slice-harts.result.now ≡ length c.self.inside.harts.items =
    ap (λ (hs : List HartTable). length hs) c.as_mut_slice-harts.ensures.value in
    let counted = c.self.inside.harts.ok.0 in
    let long : length c.take_turn.new.harts ≡ c.self.inside.harts.len = omega (arith, same, were, counted) in
    let kept : (with_items c.self.inside.harts c.take_turn.new.harts).items ≡ c.take_turn.new.harts = with_items_is c.self.inside.harts c.take_turn.new.harts long in
    turn_seen (λ (t : WorldTable) (v : World). IsCounted t.folders t.world v (counts_at g.L.Library.faults g.L.Library.misses c.args.library.now)
    (counts_at g.L.Library.faults g.L.Library.misses c.take_turn.new.library))
    c.self.inside c.as_mut_slice-harts.result.now c.args.self.now c.take_turn.new.state c.take_turn.new.memory c.take_turn.new.harts
    (with_items c.self.inside.harts c.take_turn.new.harts).items c.as_mut_slice-harts.ensures.value c.self.view_is kept c.take_turn.ensures.counts

pub returns-clause-unread : goal.returns-clause-unread
returns-clause-unread g c = λ reads.
    c.take_turn.ensures.unread
    (subst (λ (hs : List HartTable). NextReadsNothing (world_of c.self.inside.state c.self.inside.memory hs) c.args.id) (sym c.as_mut_slice-harts.ensures.value)
    (subst (λ (t : WorldTable). NextReadsNothing t.world c.args.id) (sym c.self.view_is) reads))
