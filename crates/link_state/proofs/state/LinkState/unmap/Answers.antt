use Rattle.std.proofs.Common.{◌≡◌, ℕ, ◌+◌, ◌≤◌, not, List, [], ◌∷◌, ◌++◌, length, map, Some, sym, ap, subst, ◌∙◌, arith}
use Rattle.std.specs.List.{count_by, filter, find, flat_map}
use Rattle.history_journal.specs.Following.{MayFollow, machine_of}
use Rattle.ld_base.specs.declared.linking.Loaded.{Loaded}
use Rattle.history_event.specs.declared.event.Event.TheVariants.{Unmapped}
use Rattle.history_event.specs.declared.event.Range.{Range}
use Rattle.history_state.specs.After.{after}
use Rattle.history_state.specs.Allowed.{MayUnmap}
use Rattle.history_state.specs.Held.{EdgesFollow}
use Rattle.history_state.specs.Objects.{has}
use Rattle.history_state.specs.Step.{goes_with, gone_in, is_left, unmap}
use Rattle.history_calls.specs.Waiting.{HasFinished}
use Rattle.link_spaces.specs.PendingClosingsPart.Pending.{is_of}
use Rattle.scope_rule.specs.declared.namespace.Namespace.{Namespace}
use Rattle.close_mark.specs.UnmapSteps.Touched.{is_of_set}
use Rattle.close_mark.specs.UnmappedObjects.Taken.{goes}
use Rattle.link_state.specs.Inside.{lists_of}
use Rattle.link_state.specs.Table.{LinkTable}
use Rattle.link_state.specs.Unmapping.{IsRemoved}
use Rattle.link_state.proofs.Granted.{appended_is}
use Rattle.link_holds.specs.Lemmas.Held.{follows, holds_after}
use Rattle.link_holds.specs.Lemmas.Unmapped.{AreWithout, IsTaken, all_unmapped, may_unmap, objects_fit, ranges_fit, taken, waiting}
use Rattle.link_state.proofs.state.LinkState.unmap.Goals as goal

pub unreachable-requires : goal.unreachable-requires
unreachable-requires c =
    let finished : HasFinished (after c.self.inside.journal.events) c.args.hart c.args.dying.now.list =
    subst (λ (v : LinkTable). HasFinished (after v.events) c.args.hart c.args.dying.now.list) (sym c.self.view_is) c.requires.finished in
    let p = waiting (after c.self.inside.journal.events) c.args.hart c.args.dying.now.list (lists_of c.self.inside) c.self.invariant finished in
    c.in_default.not-Some p.0 (c.take.ensures.taken ∙ ap (λ (ds : List ℕ). find (is_of c.args.hart ds) c.self.inside.closings.closings) c.as_slice.ensures ∙ p.1)

pub take_out-requires : goal.take_out-requires
take_out-requires c =
    let found : find (is_of c.args.hart c.args.dying.now.list) c.self.inside.closings.closings ≡ Some c.in-Some.pending =
    sym (c.in-Some.ensures.taken ∙ ap (λ (ds : List ℕ). find (is_of c.args.hart ds) c.self.inside.closings.closings) c.as_slice.ensures) in
    let is : IsTaken (after c.self.inside.journal.events) c.args.dying.now.list c.in-Some.pending =
    taken (after c.self.inside.journal.events) c.args.hart c.args.dying.now.list (lists_of c.self.inside) c.in-Some.pending c.self.invariant found in
    let fit : count_by (goes c.as_slice-2.result.now) (flat_map (λ (ns : Namespace). ns.objects) c.self.inside.namespaces) ≤ c.in-Some.pending.objects =
    objects_fit (after c.self.inside.journal.events) c.as_slice-2.result.now c.self.inside.namespaces c.in-Some.pending c.self.invariant.running.spaces
    (sym (c.as_slice-2.ensures ∙ c.into_lists-set.ensures.set)) is.roomy in
    let none : length c.into_lists-set.result.1.items ≡ 0 = ap length c.into_lists-set.ensures.no_objects in
    omega (arith, fit, none, c.into_lists-set.result.1.ok.0, c.into_lists-set.ensures.objects)

pub remove-requires : goal.remove-requires
remove-requires c =
    let found : find (is_of c.args.hart c.args.dying.now.list) c.self.inside.closings.closings ≡ Some c.in-Some.pending =
    sym (c.in-Some.ensures.taken ∙ ap (λ (ds : List ℕ). find (is_of c.args.hart ds) c.self.inside.closings.closings) c.as_slice.ensures) in
    let is : IsTaken (after c.self.inside.journal.events) c.args.dying.now.list c.in-Some.pending =
    taken (after c.self.inside.journal.events) c.args.hart c.args.dying.now.list (lists_of c.self.inside) c.in-Some.pending c.self.invariant found in
    let fit : count_by (goes_with c.as_slice-3.result.now) c.self.inside.reserved.ranges ≤ c.in-Some.pending.ranges =
    ranges_fit (after c.self.inside.journal.events) c.as_slice-3.result.now c.self.inside.reserved.ranges c.in-Some.pending c.self.invariant.memory.ranges
    (sym (c.as_slice-3.ensures ∙ c.into_lists-set.ensures.set)) is.roomy in
    let none : length c.into_lists-set.result.2.items ≡ 0 = ap length c.into_lists-set.ensures.no_ranges in
    omega (arith, fit, none, c.into_lists-set.result.2.ok.0, c.into_lists-set.ensures.ranges)

pub push_owed-requires-clause-may : goal.push_owed-requires-clause-may
push_owed-requires-clause-may c =
    let found : find (is_of c.args.hart c.args.dying.now.list) c.self.inside.closings.closings ≡ Some c.in-Some.pending =
    sym (c.in-Some.ensures.taken ∙ ap (λ (ds : List ℕ). find (is_of c.args.hart ds) c.self.inside.closings.closings) c.as_slice.ensures) in
    let is : IsTaken (after c.self.inside.journal.events) c.args.dying.now.list c.in-Some.pending =
    taken (after c.self.inside.journal.events) c.args.hart c.args.dying.now.list (lists_of c.self.inside) c.in-Some.pending c.self.invariant found in
    let may : MayUnmap (after c.self.inside.journal.events) c.args.hart c.args.dying.now.list =
    subst (λ (v : LinkTable). MayUnmap (after v.events) c.args.hart c.args.dying.now.list) (sym c.self.view_is) (may_unmap (after c.args.self.now.events) c.args.hart c.args.dying.now.list c.requires.finished c.requires.free) in
    subst (λ (ds : List ℕ). MayFollow c.self.inside.journal.harts c.self.inside.journal.events (Unmapped c.args.hart ds)) (sym (c.into_lists-set.ensures.set ∙ is.of))
    (follows c.self.inside.journal.harts c.self.inside.journal.events (Unmapped c.args.hart c.args.dying.now.list) may)

pub invariant_of-self : goal.invariant_of-self
invariant_of-self c =
    let found : find (is_of c.args.hart c.args.dying.now.list) c.self.inside.closings.closings ≡ Some c.in-Some.pending =
    sym (c.in-Some.ensures.taken ∙ ap (λ (ds : List ℕ). find (is_of c.args.hart ds) c.self.inside.closings.closings) c.as_slice.ensures) in
    let is : IsTaken (after c.self.inside.journal.events) c.args.dying.now.list c.in-Some.pending =
    taken (after c.self.inside.journal.events) c.args.hart c.args.dying.now.list (lists_of c.self.inside) c.in-Some.pending c.self.invariant found in
    let of : c.into_lists-set.result.0 ≡ c.args.dying.now.list = c.into_lists-set.ensures.set ∙ is.of in
    let may : MayUnmap (after c.self.inside.journal.events) c.args.hart c.into_lists-set.result.0 =
    subst (MayUnmap (after c.self.inside.journal.events) c.args.hart) (sym of)
    (subst (λ (v : LinkTable). MayUnmap (after v.events) c.args.hart c.args.dying.now.list) (sym c.self.view_is) (may_unmap (after c.args.self.now.events) c.args.hart c.args.dying.now.list c.requires.finished c.requires.free)) in
    let next : MayFollow c.self.inside.journal.harts c.self.inside.journal.events (Unmapped c.args.hart c.into_lists-set.result.0) =
    follows c.self.inside.journal.harts c.self.inside.journal.events (Unmapped c.args.hart c.into_lists-set.result.0) may in
    let follow : EdgesFollow (after c.self.inside.journal.events) (Unmapped c.args.hart c.into_lists-set.result.0) =
    c.edges_follow.ensures.follow (machine_of c.self.inside.journal.harts) next.setting c.self.inside.journal.events (Unmapped c.args.hart c.into_lists-set.result.0) c.journal.ensures.lawful next.may in
    let out : AreWithout c.args.hart c.into_lists-set.result.0 (lists_of c.self.inside) c.take_out.new.self c.remove.new.self c.remove_modules.new.modules c.remove-2.new.self c.remove-3.new.self c.remove-4.new.self c.take.new.self =
    record {
      spaces = c.take_out.ensures.namespaces ∙ ap (λ (ds : List ℕ). filter is_left (map (gone_in ds) c.self.inside.namespaces)) c.as_slice-2.ensures;
      ranges = c.remove.ensures.ranges ∙ ap (λ (ds : List ℕ). filter (λ r. not (goes_with ds r)) c.self.inside.reserved.ranges) c.as_slice-3.ensures;
      numbered = c.remove_modules.ensures.modules ∙ ap (λ (ds : List ℕ). filter (λ m. not (is_of_set ds m)) c.self.inside.modules.modules) c.as_slice-4.ensures;
      generation = c.remove_modules.ensures.generation ∙ ap (λ (ds : List ℕ). c.self.inside.modules.generation + length (filter (is_of_set ds) c.self.inside.modules.modules)) c.as_slice-4.ensures;
      size = c.remove_modules.ensures.size;
      tp = c.remove_modules.ensures.tp;
      late = c.remove-2.ensures ∙ ap (λ (ds : List ℕ). filter (λ b. not (has ds b.serial)) c.self.inside.blocks.blocks) c.as_slice-5.ensures;
      kept = c.remove-3.ensures.parts ∙ ap (λ (ds : List ℕ). filter (λ p. not (has ds p.serial)) c.self.inside.parts.parts) c.as_slice-6.ensures;
      from = c.remove-4.ensures.edges ∙ ap (λ (ds : List ℕ). filter (λ e. not (has ds e.source)) c.self.inside.edges.edges) c.as_slice-7.ensures;
      room = c.remove-4.ensures.room;
      waiting = c.take.ensures.closings ∙ ap (λ (ds : List ℕ). filter (λ p. not (is_of c.args.hart ds p)) c.self.inside.closings.closings) (c.as_slice.ensures ∙ sym of);
    } in
    holds_after (unmap c.args.hart c.into_lists-set.result.0 (after c.self.inside.journal.events)) (after c.push_owed.new.self.events)
    (record (lists_of c.self.inside) {
      namespaces = c.take_out.new.self;
      reserved = c.remove.new.self;
      modules = c.remove_modules.new.modules;
      blocks = c.remove-2.new.self;
      parts = c.remove-3.new.self;
      edges = c.remove-4.new.self;
      closings = c.take.new.self;
    }) c.push_owed.ensures.state
    (all_unmapped (after c.self.inside.journal.events) c.args.hart c.into_lists-set.result.0 (lists_of c.self.inside) c.take_out.new.self c.remove.new.self
    c.remove_modules.new.modules c.remove-2.new.self c.remove-3.new.self c.remove-4.new.self c.take.new.self c.self.invariant follow (c.parts_go.ensures c.into_lists-set.result.0) out)

pub returns-clause-state : goal.returns-clause-state
returns-clause-state c =
    let found : find (is_of c.args.hart c.args.dying.now.list) c.self.inside.closings.closings ≡ Some c.in-Some.pending =
    sym (c.in-Some.ensures.taken ∙ ap (λ (ds : List ℕ). find (is_of c.args.hart ds) c.self.inside.closings.closings) c.as_slice.ensures) in
    let is : IsTaken (after c.self.inside.journal.events) c.args.dying.now.list c.in-Some.pending =
    taken (after c.self.inside.journal.events) c.args.hart c.args.dying.now.list (lists_of c.self.inside) c.in-Some.pending c.self.invariant found in
    let events : c.push_owed.new.self.events ≡ c.args.self.now.events ++ Unmapped c.args.hart c.args.dying.now.list ∷ [] =
    c.push_owed.ensures.events ∙ ap (λ (v : LinkTable). v.events ++ Unmapped c.args.hart c.into_lists-set.result.0 ∷ []) c.self.view_is
    ∙ ap (λ (ds : List ℕ). c.args.self.now.events ++ Unmapped c.args.hart ds ∷ []) (c.into_lists-set.ensures.set ∙ is.of) in
    appended_is c.args.self.now c.push_owed.new.self.harts c.push_owed.new.self.events c.self.inside.made (Unmapped c.args.hart c.args.dying.now.list)
    (c.push_owed.ensures.harts ∙ ap (λ (v : LinkTable). v.harts) c.self.view_is) events (ap (λ (v : LinkTable). v.made) c.self.view_is)

pub returns-clause-removed : goal.returns-clause-removed
returns-clause-removed c =
    let found : find (is_of c.args.hart c.args.dying.now.list) c.self.inside.closings.closings ≡ Some c.in-Some.pending =
    sym (c.in-Some.ensures.taken ∙ ap (λ (ds : List ℕ). find (is_of c.args.hart ds) c.self.inside.closings.closings) c.as_slice.ensures) in
    let is : IsTaken (after c.self.inside.journal.events) c.args.dying.now.list c.in-Some.pending =
    taken (after c.self.inside.journal.events) c.args.hart c.args.dying.now.list (lists_of c.self.inside) c.in-Some.pending c.self.invariant found in
    let of : c.into_lists-set.result.0 ≡ c.args.dying.now.list = c.into_lists-set.ensures.set ∙ is.of in
    subst (λ (v : LinkTable). IsRemoved (after v.events) c.args.dying.now.list (record { objects = c.from.result; ranges = c.from-2.result })) c.self.view_is (record {
      objects = c.from.ensures ∙ c.take_out.ensures.gone
          ∙ ap (λ (os : List Loaded). os ++ filter (goes c.as_slice-2.result.now) (flat_map (λ (ns : Namespace). ns.objects) c.self.inside.namespaces)) c.into_lists-set.ensures.no_objects
          ∙ ap (λ (ds : List ℕ). filter (goes ds) (flat_map (λ (ns : Namespace). ns.objects) c.self.inside.namespaces)) (c.as_slice-2.ensures ∙ of)
          ∙ ap (λ (nss : List Namespace). filter (goes c.args.dying.now.list) (flat_map (λ (ns : Namespace). ns.objects) nss)) c.self.invariant.running.spaces;
      ranges = c.from-2.ensures ∙ c.remove.ensures.gone ∙ ap (λ (rs : List Range). rs ++ filter (goes_with c.as_slice-3.result.now) c.self.inside.reserved.ranges) c.into_lists-set.ensures.no_ranges
          ∙ ap (λ (ds : List ℕ). filter (goes_with ds) c.self.inside.reserved.ranges) (c.as_slice-3.ensures ∙ of)
          ∙ ap (filter (goes_with c.args.dying.now.list)) c.self.invariant.memory.ranges;
    })
