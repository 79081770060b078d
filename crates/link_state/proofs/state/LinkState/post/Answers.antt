use Rattle.std.proofs.Common.{◌≡◌, ℕ, ◌+◌, List, [], ◌∷◌, ◌++◌, length, refl, sym, ap, subst, ◌∙◌}
use Rattle.history_journal.specs.Following.{MayFollow, machine_of}
use Rattle.history_event.specs.declared.event.Event.{Event}
use Rattle.history_event.specs.declared.event.Event.TheVariants.{Grant}
use Rattle.history_event.specs.declared.handed.Granted.{Granted}
use Rattle.history_event.specs.declared.state.Granting.{Granting}
use Rattle.history_event.specs.declared.state.Standing.TheVariants.{Open}
use Rattle.history_state.specs.After.{after}
use Rattle.history_state.specs.Allowed.{MayGrant}
use Rattle.history_state.specs.Held.{EdgesFollow}
use Rattle.history_state.specs.Slots.{HasNoGrant}
use Rattle.history_state.specs.Step.{step}
use Rattle.link_finds.specs.SlotChoosing.Choosing.{ChoosesSlot}
use Rattle.link_state.specs.Granting.{IsGranted}
use Rattle.link_state.specs.Inside.{lists_of}
use Rattle.link_state.specs.Table.{LinkTable}
use Rattle.link_state.proofs.Granted.{appended_is, gives_grant, may_grant}
use Rattle.link_holds.specs.Lemmas.Granted.{all_granted, all_roomier}
use Rattle.link_holds.specs.Lemmas.Held.{follows, holds_after}
use Rattle.link_state.proofs.state.LinkState.post.Goals as goal

pub push-requires-clause-may : goal.push-requires-clause-may
push-requires-clause-may c =
    let free : HasNoGrant (after c.self.inside.journal.events) c.args.hart = subst (λ (v : LinkTable). HasNoGrant (after v.events) c.args.hart) (sym c.self.view_is) c.requires.free in
    let chosen : ChoosesSlot (after c.self.inside.journal.events) c.args.owner c.args.eights c.args.chosen.now =
    subst (λ (v : LinkTable). ChoosesSlot (after v.events) c.args.owner c.args.eights c.args.chosen.now) (sym c.self.view_is) c.requires.chosen in
    let may : MayGrant (after c.self.inside.journal.events) c.in-Some.number c.args.hart c.args.owner c.args.chosen.now.slot c.args.chosen.now.choice c.args.chosen.now.value =
    may_grant (after c.self.inside.journal.events) c.args.hart c.args.owner c.args.eights c.in-Some.number c.args.chosen.now free chosen c.requires.code
    (c.in-Some.ensures.number ∙ ap (λ n. n + 1) c.self.invariant.running.count) in
    subst (λ (es : List Event). MayFollow c.room_for_grant.new.journal.harts es c.grant_event.result) (sym c.room_for_grant.ensures.events)
    (subst (MayFollow c.room_for_grant.new.journal.harts c.self.inside.journal.events) (sym c.grant_event.ensures)
    (follows c.room_for_grant.new.journal.harts c.self.inside.journal.events
    (Grant c.in-Some.number c.args.hart c.args.owner c.args.chosen.now.slot c.args.chosen.now.choice c.args.chosen.now.value) may))

pub invariant_of-self : goal.invariant_of-self
invariant_of-self c =
    let free : HasNoGrant (after c.self.inside.journal.events) c.args.hart = subst (λ (v : LinkTable). HasNoGrant (after v.events) c.args.hart) (sym c.self.view_is) c.requires.free in
    let chosen : ChoosesSlot (after c.self.inside.journal.events) c.args.owner c.args.eights c.args.chosen.now =
    subst (λ (v : LinkTable). ChoosesSlot (after v.events) c.args.owner c.args.eights c.args.chosen.now) (sym c.self.view_is) c.requires.chosen in
    let may : MayGrant (after c.self.inside.journal.events) c.in-Some.number c.args.hart c.args.owner c.args.chosen.now.slot c.args.chosen.now.choice c.args.chosen.now.value =
    may_grant (after c.self.inside.journal.events) c.args.hart c.args.owner c.args.eights c.in-Some.number c.args.chosen.now free chosen c.requires.code
    (c.in-Some.ensures.number ∙ ap (λ n. n + 1) c.self.invariant.running.count) in
    let e : Event = Grant c.in-Some.number c.args.hart c.args.owner c.args.chosen.now.slot c.args.chosen.now.choice c.args.chosen.now.value in
    let next : MayFollow c.self.inside.journal.harts c.self.inside.journal.events e = follows c.self.inside.journal.harts c.self.inside.journal.events e may in
    let follow : EdgesFollow (after c.self.inside.journal.events) e =
    c.edges_follow.ensures.follow (machine_of c.self.inside.journal.harts) next.setting c.self.inside.journal.events e c.journal.ensures.lawful next.may in
    let g : ℕ → Granting = λ n. record {
      number = n + 1;
      hart = c.args.hart;
      owner = c.args.owner;
      slot = c.args.chosen.now.slot;
      choice = c.args.chosen.now.choice;
      value = c.args.chosen.now.value;
      standing = Open;
    } in
    let grants : c.open_grant.new.settling.grants ≡ c.self.inside.settling.grants ++ g c.self.inside.settling.count ∷ [] =
    c.open_grant.ensures.grants ∙ ap (λ (gs : List Granting). gs ++ g c.room_for_grant.new.settling.count ∷ []) c.room_for_grant.ensures.grants
    ∙ ap (λ n. c.self.inside.settling.grants ++ g n ∷ []) c.room_for_grant.ensures.count in
    let count : c.open_grant.new.settling.count ≡ c.self.inside.settling.count + 1 = c.open_grant.ensures.count ∙ ap (λ n. n + 1) c.room_for_grant.ensures.count in
    let state : after c.push.new.self.events ≡ step (after c.self.inside.journal.events) e =
    c.push.ensures.state ∙ ap (step (after c.room_for_grant.new.journal.events)) c.grant_event.ensures ∙ ap (λ (es : List Event). step (after es) e) c.room_for_grant.ensures.events in
    holds_after (step (after c.self.inside.journal.events) e) (after c.push.new.self.events)
    (record (lists_of c.self.inside) { settling = c.open_grant.new.settling; edges = c.room_for_grant.new.edges }) state
    (all_granted (after c.self.inside.journal.events) c.in-Some.number c.args.hart c.args.owner c.args.chosen.now.slot c.args.chosen.now.choice c.args.chosen.now.value
    (lists_of c.self.inside) c.open_grant.new.settling c.room_for_grant.new.edges c.self.invariant follow c.in-Some.ensures.number grants count c.room_for_grant.ensures.edges c.in-Ok.ensures.more)

pub invariant_of-self-in-Err : goal.invariant_of-self-in-Err
invariant_of-self-in-Err c =
    holds_after (after c.self.inside.journal.events) (after c.room_for_grant.new.journal.events)
    (record (lists_of c.self.inside) { settling = c.room_for_grant.new.settling; edges = c.room_for_grant.new.edges }) (ap after c.room_for_grant.ensures.events)
    (all_roomier (after c.self.inside.journal.events) (lists_of c.self.inside) c.room_for_grant.new.settling c.room_for_grant.new.edges c.self.invariant c.room_for_grant.ensures.grants
    c.room_for_grant.ensures.count c.room_for_grant.ensures.edges c.room_for_grant.ensures.edge_room)

pub returns-in-Ok-clause-ok : goal.returns-in-Ok-clause-ok
returns-in-Ok-clause-ok c =
    let numbered : c.in-Some.number ≡ length (after c.args.self.now.events).grants + 1 =
    c.in-Some.ensures.number ∙ ap (λ n. n + 1) c.self.invariant.running.count ∙ ap (λ (v : LinkTable). length (after v.events).grants + 1) c.self.view_is in
    let may : MayGrant (after c.args.self.now.events) c.in-Some.number c.args.hart c.args.owner c.args.chosen.now.slot c.args.chosen.now.choice c.args.chosen.now.value =
    may_grant (after c.args.self.now.events) c.args.hart c.args.owner c.args.eights c.in-Some.number c.args.chosen.now c.requires.free c.requires.chosen c.requires.code numbered in
    let e : Event = Grant c.in-Some.number c.args.hart c.args.owner c.args.chosen.now.slot c.args.chosen.now.choice c.args.chosen.now.value in
    let events : c.push.new.self.events ≡ c.args.self.now.events ++ e ∷ [] =
    c.push.ensures.events ∙ ap (λ (es : List Event). es ++ c.grant_event.result ∷ []) (c.room_for_grant.ensures.events ∙ ap (λ (v : LinkTable). v.events) c.self.view_is)
    ∙ ap (λ (x : Event). c.args.self.now.events ++ x ∷ []) c.grant_event.ensures in
    let harts : c.push.new.self.harts ≡ c.args.self.now.harts = c.push.ensures.harts ∙ c.room_for_grant.ensures.harts ∙ ap (λ (v : LinkTable). v.harts) c.self.view_is in
    subst (λ (g : Granted). IsGranted c.args.self.now c.args.hart c.args.owner c.args.eights g
    (record { harts = c.push.new.self.harts; events = c.push.new.self.events; made = c.self.inside.made })) (sym c.granted.ensures) (record {
      slot = c.args.chosen.now.slot;
      gives = gives_grant c.args.self.now c.args.hart c.args.owner c.args.eights c.in-Some.number c.args.chosen.now.slot c.args.chosen.now.choice c.args.chosen.now.value c.requires.chosen.numbered may;
      is = appended_is c.args.self.now c.push.new.self.harts c.push.new.self.events c.self.inside.made e harts events (ap (λ (v : LinkTable). v.made) c.self.view_is);
      event = c.len-event.ensures ∙ ap length c.journal-in-Ok.ensures.events;
      of = refl;
      is_slot = c.requires.chosen.is_slot;
      address = c.requires.chosen.place;
      lazy = c.requires.chosen.lazy;
    })
