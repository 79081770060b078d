use Rattle.std.proofs.Common.{◌≡◌, List, sym, subst, ◌∙◌, arith}
use Rattle.std.proofs.lemmas.Option.{slice_get_within, get_or_from_slice_get}
use Rattle.history_event.specs.declared.state.Granting.{Granting}
use Rattle.history_state.specs.Lemmas.Lists.{at_in}
use Rattle.trace_replay.specs.Granted.{HasNoBound, IsBoundTo}
use Rattle.trace_replay.specs.Indexed.{StandsAt}
use Rattle.trace_replay.proofs.Settled.{none_bound}
use Rattle.trace_replay.proofs.grants.GrantTable.bound_to.Goals as goal

pub index-requires : goal.index-requires
index-requires c =
    let stands : StandsAt c.self.inside.all.items c.args.owner c.args.slot c.in-Some.place.now = c.self.invariant.stands c.args.owner c.args.slot c.in-Some.place.now (sym c.in-Some.ensures.value) in
    omega (arith, slice_get_within c.self.inside.all.items c.in-Some.place.now stands.grant stands.at, c.self.inside.all.ok.0)

pub returns-in-Some-clause-some : goal.returns-in-Some-clause-some
returns-in-Some-clause-some c =
    let stands : StandsAt c.self.inside.all.items c.args.owner c.args.slot c.in-Some.place.now = c.self.invariant.stands c.args.owner c.args.slot c.in-Some.place.now (sym c.in-Some.ensures.value) in
    let is : stands.grant ≡ c.index.result.now = sym (get_or_from_slice_get c.self.inside.all.items c.in-Some.place.now stands.grant c.index.result.now stands.at) ∙ sym c.index.ensures in
    subst (λ (gs : List Granting). IsBoundTo gs c.args.owner c.args.slot c.index.result.now) c.self.view_is
    (subst (IsBoundTo c.self.inside.all.items c.args.owner c.args.slot) is
    (record { there = at_in c.self.inside.all.items c.in-Some.place.now stands.grant stands.at; of = stands.of; bound = stands.bound }))

pub returns-in-None-clause-none : goal.returns-in-None-clause-none
returns-in-None-clause-none c =
    subst (λ (gs : List Granting). HasNoBound gs c.args.owner c.args.slot) c.self.view_is
    (none_bound c.self.inside.all.items c.self.inside.open.items c.self.inside.bound.entries c.args.owner c.args.slot c.self.invariant (sym c.in-None.ensures.value))
