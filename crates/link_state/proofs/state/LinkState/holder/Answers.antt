use Rattle.std.proofs.Common.{◌≡◌, List, ap, subst, ◌∙◌}
use Rattle.std.specs.Prelude.{IfNone}
use Rattle.std.specs.List.{Contains}
use Rattle.history_state.specs.After.{after}
use Rattle.history_state.specs.Laws.{IsIn}
use Rattle.history_state.specs.Read.{WasRead}
use Rattle.history_journal.specs.Following.{machine_of}
use Rattle.scope_rule.specs.declared.namespace.Namespace.{Namespace}
use Rattle.link_spaces.specs.ObjectHolders.Holders.{HasNone}
use Rattle.link_state.specs.Table.{LinkTable}
use Rattle.link_state.proofs.state.LinkState.holder.Goals as goal

pub holder_in-requires : goal.holder_in-requires
holder_in-requires c =
    let are : c.as_slice.result.now ≡ (after c.self.inside.journal.events).namespaces = c.as_slice.ensures.value ∙ c.self.invariant.running.spaces in
    λ ns o there inside.
    let is_in : IsIn (after c.self.inside.journal.events) ns o = record { there = subst (λ (all : List Namespace). Contains all ns) are there; inside = inside } in
    let read : WasRead (machine_of c.self.inside.journal.harts) o =
    c.objects_are_read.ensures.mapped (machine_of c.self.inside.journal.harts) c.self.inside.journal.events c.journal.ensures.lawful ns o is_in in
    c.one_image.ensures.read read.bytes read.program o.object o.table read.is

pub returns-clause-none : goal.returns-clause-none
returns-clause-none c =
    let are : c.as_slice.result.now ≡ (after c.args.self.now.events).namespaces =
    c.as_slice.ensures.value ∙ c.self.invariant.running.spaces ∙ ap (λ (v : LinkTable). (after v.events).namespaces) c.self.view_is in
    subst (λ (all : List Namespace). IfNone c.holder_in.result (HasNone all c.args.address)) are c.holder_in.ensures.none
