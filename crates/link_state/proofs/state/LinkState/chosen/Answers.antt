use Rattle.std.proofs.Common.{◌≡◌, List, Result, Ok, Err, IfOk, subst, sym}
use Rattle.std.specs.List.{Contains}
use Rattle.history_state.specs.After.{after}
use Rattle.history_state.specs.Laws.{AreApart, IsIn}
use Rattle.history_state.specs.State.{State}
use Rattle.link_finds.specs.SlotChoosing.Choosing.{ChoosesSlot}
use Rattle.link_state.specs.Table.{LinkTable}
use Rattle.history_state.specs.Read.{WasRead}
use Rattle.history_journal.specs.Following.{machine_of}
use Rattle.scope_rule.specs.declared.namespace.Namespace.{Namespace}
use Rattle.link_holds.specs.Holding.{HoldsAll}
use Rattle.link_state.specs.Inside.{lists_of}
use Rattle.link_state.proofs.state.LinkState.chosen.Goals as goal

pub slot_choice-requires : goal.slot_choice-requires
slot_choice-requires c =
    let are : c.self.inside.namespaces ≡ (after c.self.inside.journal.events).namespaces = c.self.invariant.running.spaces in
    λ ns o there inside.
    let is_in : IsIn (after c.self.inside.journal.events) ns o = record { there = subst (λ (all : List Namespace). Contains all ns) are there; inside = inside } in
    let read : WasRead (machine_of c.self.inside.journal.harts) o =
    c.objects_are_read.ensures.mapped (machine_of c.self.inside.journal.harts) c.self.inside.journal.events c.journal.ensures.lawful ns o is_in in
    record { image = c.one_image.ensures.read read.bytes read.program o.object o.table read.is; table = c.one_object.ensures.table read.bytes read.program o.object o.table read.is; names = c.one_object.ensures.names read.bytes read.program o.object o.table read.is }

pub invariant_of-self : goal.invariant_of-self
invariant_of-self c =
    subst (λ (nss : List Namespace). HoldsAll (after c.self.inside.journal.events) (record (lists_of c.self.inside) { namespaces = nss })) (sym c.slot_choice.ensures.same) c.self.invariant

if_ok : {A E : Type 0} (r : Result A E) (P Q : A → Type 0) → ((x : A) → P x → Q x) → IfOk r P → IfOk r Q
if_ok (Ok x) P Q f h = f x h
if_ok (Err e) P Q f h = h

pub returns-clause-ok : goal.returns-clause-ok
returns-clause-ok c =
    let past : State = after c.self.inside.journal.events in
    let are : past.namespaces ≡ c.self.inside.namespaces = sym c.self.invariant.running.spaces in
    let apart : AreApart past = c.objects_are_apart.ensures (machine_of c.self.inside.journal.harts) c.self.inside.journal.events c.journal.ensures.lawful in
    subst (λ (v : LinkTable). IfOk c.slot_choice.result (ChoosesSlot (after v.events) c.args.owner c.args.eights)) c.self.view_is
    (if_ok c.slot_choice.result (λ x. (s : State) → s.namespaces ≡ c.self.inside.namespaces → AreApart s → ChoosesSlot s c.args.owner c.args.eights x) (ChoosesSlot past c.args.owner c.args.eights)
    (λ x chooses. chooses past are apart) c.slot_choice.ensures.ok)
