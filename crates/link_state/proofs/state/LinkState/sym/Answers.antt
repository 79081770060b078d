use Rattle.std.proofs.Common.{◌≡◌, eqb, List, sym, ap, subst, ◌∙◌}
use Rattle.std.specs.Prelude.{IsTrue}
use Rattle.std.specs.List.{Contains}
use Rattle.ld_base.specs.declared.linking.Loaded.{Loaded}
use Rattle.history_event.specs.declared.event.SymAsk.{SymAsk}
use Rattle.history_state.specs.After.{after}
use Rattle.history_state.specs.Laws.{IsIn}
use Rattle.history_state.specs.Objects.{has_namespace}
use Rattle.history_state.specs.Read.{WasRead}
use Rattle.history_state.specs.State.{State}
use Rattle.history_state.specs.Lemmas.Lists.{found_in}
use Rattle.history_journal.specs.Following.{machine_of}
use Rattle.scope_rule.specs.declared.namespace.Namespace.{Namespace}
use Rattle.link_search.specs.Asking.{ask_of}
use Rattle.link_search.specs.Finding.{IsSymFault}
use Rattle.link_search.specs.declared.finding.SymFault.{SymFault}
use Rattle.link_state.specs.Table.{LinkTable}
use Rattle.link_state.proofs.Stored.{if_err_and}
use Rattle.link_state.proofs.state.LinkState.sym.Goals as goal

pub find_symbol-requires-clause-tables : goal.find_symbol-requires-clause-tables
find_symbol-requires-clause-tables c =
    let s : State = after c.self.inside.journal.events in
    let are : c.as_slice-namespaces.result.now ≡ s.namespaces = c.as_slice-namespaces.ensures.value ∙ c.self.invariant.running.spaces in
    λ ns there serial o found.
    let is_in : IsIn s ns o =
    record { there = subst (λ (all : List Namespace). Contains all ns) are there; inside = (found_in (λ (x : Loaded). eqb x.serial serial) ns.objects o found).0 } in
    let read : WasRead (machine_of c.self.inside.journal.harts) o =
    c.objects_are_read.ensures.mapped (machine_of c.self.inside.journal.harts) c.self.inside.journal.events c.journal.ensures.lawful ns o is_in in
    c.one_object.ensures.table read.bytes read.program o.object o.table read.is

pub returns-in_err-serial-clause-refused : goal.returns-in_err-serial-clause-refused
returns-in_err-serial-clause-refused c =
    let s : State = after c.args.self.now.events in
    let ask : SymAsk = ask_of c.args.ns c.args.handle c.args.name.now c.args.want.now in
    let e : SymFault = c.in_err-serial.field-0.0 in
    let at : c.in_ok-ask.ask ≡ ask = c.in_ok-ask.ensures in
    let spaces : c.as_slice-namespaces.result.now ≡ s.namespaces =
    c.as_slice-namespaces.ensures.value ∙ c.self.invariant.running.spaces ∙ ap (λ (v : LinkTable). (after v.events).namespaces) c.self.view_is in
    let caller : IsTrue (has_namespace s c.in_ok-ask.ask.ns) = subst (λ (a : SymAsk). IsTrue (has_namespace s a.ns)) (sym at) c.requires.caller in
    let is : IsSymFault s c.args.hart ask e =
    subst (λ (a : SymAsk). IsSymFault s c.args.hart a e) at (c.in_err-serial.ensures.refused s c.args.hart (sym spaces) caller) in
    if_err_and c.from_residual-in_err-serial.result (λ (f : SymFault). f ≡ e) (IsSymFault s c.args.hart ask) c.from_residual-in_err-serial.ensures.1
    (λ f same. subst (IsSymFault s c.args.hart ask) (sym same) is)
