-- Which namespace a look-up searches.
use Rattle.std.proofs.Common.{◌≡◌, ℕ, Bool, true, false, eqb, cond, List, Option, Some, None, sym, ap, subst, ◌∙◌}
use Rattle.std.specs.List.{find}
use Rattle.std.specs.Option.{option_map}
use Rattle.history_event.specs.declared.event.SymAsk.{SymAsk}
use Rattle.history_state.specs.Lookup.{found_default, found_on_handle, is_opened, search, wanted_of}
use Rattle.history_state.specs.State.{State}
use Rattle.history_state.specs.Lemmas.Lists.{found_in}
use Rattle.ld_base.specs.declared.linking.Want.{Want}
use Rattle.scope_rule.specs.Searching.{in_breadth}
use Rattle.scope_rule.specs.Seen.{Seen, seen_in}
use Rattle.scope_rule.specs.declared.namespace.Namespace.{Namespace}
use Rattle.sym_lookup.specs.Looking.{HaveTables}
use Rattle.link_search.specs.Finding.{AllHaveTables}

pub by_default : (s : State) (ask : SymAsk) → eqb ask.handle 0 ≡ true → search s ask ≡ found_default s ask
unfolding search
by_default s ask is = ap (λ (b : Bool). cond b (found_default s ask) (found_on_handle s ask)) is

pub on_handle : (s : State) (ask : SymAsk) → eqb ask.handle 0 ≡ false → search s ask ≡ found_on_handle s ask
unfolding search
on_handle s ask is = ap (λ (b : Bool). cond b (found_default s ask) (found_on_handle s ask)) is

-- the handle's namespace, where it is found or not
pub no_handle : (s : State) (namespaces : List Namespace) (ask : SymAsk) → eqb ask.handle 0 ≡ false → s.namespaces ≡ namespaces → None ≡ find (is_opened ask.handle) namespaces → None ≡ search s ask
no_handle s namespaces ask isnt are none =
    ap (option_map (λ (ns : Namespace). in_breadth (seen_in ns) ask.handle ask.name (wanted_of ask.version))) (none ∙ ap (find (is_opened ask.handle)) (sym are))
    ∙ sym (on_handle s ask isnt)

pub some_handle : (s : State) (namespaces : List Namespace) (ask : SymAsk) (want : Want) (ns : Namespace) (view : Seen) (found : Option (ℕ × ℕ)) → eqb ask.handle 0 ≡ false → s.namespaces ≡ namespaces
    → Some ns ≡ find (is_opened ask.handle) namespaces → want ≡ wanted_of ask.version → view ≡ seen_in ns → found ≡ in_breadth view ask.handle ask.name want → Some found ≡ search s ask
some_handle s namespaces ask want ns view found isnt are there wants sees is =
    ap (λ (f : Option (ℕ × ℕ)). Some f) (is ∙ ap (λ (v : Seen). in_breadth v ask.handle ask.name want) sees ∙ ap (λ (w : Want). in_breadth (seen_in ns) ask.handle ask.name w) wants)
    ∙ ap (option_map (λ (n : Namespace). in_breadth (seen_in n) ask.handle ask.name (wanted_of ask.version))) (there ∙ ap (find (is_opened ask.handle)) (sym are))
    ∙ sym (on_handle s ask isnt)

-- what is seen of a namespace that is found has its own tables
pub its_tables : (namespaces : List Namespace) (p : Namespace → Bool) (ns : Namespace) (view : Seen) → AllHaveTables namespaces → Some ns ≡ find p namespaces → view ≡ seen_in ns → HaveTables view
its_tables namespaces p ns view all there sees = (let P : Seen → Type 0 = HaveTables in subst P (sym sees) (all ns (found_in p namespaces ns (sym there)).0))
