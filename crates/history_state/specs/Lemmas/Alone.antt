-- No two mapped objects of a namespace have one serial.
use Rattle.std.proofs.Common.{◌≡◌, ◌⊎◌, inl, inr, ⊎_elim, ℕ, ◌<◌, ◌≤◌, Bool, eqb, List, map, Option, Some, None, refl, sym, ap, subst, ◌∙◌, arith}
use Rattle.std.specs.List.{Contains, filter}
use Rattle.std.proofs.lemmas.Bool.{eq-eqb, eqb-true, true≢false}
use Rattle.std.proofs.lemmas.List.Elements.{Contains-append_cases}
use Rattle.ld_base.specs.declared.linking.Loaded.{Loaded}
use Rattle.history_event.specs.declared.event.Event.{Event}
use Rattle.scope_rule.specs.Opening.{opened}
use Rattle.scope_rule.specs.declared.namespace.Namespace.{Namespace}
use Rattle.history_state.specs.State.{State, empty_namespace}
use Rattle.history_state.specs.After.{after}
use Rattle.history_state.specs.Flags.{is_global}
use Rattle.history_state.specs.Laws.{AreApart}
use Rattle.history_state.specs.Legal.{Lawful}
use Rattle.history_state.specs.Objects.{mapped, object_at, serial_of}
use Rattle.history_state.specs.Setting.{Machine}
use Rattle.history_state.specs.Step.{die, dying_in, dying_object, gone_in, initialise, is_left, loaded, lower, lowered_in, namespace_before, ready_in, ready_object, unmap, with_namespace}
use Rattle.history_state.specs.Lemmas.Lists.{found_in, from_flat, from_map, in_flat, none_in, not_found, only_in}
use Rattle.history_state.specs.Lemmas.Good.{Core, Good, core, each_mapped}
use Rattle.history_state.specs.Lemmas.Changed.{Leaves, leaves_dying, leaves_ready}
use Rattle.history_state.specs.Lemmas.Closed.{each_left, stayed}
use Rattle.history_state.specs.Lemmas.Opened.{Before, before_of, members}
use Rattle.history_state.specs.Lemmas.Arrived.{Arrived, old_in, old_low}
use Rattle.history_state.specs.Lemmas.Brought.{LoadLaws}
use Rattle.history_state.specs.Lemmas.Steps.{Law, by_law}

-- no two objects of a namespace have one serial
abbrev pub Alone : List Namespace → Type 0
Alone all = (ns : Namespace) (o p : Loaded) → Contains all ns → Contains ns.objects o → Contains ns.objects p → o.serial ≡ p.serial → o ≡ p

-- a change of each object in its place, which leaves its serial
alone_map : (change : Namespace → Namespace) (each : Loaded → Loaded) → Leaves each → ((ns : Namespace) → (change ns).objects ≡ map each ns.objects)
    → (all : List Namespace) → Alone all → Alone (map change all)
alone_map change each leaves is all alone ms o p there first second same = each_mapped change all (λ n. Contains n.objects o → Contains n.objects p → o ≡ p)
    (λ ns at i j.
    let a = from_map each ns.objects o (subst (λ (os : List Loaded). Contains os o) (is ns) i) in
    let b = from_map each ns.objects p (subst (λ (os : List Loaded). Contains os p) (is ns) j) in
    let one : a.0.serial ≡ b.0.serial = sym (serial a.0) ∙ ap serial_of a.2 ∙ same ∙ ap serial_of (sym b.2) ∙ serial b.0 in
    sym a.2 ∙ ap each (alone ns a.0 b.0 at a.1 b.1 one) ∙ b.2)
    ms there first second
  where
    serial : (q : Loaded) → (each q).serial ≡ q.serial
    serial q = ap serial_of (leaves q).1

alone_lowered : (handle : ℕ) (all : List Namespace) → Alone all → Alone (map (lowered_in handle) all)
alone_lowered handle all alone ms o p there first second same =
    each_mapped (lowered_in handle) all (λ n. Contains n.objects o → Contains n.objects p → o ≡ p) (λ ns at i j. alone ns o p at i j same) ms there first second

alone_left : (set : List ℕ) (all : List Namespace) → Alone all → Alone (filter is_left (map (gone_in set) all))
alone_left set all alone ms o p there first second same =
    each_left set all (λ n. Contains n.objects o → Contains n.objects p → o ≡ p)
    (λ ns at i j. alone ns o p at (stayed set ns o i).0 (stayed set ns p j).0 same) ms there first second

module _ (c : Core) (good : Good c) (id root : ℕ) (g : Bool) (added : List Loaded) (b : Namespace) (before : Before c.namespaces id b) (came : Arrived c b added root) where
  old_new : (o p : Loaded) → Contains b.objects o → Contains added p → o.serial ≡ p.serial → ⊥
  old_new o p old new same =
      let low : o.serial < c.next = old_low c good id root g added b before came o old in
      let high : c.next ≤ p.serial = (came.fresh p new).0 in
      omega (arith, low, high, same)

  alone_open : Alone c.namespaces → Alone (with_namespace id (λ n. opened n added root g) c.namespaces)
  alone_open alone ns o p there first second same = ⊎_elim
      (λ (is : ns ≡ opened b added root g).
      joined (Contains-append_cases b.objects added o (subst (λ (n : Namespace). Contains n.objects o) is first))
      (Contains-append_cases b.objects added p (subst (λ (n : Namespace). Contains n.objects p) is second)))
      (λ (old : Contains c.namespaces ns × (ns.id ≡ id → ⊥)). alone ns o p old.0 first second same)
      (members c.namespaces id b before (λ n. opened n added root g) ns there)
    where
      joined : Contains b.objects o ⊎ Contains added o → Contains b.objects p ⊎ Contains added p → o ≡ p
      joined (inl i) (inl j) = alone b o p (old_in c good id root g added b before came o i) i j same
      joined (inl i) (inr j) = absurd (old_new o p i j same)
      joined (inr i) (inl j) = absurd (old_new p o j i (sym same))
      joined (inr i) (inr j) = came.one o p i j same

pub alone_law : Law (λ c. Alone c.namespaces)
unfolding loaded die lower unmap initialise
alone_law = record {
  starts = λ ns o p there first. absurd (none_in o (subst (λ (n : Namespace). Contains n.objects o) (sym (only_in (empty_namespace 0) ns there)) first));
  opens = λ w s hart ask id root added ranges good alone opens came.
      alone_open (core s) good id root (is_global ask.flags) added (namespace_before s id) (before_of s id good) came alone;
  closes = λ s hart handle set good alone closes.
      alone_map (dying_in hart set) (dying_object hart set) (leaves_dying hart set) (λ ns. refl) (map (lowered_in handle) s.namespaces) (alone_lowered handle s.namespaces alone);
  unmaps = λ s hart set good alone may. alone_left set s.namespaces alone;
  grants = λ s number hart owner slot choice value good alone may. alone;
  settles = λ s number standing good alone shut. alone;
  initialises = λ s object good alone. alone_map (ready_in object) (ready_object object) (leaves_ready object) (λ ns. refl) s.namespaces alone;
}

pub alone_after : LoadLaws → (m : Machine) (journal : List Event) → Lawful m journal → Good (core (after journal)) × Alone (after journal).namespaces
alone_after laws m journal lawful = by_law laws (λ c. Alone c.namespaces) alone_law m journal lawful

-- two mapped objects of one serial are one
pub one_object : (s : State) → Good (core s) → Alone s.namespaces → (ns ms : Namespace) (o p : Loaded) → Contains s.namespaces ns → Contains ns.objects o → Contains s.namespaces ms → Contains ms.objects p
    → o.serial ≡ p.serial → o ≡ p
one_object s good alone ns ms o p there inside there' inside' same =
    alone ns o p there inside (subst (λ (n : Namespace). Contains n.objects p) (sym (good.one_home ns ms o p (there, inside) (there', inside') same)) inside') same

-- the serial of a mapped object leads to it
pub object_there : (s : State) → Good (core s) → Alone s.namespaces → (ns : Namespace) (o : Loaded) → Contains s.namespaces ns → Contains ns.objects o → object_at s o.serial ≡ Some o
object_there s good alone ns o there inside = at (object_at s o.serial) refl
  where
    all_in : Contains (mapped s) o
    all_in = in_flat (λ (n : Namespace). n.objects) s.namespaces ns o there inside

    at : (found : Option Loaded) → object_at s o.serial ≡ found → object_at s o.serial ≡ Some o
    at (Some q) e =
        let found = found_in (λ (x : Loaded). eqb x.serial o.serial) (mapped s) q e in
        let home = from_flat (λ (n : Namespace). n.objects) s.namespaces q found.0 in
        e ∙ ap (λ (x : Loaded). Some x) (one_object s good alone home.0 ns q o home.1 home.2 there inside (eqb-true q.serial o.serial found.1))
    at None e = absurd (true≢false (sym (eq-eqb o.serial o.serial refl) ∙ not_found (λ (x : Loaded). eqb x.serial o.serial) (mapped s) o e all_in))

pub apart : LoadLaws → (m : Machine) (journal : List Event) → Lawful m journal → AreApart (after journal)
apart laws m journal lawful =
    let both = alone_after laws m journal lawful in
    record {
      objects = λ ns ms o p first second same. both.0.one_home ns ms o p (first.there, first.inside) (second.there, second.inside) same;
      records = λ ns ms o p first second same. one_object (after journal) both.0 both.1 ns ms o p first.there first.inside second.there second.inside same;
      found = λ ns o inside. object_there (after journal) both.0 both.1 ns o inside.there inside.inside;
      namespaces = both.0.one_id;
    }
