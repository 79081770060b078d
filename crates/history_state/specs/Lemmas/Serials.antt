-- Serials are in order.
use Rattle.std.proofs.Common.{◌≡◌, ◌⊎◌, inl, inr, ⊎_elim, ℕ, zero, suc, ◌+◌, ◌<◌, ◌≤◌, Bool, true, false, not, cond, List, [], ◌∷◌, ◌++◌, map, length, Option, Some, None, refl, sym, ap, subst, ◌∙◌, arith}
use Rattle.history_state.specs.Lemmas.Imaged.{objects_open}
use Rattle.std.specs.List.{Contains, filter, range_with_len, slice_get}
use Rattle.std.proofs.lemmas.List.Elements.{Contains-append_cases, Contains-append_left, Contains-append_right}
use Rattle.ld_base.specs.declared.linking.Loaded.{Loaded}
use Rattle.history_event.specs.declared.event.Event.{Event}
use Rattle.history_event.specs.declared.event.OpenAsk.{OpenAsk}
use Rattle.history_event.specs.declared.event.Range.{Range}
use Rattle.history_event.specs.declared.state.Loading.{Loading}
use Rattle.scope_rule.specs.Opening.{opened}
use Rattle.scope_rule.specs.declared.namespace.Namespace.{Namespace}
use Rattle.history_state.specs.State.{State, empty_namespace}
use Rattle.history_state.specs.After.{after}
use Rattle.history_state.specs.Flags.{is_global}
use Rattle.history_state.specs.Laws.{SerialsAreInOrder}
use Rattle.history_state.specs.Legal.{Lawful}
use Rattle.history_state.specs.Objects.{has, serial_of}
use Rattle.history_state.specs.Opening.{OpensName}
use Rattle.history_state.specs.Setting.{Machine, Setting}
use Rattle.history_state.specs.Step.{die, dying_in, dying_object, initialise, loaded, loading_of, lower, lowered_in, namespace_before, ready_in, ready_object, unmap}
use Rattle.history_state.specs.Lemmas.Lists.{at_in, first_or_later, from_map, here, later, none_in, only_in, in_map}
use Rattle.history_state.specs.Lemmas.Arrived.{old_low}
use Rattle.history_state.specs.Lemmas.Brought.{LoadLaws, added_serials}
use Rattle.history_state.specs.Lemmas.Changed.{Leaves, leaves_dying, leaves_ready}
use Rattle.history_state.specs.Lemmas.Closed.{each_left, stayed}
use Rattle.history_state.specs.Lemmas.Good.{Core, Good, core, each_mapped}
use Rattle.history_state.specs.Lemmas.Opened.{before_of, members}
use Rattle.history_state.specs.Lemmas.Steps.{Law, by_law}

-- ---- objects whose serials rise, from a number on

abbrev Rising : ℕ → List Loaded → Type 0
Rising n [] = Unit {0}
Rising n (o ∷ rest) = (n ≤ o.serial) × Rising (o.serial + 1) rest

rising_less : (n m : ℕ) (os : List Loaded) → n ≤ m → Rising m os → Rising n os
rising_less n m [] le rising = tt
rising_less n m (o ∷ rest) le rising = let from : m ≤ o.serial = rising.0 in (omega (arith, le, from), rising.1)

rising_append : (n k : ℕ) (xs ys : List Loaded) → Rising n xs → n ≤ k → ((x : Loaded) → Contains xs x → x.serial < k) → Rising k ys → Rising n (xs ++ ys)
rising_append n k [] ys front le low back = rising_less n k ys le back
rising_append n k (x ∷ xs) ys front le low back =
    let under : x.serial < k = low x (here x xs) in
    (front.0, rising_append (x.serial + 1) k xs ys front.1 (omega (arith, under)) (λ y h. low y (later x xs y h)) back)

rising_map : (each : Loaded → Loaded) → ((q : Loaded) → (each q).serial ≡ q.serial) → (n : ℕ) (os : List Loaded) → Rising n os → Rising n (map each os)
rising_map each same n [] rising = tt
rising_map each same n (o ∷ rest) rising =
    (subst (λ (k : ℕ). n ≤ k) (sym (same o)) rising.0, subst (λ (k : ℕ). Rising (k + 1) (map each rest)) (sym (same o)) (rising_map each same (o.serial + 1) rest rising.1))

rising_filter : (keep : Loaded → Bool) (n : ℕ) (os : List Loaded) → Rising n os → Rising n (filter keep os)
rising_filter keep n [] rising = tt
rising_filter keep n (o ∷ rest) rising = at (keep o) (rising_filter keep (o.serial + 1) rest rising.1)
  where
    at : (b : Bool) → Rising (o.serial + 1) (filter keep rest) → Rising n (cond b (o ∷ filter keep rest) (filter keep rest))
    at true kept = (rising.0, kept)
    at false kept = let from : n ≤ o.serial = rising.0 in rising_less n (o.serial + 1) (filter keep rest) (omega (arith, from)) kept

rising_range : (n k : ℕ) (os : List Loaded) → map serial_of os ≡ range_with_len n k → Rising n os
rising_range n k [] e = tt
rising_range n zero (o ∷ rest) e = absurd cc
rising_range n (suc k) (o ∷ rest) e =
    let first : o.serial ≡ n = cc in
    let others : map serial_of rest ≡ range_with_len (n + 1) k = cc in
    (omega (arith, first), subst (λ (x : ℕ). Rising (x + 1) rest) (sym first) (rising_range (n + 1) k rest others))

from_rising : (n : ℕ) (os : List Loaded) → Rising n os → (p : Loaded) → Contains os p → n ≤ p.serial
from_rising n [] rising p h = absurd (none_in p h)
from_rising n (o ∷ rest) rising p h = ⊎_elim
    (λ (e : o ≡ p). subst (λ (q : Loaded). n ≤ q.serial) e rising.0)
    (λ (i : Contains rest p). let low : n ≤ o.serial = rising.0 in let high : o.serial + 1 ≤ p.serial = from_rising (o.serial + 1) rest rising.1 p i in omega (arith, low, high))
    (first_or_later o rest p h)

in_order : (n : ℕ) (os : List Loaded) → Rising n os → (i j : ℕ) (o p : Loaded) → slice_get os i ≡ Some o → slice_get os j ≡ Some p → i < j → o.serial < p.serial
in_order n [] rising i j o p first second lt = absurd (let d : None ≡ Some o = first in cc)
in_order n (x ∷ rest) rising i zero o p first second lt = absurd (omega (arith, lt))
in_order n (x ∷ rest) rising zero (suc j) o p first second lt =
    let is : x ≡ o = cc in
    let high : x.serial + 1 ≤ p.serial = from_rising (x.serial + 1) rest rising.1 p (at_in rest j p second) in
    subst (λ (q : Loaded). q.serial < p.serial) is (omega (arith, high))
in_order n (x ∷ rest) rising (suc i) (suc j) o p first second lt = in_order (x.serial + 1) rest rising.1 i j o p first second (omega (arith, lt))

-- ---- the invariant

-- a loading has the serial
abbrev pub OfLoading : List Loading → ℕ → Type 0
OfLoading loadings d = (l : Loading) × Contains loadings l × Contains l.serials d

pub record InOrder (c : Core) : Type 0 where
  pub of : (ns : Namespace) (o : Loaded) → Contains c.namespaces ns → Contains ns.objects o → OfLoading c.loadings o.serial
  pub rising : (ns : Namespace) → Contains c.namespaces ns → Rising 0 ns.objects
  pub low : (l : Loading) (d : ℕ) → Contains c.loadings l → Contains l.serials d → d < c.next
  pub one : (l k : Loading) (d : ℕ) → Contains c.loadings l → Contains c.loadings k → Contains l.serials d → Contains k.serials d → l ≡ k

-- the serials of new objects follow one another from the next on
pub new_serials : LoadLaws → (w : Setting) (s : State) → Good (core s) → (hart : ℕ) (ask : OpenAsk) (id root : ℕ) (added : List Loaded) (ranges : List Range) (name : Option (List ℕ))
    → OpensName w s hart ask name id root added ranges → map serial_of added ≡ range_with_len s.next (length added)
new_serials laws w s good hart ask id root added ranges (Some name) loads = added_serials laws w s good hart ask name id root added ranges loads
new_serials laws w s good hart ask id root added ranges None program = subst (λ (os : List Loaded). map serial_of os ≡ range_with_len s.next (length os)) (sym program.none) refl

in_place : (change : Namespace → Namespace) (each : Loaded → Loaded) → Leaves each → ((ns : Namespace) → (change ns).objects ≡ map each ns.objects) → (all : List Namespace)
    → ((ns : Namespace) → Contains all ns → Rising 0 ns.objects) → (ms : Namespace) → Contains (map change all) ms → Rising 0 ms.objects
in_place change each leaves is all rising ms there = each_mapped change all (λ n. Rising 0 n.objects)
    (λ ns at. subst (Rising 0) (sym (is ns)) (rising_map each (λ q. ap serial_of (leaves q).1) 0 ns.objects (rising ns at))) ms there

-- a loading is of the serials of its new objects
loading_is : (hart : ℕ) (added : List Loaded) (l : Loading) (d : ℕ) → Contains (loading_of hart added) l → Contains l.serials d → (a : Loaded) × Contains added a × (a.serial ≡ d)
loading_is hart [] l d h i = absurd (none_in l h)
loading_is hart (o ∷ rest) l d h i = from_map serial_of (o ∷ rest) d (subst (λ (k : Loading). Contains k.serials d) (sym (only_in _ l h)) i)

one_loading : (hart : ℕ) (added : List Loaded) (l k : Loading) → Contains (loading_of hart added) l → Contains (loading_of hart added) k → l ≡ k
one_loading hart [] l k h i = absurd (none_in l h)
one_loading hart (o ∷ rest) l k h i = sym (only_in _ l h) ∙ only_in _ k i

loading_new : (hart : ℕ) (added : List Loaded) (a : Loaded) → Contains added a → OfLoading (loading_of hart added) a.serial
loading_new hart [] a h = absurd (none_in a h)
loading_new hart (o ∷ rest) a h = (_, here _ [], in_map serial_of (o ∷ rest) a h)

of_in_place : (change : Namespace → Namespace) (each : Loaded → Loaded) → Leaves each → ((ns : Namespace) → (change ns).objects ≡ map each ns.objects) → (all : List Namespace) (loadings : List Loading)
    → ((ns : Namespace) (o : Loaded) → Contains all ns → Contains ns.objects o → OfLoading loadings o.serial) → (ms : Namespace) (o : Loaded) → Contains (map change all) ms → Contains ms.objects o → OfLoading loadings o.serial
of_in_place change each leaves is all loadings of ms o there inside = each_mapped change all (λ n. Contains n.objects o → OfLoading loadings o.serial)
    (λ ns at h. let q = from_map each ns.objects o (subst (λ (os : List Loaded). Contains os o) (is ns) h) in
    subst (OfLoading loadings) (sym (ap serial_of (leaves q.0).1) ∙ ap serial_of q.2) (of ns q.0 at q.1)) ms there inside

order_law : LoadLaws → Law InOrder
unfolding loaded die lower unmap initialise
order_law laws = record {
  starts = record {
    of = λ ns o there inside. absurd (none_in o (subst (λ (n : Namespace). Contains n.objects o) (sym (only_in (empty_namespace 0) ns there)) inside));
    rising = λ ns there. subst (λ (n : Namespace). Rising 0 n.objects) (only_in (empty_namespace 0) ns there) tt;
    low = λ l d there. absurd (none_in l there);
    one = λ l k d there. absurd (none_in l there);
  };
  opens = λ w s hart ask id root added ranges good order may came. record {
    of = λ ns o there inside. ⊎_elim
        (λ (old : (ms : Namespace) × Contains s.namespaces ms × Contains ms.objects o).
        let l = order.of old.0 o old.1 old.2 in (l.0, Contains-append_left s.loadings (loading_of hart added) l.0 l.1, l.2))
        (λ (new : Contains added o). let l = loading_new hart added o new in (l.0, Contains-append_right s.loadings (loading_of hart added) l.0 l.1, l.2))
        (objects_open id added root (is_global ask.flags) s.namespaces ns o there inside);
    rising = λ ns there. ⊎_elim
        (λ (is : ns ≡ opened (namespace_before s id) added root (is_global ask.flags)).
        subst (λ (n : Namespace). Rising 0 n.objects) (sym is)
        (rising_append 0 s.next (namespace_before s id).objects added (before s id good order) (omega arith)
        (old_low (core s) good id root (is_global ask.flags) added (namespace_before s id) (before_of s id good) came)
        (rising_range s.next (length added) added (new_serials laws w s good hart ask id root added ranges ask.name may.name))))
        (λ (old : Contains s.namespaces ns × (ns.id ≡ id → ⊥)). order.rising ns old.0)
        (members s.namespaces id (namespace_before s id) (before_of s id good) (λ n. opened n added root (is_global ask.flags)) ns there);
    low = λ l d there inside. ⊎_elim
        (λ (old : Contains s.loadings l). let under : d < s.next = order.low l d old inside in omega (arith, under))
        (λ (new : Contains (loading_of hart added) l). let a = loading_is hart added l d new inside in subst (λ (n : ℕ). n < s.next + length added) a.2 (came.fresh a.0 a.1).1)
        (Contains-append_cases s.loadings (loading_of hart added) l there);
    one = λ l k d first second in_l in_k. apart s hart added (λ a i. (came.fresh a i).0) order l k d in_l in_k
        (Contains-append_cases s.loadings (loading_of hart added) l first) (Contains-append_cases s.loadings (loading_of hart added) k second);
  };
  closes = λ s hart handle set good order closes. record {
    of = of_in_place (dying_in hart set) (dying_object hart set) (leaves_dying hart set) (λ ns. refl) (map (lowered_in handle) s.namespaces) s.loadings
        (λ ms o there inside. each_mapped (lowered_in handle) s.namespaces (λ n. Contains n.objects o → OfLoading s.loadings o.serial) (λ ns at h. order.of ns o at h) ms there inside);
    rising = in_place (dying_in hart set) (dying_object hart set) (leaves_dying hart set) (λ ns. refl) (map (lowered_in handle) s.namespaces)
        (λ ms there. each_mapped (lowered_in handle) s.namespaces (λ n. Rising 0 n.objects) (λ ns at. order.rising ns at) ms there);
    low = order.low;
    one = order.one;
  };
  unmaps = λ s hart set good order may. record {
    of = λ ms o there inside. each_left set s.namespaces (λ n. Contains n.objects o → OfLoading s.loadings o.serial) (λ ns at h. order.of ns o at (stayed set ns o h).0) ms there inside;
    rising = λ ms there. each_left set s.namespaces (λ n. Rising 0 n.objects) (λ ns at. rising_filter (λ (o : Loaded). not (has set o.serial)) 0 ns.objects (order.rising ns at)) ms there;
    low = order.low;
    one = order.one;
  };
  grants = λ s number hart owner slot choice value good order may. record { of = order.of; rising = order.rising; low = order.low; one = order.one };
  settles = λ s number standing good order shut. record { of = order.of; rising = order.rising; low = order.low; one = order.one };
  initialises = λ s object good order. record { of = of_in_place (ready_in object) (ready_object object) (leaves_ready object) (λ ns. refl) s.namespaces s.loadings order.of; rising = in_place (ready_in object) (ready_object object) (leaves_ready object) (λ ns. refl) s.namespaces order.rising; low = order.low; one = order.one };
}
  where
    before : (s : State) (id : ℕ) → Good (core s) → InOrder (core s) → Rising 0 (namespace_before s id).objects
    before s id good order = ⊎_elim
        (λ (there : Contains s.namespaces (namespace_before s id)). order.rising (namespace_before s id) there)
        (λ (is : namespace_before s id ≡ empty_namespace id). subst (λ (n : Namespace). Rising 0 n.objects) (sym is) tt)
        (before_of s id good).was

    apart : (s : State) (hart : ℕ) (added : List Loaded) → ((a : Loaded) → Contains added a → s.next ≤ a.serial) → InOrder (core s) → (l k : Loading) (d : ℕ) → Contains l.serials d → Contains k.serials d
        → Contains s.loadings l ⊎ Contains (loading_of hart added) l → Contains s.loadings k ⊎ Contains (loading_of hart added) k → l ≡ k
    apart s hart added fresh order l k d in_l in_k (inl a) (inl b) = order.one l k d a b in_l in_k
    apart s hart added fresh order l k d in_l in_k (inl a) (inr b) =
        let n = loading_is hart added k d b in_k in
        absurd (let low : d < s.next = order.low l d a in_l in let high : s.next ≤ n.0.serial = fresh n.0 n.1 in let is : n.0.serial ≡ d = n.2 in omega (arith, low, high, is))
    apart s hart added fresh order l k d in_l in_k (inr a) (inl b) =
        let n = loading_is hart added l d a in_l in
        absurd (let low : d < s.next = order.low k d b in_k in let high : s.next ≤ n.0.serial = fresh n.0 n.1 in let is : n.0.serial ≡ d = n.2 in omega (arith, low, high, is))
    apart s hart added fresh order l k d in_l in_k (inr a) (inr b) = one_loading hart added l k a b

pub in_order_after : LoadLaws → (m : Machine) (journal : List Event) → Lawful m journal → InOrder (core (after journal))
in_order_after laws m journal lawful = (by_law laws InOrder (order_law laws) m journal lawful).1

pub serials_in_order : LoadLaws → (m : Machine) (journal : List Event) → Lawful m journal → SerialsAreInOrder (after journal)
serials_in_order laws m journal lawful =
    let both = by_law laws InOrder (order_law laws) m journal lawful in
    record {
      from = λ ns o inside. both.0.some ns o (inside.there, inside.inside);
      below = λ ns o inside. both.0.low ns o (inside.there, inside.inside);
      rising = λ ns i j o p there first second lt. in_order 0 ns.objects (both.1.rising ns there) i j o p first second lt;
      of = λ ns o inside. both.1.of ns o inside.there inside.inside;
      loaded = both.1.one;
    }
