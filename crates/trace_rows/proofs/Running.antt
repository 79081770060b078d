-- Constructors and destructors that have run.
use Rattle.std.proofs.Common.{◌≡◌, ◌⊎◌, ℕ, ◌&&◌, ◌||◌, Bool, true, false, not, eqb, List, [], ◌∷◌, reverse, Option, Some, None, refl, sym, ap, subst, ◌∙◌}
use Rattle.std.specs.Bool.{Decides}
use Rattle.std.specs.List.{Contains, find, flat_map, list_any, slice_get}
use Rattle.std.specs.Option.{option_map_or}
use Rattle.std.proofs.lemmas.Bool.{and_from, and_parts, eq-eqb, eqb-true, not-true, true≢false}
use Rattle.std.proofs.lemmas.Bool.Decides.{Decides-and, Decides-eqb, Decides-like, Decides-or}
use Rattle.std.proofs.lemmas.List.{append-nil}
use Rattle.history_calls.specs.Functions.{AreLeft}
use Rattle.history_event.specs.declared.event.Event.{Event}
use Rattle.history_event.specs.declared.state.Closing.{Closing}
use Rattle.history_event.specs.declared.state.Loading.{Loading}
use Rattle.history_graph.specs.Initialised.{InitNext, is_one_of, program_last}
use Rattle.history_journal.specs.Following.{machine_of}
use Rattle.history_state.specs.After.{after}
use Rattle.history_state.specs.Allowed.{AtTheEnd, ByClosing, MayInitialise, WasNext}
use Rattle.history_state.specs.Lemmas.Lists.{any_in, from_filter, from_flat, from_map, has_in, in_any, in_filter, in_flat, in_has, in_map}
use Rattle.history_state.specs.Links.{IsInitNext, finis_of, found_edges, unfinished}
use Rattle.history_state.specs.Objects.{IsMapped, has, mapped, serial_of}
use Rattle.history_state.specs.Setting.{Setting}
use Rattle.history_state.specs.State.{State}
use Rattle.scope_rule.specs.declared.namespace.Namespace.{Namespace}
use Rattle.trace_replay.specs.Heads.{serials_in}
use Rattle.trace_replay.specs.Lemmas.Ended.{first_found}
use Rattle.trace_replay.specs.Lemmas.Next.{first_is}
use Rattle.trace_replay.specs.Lists.{Lists}
use Rattle.trace_replay.specs.Shown.{AreStarting, IsKeptOf, IsLeftOf, IsListed, IsShown, Shows}
use Rattle.trace_replay.specs.Steps.{starts}
use Rattle.trace_rows.specs.Functions.{is_due_at_end, is_next_of, is_some_of, starts_by}

-- ---- constructors

-- the first of what is left is next
left_next : (s : State) (loading : Loading) (rest : List ℕ) (object : ℕ) → AreLeft s loading rest → slice_get rest 0 ≡ Some object → IsInitNext s loading object
left_next s loading [] object left e = absurd (let d : None ≡ Some object = e in cc)
left_next s loading (d ∷ rest) object left e =
    subst (λ (done : List ℕ). InitNext (flat_map found_edges (mapped s)) (program_last (Some 1) loading.serials) done object) (append-nil s.inits) (left.each 0 object e)

starts_is : (object : ℕ) (left : Loading) → starts object left ≡ true → slice_get left.serials 0 ≡ Some object
starts_is object left e = by (slice_get left.serials 0) refl e
  where
    by : (found : Option ℕ) → slice_get left.serials 0 ≡ found → option_map_or (λ (d : ℕ). eqb d object) found false ≡ true → slice_get left.serials 0 ≡ Some object
    by None at t = absurd (true≢false (sym t))
    by (Some d) at t = at ∙ ap (λ (n : ℕ). Some n) (eqb-true d object t)

pub starts_so : (s : State) (l : Lists) (hart object : ℕ) → AreStarting s l.starting → Decides (list_any (starts_by hart object) l.starting) (MayInitialise s hart object)
starts_so s l hart object x = (
  (λ e.
      let at = any_in (starts_by hart object) l.starting e in
      let both = and_parts (eqb at.0.hart hart) (starts object at.0) at.2 in
      let of : IsLeftOf s at.0 = x.each at.0 at.1 in
      record {
        loading = of.loading;
        there = of.there;
        by = of.by ∙ eqb-true at.0.hart hart both.0;
        next = left_next s of.loading at.0.serials object of.left (starts_is object at.0 both.1);
      }),
  (λ may.
      let kept : IsKeptOf s l.starting may.loading = x.every may.loading may.there in
      listed may.loading.hart may.by kept.rest (first_is s may.loading kept.rest object kept.left may.next) kept.listed),
)
  where
    listed : (by : ℕ) → by ≡ hart → (rest : List ℕ) → slice_get rest 0 ≡ Some object → IsListed l.starting by rest → list_any (starts_by hart object) l.starting ≡ true
    listed by own [] e inside = absurd (let d : None ≡ Some object = e in cc)
    listed by own (d ∷ rest) e inside =
        let same : d ≡ object = cc in
        in_any (starts_by hart object) l.starting (record { hart = by; serials = d ∷ rest }) inside
        (and_from (eqb by hart) (eqb d object) (eq-eqb by hart own) (eq-eqb d object same))

-- ---- destructors by a closing

some_of : (object : ℕ) (found : Option ℕ) → Decides (is_some_of object found) (found ≡ Some object)
some_of object None = ((λ e. absurd (true≢false (sym e))), (λ e. absurd (let d : None ≡ Some object = e in cc)))
some_of object (Some d) = ((λ e. ap (λ (n : ℕ). Some n) (eqb-true d object e)), (λ e. eq-eqb d object (let f : Some d ≡ Some object = e in cc)))

next_in : (s : State) (l : Lists) (set : List ℕ) → IsShown s l → slice_get (finis_of s set) 0 ≡ find (is_one_of set) (reverse l.unfinished)
next_in s l set x =
    first_found (is_one_of set) (reverse (unfinished s)) (find (is_one_of set) (reverse (unfinished s))) refl
    ∙ ap (λ (ds : List ℕ). find (is_one_of set) (reverse ds)) (sym x.unfinished)

closing_so : (s : State) (l : Lists) (hart object : ℕ) → IsShown s l → Decides (list_any (is_next_of l.unfinished hart object) l.closings) (ByClosing s hart object)
closing_so s l hart object x = (
  (λ e.
      let at = any_in (is_next_of l.unfinished hart object) l.closings e in
      let both = and_parts (eqb at.0.hart hart) (is_some_of object (find (is_one_of at.0.set) (reverse l.unfinished))) at.2 in
      record {
        closing = at.0;
        there = subst (λ (cs : List Closing). Contains cs at.0) x.closings at.1;
        by = eqb-true at.0.hart hart both.0;
        next = next_in s l at.0.set x ∙ (some_of object (find (is_one_of at.0.set) (reverse l.unfinished))).0 both.1;
      }),
  (λ b.
      in_any (is_next_of l.unfinished hart object) l.closings b.closing (subst (λ (cs : List Closing). Contains cs b.closing) (sym x.closings) b.there)
      (and_from (eqb b.closing.hart hart) (is_some_of object (find (is_one_of b.closing.set) (reverse l.unfinished))) (eq-eqb b.closing.hart hart b.by)
      ((some_of object (find (is_one_of b.closing.set) (reverse l.unfinished))).1 (sym (next_in s l b.closing.set x) ∙ b.next)))),
)

-- ---- at the end

pub mapped_so : (s : State) (l : Lists) (object : ℕ) → IsShown s l → Decides (is_one_of (serials_in l.namespaces) object) (IsMapped s object)
mapped_so s l object x = (
  (λ e.
      let o = from_map serial_of (flat_map (λ (ns : Namespace). ns.objects) l.namespaces) object (has_in (serials_in l.namespaces) object e) in
      let ns = from_flat (λ (ns : Namespace). ns.objects) l.namespaces o.0 o.1 in
      record { namespace = ns.0; object = o.0; there = subst (λ (nss : List Namespace). Contains nss ns.0) x.namespaces ns.1; inside = ns.2; is = o.2 }),
  (λ m.
      in_has (serials_in l.namespaces) object
      (subst (Contains (serials_in l.namespaces)) m.is
      (in_map serial_of (flat_map (λ (ns : Namespace). ns.objects) l.namespaces) m.object
      (in_flat (λ (ns : Namespace). ns.objects) l.namespaces m.namespace m.object (subst (λ (nss : List Namespace). Contains nss m.namespace) (sym x.namespaces) m.there) m.inside)))),
)

unfinished_so : (s : State) (l : Lists) (object : ℕ) → IsShown s l → Decides (is_one_of l.unfinished object) ((has s.inits object ≡ true) × (has s.finis object ≡ false))
unfinished_so s l object x = (
  (λ e.
      let was = from_filter (λ (o : ℕ). not (has s.finis o)) s.inits object (subst (λ (ds : List ℕ). Contains ds object) x.unfinished (has_in l.unfinished object e)) in
      (in_has s.inits object was.0, not-true (has s.finis object) was.1)),
  (λ p.
      in_has l.unfinished object
      (subst (λ (ds : List ℕ). Contains ds object) (sym x.unfinished) (in_filter (λ (o : ℕ). not (has s.finis o)) s.inits object (has_in s.inits object p.0) (ap not p.1)))),
)

due_so : (w : Setting) (past : List Event) (l : Lists) (object : ℕ) → w.machine ≡ machine_of l.harts → Shows past l
    → Decides (is_due_at_end object l) ((IsMapped (after past) object × ((has (after past).inits object ≡ true) × (has (after past).finis object ≡ false))) × WasNext w past object)
due_so w past l object same x =
    Decides-and (is_one_of (serials_in l.namespaces) object && is_one_of l.unfinished object) (is_one_of l.heads object)
    (Decides-and (is_one_of (serials_in l.namespaces) object) (is_one_of l.unfinished object) (mapped_so (after past) l object x.state) (unfinished_so (after past) l object x.state))
    ((λ e. x.heads.each w object same (has_in l.heads object e)), (λ was. in_has l.heads object (x.heads.every w object same was)))

end_so : (w : Setting) (past : List Event) (l : Lists) (hart object : ℕ) (first : Bool) → w.machine ≡ machine_of l.harts → Shows past l → first ≡ eqb hart 0
    → Decides (first && is_due_at_end object l) (AtTheEnd w past (after past) hart object)
end_so w past l hart object first same x zero =
    Decides-like (first && is_due_at_end object l)
    (λ (p : (hart ≡ 0) × ((IsMapped (after past) object × ((has (after past).inits object ≡ true) × (has (after past).finis object ≡ false))) × WasNext w past object)).
    record { first_hart = p.0; mapped = p.1.0.0; initialised = p.1.0.1.0; unfinished = p.1.0.1.1; was = p.1.1 })
    (λ (a : AtTheEnd w past (after past) hart object). (a.first_hart, ((a.mapped, (a.initialised, a.unfinished)), a.was)))
    (Decides-and first (is_due_at_end object l) (subst (λ (b : Bool). Decides b (hart ≡ 0)) (sym zero) (Decides-eqb hart 0)) (due_so w past l object same x))

pub finishes_so : (w : Setting) (past : List Event) (l : Lists) (hart object : ℕ) (closing first due : Bool) → w.machine ≡ machine_of l.harts → Shows past l
    → closing ≡ list_any (is_next_of l.unfinished hart object) l.closings → first ≡ eqb hart 0 → due ≡ is_due_at_end object l
    → Decides (closing || (first && due)) (ByClosing (after past) hart object ⊎ AtTheEnd w past (after past) hart object)
finishes_so w past l hart object closing first due same x is zero due_is =
    Decides-or closing (first && due)
    (subst (λ (b : Bool). Decides b (ByClosing (after past) hart object)) (sym is) (closing_so (after past) l hart object x.state))
    (subst (λ (b : Bool). Decides (first && b) (AtTheEnd w past (after past) hart object)) (sym due_is) (end_so w past l hart object first same x zero))
