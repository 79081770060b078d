-- Openings count, and what is opened or global is there and isn't dying.
use Rattle.std.proofs.Common.{◌≡◌, inl, inr, ⊎_elim, ℕ, zero, suc, ◌+◌, ◌≤◌, Bool, true, false, not, eqb, List, [], ◌∷◌, ◌++◌, map, refl, sym, subst, ◌∙◌, arith}
use Rattle.std.specs.Prelude.{if◌then◌else◌}
use Rattle.std.specs.List.{Contains, list_any}
use Rattle.std.proofs.lemmas.Bool.{cases_Bool, eq-eqb, not-true, true≢false}
use Rattle.std.proofs.lemmas.List.Elements.{Contains-push_cases}
use Rattle.history_event.specs.declared.event.Event.{Event}
use Rattle.scope_rule.specs.Loading.{is_dying}
use Rattle.scope_rule.specs.Opening.{opened, opens_after, raised}
use Rattle.scope_rule.specs.declared.namespace.Namespace.{Namespace}
use Rattle.scope_rule.specs.declared.namespace.OpenRec.{OpenRec}
use Rattle.history_state.specs.State.{State, empty_namespace}
use Rattle.history_state.specs.After.{after}
use Rattle.history_state.specs.Flags.{is_global}
use Rattle.history_state.specs.Laws.{Lives, OpeningsStand}
use Rattle.history_state.specs.Legal.{Lawful}
use Rattle.history_state.specs.Setting.{Machine}
use Rattle.history_state.specs.Step.{die, dying_in, initialise, loaded, lower, lowered_in, lowered_open, namespace_before, ready_in, unmap}
use Rattle.history_state.specs.Lemmas.Lists.{from_filter, from_map, none_in, only_in}
use Rattle.history_state.specs.Lemmas.Brought.{LoadLaws}
use Rattle.history_state.specs.Lemmas.Closed.{each_left}
use Rattle.history_state.specs.Lemmas.Good.{Free, Good, Has, Stays, core, each_mapped}
use Rattle.history_state.specs.Lemmas.LeftOut.{by_whom}
use Rattle.history_state.specs.Lemmas.Once.{Once, once_after}
use Rattle.history_state.specs.Lemmas.Opened.{before_of, members}
use Rattle.history_state.specs.Lemmas.Steps.{Law, by_law}

abbrev Counting : List Namespace → Type 0
Counting all = (ns : Namespace) (r : OpenRec) → Contains all ns → Contains ns.opens r → 1 ≤ r.count

-- a change that leaves the openings
same_opens : (change : Namespace → Namespace) → ((ns : Namespace) → (change ns).opens ≡ ns.opens) → (all : List Namespace) → Counting all → Counting (map change all)
same_opens change same all counting ms r there inside = each_mapped change all (λ n. Contains n.opens r → 1 ≤ r.count)
    (λ ns at h. counting ns r at (subst (λ (rs : List OpenRec). Contains rs r) (same ns) h)) ms there inside

lowered : (handle : ℕ) (all : List Namespace) → Counting (map (lowered_in handle) all)
lowered handle all ms r there inside = each_mapped (lowered_in handle) all (λ n. Contains n.opens r → 1 ≤ r.count)
    (λ ns at h. some r.count (not-true (eqb r.count 0) (from_filter (λ (q : OpenRec). not (eqb q.count 0)) (map (lowered_open handle) ns.opens) r h).1)) ms there inside
  where
    some : (n : ℕ) → eqb n 0 ≡ false → 1 ≤ n
    some zero e = absurd (true≢false (sym (eq-eqb 0 0 refl) ∙ e))
    some (suc n) e = omega arith

opened_count : (root : ℕ) (opens : List OpenRec) → ((r : OpenRec) → Contains opens r → 1 ≤ r.count) → (r : OpenRec) → Contains (opens_after root opens) r → 1 ≤ r.count
opened_count root opens counting r h = by (list_any (λ (q : OpenRec). eqb q.root root) opens) h
  where
    more : (q : OpenRec) → 1 ≤ q.count → (t : Bool) → 1 ≤ (if t then record q { count = q.count + 1 } else q).count
    more q some true = omega (arith, some)
    more q some false = some

    by : (t : Bool) → Contains (if t then map (raised root) opens else opens ++ record { root = root; count = 1 } ∷ []) r → 1 ≤ r.count
    by true i =
        let at = from_map (raised root) opens r i in
        subst (λ (q : OpenRec). 1 ≤ q.count) at.2 (more at.0 (counting at.0 at.1) (eqb at.0.root root))
    by false i = ⊎_elim
        (λ (old : Contains opens r). counting r old)
        (λ (e : record { root = root; count = 1 } ≡ r). subst (λ (q : OpenRec). 1 ≤ q.count) e (omega arith))
        (Contains-push_cases opens (record { root = root; count = 1 }) r i)

counting_law : Law (λ c. Counting c.namespaces)
unfolding loaded die lower unmap initialise
counting_law = record {
  starts = λ ns r there inside. absurd (none_in r (subst (λ (n : Namespace). Contains n.opens r) (sym (only_in (empty_namespace 0) ns there)) inside));
  opens = λ w s hart ask id root added ranges good counting may came ns r there inside. ⊎_elim
      (λ (is : ns ≡ opened (namespace_before s id) added root (is_global ask.flags)).
      opened_count root (namespace_before s id).opens (before s id good counting) r (subst (λ (n : Namespace). Contains n.opens r) is inside))
      (λ (old : Contains s.namespaces ns × (ns.id ≡ id → ⊥)). counting ns r old.0 inside)
      (members s.namespaces id (namespace_before s id) (before_of s id good) (λ n. opened n added root (is_global ask.flags)) ns there);
  closes = λ s hart handle set good counting closes. same_opens (dying_in hart set) (λ ns. refl) (map (lowered_in handle) s.namespaces) (lowered handle s.namespaces);
  unmaps = λ s hart set good counting may ms r there inside. each_left set s.namespaces (λ n. Contains n.opens r → 1 ≤ r.count) (λ ns at h. counting ns r at h) ms there inside;
  grants = λ s number hart owner slot choice value good counting may. counting;
  settles = λ s number standing good counting shut. counting;
  initialises = λ s object good counting. same_opens (ready_in object) (λ ns. refl) s.namespaces counting;
}
  where
    before : (s : State) (id : ℕ) → Good (core s) → Counting s.namespaces → (r : OpenRec) → Contains (namespace_before s id).opens r → 1 ≤ r.count
    before s id good counting r h = ⊎_elim
        (λ (there : Contains s.namespaces (namespace_before s id)). counting (namespace_before s id) r there h)
        (λ (is : namespace_before s id ≡ empty_namespace id). absurd (none_in r (subst (λ (n : Namespace). Contains n.opens r) is h)))
        (before_of s id good).was

-- what is in no closing isn't dying
lives : (s : State) → Once (core s) → (ns : Namespace) (d : ℕ) → Contains s.namespaces ns → Stays s.closings ns d → Lives ns d
lives s once ns d there stays = ⊎_elim
    (λ (e : d ≡ 0). inl e)
    (λ (h : Has ns d × Free s.closings d). inr (
      h.0.0,
      h.0.1,
      h.0.2,
      ⊎_elim
          (λ (dying : is_dying h.0.0 ≡ true).
          let by = by_whom h.0.0.state dying in
          let k = once.only ns h.0.0 by.0 there h.0.1 by.1 in
          absurd (h.1 k.0 k.1 (subst (Contains k.0.set) h.0.2 k.3)))
          (λ (alive : is_dying h.0.0 ≡ false). alive)
          (cases_Bool (is_dying h.0.0)),
    ))
    stays

pub openings_stand : LoadLaws → (m : Machine) (journal : List Event) → Lawful m journal → OpeningsStand (after journal)
openings_stand laws m journal lawful =
    let both = once_after laws m journal lawful in
    record {
      count = (by_law laws (λ c. Counting c.namespaces) counting_law m journal lawful).1;
      root = λ ns r there inside. lives (after journal) both.1 ns r.root there (both.0.opens ns r there inside);
      global = λ ns d there inside. lives (after journal) both.1 ns d there (both.0.global ns d there inside);
    }
