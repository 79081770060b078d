-- A closing, an unmapping and a constructor keep what leads where.
use Rattle.std.proofs.Common.{◌≡◌, ◌⊎◌, inl, inr, ⊎_elim, ℕ, ◌<◌, ◌≤◌, Bool, true, false, not, List, map, refl, sym, ap, subst, ◌∙◌, arith}
use Rattle.std.specs.Prelude.{if◌then◌else◌}
use Rattle.std.specs.List.{Contains, filter}
use Rattle.std.proofs.lemmas.Bool.{true≢false, not-true}
use Rattle.ld_base.specs.declared.linking.Loaded.{Loaded}
use Rattle.ld_base.specs.declared.linking.State.TheVariants as states
use Rattle.history_event.specs.declared.state.Chosen.{Chosen}
use Rattle.history_event.specs.declared.state.Closing.{Closing}
use Rattle.scope_rule.specs.Loading.{is_dying}
use Rattle.scope_rule.specs.Seen.{seen_in}
use Rattle.scope_rule.specs.declared.namespace.Namespace.{Namespace}
use Rattle.scope_rule.specs.declared.namespace.OpenRec.{OpenRec}
use Rattle.history_state.specs.State.{State}
use Rattle.history_state.specs.Objects.{has, serial_of}
use Rattle.history_state.specs.Links.{IsUnneeded, Needed}
use Rattle.history_state.specs.Step.{die, dying_in, dying_object, gone_in, initialise, is_closing, is_left, lower, lowered_in, ready_in, unmap}
use Rattle.history_state.specs.Allowed.{Closes}
use Rattle.history_state.specs.Lemmas.Lists.{from_filter, from_map, has_in, has_not, in_filter, in_has, in_map}
use Rattle.history_state.specs.Lemmas.Scopes.{root_in_breadth}
use Rattle.history_state.specs.Lemmas.Good.{Along, ChoseBy, Free, Good, Has, HeldBy, Inside, Leads, Safe, Sealed, Stays, core, each_mapped, good_closing, good_map, leads_same}
use Rattle.history_state.specs.Lemmas.Dying.{keeps_dying, keeps_lowered, keeps_ready, needed_on, opened_root}

-- ---- a constructor

pub good_initialise : (s : State) (serial : ℕ) → Good (core s) → Good (core (initialise serial s))
unfolding initialise
good_initialise s serial good = good_map (ready_in serial) (keeps_ready serial) (core s) good

-- ---- a closing

pub good_lower : (s : State) (handle : ℕ) → Good (core s) → Good (core (lower handle s))
unfolding lower
good_lower s handle good = good_map (lowered_in handle) (keeps_lowered handle) (core s) good

-- the state with one opening less has the namespace, with the same objects
there_lowered : (s : State) (handle : ℕ) (ns : Namespace) → Contains s.namespaces ns → Contains (lower handle s).namespaces (lowered_in handle ns)
unfolding lower
there_lowered s handle ns there = in_map (lowered_in handle) s.namespaces ns there

-- what dies: objects of one namespace, exactly those that nothing needs
pub record Dies (s : State) (ns : Namespace) (set : List ℕ) : Type 0 where
  pub there : Contains s.namespaces ns
  pub exactly : IsUnneeded s (map serial_of ns.objects) set

pub dies_node : (s : State) (ns : Namespace) (set : List ℕ) → Dies s ns set → (d : ℕ) → Contains set d → Has ns d × (Needed s d → ⊥)
dies_node s ns set dies d h =
    let un = dies.exactly in
    let kept = from_filter un.leave (map serial_of ns.objects) d (subst (λ (xs : List ℕ). Contains xs d) un.are h) in
    let at = from_map serial_of ns.objects d kept.0 in
    ((at.0, at.1, at.2), (un.exactly d kept.0).0 kept.1)

node_dies : (s : State) (ns : Namespace) (set : List ℕ) → Dies s ns set → (o : Loaded) → Contains ns.objects o → (Needed s o.serial → ⊥) → Contains set o.serial
node_dies s ns set dies o inside unneeded =
    let un = dies.exactly in
    let node : Contains (map serial_of ns.objects) o.serial = in_map serial_of ns.objects o inside in
    subst (λ (xs : List ℕ). Contains xs o.serial) (sym un.are) (in_filter un.leave (map serial_of ns.objects) o.serial node ((un.exactly o.serial node).1 unneeded))

-- what leads into the dying set dies with it
pub dies_along : (s : State) (ns : Namespace) (set : List ℕ) → Good (core s) → Dies s ns set → (ms : Namespace) (o : Loaded) (d : ℕ)
    → Inside s.namespaces ms o → Leads s.grants s.chosen o d → Contains set d → Contains set o.serial
dies_along s ns set good dies ms o d inside leads h =
    let node = dies_node s ns set dies d h in
    ⊎_elim
    (λ (e : d ≡ 0). absurd (let some : 1 ≤ node.0.0.serial = good.some ns node.0.0 (dies.there, node.0.1) in let zero_is : node.0.0.serial ≡ 0 = node.0.2 ∙ e in omega (arith, some, zero_is)))
    (λ (safe : Has ms d × Along s.closings o.serial d).
    let same : ms ≡ ns = good.one_home ms ns safe.0.0 node.0.0 (inside.0, safe.0.1) (dies.there, node.0.1) (safe.0.2 ∙ sym node.0.2) in
    node_dies s ns set dies o (subst (λ (n : Namespace). Contains n.objects o) same inside.1)
    (λ needed. node.1 (needed_on s ms o d inside leads needed)))
    (good.leads ms o d inside leads)

-- what an opening's root leads to, and what is opened, doesn't die
opened_lives : (s : State) (ns : Namespace) (set : List ℕ) → Good (core s) → Dies s ns set → (ms : Namespace) (r : OpenRec)
    → Contains s.namespaces ms → Contains ms.opens r → Contains set r.root → ⊥
opened_lives s ns set good dies ms r there inside h =
    let node = dies_node s ns set dies r.root h in
    let some : 1 ≤ node.0.0.serial = good.some ns node.0.0 (dies.there, node.0.1) in
    let is : node.0.0.serial ≡ r.root = node.0.2 in
    node.1 (opened_root s ms r r.root there inside (root_in_breadth (seen_in ms) r.root (λ (e : r.root ≡ 0). omega (arith, some, is, e))))

dying_here : (hart : ℕ) (set : List ℕ) (q : Loaded) (b : Bool) → b ≡ true → is_dying (if b then record q { state = states.Dying hart } else q) ≡ true
dying_here hart set q true e = refl
dying_here hart set q false e = absurd (true≢false (sym e))

sealed_dying : (s : State) (hart : ℕ) (ns : Namespace) (set : List ℕ) → Good (core s) → Dies s ns set
    → Sealed (record (core s) { namespaces = map (dying_in hart set) s.namespaces }) set
sealed_dying s hart ns set good dies = record {
  leads = λ ms o d inside leads h. each_mapped (dying_in hart set) s.namespaces (λ n. Contains n.objects o → Contains set o.serial)
      (λ ls there i. let q = (keeps_dying hart set).back ls o i in
      subst (Contains set) q.2 (dies_along s ns set good dies ls q.0 d (there, q.1) (leads_same s.grants s.chosen q.0 o d q.2 q.3 leads) h))
      ms inside.0 inside.1;
  global = λ ms d there h i. each_mapped (dying_in hart set) s.namespaces (λ n. Contains n.global d → ⊥)
      (λ ls at j. has_not set d (not-true (has set d) (from_filter (λ x. not (has set x)) ls.global d j).1) i)
      ms there h;
  opens = λ ms r there h i. each_mapped (dying_in hart set) s.namespaces (λ n. Contains n.opens r → ⊥)
      (λ ls at j. opened_lives s ns set good dies ls r at j i) ms there h;
  dies = λ ms o inside h. each_mapped (dying_in hart set) s.namespaces (λ n. Contains n.objects o → is_dying o ≡ true)
      (λ ls there i. let at = from_map (dying_object hart set) ls.objects o i in
      let serial : at.0.serial ≡ o.serial = sym (dying_serial at.0 (has set at.0.serial)) ∙ ap (λ (q : Loaded). q.serial) at.2 in
      let dying : has set at.0.serial ≡ true = in_has set at.0.serial (subst (Contains set) (sym serial) h) in
      subst (λ (q : Loaded). is_dying q ≡ true) at.2 (dying_here hart set at.0 (has set at.0.serial) dying))
      ms inside.0 inside.1;
  low = λ d h. let node = dies_node s ns set dies d h in subst (λ (n : ℕ). n < s.next) node.0.2 (good.low ns node.0.0 (dies.there, node.0.1));
}
  where
    dying_serial : (q : Loaded) (b : Bool) → (if b then record q { state = states.Dying hart } else q).serial ≡ q.serial
    dying_serial q true = refl
    dying_serial q false = refl

pub good_die : (s : State) (hart : ℕ) (ns : Namespace) (set : List ℕ) → Good (core s) → Dies s ns set → Good (core (die hart set s))
unfolding die
good_die s hart ns set good dies =
    good_closing (record (core s) { namespaces = map (dying_in hart set) s.namespaces }) hart set
    (good_map (dying_in hart set) (keeps_dying hart set) (core s) good) (sealed_dying s hart ns set good dies)

pub closes_dies : (s : State) (handle : ℕ) (set : List ℕ) (c : Closes s handle set) → Dies (lower handle s) (lowered_in handle c.namespace) set
closes_dies s handle set c = record { there = there_lowered s handle c.namespace c.opened.there; exactly = c.exactly }

pub good_close : (s : State) (hart handle : ℕ) (set : List ℕ) → Good (core s) → Closes s handle set → Good (core (die hart set (lower handle s)))
good_close s hart handle set good closes =
    good_die (lower handle s) hart (lowered_in handle closes.namespace) set (good_lower s handle good) (closes_dies s handle set closes)

-- ---- an unmapping

-- a namespace that is left is one that was there, without the set
pub each_left : (set : List ℕ) (all : List Namespace) (P : Namespace → Type 0)
    → ((ns : Namespace) → Contains all ns → P (gone_in set ns)) → (ms : Namespace) → Contains (filter is_left (map (gone_in set) all)) ms → P ms
each_left set all P f ms h = each_mapped (gone_in set) all P f ms (from_filter is_left (map (gone_in set) all) ms h).0

pub stayed : (set : List ℕ) (ns : Namespace) (o : Loaded) → Contains (gone_in set ns).objects o → Contains ns.objects o × (Contains set o.serial → ⊥)
stayed set ns o h =
    let kept = from_filter (λ (q : Loaded). not (has set q.serial)) ns.objects o h in
    (kept.0, has_not set o.serial (not-true (has set o.serial) kept.1))

pub stays_there : (set : List ℕ) (ns : Namespace) (d : ℕ) → Has ns d → (Contains set d → ⊥) → Has (gone_in set ns) d
stays_there set ns d h out =
    (h.0, in_filter (λ (q : Loaded). not (has set q.serial)) ns.objects h.0 h.1 (ap not (out_has (has set h.0.serial) refl)), h.2)
  where
    out_has : (b : Bool) → has set h.0.serial ≡ b → has set h.0.serial ≡ false
    out_has true e = absurd (out (subst (Contains set) h.2 (has_in set h.0.serial e)))
    out_has false e = e

pub fewer_closings : (closings : List Closing) (hart : ℕ) (set : List ℕ) (k : Closing) → Contains (filter (λ c. not (is_closing hart set c)) closings) k → Contains closings k
fewer_closings closings hart set k h = (from_filter (λ c. not (is_closing hart set c)) closings k h).0

pub fewer_chosen : (chosen : List Chosen) (set : List ℕ) (k : Chosen) → Contains (filter (λ c. not (has set c.owner)) chosen) k → Contains chosen k
fewer_chosen chosen set k h = (from_filter (λ (c : Chosen). not (has set c.owner)) chosen k h).0

pub good_unmap : (s : State) (hart : ℕ) (set : List ℕ) (k : Closing) → Contains s.closings k → k.set ≡ set → Good (core s) → Good (core (unmap hart set s))
unfolding unmap
good_unmap s hart set k closing whole good = record {
  leads = λ ms o d inside leads. each_left set s.namespaces (λ n. Contains n.objects o → Safe (core (unmap hart set s)).closings n o.serial d)
      (λ ns there h. let was = stayed set ns o h in
      ⊎_elim
      (λ (e : d ≡ 0). inl e)
      (λ (safe : Has ns d × Along s.closings o.serial d). inr (
        stays_there set ns d safe.0 (λ (i : Contains set d). was.1 (subst (λ (xs : List ℕ). Contains xs o.serial) whole (safe.1 k closing (subst (λ (xs : List ℕ). Contains xs d) (sym whole) i)))),
        λ c at dying. safe.1 c (fewer_closings s.closings hart set c at) dying,
      ))
      (good.leads ns o d (there, was.0) (leads_before o d leads)))
      ms inside.0 inside.1;
  global = λ ms d there h. each_left set s.namespaces (λ n. Contains n.global d → Stays (core (unmap hart set s)).closings n d)
      (λ ns at i. still ns d (good.global ns d at i)) ms there h;
  opens = λ ms r there h. each_left set s.namespaces (λ n. Contains n.opens r → Stays (core (unmap hart set s)).closings n r.root)
      (λ ns at i. still ns r.root (good.opens ns r at i)) ms there h;
  dies = λ ms o c inside at dying. each_left set s.namespaces (λ n. Contains n.objects o → is_dying o ≡ true)
      (λ ns there h. good.dies ns o c (there, (stayed set ns o h).0) (fewer_closings s.closings hart set c at) dying) ms inside.0 inside.1;
  some = λ ms o inside. each_left set s.namespaces (λ n. Contains n.objects o → 1 ≤ o.serial)
      (λ ns there h. good.some ns o (there, (stayed set ns o h).0)) ms inside.0 inside.1;
  low = λ ms o inside. each_left set s.namespaces (λ n. Contains n.objects o → o.serial < s.next)
      (λ ns there h. good.low ns o (there, (stayed set ns o h).0)) ms inside.0 inside.1;
  set_low = λ c d at dying. good.set_low c d (fewer_closings s.closings hart set c at) dying;
  chosen_low = λ c at. good.chosen_low c (fewer_chosen s.chosen set c at);
  grants_low = good.grants_low;
  one_home = λ ms ls o p first second same. each_left set s.namespaces (λ n. Contains n.objects o → n ≡ ls)
      (λ ns there h. each_left set s.namespaces (λ n. Contains n.objects p → gone_in set ns ≡ n)
      (λ ns' there' h'. ap (gone_in set) (good.one_home ns ns' o p (there, (stayed set ns o h).0) (there', (stayed set ns' p h').0) same))
      ls second.0 second.1)
      ms first.0 first.1;
  one_id = λ ms ls first second same. each_left set s.namespaces (λ n. n.id ≡ ls.id → n ≡ ls)
      (λ ns there. each_left set s.namespaces (λ n. ns.id ≡ n.id → gone_in set ns ≡ n)
      (λ ns' there' e. ap (gone_in set) (good.one_id ns ns' there there' e))
      ls second)
      ms first same;
  positive = good.positive;
}
  where
    leads_before : (o : Loaded) (d : ℕ) → Leads s.grants (filter (λ c. not (has set c.owner)) s.chosen) o d → Leads s.grants s.chosen o d
    leads_before o d leads = ⊎_elim
        (λ (h : Contains o.found d). inl h)
        (λ (h : ChoseBy (filter (λ c. not (has set c.owner)) s.chosen) o.serial d ⊎ HeldBy s.grants o.serial d). ⊎_elim
        (λ (i : ChoseBy (filter (λ c. not (has set c.owner)) s.chosen) o.serial d). inr (inl (i.0, fewer_chosen s.chosen set i.0 i.1, i.2, i.3)))
        (λ (i : HeldBy s.grants o.serial d). inr (inr i))
        h)
        leads

    still : (ns : Namespace) (d : ℕ) → Stays s.closings ns d → Stays (filter (λ c. not (is_closing hart set c)) s.closings) (gone_in set ns) d
    still ns d stays = ⊎_elim
        (λ (e : d ≡ 0). inl e)
        (λ (h : Has ns d × Free s.closings d). inr (
          stays_there set ns d h.0 (λ (i : Contains set d). h.1 k closing (subst (λ (xs : List ℕ). Contains xs d) (sym whole) i)),
          λ c at dying. h.1 c (fewer_closings s.closings hart set c at) dying,
        ))
        stays
