-- A caller's namespace is there: the base never ends.
use Rattle.std.proofs.Common.{◌≡◌, ℕ, ◌<◌, Bool, true, false, eqb, List, [], ◌∷◌, ◌++◌, map, Option, Some, None, refl, sym, ap, subst, ◌∙◌}
use Rattle.std.specs.Prelude.{◌^◌, if◌then◌else◌}
use Rattle.std.specs.List.{Contains, list_any}
use Rattle.std.specs.Option.{option_map_or}
use Rattle.std.proofs.lemmas.Bool.{eq-eqb, eqb-true, or_left, true≢false}
use Rattle.std.proofs.lemmas.List.Elements.{Contains-append_left}
use Rattle.ld_base.specs.declared.linking.Loaded.{Loaded}
use Rattle.history_event.specs.declared.event.Event.{Event}
use Rattle.scope_rule.specs.Opening.{opened}
use Rattle.scope_rule.specs.declared.namespace.Namespace.{Namespace}
use Rattle.history_state.specs.Accepted.{AcceptsOnly}
use Rattle.history_state.specs.After.{after}
use Rattle.history_state.specs.Laws.{AreApart, IsIn}
use Rattle.history_state.specs.Flags.{is_global}
use Rattle.history_state.specs.Legal.{Lawful}
use Rattle.history_state.specs.Memory.{holds, image_at}
use Rattle.history_state.specs.Objects.{has_id, has_namespace, has_object, home}
use Rattle.history_state.specs.Setting.{Machine}
use Rattle.history_state.specs.State.{Linked, State, empty_namespace}
use Rattle.history_state.specs.Step.{die, dying_in, gone_in, initialise, is_left, loaded, lower, lowered_in, ready_in, unmap}
use Rattle.history_state.specs.Lemmas.Brought.{LoadLaws}
use Rattle.history_state.specs.Lemmas.Lists.{any_in, found_in, here, in_any, in_filter, in_map, not_found}
use Rattle.history_state.specs.Lemmas.Accepting.{ReadLaw}
use Rattle.history_state.specs.Lemmas.Alone.{apart}
use Rattle.history_state.specs.Lemmas.Holders.{holders}
use Rattle.history_state.specs.Lemmas.Lazy.{PageLaws}
use Rattle.history_state.specs.Lemmas.Steps.{Law, by_law}
use Rattle.history_calls.specs.Call.{caller_namespace}

-- ---- the base

abbrev Base : List Namespace → Type 0
Base all = (ns : Namespace) × Contains all ns × (ns.id ≡ 0)

mapped : (change : Namespace → Namespace) → ((ns : Namespace) → (change ns).id ≡ ns.id) → (all : List Namespace) → Base all → Base (map change all)
mapped change same all b = (change b.0, in_map change all b.0 b.1, same b.0 ∙ b.2)

changed : (id : ℕ) (added : List Loaded) (root : ℕ) (g : Bool) (ns : Namespace) (t : Bool) → (if t then opened ns added root g else ns).id ≡ ns.id
changed id added root g ns true = refl
changed id added root g ns false = refl

with_new : (id : ℕ) (added : List Loaded) (root : ℕ) (g : Bool) (all : List Namespace) (t : Bool) → Base all
    → Base (if t then map (λ ns. if has_id id ns then opened ns added root g else ns) all else all ++ opened (empty_namespace id) added root g ∷ [])
with_new id added root g all true b = mapped (λ ns. if has_id id ns then opened ns added root g else ns) (λ ns. changed id added root g ns (has_id id ns)) all b
with_new id added root g all false b = (b.0, Contains-append_left all (opened (empty_namespace id) added root g ∷ []) b.0 b.1, b.2)

base_law : Law (λ c. Base c.namespaces)
unfolding loaded die lower unmap initialise
base_law = record {
  starts = (empty_namespace 0, here (empty_namespace 0) [], refl);
  opens = λ w s hart ask id root added ranges good b may came. with_new id added root (is_global ask.flags) s.namespaces (list_any (has_id id) s.namespaces) b;
  closes = λ s hart handle set good b closes. mapped (dying_in hart set) (λ ns. refl) (map (lowered_in handle) s.namespaces) (mapped (lowered_in handle) (λ ns. refl) s.namespaces b);
  unmaps = λ s hart set good b may. (
    gone_in set b.0,
    in_filter is_left (map (gone_in set) s.namespaces) (gone_in set b.0) (in_map (gone_in set) s.namespaces b.0 b.1) (or_left (eqb b.0.id 0) _ (eq-eqb b.0.id 0 b.2)),
    b.2,
  );
  grants = λ s number hart owner slot choice value good b may. b;
  settles = λ s number standing good b shut. b;
  initialises = λ s object good b. mapped (ready_in object) (λ ns. refl) s.namespaces b;
}

-- ---- a caller

there : (s : State) (ns : Namespace) → Contains s.namespaces ns → has_namespace s ns.id ≡ true
there s ns at = in_any (has_id ns.id) s.namespaces ns at (eq-eqb ns.id ns.id refl)

base_there : (s : State) → Base s.namespaces → has_namespace s 0 ≡ true
base_there s b = subst (λ (n : ℕ). has_namespace s n ≡ true) b.2 (there s b.0 b.1)

of_home : (s : State) → Base s.namespaces → (serial : ℕ) (found : Option Namespace) → home s serial ≡ found → has_namespace s (option_map_or (λ ns. ns.id) found 0) ≡ true
of_home s b serial (Some ns) at = there s ns (found_in (has_object serial) s.namespaces ns at).0
of_home s b serial None none = base_there s b

of_image : (s : State) → Base s.namespaces → (found : Option Linked) → has_namespace s (option_map_or (λ m. option_map_or (λ ns. ns.id) (home s m.serial) 0) found 0) ≡ true
of_image s b (Some m) = of_home s b m.serial (home s m.serial) refl
of_image s b None = base_there s b

caller_there : (s : State) → Base s.namespaces → (ra : ℕ) → has_namespace s (caller_namespace s ra) ≡ true
unfolding caller_namespace
caller_there s b ra = of_image s b (image_at s ra)

pub callers_are_there : LoadLaws → (m : Machine) (events : List Event) → Lawful m events → (ra : ℕ) → has_namespace (after events) (caller_namespace (after events) ra) ≡ true
callers_are_there laws m events lawful ra = caller_there (after events) (by_law laws (λ c. Base c.namespaces) base_law m events lawful).1 ra

-- ---- whose namespace it is

home_of : (s : State) → AreApart s → (ns : Namespace) (o : Loaded) → IsIn s ns o → home s o.serial ≡ Some ns
home_of s alone ns o inside = by (home s o.serial) refl
  where
    by : (found : Option Namespace) → home s o.serial ≡ found → home s o.serial ≡ Some ns
    by None e = absurd (true≢false (sym (in_any (λ (p : Loaded). eqb p.serial o.serial) ns.objects o inside.inside (eq-eqb o.serial o.serial refl)) ∙ not_found (has_object o.serial) s.namespaces ns e inside.there))
    by (Some ms) e =
        let found = found_in (has_object o.serial) s.namespaces ms e in
        let at = any_in (λ (p : Loaded). eqb p.serial o.serial) ms.objects found.1 in
        let same : ms ≡ ns = alone.objects ms ns at.0 o (record { there = found.0; inside = at.1 }) inside (eqb-true at.0.serial o.serial at.2) in
        e ∙ ap (λ (n : Namespace). Some n) same

pub callers_hold : PageLaws → LoadLaws → ReadLaw → (m : Machine) (events : List Event) → AcceptsOnly m → Lawful m events → (ns : Namespace) (o : Loaded) (ra : ℕ) → ra < 2 ^ 64 → IsIn (after events) ns o
    → holds o ra ≡ true → caller_namespace (after events) ra ≡ ns.id
unfolding caller_namespace
callers_hold pages loads read m events only lawful ns o ra word inside e =
    let at = (holders pages loads read m only events lawful).image ns o ra word inside e in
    let found = home_of (after events) (apart loads m events lawful) ns o inside in
    ap (λ (f : Option Linked). option_map_or (λ i. option_map_or (λ n. n.id) (home (after events) i.serial) 0) f 0) at.1
    ∙ ap (λ (d : ℕ). option_map_or (λ (n : Namespace). n.id) (home (after events) d) 0) at.2 ∙ ap (λ (f : Option Namespace). option_map_or (λ n. n.id) f 0) found

pub others_base : PageLaws → LoadLaws → ReadLaw → (m : Machine) (events : List Event) → AcceptsOnly m → Lawful m events → (ra : ℕ)
    → ((ns : Namespace) (o : Loaded) → IsIn (after events) ns o → holds o ra ≡ false) → caller_namespace (after events) ra ≡ 0
unfolding caller_namespace
others_base pages loads read m events only lawful ra none = by (image_at (after events) ra) refl
  where
    by : (found : Option Linked) → image_at (after events) ra ≡ found → option_map_or (λ i. option_map_or (λ n. n.id) (home (after events) i.serial) 0) found 0 ≡ 0
    by None e = refl
    by (Some i) e =
        let at = (holders pages loads read m only events lawful).object i ra e in
        absurd (true≢false (sym at.4 ∙ none at.0 at.1 at.2))
