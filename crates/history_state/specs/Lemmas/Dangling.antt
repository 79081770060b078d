-- Nothing that a mapped object leads to is unmapped; what open grants name and what startup loaded stays.
use Rattle.std.proofs.Common.{◌≡◌, ◌≢◌, inl, inr, ⊎_elim, ℕ, Bool, true, false, not, ◌&&◌, ◌||◌, eqb, List, [], ◌∷◌, ◌++◌, map, length, refl, sym, ap, subst, ◌∙◌, arith}
use Rattle.std.specs.Prelude.{if◌then◌else◌}
use Rattle.std.specs.List.{Contains, filter, list_any}
use Rattle.std.proofs.lemmas.Bool.{ne_eqb, or_right, true≢false}
use Rattle.std.proofs.lemmas.List.Elements.{Contains-append_left, Contains-push_cases}
use Rattle.ld_base.specs.declared.linking.Loaded.{Loaded}
use Rattle.history_event.specs.declared.event.Event.{Event}
use Rattle.history_event.specs.declared.event.OpenAsk.{OpenAsk}
use Rattle.history_event.specs.declared.event.Range.{Range}
use Rattle.history_event.specs.declared.state.Granting.{Granting}
use Rattle.history_event.specs.declared.state.Standing.{Standing}
use Rattle.history_event.specs.declared.state.Standing.TheVariants.{Open, Bound, Lost}
use Rattle.scope_rule.specs.Opening.{opened}
use Rattle.scope_rule.specs.declared.namespace.Namespace.{Namespace}
use Rattle.history_state.specs.State.{State, empty_namespace}
use Rattle.history_state.specs.Objects.{IsMapped, has_id}
use Rattle.history_state.specs.Flags.{is_global}
use Rattle.history_state.specs.Grants.{is_open, is_open_standing}
use Rattle.history_state.specs.Step.{changed_at, die, dying_in, gone_in, initialise, is_left, loaded, lower, lowered_in, open_done, ready_in, settled_as, unmap, with_namespace}
use Rattle.history_state.specs.After.{after}
use Rattle.history_state.specs.Allowed.{MayUnmap}
use Rattle.history_state.specs.Laws.{GrantsAreHeld, LeadsTo, NothingDangles}
use Rattle.history_state.specs.Laws.LeadsTo.{found, chosen, granted}
use Rattle.history_state.specs.Legal.{Lawful}
use Rattle.history_state.specs.Setting.{Machine}
use Rattle.history_state.specs.Lemmas.Lists.{from_map, in_filter, in_map, none_in}
use Rattle.history_state.specs.Lemmas.Good.{Core, Good, Has, Keeps, Leads, Along, core, has_kept, is_live}
use Rattle.history_state.specs.Lemmas.Granted.{Was, was}
use Rattle.history_state.specs.Lemmas.Dying.{keeps_dying, keeps_lowered, keeps_ready}
use Rattle.history_state.specs.Lemmas.Closed.{stays_there}
use Rattle.history_state.specs.Lemmas.Brought.{LoadLaws}
use Rattle.history_state.specs.Lemmas.Steps.{Law, by_law, good_after}

-- ---- no slot dangles

pub lives : (st : Standing) → ((saw : ℕ) → st ≢ Lost saw) → is_live st ≡ true
lives Open kept = refl
lives Bound kept = refl
lives (Lost saw) kept = absurd (kept saw refl)

pub leads_from : (s : State) (o : Loaded) (d : ℕ) → LeadsTo s o d → Leads s.grants s.chosen o d
leads_from s o d (found h) = inl h
leads_from s o d (chosen c there owner h) = inr (inl (c, there, owner, h))
leads_from s o d (granted g there owner kept h) = inr (inr (g, there, owner, lives g.standing kept, h))

nothing_dangles : (s : State) → Good (core s) → NothingDangles s
nothing_dangles s good ns o d inside leads = ⊎_elim
    (λ (e : d ≡ 0). inl e)
    (λ (h : Has ns d × Along s.closings o.serial d). inr h.0)
    (good.leads ns o d (inside.there, inside.inside) (leads_from s o d leads))

pub dangles : LoadLaws → (m : Machine) (journal : List Event) → Lawful m journal → NothingDangles (after journal)
dangles laws m journal lawful = nothing_dangles (after journal) (good_after laws m journal lawful)

-- ---- where objects stay mapped

-- an object of some namespace of the list
abbrev pub Mapped : List Namespace → ℕ → Type 0
Mapped all d = (ns : Namespace) × Contains all ns × Has ns d

pub mapped_by : (change : Namespace → Namespace) → Keeps change → (all : List Namespace) (d : ℕ) → Mapped all d → Mapped (map change all) d
mapped_by change keeps all d h = (change h.0, in_map change all h.0 h.1, has_kept change keeps h.0 d h.2)

-- a namespace with an object is left
pub left_nonempty : (ns : Namespace) (d : ℕ) → Has ns d → is_left ns ≡ true
left_nonempty ns d h = by ns.objects h.1
  where
    by : (os : List Loaded) → Contains os h.0 → (eqb ns.id 0 || not (eqb (length os) 0)) ≡ true
    by [] i = absurd (none_in h.0 i)
    by (o ∷ os) i = or_right (eqb ns.id 0) (not (eqb (length (o ∷ os)) 0)) (ap not (ne_eqb (length (o ∷ os)) 0 (λ (e : length (o ∷ os) ≡ 0). omega (arith, e))))

pub mapped_unmap : (set : List ℕ) (all : List Namespace) (d : ℕ) → Mapped all d → (Contains set d → ⊥) → Mapped (filter is_left (map (gone_in set) all)) d
mapped_unmap set all d h out =
    let has_it : Has (gone_in set h.0) d = stays_there set h.0 d h.2 out in
    (gone_in set h.0, in_filter is_left (map (gone_in set) all) (gone_in set h.0) (in_map (gone_in set) all h.0 h.1) (left_nonempty (gone_in set h.0) d has_it), has_it)

-- a namespace that was there is there after an opening, with what it had
pub kept_namespace : (id : ℕ) (added : List Loaded) (root : ℕ) (g : Bool) (all : List Namespace) (ns : Namespace) → Contains all ns
    → (ms : Namespace) × Contains (with_namespace id (λ n. opened n added root g) all) ms × (ms.id ≡ ns.id) × ((d : ℕ) → Has ns d → Has ms d)
kept_namespace id added root g all ns there = by (list_any (has_id id) all) refl
  where
    change : Namespace → Namespace
    change n = opened n added root g

    at : (t : Bool) → (m : Namespace) × (m ≡ (if t then opened ns added root g else ns)) × (m.id ≡ ns.id) × ((d : ℕ) → Has ns d → Has m d)
    at true = (opened ns added root g, refl, refl, λ d h. (h.0, Contains-append_left ns.objects added h.0 h.1, h.2))
    at false = (ns, refl, refl, λ d h. h)

    by : (t : Bool) → list_any (has_id id) all ≡ t
        → (ms : Namespace) × Contains (if t then map (changed_at id (λ n. opened n added root g)) all else all ++ opened (empty_namespace id) added root g ∷ []) ms × (ms.id ≡ ns.id) × ((d : ℕ) → Has ns d → Has ms d)
    by true e =
        let m = at (has_id id ns) in
        (m.0, subst (λ (n : Namespace). Contains (map (changed_at id (λ n. opened n added root g)) all) n) (sym m.1) (in_map (changed_at id (λ n. opened n added root g)) all ns there), m.2, m.3)
    by false e = (ns, Contains-append_left all (opened (empty_namespace id) added root g ∷ []) ns there, refl, λ d h. h)

pub mapped_open : (id : ℕ) (added : List Loaded) (root : ℕ) (g : Bool) (all : List Namespace) (d : ℕ) → Mapped all d → Mapped (with_namespace id (λ n. opened n added root g) all) d
mapped_open id added root g all d h = let m = kept_namespace id added root g all h.0 h.1 in (m.0, m.1, m.3 d h.2)

-- ---- open grants are held

abbrev Held : Core → Type 0
Held c = (g : Granting) → Contains c.grants g → g.standing ≡ Open → Mapped c.namespaces g.owner

settled_was : (number : ℕ) (standing : Standing) (g : Granting) (t : Bool) → is_open_standing standing ≡ false → (if t then record g { standing = standing } else g).standing ≡ Open → g.standing ≡ Open
settled_was number standing g true shut e = absurd (true≢false (sym (ap is_open_standing e) ∙ shut))
settled_was number standing g false shut e = e

held_law : Law Held
unfolding loaded die lower unmap initialise
held_law = record {
  starts = λ g there opened. absurd (none_in g there);
  opens = λ w s hart ask id root added ranges good held opens came g there open_yet. opened_held s hart ask id root added ranges held g there open_yet;
  closes = λ s hart handle set good held closes g there open_yet. closed_held s hart handle set held g there open_yet;
  unmaps = λ s hart set good held may g there open_yet. unmapped_held s hart set held may g there open_yet;
  grants = λ s number hart owner slot choice value good held may g there open_yet. ⊎_elim
      (λ (h : Contains s.grants g). held g h open_yet)
      (λ (e : _ ≡ g). subst (λ (q : Granting). Mapped s.namespaces q.owner) e
      (may.may.is_slot.namespace, may.may.is_slot.there, (may.may.is_slot.object, may.may.is_slot.inside, may.may.is_slot.is)))
      (Contains-push_cases s.grants _ g there);
  settles = λ s number standing good held shut g there open_yet.
      let at = from_map (settled_as number standing) s.grants g there in
      let same : Was at.0 g = subst (Was at.0) at.2 (was number standing at.0) in
      let before : at.0.standing ≡ Open = settled_was number standing at.0 (eqb at.0.number number && is_open at.0) shut (ap (λ (q : Granting). q.standing) at.2 ∙ open_yet) in
      subst (Mapped s.namespaces) same.owner (held at.0 at.1 before);
  initialises = λ s object good held g there open_yet. initialised_held s object held g there open_yet;
}
  where
    opened_held : (s : State) (hart : ℕ) (ask : OpenAsk) (id root : ℕ) (added : List Loaded) (ranges : List Range) → Held (core s) → Held (core (open_done s hart ask id root added ranges))
    opened_held s hart ask id root added ranges held g there open_yet = mapped_open id added root (is_global ask.flags) s.namespaces g.owner (held g there open_yet)

    closed_held : (s : State) (hart handle : ℕ) (set : List ℕ) → Held (core s) → Held (core (die hart set (lower handle s)))
    closed_held s hart handle set held g there open_yet =
        mapped_by (dying_in hart set) (keeps_dying hart set) (map (lowered_in handle) s.namespaces) g.owner
        (mapped_by (lowered_in handle) (keeps_lowered handle) s.namespaces g.owner (held g there open_yet))

    unmapped_held : (s : State) (hart : ℕ) (set : List ℕ) → Held (core s) → MayUnmap s hart set → Held (core (unmap hart set s))
    unmapped_held s hart set held may g there open_yet =
        mapped_unmap set s.namespaces g.owner (held g there open_yet) (λ (h : Contains set g.owner). (may.free g g.owner there open_yet h).0 refl)

    initialised_held : (s : State) (object : ℕ) → Held (core s) → Held (core (initialise object s))
    initialised_held s object held g there open_yet = mapped_by (ready_in object) (keeps_ready object) s.namespaces g.owner (held g there open_yet)

is_mapped : (s : State) (d : ℕ) → Mapped s.namespaces d → IsMapped s d
is_mapped s d h = record { namespace = h.0; object = h.2.0; there = h.1; inside = h.2.1; is = h.2.2 }

are_held : (s : State) → Good (core s) → Held (core s) → GrantsAreHeld s
are_held s good held g there open_yet = record {
  owner = is_mapped s g.owner (held g there open_yet);
  target = λ d h.
      let m = held g there open_yet in
      ⊎_elim
      (λ (e : d ≡ 0). inl e)
      (λ (i : Has m.0 d × Along s.closings m.2.0.serial d). inr (is_mapped s d (m.0, m.1, i.0)))
      (good.leads m.0 m.2.0 d (m.1, m.2.1) (inr (inr (g, there, sym m.2.2, ap is_live open_yet, h))));
}

pub held : LoadLaws → (m : Machine) (journal : List Event) → Lawful m journal → GrantsAreHeld (after journal)
held laws m journal lawful = let both = by_law laws Held held_law m journal lawful in are_held (after journal) both.0 both.1
