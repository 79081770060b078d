-- A closing.
use Rattle.std.proofs.Common.{◌≡◌, ⊎_elim, ℕ, Bool, true, false, List, [], ◌∷◌, ◌++◌, map, Option, Some, None, refl, sym, ap, subst, ◌∙◌}
use Rattle.std.specs.Prelude.{IfSome, if◌then◌else◌}
use Rattle.std.specs.List.{Contains, flat_map}
use Rattle.std.specs.Option.{option_to_list}
use Rattle.std.proofs.lemmas.List.{map-append}
use Rattle.std.proofs.lemmas.List.Elements.{Contains-append_cases}
use Rattle.close_mark.specs.ClosingLaws.Given.{IsGraphOf}
use Rattle.close_mark.specs.ClosingPlans.Plans.{IsRoomy, closed_by}
use Rattle.ld_base.specs.declared.linking.Loaded.{Loaded}
use Rattle.ld_base.specs.declared.linking.State.TheVariants as states
use Rattle.history_event.specs.declared.event.CloseAnswer.TheVariants.{Done}
use Rattle.history_event.specs.declared.event.Event.TheVariants.{Close}
use Rattle.history_event.specs.declared.event.Range.{Range}
use Rattle.history_event.specs.declared.state.Closing.{Closing}
use Rattle.history_event.specs.declared.state.Granting.{Granting}
use Rattle.history_graph.specs.declared.graph.Edge.{Edge}
use Rattle.history_state.specs.Held.{EdgesFollow}
use Rattle.history_state.specs.Laws.{HasAll, SerialsAreInOrder}
use Rattle.history_state.specs.Links.{held_edges}
use Rattle.history_state.specs.Objects.{has, mapped, serial_of, startup_serials}
use Rattle.history_state.specs.State.{State}
use Rattle.history_state.specs.Step.{closing_of as waiting_of, die, dying_in, dying_object, lower, lowered_in}
use Rattle.history_state.specs.Lemmas.Lists.{none_in, only_in}
use Rattle.link_spaces.specs.PendingClosingsPart.Pending.{PendingClosing, PendingList, closing_of}
use Rattle.scope_rule.specs.declared.namespace.Namespace.{Namespace}
use Rattle.link_holds.specs.Holding.{HoldsAll, Lists}
use Rattle.link_holds.specs.Lemmas.Advance.{serials_stay}

-- ---- the plan

pub graph_of : (s : State) (l : Lists) (held : List Edge) (fixed : List ℕ) (granted : List Granting) → HoldsAll s l → SerialsAreInOrder s → held ≡ l.edges.edges
    → fixed ≡ l.loads.startup ++ l.loads.pinned → granted ≡ l.settling.grants → IsGraphOf s held fixed granted
graph_of s l held fixed granted holds order edges are grants = record {
  every = subst (λ (es : List Edge). HasAll es (held_edges s)) (sym edges) holds.keeping.every;
  only = subst (λ (es : List Edge). HasAll (held_edges s) es) (sym edges) holds.keeping.only;
  stay = are ∙ ap (λ (ds : List ℕ). ds ++ l.loads.pinned) holds.opening.startup ∙ ap (λ (ds : List ℕ). startup_serials s ++ ds) holds.opening.pinned;
  unsettled = grants ∙ holds.running.opens;
  from = λ ns o there inside. order.from ns o (record { there = there; inside = inside });
}

-- ---- the lists

dying_serial : (hart : ℕ) (set : List ℕ) (o : Loaded) → (dying_object hart set o).serial ≡ o.serial
dying_serial hart set o = by (has set o.serial)
  where
    by : (b : Bool) → (if b then record o { state = states.Dying hart } else o).serial ≡ o.serial
    by true = refl
    by false = refl

dying_serials : (hart : ℕ) (set : List ℕ) (os : List Loaded) → map serial_of (map (dying_object hart set) os) ≡ map serial_of os
dying_serials hart set [] = refl
dying_serials hart set (o ∷ os) = ap (λ d. d ∷ map serial_of (map (dying_object hart set) os)) (dying_serial hart set o) ∙ ap (λ (ds : List ℕ). o.serial ∷ ds) (dying_serials hart set os)

same_serials : (hart handle : ℕ) (set : List ℕ) (nss : List Namespace)
    → map serial_of (flat_map (λ (ns : Namespace). ns.objects) (closed_by hart handle set nss)) ≡ map serial_of (flat_map (λ (ns : Namespace). ns.objects) nss)
same_serials hart handle set nss =
    serials_stay (dying_in hart set) (λ ns. dying_serials hart set ns.objects) (map (lowered_in handle) nss) ∙ serials_stay (lowered_in handle) (λ ns. refl) nss

new_roomy : (serials : List ℕ) (laid : List Range) (waiting : Option PendingClosing) (p : PendingClosing) → IfSome waiting (IsRoomy serials laid) → Contains (option_to_list waiting) p → IsRoomy serials laid p
new_roomy serials laid None p roomy inside = absurd (none_in p inside)
new_roomy serials laid (Some q) p roomy inside = subst (IsRoomy serials laid) (only_in q p inside) roomy

pub all_closed : (s : State) (hart handle : ℕ) (set : List ℕ) (l : Lists) (held : List Namespace) (closings : PendingList) (waiting : Option PendingClosing) → HoldsAll s l
    → EdgesFollow s (Close hart handle (Done set)) → held ≡ closed_by hart handle set l.namespaces → closings.closings ≡ l.closings.closings ++ option_to_list waiting
    → map closing_of (option_to_list waiting) ≡ waiting_of hart set → IfSome waiting (IsRoomy (map serial_of (mapped s)) s.ranges)
    → HoldsAll (die hart set (lower handle s)) (record l { namespaces = held; closings = closings })
unfolding die lower
all_closed s hart handle set l held closings waiting holds follow are pushed waits roomy = record {
  faults = holds.faults;
  running = record {
    opens = holds.running.opens;
    count = holds.running.count;
    serials = holds.running.serials;
    room = holds.running.room;
    spaces = are ∙ ap (closed_by hart handle set) holds.running.spaces;
  };
  memory = holds.memory;
  keeping = record {
    every = λ x inside. ⊎_elim
        (λ (gained : Contains {X = Edge} [] x). absurd (none_in x gained))
        (λ (kept : Contains (held_edges s) x × (false ≡ false)). holds.keeping.every x kept.0)
        (follow.from x inside);
    only = λ x inside. follow.keeps x (holds.keeping.only x inside) refl;
    room = holds.keeping.room;
    closings = ap (map closing_of) pushed ∙ map-append closing_of l.closings.closings (option_to_list waiting)
        ∙ ap (λ (cs : List Closing). cs ++ map closing_of (option_to_list waiting)) holds.keeping.closings ∙ ap (λ (cs : List Closing). s.closings ++ cs) waits;
    roomy = λ p inside. subst (λ (ds : List ℕ). IsRoomy ds s.ranges p) (sym (same_serials hart handle set s.namespaces)) (⊎_elim
        (λ (old : Contains l.closings.closings p). holds.keeping.roomy p old)
        (λ (new : Contains (option_to_list waiting) p). new_roomy (map serial_of (mapped s)) s.ranges waiting p roomy new)
        (Contains-append_cases l.closings.closings (option_to_list waiting) p (subst (λ (ps : List PendingClosing). Contains ps p) pushed inside)));
  };
  opening = holds.opening;
}

-- only room was made
pub all_with_room : (s : State) (l : Lists) (closings : PendingList) → HoldsAll s l → closings.closings ≡ l.closings.closings → HoldsAll s (record l { closings = closings })
all_with_room s l closings holds same = record {
  faults = holds.faults;
  running = holds.running;
  memory = holds.memory;
  keeping = record {
    every = holds.keeping.every;
    only = holds.keeping.only;
    room = holds.keeping.room;
    closings = ap (map closing_of) same ∙ holds.keeping.closings;
    roomy = λ p inside. holds.keeping.roomy p (subst (λ (ps : List PendingClosing). Contains ps p) same inside);
  };
  opening = holds.opening;
}
