-- A grant of a slot.
use Rattle.std.proofs.Common.{◌≡◌, ⊎_elim, ℕ, ◌+◌, ◌≤◌, false, List, [], ◌∷◌, ◌++◌, length, refl, sym, ap, subst, ◌∙◌, arith}
use Rattle.std.specs.List.{Contains, filter}
use Rattle.std.proofs.lemmas.List.{length-append}
use Rattle.std.proofs.lemmas.List.Elements.{filter-append}
use Rattle.link_lists.specs.HeldEdgesPart.Roomy.{EdgesWithRoom}
use Rattle.ld_base.specs.declared.linking.Choice.{Choice}
use Rattle.history_event.specs.declared.event.Event.TheVariants.{Grant}
use Rattle.history_event.specs.declared.state.Granting.{Granting}
use Rattle.history_event.specs.declared.state.Standing.TheVariants.{Open}
use Rattle.history_graph.specs.declared.graph.Edge.{Edge}
use Rattle.history_state.specs.Grants.{is_open}
use Rattle.history_state.specs.Held.{EdgesFollow}
use Rattle.history_state.specs.Links.{held_edges}
use Rattle.history_state.specs.State.{State}
use Rattle.history_state.specs.Step.{grant}
use Rattle.history_state.specs.Lemmas.Lists.{none_in}
use Rattle.link_lists.specs.LinkPending.Pending.{GrantTable}
use Rattle.link_holds.specs.Holding.{HoldsAll, Lists}

-- ---- the lists with a grant more

pub all_granted : (s : State) (number hart owner slot : ℕ) (choice : Choice) (value : ℕ) (l : Lists) (settling : GrantTable) (edges : EdgesWithRoom) → HoldsAll s l
    → EdgesFollow s (Grant number hart owner slot choice value) → number ≡ l.settling.count + 1
    → settling.grants ≡ l.settling.grants ++ record { number = l.settling.count + 1; hart = hart; owner = owner; slot = slot; choice = choice; value = value; standing = Open } ∷ []
    → settling.count ≡ l.settling.count + 1 → edges.edges ≡ l.edges.edges → edges.room ≡ l.edges.room + 1
    → HoldsAll (grant number hart owner slot choice value s) (record l { settling = settling; edges = edges })
all_granted s number hart owner slot choice value l settling edges holds follow numbered is count same room =
    let g : ℕ → Granting = λ n. record { number = n; hart = hart; owner = owner; slot = slot; choice = choice; value = value; standing = Open } in
    let opens : settling.grants ≡ filter is_open (s.grants ++ g number ∷ []) =
    is ∙ ap (λ (gs : List Granting). gs ++ g (l.settling.count + 1) ∷ []) holds.running.opens ∙ ap (λ n. filter is_open s.grants ++ g n ∷ []) (sym numbered) ∙ sym (filter-append is_open s.grants (g number ∷ [])) in
    let more : length (filter is_open (s.grants ++ g number ∷ [])) ≡ length (filter is_open s.grants) + 1 = ap length (filter-append is_open s.grants (g number ∷ [])) ∙ length-append (filter is_open s.grants) (g number ∷ []) in
    record {
      faults = holds.faults;
      running = record {
        opens = opens;
        count = count ∙ ap (λ n. n + 1) holds.running.count ∙ sym (length-append s.grants (g number ∷ []));
        serials = holds.running.serials;
        room = holds.running.room;
        spaces = holds.running.spaces;
      };
      memory = holds.memory;
      keeping = record {
        every = λ x inside. ⊎_elim
            (λ (gained : Contains {X = Edge} [] x). absurd (none_in x gained))
            (λ (kept : Contains (held_edges s) x × (false ≡ false)). subst (λ (es : List Edge). Contains es x) (sym same) (holds.keeping.every x kept.0))
            (follow.from x inside);
        only = λ x inside. follow.keeps x (holds.keeping.only x (subst (λ (es : List Edge). Contains es x) same inside)) refl;
        room = omega (arith, more, room, holds.keeping.room);
        closings = holds.keeping.closings;
        roomy = holds.keeping.roomy;
      };
      opening = holds.opening;
    }

-- only the room changed
pub all_roomier : (s : State) (l : Lists) (settling : GrantTable) (edges : EdgesWithRoom) → HoldsAll s l → settling.grants ≡ l.settling.grants → settling.count ≡ l.settling.count
    → edges.edges ≡ l.edges.edges → l.edges.room ≤ edges.room → HoldsAll s (record l { settling = settling; edges = edges })
all_roomier s l settling edges holds grants count same room = record {
  faults = holds.faults;
  running = record { opens = grants ∙ holds.running.opens; count = count ∙ holds.running.count; serials = holds.running.serials; room = holds.running.room; spaces = holds.running.spaces };
  memory = holds.memory;
  keeping = record {
    every = λ x inside. subst (λ (es : List Edge). Contains es x) (sym same) (holds.keeping.every x inside);
    only = λ x inside. holds.keeping.only x (subst (λ (es : List Edge). Contains es x) same inside);
    room = omega (arith, room, holds.keeping.room);
    closings = holds.keeping.closings;
    roomy = holds.keeping.roomy;
  };
  opening = holds.opening;
}
