-- What holds an object in memory: the graph of a state (dlopen(3), dlclose(3)).
use Rattle.std.specs.Prelude.{ℕ, Bool, not, ◌&&◌, ◌||◌, Some, List, [], ◌∷◌, ◌++◌, map, flat_map, filter, if◌then◌else◌}
use Rattle.ld_base.specs.declared.linking.Loaded.{Loaded}
use Rattle.history_event.specs.declared.state.Chosen.{Chosen}
use Rattle.history_event.specs.declared.state.Granting.{Granting}
use Rattle.history_event.specs.declared.state.Loading.{Loading}
use Rattle.history_graph.specs.declared.graph.Edge.{Edge}
use Rattle.history_graph.specs.Initialised.{InitNext, fini_list, program_last}
use Rattle.history_graph.specs.Reached.{Reached, Unneeded}
use Rattle.scope_rule.specs.Breadth.{breadth}
use Rattle.scope_rule.specs.Seen.{seen_in}
use Rattle.scope_rule.specs.declared.namespace.Namespace.{Namespace}
use Rattle.history_state.specs.State.{State}
use Rattle.history_state.specs.Objects.{has, is_ready, mapped, serial_of, startup_serials}
use Rattle.history_state.specs.Grants.{chosen_target, is_bound, is_open, target_of}

-- edges from one serial
abbrev pub edges_to : ℕ → List ℕ → List Edge
edges_to source targets = map (λ d. record { source = source; target = d }) targets

-- ---- the edges

-- to each object that was found for a name
abbrev pub found_edges : Loaded → List Edge
found_edges o = edges_to o.serial o.found

-- to each object that a relocation chose at load
abbrev pub chosen_edges : Chosen → List Edge
chosen_edges c = edges_to c.owner (flat_map chosen_target c.choices)

-- to the target of a bound grant, while the slot's object is one of those that are mapped
abbrev pub bound_edges : List ℕ → Granting → List Edge
bound_edges serials g = if is_bound g && has serials g.owner then edges_to g.owner (target_of g.choice) else []

unfoldable pub edges : State → List Edge
edges s = flat_map found_edges (mapped s) ++ flat_map chosen_edges s.chosen ++ flat_map (bound_edges (map serial_of (mapped s))) s.grants

-- those but the ones to what names found
abbrev pub held_edges : State → List Edge
held_edges s = flat_map chosen_edges s.chosen ++ flat_map (bound_edges (map serial_of (mapped s))) s.grants

-- ---- the roots

-- what an opening leads to
abbrev pub opened_roots : Namespace → List ℕ
opened_roots ns = flat_map (λ r. breadth (seen_in ns) r.root) ns.opens

-- an object that stays for its own sake: DF_1_NODELETE, or its constructors or destructors run
abbrev pub stays : Loaded → Bool
stays o = o.object.flags.nodelete || not (is_ready o)

abbrev pub staying_roots : Loaded → List ℕ
staying_roots o = if stays o then o.serial ∷ [] else []

-- the owner and the target of an open grant
abbrev pub granted_roots : Granting → List ℕ
granted_roots g = if is_open g then g.owner ∷ target_of g.choice else []

-- startup's objects, what openings lead to, the roots of openings with RTLD_NODELETE, objects that stay, and what open grants name
unfoldable pub roots : State → List ℕ
roots s = startup_serials s ++ flat_map opened_roots s.namespaces ++ s.pinned ++ flat_map staying_roots (mapped s) ++ flat_map granted_roots s.grants

-- Needed
abbrev pub Needed : State → ℕ → Type 0
Needed s d = Reached (edges s) (roots s) d

-- these of some serials nothing needs, in their order
abbrev pub IsUnneeded : State → List ℕ → List ℕ → Type 0
IsUnneeded s serials set = Unneeded (edges s) (roots s) serials set

-- ---- orders

-- the object is initialised next of those of a loading; the program, of serial 1, is last
abbrev pub IsInitNext : State → Loading → ℕ → Type 0
IsInitNext s loading o = InitNext (flat_map found_edges (mapped s)) (program_last (Some 1) loading.serials) s.inits o

-- the objects that were initialised and not finalised, in the order of their initialisation
abbrev pub unfinished : State → List ℕ
unfinished s = filter (λ o. not (has s.finis o)) s.inits

-- FiniList: those of a set that were initialised and not finalised, the latest first
abbrev pub finis_of : State → List ℕ → List ℕ
finis_of s set = fini_list (unfinished s) set
