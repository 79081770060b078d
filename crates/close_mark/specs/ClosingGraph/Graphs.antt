-- The graph of a closing, over the lists of a state.
use Rattle.std.specs.Prelude.{ℕ, ◌&&◌, ◌==◌, Bool, not, nat_lt, if◌then◌else◌, List, ◌∷◌, ◌++◌, filter, map}
use Rattle.std.specs.List.{flat_map, list_any}
use Rattle.ld_base.specs.declared.linking.Choice.{Choice}
use Rattle.ld_base.specs.declared.linking.Loaded.{Loaded}
use Rattle.history_event.specs.declared.state.Granting.{Granting}
use Rattle.history_graph.specs.declared.graph.Edge.{Edge}
use Rattle.history_state.specs.Grants.{target_of}
use Rattle.history_state.specs.Links.{found_edges, staying_roots}
use Rattle.scope_rule.specs.declared.namespace.Namespace.{Namespace}
use Rattle.scope_rule.specs.declared.namespace.OpenRec.{OpenRec}

-- ---- the handle

-- the opening is of the handle, and may be closed: startup's own, of the program, doesn't count
abbrev pub is_closable : ℕ → OpenRec → Bool
is_closable handle r = r.root == handle && nat_lt (if r.root == 1 then 1 else 0) r.count

abbrev pub has_closable : ℕ → Namespace → Bool
has_closable handle ns = list_any (is_closable handle) ns.opens

-- ---- edges

abbrev pub all_edges : List Namespace → List Edge → List Edge
all_edges namespaces held = held ++ flat_map (λ ns. flat_map found_edges ns.objects) namespaces

-- ---- roots

-- the opening counts once one less of the handle does, and isn't of the linker's own object
abbrev pub is_left : ℕ → OpenRec → Bool
is_left handle r = nat_lt (if r.root == handle then 1 else 0) r.count && not (r.root == 0)

abbrev pub left_roots : ℕ → List OpenRec → List ℕ
left_roots handle opens = map (λ r. r.root) (filter (is_left handle) opens)

abbrev pub staying : List Loaded → List ℕ
staying objects = flat_map staying_roots objects

-- what a grant names
abbrev pub touched : ℕ → Choice → List ℕ
touched owner choice = owner ∷ target_of choice

abbrev pub all_roots : List Namespace → ℕ → List ℕ → List Granting → List ℕ
all_roots namespaces handle fixed granted =
    (fixed ++ flat_map (λ ns. left_roots handle ns.opens ++ staying ns.objects) namespaces) ++ flat_map (λ g. touched g.owner g.choice) granted
