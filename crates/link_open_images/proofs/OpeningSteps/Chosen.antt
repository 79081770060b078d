-- Edges to what was chosen.
use Rattle.std.proofs.Common.{◌≡◌, ℕ, suc, Bool, true, false, List, [], ◌∷◌, ◌++◌, append_assoc, map, length, Option, Some, None, refl, sym, ap, ◌∙◌, arith}
use Rattle.std.specs.List.{flat_map, slice_get}
use Rattle.std.specs.Prelude.{if◌then◌else◌}
use Rattle.std.specs.Option.{unwrap_or}
use Rattle.std.proofs.lemmas.List.{append-nil, map-append}
use Rattle.ld_base.specs.declared.linking.Choice.{Choice}
use Rattle.ld_base.specs.declared.linking.Choice.TheVariants.{WeakZero}
use Rattle.ld_base.specs.declared.linking.Loaded.{Loaded}
use Rattle.ld_base.specs.declared.object.Reloc.{Reloc}
use Rattle.history_graph.specs.declared.graph.Edge.{Edge}
use Rattle.history_state.specs.Bound.{binds_now, chosen_of, reloc_choices, slot_choice, slot_choices}
use Rattle.history_state.specs.Grants.{chosen_target, target_of}
use Rattle.history_state.specs.Links.{chosen_edges, edges_to}
use Rattle.history_state.specs.State.{State}
use Rattle.history_calls.specs.LoadChoices.Choices.{choices_of, slot_entry}
use Rattle.link_open_images.specs.OpeningSteps.Steps.{choice_edges}
use Rattle.scope_rule.specs.Relocation.{choice_at}
use Rattle.scope_rule.specs.Seen.{Seen}

-- of objects with a list of choices each
abbrev pub edges_among : List Loaded → List (List Choice) → List Edge
edges_among [] choices = []
edges_among (o ∷ objects) [] = []
edges_among (o ∷ objects) (cs ∷ choices) = flat_map (choice_edges o.serial) cs ++ edges_among objects choices

-- nothing is left
pub among_none : (done : List Edge) (objects : List Loaded) (choices : List (List Choice)) (total : List Edge) → done ++ edges_among objects choices ≡ total → objects ≡ [] → done ≡ total
among_none done objects choices total is none = sym (append-nil done) ∙ ap (λ (os : List Loaded). done ++ edges_among os choices) (sym none) ∙ is

-- ---- as the state has them

to_all : (source : ℕ) (cs : List Choice) → flat_map (choice_edges source) cs ≡ edges_to source (flat_map target_of cs)
to_all source [] = refl
to_all source (c ∷ cs) =
    ap (λ (es : List Edge). choice_edges source c ++ es) (to_all source cs) ∙ sym (map-append (λ (d : ℕ). record { source = source; target = d }) (target_of c) (flat_map target_of cs))

targets_append : (xs ys : List (Option Choice)) → flat_map chosen_target (xs ++ ys) ≡ flat_map chosen_target xs ++ flat_map chosen_target ys
targets_append [] ys = refl
targets_append (x ∷ xs) ys = ap (λ (ds : List ℕ). chosen_target x ++ ds) (targets_append xs ys) ∙ sym (append_assoc (chosen_target x) (flat_map chosen_target xs) (flat_map chosen_target ys))

of_append : (xs ys : List Choice) → flat_map target_of (xs ++ ys) ≡ flat_map target_of xs ++ flat_map target_of ys
of_append [] ys = refl
of_append (x ∷ xs) ys = ap (λ (ds : List ℕ). target_of x ++ ds) (of_append xs ys) ∙ sym (append_assoc (target_of x) (flat_map target_of xs) (flat_map target_of ys))

of_relas : (ns : Seen) (o : Loaded) (rs : List Reloc) → flat_map chosen_target (map (λ r. Some (choice_at ns o r)) rs) ≡ flat_map target_of (map (choice_at ns o) rs)
of_relas ns o [] = refl
of_relas ns o (r ∷ rs) = ap (λ (ds : List ℕ). target_of (choice_at ns o r) ++ ds) (of_relas ns o rs)

of_slots : (ns : Seen) (now : Bool) (o : Loaded) (rs : List Reloc) → flat_map chosen_target (map (slot_choice ns now o) rs) ≡ flat_map target_of (map (slot_entry ns now o) rs)
of_slots ns now o rs = by (binds_now now o.object) rs
  where
    by : (b : Bool) (rs : List Reloc)
        → flat_map chosen_target (map (λ r. if b then Some (choice_at ns o r) else None) rs) ≡ flat_map target_of (map (λ r. unwrap_or (if b then Some (choice_at ns o r) else None) WeakZero) rs)
    by true [] = refl
    by true (r ∷ rs) = ap (λ (ds : List ℕ). target_of (choice_at ns o r) ++ ds) (by true rs)
    by false [] = refl
    by false (r ∷ rs) = by false rs

one : (s : State) (ns : Seen) (now : Bool) (o : Loaded) → flat_map (choice_edges o.serial) (choices_of ns now o) ≡ chosen_edges (chosen_of s ns now o)
one s ns now o =
    to_all o.serial (choices_of ns now o)
    ∙ ap (edges_to o.serial) (of_append (map (choice_at ns o) o.object.relocs) (map (slot_entry ns now o) o.object.plt_relocs)
    ∙ ap (λ (ds : List ℕ). ds ++ flat_map target_of (map (slot_entry ns now o) o.object.plt_relocs)) (sym (of_relas ns o o.object.relocs))
    ∙ ap (λ (ds : List ℕ). flat_map chosen_target (reloc_choices ns o) ++ ds) (sym (of_slots ns now o o.object.plt_relocs))
    ∙ sym (targets_append (reloc_choices ns o) (slot_choices ns now o)))

pub as_chosen : (s : State) (ns : Seen) (now : Bool) (objects : List Loaded) (choices : List (List Choice)) → length choices ≡ length objects
    → ((k : ℕ) (o : Loaded) → slice_get objects k ≡ Some o → slice_get choices k ≡ Some (choices_of ns now o))
    → edges_among objects choices ≡ flat_map chosen_edges (map (chosen_of s ns now) objects)
as_chosen s ns now [] choices count each = refl
as_chosen s ns now (o ∷ objects) [] count each = absurd (omega (arith, count))
as_chosen s ns now (o ∷ objects) (cs ∷ choices) count each =
    let first : Some cs ≡ Some (choices_of ns now o) = each 0 o refl in
    let same : cs ≡ choices_of ns now o = cc in
    ap (λ (xs : List Choice). flat_map (choice_edges o.serial) xs ++ edges_among objects choices) same
    ∙ ap (λ (es : List Edge). es ++ edges_among objects choices) (one s ns now o)
    ∙ ap (λ (es : List Edge). chosen_edges (chosen_of s ns now o) ++ es) (as_chosen s ns now objects choices (omega (arith, count)) (λ k p at. each (suc k) p at))
