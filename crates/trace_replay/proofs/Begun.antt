-- The objects of an opening that are left to be initialised.
use Rattle.std.proofs.Common.{◌≡◌, ⊎_elim, ℕ, not, List, [], ◌∷◌, ◌++◌, map, Option, Some, None, refl, sym, ap, subst, ◌∙◌}
use Rattle.std.specs.Prelude.{◌==◌}
use Rattle.std.specs.List.{Contains, filter, flat_map}
use Rattle.std.specs.Option.{option_map_or}
use Rattle.std.proofs.lemmas.Bool.{eq-eqb, true≢false}
use Rattle.std.proofs.lemmas.List.Elements.{Contains-append_cases, Contains-append_right}
use Rattle.history_calls.specs.CallLaws.Laws.{NewEdgesSuffice}
use Rattle.history_calls.specs.Functions.{AreAddresses, AreConstructors, AreLeft, constructors, object_of}
use Rattle.history_calls.specs.Laws.{OpeningBegins}
use Rattle.history_event.specs.declared.event.Event.{Event}
use Rattle.history_event.specs.declared.event.Event.TheVariants as event
use Rattle.history_event.specs.declared.event.OpenAnswer.TheVariants as opens
use Rattle.history_event.specs.declared.event.OpenAsk.{OpenAsk}
use Rattle.history_event.specs.declared.event.Range.{Range}
use Rattle.history_event.specs.declared.handed.Function.{Function}
use Rattle.history_graph.specs.Initialised.{InitOrder, program_last}
use Rattle.history_state.specs.After.{after}
use Rattle.history_state.specs.Allowed.{Allowed}
use Rattle.history_state.specs.Bound.{linked_with, uncopied, with_copies}
use Rattle.history_state.specs.Legal.{Lawful}
use Rattle.history_state.specs.Lemmas.History.{after_push}
use Rattle.history_state.specs.Lemmas.Lists.{at_in, from_filter, from_map, in_map, not_found}
use Rattle.history_state.specs.Lemmas.Tidy.{in_at}
use Rattle.history_state.specs.Links.{found_edges}
use Rattle.history_state.specs.Memory.{image_of}
use Rattle.history_state.specs.Objects.{mapped, serial_of}
use Rattle.history_state.specs.Setting.{Machine, Setting}
use Rattle.history_state.specs.State.{Linked, State}
use Rattle.history_state.specs.Step.{binds, loaded, seen_after, step}
use Rattle.ld_base.specs.declared.linking.Loaded.{Loaded}

pub of_loading : (serials : List ℕ) (d : ℕ) → Contains (program_last (Some 1) serials) d → Contains serials d
of_loading serials d h = ⊎_elim
    (λ (a : Contains (filter (λ o. not (o == 1)) serials) d). (from_filter (λ o. not (o == 1)) serials d a).0)
    (λ (b : Contains (filter (λ o. o == 1) serials) d). (from_filter (λ o. o == 1) serials d b).0)
    (Contains-append_cases (filter (λ o. not (o == 1)) serials) (filter (λ o. o == 1) serials) d h)

-- functions of these objects, of their images
abbrev function_of : State → ℕ → Function
function_of s o = record { object = o; addresses = option_map_or constructors (image_of s o) [] }

objects_are : (s : State) (order : List ℕ) → map object_of (map (function_of s) order) ≡ order
objects_are s [] = refl
objects_are s (o ∷ rest) = ap (λ os. o ∷ os) (objects_are s rest)

image_serial : (images : List Linked) (added : List Linked) (m : Linked) → Contains added m → Contains (images ++ linked_with images added) (with_copies (images ++ added) m)
unfolding linked_with
image_serial images added m inside = Contains-append_right images (map (with_copies (images ++ added)) added) (with_copies (images ++ added) m) (in_map (with_copies (images ++ added)) added m inside)

has_image : (s : State) (hart id root : ℕ) (ask : OpenAsk) (added : List Loaded) (ranges : List Range) (o : ℕ) → Contains (map serial_of added) o
    → image_of (step s (event.Open hart ask (opens.Done id root added ranges))) o ≡ None → ⊥
unfolding loaded
has_image s hart id root ask added ranges o inside none =
    let at = from_map serial_of added o inside in
    let new : Linked = uncopied (loaded s hart ask id root added ranges) (seen_after s ask id root added) (binds s ask) at.0 in
    let among = in_map (uncopied (loaded s hart ask id root added ranges) (seen_after s ask id root added) (binds s ask)) added at.0 at.1 in
    let there = image_serial s.images (map (uncopied (loaded s hart ask id root added ranges) (seen_after s ask id root added) (binds s ask)) added) new among in
    true≢false (sym (eq-eqb at.0.serial o at.2) ∙ not_found (λ (m : Linked). m.serial == o) _ _ none there)

are_constructors : (s : State) (news order : List ℕ) → InitOrder (flat_map found_edges (mapped s)) (program_last (Some 1) news) order
    → ((o : ℕ) → Contains news o → image_of s o ≡ None → ⊥) → AreConstructors s news (map (function_of s) order)
are_constructors s news order ordered imaged = record {
  order = subst (InitOrder (flat_map found_edges (mapped s)) (program_last (Some 1) news)) (sym (objects_are s order)) ordered;
  addresses = λ f inside.
      let at = from_map (function_of s) order f inside in
      subst (λ (g : Function). AreAddresses constructors g.addresses (image_of s g.object)) at.2 (addressed at.0 at.1);
}
  where
    addressed : (o : ℕ) → Contains order o → AreAddresses constructors (option_map_or constructors (image_of s o) []) (image_of s o)
    addressed o inside =
        let place = in_at order o inside in
        by (image_of s o) (imaged o (of_loading news o (at_in (program_last (Some 1) news) (ordered.each place.0 o place.1).place o (ordered.each place.0 o place.1).stands)))
      where
        by : (image : Option Linked) → (image ≡ None → ⊥) → AreAddresses constructors (option_map_or constructors image []) image
        by (Some m) some = refl
        by None some = absurd (some refl)

module _ (suffices : NewEdgesSuffice) (begins : OpeningBegins) where
  pub begun : (m : Machine) (w : Setting) (past : List Event) (hart id root : ℕ) (ask : OpenAsk) (first : Loaded) (rest : List Loaded) (ranges : List Range) (order : List ℕ) → w.machine ≡ m
      → Lawful m past → Allowed w past (event.Open hart ask (opens.Done id root (first ∷ rest) ranges))
      → InitOrder (flat_map found_edges (first ∷ rest)) (program_last (Some 1) (map serial_of (first ∷ rest))) order
      → AreLeft (after (past ++ event.Open hart ask (opens.Done id root (first ∷ rest) ranges) ∷ [])) (record { hart = hart; serials = map serial_of (first ∷ rest) }) order
  begun m w past hart id root ask first rest ranges order same lawful may ordered =
      let e : Event = event.Open hart ask (opens.Done id root (first ∷ rest) ranges) in
      let s : State = after (past ++ e ∷ []) in
      let all = suffices m w past hart id root ask (first ∷ rest) ranges order same lawful may ordered in
      let constructed = are_constructors s (map serial_of (first ∷ rest)) order all
      (λ o inside none. has_image (after past) hart id root ask (first ∷ rest) ranges o inside (subst (λ (t : State). image_of t o ≡ None) (after_push past e) none)) in
      subst (AreLeft s (record { hart = hart; serials = map serial_of (first ∷ rest) })) (objects_are s order)
      (begins m w past hart id root ask first rest ranges (map (function_of s) order) same lawful may constructed)
