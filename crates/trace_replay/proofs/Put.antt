-- The lists with what an opening brings.
use Rattle.std.proofs.Common.{◌≡◌, ℕ, ◌+◌, ◌<◌, ◌&&◌, Bool, true, false, eqb, List, [], ◌∷◌, ◌++◌, get_or, length, map, refl, sym, ap, ◌∙◌, arith}
use Rattle.std.specs.Prelude.{if◌then◌else◌, ◌==◌}
use Rattle.std.specs.List.{filter}
use Rattle.std.proofs.lemmas.List.{length-map}
use Rattle.std.proofs.lemmas.Option.{slice_get-get_or, slice_get_within}
use Rattle.history_event.specs.declared.event.Range.{Range}
use Rattle.history_state.specs.Flags.{is_global, is_now}
use Rattle.history_state.specs.Objects.{serial_of}
use Rattle.history_state.specs.State.{State}
use Rattle.history_state.specs.Step.{has_module, pinned_by, with_namespace}
use Rattle.history_state.specs.Storage.{with_modules}
use Rattle.ld_base.specs.declared.linking.Choice.{Choice}
use Rattle.ld_base.specs.declared.linking.Loaded.{Loaded}
use Rattle.link_open_images.specs.OpeningSteps.Steps.{statics_after}
use Rattle.scope_rule.specs.Opening.{opened}
use Rattle.trace_replay.specs.Lists.{Lists}
use Rattle.trace_replay.specs.Opened.{AreNew, AreRoomy, brought, chosen_by, put_by, starting_of}
use Rattle.trace_replay.specs.declared.steps.bringing.Brings.{Brings as Made}
use Rattle.trace_replay.specs.declared.steps.bringing.NewChoices.{NewChoices}

pub roomy : (now : Bool) (added : List Loaded) (choices : List (List Choice)) (news : List NewChoices) → length choices ≡ length added → AreNew now added choices news → AreRoomy news
roomy now [] choices news count are k n at = absurd (omega (arith, slice_get_within news k n at, are.count))
roomy now (first ∷ rest) choices news count are k n at =
    let within : k < length (first ∷ rest) = omega (arith, slice_get_within news k n at, are.count) in
    let inside : k < length choices = omega (arith, within, count) in
    (are.each k (get_or (first ∷ rest) k first) (get_or choices k []) n (slice_get-get_or (first ∷ rest) k first within) (slice_get-get_or choices k [] inside) at).room

-- with the new objects in their namespace, and their pages reserved
abbrev pub spaced : Lists → ℕ → ℕ → ℕ → List Loaded → List Range → Lists
spaced l flags id root added ranges = record l {
  namespaces = with_namespace id (λ ns. opened ns added root (is_global flags)) l.namespaces;
  ranges = l.ranges ++ ranges;
  pinned = l.pinned ++ pinned_by l.pinned flags root;
}

begins_so : (b x : Bool) → (if b then x else b) ≡ (b && x)
begins_so true x = refl
begins_so false x = refl

pub put_is : (s : State) (l t new : Lists) (hart flags id root : ℕ) (added : List Loaded) (ranges : List Range) (b : Made) → t ≡ spaced l flags id root added ranges
    → b.modules.modules ≡ with_modules added l.modules → record { size = b.modules.size; tp = b.modules.tp } ≡ statics_after l.begins added l.statics
    → b.modules.generation ≡ l.generation + length (filter has_module added) → b.serials.items ≡ map serial_of added → new ≡ put_by s hart flags b t
    → new ≡ brought l flags id root added ranges (map (chosen_by s) b.news.items) new.starting
put_is s l t new hart flags id root added ranges b are modules statics generation serials is =
    let all : new ≡ put_by s hart flags b (spaced l flags id root added ranges) = is ∙ ap (put_by s hart flags b) are in
    let starting : new.starting ≡ l.starting ++ starting_of hart b.order.items = ap (λ (x : Lists). x.starting) all in
    let count : length b.serials.items ≡ length added = ap (λ (ds : List ℕ). length ds) serials ∙ length-map added serial_of in
    let begins : (if l.begins then length b.serials.items == 0 else l.begins) ≡ (l.begins && length added == 0) =
    begins_so l.begins (length b.serials.items == 0) ∙ ap (λ n. l.begins && eqb n 0) count in
    all ∙ (λ i. record (spaced l flags id root added ranges) {
      begins = begins i;
      binds = if l.begins then is_now flags else l.binds;
      next = l.next + count i;
      modules = modules i;
      statics = statics i;
      generation = generation i;
      startup = if l.begins then serials i else l.startup;
      chosen = l.chosen ++ map (chosen_by s) b.news.items;
      starting = l.starting ++ starting_of hart b.order.items;
    }) ∙ ap (brought l flags id root added ranges (map (chosen_by s) b.news.items)) (sym starting)
