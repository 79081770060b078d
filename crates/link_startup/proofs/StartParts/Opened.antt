-- The state once the program is opened.
use Rattle.std.proofs.Common.{◌≡◌, ℕ, true, List, [], ◌∷◌, map, refl, sym, ap, subst, ◌∙◌}
use Rattle.std.specs.List.{Contains}
use Rattle.std.specs.Option.{is_some}
use Rattle.std.proofs.lemmas.List.{append-nil}
use Rattle.ld_base.specs.declared.linking.Loaded.{Loaded}
use Rattle.history_event.specs.declared.event.Event.{Event}
use Rattle.history_event.specs.declared.event.Event.TheVariants.{Open}
use Rattle.history_event.specs.declared.event.OpenAnswer.TheVariants.{Done}
use Rattle.history_event.specs.declared.event.OpenAsk.{OpenAsk}
use Rattle.history_event.specs.declared.event.Range.{Range}
use Rattle.history_event.specs.declared.state.Module.{Module}
use Rattle.scope_rule.specs.declared.namespace.Namespace.{Namespace}
use Rattle.history_state.specs.After.{after, after_from}
use Rattle.history_state.specs.Laws.{ModulesAreTidy}
use Rattle.history_state.specs.Lemmas.Lists.{in_has, in_map, none_in, only_in}
use Rattle.history_state.specs.Objects.{has, has_namespace, mapped, serial_of, startup_serials}
use Rattle.history_state.specs.State.{State}
use Rattle.history_state.specs.Step.{loaded}
use Rattle.link_startup.specs.StartParts.Loaded.{HasLoaded}

mapped_then : (hart root : ℕ) (ask : OpenAsk) (added : List Loaded) (ranges : List Range) → mapped (after (Open hart ask (Done 0 root added ranges) ∷ [])) ≡ added
unfolding loaded after_from
mapped_then hart root ask added ranges = append-nil added

ranges_then : (hart root : ℕ) (ask : OpenAsk) (added : List Loaded) (ranges : List Range) → (after (Open hart ask (Done 0 root added ranges) ∷ [])).ranges ≡ ranges
unfolding loaded after_from
ranges_then hart root ask added ranges = refl

namespace_then : (hart root : ℕ) (ask : OpenAsk) (added : List Loaded) (ranges : List Range) → has_namespace (after (Open hart ask (Done 0 root added ranges) ∷ [])) 0 ≡ true
unfolding loaded after_from
namespace_then hart root ask added ranges = refl

objects_then : (hart root : ℕ) (ask : OpenAsk) (added : List Loaded) (ranges : List Range) (ns : Namespace)
    → Contains (after (Open hart ask (Done 0 root added ranges) ∷ [])).namespaces ns → ns.objects ≡ added
unfolding loaded after_from
objects_then hart root ask added ranges ns there = ap (λ (n : Namespace). n.objects) (sym (only_in _ ns there))

serials_then : (hart root : ℕ) (ask : OpenAsk) (added : List Loaded) (ranges : List Range) (o : Loaded) → Contains added o
    → has (startup_serials (after (Open hart ask (Done 0 root added ranges) ∷ []))) o.serial ≡ true
unfolding loaded after_from
serials_then hart root ask [] ranges o inside = absurd (none_in o inside)
serials_then hart root ask (first ∷ rest) ranges o inside = in_has (map serial_of (first ∷ rest)) o.serial (in_map serial_of (first ∷ rest) o inside)

module _ (events : List Event) (loaded : HasLoaded events) where
  pub all_mapped : mapped (after events) ≡ loaded.added
  all_mapped = ap mapped loaded.same ∙ mapped_then loaded.hart loaded.root loaded.ask loaded.added loaded.ranges

  pub all_ranges : (after events).ranges ≡ loaded.ranges
  all_ranges = ap (λ (s : State). s.ranges) loaded.same ∙ ranges_then loaded.hart loaded.root loaded.ask loaded.added loaded.ranges

  pub has_base : has_namespace (after events) 0 ≡ true
  has_base = ap (λ (s : State). has_namespace s 0) loaded.same ∙ namespace_then loaded.hart loaded.root loaded.ask loaded.added loaded.ranges

  -- each module has a static offset
  pub all_static : ModulesAreTidy (after events) → (m : Module) → Contains (after events).modules m → is_some m.offset ≡ true
  all_static tidy m there =
      let its = tidy.mapped m there in
      let home : Contains (after (Open loaded.hart loaded.ask (Done 0 loaded.root loaded.added loaded.ranges) ∷ [])).namespaces its.namespace =
      subst (λ (s : State). Contains s.namespaces its.namespace) loaded.same its.inside.there in
      let new : Contains loaded.added its.object =
      subst (λ (os : List Loaded). Contains os its.object) (objects_then loaded.hart loaded.root loaded.ask loaded.added loaded.ranges its.namespace home) its.inside.inside in
      let serial : its.object.serial ≡ m.serial = ap (λ (x : Module). x.serial) its.is in
      tidy.offset m there ∙ ap (λ (s : State). has (startup_serials s) m.serial) loaded.same
      ∙ ap (has (startup_serials (after (Open loaded.hart loaded.ask (Done 0 loaded.root loaded.added loaded.ranges) ∷ [])))) (sym serial)
      ∙ serials_then loaded.hart loaded.root loaded.ask loaded.added loaded.ranges its.object new
