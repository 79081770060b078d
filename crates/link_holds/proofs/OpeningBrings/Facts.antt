-- What is known of an opening, over the lists that a linker has.
use Rattle.std.proofs.Common.{◌≡◌, ℕ, ◌+◌, Bool, List, map, sym, ap, subst, ◌∙◌}
use Rattle.std.specs.List.{Contains}
use Rattle.link_images.specs.declared.parts.Part.{Part}
use Rattle.ld_base.specs.declared.linking.Choice.{Choice}
use Rattle.ld_base.specs.declared.linking.Loaded.{Loaded}
use Rattle.history_event.specs.declared.state.Module.{Module}
use Rattle.history_state.specs.Bound.{place_of}
use Rattle.history_state.specs.Objects.{is_startup}
use Rattle.history_state.specs.State.{State, Statics}
use Rattle.history_state.specs.Step.{binds, loaded}
use Rattle.history_state.specs.Storage.{HaveModules, with_modules}
use Rattle.history_state.specs.Lemmas.Lists.{at_in}
use Rattle.link_open_images.specs.ObjectBindings.Bindings.{CanRead}
use Rattle.link_open_images.specs.Relocated.{AreChoices, AreRelocated, MayRelocateAll}
use Rattle.link_open_laws.specs.Laws.{CanBePlaced, places_after}
use Rattle.link_holds.specs.OpeningBrings.Brought.{AreModules, seen_of, seen_with}
use Rattle.link_holds.specs.declared.opening_brings.bringing.Planned.{Planned}
use Rattle.link_open_images.specs.OpeningSteps.Steps.{statics_after, statics_of}
use Rattle.relocator.specs.declared.binding.ModulePlace.{ModulePlace}
use Rattle.scope_rule.specs.Seen.{Seen}
use Rattle.scope_rule.specs.declared.namespace.Namespace.{Namespace}
use Rattle.seg_image.specs.declared.image.Image.{Image}
use Rattle.link_holds.specs.OpeningBrings.StartupAreas.Areas.{AreAreas}
use Rattle.link_holds.specs.OpeningBrings.StartupAreas.Blocks.{FitBlocks}
use Rattle.link_holds.specs.OpeningBrings.StartupAreas.Laws.{parts_made, statics_then}
use Rattle.tls_blocks.specs.Numbers.{ModuleTable}

abbrev pub places_of : State → Planned → List ModulePlace
places_of s p = places_after s p.hart p.ask.now p.ns p.root p.added.now p.ranges.now

pub have_there : (s : State) (table : ModuleTable) (startup : Bool) (added : List Loaded) → AreModules s table → startup ≡ is_startup s → HaveModules (is_startup s) s.modules s.statics added
    → HaveModules startup table.modules (statics_of table) added
have_there s table startup added are is have =
    subst (λ (b : Bool). HaveModules b table.modules (statics_of table) added) (sym is)
    (subst (λ (st : Statics). HaveModules (is_startup s) table.modules st added) (sym are.statics)
    (subst (λ (ms : List Module). HaveModules (is_startup s) ms s.statics added) (sym are.modules) have))

pub choices_there : (s : State) (p : Planned) (namespaces : List Namespace) (now : Bool) (choices : List (List Choice)) → namespaces ≡ s.namespaces → AreChoices (seen_of s p) now p.added.now choices
    → AreChoices (seen_with namespaces p) now p.added.now choices
choices_there s p namespaces now choices are has = subst (λ (all : List Namespace). AreChoices (seen_with all p) now p.added.now choices) (sym are) has

-- where the modules of the state are with those of the new objects
pub places_there : (s : State) (p : Planned) (table new : ModuleTable) (places : List ModulePlace) → AreModules s table → new.modules ≡ with_modules p.added.now table.modules
    → places ≡ map place_of new.modules → places ≡ places_of s p
unfolding loaded
places_there s p table new places are is has = has ∙ ap (map place_of) (is ∙ ap (with_modules p.added.now) are.modules)

pub may_there : (s : State) (p : Planned) (namespaces : List Namespace) (now : Bool) (places : List ModulePlace) → namespaces ≡ s.namespaces → now ≡ binds s p.ask.now → places ≡ places_of s p
    → MayRelocateAll (seen_of s p) (binds s p.ask.now) (places_of s p) p.added.now → MayRelocateAll (seen_with namespaces p) now places p.added.now
may_there s p namespaces now places are is has may =
    subst (λ (all : List Namespace). MayRelocateAll (seen_with all p) now places p.added.now) (sym are)
    (subst (λ (b : Bool). MayRelocateAll (seen_of s p) b places p.added.now) (sym is)
    (subst (λ (ps : List ModulePlace). MayRelocateAll (seen_of s p) (binds s p.ask.now) ps p.added.now) (sym has) may))

pub relocated_there : (s : State) (p : Planned) (namespaces : List Namespace) (now : Bool) (places : List ModulePlace) (images : List Image) → namespaces ≡ s.namespaces → now ≡ binds s p.ask.now
    → places ≡ places_of s p → AreRelocated (seen_with namespaces p) now places p.added.now images → AreRelocated (seen_of s p) (binds s p.ask.now) (places_of s p) p.added.now images
relocated_there s p namespaces now places images are is has relocated =
    subst (λ (ps : List ModulePlace). AreRelocated (seen_of s p) (binds s p.ask.now) ps p.added.now images) has
    (subst (λ (b : Bool). AreRelocated (seen_of s p) b places p.added.now images) is
    (subst (λ (all : List Namespace). AreRelocated (seen_with all p) now places p.added.now images) are relocated))

pub can_read : (ns : Seen) (now : Bool) (places : List ModulePlace) (objects : List Loaded) (images : List Image) → ((o : Loaded) → Contains objects o → CanBePlaced o)
    → AreRelocated ns now places objects images → CanRead objects images
can_read ns now places objects images placed are = record {
  count = are.count;
  accepted = λ k o at. (placed o (at_in objects k o at)).accepted.image;
  whole = λ k o image at there. (are.each k o image at there).all;
}

-- ---- areas

abbrev pub parts_of : State → Planned → List Part
parts_of s p = parts_made s p.hart p.ask.now p.ns p.root p.added.now p.ranges.now

pub statics_there : (s : State) (p : Planned) (table new : ModuleTable) (startup : Bool) → AreModules s table → startup ≡ is_startup s → statics_of new ≡ statics_after startup p.added.now (statics_of table)
    → statics_of new ≡ statics_then s p.added.now
statics_there s p table new startup are is has = has ∙ ap (λ (b : Bool). statics_after b p.added.now (statics_of table)) is ∙ ap (statics_after (is_startup s) p.added.now) are.statics

pub fit_there : (s : State) (p : Planned) (st : Statics) (parts : List Part) (tp size : ℕ) → st ≡ statics_then s p.added.now → tp ≡ st.tp → size ≡ st.size → parts ≡ parts_of s p
    → FitBlocks (statics_then s p.added.now).tp ((statics_then s p.added.now).tp + (statics_then s p.added.now).size) p.added.now (parts_of s p) → FitBlocks tp (tp + size) p.added.now parts
fit_there s p st parts tp size is tp_is size_is has fit =
    subst (λ (n : ℕ). FitBlocks n (n + size) p.added.now parts) (sym tp_is)
    (subst (λ (n : ℕ). FitBlocks st.tp (st.tp + n) p.added.now parts) (sym size_is)
    (subst (λ (x : Statics). FitBlocks x.tp (x.tp + x.size) p.added.now parts) (sym is)
    (subst (λ (ps : List Part). FitBlocks (statics_then s p.added.now).tp ((statics_then s p.added.now).tp + (statics_then s p.added.now).size) p.added.now ps) (sym has) fit)))

pub areas_there : (s : State) (p : Planned) (st : Statics) (parts : List Part) (startup : Bool) (tp : ℕ) (images : List Image) → st ≡ statics_then s p.added.now → tp ≡ st.tp → startup ≡ is_startup s
    → parts ≡ parts_of s p → AreAreas startup tp p.ranges.now p.added.now parts images
    → AreAreas (is_startup s) (statics_then s p.added.now).tp p.ranges.now p.added.now (parts_of s p) images
areas_there s p st parts startup tp images is tp_is first has areas =
    subst (λ (x : Statics). AreAreas (is_startup s) x.tp p.ranges.now p.added.now (parts_of s p) images) is
    (subst (λ (n : ℕ). AreAreas (is_startup s) n p.ranges.now p.added.now (parts_of s p) images) tp_is
    (subst (λ (b : Bool). AreAreas b tp p.ranges.now p.added.now (parts_of s p) images) first
    (subst (λ (ps : List Part). AreAreas startup tp p.ranges.now p.added.now ps images) has areas)))
