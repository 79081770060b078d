-- One stage of an opening after another.
use Rattle.std.proofs.Common.{◌≡◌, ℕ, ◌||◌, Bool, true, List, length, map, Option, Some, None, refl, sym, ap, subst, ◌∙◌}
use Rattle.history_calls.specs.CallLaws.Laws.{AreNumberedFrom, NewStandBehind}
use Rattle.ld_base.specs.declared.linking.Choice.{Choice}
use Rattle.ld_base.specs.declared.linking.Loaded.{Loaded}
use Rattle.history_event.specs.declared.event.Event.{Event}
use Rattle.history_event.specs.declared.event.OpenAsk.{OpenAsk}
use Rattle.history_event.specs.declared.event.Range.{Range}
use Rattle.history_event.specs.declared.state.Module.{Module}
use Rattle.history_state.specs.After.{after}
use Rattle.history_state.specs.Areas.{Area, AreBased, AreGiven, LacksRoom, areas}
use Rattle.history_state.specs.Bound.{place_of}
use Rattle.history_state.specs.Flags.{is_deepbind, is_global, is_now}
use Rattle.history_state.specs.Laws.{AreApart, SerialsAreInOrder}
use Rattle.history_state.specs.Legal.{Lawful}
use Rattle.history_state.specs.Objects.{serial_of}
use Rattle.history_state.specs.Opening.{ArePlaced, HaveStorage, has_no_pages, refused, unplaced, unrelocated, wanted}
use Rattle.history_state.specs.Relocating.{relocation_fault}
use Rattle.history_state.specs.Setting.{Machine, Setting, load_of}
use Rattle.history_state.specs.State.{State, Statics}
use Rattle.history_state.specs.Step.{loaded, seen_after}
use Rattle.history_state.specs.Storage.{HaveModules, statics_with, with_modules}
use Rattle.history_calls.specs.LoadChoices.Choices.{choices_of}
use Rattle.link_open_plan.specs.ObjectChoices.Choices.{IsFaultOf}
use Rattle.link_open_plan.specs.ObjectChoices.Sight.{Shows}
use Rattle.link_open_plan.specs.declared.object_choices.choosing.ChoiceFault.{ChoiceFault}
use Rattle.link_open_plan.specs.declared.object_choices.choosing.ChoiceFault.TheVariants as choosing
use Rattle.link_open_plan.specs.ObjectPlaces.Placing.{HavePlaces, IsUnplaced, areas_by, statics_of}
use Rattle.link_open_plan.specs.declared.object_places.placing.PlaceFault.{PlaceFault}
use Rattle.link_open_plan.specs.declared.object_places.placing.PlaceFault.TheVariants as placing
use Rattle.link_open_plan.specs.declared.object_places.placing.Places.{Places}
use Rattle.link_open_plan.specs.OpeningLoad.Finding.{FindsAll}
use Rattle.scope_rule.specs.Load.{Load, Walk, records_of}
use Rattle.scope_rule.specs.Opening.{opened}
use Rattle.scope_rule.specs.Seen.{Seen, seen_in}
use Rattle.scope_rule.specs.declared.namespace.Namespace.{Namespace}
use Rattle.std.specs.List.{range_with_len}
use Rattle.std.specs.Option.{is_some}
use Rattle.link_open_plan.specs.Before.{IsLent, seen_with}
use Rattle.link_open_plan.specs.Planned.{IsUnopened, PlansNew, choice_fault, place_fault}
use Rattle.link_open_plan.specs.declared.before.Before.{Before}
use Rattle.link_open_plan.proofs.News.{as_found, numbered}
use Rattle.link_open_plan.proofs.Shown.{shown}

-- what relocations of new objects are refused for, or that they aren't, in each state that has what is seen
abbrev pub AreFaultedBy : Before → OpenAsk → ℕ → ChoiceFault → List Module → List Loaded → Type 0
AreFaultedBy b ask root fault modules added = (s : State) → Shows s (seen_with b ask root added) (map place_of modules)
    → IsFaultOf (relocation_fault s (seen_with b ask root added) (b.binds_now || is_now ask.flags) added) fault

abbrev pub AreRelocated : Before → OpenAsk → ℕ → List Module → List Loaded → Type 0
AreRelocated b ask root modules added = (s : State) → Shows s (seen_with b ask root added) (map place_of modules)
    → relocation_fault s (seen_with b ask root added) (b.binds_now || is_now ask.flags) added ≡ None

-- the laws of all lawful histories that a plan stands on
pub record PlanLaws : Type 0 where
  pub stand : NewStandBehind
  pub apart : (m : Machine) (events : List Event) → Lawful m events → AreApart (after events)
  pub order : (m : Machine) (events : List Event) → Lawful m events → SerialsAreInOrder (after events)
  pub follow : (load : Load) (deep : Bool) (w : Walk) → map serial_of (records_of load deep w) ≡ range_with_len load.next (length w.arrivals)

-- after startup nothing is wanted beside the objects, however many harts there are
counted : (harts : Option ℕ) (count : ℕ) (st : Statics) (added : List Loaded) → ((n : ℕ) → harts ≡ Some n → count ≡ n)
    → areas_by harts st added ≡ areas (is_some harts) st count added
counted None count st added are = refl
counted (Some n) count st added are = ap (λ (k : ℕ). areas true st k added) (sym (are n refl))

module _ (laws : PlanLaws) (w : Setting) (past : List Event) (hart id root : ℕ) (ask : OpenAsk) (name : List ℕ) (harts : Option ℕ) (b : Before)
    (is : IsLent w past ask name id harts b) (news added : List Loaded) (finds : FindsAll w (after past) hart ask name id root news) (same : map unplaced added ≡ map unplaced news) where
  abbrev pub s : State
  s = after past

  -- they are those that were found
  are_found : map unplaced added ≡ news
  are_found = same ∙ as_found (load_of w s hart id name finds.finds.reading) (is_deepbind ask.flags) finds.finds.walk news finds.finds.are

  are_numbered : AreNumberedFrom s.next added
  are_numbered = numbered laws.follow (load_of w s hart id name finds.finds.reading) (is_deepbind ask.flags) finds.finds.walk news added finds.finds.are are_found

  -- what is seen of the namespace, and whether slots are bound
  seen_is : seen_with b ask root added ≡ seen_after s ask id root added
  seen_is = ap (λ (ns : Namespace). seen_in (opened ns added root (is_global ask.flags))) is.namespace

  stored : HaveModules (is_some harts) b.modules.now.modules (statics_of b.modules.now) added → HaveStorage s news added
  stored have = record {
    same = are_found;
    modules =
        subst (λ (first : Bool). HaveModules first s.modules s.statics added) (sym is.startup)
        (subst (λ (ms : List Module). HaveModules (is_some harts) ms s.statics added) is.modules
        (subst (λ (st : Statics). HaveModules (is_some harts) b.modules.now.modules st added) is.statics have));
  }

  wanted_is : areas_by harts (statics_with added (statics_of b.modules.now)) added ≡ wanted w s added
  wanted_is =
      ap (λ (st : Statics). areas_by harts (statics_with added st) added) is.statics
      ∙ counted harts w.machine.harts (statics_with added s.statics) added is.count
      ∙ sym (ap (λ (first : Bool). areas first (statics_with added s.statics) w.machine.harts added) is.startup)

  placed : (ranges : List Range) (left : List ℕ) → AreGiven b.regions.now (areas_by harts (statics_with added (statics_of b.modules.now)) added) ranges left → AreBased added ranges
      → ArePlaced w s added ranges
  placed ranges left given based = record {
    left = left;
    given = subst (λ (free : List ℕ). AreGiven free (wanted w s added) ranges left) is.free (subst (λ (xs : List Area). AreGiven b.regions.now xs ranges left) wanted_is given);
    based = based;
  }

  -- the modules with theirs are those of the state with them
  shows : (ranges : List Range) (modules : List Module) → modules ≡ with_modules added b.modules.now.modules → Shows (loaded s hart ask id root added ranges) (seen_with b ask root added) (map place_of modules)
  shows ranges modules are =
      subst (λ (ns : Seen). Shows (loaded s hart ask id root added ranges) ns (map place_of modules)) (sym seen_is)
      (subst (λ (ms : List Module). Shows (loaded s hart ask id root added ranges) (seen_after s ask id root added) (map place_of ms)) (sym (are ∙ ap (with_modules added) is.modules))
      (shown laws.stand w.machine past hart id root ask added ranges is.lawful (laws.apart w.machine past is.lawful) (laws.order w.machine past is.lawful) are_numbered))

  refused_is : (ranges : List Range)
      → relocation_fault (loaded s hart ask id root added ranges) (seen_with b ask root added) (b.binds_now || is_now ask.flags) added ≡ refused s hart ask id root added ranges
  refused_is ranges =
      ap (λ (ns : Seen). relocation_fault (loaded s hart ask id root added ranges) ns (b.binds_now || is_now ask.flags) added) seen_is
      ∙ ap (λ (now : Bool). relocation_fault (loaded s hart ask id root added ranges) (seen_after s ask id root added) now added) is.binds_are

  -- ---- what it comes to

  pub plans_new : (p : Places) (choices : List (List Choice)) → HavePlaces b.regions.now b.modules.now harts added p
      → choices ≡ map (choices_of (seen_with b ask root added) (b.binds_now || is_now ask.flags)) added
      → AreRelocated b ask root p.modules.modules added
      → PlansNew w s hart ask name id (record { root = root; added = added; ranges = p.ranges; choices = choices })
  plans_new p choices have are relocated = record {
    loads = record {
      news = news;
      finds = finds.finds;
      versions = finds.versions;
      storage = stored have.storage;
      placed = placed p.ranges have.left have.given have.based;
      relocated = sym (refused_is p.ranges) ∙ relocated (loaded s hart ask id root added p.ranges) (shows p.ranges p.modules.modules have.modules);
    };
    choices = are
        ∙ ap (λ (ns : Seen). map (choices_of ns (b.binds_now || is_now ask.flags)) added) seen_is
        ∙ ap (λ (now : Bool). map (choices_of (seen_after s ask id root added) now) added) is.binds_are;
    numbered = are_numbered;
  }

  pub no_places : (fault : PlaceFault) → IsUnplaced b.regions.now b.modules.now harts added fault → IsUnopened w s hart ask (place_fault fault)
  no_places (placing.Full pages) lack = has_no_pages name id pages (record {
    named = is.named;
    root = root;
    news = news;
    finds = finds.finds;
    versions = finds.versions;
    added = added;
    storage = stored lack.storage;
    lacks = subst (λ (free : List ℕ). LacksRoom free (wanted w s added) pages) is.free (subst (λ (xs : List Area). LacksRoom b.regions.now xs pages) wanted_is lack.lacks);
  })
  no_places placing.Memory lack = tt

  pub no_choices : (p : Places) (fault : ChoiceFault) → HavePlaces b.regions.now b.modules.now harts added p
      → AreFaultedBy b ask root fault p.modules.modules added → IsUnopened w s hart ask (choice_fault fault)
  no_choices p (choosing.Refused fault) have refuses = unrelocated name id fault (record {
    named = is.named;
    root = root;
    news = news;
    finds = finds.finds;
    versions = finds.versions;
    added = added;
    storage = stored have.storage;
    ranges = p.ranges;
    placed = placed p.ranges have.left have.given have.based;
    is = sym (refused_is p.ranges) ∙ refuses (loaded s hart ask id root added p.ranges) (shows p.ranges p.modules.modules have.modules);
  })
  no_choices p choosing.Memory have refuses = tt
