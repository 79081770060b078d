-- What planning an opening is lent of the linker's state.
use Rattle.std.specs.Prelude.{◌≡◌, ℕ, ◌||◌, Bool, List, Option, Some, Ok}
use Rattle.std.specs.List.{AllByRecursion}
use Rattle.std.specs.Option.{is_some}
use Rattle.elf_object.specs.Verdict.{object_verdict}
use Rattle.ld_base.specs.declared.linking.File.{File}
use Rattle.ld_base.specs.declared.linking.Loaded.{Loaded}
use Rattle.history_event.specs.declared.event.Event.{Event}
use Rattle.history_event.specs.declared.event.OpenAsk.{OpenAsk}
use Rattle.history_state.specs.After.{after}
use Rattle.history_state.specs.Areas.{free_pages}
use Rattle.history_state.specs.Flags.{is_global, is_now}
use Rattle.history_state.specs.Legal.{Lawful}
use Rattle.history_state.specs.Objects.{is_startup}
use Rattle.history_state.specs.Opening.{IsNamed}
use Rattle.history_state.specs.Setting.{Setting}
use Rattle.history_state.specs.Step.{binds, namespace_before}
use Rattle.link_open_plan.specs.ObjectPlaces.Placing.{statics_of}
use Rattle.link_open_plan.specs.OpeningLoad.Finding.{IsMade}
use Rattle.scope_rule.specs.Opening.{opened}
use Rattle.scope_rule.specs.Seen.{Seen, seen_in}
use Rattle.seg_image.specs.Accepted.{Accepted}
use Rattle.sym_hash.specs.Reached.{IsTableOf}
use Rattle.link_open_plan.specs.declared.before.Before.{Before}

-- the table of an object is its own, and it may have an image
pub record IsObject (o : Loaded) : Type 0 where
  pub table : IsTableOf o.table o.object
  pub image : Accepted o.object

-- the namespace has objects alone
abbrev pub HasObjects : Before → Type 0
HasObjects b = AllByRecursion IsObject b.namespace.now.objects

-- what is seen of the namespace once these objects were opened
abbrev pub seen_with : Before → OpenAsk → ℕ → List Loaded → Seen
seen_with b ask root added = seen_in (opened b.namespace.now added root (is_global ask.flags))

-- after these events an opening by name is to be made, and what is lent is what the state has; the run reads these files as objects, in these
-- folders
pub record IsBefore (w : Setting) (past : List Event) (ask : OpenAsk) (name : List ℕ) (id : ℕ) (b : Before) (folders : List (List ℕ))
    (files : Option (List File)) : Type 0 where
  pub lawful : Lawful w.machine past
  pub made : IsMade w (after past) ask name id b.namespace.now b.next folders files
  pub free : b.regions.now ≡ free_pages (after past).ranges
  pub modules : b.modules.now.modules ≡ (after past).modules
  pub statics : statics_of b.modules.now ≡ (after past).statics
  pub binds : b.binds_now ≡ (after past).now

-- ---- for the code of this crate alone

-- an object was read of some bytes, as a program or as a library
pub record WasRead (o : Loaded) : Type 0 where
  pub bytes : List ℕ
  pub program : Bool
  pub is : object_verdict bytes program ≡ Ok (o.object, o.table)

-- what is lent is what the state has after these events, where new objects are to be opened by name: at startup for so many harts
pub record IsLent (w : Setting) (past : List Event) (ask : OpenAsk) (name : List ℕ) (id : ℕ) (harts : Option ℕ) (b : Before) : Type 0 where
  pub lawful : Lawful w.machine past
  pub named : IsNamed (after past) ask name id
  pub startup : is_startup (after past) ≡ is_some harts
  pub count : (n : ℕ) → harts ≡ Some n → w.machine.harts ≡ n
  pub namespace : b.namespace.now ≡ namespace_before (after past) id
  pub free : b.regions.now ≡ free_pages (after past).ranges
  pub modules : b.modules.now.modules ≡ (after past).modules
  pub statics : statics_of b.modules.now ≡ (after past).statics
  pub binds_are : (b.binds_now || is_now ask.flags) ≡ binds (after past) ask
