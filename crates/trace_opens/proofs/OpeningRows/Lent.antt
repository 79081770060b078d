-- What a replay lends to who plans an opening.
use Rattle.std.proofs.Common.{◌≡◌, ℕ, Bool, false, List, [], ◌∷◌, Option, Some, None, Ok, refl, sym, ap, subst, ◌∙◌}
use Rattle.std.specs.Prelude.{find}
use Rattle.std.specs.List.{AllByRecursion, Contains}
use Rattle.elf_object.specs.Verdict.{object_verdict}
use Rattle.ld_base.specs.declared.linking.File.{File}
use Rattle.ld_base.specs.declared.linking.Loaded.{Loaded}
use Rattle.ld_base.specs.declared.object.Object.{Object}
use Rattle.ld_base.specs.declared.parts.HashTable.{HashTable}
use Rattle.history_event.specs.declared.event.Event.{Event}
use Rattle.history_event.specs.declared.event.OpenAsk.{OpenAsk}
use Rattle.history_state.specs.After.{after}
use Rattle.history_state.specs.Areas.{free_pages}
use Rattle.history_state.specs.Laws.{IsIn}
use Rattle.history_state.specs.Objects.{has_id}
use Rattle.history_state.specs.Opening.{IsNamed}
use Rattle.history_state.specs.Read.{ObjectsAreRead}
use Rattle.history_state.specs.State.{State, empty_namespace}
use Rattle.history_state.specs.Step.{namespace_before}
use Rattle.history_state.specs.Lemmas.Lists.{found_in, here, later}
use Rattle.history_journal.specs.Following.{machine_of}
use Rattle.link_open_plan.specs.Before.{IsBefore, IsObject}
use Rattle.link_open_plan.specs.ObjectPlaces.Placing.{statics_of}
use Rattle.link_open_plan.specs.declared.before.Before.{Before}
use Rattle.scope_rule.specs.declared.namespace.Namespace.{Namespace}
use Rattle.seg_image.specs.Accepted.{Accepted}
use Rattle.sym_hash.specs.Reached.{IsTableOf}
use Rattle.trace_opens.specs.OpeningRows.Expected.{trace_run}
use Rattle.trace_replay.specs.Lists.{Lists}
use Rattle.trace_replay.specs.Shown.{Shows}

-- the lists are what is lent
pub record Lends (l : Lists) (b : Before) : Type 0 where
  pub next : b.next ≡ l.next
  pub free : b.regions.now ≡ free_pages l.ranges
  pub modules : b.modules.now.modules ≡ l.modules
  pub size : b.modules.now.size ≡ l.statics.size
  pub tp : b.modules.now.tp ≡ l.statics.tp

statics_are : (l : Lists) (b : Before) → Lends l b → statics_of b.modules.now ≡ l.statics
statics_are l b x = ap (λ n. record { size = n; tp = b.modules.now.tp }) x.size ∙ ap (λ n. record { size = l.statics.size; tp = n }) x.tp

pub before_is : (l : Lists) (b : Before) (past : List Event) (ask : OpenAsk) (name : List ℕ) (id : ℕ) (folders : List (List ℕ)) (files : Option (List File)) → Lends l b → b.binds_now ≡ l.binds → l.begins ≡ false
    → Shows past l → IsNamed (after past) ask name id → b.namespace.now ≡ namespace_before (after past) id → IsBefore (trace_run l.harts folders files) past ask name id b folders files
before_is l b past ask name id folders files x binds begun shows named namespace = record {
  lawful = shows.lawful;
  made = record {
    started = sym shows.state.begins ∙ begun;
    named = named;
    namespace = namespace;
    next_is = x.next ∙ shows.state.next;
    verdict = refl;
    folders_are = refl;
    files_are = refl;
  };
  free = x.free ∙ ap free_pages shows.state.ranges;
  modules = x.modules ∙ shows.state.modules;
  statics = statics_are l b x ∙ shows.state.statics;
  binds = binds ∙ shows.state.binds;
}

-- ---- the objects of the namespace

abbrev or_empty : ℕ → Option Namespace → Namespace
or_empty id f = elim f [ Some n ↦ n | None ↦ empty_namespace id ]

all_in : {X : Type 0} (P : X → Type 0) (xs : List X) → ((x : X) → Contains xs x → P x) → AllByRecursion P xs
all_in P [] every = tt
all_in P (x ∷ xs) every = (every x (here x xs), all_in P xs (λ y inside. every y (later x xs y inside)))

abbrev pub Tables : Type 0
Tables = (bytes : List ℕ) (program : Bool) (object : Object) (table : HashTable) → object_verdict bytes program ≡ Ok (object, table) → IsTableOf table object

abbrev pub Images : Type 0
Images = (bytes : List ℕ) (program : Bool) (object : Object) (table : HashTable) → object_verdict bytes program ≡ Ok (object, table) → Accepted object

pub are_objects : (harts : ℕ) (s : State) (id : ℕ) (ns : Namespace) → ns ≡ namespace_before s id → ObjectsAreRead (machine_of harts) s → Tables → Images → AllByRecursion IsObject ns.objects
are_objects harts s id ns is read tables images = subst (λ (n : Namespace). AllByRecursion IsObject n.objects) (sym is) (by (find (has_id id) s.namespaces) refl)
  where
    of_one : (n : Namespace) (o : Loaded) → IsIn s n o → IsObject o
    of_one n o is_in =
        let was = read n o is_in in
        record { table = tables was.bytes was.program o.object o.table was.is; image = images was.bytes was.program o.object o.table was.is }

    by : (f : Option Namespace) → find (has_id id) s.namespaces ≡ f → AllByRecursion IsObject (or_empty id f).objects
    by None e = tt
    by (Some n) e = all_in IsObject n.objects (λ o inside. of_one n o (record { there = (found_in (has_id id) s.namespaces n e).0; inside = inside }))
