-- Startup's opening behind events that touched nothing.
use Rattle.std.proofs.Common.{◌≡◌, ℕ, Bool, true, false, List, [], ◌∷◌, Option, Some, None, refl, sym, ap, subst, ◌∙◌}
use Rattle.std.specs.Prelude.{if◌then◌else◌, IsTrue, map}
use Rattle.std.specs.Option.{option_or}
use Rattle.ld_base.specs.declared.fault.DlFault.{DlFault}
use Rattle.ld_base.specs.declared.fault.DlFault.TheVariants as faults
use Rattle.ld_base.specs.declared.linking.Choice.{Choice}
use Rattle.ld_base.specs.declared.linking.Choice.TheVariants.{Def, WeakZero, Missing}
use Rattle.ld_base.specs.declared.linking.Loaded.{Loaded}
use Rattle.ld_base.specs.declared.object.Reloc.{Reloc}
use Rattle.history_event.specs.declared.event.OpenAnswer.{OpenAnswer}
use Rattle.history_event.specs.declared.event.OpenAnswer.TheVariants as answers
use Rattle.history_event.specs.declared.event.OpenAsk.{OpenAsk}
use Rattle.history_event.specs.declared.event.Range.{Range}
use Rattle.history_event.specs.declared.state.Ending.{Ending}
use Rattle.history_event.specs.declared.state.Kept.{Kept}
use Rattle.history_event.specs.declared.state.Loading.{Loading}
use Rattle.history_state.specs.Addresses.{address, is_code_of, leads_to_code}
use Rattle.history_state.specs.Asking.{AreNamespacesFull, IsAsked, IsBadNamespace, IsNamespace}
use Rattle.history_state.specs.Bound.{binding_of, binds_now, place_of}
use Rattle.history_state.specs.Flags.{is_noload}
use Rattle.history_state.specs.Objects.{is_none_loaded, is_startup}
use Rattle.history_state.specs.Opening.{ArePlaced, Finds, HaveStorage, IsNamed, IsNowhere, Loads, MayOpen}
use Rattle.history_state.specs.Opening.{OpensName, Refuses, refused}
use Rattle.history_state.specs.Opening.Refuses.{name_too_long, bad_flags, bad_namespace, namespaces_full, stopped, lacks_version, has_no_pages, unrelocated}
use Rattle.history_state.specs.Read.{IsUntouched}
use Rattle.history_state.specs.Relocating.{first_fault, is_missing, missing_symbol, object_fault, reloc_fault, relocation_fault, slot_fault, slot_fault_by}
use Rattle.history_state.specs.Setting.{ReadingsBy, Setting}
use Rattle.history_state.specs.State.{State, empty_state}
use Rattle.history_state.specs.Step.{binds, loaded, seen_after}
use Rattle.relocator.specs.Storage.{lacks_offset}
use Rattle.relocator.specs.declared.binding.Binding.{Binding}
use Rattle.scope_rule.specs.Finding.{Reading}
use Rattle.scope_rule.specs.Relocation.{choice_at}
use Rattle.scope_rule.specs.Seen.{Seen}

-- ---- refused relocations, whatever is kept and whichever harts have ended

same_first : {X : Type 0} (f g : X → Option DlFault) → ((x : X) → f x ≡ g x) → (xs : List X) → first_fault f xs ≡ first_fault g xs
same_first f g same [] = refl
same_first f g same (x ∷ rest) = ap (λ a. option_or a (first_fault f rest)) (same x) ∙ ap (option_or (g x)) (same_first f g same rest)

module _ (s : State) (k : List Kept) (e : List Ending) where
  abbrev other : State
  other = record s { kept = k; endings = e }

  same_binding : (r : Reloc) (c : Choice) → binding_of other r c ≡ binding_of s r c
  unfolding address
  same_binding r (Def serial index) = refl
  same_binding r WeakZero = refl
  same_binding r Missing = refl

  same_reloc : (ns : Seen) (o : Loaded) (r : Reloc) → reloc_fault other ns o r ≡ reloc_fault s ns o r
  same_reloc ns o r = ap (λ (b : Binding). if is_missing (choice_at ns o r) then Some (missing_symbol o r)
      else if lacks_offset o.serial (map place_of s.modules) (r, b) then Some (faults.NeedsStaticTls o.path) else None) (same_binding r (choice_at ns o r))

  same_slot_by : (o : Loaded) (r : Reloc) (c : Choice) → slot_fault_by other o r c ≡ slot_fault_by s o r c
  unfolding leads_to_code is_code_of address
  same_slot_by o r (Def serial index) = refl
  same_slot_by o r WeakZero = refl
  same_slot_by o r Missing = refl

  same_slot : (ns : Seen) (now : Bool) (o : Loaded) (r : Reloc) → slot_fault other ns now o r ≡ slot_fault s ns now o r
  same_slot ns now o r = ap (λ (f : Option DlFault). if binds_now now o.object then f else None) (same_slot_by o r (choice_at ns o r))

  same_object : (ns : Seen) (now : Bool) (o : Loaded) → object_fault other ns now o ≡ object_fault s ns now o
  same_object ns now o =
      ap (λ a. option_or a (first_fault (slot_fault other ns now o) o.object.plt_relocs)) (same_first (reloc_fault other ns o) (reloc_fault s ns o) (same_reloc ns o) o.object.relocs)
      ∙ ap (option_or (first_fault (reloc_fault s ns o) o.object.relocs)) (same_first (slot_fault other ns now o) (slot_fault s ns now o) (same_slot ns now o) o.object.plt_relocs)

  same_relocation : (ns : Seen) (now : Bool) (added : List Loaded) → relocation_fault other ns now added ≡ relocation_fault s ns now added
  unfolding relocation_fault
  same_relocation ns now added = same_first (object_fault other ns now) (object_fault s ns now) (same_object ns now) added

-- ---- states in which nothing was loaded

abbrev pub begun : Bool → List Kept → List Ending → State
begun now k e = record empty_state { now = now; kept = k; endings = e }

module _ (w : Setting) (hart : ℕ) (ask : OpenAsk) where
  same_refused : (n : Bool) (k : List Kept) (e : List Ending) (id root : ℕ) (added : List Loaded) (ranges : List Range)
      → refused (begun n k e) hart ask id root added ranges ≡ refused empty_state hart ask id root added ranges
  unfolding loaded
  same_refused n k e id root added ranges =
      same_relocation (loaded empty_state hart ask id root added ranges) k e (seen_after empty_state ask id root added) (binds empty_state ask) added

  module _ (n m : Bool) (k l : List Kept) (e f : List Ending) where
    asked : (id : ℕ) → IsAsked (begun n k e) ask id → IsAsked (begun m l f) ask id
    asked id x = record { short = x.short; flags = x.flags; namespace = by ask.ns ask.name x.namespace }
      where
        by : (ns : Option ℕ) (name : Option (List ℕ)) → IsNamespace (begun n k e) ns name id → IsNamespace (begun m l f) ns name id
        by (Some number) (Some name) y = y
        by (Some number) None y = y
        by None (Some name) y = record { free = y.free; below = y.below; least = y.least }
        by None None y = y

    named : (name : List ℕ) (id : ℕ) → IsNamed (begun n k e) ask name id → IsNamed (begun m l f) ask name id
    named name id x = record { asked = asked id x.asked; named = x.named }

    readings : (b : Bool) (name : List ℕ) (r : List ℕ → Reading) → ReadingsBy b w (begun n k e) name r → ReadingsBy b w (begun m l f) name r
    readings true name r x = x
    readings false name r x = x

    finds : (name : List ℕ) (id root : ℕ) (news : List Loaded) → Finds w (begun n k e) hart ask name id root news → Finds w (begun m l f) hart ask name id root news
    finds name id root news x = record { reading = x.reading; read = readings (is_noload ask.flags) name x.reading x.read; walk = x.walk; brings = x.brings; root_is = x.root_is; are = x.are }

    stored : (news added : List Loaded) → HaveStorage (begun n k e) news added → HaveStorage (begun m l f) news added
    stored news added x = record { same = x.same; modules = x.modules }

    placed : (added : List Loaded) (ranges : List Range) → ArePlaced w (begun n k e) added ranges → ArePlaced w (begun m l f) added ranges
    placed added ranges x = record { left = x.left; given = x.given; based = x.based }

    refused_so : (id root : ℕ) (added : List Loaded) (ranges : List Range) → refused (begun m l f) hart ask id root added ranges ≡ refused (begun n k e) hart ask id root added ranges
    refused_so id root added ranges = same_refused m l f id root added ranges ∙ sym (same_refused n k e id root added ranges)

    loads : (name : List ℕ) (id root : ℕ) (added : List Loaded) (ranges : List Range) → Loads w (begun n k e) hart ask name id root added ranges → Loads w (begun m l f) hart ask name id root added ranges
    loads name id root added ranges x = record {
      news = x.news;
      finds = finds name id root x.news x.finds;
      versions = x.versions;
      storage = stored x.news added x.storage;
      placed = placed added ranges x.placed;
      relocated = refused_so id root added ranges ∙ x.relocated;
    }

    opens_name : (name : Option (List ℕ)) (id root : ℕ) (added : List Loaded) (ranges : List Range) → OpensName w (begun n k e) hart ask name id root added ranges → OpensName w (begun m l f) hart ask name id root added ranges
    opens_name (Some name) id root added ranges x = loads name id root added ranges x
    opens_name None id root added ranges x = record {
      program = x.program;
      none = x.none;
      no_pages = x.no_pages;
      stands = record { object = x.stands.object; inside = x.stands.inside; is = x.stands.is; stays = x.stands.stays };
    }

    nowhere : (name : List ℕ) (id : ℕ) → IsNowhere w (begun n k e) hart ask name id → IsNowhere w (begun m l f) hart ask name id
    nowhere name id x = record { noload = x.noload; none = x.none }

  module _ (n m : Bool) (k l : List Kept) (e f : List Ending) where
    refuses : (fault : DlFault) → Refuses w (begun n k e) hart ask fault → Refuses w (begun m l f) hart ask fault
    refuses _ (name_too_long name is long too) = name_too_long name is long too
    refuses _ (bad_flags short bad) = bad_flags short bad
    refuses _ (bad_namespace number short flags bad) = bad_namespace number short flags (by ask.ns ask.name bad)
      where
        by : (ns : Option ℕ) (name : Option (List ℕ)) → IsBadNamespace (begun n k e) ns name number → IsBadNamespace (begun m l f) ns name number
        by (Some number) (Some name) y = y
        by (Some number) None y = y
        by None (Some name) y = y
        by None None y = y
    refuses _ (namespaces_full short flags full) = namespaces_full short flags (by ask.ns ask.name full)
      where
        by : (ns : Option ℕ) (name : Option (List ℕ)) → AreNamespacesFull (begun n k e) ns name → AreNamespacesFull (begun m l f) ns name
        by (Some number) name y = y
        by None (Some name) y = y
        by None None y = y
    refuses _ (stopped name id fault x) = stopped name id fault (record {
      named = named n m k l e f name id x.named;
      reading = x.reading;
      read = readings n m k l e f (is_noload ask.flags) name x.reading x.read;
      loads = λ none. x.loads (nowhere m n l k f e name id none);
      stops = x.stops;
    })
    refuses _ (lacks_version name id fault x) = lacks_version name id fault (record {
      named = named n m k l e f name id x.named;
      root = x.root;
      news = x.news;
      finds = finds n m k l e f name id x.root x.news x.finds;
      lacks = x.lacks;
    })
    refuses _ (has_no_pages name id pages x) = has_no_pages name id pages (record {
      named = named n m k l e f name id x.named;
      root = x.root;
      news = x.news;
      finds = finds n m k l e f name id x.root x.news x.finds;
      versions = x.versions;
      added = x.added;
      storage = stored n m k l e f x.news x.added x.storage;
      lacks = x.lacks;
    })
    refuses _ (unrelocated name id fault x) = unrelocated name id fault (record {
      named = named n m k l e f name id x.named;
      root = x.root;
      news = x.news;
      finds = finds n m k l e f name id x.root x.news x.finds;
      versions = x.versions;
      added = x.added;
      storage = stored n m k l e f x.news x.added x.storage;
      ranges = x.ranges;
      placed = placed n m k l e f x.added x.ranges x.placed;
      is = refused_so n m k l e f id x.root x.added x.ranges ∙ x.is;
    })

    may_open : (answer : OpenAnswer) → MayOpen w (begun n k e) hart ask answer → MayOpen w (begun m l f) hart ask answer
    may_open (answers.Done id root added ranges) x = record { may = x.may; asked = asked n m k l e f id x.asked; name = opens_name n m k l e f ask.name id root added ranges x.name }
    may_open answers.Absent x = record { may = x.may; id = x.id; asked = asked n m k l e f x.id x.asked; name = x.name; named = x.named; nowhere = nowhere n m k l e f x.name x.id x.nowhere }
    may_open (answers.Refused fault) x = record { may = x.may; refuses = refuses fault x.refuses }

-- a state in which nothing was loaded is such a one
none_loaded : (s : State) → IsTrue (is_startup s) → s.loadings ≡ []
none_loaded s = by s.loadings
  where
    by : (all : List Loading) → IsTrue (is_none_loaded all) → all ≡ []
    by [] is = refl
    by (l ∷ rest) is = absurd (let no : false ≡ true = is in cc)

pub begun_is : (s : State) → IsTrue (is_startup s) → IsUntouched s → s ≡ begun s.now s.kept s.endings
begun_is s is u =
    ap (λ x. record s { namespaces = x }) u.namespaces
    ∙ ap (λ x. record s { namespaces = empty_state.namespaces; next = x }) u.next
    ∙ ap (λ x. record s { namespaces = empty_state.namespaces; next = 1; ranges = x }) u.ranges
    ∙ ap (λ x. record s { namespaces = empty_state.namespaces; next = 1; ranges = []; modules = x }) u.modules
    ∙ ap (λ x. record s { namespaces = empty_state.namespaces; next = 1; ranges = []; modules = []; statics = x }) u.statics
    ∙ ap (λ x. record s { namespaces = empty_state.namespaces; next = 1; ranges = []; modules = []; statics = empty_state.statics; generation = x }) u.generation
    ∙ ap (λ x. record s { namespaces = empty_state.namespaces; next = 1; ranges = []; modules = []; statics = empty_state.statics; generation = 0; blocks = x }) u.blocks
    ∙ ap (λ x. record s { namespaces = empty_state.namespaces; next = 1; ranges = []; modules = []; statics = empty_state.statics; generation = 0; blocks = []; grants = x }) u.grants
    ∙ ap (λ x. record s { namespaces = empty_state.namespaces; next = 1; ranges = []; modules = []; statics = empty_state.statics; generation = 0; blocks = []; grants = []; loadings = x }) (none_loaded s is)
    ∙ ap (λ x. record s { namespaces = empty_state.namespaces; next = 1; ranges = []; modules = []; statics = empty_state.statics; generation = 0; blocks = []; grants = []; loadings = []; chosen = x }) u.chosen
    ∙ ap (λ x. record s { namespaces = empty_state.namespaces; next = 1; ranges = []; modules = []; statics = empty_state.statics; generation = 0; blocks = []; grants = []; loadings = []; chosen = []; images = x }) u.images
    ∙ ap (λ x. record s { namespaces = empty_state.namespaces; next = 1; ranges = []; modules = []; statics = empty_state.statics; generation = 0; blocks = []; grants = []; loadings = []; chosen = []; images = []; pinned = x }) u.pinned
    ∙ ap (λ x. record s { namespaces = empty_state.namespaces; next = 1; ranges = []; modules = []; statics = empty_state.statics; generation = 0; blocks = []; grants = []; loadings = []; chosen = []; images = []; pinned = []; closings = x }) u.closings
    ∙ ap (λ x. record s { namespaces = empty_state.namespaces; next = 1; ranges = []; modules = []; statics = empty_state.statics; generation = 0; blocks = []; grants = []; loadings = []; chosen = []; images = []; pinned = []; closings = []; inits = x }) u.inits
    ∙ ap (λ x. record s { namespaces = empty_state.namespaces; next = 1; ranges = []; modules = []; statics = empty_state.statics; generation = 0; blocks = []; grants = []; loadings = []; chosen = []; images = []; pinned = []; closings = []; inits = []; finis = x }) u.finis

pub starts_behind : (w : Setting) (s : State) (hart : ℕ) (ask : OpenAsk) (answer : OpenAnswer) → IsTrue (is_startup s) → IsUntouched s
    → (MayOpen w s hart ask answer → MayOpen w empty_state hart ask answer) × (MayOpen w empty_state hart ask answer → MayOpen w s hart ask answer)
starts_behind w s hart ask answer is u = (
  λ may. may_open w hart ask s.now false s.kept [] s.endings [] answer (subst (λ (t : State). MayOpen w t hart ask answer) (begun_is s is u) may),
  λ may. subst (λ (t : State). MayOpen w t hart ask answer) (sym (begun_is s is u)) (may_open w hart ask false s.now [] s.kept [] s.endings answer may),
)

pub named_behind : (w : Setting) (s : State) (hart : ℕ) (ask : OpenAsk) (name : List ℕ) (id : ℕ) → IsTrue (is_startup s) → IsUntouched s → IsNamed empty_state ask name id → IsNamed s ask name id
named_behind w s hart ask name id is u x = subst (λ (t : State). IsNamed t ask name id) (sym (begun_is s is u)) (named w hart ask false s.now [] s.kept [] s.endings name id x)
