-- What is read of the opened state.
use Rattle.std.proofs.Common.{◌≡◌, ℕ, ◌+◌, ◌*◌, ◌<◌, ◌≤◌, Bool, true, List, Option, Some, None, sym, ap, ◌∙◌}
use Rattle.std.specs.Prelude.{◌==◌, ◌^◌}
use Rattle.std.specs.List.{Contains, find}
use Rattle.std.specs.Option.{option_map_or}
use Rattle.ld_base.specs.declared.linking.Loaded.{Loaded}
use Rattle.history_event.specs.declared.event.Event.{Event}
use Rattle.history_event.specs.declared.event.Range.{Range}
use Rattle.scope_rule.specs.Loading.{with_serial}
use Rattle.scope_rule.specs.declared.namespace.Namespace.{Namespace}
use Rattle.seg_image.specs.Pages.{guest_address}
use Rattle.history_state.specs.After.{after}
use Rattle.history_state.specs.Laws.{AreApart, IsIn}
use Rattle.history_state.specs.Lemmas.Lists.{found_in, from_flat}
use Rattle.history_state.specs.Memory.{holds}
use Rattle.history_state.specs.Objects.{mapped}
use Rattle.history_state.specs.State.{State}
use Rattle.history_state.specs.Storage.{is_static_area, tp_of}
use Rattle.history_calls.specs.Startup.{program_entry}
use Rattle.link_spaces.specs.ObjectHolders.Holders.{IsFound}
use Rattle.link_startup.specs.StartParts.Loaded.{AreGuests, HasLoaded, HaveRoom}
use Rattle.link_startup.proofs.StartParts.Opened.{all_mapped}

sought : (events : List Event) (loaded : HasLoaded events) (objects : List Loaded) (serial : ℕ) (found : Option Loaded) → objects ≡ loaded.added → found ≡ with_serial objects serial
    → found ≡ with_serial (mapped (after events)) serial
sought events loaded objects serial found are e = e ∙ ap (λ (os : List Loaded). with_serial os serial) (are ∙ sym (all_mapped events loaded))

pub entry_is : (events : List Event) (loaded : HasLoaded events) (objects : List Loaded) (found : Option Loaded) → objects ≡ loaded.added → found ≡ with_serial objects 1
    → option_map_or (λ (o : Loaded). guest_address o.base o.object.entry) found 0 ≡ program_entry (after events)
entry_is events loaded objects found are e = ap (λ (x : Option Loaded). option_map_or (λ (o : Loaded). guest_address o.base o.object.entry) x 0) (sought events loaded objects 1 found are e)

pub low_end : (ranges : List Range) (p : Range → Bool) (r : Range) → AreGuests ranges → Some r ≡ find p ranges → 0 < r.pages → r.address + 4096 * r.pages ≤ 2 ^ 32
low_end ranges p r guests e some = guests r (found_in p ranges r (sym e)).0 some

pub has_room : (ranges : List Range) (tp hart : ℕ) (r : Range) → HaveRoom tp ranges → Some r ≡ find (λ (q : Range). is_static_area hart q.purpose) ranges → r.address + tp < 2 ^ 64
has_room ranges tp hart r room e = let at = found_in (λ (q : Range). is_static_area hart q.purpose) ranges r (sym e) in room r hart at.0 at.1

pub tp_is : (s : State) (ranges : List Range) (tp hart : ℕ) (found : Option Range) → found ≡ find (λ (q : Range). is_static_area hart q.purpose) ranges → s.ranges ≡ ranges → s.statics.tp ≡ tp
    → option_map_or (λ (r : Range). r.address + tp) found 0 ≡ tp_of s hart
unfolding tp_of
tp_is s ranges tp hart found e are is =
    ap (λ t. option_map_or (λ (r : Range). r.address + t) found 0) (sym is)
    ∙ ap (λ (x : Option Range). option_map_or (λ (r : Range). r.address + s.statics.tp) x 0) (e ∙ ap (find (λ (q : Range). is_static_area hart q.purpose)) (sym are))

-- ---- the object that holds an address

pub is_in : (events : List Event) (loaded : HasLoaded events) (objects : List Loaded) (serial : ℕ) (o : Loaded) → objects ≡ loaded.added → Some o ≡ with_serial objects serial
    → (ns : Namespace) × IsIn (after events) ns o
is_in events loaded objects serial o are e =
    let inside : Contains (mapped (after events)) o = (found_in (λ (q : Loaded). q.serial == serial) (mapped (after events)) o (sym (sought events loaded objects serial (Some o) are e))).0 in
    let home = from_flat (λ (n : Namespace). n.objects) (after events).namespaces o inside in
    (home.0, record { there = home.1; inside = home.2 })

-- the object of the holder's serial is the holder
holder_at : (events : List Event) (loaded : HasLoaded events) (objects : List Loaded) (id serial a : ℕ) (found : Option Loaded) → AreApart (after events) → objects ≡ loaded.added
    → found ≡ with_serial objects serial → (is : IsFound (after events).namespaces a id serial) → found ≡ Some is.among.object
holder_at events loaded objects id serial a found apart are e is =
    sought events loaded objects serial found are e ∙ ap (with_serial (mapped (after events))) (sym is.among.is)
    ∙ apart.found is.namespace is.among.object (record { there = is.there; inside = is.among.inside })

pub it_holds : (events : List Event) (loaded : HasLoaded events) (objects : List Loaded) (id serial a : ℕ) (o : Loaded) → AreApart (after events) → objects ≡ loaded.added
    → Some o ≡ with_serial objects serial → IsFound (after events).namespaces a id serial → holds o a ≡ true
it_holds events loaded objects id serial a o apart are e is =
    let same : Some o ≡ Some is.among.object = holder_at events loaded objects id serial a (Some o) apart are e is in
    let one : o ≡ is.among.object = cc in
    ap (λ (q : Loaded). holds q a) one ∙ is.among.has

pub none_lacks : (events : List Event) (loaded : HasLoaded events) (objects : List Loaded) (id serial a : ℕ) → AreApart (after events) → objects ≡ loaded.added
    → None ≡ with_serial objects serial → IsFound (after events).namespaces a id serial → ⊥
none_lacks events loaded objects id serial a apart are e is =
    let same : None ≡ Some is.among.object = holder_at events loaded objects id serial a None apart are e is in cc
