-- What an event changes of guest memory, and what it leaves.
use Rattle.std.proofs.Common.{◌≡◌, inl, inr, ℕ, ◌+◌, ◌*◌, ◌^◌, ◌<◌, ◌≤◌, Bool, true, false, not, ◌&&◌, leb, ltb, List, [], ◌∷◌, ◌++◌, map, Option, Some, None, refl, sym, ap, subst, ◌∙◌, arith}
use Rattle.std.specs.Prelude.{if◌then◌else◌}
use Rattle.std.specs.List.{Contains, filter}
use Rattle.std.specs.Option.{option_map_or}
use Rattle.std.proofs.lemmas.Bool.{and_from, and_parts, and_right, le-leb, lt-ltb, not-true, true≢false}
use Rattle.std.proofs.lemmas.List.Elements.{Contains-append_left, Contains-append_right}
use Rattle.address_space.specs.Pages.{AllFree, is_within}
use Rattle.ld_base.specs.declared.linking.Loaded.{Loaded}
use Rattle.ld_base.specs.declared.linking.Role.TheVariants.{None as NoRole, Rx, Rw}
use Rattle.history_event.specs.declared.event.CloseAnswer.TheVariants as closes
use Rattle.history_event.specs.declared.event.Event.{Event}
use Rattle.history_event.specs.declared.event.Event.TheVariants as events
use Rattle.history_event.specs.declared.event.OpenAnswer.TheVariants as opens
use Rattle.history_event.specs.declared.event.OpenAsk.{OpenAsk}
use Rattle.history_event.specs.declared.event.Range.{Range}
use Rattle.history_event.specs.declared.event.SymAnswer.TheVariants as syms
use Rattle.seg_image.specs.Roles.{role_of}
use Rattle.seg_image.specs.Pages.{own_address}
use Rattle.seg_image.specs.Words.{word_of}
use Rattle.history_state.specs.State.{Linked, State}
use Rattle.history_state.specs.Accepted.{AcceptsOnly, IsAccepted}
use Rattle.history_state.specs.Addresses.{is_linkers_page}
use Rattle.history_state.specs.After.{after}
use Rattle.history_state.specs.Allowed.{Allowed, AllowedIn}
use Rattle.history_state.specs.Areas.{free_pages}
use Rattle.history_state.specs.Bound.{linked_with, uncopied, with_copies}
use Rattle.history_state.specs.Changes.{ChangesMemory, StandsApart, reserved, taken}
use Rattle.history_state.specs.Legal.{Lawful}
use Rattle.history_state.specs.Memory.{covers, data_at, ebreaks, first_byte, image_at, is_data_purpose, is_in, role_at, first_word_at, word_in}
use Rattle.history_state.specs.Objects.{has}
use Rattle.history_state.specs.Opening.{Opens}
use Rattle.history_state.specs.Setting.{Machine, Setting}
use Rattle.history_state.specs.Step.{binds, die, goes_with, initialise, loaded, lower, purpose_goes, seen_after, step, unmap}
use Rattle.history_state.specs.Lemmas.History.{after_push, lawful_push}
use Rattle.history_state.specs.Lemmas.Lists.{found_in, from_filter, in_filter, none_in, only_in}
use Rattle.history_state.specs.Lemmas.Accepting.{ReadLaw}
use Rattle.history_state.specs.Lemmas.Brought.{LoadLaws}
use Rattle.history_state.specs.Lemmas.Lazy.{PageLaws}
use Rattle.history_state.specs.Lemmas.Lookups.{find_front, find_kept}
use Rattle.history_state.specs.Lemmas.Map.{Mapped, covers_in, made_of, mapped_after, no_linkers, one_cover, range_in, range_lies, within_of}
use Rattle.history_state.specs.Lemmas.Placed.{HasPages, opens_pages}
use Rattle.history_state.specs.Lemmas.Ranges.{Apart, block_free, clear_free, opens_free}

-- ---- what a state shows of an address

role_same : (s t : State) (a : ℕ) → image_at t a ≡ image_at s a → data_at t a ≡ data_at s a → role_at t a ≡ role_at s a
unfolding role_at
role_same s t a image data_is =
    ap (λ (found : Option Linked). if is_linkers_page a then Rx else elim found [ Some m ↦ role_of m.object (own_address m.base a) | None ↦ elim (data_at t a) [ Some r ↦ Rw | None ↦ NoRole ] ]) image
    ∙ ap (λ (found : Option Range). if is_linkers_page a then Rx else elim (image_at s a) [ Some m ↦ role_of m.object (own_address m.base a) | None ↦ elim found [ Some r ↦ Rw | None ↦ NoRole ] ]) data_is

-- the word where no stack, static area or block is
plain_word : State → ℕ → ℕ
plain_word s a = if is_linkers_page a then ebreaks else elim (image_at s a) [ Some m ↦ word_in m a | None ↦ 0 ]

word_plain : (s : State) (a : ℕ) → data_at s a ≡ None → first_word_at s a ≡ plain_word s a
unfolding first_word_at plain_word
word_plain s a none = ap (λ (found : Option Range). if is_linkers_page a then ebreaks else elim (image_at s a) [ Some m ↦ word_in m a | None ↦ option_map_or (λ r. word_of (first_byte s r.purpose) a) found 0 ]) none

word_same : (s t : State) (a : ℕ) → image_at t a ≡ image_at s a → data_at t a ≡ data_at s a → data_at s a ≡ None → first_word_at t a ≡ first_word_at s a
unfolding plain_word
word_same s t a image data_is none =
    word_plain t a (data_is ∙ none) ∙ ap (λ (found : Option Linked). if is_linkers_page a then ebreaks else elim found [ Some m ↦ word_in m a | None ↦ 0 ]) image ∙ sym (word_plain s a none)

role_none : (s : State) (a : ℕ) → is_linkers_page a ≡ false → image_at s a ≡ None → data_at s a ≡ None → role_at s a ≡ NoRole
unfolding role_at
role_none s a linkers image data_is =
    ap (λ (t : Bool). if t then Rx else elim (image_at s a) [ Some m ↦ role_of m.object (own_address m.base a) | None ↦ elim (data_at s a) [ Some r ↦ Rw | None ↦ NoRole ] ]) linkers
    ∙ ap (λ (found : Option Linked). elim found [ Some m ↦ role_of m.object (own_address m.base a) | None ↦ elim (data_at s a) [ Some r ↦ Rw | None ↦ NoRole ] ]) image
    ∙ ap (λ (found : Option Range). elim found [ Some r ↦ Rw | None ↦ NoRole ]) data_is

-- no image and no data where no range is
no_image : PageLaws → (s : State) → Mapped s → (a : ℕ) → a < 2 ^ 64 → ((q : Range) → Contains s.ranges q → covers a q ≡ true → ⊥) → image_at s a ≡ None
no_image laws s m a word none = at (image_at s a) refl
  where
    at : (found : Option Linked) → image_at s a ≡ found → image_at s a ≡ None
    at None e = e
    at (Some i) e =
        let found = found_in (λ (q : Linked). is_in q a) s.images i e in
        absurd (none (m.range i found.0).range (m.range i found.0).there (range_in laws s m i found.0 a word found.1))

no_data : (s : State) (a : ℕ) → ((q : Range) → Contains s.ranges q → covers a q ≡ true → ⊥) → data_at s a ≡ None
no_data s a none = at (data_at s a) refl
  where
    at : (found : Option Range) → data_at s a ≡ found → data_at s a ≡ None
    at None e = e
    at (Some r) e =
        let found = found_in (λ (q : Range). is_data_purpose q.purpose && covers a q) s.ranges r e in
        absurd (none r found.0 (and_parts (is_data_purpose r.purpose) (covers a r) found.1).1)

uncovered : (s : State) (e : Event) (a : ℕ) → StandsApart s e a → (r : Range) → Contains (reserved s e) r → (is_data_purpose r.purpose && covers a r) ≡ false
uncovered s e a untouched r h = and_right (is_data_purpose r.purpose) (covers a r) (untouched r (inl h))

-- ---- the events that change images and ranges

-- an image that an opening makes has none of the addresses that the opening's ranges haven't
new_outside : PageLaws → (w : Setting) (s : State) (hart : ℕ) (ask : OpenAsk) (id root : ℕ) (added : List Loaded) (ranges : List Range) → Opens w s hart ask id root added ranges
    → Mapped (step s (events.Open hart ask (opens.Done id root added ranges))) → (a : ℕ) → a < 2 ^ 64 → ((r : Range) → Contains ranges r → covers a r ≡ false)
    → (j : Linked) → Contains (linked_with s.images (map (uncopied (loaded s hart ask id root added ranges) (seen_after s ask id root added) (binds s ask)) added)) j → is_in j a ≡ true → ⊥
unfolding loaded
new_outside laws w s hart ask id root added ranges may new a word none j h t =
    let made = uncopied (loaded s hart ask id root added ranges) (seen_after s ask id root added) (binds s ask) in
    let by = made_of s hart ask id root added ranges j h in
    let p : HasPages ranges by.0 = opens_pages w s hart ask id root added ranges ask.name may.name by.0 by.1 in
    let accepted : IsAccepted by.0.object = subst (λ (q : Linked). IsAccepted q.object) (sym by.2) (new.accepted j (Contains-append_right s.images _ j h)) in
    let covers_it : covers a p.range ≡ true =
    covers_in laws (step s (events.Open hart ask (opens.Done id root added ranges))) new.apart (with_copies (s.images ++ map made added) (made by.0)) accepted
    (record { range = p.range; there = Contains-append_right s.ranges ranges p.range p.there; purpose = p.purpose; pages = p.pages; base = p.base }) a word (ap (λ (q : Linked). is_in q a) by.2 ∙ t) in
    true≢false (sym covers_it ∙ none p.range p.there)

abbrev Same : State → Event → ℕ → Type 0
Same s e a = (image_at (step s e) a ≡ image_at s a) × (data_at (step s e) a ≡ data_at s a)

open_same : PageLaws → (w : Setting) (s : State) (hart : ℕ) (ask : OpenAsk) (id root : ℕ) (added : List Loaded) (ranges : List Range) → Opens w s hart ask id root added ranges
    → Mapped (step s (events.Open hart ask (opens.Done id root added ranges))) → (a : ℕ) → a < 2 ^ 64 → StandsApart s (events.Open hart ask (opens.Done id root added ranges)) a
    → Same s (events.Open hart ask (opens.Done id root added ranges)) a
unfolding loaded
open_same laws w s hart ask id root added ranges may new a word untouched = (
  find_front (λ q. is_in q a) s.images _ (λ j h. not_true (is_in j a) (new_outside laws w s hart ask id root added ranges may new a word (λ r i. untouched r (inl i)) j h)),
  find_front (λ r. is_data_purpose r.purpose && covers a r) s.ranges ranges (uncovered s (events.Open hart ask (opens.Done id root added ranges)) a untouched),
)
  where
    not_true : (b : Bool) → (b ≡ true → ⊥) → b ≡ false
    not_true true never = absurd (never refl)
    not_true false never = refl

unmap_same : PageLaws → (s : State) → Mapped s → (hart : ℕ) (set : List ℕ) (a : ℕ) → a < 2 ^ 64 → StandsApart s (events.Unmapped hart set) a → Same s (events.Unmapped hart set) a
unfolding unmap
unmap_same laws s m hart set a word untouched = (
  find_kept (λ q. is_in q a) (λ q. not (has set q.serial)) s.images (λ i there inside. stays i there inside (has set i.serial) refl),
  find_kept (λ r. is_data_purpose r.purpose && covers a r) (λ r. not (goes_with set r)) s.ranges (λ r there on. range_stays r there (and_parts (is_data_purpose r.purpose) (covers a r) on).1 (goes_with set r) refl),
)
  where
    range_stays : (r : Range) → Contains s.ranges r → covers a r ≡ true → (b : Bool) → goes_with set r ≡ b → not b ≡ true
    range_stays r there on true e = absurd (true≢false (sym on ∙ untouched r (inr (in_filter (goes_with set) s.ranges r there e))))
    range_stays r there on false e = refl

    stays : (i : Linked) → Contains s.images i → is_in i a ≡ true → (b : Bool) → has set i.serial ≡ b → not b ≡ true
    stays i there inside true e =
        let r = m.range i there in
        range_stays r.range r.there (range_in laws s m i there a word inside) true (ap (purpose_goes set) r.purpose ∙ e)
    stays i there inside false e = refl

same : PageLaws → (w : Setting) (past : List Event) (s : State) (e : Event) → Mapped s → Mapped (step s e) → AllowedIn w past s e → (a : ℕ) → a < 2 ^ 64 → StandsApart s e a → Same s e a
unfolding loaded die lower initialise
same laws w past s (events.Open hart ask (opens.Done id root added ranges)) m new may a word untouched = open_same laws w s hart ask id root added ranges may new a word untouched
same laws w past s (events.Open hart ask opens.Absent) m new may a word untouched = (refl, refl)
same laws w past s (events.Open hart ask (opens.Refused fault)) m new may a word untouched = (refl, refl)
same laws w past s (events.Close hart handle (closes.Done set)) m new may a word untouched = (refl, refl)
same laws w past s (events.Close hart handle (closes.Refused fault)) m new may a word untouched = (refl, refl)
same laws w past s (events.Unmapped hart set) m new may a word untouched = unmap_same laws s m hart set a word untouched
same laws w past s (events.Grant number hart owner slot choice value) m new may a word untouched = (refl, refl)
same laws w past s (events.Bound number) m new may a word untouched = (refl, refl)
same laws w past s (events.Lost number saw) m new may a word untouched = (refl, refl)
same laws w past s (events.Unresolved hart owner slot choice) m new may a word untouched = (refl, refl)
same laws w past s (events.Sym hart ask (syms.Found serial index value)) m new may a word untouched = (refl, refl)
same laws w past s (events.Sym hart ask (syms.Refused fault)) m new may a word untouched = (refl, refl)
same laws w past s (events.Tls hart owner address) m new may a word untouched = (
  refl,
  find_front (λ r. is_data_purpose r.purpose && covers a r) s.ranges _ (uncovered s (events.Tls hart owner address) a untouched),
)
same laws w past s (events.Init hart object) m new may a word untouched = (refl, refl)
same laws w past s (events.Fini hart object) m new may a word untouched = (refl, refl)
same laws w past s (events.Wrote hart bytes) m new may a word untouched = (refl, refl)
same laws w past s (events.Told hart fault) m new may a word untouched = (refl, refl)
same laws w past s (events.Ended hart reason) m new may a word untouched = (refl, refl)

-- ---- what comes, and what goes

-- an address of a range is below the linker's page
word_of_range : (ranges : List Range) → Apart ranges → (a : ℕ) (r : Range) → Contains ranges r → covers a r ≡ true → a < 2 ^ 64
word_of_range ranges apart a r there on =
    let at = within_of a r on in
    let from : r.address ≤ a = at.0 in
    let to : a < r.address + 4096 * r.pages = at.1 in
    let high : r.address + 4096 * r.pages ≤ 0x80f000 = (range_lies ranges apart r there (omega (arith, from, to))).2 in
    omega (arith, to, high)

nothing_there : PageLaws → (s : State) → Mapped s → (a : ℕ) → a < 2 ^ 64 → is_linkers_page a ≡ false → ((q : Range) → Contains s.ranges q → covers a q ≡ true → ⊥) → role_at s a ≡ NoRole
nothing_there laws s m a word linkers none = role_none s a linkers (no_image laws s m a word none) (no_data s a none)

-- pages that were free are of no range
fresh : (ranges more : List Range) → Apart (ranges ++ more) → (r : Range) → Contains more r → AllFree (free_pages ranges) r.address r.pages → (a : ℕ) → covers a r ≡ true
    → (q : Range) → Contains ranges q → covers a q ≡ true → ⊥
fresh ranges more apart r there free a on q old on_q =
    let at = within_of a r on in
    let from : r.address ≤ a = at.0 in
    let to : a < r.address + 4096 * r.pages = at.1 in
    let some : 0 < r.pages = omega (arith, from, to) in
    let one : r ≡ q = one_cover (ranges ++ more) apart a r q (Contains-append_right ranges more r there) (Contains-append_left ranges more q old) on on_q in
    let out : is_within q.address q.pages (r.address + 4096 * 0) ≡ false = (clear_free ranges (r.address + 4096 * 0) (free 0 some)).1 q old in
    let itself : is_within r.address r.pages (r.address + 4096 * 0) ≡ true = first_within r some in
    true≢false (sym itself ∙ ap (λ (x : Range). is_within x.address x.pages (r.address + 4096 * 0)) one ∙ out)
  where
    first_within : (x : Range) → 0 < x.pages → is_within x.address x.pages (x.address + 4096 * 0) ≡ true
    first_within x some = and_from (leb x.address (x.address + 4096 * 0)) (ltb (x.address + 4096 * 0) (x.address + 4096 * x.pages))
        (le-leb x.address (x.address + 4096 * 0) (omega arith)) (lt-ltb (x.address + 4096 * 0) (x.address + 4096 * x.pages) (omega (arith, some)))

fresh_role : PageLaws → (s : State) → Mapped s → (more : List Range) → Apart (s.ranges ++ more) → (r : Range) → Contains more r → AllFree (free_pages s.ranges) r.address r.pages → (a : ℕ) → covers a r ≡ true → role_at s a ≡ NoRole
fresh_role laws s m more apart r there free a on =
    let inside : Contains (s.ranges ++ more) r = Contains-append_right s.ranges more r there in
    nothing_there laws s m a (word_of_range (s.ranges ++ more) apart a r inside on) (no_linkers (s.ranges ++ more) apart a r inside on) (fresh s.ranges more apart r there free a on)

none_reserved : (r : Range) → Contains [] r → {X : Type 0} → X
none_reserved r h = absurd (none_in r h)

came_fresh : PageLaws → (w : Setting) (past : List Event) (s : State) (e : Event) → Mapped s → Mapped (step s e) → AllowedIn w past s e → (r : Range) (a : ℕ) → Contains (reserved s e) r → covers a r ≡ true → role_at s a ≡ NoRole
unfolding loaded
came_fresh laws w past s (events.Open hart ask (opens.Done id root added ranges)) m new may r a h on =
    fresh_role laws s m ranges new.apart r h (opens_free w s hart ask id root added ranges ask.name may.name r h) a on
came_fresh laws w past s (events.Open hart ask opens.Absent) m new may r a h on = none_reserved r h
came_fresh laws w past s (events.Open hart ask (opens.Refused fault)) m new may r a h on = none_reserved r h
came_fresh laws w past s (events.Close hart handle answer) m new may r a h on = none_reserved r h
came_fresh laws w past s (events.Unmapped hart set) m new may r a h on = none_reserved r h
came_fresh laws w past s (events.Grant number hart owner slot choice value) m new may r a h on = none_reserved r h
came_fresh laws w past s (events.Bound number) m new may r a h on = none_reserved r h
came_fresh laws w past s (events.Lost number saw) m new may r a h on = none_reserved r h
came_fresh laws w past s (events.Unresolved hart owner slot choice) m new may r a h on = none_reserved r h
came_fresh laws w past s (events.Sym hart ask answer) m new may r a h on = none_reserved r h
came_fresh laws w past s (events.Tls hart owner address) m new may r a h on =
    let free = block_free s hart owner address may in
    let is : free.0 ≡ r = only_in free.0 r (subst (λ (rs : List Range). Contains rs r) free.1 h) in
    fresh_role laws s m _ new.apart r h (subst (λ (x : Range). AllFree (free_pages s.ranges) x.address x.pages) is free.2) a on
came_fresh laws w past s (events.Init hart object) m new may r a h on = none_reserved r h
came_fresh laws w past s (events.Fini hart object) m new may r a h on = none_reserved r h
came_fresh laws w past s (events.Wrote hart bytes) m new may r a h on = none_reserved r h
came_fresh laws w past s (events.Told hart fault) m new may r a h on = none_reserved r h
came_fresh laws w past s (events.Ended hart reason) m new may r a h on = none_reserved r h

unmap_gone : PageLaws → (s : State) (hart : ℕ) (set : List ℕ) → Mapped s → Mapped (step s (events.Unmapped hart set)) → (r : Range) (a : ℕ) → Contains (filter (goes_with set) s.ranges) r → covers a r ≡ true
    → role_at (step s (events.Unmapped hart set)) a ≡ NoRole
unfolding unmap
unmap_gone laws s hart set m new r a h on =
    let was = from_filter (goes_with set) s.ranges r h in
    nothing_there laws (step s (events.Unmapped hart set)) new a (word_of_range s.ranges m.apart a r was.0 on) (no_linkers s.ranges m.apart a r was.0 on)
    (λ q there on_q.
    let kept = from_filter (λ (x : Range). not (goes_with set x)) s.ranges q there in
    let one : r ≡ q = one_cover s.ranges m.apart a r q was.0 kept.0 on on_q in
    true≢false (sym was.1 ∙ ap (goes_with set) one ∙ not-true (goes_with set q) kept.1))

went : PageLaws → (s : State) (e : Event) → Mapped s → Mapped (step s e) → (r : Range) (a : ℕ) → Contains (taken s e) r → covers a r ≡ true → role_at (step s e) a ≡ NoRole
went laws s (events.Open hart ask answer) m new r a h on = none_reserved r h
went laws s (events.Close hart handle answer) m new r a h on = none_reserved r h
went laws s (events.Unmapped hart set) m new r a h on = unmap_gone laws s hart set m new r a h on
went laws s (events.Grant number hart owner slot choice value) m new r a h on = none_reserved r h
went laws s (events.Bound number) m new r a h on = none_reserved r h
went laws s (events.Lost number saw) m new r a h on = none_reserved r h
went laws s (events.Unresolved hart owner slot choice) m new r a h on = none_reserved r h
went laws s (events.Sym hart ask answer) m new r a h on = none_reserved r h
went laws s (events.Tls hart owner address) m new r a h on = none_reserved r h
went laws s (events.Init hart object) m new r a h on = none_reserved r h
went laws s (events.Fini hart object) m new r a h on = none_reserved r h
went laws s (events.Wrote hart bytes) m new r a h on = none_reserved r h
went laws s (events.Told hart fault) m new r a h on = none_reserved r h
went laws s (events.Ended hart reason) m new r a h on = none_reserved r h

-- ---- the law

pub memory_changes : PageLaws → LoadLaws → ReadLaw → (m : Machine) → AcceptsOnly m → (w : Setting) → w.machine ≡ m → (past : List Event) (e : Event) → Lawful m past → Allowed w past e → ChangesMemory (after past) e
memory_changes pages loads read m only w is past e lawful may =
    let now : Mapped (after past) = mapped_after loads read m only past lawful in
    let new : Mapped (step (after past) e) = subst Mapped (after_push past e) (mapped_after loads read m only (past ++ e ∷ []) (lawful_push m w past e is lawful may)) in
    record {
      role = λ a word untouched. let both = same pages w past (after past) e now new may a word untouched in role_same (after past) (step (after past) e) a both.0 both.1;
      word = λ a word untouched none. let both = same pages w past (after past) e now new may a word untouched in word_same (after past) (step (after past) e) a both.0 both.1 none;
      reserved_before = λ r a h on. came_fresh pages w past (after past) e now new may r a h on;
      taken_after = λ r a h on. went pages (after past) e now new r a h on;
    }
