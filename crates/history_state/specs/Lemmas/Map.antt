-- The map of guest memory: each address of a range is of that range alone, and each of an image's pages of that image.
use Rattle.std.proofs.Common.{◌≡◌, ◌⊎◌, inl, inr, ⊎_elim, ℕ, ◌+◌, ◌-◌, ◌*◌, ◌/◌, ◌^◌, ◌<◌, ◌≤◌, Bool, true, false, not, leb, ltb, List, ◌++◌, map, length, Option, Some, None, refl, sym, ap, subst, ◌∙◌, arith}
use Rattle.std.specs.Prelude.{if◌then◌else◌}
use Rattle.std.specs.List.{Contains}
use Rattle.std.proofs.lemmas.Bool.{and_from, and_left, and_parts, cases_Bool, le-leb, leb-true, lt-ltb, ltb-true, true≢false}
use Rattle.std.proofs.lemmas.List.Elements.{Contains-append_cases}
use Rattle.address_space.specs.Pages.{is_within}
use Rattle.ld_base.specs.declared.linking.Loaded.{Loaded}
use Rattle.ld_base.specs.declared.linking.Role.{Role}
use Rattle.ld_base.specs.declared.linking.Role.TheVariants.{None as NoRole, Rx, Rw}
use Rattle.history_event.specs.declared.event.CloseAnswer.TheVariants as closes
use Rattle.history_event.specs.declared.event.Event.{Event}
use Rattle.history_event.specs.declared.event.Event.TheVariants as events
use Rattle.history_event.specs.declared.event.OpenAnswer.TheVariants as opens
use Rattle.history_event.specs.declared.event.OpenAsk.{OpenAsk}
use Rattle.history_event.specs.declared.event.Purpose.TheVariants as purposes
use Rattle.history_event.specs.declared.event.Range.{Range}
use Rattle.history_event.specs.declared.event.SymAnswer.TheVariants as syms
use Rattle.relocator.specs.Relocated.{image_word}
use Rattle.seg_image.specs.declared.image.Word.{Word}
use Rattle.seg_image.specs.Pages.{guest_address, low_of, own_address, pages_of}
use Rattle.seg_image.specs.Roles.{role_of}
use Rattle.history_state.specs.State.{Linked, State}
use Rattle.history_state.specs.Accepted.{AcceptsOnly, IsAccepted}
use Rattle.history_state.specs.Addresses.{is_linkers_page}
use Rattle.history_state.specs.After.{after}
use Rattle.history_state.specs.Allowed.{AllowedIn}
use Rattle.history_state.specs.Bound.{linked_with, uncopied, with_copies}
use Rattle.history_state.specs.Laws.{ImagesAreInstalled, IsRangeOf, RangesAreApart}
use Rattle.history_state.specs.Legal.{Lawful}
use Rattle.history_state.specs.Memory.{covers, data_at, image_at, is_in, role_at, first_word_at, word_in}
use Rattle.history_state.specs.Objects.{has}
use Rattle.history_state.specs.Opening.{Opens}
use Rattle.history_state.specs.Setting.{Machine, Setting}
use Rattle.history_state.specs.Step.{binds, die, initialise, loaded, lower, namespace_before, seen_after, step, unmap}
use Rattle.history_state.specs.Lemmas.History.{by_lawful}
use Rattle.history_state.specs.Lemmas.Lists.{found_in, from_filter, from_map, none_in, not_found}
use Rattle.history_state.specs.Lemmas.Accepting.{ReadLaw, accepted_after}
use Rattle.history_state.specs.Lemmas.Arrived.{Arrived}
use Rattle.history_state.specs.Lemmas.Brought.{LoadLaws, arrived_by}
use Rattle.history_state.specs.Lemmas.Good.{core}
use Rattle.history_state.specs.Lemmas.Imaged.{images_mapped}
use Rattle.history_state.specs.Lemmas.Lazy.{Lies, PageLaws, lies}
use Rattle.history_state.specs.Lemmas.Modular.{guest_of, own_in, own_of}
use Rattle.history_state.specs.Lemmas.Pages.{page_number}
use Rattle.history_state.specs.Lemmas.Placed.{images_placed}
use Rattle.history_state.specs.Lemmas.Ranges.{Apart, apart_after}
use Rattle.history_state.specs.Lemmas.Steps.{good_after}

-- ---- one image a serial

abbrev OneImage : List Linked → Type 0
OneImage images = (i j : Linked) → Contains images i → Contains images j → i.serial ≡ j.serial → i ≡ j

-- an image that an opening makes is that of a new object
pub made_of : (s : State) (hart : ℕ) (ask : OpenAsk) (id root : ℕ) (added : List Loaded) (ranges : List Range) (i : Linked)
    → Contains (linked_with s.images (map (uncopied (loaded s hart ask id root added ranges) (seen_after s ask id root added) (binds s ask)) added)) i
    → (a : Loaded) × Contains added a
    × (with_copies (s.images ++ map (uncopied (loaded s hart ask id root added ranges) (seen_after s ask id root added) (binds s ask)) added) (uncopied (loaded s hart ask id root added ranges) (seen_after s ask id root added) (binds s ask) a) ≡ i)
unfolding linked_with
made_of s hart ask id root added ranges i h =
    let made = uncopied (loaded s hart ask id root added ranges) (seen_after s ask id root added) (binds s ask) in
    let at = from_map (with_copies (s.images ++ map made added)) (map made added) i h in
    let by = from_map made added at.0 at.1 in
    (by.0, by.1, ap (with_copies (s.images ++ map made added)) by.2 ∙ at.2)

module _ (laws : LoadLaws) (m : Machine) (w : Setting) (past : List Event) (lawful : Lawful m past) (hart : ℕ) (ask : OpenAsk) (id root : ℕ) (added : List Loaded) (ranges : List Range)
    (may : Opens w (after past) hart ask id root added ranges) where
  abbrev s : State
  s = after past

  abbrev made : Loaded → Linked
  made = uncopied (loaded s hart ask id root added ranges) (seen_after s ask id root added) (binds s ask)

  abbrev news : List Linked
  news = linked_with s.images (map made added)

  came : Arrived (core s) (namespace_before s id) added root
  came = arrived_by laws w s (good_after laws m past lawful) hart ask id root added ranges may

  low : (k : Linked) → Contains s.images k → k.serial < s.next
  low k there = let at = (images_mapped m past lawful).image k there in subst (λ (n : ℕ). n < s.next) at.is ((good_after laws m past lawful).low at.namespace at.object (at.there, at.inside))

  -- a new image is none of those that were there
  apart : (i j : Linked) → Contains s.images i → Contains news j → i.serial ≡ j.serial → ⊥
  apart i j old new same =
      let by = made_of s hart ask id root added ranges j new in
      let l : i.serial < s.next = low i old in
      let f : s.next ≤ by.0.serial = (came.fresh by.0 by.1).0 in
      let e : by.0.serial ≡ j.serial = ap (λ (q : Linked). q.serial) by.2 in
      omega (arith, l, f, e, same)

  one_open : OneImage s.images → OneImage (s.images ++ news)
  one_open one i j first second same = by (Contains-append_cases s.images news i first) (Contains-append_cases s.images news j second)
    where
      by : Contains s.images i ⊎ Contains news i → Contains s.images j ⊎ Contains news j → i ≡ j
      by (inl a) (inl b) = one i j a b same
      by (inl a) (inr b) = absurd (apart i j a b same)
      by (inr a) (inl b) = absurd (apart j i b a (sym same))
      by (inr a) (inr b) =
          let x = made_of s hart ask id root added ranges i a in
          let y = made_of s hart ask id root added ranges j b in
          let object : x.0 ≡ y.0 = came.one x.0 y.0 x.1 y.1 (ap (λ (q : Linked). q.serial) x.2 ∙ same ∙ sym (ap (λ (q : Linked). q.serial) y.2)) in
          sym x.2 ∙ ap (λ (q : Loaded). with_copies (s.images ++ map made added) (made q)) object ∙ y.2

one_step : LoadLaws → (m : Machine) (w : Setting) (past : List Event) (e : Event) → Lawful m past → AllowedIn w past (after past) e → OneImage (after past).images → OneImage (step (after past) e).images
unfolding loaded die lower unmap initialise
one_step laws m w past (events.Open hart ask (opens.Done id root added ranges)) lawful may one = one_open laws m w past lawful hart ask id root added ranges may one
one_step laws m w past (events.Open hart ask opens.Absent) lawful may one = one
one_step laws m w past (events.Open hart ask (opens.Refused fault)) lawful may one = one
one_step laws m w past (events.Close hart handle (closes.Done set)) lawful may one = one
one_step laws m w past (events.Close hart handle (closes.Refused fault)) lawful may one = one
one_step laws m w past (events.Unmapped hart set) lawful may one = λ i j first second.
    one i j (from_filter (λ (q : Linked). not (has set q.serial)) (after past).images i first).0 (from_filter (λ (q : Linked). not (has set q.serial)) (after past).images j second).0
one_step laws m w past (events.Grant number hart owner slot choice value) lawful may one = one
one_step laws m w past (events.Bound number) lawful may one = one
one_step laws m w past (events.Lost number saw) lawful may one = one
one_step laws m w past (events.Unresolved hart owner slot choice) lawful may one = one
one_step laws m w past (events.Sym hart ask (syms.Found serial index value)) lawful may one = one
one_step laws m w past (events.Sym hart ask (syms.Refused fault)) lawful may one = one
one_step laws m w past (events.Tls hart owner address) lawful may one = one
one_step laws m w past (events.Init hart object) lawful may one = one
one_step laws m w past (events.Fini hart object) lawful may one = one
one_step laws m w past (events.Wrote hart bytes) lawful may one = one
one_step laws m w past (events.Told hart fault) lawful may one = one
one_step laws m w past (events.Ended hart reason) lawful may one = one

pub one_image : LoadLaws → (m : Machine) (journal : List Event) → Lawful m journal → OneImage (after journal).images
one_image laws m journal lawful =
    by_lawful m (λ s. OneImage s.images) (λ i j first. absurd (none_in i first)) (λ w past e same lawful one may. one_step laws m w past e lawful may one) journal lawful

-- ---- the map of a state

pub record Mapped (s : State) : Type 0 where
  pub apart : Apart s.ranges
  pub accepted : (i : Linked) → Contains s.images i → IsAccepted i.object
  pub range : (i : Linked) → Contains s.images i → IsRangeOf s.ranges i
  pub one : OneImage s.images

pub mapped_after : LoadLaws → ReadLaw → (m : Machine) → AcceptsOnly m → (journal : List Event) → Lawful m journal → Mapped (after journal)
mapped_after laws read m only journal lawful =
    record { apart = apart_after m journal lawful; accepted = accepted_after read m only journal lawful; range = images_placed m journal lawful; one = one_image laws m journal lawful }

-- an address of a range
pub within_of : (a : ℕ) (r : Range) → covers a r ≡ true → (r.address ≤ a) × (a < r.address + 4096 * r.pages)
within_of a r e =
    let parts = and_parts (leb r.address a) (ltb a (r.address + 4096 * r.pages)) e in
    (leb-true r.address a parts.0, ltb-true a (r.address + 4096 * r.pages) parts.1)

pub covered : (a : ℕ) (r : Range) → r.address ≤ a → a < r.address + 4096 * r.pages → covers a r ≡ true
covered a r from to = and_from (leb r.address a) (ltb a (r.address + 4096 * r.pages)) (le-leb r.address a from) (lt-ltb a (r.address + 4096 * r.pages) to)

-- ranges lie in guest memory, before the linker's own page
pub range_lies : (ranges : List Range) → Apart ranges → (r : Range) → Contains ranges r → 0 < r.pages → (n : ℕ) × (r.address ≡ 0x10000 + 4096 * n) × (r.address + 4096 * r.pages ≤ 0x80f000)
range_lies ranges apart r there some =
    let first = page_number (r.address + 4096 * 0) (apart.inside r 0 there some) in
    let last = page_number (r.address + 4096 * (r.pages - 1)) (apart.inside r (r.pages - 1) there (omega (arith, some))) in
    let first_is : r.address + 4096 * 0 ≡ 0x10000 + 4096 * first.0 = first.2 in
    let last_is : r.address + 4096 * (r.pages - 1) ≡ 0x10000 + 4096 * last.0 = last.2 in
    let last_low : last.0 < 2047 = last.1 in
    (first.0, omega (arith, first_is), omega (arith, last_is, last_low, some))

pub ranges_apart : (m : Machine) (journal : List Event) → Lawful m journal → RangesAreApart (after journal)
ranges_apart m journal lawful =
    let apart = apart_after m journal lawful in
    record {
      one = apart.one;
      inside = apart.inside;
      guest = λ r there some.
          let lies = range_lies (after journal).ranges apart r there some in
          let at : r.address ≡ 0x10000 + 4096 * lies.0 = lies.1 in
          let high : r.address + 4096 * r.pages ≤ 0x80f000 = lies.2 in
          record { aligned = omega (arith, at); low = omega (arith, at); high = omega (arith, high) };
    }

-- an address is of one range
pub one_cover : (ranges : List Range) → Apart ranges → (a : ℕ) (r q : Range) → Contains ranges r → Contains ranges q → covers a r ≡ true → covers a q ≡ true → r ≡ q
one_cover ranges apart a r q first second in_r in_q =
    let x = within_of a r in_r in
    let y = within_of a q in_q in
    let from_r : r.address ≤ a = x.0 in
    let to_r : a < r.address + 4096 * r.pages = x.1 in
    let from_q : q.address ≤ a = y.0 in
    let to_q : a < q.address + 4096 * q.pages = y.1 in
    let lies_r = range_lies ranges apart r first (omega (arith, from_r, to_r)) in
    let lies_q = range_lies ranges apart q second (omega (arith, from_q, to_q)) in
    let m : ℕ = lies_r.0 in
    let n : ℕ = lies_q.0 in
    let at_r : r.address ≡ 0x10000 + 4096 * m = lies_r.1 in
    let at_q : q.address ≡ 0x10000 + 4096 * n = lies_q.1 in
    let k : ℕ = (a - r.address) / 4096 in
    let within_k : k < r.pages = omega (arith, from_r, to_r) in
    let low : r.address + 4096 * k ≤ a = omega (arith, from_r) in
    let high : a < r.address + 4096 * k + 4096 = omega (arith, from_r) in
    apart.one (r.address + 4096 * k) r q first second (apart.inside r k first within_k)
    (held r k (omega arith) (omega (arith, within_k)))
    (held_in q (r.address + 4096 * k) (page_from a (r.address + 4096 * k) q.address (m + k) n (omega (arith, at_r)) at_q high from_q) (omega (arith, low, to_q)))
  where
    held_in : (r : Range) (page : ℕ) → r.address ≤ page → page < r.address + 4096 * r.pages → is_within r.address r.pages page ≡ true
    held_in r page from to = and_from (leb r.address page) (ltb page (r.address + 4096 * r.pages)) (le-leb r.address page from) (lt-ltb page (r.address + 4096 * r.pages) to)

    held : (r : Range) (k : ℕ) → r.address ≤ r.address + 4096 * k → r.address + 4096 * k < r.address + 4096 * r.pages → is_within r.address r.pages (r.address + 4096 * k) ≡ true
    held r k from to = and_from (leb r.address (r.address + 4096 * k)) (ltb (r.address + 4096 * k) (r.address + 4096 * r.pages)) (le-leb r.address (r.address + 4096 * k) from) (lt-ltb (r.address + 4096 * k) (r.address + 4096 * r.pages) to)

    -- a page that holds an address behind the start of pages is behind it
    page_from : (a page start j n : ℕ) → page ≡ 0x10000 + 4096 * j → start ≡ 0x10000 + 4096 * n → a < page + 4096 → start ≤ a → start ≤ page
    page_from a page start j n is at high from = omega (arith, is, at, high, from)

-- no address of a range is of the linker's page
pub no_linkers : (ranges : List Range) → Apart ranges → (a : ℕ) (r : Range) → Contains ranges r → covers a r ≡ true → is_linkers_page a ≡ false
no_linkers ranges apart a r there e =
    let at = within_of a r e in
    let from : r.address ≤ a = at.0 in
    let to : a < r.address + 4096 * r.pages = at.1 in
    let high : r.address + 4096 * r.pages ≤ 0x80f000 = (range_lies ranges apart r there (omega (arith, from, to))).2 in
    and_left (leb 0x80f000 a) (ltb a 0x810000) (below a (omega (arith, to, high)))
  where
    below : (x : ℕ) → x < 0x80f000 → leb 0x80f000 x ≡ false
    below x lt = ⊎_elim (λ (t : leb 0x80f000 x ≡ true). absurd (let le : 0x80f000 ≤ x = leb-true 0x80f000 x t in omega (arith, le, lt))) (λ (f : leb 0x80f000 x ≡ false). f) (cases_Bool (leb 0x80f000 x))

-- an image that has an address in its pages has it in its range
pub covers_in : PageLaws → (s : State) → Apart s.ranges → (i : Linked) → IsAccepted i.object → (r : IsRangeOf s.ranges i) → (a : ℕ) → a < 2 ^ 64 → is_in i a ≡ true → covers a r.range ≡ true
covers_in laws s apart i accepted r a word e =
    let l = lies laws s apart i accepted r in
    let n : ℕ = 4096 * pages_of i.object in
    let A : ℕ = r.range.address in
    let few : low_of i.object + 4096 * pages_of i.object < 2 ^ 33 = laws.few i.object accepted.image in
    let high : A + 4096 * pages_of i.object ≤ 0x80f000 = l.high in
    let parts = and_parts (leb (low_of i.object) (own_address i.base a)) (ltb (own_address i.base a) (low_of i.object + 4096 * pages_of i.object)) e in
    let at = own_in (low_of i.object) A a n (omega (arith, few)) (omega (arith, high)) word
    (subst (λ (b : ℕ). low_of i.object ≤ own_address b a) l.base (leb-true (low_of i.object) (own_address i.base a) parts.0))
    (subst (λ (b : ℕ). own_address b a < low_of i.object + n) l.base (ltb-true (own_address i.base a) (low_of i.object + n) parts.1)) in
    let to : a < A + n = at.1 in
    let pages : r.range.pages ≡ pages_of i.object = r.pages in
    covered a r.range at.0 (omega (arith, to, pages))

abbrev a_word : ℕ → Role → Word
a_word value role = record { value = value; role = role }

-- a word of an image, by its address as the object's own
word_is : (i : Linked) (v u value : ℕ) (role : Role) → u ≡ v → value ≡ image_word i.object i.base i.serial i.bindings i.places u → role ≡ role_of i.object u
    → Some (a_word (image_word i.object i.base i.serial i.bindings i.places v) (role_of i.object v)) ≡ Some (a_word value role)
word_is i v u value role own value_is role_is =
    ap (λ (x : ℕ). Some (a_word (image_word i.object i.base i.serial i.bindings i.places x) (role_of i.object x))) (sym own)
    ∙ ap (λ (x : ℕ). Some (a_word x (role_of i.object u))) (sym value_is)
    ∙ ap (λ (x : Role). Some (a_word value x)) (sym role_is)

-- ---- the image of an address

module _ (laws : PageLaws) (s : State) (m : Mapped s) where
  -- where an image's pages are
  abbrev pub start_at : (i : Linked) → Contains s.images i → ℕ
  start_at i there = (m.range i there).range.address

  pub placed : (i : Linked) (there : Contains s.images i) → Lies i (start_at i there)
  placed i there = lies laws s m.apart i (m.accepted i there) (m.range i there)

  fits : (i : Linked) (there : Contains s.images i) → (low_of i.object + 4096 * pages_of i.object ≤ 2 ^ 33) × (start_at i there + 4096 * pages_of i.object ≤ 2 ^ 33)
  fits i there =
      let few : low_of i.object + 4096 * pages_of i.object < 2 ^ 33 = laws.few i.object (m.accepted i there).image in
      let high : start_at i there + 4096 * pages_of i.object ≤ 0x80f000 = (placed i there).high in
      (omega (arith, few), omega (arith, high))

  -- an address of the pages, as the object's own
  pub own_at : (i : Linked) (there : Contains s.images i) (a : ℕ) → start_at i there ≤ a → a < start_at i there + 4096 * pages_of i.object → own_address i.base a ≡ low_of i.object + (a - start_at i there)
  own_at i there a from to =
      ap (λ (b : ℕ). own_address b a) (placed i there).base ∙ own_of (low_of i.object) (start_at i there) a (4096 * pages_of i.object) (fits i there).0 (fits i there).1 from to

  pub in_pages : (i : Linked) (there : Contains s.images i) (a : ℕ) → start_at i there ≤ a → a < start_at i there + 4096 * pages_of i.object → is_in i a ≡ true
  in_pages i there a from to =
      let own : own_address i.base a ≡ low_of i.object + (a - start_at i there) = own_at i there a from to in
      and_from (leb (low_of i.object) (own_address i.base a)) (ltb (own_address i.base a) (low_of i.object + 4096 * pages_of i.object))
      (le-leb (low_of i.object) (own_address i.base a) (omega (arith, own)))
      (lt-ltb (own_address i.base a) (low_of i.object + 4096 * pages_of i.object) (omega (arith, own, from, to)))

  pub range_in : (i : Linked) (there : Contains s.images i) (a : ℕ) → a < 2 ^ 64 → is_in i a ≡ true → covers a (m.range i there).range ≡ true
  range_in i there a word e = covers_in laws s m.apart i (m.accepted i there) (m.range i there) a word e

  -- it is the one image that has it
  pub image_there : (i : Linked) → Contains s.images i → (a : ℕ) → a < 2 ^ 64 → is_in i a ≡ true → image_at s a ≡ Some i
  image_there i there a word e = by (image_at s a) refl
    where
      by : (found : Option Linked) → image_at s a ≡ found → image_at s a ≡ Some i
      by None is = absurd (true≢false (sym e ∙ not_found (λ (q : Linked). is_in q a) s.images i is there))
      by (Some j) is =
          let found = found_in (λ (q : Linked). is_in q a) s.images j is in
          let ranges : (m.range j found.0).range ≡ (m.range i there).range =
          one_cover s.ranges m.apart a (m.range j found.0).range (m.range i there).range (m.range j found.0).there (m.range i there).there (range_in j found.0 a word found.1) (range_in i there a word e) in
          let purpose : purposes.Object j.serial ≡ purposes.Object i.serial = sym (m.range j found.0).purpose ∙ ap (λ (r : Range). r.purpose) ranges ∙ (m.range i there).purpose in
          let serial : j.serial ≡ i.serial = cc in
          is ∙ ap (λ (q : Linked). Some q) (m.one j i found.0 there serial)

  -- no image's page is the linker's
  pub not_linkers : (i : Linked) (there : Contains s.images i) (a : ℕ) → a < 2 ^ 64 → is_in i a ≡ true → is_linkers_page a ≡ false
  not_linkers i there a word e = no_linkers s.ranges m.apart a (m.range i there).range (m.range i there).there (range_in i there a word e)

  pub role_in_image : (i : Linked) → Contains s.images i → (a : ℕ) → a < 2 ^ 64 → is_in i a ≡ true → role_at s a ≡ role_of i.object (own_address i.base a)
  unfolding role_at
  role_in_image i there a word e =
      ap (λ (t : Bool). if t then Rx else elim (image_at s a) [ Some q ↦ role_of q.object (own_address q.base a) | None ↦ elim (data_at s a) [ Some r ↦ Rw | None ↦ NoRole ] ]) (not_linkers i there a word e)
      ∙ ap (λ (found : Option Linked). elim found [ Some q ↦ role_of q.object (own_address q.base a) | None ↦ elim (data_at s a) [ Some r ↦ Rw | None ↦ NoRole ] ]) (image_there i there a word e)

  pub word_in_image : (i : Linked) → Contains s.images i → (a : ℕ) → a < 2 ^ 64 → is_in i a ≡ true → first_word_at s a ≡ word_in i a
  unfolding first_word_at
  word_in_image i there a word e = at _ _ (is_linkers_page a) (not_linkers i there a word e) (image_at s a) (image_there i there a word e)
    where
      at : (x y : ℕ) (t : Bool) → t ≡ false → (found : Option Linked) → found ≡ Some i → (if t then x else elim found [ Some q ↦ word_in q a | None ↦ y ]) ≡ word_in i a
      at x y true e found is = absurd (true≢false e)
      at x y false e (Some q) is = let same : q ≡ i = cc in ap (λ (p : Linked). word_in p a) same
      at x y false e None is = absurd (let d : None ≡ Some i = is in cc)

  -- ---- images that are installed

  pub installed : ImagesAreInstalled s
  unfolding word_in
  installed i there image is k few =
      let A : ℕ = start_at i there in
      let n : ℕ = pages_of i.object in
      let all : length image.words ≡ 512 * n = is.all in
      let small = fits i there in
      let some : 0 < n = laws.some i.object (m.accepted i there).image in
      let start : image.start ≡ A + (low_of i.object - low_of i.object) = is.start ∙ ap (λ (b : ℕ). guest_address b (low_of i.object)) (placed i there).base
      ∙ guest_of (low_of i.object) A (low_of i.object) (4096 * n) small.0 small.1 (omega arith) (omega (arith, some)) in
      let from : A ≤ image.start + 8 * k = omega (arith, start) in
      let to : image.start + 8 * k < A + 4096 * n = omega (arith, start, few, all) in
      let high : A + 4096 * n ≤ 2 ^ 33 = small.1 in
      let word : image.start + 8 * k < 2 ^ 64 = omega (arith, to, high) in
      let inside : is_in i (image.start + 8 * k) ≡ true = in_pages i there (image.start + 8 * k) from to in
      let own : own_address i.base (image.start + 8 * k) ≡ low_of i.object + 8 * k = own_at i there (image.start + 8 * k) from to ∙ omega (arith, start) in
      is.words.each k few
      ∙ word_is i (low_of i.object + 8 * k) (own_address i.base (image.start + 8 * k)) (first_word_at s (image.start + 8 * k)) (role_at s (image.start + 8 * k))
      own (word_in_image i there (image.start + 8 * k) word inside) (role_in_image i there (image.start + 8 * k) word inside)
