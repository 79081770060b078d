-- Where slots lead lies in words that may be run.
use Rattle.std.proofs.Common.{◌≡◌, ◌⊎◌, inl, inr, ⊎_elim, ℕ, ◌+◌, ◌-◌, ◌*◌, ◌^◌, ◌<◌, ◌≤◌, Bool, true, not, ◌||◌, leb, ltb, List, Option, Some, None, refl, sym, ap, subst, ◌∙◌, arith}
use Rattle.std.specs.Prelude.{if◌then◌else◌}
use Rattle.std.specs.List.{Contains, find, slice_get}
use Rattle.std.specs.Option.{option_map_or}
use Rattle.std.proofs.lemmas.Bool.{and_from, and_parts, le-leb, leb-true, lt-ltb, ltb-true, true≢false}
use Rattle.ld_base.specs.declared.linking.Choice.{Choice}
use Rattle.ld_base.specs.declared.linking.Choice.TheVariants.{Def, WeakZero, Missing}
use Rattle.ld_base.specs.declared.linking.Role.{Role}
use Rattle.ld_base.specs.declared.linking.Role.TheVariants.{None as NoRole, Ro, Rx, Rw, Slot}
use Rattle.ld_base.specs.declared.object.Object.{Object}
use Rattle.ld_base.specs.declared.object.Reloc.{Reloc}
use Rattle.ld_base.specs.declared.object.Segment.{Segment}
use Rattle.history_event.specs.declared.event.Event.{Event}
use Rattle.relocator.specs.Relocated.{moved_word}
use Rattle.seg_image.specs.Pages.{end_of, has_page, low_of, own_address, pages_of, segment_at, start_of}
use Rattle.seg_image.specs.Roles.{is_executable, is_linkers, is_relro, is_slot, is_writable, role_in, role_of}
use Rattle.seg_image.specs.Words.{file_word}
use Rattle.history_state.specs.State.{Linked, State}
use Rattle.history_state.specs.Accepted.{AcceptsOnly}
use Rattle.history_state.specs.Addresses.{is_linkers_page, is_rx}
use Rattle.history_state.specs.After.{after}
use Rattle.history_state.specs.Laws.{EntersBy, ImagesAreMapped, IsCodeOf, IsImageOf, SlotsLeadToRx}
use Rattle.history_state.specs.Legal.{Lawful}
use Rattle.history_state.specs.Memory.{data_at, image_at, is_in, role_at}
use Rattle.history_state.specs.Setting.{Machine}
use Rattle.history_state.specs.Lemmas.Lists.{at_in, found_in}
use Rattle.history_state.specs.Lemmas.Accepting.{ReadLaw}
use Rattle.history_state.specs.Lemmas.AtLoad.{loads_enter}
use Rattle.history_state.specs.Lemmas.Brought.{LoadLaws}
use Rattle.history_state.specs.Lemmas.Entering.{slots_enter}
use Rattle.history_state.specs.Lemmas.Imaged.{images_mapped}
use Rattle.history_state.specs.Lemmas.Lazy.{PageLaws, lazy_lies}
use Rattle.history_state.specs.Lemmas.LoadWords.{grant_word, load_word}
use Rattle.history_state.specs.Lemmas.Map.{Mapped, in_pages, mapped_after, own_at, placed, role_in_image, start_at}
use Rattle.history_state.specs.Lemmas.Tidy.{in_at}

linkers_rx : (s : State) (a : ℕ) → is_linkers_page a ≡ true → role_at s a ≡ Rx
unfolding role_at
linkers_rx s a e =
    ap (λ (t : Bool). if t then Rx else elim (image_at s a) [ Some m ↦ role_of m.object (own_address m.base a) | None ↦ elim (data_at s a) [ Some r ↦ Rw | None ↦ NoRole ] ]) e

is_rx_then : (role : Role) → is_rx role ≡ true → role ≡ Rx
is_rx_then NoRole e = absurd (true≢false (sym e))
is_rx_then Ro e = absurd (true≢false (sym e))
is_rx_then Rx e = refl
is_rx_then Rw e = absurd (true≢false (sym e))
is_rx_then Slot e = absurd (true≢false (sym e))

-- an address with a role lies in a segment's pages
segment_of : (o : Object) (v : ℕ) → is_rx (role_of o v) ≡ true → (g : Segment) × (k : ℕ) × (slice_get o.segments k ≡ Some g) × (start_of g ≤ v) × (v < end_of g)
unfolding role_of segment_at
segment_of o v rx = by (find (has_page v) o.segments) refl rx
  where
    by : (found : Option Segment) → find (has_page v) o.segments ≡ found → is_rx (option_map_or (role_in o v) found NoRole) ≡ true
        → (g : Segment) × (k : ℕ) × (slice_get o.segments k ≡ Some g) × (start_of g ≤ v) × (v < end_of g)
    by None e is = absurd (true≢false (sym is))
    by (Some g) e is =
        let found = found_in (has_page v) o.segments g e in
        let at = in_at o.segments g found.0 in
        let parts = and_parts (leb (start_of g) v) (ltb v (end_of g)) found.1 in
        (g, at.0, at.1, leb-true (start_of g) v parts.0, ltb-true v (end_of g) parts.1)

-- an address of an executable segment's pages may be run
executable_rx : (o : Object) (v : ℕ) (g : Segment) → segment_at o v ≡ Some g → is_executable g ≡ true → role_of o v ≡ Rx
unfolding role_of
executable_rx o v g at executable =
    ap (λ (found : Option Segment). option_map_or (role_in o v) found NoRole) at
    ∙ ap (λ (b : Bool). if b then Rx else if not (is_writable g) then Ro else if is_slot o v then Slot else if is_linkers o v || is_relro o v then Ro else Rw) executable

module _ (laws : PageLaws) (s : State) (m : Mapped s) where
  -- code of an image lies in words that may be run
  image_rx : (i : Linked) → Contains s.images i → (a : ℕ) → a < 2 ^ 64 → is_rx (role_of i.object (own_address i.base a)) ≡ true → role_at s a ≡ Rx
  image_rx i there a word rx =
      let v : ℕ = own_address i.base a in
      let at = segment_of i.object v rx in
      let accepted = (m.accepted i there).image in
      let from : low_of i.object ≤ v = laws.from i.object at.1 at.0 v accepted at.2 at.3 in
      let to : v < low_of i.object + 4096 * pages_of i.object = laws.to i.object at.1 at.0 v accepted at.2 at.4 in
      let inside : is_in i a ≡ true = and_from (leb (low_of i.object) v) (ltb v (low_of i.object + 4096 * pages_of i.object))
      (le-leb (low_of i.object) v from) (lt-ltb v (low_of i.object + 4096 * pages_of i.object) to) in
      role_in_image laws s m i there a word inside ∙ is_rx_then (role_of i.object v) rx

  code_rx : ImagesAreMapped s → (serial a : ℕ) → a < 2 ^ 64 → IsCodeOf s serial a → role_at s a ≡ Rx
  code_rx images serial a word code =
      let i : IsImageOf s.images code.object = images.mapped code.namespace code.object code.inside in
      image_rx i.image i.there a word
      (ap (λ (o : Object). is_rx (role_of o (own_address i.image.base a))) i.object ∙ ap (λ (b : ℕ). is_rx (role_of code.object.object (own_address b a))) i.base ∙ code.code)

  enters_rx : ImagesAreMapped s → (choice : Choice) (a : ℕ) → a < 2 ^ 64 → EntersBy s choice a → (a ≡ 0) ⊎ (role_at s a ≡ Rx)
  enters_rx images (Def serial index) a word enters = ⊎_elim
      (λ (h : (serial ≡ 0) × (is_linkers_page a ≡ true)). inr (linkers_rx s a h.1))
      (λ (h : IsCodeOf s serial a). inr (code_rx images serial a word h))
      enters
  enters_rx images WeakZero a word enters = inl enters
  enters_rx images Missing a word enters = absurd enters

  lazy_rx : (i : Linked) → Contains s.images i → (r : Reloc) → Contains i.object.plt_relocs r → role_at s (moved_word i.object i.base r.place) ≡ Rx
  lazy_rx i there r slot =
      let v : ℕ = file_word i.object r.place in
      let A : ℕ = start_at laws s m i there in
      let accepted = m.accepted i there in
      let code = accepted.lazy r slot in
      let g : Segment = code.inside.segment in
      let low : g.vaddr ≤ v = code.inside.low in
      let high : v < g.vaddr + g.memsz = code.inside.high in
      let from : low_of i.object ≤ v = laws.low i.object v accepted.image code.inside in
      let to : v < low_of i.object + 4096 * pages_of i.object = laws.high i.object v accepted.image code.inside in
      let first : start_of g ≤ v = omega (arith, low) in
      let last : v < end_of g = omega (arith, high) in
      let lies = placed laws s m i there in
      let fits : A + 4096 * pages_of i.object ≤ 0x80f000 = lies.high in
      let is : moved_word i.object i.base r.place ≡ A + (v - low_of i.object) = lazy_lies laws i A accepted lies r slot in
      let a_from : A ≤ A + (v - low_of i.object) = omega arith in
      let a_to : A + (v - low_of i.object) < A + 4096 * pages_of i.object = omega (arith, from, to) in
      let word : A + (v - low_of i.object) < 2 ^ 64 = omega (arith, a_to, fits) in
      let own : own_address i.base (A + (v - low_of i.object)) ≡ v = own_at laws s m i there (A + (v - low_of i.object)) a_from a_to ∙ omega (arith, from) in
      ap (role_at s) is
      ∙ role_in_image laws s m i there (A + (v - low_of i.object)) word (in_pages laws s m i there (A + (v - low_of i.object)) a_from a_to)
      ∙ ap (role_of i.object) own
      ∙ executable_rx i.object v g (laws.one i.object code.inside.at g v accepted.image code.inside.is first last) code.executable

pub slots_rx : PageLaws → LoadLaws → ReadLaw → (m : Machine) → AcceptsOnly m → (journal : List Event) → Lawful m journal → SlotsLeadToRx (after journal)
slots_rx pages loads read m only journal lawful =
    let mapped = mapped_after loads read m only journal lawful in
    let images = images_mapped m journal lawful in
    record {
      granted = λ g there kept home.
          enters_rx pages (after journal) mapped images g.choice g.value (grant_word loads m journal lawful g there) (slots_enter loads m journal lawful g there kept home);
      at_load = λ ns o slot value inside got.
          let enters = loads_enter loads m journal lawful ns o slot value inside got in
          enters_rx pages (after journal) mapped images enters.choice value (load_word m journal lawful o.serial slot value got) enters.enters;
      lazy = λ ns o slot r inside at.
          let i = images.mapped ns o inside in
          ap (λ (object : Object). role_at (after journal) (moved_word object o.base r.place)) (sym i.object)
          ∙ ap (λ (b : ℕ). role_at (after journal) (moved_word i.image.object b r.place)) (sym i.base)
          ∙ lazy_rx pages (after journal) mapped i.image i.there r (subst (λ (object : Object). Contains object.plt_relocs r) (sym i.object) (at_in o.object.plt_relocs slot r at));
    }
