use Rattle.std.proofs.Common.{◌≡◌, ⊎_elim, ℕ, ◌^◌, ◌<◌, ◌≤◌, Bool, true, false, List, [], ◌∷◌, ◌++◌, map, length, Ok, refl, sym, ap, subst, ◌∙◌, arith}
use Rattle.std.specs.Prelude.{IsTrue, min}
use Rattle.std.specs.List.{Contains, range_with_len}
use Rattle.std.proofs.lemmas.Bool.{eqb-true}
use Rattle.elf_object.specs.Verdict.{object_verdict}
use Rattle.ld_base.specs.declared.linking.Loaded.{Loaded}
use Rattle.ld_base.specs.declared.object.Reloc.{Reloc}
use Rattle.history_state.specs.After.{after}
use Rattle.history_state.specs.Bound.{bytes_from, place_of, uncopied}
use Rattle.history_state.specs.Laws.{ImagesAreMapped, SerialsAreInOrder}
use Rattle.history_state.specs.Objects.{serial_of}
use Rattle.history_state.specs.Read.{WasRead}
use Rattle.history_state.specs.Setting.{Machine}
use Rattle.history_state.specs.State.{Linked, State}
use Rattle.history_state.specs.Step.{binds, loaded, seen_after}
use Rattle.history_state.specs.Lemmas.Lists.{first_or_later, here, later, none_in}
use Rattle.history_state.specs.Lemmas.Placed.{HasPages, opens_pages}
use Rattle.history_journal.specs.Following.{machine_of}
use Rattle.link_open_images.specs.ObjectBindings.Bindings.{Copies, bindings_in, copies_from, size_in, value_in}
use Rattle.relocator.specs.Bindings.{chosen, is_copy}
use Rattle.relocator.specs.declared.binding.Binding.{Binding}
use Rattle.relocator.specs.declared.binding.ModulePlace.{ModulePlace}
use Rattle.scope_rule.specs.Relocation.{choice_at}
use Rattle.scope_rule.specs.Seen.{Seen}
use Rattle.seg_image.specs.Accepted.{symbol_size}
use Rattle.seg_image.specs.Pages.{low_of, own_address}
use Rattle.link_open_laws.specs.Laws.{image_made}
use Rattle.link_open_images.specs.Lemmas.Plain.{bindings_plain}
use Rattle.link_open_laws.proofs.Copied.{copied_bindings, first_copies}
use Rattle.link_open_laws.proofs.Uncopied.{uncopied_made}
use Rattle.link_open_laws.proofs.law.copies_are_seen.Goals as goal

own_small : (low a : ℕ) → own_address low a < 2 ^ 64
unfolding own_address
own_small low a = omega arith

empty_of : {X : Type 0} (xs : List X) → ((x : X) → Contains xs x → ⊥) → xs ≡ []
empty_of [] none = refl
empty_of (x ∷ xs) none = absurd (none x (here x xs))

-- before serial 1 there are no images
no_images : (s : State) → ImagesAreMapped s → SerialsAreInOrder s → s.next ≡ 1 → s.images ≡ []
no_images s mapped order first = empty_of s.images (λ i there.
    let at = mapped.image i there in
    let from : 1 ≤ at.object.serial = order.from at.namespace at.object (record { there = at.there; inside = at.inside }) in
    let below : at.object.serial < s.next = order.below at.namespace at.object (record { there = at.there; inside = at.inside }) in
    omega (arith, from, below, first))

-- an object with a copy is the program
is_program : (m : Machine) (o : Loaded) (read : WasRead m o) → (read.program ≡ false → ⊥) → o.serial ≡ 1
is_program m o read not_library = at read.program read.first not_library
  where
    at : (b : Bool) → (IsTrue b → o.serial ≡ 1) → (b ≡ false → ⊥) → o.serial ≡ 1
    at true first other = first refl
    at false first other = absurd (other refl)

first_serial : (first : Loaded) (rest : List Loaded) (next : ℕ) → map serial_of (first ∷ rest) ≡ range_with_len next (length (first ∷ rest)) → first.serial ≡ next
first_serial first rest next are = cc

pub returns : goal.returns
returns c harts past hart id root ask [] ranges lawful next o new = absurd (none_in o new)
returns c harts past hart id root ask (first ∷ rest) ranges lawful next o new = ⊎_elim
    (λ (is_first : first ≡ o). subst (λ (x : Loaded). (image_made s hart ask id root added ranges x).bindings ≡ bindings_in bytes ns now x) is_first program)
    (λ (library : Contains rest o).
    uncopied_made s hart ask id root added ranges o bytes (c.libraries_have_no_copies.ensures harts past hart id root ask added ranges lawful next o library)
    (c.new_bindings_are_seen.ensures harts past hart id root ask added ranges lawful next o new))
    (first_or_later first rest o new)
  where
    added : List Loaded
    added = first ∷ rest

    s : State
    s = after past

    ns : Seen
    ns = seen_after s ask id root added

    now : Bool
    now = binds s ask

    places : List ModulePlace
    places = map place_of (loaded s hart ask id root added ranges).modules

    bytes : Copies
    bytes = copies_from ns now places rest

    made : Loaded → Linked
    made = uncopied (loaded s hart ask id root added ranges) ns now

    read : WasRead (machine_of harts) first
    read = c.objects_are_read.ensures.new (machine_of harts) next.setting past hart id root ask added ranges next.machine lawful next.may first (here first rest)

    copied : (r : Reloc) → Contains first.object.relocs r → is_copy r ≡ true → (a count : ℕ) → bytes_from (s.images ++ map made added) (chosen (choice_at ns first r)) a count ≡ bytes (chosen (choice_at ns first r)) a count
    copied r inside copy a count =
        let kind : r.kind ≡ 4 = eqb-true r.kind 4 copy in
        let serial : first.serial ≡ 1 = is_program (machine_of harts) first read
        (λ library. c.accepted_object.ensures.library read.bytes first.object first.table (subst (λ (b : Bool). object_verdict read.bytes b ≡ Ok (first.object, first.table)) library read.is) r inside kind) in
        let at : first.serial ≡ s.next = first_serial first rest s.next (c.serials_are_in_order.ensures.new (machine_of harts) next.setting past hart id root ask added ranges next.machine lawful next.may) in
        let none : s.images ≡ [] = no_images s (c.images_are_mapped.ensures (machine_of harts) past lawful) (c.serials_are_in_order.ensures.order (machine_of harts) past lawful) (sym at ∙ serial) in
        ap (λ (images : List Linked). bytes_from (images ++ map made added) (chosen (choice_at ns first r)) a count) none
        ∙ first_copies
        (record { low = c.pages_hold_segments.ensures.low; high = c.pages_hold_segments.ensures.high; from = c.pages_hold_segments.ensures.from; to = c.pages_hold_segments.ensures.to; some = c.pages_hold_segments.ensures.some; few = c.pages_hold_segments.ensures.few; one = c.pages_hold_segments.ensures.one })
        ns now places made first rest r (λ x. refl)
        (λ x behind. ap (λ (bs : List Binding). record { serial = x.serial; object = x.object; base = x.base; bindings = bs; places = places })
        (c.new_bindings_are_seen.ensures harts past hart id root ask added ranges lawful next x (later first rest x behind)))
        (λ x behind. (c.new_objects_are_placed.ensures harts past hart id root ask added ranges lawful next x (later first rest x behind)).accepted.image)
        (λ x behind.
        let has : HasPages ranges x = opens_pages next.setting s hart ask id root added ranges ask.name next.may.name x (later first rest x behind) in
        subst (λ (b : ℕ). b < 2 ^ 64) (sym has.base) (own_small (low_of x.object) has.range.address))
        (λ x. bindings_plain ns now x) kind (c.accepted_object.ensures.copied read.bytes read.program first.object first.table read.is r inside kind) a count

    program : (image_made s hart ask id root added ranges first).bindings ≡ bindings_in bytes ns now first
    program =
        copied_bindings (s.images ++ map made added) bytes ns now first (made first).bindings (c.new_bindings_are_seen.ensures harts past hart id root ask added ranges lawful next first (here first rest))
        (λ r inside copy. copied r inside copy (value_in ns r (choice_at ns first r)) (min (symbol_size first.object r) (size_in ns (choice_at ns first r))))
