-- No value of a slot is the word that the slot holds until it is bound.
use Rattle.std.proofs.Common.{◌≡◌, ⊎_elim, ℕ, ◌+◌, ◌-◌, ◌*◌, ◌%◌, ◌^◌, ◌<◌, ◌≤◌, List, [], ◌∷◌, ◌++◌, map, Some, refl, sym, ap, subst, ◌∙◌, arith}
use Rattle.std.specs.List.{Contains, filter, slice_get}
use Rattle.std.proofs.lemmas.List.Elements.{Contains-push_cases}
use Rattle.ld_base.specs.declared.linking.Choice.{Choice}
use Rattle.ld_base.specs.declared.linking.Loaded.{Loaded}
use Rattle.ld_base.specs.declared.object.Object.{Object}
use Rattle.ld_base.specs.declared.object.Reloc.{Reloc}
use Rattle.ld_base.specs.declared.object.Segment.{Segment}
use Rattle.history_event.specs.declared.event.Event.{Event}
use Rattle.history_event.specs.declared.state.Granting.{Granting}
use Rattle.history_event.specs.declared.state.Standing.TheVariants as standings
use Rattle.relocator.specs.Relocated.{moved_word}
use Rattle.scope_rule.specs.declared.namespace.Namespace.{Namespace}
use Rattle.seg_image.specs.Accepted.{Accepted}
use Rattle.seg_image.specs.Pages.{IsInside, end_of, low_of, own_address, pages_of, segment_at, start_of}
use Rattle.seg_image.specs.Words.{file_word}
use Rattle.history_state.specs.State.{Linked, State}
use Rattle.history_state.specs.Accepted.{AcceptsOnly, IsAccepted}
use Rattle.history_state.specs.After.{after}
use Rattle.history_state.specs.Allowed.{MayGrant}
use Rattle.history_state.specs.Bound.{lazy_word}
use Rattle.history_state.specs.Laws.{IsRangeOf, NoneIsLazy}
use Rattle.history_state.specs.Legal.{Lawful}
use Rattle.history_state.specs.Setting.{Machine}
use Rattle.history_state.specs.Slots.{IsSlot}
use Rattle.history_state.specs.Step.{die, dying_in, dying_object, gone_in, initialise, is_left, loaded, lower, lowered_in, ready_in, ready_object, unmap}
use Rattle.history_state.specs.Lemmas.Lists.{at_in, from_map, none_in}
use Rattle.history_state.specs.Lemmas.Accepting.{ReadLaw, accepted_after}
use Rattle.history_state.specs.Lemmas.Alone.{Alone, alone_law, one_object}
use Rattle.history_state.specs.Lemmas.AtLoad.{cases, chosen_at, loads_after, not_lazy, was_old}
use Rattle.history_state.specs.Lemmas.Brought.{LoadLaws}
use Rattle.history_state.specs.Lemmas.Changed.{Leaves, leaves_dying, leaves_ready}
use Rattle.history_state.specs.Lemmas.Closed.{each_left, stayed}
use Rattle.history_state.specs.Lemmas.Good.{Good, core, each_mapped}
use Rattle.history_state.specs.Lemmas.Granted.{was_there}
use Rattle.history_state.specs.Lemmas.Imaged.{images_mapped}
use Rattle.history_state.specs.Lemmas.Modular.{moved_of}
use Rattle.history_state.specs.Lemmas.Pages.{page_number}
use Rattle.history_state.specs.Lemmas.Placed.{images_placed}
use Rattle.history_state.specs.Lemmas.Ranges.{Apart, apart_after}
use Rattle.history_state.specs.Lemmas.Steps.{Law, by_law}

-- ---- a grant's value is its slot's lazy word only where it is 0

abbrev Unlazy : List Namespace → List Granting → Type 0
Unlazy all grants = (ns : Namespace) (o : Loaded) (g : Granting) (r : Reloc) → Contains all ns → Contains ns.objects o → Contains grants g → g.owner ≡ o.serial
    → slice_get o.object.plt_relocs g.slot ≡ Some r → g.value ≡ lazy_word o r → g.value ≡ 0

unlazy_map : (change : Namespace → Namespace) (each : Loaded → Loaded) → Leaves each → ((ns : Namespace) → (change ns).objects ≡ map each ns.objects) → (all : List Namespace) (grants : List Granting)
    → Unlazy all grants → Unlazy (map change all) grants
unlazy_map change each leaves is all grants unlazy ms o g r there inside granted = each_mapped change all
    (λ n. Contains n.objects o → g.owner ≡ o.serial → slice_get o.object.plt_relocs g.slot ≡ Some r → g.value ≡ lazy_word o r → g.value ≡ 0)
    (λ ns at h.
    let q = from_map each ns.objects o (subst (λ (os : List Loaded). Contains os o) (is ns) h) in
    subst (λ (p : Loaded). g.owner ≡ p.serial → slice_get p.object.plt_relocs g.slot ≡ Some r → g.value ≡ lazy_word p r → g.value ≡ 0) (sym (leaves q.0).1 ∙ q.2) (unlazy ns q.0 g r at q.1 granted))
    ms there inside

unlazy_lowered : (handle : ℕ) (all : List Namespace) (grants : List Granting) → Unlazy all grants → Unlazy (map (lowered_in handle) all) grants
unlazy_lowered handle all grants unlazy ms o g r there inside granted = each_mapped (lowered_in handle) all
    (λ n. Contains n.objects o → g.owner ≡ o.serial → slice_get o.object.plt_relocs g.slot ≡ Some r → g.value ≡ lazy_word o r → g.value ≡ 0)
    (λ ns at h. unlazy ns o g r at h granted) ms there inside

unlazy_left : (set : List ℕ) (all : List Namespace) (grants : List Granting) → Unlazy all grants → Unlazy (filter is_left (map (gone_in set) all)) grants
unlazy_left set all grants unlazy ms o g r there inside granted = each_left set all
    (λ n. Contains n.objects o → g.owner ≡ o.serial → slice_get o.object.plt_relocs g.slot ≡ Some r → g.value ≡ lazy_word o r → g.value ≡ 0)
    (λ ns at h. unlazy ns o g r at (stayed set ns o h).0 granted) ms there inside

unlazy_grant : (s : State) → Good (core s) → Alone s.namespaces → (number hart owner slot : ℕ) (choice : Choice) (value : ℕ) → MayGrant s number hart owner slot choice value → Unlazy s.namespaces s.grants
    → Unlazy s.namespaces (s.grants ++ record { number = number; hart = hart; owner = owner; slot = slot; choice = choice; value = value; standing = standings.Open } ∷ [])
unlazy_grant s good alone number hart owner slot choice value may unlazy ns o g r there inside granted of at lazy = ⊎_elim
    (λ (old : Contains s.grants g). unlazy ns o g r there inside old of at lazy)
    (λ (e : record { number = number; hart = hart; owner = owner; slot = slot; choice = choice; value = value; standing = standings.Open } ≡ g).
    let sl : IsSlot s owner slot choice = may.may.is_slot in
    let owner_is : owner ≡ o.serial = ap (λ (q : Granting). q.owner) e ∙ of in
    let object : sl.object ≡ o = one_object s good alone sl.namespace ns sl.object o sl.there sl.inside there inside (sl.is ∙ owner_is) in
    let both : Some sl.reloc ≡ Some r = sym sl.at ∙ ap (λ (q : Loaded). slice_get q.object.plt_relocs slot) object ∙ ap (λ (q : Granting). slice_get o.object.plt_relocs q.slot) e ∙ at in
    let reloc : sl.reloc ≡ r = cc in
    let word : lazy_word sl.object sl.reloc ≡ lazy_word o r = ap (λ (q : Loaded). lazy_word q sl.reloc) object ∙ ap (lazy_word o) reloc in
    let value_is : value ≡ g.value = ap (λ (q : Granting). q.value) e in
    sym value_is ∙ may.is ∙ not_lazy s (lazy_word sl.object sl.reloc) choice may.may.code (sym may.is ∙ value_is ∙ lazy ∙ sym word))
    (Contains-push_cases s.grants _ g granted)

unlazy_law : Law (λ c. Alone c.namespaces × Unlazy c.namespaces c.grants)
unfolding loaded die lower unmap initialise
unlazy_law = record {
  starts = (alone_law.starts, λ ns o g r there inside granted. absurd (none_in g granted));
  opens = λ w s hart ask id root added ranges good both opens came. (
    alone_law.opens w s hart ask id root added ranges good both.0 opens came,
    λ ns o g r there inside granted of at lazy.
        let home = was_old s hart ask id root added ranges good came o (subst (λ (n : ℕ). n < s.next) of (good.grants_low g granted)) (cases s hart ask id root added ranges good came ns o there inside) in
        both.1 home.0 o g r home.1 home.2 granted of at lazy,
  );
  closes = λ s hart handle set good both closes. (
    alone_law.closes s hart handle set good both.0 closes,
    unlazy_map (dying_in hart set) (dying_object hart set) (leaves_dying hart set) (λ ns. refl) (map (lowered_in handle) s.namespaces) s.grants (unlazy_lowered handle s.namespaces s.grants both.1),
  );
  unmaps = λ s hart set good both may. (alone_law.unmaps s hart set good both.0 may, unlazy_left set s.namespaces s.grants both.1);
  grants = λ s number hart owner slot choice value good both may. (
    alone_law.grants s number hart owner slot choice value good both.0 may,
    unlazy_grant s good both.0 number hart owner slot choice value may both.1,
  );
  settles = λ s number standing good both shut. (
    both.0,
    λ ns o g r there inside granted of at lazy.
        let old = was_there number standing s.grants g granted in
        sym old.2.value ∙ both.1 ns o old.0 r there inside old.1 (old.2.owner ∙ of) (ap (slice_get o.object.plt_relocs) old.2.slot ∙ at) (old.2.value ∙ lazy),
  );
  initialises = λ s object good both. (
    alone_law.initialises s object good both.0,
    unlazy_map (ready_in object) (ready_object object) (leaves_ready object) (λ ns. refl) s.namespaces s.grants both.1,
  );
}

-- ---- a lazy word isn't 0

-- what holds of the pages of accepted objects
pub record PageLaws : Type 0 where
  pub low : (o : Object) (v : ℕ) → Accepted o → IsInside o v → low_of o ≤ v
  pub high : (o : Object) (v : ℕ) → Accepted o → IsInside o v → v < low_of o + 4096 * pages_of o
  pub from : (o : Object) (k : ℕ) (g : Segment) (v : ℕ) → Accepted o → slice_get o.segments k ≡ Some g → start_of g ≤ v → low_of o ≤ v
  pub to : (o : Object) (k : ℕ) (g : Segment) (v : ℕ) → Accepted o → slice_get o.segments k ≡ Some g → v < end_of g → v < low_of o + 4096 * pages_of o
  pub some : (o : Object) → Accepted o → 0 < pages_of o
  pub few : (o : Object) → Accepted o → low_of o + 4096 * pages_of o < 2 ^ 33
  pub one : (o : Object) (k : ℕ) (g : Segment) (v : ℕ) → Accepted o → slice_get o.segments k ≡ Some g → start_of g ≤ v → v < end_of g → segment_at o v ≡ Some g

-- an image's pages lie in guest memory, before the linker's own
pub record Lies (i : Linked) (A : ℕ) : Type 0 where
  pub base : i.base ≡ own_address (low_of i.object) A
  pub low : 0x10000 ≤ A
  pub high : A + 4096 * pages_of i.object ≤ 0x80f000

pub lies : PageLaws → (s : State) → Apart s.ranges → (i : Linked) → IsAccepted i.object → (r : IsRangeOf s.ranges i) → Lies i r.range.address
lies laws s apart i accepted r =
    let n : ℕ = pages_of i.object in
    let some : 0 < n = laws.some i.object accepted.image in
    let pages : r.range.pages ≡ n = r.pages in
    let first = page_number (r.range.address + 4096 * 0) (apart.inside r.range 0 r.there (omega (arith, some, pages))) in
    let last = page_number (r.range.address + 4096 * (n - 1)) (apart.inside r.range (n - 1) r.there (omega (arith, some, pages))) in
    let a : ℕ = r.range.address in
    let first_is : a + 4096 * 0 ≡ 0x10000 + 4096 * first.0 = first.2 in
    let last_is : a + 4096 * (n - 1) ≡ 0x10000 + 4096 * last.0 = last.2 in
    let last_low : last.0 < 2047 = last.1 in
    record { base = r.base; low = omega (arith, first_is); high = omega (arith, last_is, last_low, some) }

-- the file's word, moved with an image, is an address of its pages
pub lazy_lies : PageLaws → (i : Linked) (A : ℕ) → IsAccepted i.object → Lies i A → (r : Reloc) → Contains i.object.plt_relocs r
    → moved_word i.object i.base r.place ≡ A + (file_word i.object r.place - low_of i.object)
unfolding moved_word
lazy_lies laws i A accepted l r inside =
    let v : ℕ = file_word i.object r.place in
    let n : ℕ = pages_of i.object in
    let small : low_of i.object + 4096 * n < 2 ^ 33 = laws.few i.object accepted.image in
    let fits : A + 4096 * n ≤ 0x80f000 = l.high in
    let code = accepted.lazy r inside in
    ap (λ (b : ℕ). (v + b) % 2 ^ 64) l.base
    ∙ moved_of (low_of i.object) A v (4096 * n) (omega (arith, small)) (omega (arith, fits)) (laws.low i.object v accepted.image code.inside) (laws.high i.object v accepted.image code.inside)

lazy_some : ReadLaw → PageLaws → (m : Machine) → AcceptsOnly m → (journal : List Event) → Lawful m journal → (ns : Namespace) (o : Loaded) (r : Reloc) → Contains (after journal).namespaces ns → Contains ns.objects o
    → (slot : ℕ) → slice_get o.object.plt_relocs slot ≡ Some r → lazy_word o r ≡ 0 → ⊥
lazy_some read pages m only journal lawful ns o r there inside slot at zero_is =
    let i = (images_mapped m journal lawful).mapped ns o (record { there = there; inside = inside }) in
    let accepted : IsAccepted i.image.object = accepted_after read m only journal lawful i.image i.there in
    let range = images_placed m journal lawful i.image i.there in
    let l = lies pages (after journal) (apart_after m journal lawful) i.image accepted range in
    let slots : Contains i.image.object.plt_relocs r = subst (λ (q : Object). Contains q.plt_relocs r) (sym i.object) (at_in o.object.plt_relocs slot r at) in
    let same : lazy_word o r ≡ moved_word i.image.object i.image.base r.place =
    ap (λ (q : Object). moved_word q o.base r.place) (sym i.object) ∙ ap (λ (b : ℕ). moved_word i.image.object b r.place) (sym i.base) in
    let word : lazy_word o r ≡ range.range.address + (file_word i.image.object r.place - low_of i.image.object) = same ∙ lazy_lies pages i.image range.range.address accepted l r slots in
    let high : 0x10000 ≤ range.range.address = l.low in
    omega (arith, word, high, zero_is)

pub none_lazy : LoadLaws → ReadLaw → PageLaws → (m : Machine) → AcceptsOnly m → (journal : List Event) → Lawful m journal → NoneIsLazy (after journal)
none_lazy laws read pages m only journal lawful = record {
  granted = λ ns o g r inside granted of at lazy.
      let zero_is = (by_law laws _ unlazy_law m journal lawful).1.1 ns o g r inside.there inside.inside granted of at lazy in
      lazy_some read pages m only journal lawful ns o r inside.there inside.inside g.slot at (sym lazy ∙ zero_is);
  at_load = λ ns o slot value r inside got at lazy.
      let k = chosen_at (after journal) o.serial slot value got in
      let load = loads_after laws m journal lawful ns o k.0 slot value inside.there inside.inside k.1 k.2 k.3 in
      lazy_some read pages m only journal lawful ns o r inside.there inside.inside slot at (sym lazy ∙ load.lazy r at lazy);
}
