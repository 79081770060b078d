-- What memory gets of new objects.
use Rattle.std.proofs.Common.{◌≡◌, ⊎_elim, ℕ, suc, ◌+◌, ◌-◌, ◌*◌, ◌^◌, ◌<◌, Bool, true, false, not, cond, List, [], ◌∷◌, ◌++◌, map, length, Option, Some, None, refl, sym, ap, subst, ◌∙◌, arith}
use Rattle.std.specs.List.{Contains, filter, range_with_len, slice_get}
use Rattle.std.proofs.lemmas.List.Elements.{Contains-append_cases, Contains-append_right}
use Rattle.address_space.specs.Pages.{without}
use Rattle.ld_base.specs.declared.linking.Loaded.{Loaded}
use Rattle.history_event.specs.declared.event.Event.{Event}
use Rattle.history_event.specs.declared.event.OpenAsk.{OpenAsk}
use Rattle.history_event.specs.declared.event.Range.{Range}
use Rattle.history_state.specs.Accepted.{AcceptsOnly}
use Rattle.history_state.specs.After.{after}
use Rattle.history_state.specs.Areas.{Area, AreBased, AreGiven, free_pages, has_storage, object_area, other_areas, stack_area, static_area, static_areas}
use Rattle.history_state.specs.Laws.{ImagesAreInstalled}
use Rattle.history_state.specs.Legal.{Lawful}
use Rattle.history_state.specs.Memory.{is_data_purpose, role_at, first_word_at}
use Rattle.history_state.specs.Objects.{is_startup}
use Rattle.history_state.specs.Opening.{Opens, OpensName}
use Rattle.history_state.specs.Setting.{Machine, Setting}
use Rattle.history_state.specs.State.{State, Statics}
use Rattle.history_state.specs.Step.{loaded, open_done}
use Rattle.history_state.specs.Storage.{statics_with}
use Rattle.history_state.specs.Lemmas.Accepting.{ReadLaw}
use Rattle.history_state.specs.Lemmas.Brought.{LoadLaws}
use Rattle.history_state.specs.Lemmas.Lazy.{PageLaws}
use Rattle.history_state.specs.Lemmas.Lists.{from_map, here, later, none_in}
use Rattle.history_state.specs.Lemmas.Map.{installed, range_lies}
use Rattle.history_state.specs.Lemmas.Modular.{guest_of}
use Rattle.history_calls.specs.Served.{AreImages, AreWordsOf, is_area}
use Rattle.link_open_images.specs.Relocated.{IsRelocated}
use Rattle.seg_image.specs.Pages.{guest_address, low_of, own_address, pages_of}
use Rattle.seg_image.specs.declared.image.Image.{Image}
use Rattle.link_open_laws.specs.Laws.{AreOfState, CanBePlaced, image_made}
use Rattle.link_open_laws.proofs.Placed.{image_there, mapped_next, new_placed}

-- areas beside objects are for data
others_are_data : (startup : Bool) (st : Statics) (harts : ℕ) (added : List Loaded) (a : Area) → Contains (other_areas startup st harts added) a → is_data_purpose a.purpose ≡ true
others_are_data false st harts added a inside = absurd (none_in a inside)
others_are_data true st harts added a inside = ⊎_elim
    (λ (stack : Contains (map stack_area (range_with_len 0 harts)) a). let at = from_map stack_area (range_with_len 0 harts) a stack in ap (λ (x : Area). is_data_purpose x.purpose) (sym at.2))
    (λ (area : Contains (static_areas st harts added) a). by (has_storage added) area)
    (Contains-append_cases (map stack_area (range_with_len 0 harts)) (static_areas st harts added) a inside)
  where
    by : (b : Bool) → Contains (cond b (map (static_area st added) (range_with_len 0 harts)) []) a → is_data_purpose a.purpose ≡ true
    by true h = let at = from_map (static_area st added) (range_with_len 0 harts) a h in ap (λ (x : Area). is_data_purpose x.purpose) (sym at.2)
    by false h = absurd (none_in a h)

abbrev objects_of : List Range → List Range
objects_of ranges = filter (λ r. not (is_area r)) ranges

-- of ranges for data none is an object's
none_left : (free : List ℕ) (areas : List Area) (ranges : List Range) (left : List ℕ) → AreGiven free areas ranges left → ((a : Area) → Contains areas a → is_data_purpose a.purpose ≡ true) → objects_of ranges ≡ []
none_left free [] [] left given all = refl
none_left free [] (r ∷ ranges) left given all = absurd given
none_left free (a ∷ areas) [] left given all = absurd given
none_left free (a ∷ areas) (r ∷ ranges) left given all =
    ap (λ (b : Bool). cond (not b) (r ∷ objects_of ranges) (objects_of ranges)) (ap is_data_purpose given.0.purpose ∙ all a (here a areas))
    ∙ none_left (without free r.address r.pages) areas ranges left given.1 (λ x inside. all x (later a areas x inside))

module _ (state : State) (all : List Loaded) (laid : List Range) (made : Loaded → Image → Type 0)
    (words : (o : Loaded) → Contains all o → (r : Range) → Contains laid r → (image : Image) → made o image → r.pages ≡ pages_of o.object → o.base ≡ own_address (low_of o.object) r.address
    → AreWordsOf state r image) where
  -- an image an object, in the ranges that were given
  images_given : (free : List ℕ) (added : List Loaded) (others : List Area) (ranges : List Range) (left : List ℕ) (images : List Image)
      → AreGiven free (map object_area added ++ others) ranges left → AreBased added ranges → ((a : Area) → Contains others a → is_data_purpose a.purpose ≡ true)
      → ((o : Loaded) → Contains added o → Contains all o) → ((r : Range) → Contains ranges r → Contains laid r) → length images ≡ length added
      → ((k : ℕ) (o : Loaded) (image : Image) → slice_get added k ≡ Some o → slice_get images k ≡ Some image → made o image)
      → AreImages state (objects_of ranges) images
  images_given free [] others ranges left [] given based are_data news there count each =
      subst (λ (rs : List Range). AreImages state rs []) (sym (none_left free others ranges left given are_data)) tt
  images_given free [] others ranges left (image ∷ images) given based are_data news there count each = absurd (omega (arith, count))
  images_given free (o ∷ added) others [] left images given based are_data news there count each = absurd given
  images_given free (o ∷ added) others (r ∷ ranges) left [] given based are_data news there count each = absurd (omega (arith, count))
  images_given free (o ∷ added) others (r ∷ ranges) left (image ∷ images) given based are_data news there count each =
      let kept : objects_of (r ∷ ranges) ≡ r ∷ objects_of ranges = ap (λ (b : Bool). cond (not b) (r ∷ objects_of ranges) (objects_of ranges)) (ap is_data_purpose given.0.purpose) in
      subst (λ (rs : List Range). AreImages state rs (image ∷ images)) (sym kept) (
        words o (news o (here o added)) r (there r (here r ranges)) image (each 0 o image refl refl) given.0.pages based.0,
        images_given (without free r.address r.pages) added others ranges left images given.1 based.1 are_data (λ x inside. news x (later o added x inside))
            (λ x inside. there x (later r ranges x inside)) (omega (arith, count)) (λ k x i at has. each (suc k) x i at has),
      )

module _ (loads : LoadLaws) (reads : ReadLaw) (pages : PageLaws) (m : Machine) (only : AcceptsOnly m) (w : Setting) (same : w.machine ≡ m) (past : List Event) (lawful : Lawful m past)
    (hart : ℕ) (ask : OpenAsk) (id root : ℕ) (added : List Loaded) (ranges : List Range) (may : Opens w (after past) hart ask id root added ranges) where
  abbrev end_state : State
  end_state = open_done (after past) hart ask id root added ranges

  installed_next : ImagesAreInstalled end_state
  installed_next = installed pages end_state (mapped_next loads reads pages m only w same past lawful hart ask id root added ranges may)

  reserved : (r : Range) → Contains ranges r → Contains end_state.ranges r
  unfolding loaded
  reserved r inside = Contains-append_right (after past).ranges ranges r inside

  abbrev made : Loaded → Image → Type 0
  made o image = IsRelocated o (image_made (after past) hart ask id root added ranges o).bindings (image_made (after past) hart ask id root added ranges o).places image

  -- an object's image in its range
  words_of : (o : Loaded) → Contains added o → (r : Range) → Contains end_state.ranges r → (image : Image) → made o image → r.pages ≡ pages_of o.object
      → o.base ≡ own_address (low_of o.object) r.address → AreWordsOf end_state r image
  words_of o new r laid image is count base =
      let placed : CanBePlaced o = new_placed loads reads pages m only w same past lawful hart ask id root added ranges may o new in
      let some : 0 < pages_of o.object = pages.some o.object placed.accepted.image in
      let few : low_of o.object + 4096 * pages_of o.object < 2 ^ 33 = pages.few o.object placed.accepted.image in
      let lie = range_lies end_state.ranges (mapped_next loads reads pages m only w same past lawful hart ask id root added ranges may).apart r laid (omega (arith, some, count)) in
      let start : image.start ≡ r.address =
      is.start ∙ ap (λ (b : ℕ). guest_address b (low_of o.object)) base
      ∙ guest_of (low_of o.object) r.address (low_of o.object) (4096 * pages_of o.object) (omega (arith, few)) (omega (arith, lie.2, count)) (omega arith) (omega (arith, some))
      ∙ at_start r.address (low_of o.object) in
      let there = installed_next (image_made (after past) hart ask id root added ranges o) (image_there loads reads pages m only w same past lawful hart ask id root added ranges may o new) image is in
      record {
        start = start;
        all = is.all ∙ ap (λ (n : ℕ). 512 * n) (sym count);
        each = λ k less.
            there k (omega (arith, less, is.all, count)) ∙ ap (λ (a : ℕ). Some (record { value = first_word_at end_state (a + 8 * k); role = role_at end_state (a + 8 * k) })) start;
      }
    where
      at_start : (a low : ℕ) → a + (low - low) ≡ a
      at_start a low = omega arith

  by_name : (name : Option (List ℕ)) → OpensName w (after past) hart ask name id root added ranges → (images : List Image) → AreOfState (after past) hart ask id root added ranges images
      → AreImages end_state (objects_of ranges) images
  by_name (Some name) opens images are =
      images_given end_state added end_state.ranges made words_of (free_pages (after past).ranges) added
      (other_areas (is_startup (after past)) (statics_with added (after past).statics) w.machine.harts added) ranges opens.placed.left images opens.placed.given opens.placed.based
      (others_are_data (is_startup (after past)) (statics_with added (after past).statics) w.machine.harts added) (λ o new. new) reserved are.count are.each
  by_name None opens images are =
      subst (λ (rs : List Range). AreImages end_state (objects_of rs) images) (sym opens.no_pages) (empty images (are.count ∙ ap length opens.none))
    where
      empty : (is : List Image) → length is ≡ 0 → AreImages end_state [] is
      empty [] none = tt
      empty (image ∷ is) none = absurd (omega (arith, none))

  pub new_installs : (images : List Image) → AreOfState (after past) hart ask id root added ranges images → AreImages end_state (objects_of ranges) images
  new_installs images are = by_name ask.name may.name images are
