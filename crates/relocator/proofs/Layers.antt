-- Layers of words over one another.
use Rattle.std.proofs.Common.{◌≡◌, ◌≢◌, ℕ, ◌+◌, ◌*◌, ◌%◌, ◌^◌, ◌<◌, ◌≤◌, ◌==◌, ◌&&◌, ◌||◌, ◌⊎◌, Bool, true, false, Option, Some, None, List, [], ◌∷◌, ◌++◌, length, get_or, take, refl, arith, sym, ◌∙◌, ap, inl, inr, if◌then◌else◌}
use Rattle.std.proofs.lemmas.Bool.{and_from, and_left, and_right, cases_eq, eq-eqb, ne_eqb, or_right}
use Rattle.std.proofs.lemmas.List.{get_or-take, length-take-le, take_more}
use Rattle.std.proofs.lemmas.List.Recursion.{or_push}
use Rattle.std.proofs.lemmas.Slice.Zip.{get_or-zip, length-zip}
use Rattle.std.specs.List.{list_any, slice_get, zip}
use Rattle.std.specs.Option.{option_map_or}
use Rattle.std.specs.Prelude.{unwrap_or}
use Rattle.ld_base.specs.declared.object.Object.{Object}
use Rattle.ld_base.specs.declared.object.Reloc.{Reloc}
use Rattle.ld_base.specs.declared.object.Segment.{Segment}
use Rattle.seg_image.specs.declared.image.Image.{Image}
use Rattle.seg_image.specs.Accepted.{Accepted}
use Rattle.seg_image.specs.Images.{IsImage, changed_at}
use Rattle.seg_image.specs.Pages.{low_of, start_of}
use Rattle.seg_image.specs.Roles.{role_of}
use Rattle.seg_image.specs.Words.{file_word}
use Rattle.relocator.specs.declared.binding.Binding.{Binding}
use Rattle.relocator.specs.declared.binding.ModulePlace.{ModulePlace}
use Rattle.relocator.specs.Relocated.{fills_word, moved_word, over, packed_at, rela_at, slot_at, value_of}
use Rattle.relocator.proofs.Apart.{packed_apart, packed_slot, slots_apart, words_apart}
use Rattle.relocator.proofs.Fronts.{any_none, find_hit, find_miss, find_none}

-- the first page begins at a multiple of 8
low_aligned : (o : Object) → low_of o % 8 ≡ 0
unfolding low_of
low_aligned o = by_first (slice_get o.segments 0)
  where
    by_first : (g : Option Segment) → option_map_or start_of g 0 % 8 ≡ 0
    by_first None = refl
    by_first (Some g) = omega arith

-- an image by another name of its words
pub image_where : (o : Object) (base : ℕ) (value after : ℕ → ℕ) (image : Image) → IsImage o base value image → ((v : ℕ) → v % 8 ≡ 0 → value v < 2 ^ 64 → after v ≡ value v)
    → IsImage o base after image
image_where o base value after image is same =
    let aligned = low_aligned o in
    let at : (k : ℕ) → k < length image.words → after (low_of o + 8 * k) ≡ value (low_of o + 8 * k) = λ k less. same (low_of o + 8 * k) (omega arith) (is.words.fit k less) in
    record {
      start = is.start;
      all = is.all;
      words = record {
        each = λ k less. is.words.each k less ∙ ap (λ x. Some (record { value = x; role = role_of o (low_of o + 8 * k) })) (sym (at k less));
        fit = λ k less. rw (at k less) (is.words.fit k less);
      };
    }

pub image_same : (o : Object) (base : ℕ) (value after : ℕ → ℕ) (image : Image) → IsImage o base value image → ((v : ℕ) → v % 8 ≡ 0 → after v ≡ value v) → IsImage o base after image
image_same o base value after image is same = image_where o base value after image is (λ v aligned _. same v aligned)

-- a layer with one place more
pub layer_set : (o : Object) (base : ℕ) (first more : ℕ → Option ℕ) (second : ℕ → ℕ) (place word : ℕ) (image : Image) → IsImage o base (changed_at (over first second) place word) image
    → more place ≡ Some word → ((v : ℕ) → v ≢ place → more v ≡ first v) → IsImage o base (over more second) image
unfolding changed_at
layer_set o base first more second place word image is here others =
    image_same o base (λ v. if v == place then word else over first second v) (over more second) image is (λ v _. by_place v (cases_eq v place))
  where
    by_place : (v : ℕ) → (v ≡ place) ⊎ (v ≡ place → ⊥) → over more second v ≡ (if v == place then word else over first second v)
    by_place v (inl same) = rw (same, here, eq-eqb place place refl)
    by_place v (inr other) = rw (others v other, ne_eqb v place other)

-- a layer by another name
pub layer_same : (o : Object) (base : ℕ) (first more : ℕ → Option ℕ) (second : ℕ → ℕ) (image : Image) → IsImage o base (over first second) image
    → ((v : ℕ) → more v ≡ first v) → IsImage o base (over more second) image
layer_same o base first more second image is same = image_same o base (over first second) (over more second) image is (λ v _. ap (λ w. unwrap_or w (second v)) (same v))

-- ---- packed places

module _ (o : Object) (base : ℕ) where
  packed_more : (packed : List ℕ) (place v : ℕ) → list_any (λ p. p == v) (packed ++ place ∷ []) ≡ (list_any (λ p. p == v) packed || place == v)
  packed_more packed place v = or_push (list_any (λ p. p == v)) (λ p. p == v) refl (λ _ _. refl) packed place

  pub packed_here : (packed : List ℕ) (place : ℕ) → packed_at o base (packed ++ place ∷ []) place ≡ Some (moved_word o base place)
  unfolding packed_at
  packed_here packed place = rw (packed_more packed place place, or_right (list_any (λ p. p == place) packed) (place == place) (eq-eqb place place refl))

  pub packed_other : (packed : List ℕ) (place v : ℕ) → v ≢ place → packed_at o base (packed ++ place ∷ []) v ≡ packed_at o base packed v
  unfolding packed_at
  packed_other packed place v other =
      ap (λ b. if b then Some (moved_word o base v) else None) (packed_more packed place v ∙ ap (λ b. list_any (λ p. p == v) packed || b) (ne_eqb place v (λ e. other (sym e))) ∙ or_false (list_any (λ p. p == v) packed))
    where
      or_false : (b : Bool) → (b || false) ≡ b
      or_false true = refl
      or_false false = refl

  pub packed_absent : (packed : List ℕ) (v : ℕ) → ((k : ℕ) → k < length packed → get_or packed k 0 ≢ v) → packed_at o base packed v ≡ None
  unfolding packed_at
  packed_absent packed v none = rw (any_none (λ p. p == v) packed 0 (λ k less. ne_eqb (get_or packed k 0) v (none k less)))

-- ---- a step of each pass

pub take_back : {X : Type 0} (xs : List X) (n k : ℕ) (d : X) → n < length xs → k < length (take n xs) → (k < n) × (get_or (take n xs) k d ≡ get_or xs k d)
take_back xs n k d within less =
    let before : k < n = omega (arith, length-take-le n xs (omega arith)) in
    (before, get_or-take n xs k d before)

module _ (o : Object) (a : Accepted o) (base : ℕ) where
  -- one packed place more is moved
  pub packed_step : (n place word : ℕ) (image : Image) → n < length o.relr → place ≡ get_or o.relr n 0 → word ≡ (over (packed_at o base (take n o.relr)) (file_word o) place + base) % 2 ^ 64
      → IsImage o base (changed_at (over (packed_at o base (take n o.relr)) (file_word o)) place word) image → IsImage o base (over (packed_at o base (take (n + 1) o.relr)) (file_word o)) image
  unfolding moved_word
  packed_step n place word image within here is changed =
      let more : take (n + 1) o.relr ≡ take n o.relr ++ place ∷ [] = take_more o.relr n 0 within ∙ ap (λ p. take n o.relr ++ p ∷ []) (sym here) in
      let absent : packed_at o base (take n o.relr) place ≡ None = packed_absent o base (take n o.relr) place (λ k less same.
      let back = take_back o.relr n k 0 within less in
      packed_apart o a k n back.0 within (sym back.1 ∙ same ∙ here)) in
      let moved : word ≡ moved_word o base place = is ∙ ap (λ w. (unwrap_or w (file_word o place) + base) % 2 ^ 64) absent in
      rw more (layer_set o base (packed_at o base (take n o.relr)) (packed_at o base (take n o.relr ++ place ∷ [])) (file_word o) place word image changed
      (packed_here o base (take n o.relr) place ∙ ap Some (sym moved))
      (λ v other. packed_other o base (take n o.relr) place v other))

  -- one slot more is filled
  module _ (bindings : List Binding) (enough : length bindings ≡ length o.plt_relocs) where
    abbrev pairs : List (Reloc × Binding)
    pairs = zip o.plt_relocs bindings

    abbrev lower : ℕ → ℕ
    lower = over (packed_at o base o.relr) (file_word o)

    pair_at : (k : ℕ) (d : Reloc × Binding) → k < length o.plt_relocs → get_or pairs k d ≡ (get_or o.plt_relocs k d.0, get_or bindings k d.1)
    pair_at k d within = get_or-zip o.plt_relocs bindings k d within (omega arith)

    pairs_long : length pairs ≡ length o.plt_relocs
    pairs_long = length-zip o.plt_relocs bindings ∙ omega arith

    no_slot_before : (n k : ℕ) (d : Reloc × Binding) → n < length o.plt_relocs → k < length (take n pairs) → ((get_or (take n pairs) k d).0.place == (get_or o.plt_relocs n d.0).place) ≡ false
    no_slot_before n k d within less =
        let long = pairs_long in
        let back = take_back pairs n k d (omega arith) less in
        let before = back.0 in
        let apart = slots_apart o a k n d.0 before within in
        rw (back.1, pair_at k d (omega arith)) (ne_eqb (get_or o.plt_relocs k d.0).place (get_or o.plt_relocs n d.0).place apart)

    pub slot_step : (n word : ℕ) (r : Reloc) (b : Binding) (image : Image) → n < length o.plt_relocs → r ≡ get_or o.plt_relocs n r → b ≡ get_or bindings n b
        → word ≡ (if b.bound then b.value else (over (slot_at o base (take n pairs)) lower r.place + base) % 2 ^ 64)
        → IsImage o base (changed_at (over (slot_at o base (take n pairs)) lower) r.place word) image → IsImage o base (over (slot_at o base (take (n + 1) pairs)) lower) image
    unfolding slot_at moved_word
    slot_step n word r b image within is_r is_b is changed =
        let long = pairs_long in
        let here : get_or pairs n (r, b) ≡ (r, b) = pair_at n (r, b) within ∙ cc in
        let more : take (n + 1) pairs ≡ take n pairs ++ (r, b) ∷ [] = take_more pairs n (r, b) (omega arith) ∙ ap (λ x. take n pairs ++ x ∷ []) here in
        let none : (k : ℕ) → k < length (take n pairs) → ((get_or (take n pairs) k (r, b)).0.place == r.place) ≡ false =
        λ k less. rw (← is_r) at (no_slot_before n k (r, b) within less) in
        let absent = find_none (λ (x : Reloc × Binding). x.0.place == r.place) (take n pairs) (r, b) none in
        let unpacked : packed_at o base o.relr r.place ≡ None = packed_absent o base o.relr r.place (λ k less same. packed_slot o a k n r less within (same ∙ ap (λ x. x.place) is_r)) in
        let word_is : word ≡ (if b.bound then b.value else moved_word o base r.place) = is ∙ rw (absent, unpacked) in
        rw more (layer_set o base (slot_at o base (take n pairs)) (slot_at o base (take n pairs ++ (r, b) ∷ [])) lower r.place word image changed
        (rw (find_hit (λ (x : Reloc × Binding). x.0.place == r.place) (take n pairs) (r, b) none (eq-eqb r.place r.place refl), word_is))
        (λ v other. rw (find_miss (λ (x : Reloc × Binding). x.0.place == v) (take n pairs) (r, b) (ne_eqb r.place v (λ e. other (sym e))))))

  -- one relocation of DT_RELA more is made
  module _ (serial : ℕ) (places : List ModulePlace) (bindings : List Binding) (enough : length o.relocs ≤ length bindings) (second : ℕ → ℕ) where
    abbrev relas : List (Reloc × Binding)
    relas = zip o.relocs bindings

    pub rela_pair : (k : ℕ) (d : Reloc × Binding) → k < length o.relocs → get_or relas k d ≡ (get_or o.relocs k d.0, get_or bindings k d.1)
    rela_pair k d within = get_or-zip o.relocs bindings k d within (omega arith)

    pub relas_long : length relas ≡ length o.relocs
    relas_long = length-zip o.relocs bindings ∙ omega arith

    pub relas_more : (n : ℕ) (r : Reloc) (b : Binding) → n < length o.relocs → r ≡ get_or o.relocs n r → b ≡ get_or bindings n b → take (n + 1) relas ≡ take n relas ++ (r, b) ∷ []
    relas_more n r b within is_r is_b =
        let long = relas_long in
        let here : get_or relas n (r, b) ≡ (r, b) = rela_pair n (r, b) within ∙ cc in
        take_more relas n (r, b) (omega arith) ∙ ap (λ x. take n relas ++ x ∷ []) here

    pub rela_skip : (n : ℕ) (r : Reloc) (b : Binding) (image : Image) → n < length o.relocs → r ≡ get_or o.relocs n r → b ≡ get_or bindings n b → fills_word r ≡ false
        → IsImage o base (over (rela_at base serial places (take n relas)) second) image → IsImage o base (over (rela_at base serial places (take (n + 1) relas)) second) image
    unfolding rela_at
    rela_skip n r b image within is_r is_b skips is =
        rw (relas_more n r b within is_r is_b) (layer_same o base (rela_at base serial places (take n relas)) (rela_at base serial places (take n relas ++ (r, b) ∷ [])) second image is
        (λ v. rw (find_miss (λ (x : Reloc × Binding). x.0.place == v && fills_word x.0) (take n relas) (r, b) (and_right (r.place == v) (fills_word r) skips))))

    pub rela_step : (n word : ℕ) (r : Reloc) (b : Binding) (image : Image) → n < length o.relocs → r ≡ get_or o.relocs n r → b ≡ get_or bindings n b → fills_word r ≡ true
        → word ≡ value_of base serial places (r, b) → IsImage o base (changed_at (over (rela_at base serial places (take n relas)) second) r.place word) image
        → IsImage o base (over (rela_at base serial places (take (n + 1) relas)) second) image
    unfolding rela_at
    rela_step n word r b image within is_r is_b fills is changed =
        let long = relas_long in
        let none : (k : ℕ) → k < length (take n relas) → ((get_or (take n relas) k (r, b)).0.place == r.place && fills_word (get_or (take n relas) k (r, b)).0) ≡ false = λ k less. before k less in
        rw (relas_more n r b within is_r is_b) (layer_set o base (rela_at base serial places (take n relas)) (rela_at base serial places (take n relas ++ (r, b) ∷ [])) second r.place word image changed
        (rw (find_hit (λ (x : Reloc × Binding). x.0.place == r.place && fills_word x.0) (take n relas) (r, b) none (and_from (r.place == r.place) (fills_word r) (eq-eqb r.place r.place refl) fills), is))
        (λ v other. rw (find_miss (λ (x : Reloc × Binding). x.0.place == v && fills_word x.0) (take n relas) (r, b) (and_left (r.place == v) (fills_word r) (ne_eqb r.place v (λ e. other (sym e)))))))
      where
        by_kind : (k : ℕ) (q : Reloc) → k < n → q ≡ get_or o.relocs k r → (fills : Bool) → fills_word q ≡ fills → (q.place == r.place && fills) ≡ false
        by_kind k q less is_q false unfilled = and_right (q.place == r.place) false refl
        by_kind k q less is_q true filled =
            let first : fills_word (get_or o.relocs k r) ≡ true = rw (← is_q) filled in
            let this : fills_word (get_or o.relocs n r) ≡ true = rw (← is_r) fills in
            let apart = words_apart o a k n r less within first this in
            and_left (q.place == r.place) true (ne_eqb q.place r.place (λ e. apart (ap (λ x. x.place) (sym is_q) ∙ e ∙ ap (λ x. x.place) is_r)))

        before : (k : ℕ) → k < length (take n relas) → ((get_or (take n relas) k (r, b)).0.place == r.place && fills_word (get_or (take n relas) k (r, b)).0) ≡ false
        before k less =
            let long = relas_long in
            let back = take_back relas n k (r, b) (omega arith) less in
            let earlier = back.0 in
            rw (back.1, rela_pair k (r, b) (omega arith)) (by_kind k (get_or o.relocs k r) earlier refl (fills_word (get_or o.relocs k r)) refl)
