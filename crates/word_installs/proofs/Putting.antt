-- Words that are put into memory: one more leaves those that are there.
use Rattle.std.proofs.Common.{◌≡◌, ◌≢◌, ◌⊎◌, ⊎_elim, inl, inr, ℕ, zero, suc, ◌+◌, ◌*◌, ◌<◌, ◌≤◌, true, false, List, [], ◌∷◌, length, Some, refl, sym, ap, subst, ◌∙◌, arith}
use mathlib.Core.Logic.{dite}
use native.Mathlib.Decide.{ℕ_discrete}
use Rattle.std.specs.List.{slice_get}
use Rattle.std.proofs.lemmas.Option.{slice_get_within}
use Rattle.ld_base.specs.declared.linking.Role.{Role}
use Rattle.ld_base.specs.declared.linking.Role.TheVariants.{None as NoRole, Rx, Slot}
use Rattle.seg_image.specs.declared.image.Image.{Image}
use Rattle.seg_image.specs.declared.image.Word.{Word}
use Rattle.word_rule.specs.declared.view.KeeperView.{KeeperView}
use Rattle.word_rule.specs.declared.view.Kept.{Kept}
use Rattle.word_rule.specs.Allowed.{LeadsTo}
use Rattle.word_rule.specs.Layout.{place_of}
use Rattle.word_rule.specs.Views.{IsLong, kept_at}
use Rattle.word_rule.specs.Lemmas.Heeding.{kept_else, kept_here}
use Rattle.word_access.specs.WordKeeping.Keeping.{set_as}
use Rattle.word_memory.specs.Roles.{MaySet}
use Rattle.history_memory.specs.Memory.{IsDoubleword}
use Rattle.history_calls.specs.declared.link_served.installs.SlotWord.{SlotWord}
use Rattle.word_installs.specs.Installed.{HasWord, IsWordAt, MayPut, MayPutSlot, MayPutSlots, MayPutWords, OfImages, OfSlot, OfSlots, OfWord, OfWords, Puts, is_plain, put_as}
use Rattle.word_installs.proofs.Places.{place_low, place_one, word_address}

-- an element within a list
there_is : {X : Type 0} (xs : List X) (k : ℕ) → k < length xs → (x : X) × (slice_get xs k ≡ Some x)
there_is {X} [] k low = absurd (omega (arith, low))
there_is {X} (y ∷ xs) zero low = (y, refl)
there_is {X} (y ∷ xs) (suc k) low = there_is xs k (omega (arith, low))

-- ---- one after another

abbrev Which : Type 1
Which = ℕ → ℕ → Word → Type 0

pub puts_none : (which : Which) (k : KeeperView) → ((a lazy : ℕ) (x : Word) → which a lazy x → ⊥) → Puts which k k
puts_none which k none = record { put = λ a lazy x is. absurd (none a lazy x is); kept = λ d out. refl; only = refl }

-- the same words, said in another way
pub puts_same : (which other : Which) (k l : KeeperView) → ((a lazy : ℕ) (x : Word) → other a lazy x → which a lazy x) → ((a lazy : ℕ) (x : Word) → which a lazy x → other a lazy x)
    → Puts which k l → Puts other k l
puts_same which other k l back forth puts = record {
  put = λ a lazy x is. puts.put a lazy x (back a lazy x is);
  kept = λ d out. puts.kept d (λ a lazy x is. out a lazy x (forth a lazy x is));
  only = puts.only;
}

pub events_same : (which : Which) (k l : KeeperView) → Puts which k l → l.events ≡ k.events
events_same which k l puts = ap (λ (v : KeeperView). v.events) puts.only

pub generation_same : (which : Which) (k l : KeeperView) → Puts which k l → l.generation ≡ k.generation
generation_same which k l puts = ap (λ (v : KeeperView). v.generation) puts.only

-- words at other places come behind
pub puts_then : (first second all : Which) (k l m : KeeperView) → Puts first k l → Puts second l m
    → ((a lazy : ℕ) (x : Word) → all a lazy x → first a lazy x ⊎ second a lazy x)
    → ((a lazy : ℕ) (x : Word) → first a lazy x ⊎ second a lazy x → all a lazy x)
    → ((a lazy : ℕ) (x : Word) (b other : ℕ) (y : Word) → first a lazy x → second b other y → place_of b ≢ place_of a) → Puts all k m
puts_then first second all k l m one two split join apart = record {
  put = λ a lazy x is. ⊎_elim
      (λ (old : first a lazy x). two.kept (place_of a) (λ b other y new. apart a lazy x b other y old new) ∙ one.put a lazy x old)
      (λ (new : second a lazy x). two.put a lazy x new ∙ ap (λ es. put_as x lazy (length es)) (events_same first k l one))
      (split a lazy x is);
  kept = λ d out. two.kept d (λ a lazy x is. out a lazy x (join a lazy x (inr is))) ∙ one.kept d (λ a lazy x is. out a lazy x (join a lazy x (inl is)));
  only = two.only ∙ ap (λ (v : KeeperView). record v { words = m.words }) one.only;
}

-- ---- one word

pub no_word : (address : ℕ) (word : Word) (k : KeeperView) → is_plain word.role ≡ false → Puts (OfWord address word) k k
no_word address word k not = puts_none (OfWord address word) k (λ a lazy x is. (let both : true ≡ false = sym is.3 ∙ not in cc))

module _ (which : Which) (address lazy : ℕ) (word : Word) (k l : KeeperView) (long : IsLong k) (placed : IsDoubleword address)
    (set : l ≡ set_as (place_of address) word.value word.role lazy k) where
  inside : place_of address < length k.words
  inside = subst (λ (n : ℕ). place_of address < n) (sym long.0) (place_low address placed)

  at_place : kept_at l (place_of address) ≡ put_as word lazy (length k.events)
  at_place = ap (λ (v : KeeperView). kept_at v (place_of address)) set ∙ kept_here k (place_of address) (put_as word lazy (length k.events)) inside

  elsewhere : (d : ℕ) → d ≢ place_of address → kept_at l d ≡ kept_at k d
  elsewhere d apart = ap (λ (v : KeeperView). kept_at v d) set ∙ kept_else k (place_of address) (put_as word lazy (length k.events)) inside d apart

  -- the word is all that is put there
  pub one_put : ((a z : ℕ) (x : Word) → which a z x → (a ≡ address) × (z ≡ lazy) × (x ≡ word)) → which address lazy word → Puts which k l
  one_put only there = record {
    put = λ a z x is.
        let same = only a z x is in
        ap (λ (b : ℕ). kept_at l (place_of b)) same.0 ∙ at_place ∙ ap (λ (n : ℕ). put_as word n (length k.events)) (sym same.1)
        ∙ ap (λ (y : Word). put_as y z (length k.events)) (sym same.2);
    kept = λ d out. elsewhere d (λ same. out address lazy word there (sym same));
    only = set ∙ ap (λ (v : KeeperView). record k { words = v.words }) (sym set);
  }

pub word_put : (address : ℕ) (word : Word) (k l : KeeperView) → IsLong k → IsDoubleword address → is_plain word.role ≡ true
    → l ≡ set_as (place_of address) word.value word.role 0 k → Puts (OfWord address word) k l
word_put address word k l long placed plain set =
    one_put (OfWord address word) address 0 word k l long placed set (λ a z x is. (is.0, is.2, is.1)) (refl, refl, refl, plain)

-- a doubleword without a role may be set
pub may_set : (k : KeeperView) (a value : ℕ) (role : Role) → IsDoubleword a → (kept_at k (place_of a)).role ≡ NoRole → is_plain role ≡ true → MaySet k a value role
may_set k a value role placed free plain = record {
  at = word_address a placed;
  fresh = free;
  some_role = λ none. (let both : true ≡ false = sym plain ∙ ap is_plain none in cc);
  leads = λ slot. absurd (let both : true ≡ false = sym plain ∙ ap is_plain slot in cc);
}

pub may_set_slot : (k : KeeperView) (images : List Image) (slot : SlotWord) (word : Word) → MayPutSlot k images slot → HasWord images slot.address word → word.role ≡ Slot
    → MaySet k slot.address word.value Slot
may_set_slot k images slot word may has role = record {
  at = word_address slot.address (may.placed word has);
  fresh = may.free word has role;
  some_role = λ none. (let both : Slot ≡ NoRole = none in cc);
  leads = λ same. may.leads word has role;
}

-- ---- words from an address on

-- the first of them
abbrev pub OfFirst : ℕ → ℕ → List Word → ℕ → ℕ → Word → Type 0
OfFirst n start words a lazy x = (j : ℕ) × (j < n) × (slice_get words j ≡ Some x) × (a ≡ start + 8 * j) × (lazy ≡ 0) × (is_plain x.role ≡ true)

pub first_more : (n start : ℕ) (words : List Word) (word : Word) (k l m : KeeperView) → ((j : ℕ) → j < length words → IsDoubleword (start + 8 * j)) → slice_get words n ≡ Some word
    → Puts (OfFirst n start words) k l → Puts (OfWord (start + 8 * n) word) l m → Puts (OfFirst (n + 1) start words) k m
first_more n start words word k l m placed at one two =
    puts_then (OfFirst n start words) (OfWord (start + 8 * n) word) (OfFirst (n + 1) start words) k l m one two
    (λ a lazy x is. dite (ℕ_discrete is.0 n)
    (λ (same : is.0 ≡ n).
    let both : Some word ≡ Some x = sym at ∙ ap (slice_get words) (sym same) ∙ is.2 in
    let word_is : x ≡ word = cc in
    inr (is.3 ∙ ap (λ (j : ℕ). start + 8 * j) same, word_is, is.4, ap (λ (y : Word). is_plain y.role) (sym word_is) ∙ is.5))
    (λ (apart : is.0 ≢ n). let small : is.0 < n + 1 = is.1 in inl (is.0, (omega (arith, small, apart)), is.2, is.3, is.4, is.5)))
    (λ a lazy x is. ⊎_elim
    (λ (old : OfFirst n start words a lazy x). let small : old.0 < n = old.1 in (old.0, (omega (arith, small)), old.2, old.3, old.4, old.5))
    (λ (new : OfWord (start + 8 * n) word a lazy x). (n, (omega arith), at ∙ ap (λ (y : Word). Some y) (sym new.1), new.0, new.2, ap (λ (y : Word). is_plain y.role) new.1 ∙ new.3))
    is)
    (λ a lazy x b other y old new same.
    let inside : n < length words = slice_get_within words n word at in
    let small : old.0 < n = old.1 in
    let first : IsDoubleword (start + 8 * old.0) = placed old.0 (omega (arith, small, inside)) in
    let is : start + 8 * n ≡ start + 8 * old.0 = place_one (start + 8 * n) (start + 8 * old.0) (placed n inside) first (ap place_of (sym new.0) ∙ same ∙ ap place_of old.3) in
    omega (arith, is, small))

-- the next one stands where nothing was
pub first_free : (n start : ℕ) (words : List Word) (k l : KeeperView) → MayPutWords k start words → n < length words → Puts (OfFirst n start words) k l
    → (kept_at l (place_of (start + 8 * n))).role ≡ NoRole
first_free n start words k l may low puts =
    ap (λ (x : Kept). x.role) (puts.kept (place_of (start + 8 * n)) (λ a lazy x is same.
    let small : is.0 < n = is.1 in
    let one : start + 8 * is.0 ≡ start + 8 * n =
    place_one (start + 8 * is.0) (start + 8 * n) (may.placed is.0 (omega (arith, small, low))) (may.placed n low) (sym (ap place_of is.3) ∙ same) in
    omega (arith, one, small)))
    ∙ may.free n low

pub all_words : (n start : ℕ) (words : List Word) (k l : KeeperView) → length words ≤ n → Puts (OfFirst n start words) k l → Puts (OfWords start words) k l
all_words n start words k l past puts =
    puts_same (OfFirst n start words) (OfWords start words) k l
    (λ a lazy x is. let inside : is.0 < length words = slice_get_within words is.0 x is.1 in (is.0, (omega (arith, inside, past)), is.1, is.2, is.3, is.4))
    (λ a lazy x is. (is.0, is.2, is.3, is.4, is.5)) puts

-- ---- images

-- those of the first of them
abbrev pub OfFirstImages : ℕ → List Image → ℕ → ℕ → Word → Type 0
OfFirstImages n images a lazy x = (i : ℕ) × (j : ℕ) × (i < n) × IsWordAt images i j a x × (lazy ≡ 0) × (is_plain x.role ≡ true)

-- a word of an image
word_of : (images : List Image) (n : ℕ) (image : Image) → slice_get images n ≡ Some image → (j : ℕ) (x : Word) → slice_get image.words j ≡ Some x → IsWordAt images n j (image.start + 8 * j) x
word_of images n image there j x at = record { image = image; there = there; at = at; is = refl }

-- two words at one address are one
pub same_word : (images : List Image) (i j p q a : ℕ) (x y : Word) → i ≡ p → IsWordAt images i j a x → IsWordAt images p q a y → x ≡ y
same_word images i j p q a x y same first second =
    let both : Some first.image ≡ Some second.image = sym first.there ∙ ap (slice_get images) same ∙ second.there in
    let image : first.image ≡ second.image = cc in
    let start : first.image.start ≡ second.image.start = ap (λ (m : Image). m.start) image in
    let here : a ≡ first.image.start + 8 * j = first.is in
    let there : a ≡ second.image.start + 8 * q = second.is in
    let index : j ≡ q = omega (arith, start, here, there) in
    let words : Some x ≡ Some y = sym first.at ∙ ap (λ (m : Image). slice_get m.words j) image ∙ ap (slice_get second.image.words) index ∙ second.at in
    cc

module _ (images : List Image) (k : KeeperView) (may : MayPut k images) where
  -- two words of one place are at one address
  one_address : (a b : ℕ) (x y : Word) → HasWord images a x → HasWord images b y → place_of b ≡ place_of a → b ≡ a
  one_address a b x y first second same = place_one b a (may.placed b y second) (may.placed a x first) same

  pub one_word : (a b : ℕ) (x y : Word) → HasWord images a x → HasWord images b y → place_of b ≡ place_of a → x ≡ y
  one_word a b x y first second same =
      let at : IsWordAt images second.image second.index a y = subst (λ (c : ℕ). IsWordAt images second.image second.index c y) (one_address a b x y first second same) second.is in
      same_word images first.image first.index second.image second.index a x y (may.apart first.image first.index second.image second.index a x y first.is at) first.is at

  -- words of two images have two places
  two_places : (i j p q a b : ℕ) (x y : Word) → IsWordAt images i j a x → IsWordAt images p q b y → i ≢ p → place_of b ≢ place_of a
  two_places i j p q a b x y first second differs same =
      let is : b ≡ a = one_address a b x y (record { image = i; index = j; is = first }) (record { image = p; index = q; is = second }) same in
      differs (may.apart i j p q a x y first (subst (λ (c : ℕ). IsWordAt images p q c y) is second))

  -- the next image may be put there
  pub next_image : (n : ℕ) (image : Image) (l : KeeperView) → slice_get images n ≡ Some image → Puts (OfFirstImages n images) k l → MayPutWords l image.start image.words
  next_image n image l there puts = record {
    placed = λ j low. may.placed (image.start + 8 * j) (nth j low) (record { image = n; index = j; is = word_of images n image there j (nth j low) (nth_is j low) });
    free = λ j low.
        ap (λ (x : Kept). x.role) (puts.kept (place_of (image.start + 8 * j))
        (λ a lazy x is. let small : is.0 < n = is.2 in
        two_places n j is.0 is.1 (image.start + 8 * j) a (nth j low) x (word_of images n image there j (nth j low) (nth_is j low)) is.3 (λ same. omega (arith, small, same))))
        ∙ may.free (image.start + 8 * j) (nth j low) (record { image = n; index = j; is = word_of images n image there j (nth j low) (nth_is j low) });
  }
    where
      nth : (j : ℕ) → j < length image.words → Word
      nth j low = (there_is image.words j low).0

      nth_is : (j : ℕ) (low : j < length image.words) → slice_get image.words j ≡ Some (nth j low)
      nth_is j low = (there_is image.words j low).1

  pub images_more : (n : ℕ) (image : Image) (l m : KeeperView) → slice_get images n ≡ Some image → Puts (OfFirstImages n images) k l → Puts (OfWords image.start image.words) l m
      → Puts (OfFirstImages (n + 1) images) k m
  images_more n image l m there one two =
      puts_then (OfFirstImages n images) (OfWords image.start image.words) (OfFirstImages (n + 1) images) k l m one two
      (λ a lazy x is. dite (ℕ_discrete is.0 n)
      (λ (same : is.0 ≡ n). inr (own a lazy x is same))
      (λ (apart : is.0 ≢ n). let small : is.0 < n + 1 = is.2 in inl (is.0, is.1, (omega (arith, small, apart)), is.3, is.4, is.5)))
      (λ a lazy x is. ⊎_elim
      (λ (old : OfFirstImages n images a lazy x). let small : old.0 < n = old.2 in (old.0, old.1, (omega (arith, small)), old.3, old.4, old.5))
      (λ (new : OfWords image.start image.words a lazy x). (n, new.0, (omega arith), record { image = image; there = there; at = new.1; is = new.2 }, new.3, new.4))
      is)
      (λ a lazy x b other y old new. let small : old.0 < n = old.2 in
      two_places old.0 old.1 n new.0 a b x y old.3 (record { image = image; there = there; at = new.1; is = new.2 }) (λ same. omega (arith, small, same)))
    where
      own : (a lazy : ℕ) (x : Word) (is : OfFirstImages (n + 1) images a lazy x) → is.0 ≡ n → OfWords image.start image.words a lazy x
      own a lazy x is same =
          let both : Some is.3.image ≡ Some image = sym is.3.there ∙ ap (slice_get images) same ∙ there in
          let same_image : is.3.image ≡ image = cc in
          (is.1, subst (λ (i : Image). slice_get i.words is.1 ≡ Some x) same_image is.3.at, is.3.is ∙ ap (λ (i : Image). i.start + 8 * is.1) same_image, is.4, is.5)

pub all_images : (n : ℕ) (images : List Image) (k l : KeeperView) → length images ≤ n → Puts (OfFirstImages n images) k l → Puts (OfImages images) k l
all_images n images k l past puts =
    puts_same (OfFirstImages n images) (OfImages images) k l
    (λ a lazy x is. let inside : is.0.image < length images = slice_get_within images is.0.image is.0.is.image is.0.is.there in (is.0.image, is.0.index, (omega (arith, inside, past)), is.0.is, is.1, is.2))
    (λ a lazy x is. (record { image = is.0; index = is.1; is = is.3 }, is.4, is.5)) puts

-- ---- slots

abbrev pub OfFirstSlots : ℕ → List Image → List SlotWord → ℕ → ℕ → Word → Type 0
OfFirstSlots n images slots a lazy x = (i : ℕ) × (slot : SlotWord) × (i < n) × (slice_get slots i ≡ Some slot) × OfSlot images slot a lazy x

-- a slot whose word no image has
pub no_slot : (images : List Image) (slot : SlotWord) (k : KeeperView) → ((x : Word) → HasWord images slot.address x → x.role ≢ Slot) → Puts (OfSlot images slot) k k
no_slot images slot k none = puts_none (OfSlot images slot) k (λ a lazy x is. none x (subst (λ (b : ℕ). HasWord images b x) (sym is.2) is.0) is.1)

pub slot_put : (images : List Image) (slot : SlotWord) (word : Word) (k l : KeeperView) → IsLong k → MayPutSlot k images slot → HasWord images slot.address word → word.role ≡ Slot
    → l ≡ set_as (place_of slot.address) word.value Slot slot.lazy k → Puts (OfSlot images slot) k l
slot_put images slot word k l long may has role set =
    one_put (OfSlot images slot) slot.address slot.lazy word k l long (may.placed word has)
    (set ∙ ap (λ (r : Role). set_as (place_of slot.address) word.value r slot.lazy k) (sym role))
    (λ a z x is. (sym is.2, sym is.3, may.one x word (subst (λ (b : ℕ). HasWord images b x) (sym is.2) is.0) has))
    (has, role, refl, refl)

module _ (images : List Image) (slots : List SlotWord) (k : KeeperView) (may : MayPutSlots k images slots) where
  -- two slots have two places
  two_slots : (i n a b : ℕ) (slot next : SlotWord) (x y : Word) → slice_get slots i ≡ Some slot → slice_get slots n ≡ Some next → i ≢ n → HasWord images slot.address x → HasWord images next.address y
      → slot.address ≡ a → next.address ≡ b → place_of b ≢ place_of a
  two_slots i n a b slot next x y first second differs has_x has_y at_a at_b same =
      let one : IsDoubleword slot.address = (may.each i slot first).placed x has_x in
      let two : IsDoubleword next.address = (may.each n next second).placed y has_y in
      differs (may.once i n slot next first second (sym (place_one next.address slot.address two one (ap place_of at_b ∙ same ∙ ap place_of (sym at_a)))))

  pub next_slot : (n : ℕ) (slot : SlotWord) (l : KeeperView) → slice_get slots n ≡ Some slot → Puts (OfFirstSlots n images slots) k l → MayPutSlot l images slot
  next_slot n slot l at puts = record {
    placed = (may.each n slot at).placed;
    free = λ x has role.
        ap (λ (y : Kept). y.role) (puts.kept (place_of slot.address) (λ a lazy y is. let small : is.0 < n = is.2 in
        two_slots n is.0 slot.address a slot is.1 x y at is.3 (λ same. omega (arith, small, same)) has (subst (λ (b : ℕ). HasWord images b y) (sym is.4.2) is.4.0) refl is.4.2))
        ∙ (may.each n slot at).free x has role;
    one = (may.each n slot at).one;
    leads = λ x has role. stays_led x.value ((may.each n slot at).leads x has role);
  }
    where
      stays_led : (value : ℕ) → LeadsTo (kept_at k) value → LeadsTo (kept_at l) value
      stays_led value (inl none) = inl none
      stays_led value (inr (inside, rx)) = inr (
        inside,
        ap (λ (y : Kept). y.role) (puts.kept (place_of value) (λ a lazy x is same.
            let has : HasWord images is.1.address x = subst (λ (b : ℕ). HasWord images b x) (sym is.4.2) is.4.0 in
            let free : (kept_at k (place_of is.1.address)).role ≡ NoRole = (may.each is.0 is.1 is.3).free x has is.4.1 in
            let both : NoRole ≡ Rx = sym free ∙ ap (λ (d : ℕ). (kept_at k d).role) (ap place_of is.4.2 ∙ same) ∙ rx in cc)) ∙ rx,
      )

  pub slots_more : (n : ℕ) (slot : SlotWord) (l m : KeeperView) → slice_get slots n ≡ Some slot → Puts (OfFirstSlots n images slots) k l → Puts (OfSlot images slot) l m
      → Puts (OfFirstSlots (n + 1) images slots) k m
  slots_more n slot l m at one two =
      puts_then (OfFirstSlots n images slots) (OfSlot images slot) (OfFirstSlots (n + 1) images slots) k l m one two
      (λ a lazy x is. dite (ℕ_discrete is.0 n)
      (λ (same : is.0 ≡ n).
      let both : Some is.1 ≡ Some slot = sym is.3 ∙ ap (slice_get slots) same ∙ at in
      let same_slot : is.1 ≡ slot = cc in
      inr (subst (λ (s : SlotWord). OfSlot images s a lazy x) same_slot is.4))
      (λ (apart : is.0 ≢ n). let small : is.0 < n + 1 = is.2 in inl (is.0, is.1, (omega (arith, small, apart)), is.3, is.4)))
      (λ a lazy x is. ⊎_elim
      (λ (old : OfFirstSlots n images slots a lazy x). let small : old.0 < n = old.2 in (old.0, old.1, (omega (arith, small)), old.3, old.4))
      (λ (new : OfSlot images slot a lazy x). (n, slot, (omega arith), at, new))
      is)
      (λ a lazy x b other y old new. let small : old.0 < n = old.2 in
      two_slots old.0 n a b old.1 slot x y old.3 at (λ same. omega (arith, small, same)) (subst (λ (c : ℕ). HasWord images c x) (sym old.4.2) old.4.0)
      (subst (λ (c : ℕ). HasWord images c y) (sym new.2) new.0) old.4.2 new.2)

pub all_slots : (n : ℕ) (images : List Image) (slots : List SlotWord) (k l : KeeperView) → length slots ≤ n → Puts (OfFirstSlots n images slots) k l → Puts (OfSlots images slots) k l
all_slots n images slots k l past puts =
    puts_same (OfFirstSlots n images slots) (OfSlots images slots) k l
    (λ a lazy x is. let inside : is.0 < length slots = slice_get_within slots is.0 is.1 is.2 in (is.0, is.1, (omega (arith, inside, past)), is.2, is.3))
    (λ a lazy x is. (is.0, is.1, is.3, is.4)) puts

-- ---- where a word is looked for

-- an image more that hasn't it
pub not_there : (images : List Image) (n : ℕ) (image : Image) (a : ℕ) → slice_get images n ≡ Some image → ((i j : ℕ) (x : Word) → i < n → IsWordAt images i j a x → ⊥)
    → ((j : ℕ) (x : Word) → slice_get image.words j ≡ Some x → a ≢ image.start + 8 * j) → (i j : ℕ) (x : Word) → i < n + 1 → IsWordAt images i j a x → ⊥
not_there images n image a there front none i j x low is = dite (ℕ_discrete i n)
    (λ (same : i ≡ n).
    let both : Some is.image ≡ Some image = sym is.there ∙ ap (slice_get images) same ∙ there in
    let same_image : is.image ≡ image = cc in
    none j x (subst (λ (m : Image). slice_get m.words j ≡ Some x) same_image is.at) (is.is ∙ ap (λ (m : Image). m.start + 8 * j) same_image))
    (λ (apart : i ≢ n). front i j x (omega (arith, low, apart)) is)
