-- The copies of the program.
use Rattle.std.proofs.Common.{◌≡◌, ◌≢◌, ℕ, zero, suc, ◌+◌, ◌*◌, ◌/◌, ◌%◌, ◌^◌, ◌<◌, Bool, true, false, not, ◌&&◌, ◌||◌, List, [], ◌∷◌, ◌++◌, map, Option, Some, None, refl, sym, ap, subst, ◌∙◌, arith}
use Rattle.std.specs.Prelude.{◌==◌, if◌then◌else◌, min}
use Rattle.std.specs.List.{Contains, filter, find, range_with_len, slice_get}
use Rattle.std.specs.Option.{option_map, option_map_or}
use Rattle.std.proofs.lemmas.Bool.{eq-eqb, ne_eqb, true≢false}
use Rattle.ld_base.specs.declared.linking.Choice.{Choice}
use Rattle.ld_base.specs.declared.linking.Choice.TheVariants.{Def, WeakZero, Missing}
use Rattle.ld_base.specs.declared.linking.Loaded.{Loaded}
use Rattle.ld_base.specs.declared.object.Object.{Object}
use Rattle.ld_base.specs.declared.object.Reloc.{Reloc}
use Rattle.ld_base.specs.declared.object.Symbol.{Symbol}
use Rattle.ld_base.specs.Symbol.{is_weak}
use Rattle.history_state.specs.Bound.{bytes_from, copied_of, copies_made, settled_byte}
use Rattle.history_state.specs.State.{Linked}
use Rattle.history_state.specs.Lemmas.Lazy.{PageLaws}
use Rattle.history_state.specs.Lemmas.Lists.{found_in, from_filter, here, later}
use Rattle.link_images.specs.ImageReads.Reads.{byte_within, bytes_within}
use Rattle.link_open_images.specs.ObjectBindings.Bindings.{Copies, binding_in, bindings_in, copies_from, none_copied, plain_byte, rela_binding, size_in, slot_binding, value_in}
use Rattle.relocator.specs.Bindings.{chosen, is_copy}
use Rattle.relocator.specs.Relocated.{image_byte, settled_word}
use Rattle.relocator.specs.declared.binding.Binding.{Binding}
use Rattle.relocator.specs.declared.binding.ModulePlace.{ModulePlace}
use Rattle.scope_rule.specs.Choose.{choice_of, choose_for, first_with, is_own, pick_at, searched, want_of}
use Rattle.scope_rule.specs.Loading.{with_serial}
use Rattle.scope_rule.specs.Relocation.{choice_at, has_no_symbol}
use Rattle.scope_rule.specs.Scope.{scope}
use Rattle.scope_rule.specs.Seen.{Seen}
use Rattle.seg_image.specs.Accepted.{Accepted, symbol_size}
use Rattle.seg_image.specs.Pages.{own_address}
use Rattle.seg_image.specs.Words.{byte_of}
use Rattle.link_open_laws.proofs.Outside.{plain_within}
use Rattle.link_open_images.specs.Lemmas.Plain.{AllPlain}

-- ---- a copy is of another object

first_in : (pick : ℕ → Option ℕ) (list : List ℕ) (serial index : ℕ) → let found : ℕ × ℕ = (serial, index) in first_with pick list ≡ Some found → Contains list serial
first_in pick [] serial index e = absurd cc
first_in pick (s ∷ rest) serial index e = by (pick s) e (λ more. first_in pick rest serial index more)
  where
    by : (found : Option ℕ) → let both : ℕ × ℕ = (serial, index) in (elim found [ Some i ↦ (let one : ℕ × ℕ = (s, i) in Some one) | None ↦ first_with pick rest ]) ≡ Some both
        → (first_with pick rest ≡ Some both → Contains rest serial) → Contains (s ∷ rest) serial
    by (Some i) e again =
        let same : (let one : ℕ × ℕ = (s, i) in let two : ℕ × ℕ = (serial, index) in one ≡ two) = cc in
        let first : s ≡ serial = ap (λ (p : ℕ × ℕ). p.0) same in
        subst (λ (n : ℕ). Contains (s ∷ rest) n) first (here s rest)
    by None e again = later s rest serial (again e)

elsewhere : (ns : Seen) (o : Loaded) (r : Reloc) (d index : ℕ) → r.kind ≡ 4 → r.symbol ≢ 0 → choice_at ns o r ≡ Def d index → d ≢ o.serial
unfolding choice_at choose_for
elsewhere ns o r d index copy named chose = by (has_no_symbol r) (symbols r.kind copy) (r.symbol == 0) (ne_eqb r.symbol 0 named) (is_copy r) (eq-eqb r.kind 4 copy) (slice_get o.object.symbols r.symbol) chose
  where
    symbols : (k : ℕ) → k ≡ 4 → (k == 0 || k == 3) ≡ false
    symbols k is = subst (λ (n : ℕ). (n == 0 || n == 3) ≡ false) (sym is) refl

    found : (s : Symbol) (m : Option (ℕ × ℕ)) → first_with (pick_at ns s.name (want_of o.object s)) (filter (λ serial. not (serial == o.serial)) (scope ns o)) ≡ m → choice_of s m ≡ Def d index → d ≢ o.serial
    found s None is e = absurd (weak (is_weak s) e)
      where
        weak : (b : Bool) → (if b then WeakZero else Missing) ≡ Def d index → ⊥
        weak true e = let x : WeakZero ≡ Def d index = e in cc
        weak false e = let x : Missing ≡ Def d index = e in cc
    found s (Some m) is e =
        let serial : m.0 ≡ d = cc in
        let inside = first_in (pick_at ns s.name (want_of o.object s)) (filter (λ n. not (n == o.serial)) (scope ns o)) m.0 m.1 is in
        let kept = from_filter (λ n. not (n == o.serial)) (scope ns o) m.0 inside in
        λ same. true≢false (sym kept.1 ∙ ap not (eq-eqb m.0 o.serial (serial ∙ same)))

    by : (a : Bool) → a ≡ false → (b : Bool) → b ≡ false → (c : Bool) → c ≡ true → (symbol : Option Symbol)
        → (if a then WeakZero else if b then Def o.serial 0 else elim symbol [
          | Some s ↦ (if not c && is_own s then Def o.serial r.symbol else choice_of s (first_with (pick_at ns s.name (want_of o.object s)) (searched ns o c)))
          | None ↦ Missing
        ]) ≡ Def d index → d ≢ o.serial
    by true e b f c g symbol is = absurd (true≢false e)
    by false e true f c g symbol is = absurd (true≢false f)
    by false e false f false g symbol is = absurd (true≢false (sym g))
    by false e false f true g None is = absurd (let x : Missing ≡ Def d index = is in cc)
    by false e false f true g (Some s) is = found s (first_with (pick_at ns s.name (want_of o.object s)) (filter (λ serial. not (serial == o.serial)) (scope ns o))) refl is

-- ---- where its bytes are

find_made : (made : Loaded → Linked) → ((x : Loaded) → (made x).serial ≡ x.serial) → (d : ℕ) (objects : List Loaded) → find (λ m. m.serial == d) (map made objects) ≡ option_map made (with_serial objects d)
find_made made same d [] = refl
find_made made same d (x ∷ objects) =
    ap (λ (n : ℕ). if n == d then Some (made x) else find (λ m. m.serial == d) (map made objects)) (same x) ∙ by (x.serial == d) (find_made made same d objects)
  where
    by : (b : Bool) → find (λ m. m.serial == d) (map made objects) ≡ option_map made (with_serial objects d)
        → (if b then Some (made x) else find (λ m. m.serial == d) (map made objects)) ≡ option_map made (if b then Some x else with_serial objects d)
    by true e = refl
    by false e = e

own_more : (base a i : ℕ) → base < 2 ^ 64 → own_address base (a + i) ≡ (own_address base a + i) % 2 ^ 64
unfolding own_address
own_more base a i small = omega (arith, small)

-- the bytes of an object without copies
bytes_same : (pages : PageLaws) (m : Linked) (a count : ℕ) → Accepted m.object → m.base < 2 ^ 64 → AllPlain m.bindings
    → map (λ i. settled_byte m (a + i)) (range_with_len 0 count) ≡ bytes_within m.object (image_byte m.object m.base m.serial m.bindings m.places) (own_address m.base a) count
bytes_same pages m a count accepted small plain = go 0 count
  where
    each : (i : ℕ) → settled_byte m (a + i) ≡ byte_within m.object (image_byte m.object m.base m.serial m.bindings m.places) ((own_address m.base a + i) % 2 ^ 64)
    each i =
        ap (λ (v : ℕ). byte_of (settled_word m.object m.base m.serial m.bindings m.places (v / 8 * 8)) v) (own_more m.base a i small)
        ∙ sym (plain_within pages m.object accepted m.base m.serial m.bindings m.places plain ((own_address m.base a + i) % 2 ^ 64))

    go : (from n : ℕ) → map (λ i. settled_byte m (a + i)) (range_with_len from n)
        ≡ map (λ k. byte_within m.object (image_byte m.object m.base m.serial m.bindings m.places) ((own_address m.base a + k) % 2 ^ 64)) (range_with_len from n)
    go from zero = refl
    go from (suc n) = rw (each from, go (from + 1) n)

-- ---- all bindings

copies_mapped : (images : List Linked) (o : Object) (f : Reloc → Binding) (relocs : List Reloc) (rest : List Binding)
    → copies_made images o relocs (map f relocs ++ rest) ≡ map (λ r. copied_of images o r (f r)) relocs ++ rest
copies_mapped images o f [] rest = refl
copies_mapped images o f (r ∷ relocs) rest = ap (λ (bs : List Binding). copied_of images o r (f r) ∷ bs) (copies_mapped images o f relocs rest)

map_same_in : {X Y : Type 0} (f g : X → Y) (xs : List X) → ((x : X) → Contains xs x → f x ≡ g x) → map f xs ≡ map g xs
map_same_in f g [] same = refl
map_same_in {X} {Y} f g (x ∷ xs) same =
    ap (λ (y : Y). y ∷ map f xs) (same x (here x xs)) ∙ ap (λ (ys : List Y). g x ∷ ys) (map_same_in f g xs (λ z inside. same z (later x xs z inside)))

copy_one : (images : List Linked) (bytes : Copies) (ns : Seen) (o : Loaded) (r : Reloc)
    → (is_copy r ≡ true → bytes_from images (chosen (choice_at ns o r)) (value_in ns r (choice_at ns o r)) (min (symbol_size o.object r) (size_in ns (choice_at ns o r)))
    ≡ bytes (chosen (choice_at ns o r)) (value_in ns r (choice_at ns o r)) (min (symbol_size o.object r) (size_in ns (choice_at ns o r))))
    → copied_of images o.object r (rela_binding none_copied ns o r) ≡ rela_binding bytes ns o r
copy_one images bytes ns o r same = by (is_copy r) same
  where
    by : (b : Bool)
        → (b ≡ true → bytes_from images (chosen (choice_at ns o r)) (value_in ns r (choice_at ns o r)) (min (symbol_size o.object r) (size_in ns (choice_at ns o r)))
        ≡ bytes (chosen (choice_at ns o r)) (value_in ns r (choice_at ns o r)) (min (symbol_size o.object r) (size_in ns (choice_at ns o r))))
        → let x : Binding = if b then record (binding_in ns r (choice_at ns o r)) { copied = [] } else binding_in ns r (choice_at ns o r) in
        (if b then record x { copied = bytes_from images x.object x.value (min (symbol_size o.object r) x.size) } else x)
        ≡ (if b then record (binding_in ns r (choice_at ns o r)) {
          copied = bytes (chosen (choice_at ns o r)) (value_in ns r (choice_at ns o r)) (min (symbol_size o.object r) (size_in ns (choice_at ns o r)));
        } else binding_in ns r (choice_at ns o r))
    by true h = ap (λ (bs : List ℕ). record (binding_in ns r (choice_at ns o r)) { copied = bs }) (h refl)
    by false h = refl

-- the bindings of an object, with its copies
pub copied_bindings : (images : List Linked) (bytes : Copies) (ns : Seen) (now : Bool) (o : Loaded) (bindings : List Binding) → bindings ≡ bindings_in none_copied ns now o
    → ((r : Reloc) → Contains o.object.relocs r → is_copy r ≡ true
    → bytes_from images (chosen (choice_at ns o r)) (value_in ns r (choice_at ns o r)) (min (symbol_size o.object r) (size_in ns (choice_at ns o r)))
    ≡ bytes (chosen (choice_at ns o r)) (value_in ns r (choice_at ns o r)) (min (symbol_size o.object r) (size_in ns (choice_at ns o r))))
    → copies_made images o.object o.object.relocs bindings ≡ bindings_in bytes ns now o
unfolding bindings_in
copied_bindings images bytes ns now o bindings are same =
    ap (copies_made images o.object o.object.relocs) are
    ∙ copies_mapped images o.object (rela_binding none_copied ns o) o.object.relocs (map (slot_binding ns now o) o.object.plt_relocs)
    ∙ ap (λ (bs : List Binding). bs ++ map (slot_binding ns now o) o.object.plt_relocs)
    (map_same_in (λ r. copied_of images o.object r (rela_binding none_copied ns o r)) (rela_binding bytes ns o) o.object.relocs (λ r inside. copy_one images bytes ns o r (same r inside)))

-- the bytes that the first object's copy takes: of the image of one of the others
pub first_copies : (pages : PageLaws) (ns : Seen) (now : Bool) (places : List ModulePlace) (made : Loaded → Linked) (first : Loaded) (rest : List Loaded) (r : Reloc)
    → ((x : Loaded) → (made x).serial ≡ x.serial) → ((x : Loaded) → Contains rest x → made x ≡ record { serial = x.serial; object = x.object; base = x.base; bindings = bindings_in none_copied ns now x; places = places })
    → ((x : Loaded) → Contains rest x → Accepted x.object) → ((x : Loaded) → Contains rest x → x.base < 2 ^ 64) → ((x : Loaded) → AllPlain (bindings_in none_copied ns now x))
    → r.kind ≡ 4 → r.symbol ≢ 0 → (a count : ℕ)
    → bytes_from (map made (first ∷ rest)) (chosen (choice_at ns first r)) a count ≡ copies_from ns now places rest (chosen (choice_at ns first r)) a count
first_copies pages ns now places made first rest r serials are accepted small plain copy named a count = by (choice_at ns first r) refl
  where
    taken : (d : ℕ) (found : Option Loaded) → with_serial rest d ≡ found
        → option_map_or (λ m. map (λ i. settled_byte m (a + i)) (range_with_len 0 count)) (option_map made found) []
        ≡ option_map_or (λ o. bytes_within o.object (plain_byte ns now places o) (own_address o.base a) count) found []
    taken d None is = refl
    taken d (Some x) is =
        let inside : Contains rest x = (found_in (λ (q : Loaded). q.serial == d) rest x is).0 in
        let m : Linked = record { serial = x.serial; object = x.object; base = x.base; bindings = bindings_in none_copied ns now x; places = places } in
        ap (λ (i : Linked). map (λ k. settled_byte i (a + k)) (range_with_len 0 count)) (are x inside) ∙ bytes_same pages m a count (accepted x inside) (small x inside) (plain x)

    by : (c : Choice) → choice_at ns first r ≡ c → bytes_from (map made (first ∷ rest)) (chosen c) a count ≡ copies_from ns now places rest (chosen c) a count
    by WeakZero is = refl
    by Missing is = refl
    by (Def d index) is =
        let other : d ≢ first.serial = elsewhere ns first r d index copy named is in
        let skipped : find (λ m. m.serial == d) (map made (first ∷ rest)) ≡ option_map made (with_serial rest d) =
        find_made made serials d (first ∷ rest)
        ∙ ap (λ (b : Bool). option_map made (if b then Some first else with_serial rest d)) (ne_eqb first.serial d (λ same. other (sym same))) in
        ap (λ (found : Option Linked). option_map_or (λ m. map (λ i. settled_byte m (a + i)) (range_with_len 0 count)) found []) skipped ∙ taken d (with_serial rest d) refl
