-- The example is an object that an image may be made of, and its bindings are bindings of it.
use Rattle.std.proofs.Common.{◌≡◌, ℕ, zero, suc, ◌+◌, ◌%◌, ◌≤◌, ◌==◌, ◌&&◌, ◌||◌, not, Bool, IsTrue, true, false, nat_le, nat_lt, List, [], ◌∷◌, length, min, Some, refl, arith, inl, inr, lit<, lit≤}
use Rattle.std.proofs.lemmas.Bool.{and_from, and_parts, eqb-true, leb-true, lt-ltb, not-true, or_cases, both_ways}
use Rattle.std.specs.List.{All, AllPairs, list_all, slice_get}
use Rattle.ld_base.specs.declared.object.Reloc.{Reloc}
use Rattle.ld_base.specs.declared.object.Span.{Span}
use Rattle.seg_image.specs.Accepted.{Accepted, AreApart, IsPlace, IsReloc, IsSegment, IsWritable, named, named_by, symbol_size}
use Rattle.seg_image.specs.Pages.{IsPlaced, end_of, guest_address, high_of, low_of, pages_of, start_of}
use Rattle.relocator.specs.declared.binding.Binding.{Binding}
use Rattle.relocator.specs.Bindings.{AreBindings, IsBinding, is_copy, relas_of, slots_of}
use Rattle.relocator.specs.Example.{data_segment, defined, example, example_base, example_bindings, own, undefined}

module _ {X : Type 0} where
  -- each element passes a test that shows the fact
  all_tested : (test : X → Bool) (P : X → Type 0) → ((x : X) → test x ≡ true → P x) → (xs : List X) → list_all test xs ≡ true → All P xs
  all_tested test P sound [] passes k d less = absurd (omega arith)
  all_tested test P sound (x ∷ xs) passes zero d less = sound x (and_parts (test x) (list_all test xs) passes).0
  all_tested test P sound (x ∷ xs) passes (suc k) d less = all_tested test P sound xs (and_parts (test x) (list_all test xs) passes).1 k d (omega arith)

  -- so do each two
  each_two : (X → X → Bool) → List X → Bool
  each_two test [] = true
  each_two test (x ∷ xs) = list_all (test x) xs && each_two test xs

  pairs_tested : (test : X → X → Bool) (R : X → X → Type 0) → ((x y : X) → test x y ≡ true → R x y) → (xs : List X) → each_two test xs ≡ true → AllPairs R xs
  unfolding each_two
  pairs_tested test R sound [] passes i j d less within = absurd (omega arith)
  pairs_tested test R sound (x ∷ xs) passes i zero d less within = absurd (omega arith)
  pairs_tested test R sound (x ∷ xs) passes zero (suc j) d less within = all_tested (test x) (R x) (sound x) xs (and_parts (list_all (test x) xs) (each_two test xs) passes).0 j d (omega arith)
  pairs_tested test R sound (x ∷ xs) passes (suc i) (suc j) d less within = pairs_tested test R sound xs (and_parts (list_all (test x) xs) (each_two test xs) passes).1 i j d (omega arith) (omega arith)

-- ---- ranges and places

meets : Span → Span → Bool
meets a b = nat_lt 0 a.size && (nat_lt 0 b.size && (nat_lt a.start (b.start + b.size) && nat_lt b.start (a.start + a.size)))

apart_sound : (a b : Span) → not (meets a b) ≡ true → AreApart a b
unfolding meets
apart_sound a b passes some any first second =
    both_ways (meets a b) (not-true (meets a b) passes)
    (and_from (nat_lt 0 a.size) _ (lt-ltb 0 a.size some) (and_from (nat_lt 0 b.size) _ (lt-ltb 0 b.size any)
    (and_from (nat_lt a.start (b.start + b.size)) _ (lt-ltb a.start (b.start + b.size) first) (lt-ltb b.start (a.start + a.size) second))))

in_data : Span → Bool
in_data s = nat_le 0x3000 s.start && nat_le (s.start + s.size) 0x3090

writable_sound : (s : Span) → in_data s ≡ true → IsWritable example s
unfolding in_data
writable_sound s passes =
    let range = and_parts (nat_le 0x3000 s.start) (nat_le (s.start + s.size) 0x3090) passes in
    record { segment = data_segment; at = 1; is = refl; writable = refl; low = leb-true 0x3000 s.start range.0; high = leb-true (s.start + s.size) 0x3090 range.1 }

is_place : ℕ → Bool
is_place v = v % 8 == 0 && in_data (record { start = v; size = 8 })

place_sound : (v : ℕ) → is_place v ≡ true → IsPlace example v
unfolding is_place
place_sound v passes =
    let both = and_parts (v % 8 == 0) (in_data (record { start = v; size = 8 })) passes in
    record { aligned = eqb-true (v % 8) 0 both.0; writable = writable_sound (record { start = v; size = 8 }) both.1 }

is_reloc : Reloc → Bool
is_reloc r = (r.kind == 0 || r.kind == 4 || is_place r.place) && (not (r.kind == 4) || in_data (named_by example r))

reloc_sound : (r : Reloc) → is_reloc r ≡ true → IsReloc example r
unfolding is_reloc
reloc_sound r passes =
    let both = and_parts (r.kind == 0 || r.kind == 4 || is_place r.place) (not (r.kind == 4) || in_data (named_by example r)) passes in
    record {
      place = λ fills. place_sound r.place (rw (not-true (r.kind == 0 || r.kind == 4) fills) at both.0);
      copy = λ copy some. elim (or_cases (not (r.kind == 4)) (in_data (named_by example r)) both.1) [
        | inl other ↦ absurd (both_ways (r.kind == 4) (not-true (r.kind == 4) other) copy)
        | inr inside ↦ writable_sound (named_by example r) inside
      ];
    }

-- ---- the object

code_and_data : All IsSegment example.segments
code_and_data zero d less = record { memory = lit< tt; low = lit≤ tt; bytes = lit≤ tt; closed = λ writable executable. absurd cc }
code_and_data (suc zero) d less = record { memory = lit< tt; low = lit≤ tt; bytes = lit≤ tt; closed = λ writable executable. absurd cc }
code_and_data (suc (suc k)) d less = absurd (omega arith)

in_order : AllPairs (λ g h. end_of g ≤ start_of h) example.segments
in_order zero zero d less within = absurd (omega arith)
in_order zero (suc zero) d less within = lit≤ tt
in_order (suc i) (suc zero) d less within = absurd (omega arith)
in_order i (suc (suc j)) d less within = absurd (omega arith)
in_order (suc i) zero d less within = absurd (omega arith)

pub example_accepted : Accepted example
unfolding named each_two meets in_data is_place is_reloc
example_accepted = record {
  some = lit< tt;
  segments = code_and_data;
  ordered = in_order;
  relocs = all_tested is_reloc (IsReloc example) reloc_sound example.relocs refl;
  packed = all_tested is_place (IsPlace example) place_sound example.relr refl;
  slots = all_tested (λ r. is_place r.place) (λ r. IsPlace example r.place) (λ r. place_sound r.place) example.plt_relocs refl;
  apart = pairs_tested (λ a b. not (meets a b)) AreApart apart_sound (named example) refl;
  table = λ _. (
    0x3000,
    refl,
    record {
      first = place_sound 0x3000 refl;
      second = place_sound 0x3008 refl;
      apart = all_tested (λ b. not (meets (record { start = 0x3000; size = 16 }) b)) (AreApart (record { start = 0x3000; size = 16 })) (apart_sound (record { start = 0x3000; size = 16 })) (named example) refl;
    },
  );
}

pub example_placed : IsPlaced example example_base
unfolding guest_address low_of high_of pages_of
example_placed = record { aligned = refl; low = lit≤ tt; high = lit≤ tt }

-- ---- its bindings

-- what holds of each pair holds of that of an index
module _ (P : Reloc → Binding → Type 0) where
  AllOf : List (Reloc × Binding) → Type 0
  AllOf [] = Unit {0}
  AllOf (x ∷ xs) = P x.0 x.1 × AllOf xs

  of_all : (xs : List (Reloc × Binding)) → AllOf xs → (k : ℕ) (r : Reloc) (b : Binding) → slice_get xs k ≡ Some (r, b) → P r b
  unfolding AllOf
  of_all [] all k r b at = absurd cc
  of_all (x ∷ xs) all zero r b at = let first : x.0 ≡ r = cc in let second : x.1 ≡ b = cc in rw (first, second) at all.0
  of_all (x ∷ xs) all (suc k) r b at = of_all xs all.1 k r b at

defined_is : (r : Reloc) (value size : ℕ) (copied : List ℕ) → (is_copy r ≡ true → length copied ≡ min (symbol_size example r) size) → IsBinding example r (defined value size copied)
defined_is r value size copied fits = record { found = λ missing. cc; object = refl; weak = λ weak. absurd cc; copied = fits }

undefined_is : (r : Reloc) → is_copy r ≡ false → IsBinding example r undefined
undefined_is r other = record { found = λ missing. cc; object = refl; weak = λ weak. (refl, refl); copied = λ copy. absurd (both_ways (is_copy r) other copy) }

own_is : (r : Reloc) → is_copy r ≡ false → IsBinding example r own
own_is r other = record { found = λ missing. cc; object = refl; weak = λ weak. absurd cc; copied = λ copy. absurd (both_ways (is_copy r) other copy) }

no_copy : {A : Type 0} → false ≡ true → A
no_copy e = absurd cc

pub example_bound : AreBindings example example_bindings
unfolding AllOf
example_bound = record {
  count = refl;
  relas = of_all (IsBinding example) (relas_of example example_bindings) (
    defined_is _ 0x40000 8 [] no_copy,
    (
      undefined_is _ refl,
      (
        defined_is _ 0x10 8 [] no_copy,
        (
          defined_is _ 0x10 8 [] no_copy,
          (
            own_is _ refl,
            (
              defined_is _ 0x40020 3 (0xaa ∷ 0xbb ∷ 0xcc ∷ []) (λ copy. refl),
              (
                undefined_is _ refl,
                (
                  undefined_is _ refl,
                  (
                    undefined_is _ refl,
                    (
                      defined_is _ 0xffffffffffffffff 8 [] no_copy,
                      tt,
                    ),
                  ),
                ),
              ),
            ),
          ),
        ),
      ),
    ),
  );
  slots = of_all (λ r b. IsTrue b.bound → IsBinding example r b) (slots_of example example_bindings) (no_copy, ((λ bound. defined_is _ 0x45678 8 [] no_copy), tt));
}
