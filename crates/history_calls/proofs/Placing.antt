-- New objects have their modules, and there is room for what is wanted or there isn't.
use Rattle.std.proofs.Common.{◌≡◌, ◌⊎◌, inl, inr, ⊎_elim, ℕ, zero, suc, ◌+◌, ◌-◌, ◌*◌, ◌%◌, ◌<◌, ◌≤◌, ◌==◌, ◌&&◌, Bool, true, false, not, eqb, List, [], ◌∷◌, ◌++◌, map, Option, Some, None, refl, sym, ap, subst, ◌∙◌, arith}
use Rattle.std.specs.Prelude.{if◌then◌else◌, nat_le}
use Rattle.std.specs.List.{Contains, list_any}
use Rattle.std.proofs.Math.Nat.{add-mul-mod_self_left, mod-eq_of_lt, mod-lt, mul-le-mul_right, zero-mod}
use Rattle.std.proofs.lemmas.Bool.{and_from, and_parts, cases_lt, eq-eqb, eqb-true, le-leb, leb-true, not-true, true≢false}
use Rattle.address_space.specs.Pages.{AllFree, Fits, IsFirstFit, without}
use Rattle.ld_base.specs.declared.linking.Loaded.{Loaded}
use Rattle.ld_base.specs.declared.linking.TlsPlace.{TlsPlace}
use Rattle.ld_base.specs.declared.object.TlsSeg.{TlsSeg}
use Rattle.history_event.specs.declared.event.Range.{Range}
use Rattle.history_event.specs.declared.state.Module.{Module}
use Rattle.seg_image.specs.Pages.{low_of, own_address}
use Rattle.tls_blocks.specs.Numbers.{IsLeastFree, IsTaken}
use Rattle.tls_blocks.specs.Places.{IsOffset, alignment_of, tp_with}
use Rattle.history_state.specs.State.{Statics}
use Rattle.history_state.specs.Areas.{Area, AreBased, AreGiven, HasNoRoom, LacksRoom, StandsAt, Where, anywhere, object_area, only}
use Rattle.history_state.specs.Opening.{unplaced}
use Rattle.history_state.specs.Storage.{HaveModules, IsPlaceOf, IsStaticOffset, statics_with_one, with_place}
use Rattle.history_state.specs.Lemmas.Lists.{any_in, first_or_later, in_any, none_in}
use Rattle.history_calls.proofs.Decide.{Decided, all_free, first_fit}
use Rattle.history_calls.specs.Lemmas.Stored.{unbased}

-- ---- the least number

module _ (p : ℕ → Bool) where
  abbrev IsLeast : ℕ → Type 0
  IsLeast a = (p a ≡ true) × ((x : ℕ) → x < a → p x ≡ false)

  -- of those below a bound
  pub least_below : (n : ℕ) → ((a : ℕ) × (a < n) × IsLeast a) ⊎ ((x : ℕ) → x < n → p x ≡ false)
  least_below zero = inr (λ x low. absurd (omega (arith, low)))
  least_below (suc n) = by (least_below n) (p n) refl
    where
      wider : (a : ℕ) → a < n → a < suc n
      wider a low = omega (arith, low)

      last : ((x : ℕ) → x < n → p x ≡ false) → p n ≡ false → (x : ℕ) → x < suc n → p x ≡ false
      last none own x low = at (eqb x n) refl
        where
          below : (x ≡ n → ⊥) → x < n
          below other = omega (arith, low, other)

          at : (t : Bool) → eqb x n ≡ t → p x ≡ false
          at true e = subst (λ (k : ℕ). p k ≡ false) (sym (eqb-true x n e)) own
          at false e = none x (below (λ (same : x ≡ n). true≢false (sym (eq-eqb x n same) ∙ e)))

      by : ((a : ℕ) × (a < n) × IsLeast a) ⊎ ((x : ℕ) → x < n → p x ≡ false) → (t : Bool) → p n ≡ t → ((a : ℕ) × (a < suc n) × IsLeast a) ⊎ ((x : ℕ) → x < suc n → p x ≡ false)
      by (inl found) t e = inl (found.0, wider found.0 found.1, found.2)
      by (inr none) true e = inl (n, omega arith, (e, none))
      by (inr none) false e = inr (last none e)

  -- where there is one
  pub least : (n : ℕ) → p n ≡ true → (a : ℕ) × IsLeast a
  least n holds = ⊎_elim
      (λ (found : (a : ℕ) × (a < suc n) × IsLeast a). (found.0, found.2))
      (λ (none : (x : ℕ) → x < suc n → p x ≡ false). absurd (true≢false (sym holds ∙ none n (omega arith))))
      (least_below (suc n))

-- ---- a module's number

is_number : List Module → ℕ → Bool
is_number modules n = list_any (λ m. m.number == n) modules

total : List Module → ℕ
total [] = 0
total (m ∷ rest) = m.number + total rest

within_total : (modules : List Module) (m : Module) → Contains modules m → m.number ≤ total modules
unfolding total
within_total [] m h = absurd (none_in m h)
within_total (x ∷ rest) m h = ⊎_elim
    (λ (e : x ≡ m). let same : x.number ≡ m.number = ap (λ (k : Module). k.number) e in omega (arith, same))
    (λ (i : Contains rest m). let less = within_total rest m i in omega (arith, less))
    (first_or_later x rest m h)

taken : (modules : List Module) (n : ℕ) → is_number modules n ≡ true → IsTaken modules n
unfolding is_number
taken modules n e = let at = any_in (λ (m : Module). m.number == n) modules e in (at.0, at.1, eqb-true at.0.number n at.2)

not_taken : (modules : List Module) (n : ℕ) → is_number modules n ≡ false → IsTaken modules n → ⊥
unfolding is_number
not_taken modules n e t = true≢false (sym (in_any (λ (m : Module). m.number == n) modules t.0 t.1 (eq-eqb t.0.number n t.2)) ∙ e)

taken_below : (modules : List Module) (other : ℕ) → 1 ≤ other → (nat_le 1 other && not (is_number modules other)) ≡ false → IsTaken modules other
taken_below modules other some e = by (is_number modules other) refl
  where
    by : (t : Bool) → is_number modules other ≡ t → IsTaken modules other
    by true is = taken modules other is
    by false is = absurd (true≢false (sym (and_from _ _ (le-leb 1 other some) (ap not is)) ∙ e))

free_number : (modules : List Module) → (n : ℕ) × IsLeastFree modules n
free_number modules =
    let at = least (λ x. nat_le 1 x && not (is_number modules x)) (total modules + 1) (and_from _ _ (le-leb 1 (total modules + 1) (omega arith)) (ap not (past_all (is_number modules (total modules + 1)) refl))) in
    let parts = and_parts (nat_le 1 at.0) (not (is_number modules at.0)) at.1.0 in (
      at.0,
      record {
        positive = leb-true 1 at.0 parts.0;
        free = not_taken modules at.0 (not-true (is_number modules at.0) parts.1);
        least = λ other some below. taken_below modules other some (at.1.1 other below);
      },
    )
  where
    past_all : (t : Bool) → is_number modules (total modules + 1) ≡ t → is_number modules (total modules + 1) ≡ false
    past_all true e =
        let m = taken modules (total modules + 1) e in
        let low = within_total modules m.0 m.1 in
        let is : m.0.number ≡ total modules + 1 = m.2 in
        absurd (omega (arith, low, is))
    past_all false e = e

-- ---- a static offset

-- a number at or past another, of a residue
some_offset : (tp size al r : ℕ) → r < al → (x : ℕ) × (size ≤ x) × ((tp + x) % al ≡ r)
some_offset tp size al r less =
    let big : tp + size ≤ al * (tp + size) = most al (tp + size) (omega (arith, less)) in
    let x = r + al * (tp + size) - tp in
    let sum : tp + x ≡ r + al * (tp + size) = omega (arith, big) in
    (x, omega (arith, big), ap (λ n. n % al) sum ∙ add-mul-mod_self_left r al (tp + size) ∙ mod-eq_of_lt less)
  where
    most : (a n : ℕ) → 1 ≤ a → n ≤ a * n
    most a n some = let h : 1 * n ≤ a * n = mul-le-mul_right n some in omega (arith, h)

static_offset : (tp size : ℕ) (seg : TlsSeg) → (offset : ℕ) × IsOffset tp size seg offset
static_offset tp size seg =
    let some = some_offset tp size (alignment_of seg) (seg.vaddr % alignment_of seg) (mod-lt seg.vaddr (aligned seg)) in
    let at = least (λ x. nat_le size x && ((tp + x) % alignment_of seg == seg.vaddr % alignment_of seg)) some.0
    (and_from _ _ (le-leb size some.0 some.1) (eq-eqb ((tp + some.0) % alignment_of seg) (seg.vaddr % alignment_of seg) some.2)) in
    let parts = and_parts (nat_le size at.0) ((tp + at.0) % alignment_of seg == seg.vaddr % alignment_of seg) at.1.0 in (
      at.0,
      record {
        stands = record { behind = leb-true size at.0 parts.0; aligned = eqb-true ((tp + at.0) % alignment_of seg) (seg.vaddr % alignment_of seg) parts.1 };
        least = λ other may. ⊎_elim
            (λ (below : other < at.0). absurd (true≢false (sym (and_from _ _ (le-leb size other may.behind) (eq-eqb ((tp + other) % alignment_of seg) (seg.vaddr % alignment_of seg) may.aligned)) ∙ at.1.1 other below)))
            (λ (above : at.0 ≤ other). above)
            (cases_lt other at.0);
      },
    )
  where
    aligned : (seg : TlsSeg) → 0 < alignment_of seg
    aligned seg = by (seg.align == 0) refl
      where
        by : (t : Bool) → (seg.align == 0) ≡ t → 0 < (if t then 1 else seg.align)
        by true e = omega arith
        by false e = positive seg.align (λ (same : seg.align ≡ 0). true≢false (sym (eq-eqb seg.align 0 same) ∙ e))
          where
            positive : (n : ℕ) → (n ≡ 0 → ⊥) → 0 < n
            positive n some = omega (arith, some)

-- ---- the modules of new objects

its_offset : (startup : Bool) (st : Statics) (serial : ℕ) (seg : TlsSeg) → (offset : Option ℕ) × IsStaticOffset startup st serial seg offset
its_offset true st serial seg = let at = static_offset (tp_with serial seg st.tp) st.size seg in (Some at.0, at.1)
its_offset false st serial seg = (None, refl)

its_place : (startup : Bool) (modules : List Module) (st : Statics) (serial : ℕ) (seg : Option TlsSeg) → (place : Option TlsPlace) × IsPlaceOf startup modules st serial seg place
its_place startup modules st serial None = (None, tt)
its_place startup modules st serial (Some seg) =
    let number = free_number modules in
    let offset = its_offset startup st serial seg in
    (Some (record { number = number.0; offset = offset.0 }), (number.1, offset.1))

pub have_modules : (startup : Bool) (modules : List Module) (st : Statics) (news : List Loaded) → map unplaced news ≡ news → (added : List Loaded) × (map unplaced added ≡ news) × HaveModules startup modules st added
have_modules startup modules st [] plain = ([], refl, tt)
have_modules startup modules st (o ∷ rest) plain =
    let place = its_place startup modules st o.serial o.object.tls in
    let first : Loaded = record o { «module» = place.0 } in
    let head : unplaced o ≡ o = cc in
    let tail : map unplaced rest ≡ rest = cc in
    let more = have_modules startup (with_place first modules) (statics_with_one st o.serial o.object.tls place.0) rest tail in
    (first ∷ more.0, ap (λ q. q ∷ map unplaced more.0) head ∙ ap (λ qs. o ∷ qs) more.1, (place.1, more.2))

-- ---- room

-- no pages fit anywhere
no_pages : (free : List ℕ) (align : ℕ) → IsFirstFit free 0 align 0
no_pages free align = record { fits = record { aligned = zero-mod align; room = λ k less. absurd (omega (arith, less)) }; least = λ other f. omega arith }

fit : (free : List ℕ) (pages align : ℕ) → ((address : ℕ) × IsFirstFit free pages align address) ⊎ ((address : ℕ) → ¬ (Fits free pages align address))
fit free zero align = inl (0, no_pages free align)
fit free (suc pages) align = first_fit free (suc pages) align (omega arith)

stands : (free : List ℕ) (pages : ℕ) (place : Where) → ((address : ℕ) × StandsAt free pages place address) ⊎ HasNoRoom free pages place
stands free pages (anywhere align) = fit free pages align
stands free pages (only own) = by (all_free free own pages)
  where
    by : Decided (AllFree free own pages) → ((address : ℕ) × ((address ≡ own) × AllFree free address pages)) ⊎ ¬ (AllFree free own pages)
    by (inl all) = inl (own, (refl, all))
    by (inr none) = inr none

pub given_or_lacks : (free : List ℕ) (wanted : List Area) → ((ranges : List Range) × (left : List ℕ) × AreGiven free wanted ranges left) ⊎ ((pages : ℕ) × LacksRoom free wanted pages)
given_or_lacks free [] = inl ([], free, refl)
given_or_lacks free (area ∷ rest) = by (stands free area.pages area.place) (λ f. given_or_lacks f rest)
  where
    by : ((address : ℕ) × StandsAt free area.pages area.place address) ⊎ HasNoRoom free area.pages area.place
        → ((f : List ℕ) → ((ranges : List Range) × (left : List ℕ) × AreGiven f rest ranges left) ⊎ ((pages : ℕ) × LacksRoom f rest pages))
        → ((ranges : List Range) × (left : List ℕ) × AreGiven free (area ∷ rest) ranges left) ⊎ ((pages : ℕ) × LacksRoom free (area ∷ rest) pages)
    by (inl at) more = ⊎_elim
        (λ (g : (ranges : List Range) × (left : List ℕ) × AreGiven (without free at.0 area.pages) rest ranges left).
        inl (record { address = at.0; pages = area.pages; purpose = area.purpose } ∷ g.0, g.1, (record { pages = refl; purpose = refl; stands = at.1 }, g.2)))
        (λ (l : (pages : ℕ) × LacksRoom (without free at.0 area.pages) rest pages).
        inr (
          l.0,
          record {
            before = area ∷ l.1.before;
            area = l.1.area;
            rest = l.1.rest;
            are = ap (λ xs. area ∷ xs) l.1.are;
            ranges = record { address = at.0; pages = area.pages; purpose = area.purpose } ∷ l.1.ranges;
            left = l.1.left;
            given = (record { pages = refl; purpose = refl; stands = at.1 }, l.1.given);
            none = l.1.none;
            is = l.1.is;
          },
        ))
        (more (without free at.0 area.pages))
    by (inr none) more = inr (area.pages, record { before = []; area = area; rest = rest; are = refl; ranges = []; left = free; given = refl; none = none; is = refl })

-- ---- bases

-- objects at the bases that their pages give them
pub based : List Loaded → List Range → List Loaded
based [] ranges = []
based (o ∷ rest) [] = o ∷ rest
based (o ∷ rest) (r ∷ ranges) = record o { base = own_address (low_of o.object) r.address } ∷ based rest ranges

pub based_same : (added : List Loaded) (ranges : List Range) → map unbased (based added ranges) ≡ map unbased added
unfolding based
based_same [] ranges = refl
based_same (o ∷ rest) [] = refl
based_same (o ∷ rest) (r ∷ ranges) = ap (λ qs. unbased o ∷ qs) (based_same rest ranges)

pub based_unplaced : (added : List Loaded) (ranges : List Range) → map unplaced (based added ranges) ≡ map unplaced added
unfolding based
based_unplaced [] ranges = refl
based_unplaced (o ∷ rest) [] = refl
based_unplaced (o ∷ rest) (r ∷ ranges) = ap (λ qs. unplaced o ∷ qs) (based_unplaced rest ranges)

pub based_modules : (startup : Bool) (modules : List Module) (st : Statics) (added : List Loaded) (ranges : List Range) → HaveModules startup modules st added → HaveModules startup modules st (based added ranges)
unfolding based
based_modules startup modules st [] ranges have = tt
based_modules startup modules st (o ∷ rest) [] have = have
based_modules startup modules st (o ∷ rest) (r ∷ ranges) have =
    (have.0, based_modules startup (with_place o modules) (statics_with_one st o.serial o.object.tls o.«module») rest ranges have.1)

pub are_based : (free : List ℕ) (added : List Loaded) (others : List Area) (ranges : List Range) (left : List ℕ) → AreGiven free (map object_area added ++ others) ranges left → AreBased (based added ranges) ranges
unfolding based
are_based free [] others ranges left given = tt
are_based free (o ∷ rest) others [] left given = absurd given
are_based free (o ∷ rest) others (r ∷ ranges) left given = (refl, are_based (without free r.address r.pages) rest others ranges left given.1)
