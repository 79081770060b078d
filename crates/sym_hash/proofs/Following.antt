-- The links of a System V table, as they are followed, many at once, and as a relation.
use Rattle.std.proofs.Common.{◌≡◌, ◌≢◌, ◌∙◌, sym, ap, ℕ, zero, suc, ◌+◌, ◌-◌, ◌*◌, ◌/◌, ◌%◌, ◌^◌, ◌<◌, ◌≤◌, ◌==◌, min, Bool, false, List, length, map, refl}
use Rattle.std.proofs.Common.{arith, inl, inr, add-one, zero-add, Decides, Contains, Option, Some, None, slice_get, slice_index, true, get_or, ◌&&◌, not}
use Rattle.std.proofs.Common.{nat_le}
use Rattle.std.specs.Prelude.{unwrap_or}
use Rattle.std.specs.List.{list_all}
use Rattle.std.proofs.Math.Nat.{two-pow-succ}
use Rattle.std.proofs.Math.Path.{fun_ext}
use Rattle.std.proofs.Math.Pow.{pow_mono, pow_pos}
use Rattle.std.proofs.lemmas.Bool.{cases_Bool, cases_eq, cases_lt, eq-eqb, le-ltb, ne_eqb}
use Rattle.std.proofs.lemmas.Bool.Decides.{Decides-eqb, Decides-ltb}
use Rattle.std.proofs.lemmas.List.{length-map}
use Rattle.std.proofs.lemmas.Option.{get_or_from_slice_get, slice_get-get_or, slice_get-map, slice_get_past, slice_get_read, slice_get_within}
use Rattle.std.proofs.lemmas.Simd.{map-map}
use lib.Arith.{mod-mul}
use Rattle.ld_base.specs.Symbol.{is_visible_definition}
use Rattle.ld_base.specs.declared.object.Symbol.{Symbol}
use Rattle.ld_base.specs.declared.parts.SysvPart.{SysvPart}
use Rattle.elf_head.specs.AcceptancePart.Least.{least_below}
use Rattle.elf_head.specs.AcceptancePart.Lemmas.Leasts.{least_found, least_kept}
use Rattle.elf_head.specs.AcceptancePart.Lemmas.Tests.{both, contrary, means}
use Rattle.sym_hash.specs.Follow.{AreTrips, arrives, carried, follow, followed, leads_on, start_to, step, then_trip, trip, trip_from}
use Rattle.sym_hash.specs.Hash.{sysv_hash}
use Rattle.sym_hash.specs.Hashed.{first_lost, is_lost}
use Rattle.sym_hash.specs.Reached.{Leads, ReachedBySysv}
use Rattle.sym_hash.specs.Reached.Leads.{here, on}
use Rattle.sym_hash.specs.Sysv.{comes_to, sysv_bucket, sysv_leads, sysv_walks_end}
use Rattle.sym_hash.specs.declared.follow.Start.{Start}
use Rattle.sym_hash.specs.declared.follow.Trip.{Trip}
use Rattle.sym_hash.specs.declared.follow.Walk.{Walk}

add : (chain : List ℕ) (m k at : ℕ)
    → (follow chain (m + k) at ≡ follow chain k (follow chain m at)) × (followed chain (m + k) at ≡ followed chain m at + followed chain k (follow chain m at))
add chain zero k at = rw (zero-add k) (refl, omega arith)
add chain (suc m) k at =
    let more : suc m + k ≡ suc (m + k) = omega arith in
    rw more (let rest = add chain m k (step chain at) in (rest.0, omega (arith, rest.1)))

followed_few : (chain : List ℕ) (m at : ℕ) → followed chain m at ≤ m
followed_few chain zero at = omega arith
followed_few chain (suc m) at = let rest = followed_few chain m (step chain at) in grind arith

-- a walk that doesn't lead on stays
stays : (chain : List ℕ) (m at : ℕ) → leads_on chain at ≡ false → (follow chain m at ≡ at) × (followed chain m at ≡ 0)
stays chain zero at off = (refl, refl)
stays chain (suc m) at off = rw off (let rest = stays chain m at off in (rest.0, omega (arith, rest.1)))

outside : (chain : List ℕ) (at : ℕ) → length chain ≤ at → leads_on chain at ≡ false
outside chain at past = let test = le-ltb at (length chain) past in grind arith

-- a trip, and then another
then_is : (chain : List ℕ) (trips : List Trip) (m k at : ℕ) → AreTrips chain k trips → m + k ≤ 2 ^ 63
    → then_trip trips (trip chain m at) ≡ trip chain (m + k) at
then_is chain trips m k at are few =
    elim (cases_lt (follow chain m at) (length chain)) [
      | inl below ↦
          let first = followed_few chain m at in
          let second = followed_few chain k (follow chain m at) in
          let links : ℕ = followed chain m at + followed chain k (follow chain m at) in
          let small : min links 0xffff_ffff_ffff_ffff ≡ links = omega arith in
          rw (are.each (follow chain m at) below, small, (add chain m k at).0, (add chain m k at).1) refl
      | inr past ↦
          let stay = stays chain k (follow chain m at) (outside chain (follow chain m at) past) in
          let none : slice_get trips (follow chain m at) ≡ None = slice_get_past trips (follow chain m at) (let len = are.len in omega arith) in
          let same : followed chain m at + 0 ≡ followed chain m at = omega arith in
          rw (none, (add chain m k at).0, (add chain m k at).1, stay.0, stay.1, same) refl
    ]

-- twice as many links
pub double : (chain : List ℕ) (trips all : List Trip) (bit : ℕ) → AreTrips chain (2 ^ bit) trips → bit < 62
    → all ≡ map (then_trip trips) trips → AreTrips chain (2 ^ (bit + 1)) all
double chain trips all bit are few is =
    let twice : 2 ^ (bit + 1) ≡ 2 ^ bit + 2 ^ bit = rw add-one (two-pow-succ bit) in
    let low : 2 ^ (bit + 1) ≤ 2 ^ 63 = pow_mono {i = bit + 1} {j = 63} (omega arith) in
    rw (is, twice) (record {
      len = length-map trips (then_trip trips) ∙ are.len;
      each = λ at below. slice_get-map (then_trip trips) trips at
          ∙ rw (are.each at below) (ap Some (then_is chain trips (2 ^ bit) (2 ^ bit) at are (omega (arith, low, twice))));
    })

-- a walk whose steps are those of the bits so far
abbrev pub walked : List ℕ → ℕ → Start → Walk
walked chain bit s = record { trip = trip chain (s.steps % 2 ^ bit) s.from; steps = s.steps }

next_bit : (n bit : ℕ) → n % 2 ^ (bit + 1) ≡ n % 2 ^ bit + 2 ^ bit * (n / 2 ^ bit % 2)
next_bit n bit =
    let twice : 2 ^ (bit + 1) ≡ 2 * 2 ^ bit = rw add-one (two-pow-succ bit ∙ (omega arith)) in
    rw (twice, mod-mul n {m = 2} {c = 2 ^ bit} (omega arith) (pow_pos bit)) (omega arith)

carried_one : (chain : List ℕ) (trips : List Trip) (bit : ℕ) (s : Start) → AreTrips chain (2 ^ bit) trips → bit < 32
    → carried trips bit (walked chain bit s) ≡ walked chain (bit + 1) s
carried_one chain trips bit s are low =
    let small : 2 ^ bit ≤ 2 ^ 31 = pow_mono {i = bit} {j = 31} (omega arith) in
    let next = next_bit s.steps bit in
    elim (cases_eq (s.steps / 2 ^ bit % 2) 1) [
      | inl is ↦
          let count : s.steps % 2 ^ (bit + 1) ≡ s.steps % 2 ^ bit + 2 ^ bit = rw is at next ∙ (omega arith) in
          rw (eq-eqb _ 1 is, count, then_is chain trips (s.steps % 2 ^ bit) (2 ^ bit) s.from are (omega (arith, small, pow_pos bit))) refl
      | inr other ↦
          let zero : s.steps / 2 ^ bit % 2 ≡ 0 = omega arith in
          let count : s.steps % 2 ^ (bit + 1) ≡ s.steps % 2 ^ bit = rw zero at next ∙ (omega arith) in
          rw (ne_eqb _ 1 other, count) refl
    ]

-- one bit more
pub carry : (chain : List ℕ) (trips : List Trip) (bit : ℕ) (starts : List Start) (walks all : List Walk) → AreTrips chain (2 ^ bit) trips → bit < 32
    → walks ≡ map (walked chain bit) starts → all ≡ map (carried trips bit) walks → all ≡ map (walked chain (bit + 1)) starts
carry chain trips bit starts walks all are low begin is =
    rw (is, begin, map-map) (ap (λ f. map f starts) (fun_ext (λ s. carried_one chain trips bit s are low)))

-- ---- as a relation

module _ (chain : List ℕ) where
  on_decides : (at : ℕ) → Decides (leads_on chain at) ((at ≡ 0 → ⊥) × (at < length chain))
  on_decides at = both (contrary (Decides-eqb at 0)) (Decides-ltb at (length chain))

  -- as many links lead on as are followed
  leads_all : (links from : ℕ) → Leads chain from (followed chain links from) (follow chain links from)
  leads_all zero from = here from
  leads_all (suc links) from =
      elim (cases_Bool (leads_on chain from)) [
        | inl is ↦
            let (some, within) = (on_decides from).0 is in
            let more : 1 + followed chain links (slice_index chain from) ≡ suc (followed chain links (slice_index chain from)) = omega arith in
            rw (is, more) (on from (slice_index chain from) _ _ some (slice_get-get_or chain from 0 within) (leads_all links (slice_index chain from)))
        | inr off ↦ (let stay = stays chain (suc links) from off in rw (stay.0, stay.1) (here from))
      ]

  all_led : {from links to : ℕ} → Leads chain from links to → (follow chain links from ≡ to) × (followed chain links from ≡ links)
  all_led (here i) = (refl, refl)
  all_led (on from next links to some at rest) =
      let (leads, all) = all_led rest in
      let next_is : slice_index chain from ≡ next = get_or_from_slice_get chain from next 0 at in
      rw ((on_decides from).1 (some, slice_get_within chain from next at), next_is) (leads, omega arith)

  -- a walk ends
  pub end_decides : (n from : ℕ) → Decides (follow chain n from == 0) ((links : ℕ) × (links ≤ n) × Leads chain from links 0)
  end_decides n from = means (Decides-eqb (follow chain n from) 0)
      (λ e. (followed chain n from, followed_few chain n from, rw e at (leads_all n from)))
      (λ (links, few, leads).
      let split : n ≡ links + (n - links) = omega arith in
      rw (split, (add chain links (n - links) from).0, (all_led leads).0) (stays chain (n - links) 0 refl).0)

  module _ (n from i : ℕ) (ends : follow chain n from ≡ 0) where
    -- where the walk comes to a symbol, the symbol's own way to the end is as much shorter
    way : (links : ℕ) → links < n → follow chain links from ≡ i → followed chain links from ≡ links → followed chain n from - followed chain n i ≡ links
    way links few leads all =
        let r : ℕ = n - links in
        let split : n ≡ links + r = omega arith in
        let turned : n ≡ r + links = omega arith in
        let whole = rw (← split, leads) at (add chain links r from) in
        let own = rw (← turned) at (add chain r links i) in
        let none : followed chain links (follow chain r i) ≡ 0 = rw (← whole.0, ends) (stays chain links 0 refl).1 in
        omega (arith, whole.1, own.1)

    comes_decides : Decides (comes_to chain n from i) ((links : ℕ) × (links < n) × Leads chain from links i × (i ≢ 0))
    comes_decides =
        means (both (contrary (Decides-eqb i 0)) (Decides-eqb (follow chain (followed chain n from - followed chain n i) from) i))
        (λ (some, comes).
        let steps : ℕ = followed chain n from - followed chain n i in
        let few = followed_few chain n from in
        let most = followed_few chain steps from in
        elim (cases_lt (followed chain steps from) n) [
          | inl below ↦ (followed chain steps from, below, rw comes at (leads_all steps from), some)
          | inr all ↦ let same : steps ≡ n = omega arith in absurd (some (sym comes ∙ ap (λ m. follow chain m from) same ∙ ends))
        ])
        (λ (links, few, leads, some). let (comes, all) = all_led leads in (some, rw (way links few comes all) comes))

module _ (s : SysvPart) (ends : (bucket : ℕ) → Contains s.buckets bucket → follow s.chain (length s.chain) bucket ≡ 0) (name : List ℕ) (i : ℕ) where
  begins : (o : Option ℕ) → slice_get s.buckets (sysv_hash name % length s.buckets) ≡ o → follow s.chain (length s.chain) (unwrap_or o 0) ≡ 0
  begins None none = (stays s.chain (length s.chain) 0 refl).0
  begins (Some bucket) at = ends bucket (_, slice_get_within s.buckets _ bucket at, get_or_from_slice_get s.buckets _ bucket bucket at)

  -- a bucket that isn't there leads to 0 alone
  there : (o : Option ℕ) (links : ℕ) → Leads s.chain (unwrap_or o 0) links i → i ≢ 0 → o ≡ Some (unwrap_or o 0)
  there None links leads some = absurd (some (sym (all_led s.chain leads).0 ∙ (stays s.chain links 0 refl).0))
  there (Some bucket) links leads some = refl

  pub sysv_decides : Decides (sysv_leads s (sysv_hash name) i) (ReachedBySysv s name i)
  unfolding sysv_leads
  sysv_decides =
      means (comes_decides s.chain (length s.chain) (sysv_bucket s (sysv_hash name)) i (begins _ refl))
      (λ (links, few, leads, some). let begins = there (slice_get s.buckets (sysv_hash name % length s.buckets)) links leads some in search)
      (λ r. (r.links, r.few, rw r.begins r.leads, r.some))

-- ---- the first exported definition that isn't found

abbrev pub NoneLost : (ℕ → Bool) → List Symbol → ℕ → ℕ → Type 0
NoneLost found symbols first i = least_below (is_lost found (map is_visible_definition symbols) first) i ≡ None

module _ (found : ℕ → Bool) (symbols : List Symbol) (first i : ℕ) (s : Symbol) (within : i < length symbols) (is : s ≡ get_or symbols i s)
    (none : NoneLost found symbols first i) where
  lost_at : is_lost found (map is_visible_definition symbols) first i ≡ (nat_le first i && is_visible_definition s && not (found i))
  lost_at = rw (slice_get-map is_visible_definition symbols i, slice_get_read symbols (length symbols) i s refl within is) refl

  -- it is this one
  pub lost_here : (nat_le first i && is_visible_definition s && not (found i)) ≡ true → first_lost found (map is_visible_definition symbols) first ≡ Some i
  unfolding first_lost
  lost_here lost = least_found _ i (length (map is_visible_definition symbols)) none (lost_at ∙ lost) (rw (length-map symbols is_visible_definition) within)

  -- it isn't this one
  pub not_lost : (nat_le first i && is_visible_definition s && not (found i)) ≡ false → NoneLost found symbols first (i + 1)
  not_lost kept = least_kept _ i none (lost_at ∙ kept)

-- tests that agree miss the same number
same_least : (p q : ℕ → Bool) (n : ℕ) → ((i : ℕ) → i < n → p i ≡ q i) → least_below p n ≡ least_below q n
same_least p q zero same = refl
same_least p q (suc n) same = rw (same_least p q n (λ i below. same i (omega arith)), same n (omega arith)) refl

-- ---- whether the symbols of a table are reached

abbrev pub travelled : List ℕ → Start → Trip
travelled chain s = trip chain (s.steps % 2 ^ 32) s.from

module _ (sysv : SysvPart) (trips : List Trip) (are : AreTrips sysv.chain (length sysv.chain) trips) where
  -- the trip from each symbol, also from where no chain word is
  trip_from_is : (at : ℕ) → trip_from trips at ≡ trip sysv.chain (length sysv.chain) at
  trip_from_is at =
      elim (cases_lt at (length sysv.chain)) [
        | inl below ↦ rw (are.each at below) refl
        | inr past ↦
            let none : slice_get trips at ≡ None = slice_get_past trips at (let len = are.len in omega arith) in
            let stay = stays sysv.chain (length sysv.chain) at (outside sysv.chain at past) in
            rw (none, stay.0, stay.1) refl
      ]

  pub links_few : length sysv.chain < 2 ^ 32 → (at : ℕ) → (trip_from trips at).links < 2 ^ 32
  links_few low at = rw (trip_from_is at) (let few = followed_few sysv.chain (length sysv.chain) at in omega arith)

  pub walks_are : list_all (λ b. (trip_from trips b).end == 0) sysv.buckets ≡ sysv_walks_end sysv
  unfolding sysv_walks_end
  walks_are = simp trip_from_is refl

  -- the walks come to the symbols that are found
  pub all_found : (starts : List Start) (arrived : List Trip) (hashes : List ℕ) (visible : List Bool) (first : ℕ) → length sysv.chain < 2 ^ 32
      → ((i hash : ℕ) → slice_get hashes i ≡ Some hash → slice_get starts i ≡ Some (start_to trips (sysv_bucket sysv hash) i))
      → arrived ≡ map (λ s. trip sysv.chain (s.steps % 2 ^ 32) s.from) starts → length hashes ≡ length visible
      → first_lost (arrives arrived) visible first ≡ first_lost (λ i. sysv_leads sysv (slice_index hashes i) i) visible first
  unfolding first_lost sysv_leads
  all_found starts arrived hashes visible first low begun is same = same_least _ _ (length visible) (λ i below.
      let from : ℕ = sysv_bucket sysv (slice_index hashes i) in
      let start = begun i (slice_index hashes i) (slice_get-get_or hashes i 0 (omega arith)) in
      let few = followed_few sysv.chain (length sysv.chain) from in
      let steps : ℕ = followed sysv.chain (length sysv.chain) from - followed sysv.chain (length sysv.chain) i in
      let small : steps % 2 ^ 32 ≡ steps = omega arith in
      rw (is, slice_get-map (travelled sysv.chain) starts i, start, trip_from_is from, trip_from_is i, small) refl)
