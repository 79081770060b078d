-- Words that are taken away: one more leaves what may be, and what is gone.
use Rattle.std.proofs.Common.{◌≡◌, ◌≢◌, ◌⊎◌, ⊎_elim, append-nil, append_assoc, inl, inr, ℕ, ◌+◌, ◌-◌, ◌*◌, ◌/◌, ◌%◌, ◌<◌, ◌≤◌, Result, Ok, Err, IfOk, IfErr, Bool, true, false, leb, ltb, get_or, List, [], ◌∷◌, ◌++◌, length, Some, refl, sym, ap, subst, ◌∙◌, arith, lt_of_not-le}
use mathlib.Core.Logic.{dite}
use native.Mathlib.Decide.{ℕ_discrete, dec_le}
use Rattle.std.specs.List.{Contains, slice_get}
use Rattle.std.proofs.lemmas.Option.{slice_get_within}
use Rattle.std.proofs.lemmas.Bool.{and_from, and_parts, le-leb, leb-true, lt-ltb, ltb-true, true≢false}
use Rattle.std.proofs.lemmas.List.Elements.{Contains-append_cases, Contains-append_left, Contains-append_right}
use Rattle.std.proofs.lemmas.List.{get_or-set_other, get_or_past, set_past}
use Rattle.ld_base.specs.declared.fault.Shown.{Shown}
use Rattle.ld_base.specs.declared.fault.Shown.TheVariants as shows
use Rattle.ld_base.specs.declared.linking.Role.{Role}
use Rattle.ld_base.specs.declared.linking.Role.TheVariants.{None as NoRole, Ro, Rx, Rw, Slot}
use Rattle.address_space.specs.Pages.{IsGuestRange}
use Rattle.history_event.specs.declared.event.Range.{Range}
use Rattle.word_rule.specs.declared.entry.Grant.{Grant}
use Rattle.word_rule.specs.declared.view.KeeperView.{KeeperView}
use Rattle.word_rule.specs.declared.view.Kept.{Kept}
use Rattle.word_rule.specs.declared.view.Retired.{Retired}
use Rattle.word_rule.specs.Allowed.{IsOf, IsSlot, NothingEnters, Stands}
use Rattle.word_rule.specs.Fetches.{RoleWent}
use Rattle.word_rule.specs.KeeperSteps.{AreDecided, retired}
use Rattle.word_rule.specs.Layout.{place_of}
use Rattle.word_rule.specs.Lemmas.Heeding.{kept_here}
use Rattle.word_rule.specs.Views.{kept_at, row_of, unmapped}
use Rattle.word_access.specs.WordKeeping.Keeping.{was_shown}
use Rattle.word_memory.specs.Roles.{MayRetire}
use Rattle.history_state.specs.Memory.{covers}
use Rattle.history_state.specs.Lemmas.Lists.{here, later, none_in, only_in}
use Rattle.history_state.specs.Lemmas.Tidy.{in_at}
use Rattle.kept_words.specs.Gone.{AreApart, IsCovered, IsInside, IsOfOther, IsOfSlot}
use Rattle.word_installs.specs.Unmapped.{HadRole, HasNoRole, HasNoSlot, IsUnmapped, LostRole, MayUnmap, Retires, SlotsGoFirst}
use Rattle.word_installs.proofs.Places.{word_address}

-- ---- what is retired

pub retires_none : (which : Role → Type 0) (ranges : List Range) (k : KeeperView) → Retires which ranges k k
retires_none which ranges k = record { more = []; are = sym (append-nil k.retired); each = λ d. inl refl; gone = λ x there. absurd (none_in x there); had = λ x there. absurd (none_in x there); once = tt; only = refl }

pub generation_on : {which : Role → Type 0} (ranges : List Range) (k l : KeeperView) → Retires which ranges k l → l.generation ≡ k.generation
generation_on ranges k l retires = ap (λ (v : KeeperView). v.generation) retires.only

pub events_on : {which : Role → Type 0} (ranges : List Range) (k l : KeeperView) → Retires which ranges k l → l.events ≡ k.events
events_on ranges k l retires = ap (λ (v : KeeperView). v.events) retires.only

-- what is lost stays so over another view that has it so, or with more that went
lost_then : (ranges : List Range) (one two : List Retired) (k l m : KeeperView) (d : ℕ) → (kept_at l d ≡ kept_at k d) ⊎ LostRole ranges one k l d
    → (kept_at m d ≡ kept_at l d) ⊎ LostRole ranges two l m d → (kept_at m d ≡ kept_at k d) ⊎ LostRole ranges (one ++ two) k m d
lost_then ranges one two k l m d (inl was) (inl same) = inl (same ∙ was)
lost_then ranges one two k l m d (inr lost) (inl same) = inr (record {
  inside = lost.inside;
  none = ap (λ (x : Kept). x.role) same ∙ lost.none;
  went = record { went = lost.went.went; there = Contains-append_left one two lost.went.went lost.went.there; at = lost.went.at; role_is = lost.went.role_is };
})
lost_then ranges one two k l m d (inl was) (inr lost) = inr (record {
  inside = lost.inside;
  none = lost.none;
  went = record { went = lost.went.went; there = Contains-append_right one two lost.went.went lost.went.there; at = lost.went.at; role_is = lost.went.role_is ∙ ap (λ (x : Kept). x.role) was };
})
lost_then ranges one two k l m d (inr first) (inr again) = inr (record {
  inside = again.inside;
  none = again.none;
  went = record { went = first.went.went; there = Contains-append_left one two first.went.went first.went.there; at = first.went.at; role_is = first.went.role_is };
})

-- lists of which none has a doubleword of another
apart_then : (one two : List Retired) → AreApart one → AreApart two → ((x y : Retired) → Contains one x → Contains two y → x.at ≢ y.at) → AreApart (one ++ two)
apart_then [] two first second apart = second
apart_then (z ∷ one) two first second apart = (
  (λ y there. ⊎_elim
      (λ (old : Contains one y). first.0 y old)
      (λ (new : Contains two y). apart z y (here z one) new)
      (Contains-append_cases one two y there)),
  apart_then one two first.1 second (λ x y in_one in_two. apart x y (later z one x in_one) in_two),
)

-- a doubleword without a role stays so
stays_none : {which : Role → Type 0} (ranges : List Range) (k l : KeeperView) → Retires which ranges k l → (d : ℕ) → (kept_at k d).role ≡ NoRole → (kept_at l d).role ≡ NoRole
stays_none ranges k l retires d gone = ⊎_elim
    (λ (same : kept_at l d ≡ kept_at k d). ap (λ (x : Kept). x.role) same ∙ gone)
    (λ (lost : LostRole ranges retires.more k l d). lost.none)
    (retires.each d)

-- what has a role is as it was
had_before : {which : Role → Type 0} (ranges : List Range) (k l : KeeperView) → Retires which ranges k l → (d : ℕ) → (kept_at l d).role ≢ NoRole → kept_at l d ≡ kept_at k d
had_before ranges k l retires d some = ⊎_elim
    (λ (same : kept_at l d ≡ kept_at k d). same)
    (λ (lost : LostRole ranges retires.more k l d). absurd (some lost.none))
    (retires.each d)

-- roles that went, and then others: each is the one that its doubleword had first, and no doubleword stands twice
had_then : {which other : Role → Type 0} (ranges : List Range) (k l m : KeeperView) (one : Retires which ranges k l) (two : Retires other ranges l m) → (x : Retired) → Contains (one.more ++ two.more) x → HadRole k m x
had_then ranges k l m one two x there = ⊎_elim
    (λ (old : Contains one.more x). let was = one.had x old in record { some = was.some; had = was.had; value = was.value; none = stays_none ranges l m two x.at was.none })
    (λ (new : Contains two.more x).
    let was = two.had x new in
    let before : kept_at l x.at ≡ kept_at k x.at = had_before ranges k l one x.at (λ none. was.some (was.had ∙ none)) in
    record { some = was.some; had = was.had ∙ ap (λ (y : Kept). y.role) before; value = was.value ∙ ap (λ (y : Kept). y.value) before; none = was.none })
    (Contains-append_cases one.more two.more x there)

once_then : {which other : Role → Type 0} (ranges : List Range) (k l m : KeeperView) (one : Retires which ranges k l) (two : Retires other ranges l m) → AreApart (one.more ++ two.more)
once_then ranges k l m one two = apart_then one.more two.more one.once two.once (λ x y in_one in_two same.
    let was = two.had y in_two in was.some (was.had ∙ ap (λ (d : ℕ). (kept_at l d).role) (sym same) ∙ (one.had x in_one).none))

pub retires_then : {which : Role → Type 0} (ranges : List Range) (k l m : KeeperView) → Retires which ranges k l → Retires which ranges l m → Retires which ranges k m
retires_then ranges k l m one two = record {
  each = λ d. lost_then ranges one.more two.more k l m d (one.each d) (two.each d);
  more = one.more ++ two.more;
  are = two.are ∙ ap (λ (all : List Retired). all ++ two.more) one.are ∙ append_assoc k.retired one.more two.more;
  gone = λ x there. ⊎_elim
      (λ (in_one : Contains one.more x). one.gone x in_one)
      (λ (in_two : Contains two.more x). let y = two.gone x in_two in (y.0, y.1, y.2 ∙ generation_on ranges k l one, y.3 ∙ ap length (events_on ranges k l one)))
      (Contains-append_cases one.more two.more x there);
  had = had_then ranges k l m one two;
  once = once_then ranges k l m one two;
  only = two.only ∙ ap (λ (v : KeeperView). record v { words = m.words; shown = m.shown; retired = m.retired }) one.only;
}

pub stays_no_slot : {which : Role → Type 0} (ranges : List Range) (k l : KeeperView) → Retires which ranges k l → (d : ℕ) → (kept_at k d).role ≢ Slot → (kept_at l d).role ≢ Slot
stays_no_slot ranges k l retires d none slot = ⊎_elim
    (λ (same : kept_at l d ≡ kept_at k d). none (ap (λ (x : Kept). x.role) (sym same) ∙ slot))
    (λ (lost : LostRole ranges retires.more k l d). let both : NoRole ≡ Slot = sym lost.none ∙ slot in cc)
    (retires.each d)

pub slotless_on : {which : Role → Type 0} (ranges : List Range) (k l : KeeperView) → Retires which ranges k l → HasNoSlot ranges k → HasNoSlot ranges l
slotless_on ranges k l retires none a is = stays_no_slot ranges k l retires (place_of a) (none a is)

-- a doubleword without a role, by a test of whether it has one
pub no_role : (r : Role) (has : Bool) → (r ≢ NoRole → has ≡ true) → has ≡ false → r ≡ NoRole
no_role NoRole has some none = refl
no_role Ro has some none = absurd (true≢false (sym (some (λ e. absurd (cc))) ∙ none))
no_role Rx has some none = absurd (true≢false (sym (some (λ e. absurd (cc))) ∙ none))
no_role Rw has some none = absurd (true≢false (sym (some (λ e. absurd (cc))) ∙ none))
no_role Slot has some none = absurd (true≢false (sym (some (λ e. absurd (cc))) ∙ none))

-- ---- what may go still may

pub may_on : {which : Role → Type 0} (ranges : List Range) (k l : KeeperView) → Retires which ranges k l → MayUnmap k ranges → MayUnmap l ranges
may_on ranges k l retires may = record {
  guest = may.guest;
  unposted = λ a is m g pending. may.unposted a is m g (ap (λ (v : KeeperView). (row_of v m).pending) (sym retires.only) ∙ pending);
  unentered = λ a d value is outside slot allowed. may.unentered a d value is outside
      (subst (λ (x : Kept). IsSlot (λ _. x) d) (same d outside) slot)
      (⊎_elim
      (λ (first : value ≡ (kept_at l d).value). inl (first ∙ ap (λ (x : Kept). x.value) (same d outside)))
      (λ (grant : (m : ℕ) × (g : Grant) × Stands (row_of l m) g × IsOf (kept_at l) d g × (value ≡ g.entry.value)). inr (
        grant.0,
        grant.1,
        subst (λ (v : KeeperView). Stands (row_of v grant.0) grant.1) retires.only grant.2,
        subst (λ (x : Kept). IsOf (λ _. x) d grant.1) (same d outside) grant.3,
        grant.4,
      ))
      allowed);
}
  where
    same : (d : ℕ) → (IsInside ranges d → ⊥) → kept_at l d ≡ kept_at k d
    same d outside = ⊎_elim (λ (x : kept_at l d ≡ kept_at k d). x) (λ (lost : LostRole ranges retires.more k l d). absurd (outside lost.inside)) (retires.each d)

-- ---- one doubleword

pub may_retire : (ranges : List Range) (k : KeeperView) (a : ℕ) → MayUnmap k ranges → IsCovered ranges a → (kept_at k (place_of a)).role ≢ NoRole → SlotsGoFirst ranges k a → MayRetire k a
may_retire ranges k a may is some order = record {
  at = word_address a is.word;
  some_role = some;
  slot = λ slot. may.unposted a is;
  other = λ none. ⊎_elim (λ (slot : (kept_at k (place_of a)).role ≡ Slot). absurd (none slot)) unentered order;
}
  where
    unentered : HasNoSlot ranges k → NothingEnters (kept_at k) (row_of k) (place_of a)
    unentered slotless e value slot allowed =
        may.unentered a e value is (λ inside. slotless inside.0 inside.1 (ap (λ (d : ℕ). (kept_at k d).role) inside.2 ∙ slot.1)) slot allowed

retired_role : (k : KeeperView) (d : ℕ) → (kept_at (retired d k) d).role ≡ NoRole
retired_role k d = go (dec_le (length k.words) d)
  where
    go : Dec (length k.words ≤ d) → (kept_at (retired d k) d).role ≡ NoRole
    go (yes past) =
        ap (λ (ws : List Kept). (get_or ws d unmapped).role) (set_past k.words d (record (kept_at k d) { role = NoRole }) past)
        ∙ ap (λ (x : Kept). x.role) (get_or_past k.words d unmapped past)
    go (no inside) = ap (λ (x : Kept). x.role) (kept_here k d (record (kept_at k d) { role = NoRole }) (lt_of_not-le inside))

pub gone_now : (k l : KeeperView) (a : ℕ) → l ≡ retired (place_of a) k → (kept_at l (place_of a)).role ≡ NoRole
gone_now k l a is = ap (λ (v : KeeperView). (kept_at v (place_of a)).role) is ∙ retired_role k (place_of a)

-- the role that goes
abbrev role_of : ℕ → KeeperView → Retired
role_of d k = record { at = d; role = (kept_at k d).role; generation = k.generation; number = length k.events; value = (kept_at k d).value }

retires_one : (which : Role → Type 0) (ranges : List Range) (k l : KeeperView) (a : ℕ) → IsCovered ranges a → (kept_at k (place_of a)).role ≢ NoRole → which (kept_at k (place_of a)).role
    → l ≡ retired (place_of a) k → Retires which ranges k l
retires_one which ranges k l a covered some such is = record {
  each = λ d. dite (ℕ_discrete d (place_of a))
      (λ (same : d ≡ place_of a). inr (record {
        inside = (a, covered, sym same);
        none = ap (λ (e : ℕ). (kept_at l e).role) same ∙ gone_now k l a is;
        went = record { went = role_of (place_of a) k; there = here (role_of (place_of a) k) []; at = sym same; role_is = ap (λ (e : ℕ). (kept_at k e).role) (sym same) };
      }))
      (λ (apart : d ≢ place_of a). inl (ap (λ (v : KeeperView). kept_at v d) is
      ∙ get_or-set_other k.words (place_of a) d (record (kept_at k (place_of a)) { role = NoRole }) unmapped apart));
  more = role_of (place_of a) k ∷ [];
  are = ap (λ (v : KeeperView). v.retired) is;
  gone = λ x there. subst (λ (y : Retired). which y.role × IsInside ranges y.at × (y.generation ≡ k.generation) × (y.number ≡ length k.events)) (only_in (role_of (place_of a) k) x there) (such, (a, covered, refl), refl, refl);
  had = λ x there. subst (HadRole k l) (only_in (role_of (place_of a) k) x there) (record { some = some; had = refl; value = refl; none = gone_now k l a is });
  once = ((λ y there. absurd (none_in y there)), tt);
  only = is ∙ ap (λ (v : KeeperView). record k { words = v.words; shown = v.shown; retired = v.retired }) (sym is);
}

-- one that was found locked
pub retires_locked : (which : Role → Type 0) (ranges : List Range) (k l : KeeperView) (d : ℕ) (shown : Shown) → l ≡ was_shown d shown k → Retires which ranges k l
retires_locked which ranges k l d shown is = record {
  each = λ e. inl (ap (λ (v : KeeperView). kept_at v e) is ∙ same e shown);
  more = [];
  are = ap (λ (v : KeeperView). v.retired) is ∙ none_gone shown ∙ sym (append-nil k.retired);
  gone = λ x there. absurd (none_in x there);
  had = λ x there. absurd (none_in x there);
  once = tt;
  only = is ∙ shows_only shown ∙ ap (λ (v : KeeperView). record k { words = v.words; shown = v.shown; retired = v.retired }) (sym is);
}
  where
    same : (e : ℕ) (x : Shown) → kept_at (was_shown d x k) e ≡ kept_at k e
    same e (shows.Locked a b) = refl
    same e _ = refl

    none_gone : (x : Shown) → (was_shown d x k).retired ≡ k.retired
    none_gone (shows.Locked a b) = refl
    none_gone _ = refl

    shows_only : (x : Shown) → was_shown d x k ≡ record k { words = (was_shown d x k).words; shown = (was_shown d x k).shown; retired = (was_shown d x k).retired }
    shows_only (shows.Locked a b) = refl
    shows_only _ = refl

-- it was taken away, or found locked
pub retires_by : (which : Role → Type 0) (ranges : List Range) (k l : KeeperView) (a : ℕ) (result : Result Unit Shown) → IsCovered ranges a → (kept_at k (place_of a)).role ≢ NoRole
    → which (kept_at k (place_of a)).role → IfOk result (λ _. l ≡ retired (place_of a) k) → IfErr result (λ shown. l ≡ was_shown (place_of a) shown k) → Retires which ranges k l
retires_by which ranges k l a (Ok x) covered some such gone locked = retires_one which ranges k l a covered some such gone
retires_by which ranges k l a (Err shown) covered some such gone locked = retires_locked which ranges k l (place_of a) shown locked

-- so is one more that isn't a slot, where no slot is left
pub other_by : (ranges : List Range) (k l n m : KeeperView) (a : ℕ) (result : Result Unit Shown) → Retires IsOfOther ranges k l → HasNoSlot ranges k → n ≡ l → IsCovered ranges a
    → (kept_at l (place_of a)).role ≢ NoRole → IfOk result (λ _. m ≡ retired (place_of a) n) → IfErr result (λ shown. m ≡ was_shown (place_of a) shown n) → Retires IsOfOther ranges k m
other_by ranges k l n m a result retires slotless same covered some gone locked =
    retires_then ranges k l m retires (subst (λ (v : KeeperView). Retires IsOfOther ranges v m) same (retires_by IsOfOther ranges n m a result covered
    (subst (λ (v : KeeperView). (kept_at v (place_of a)).role ≢ NoRole) (sym same) some)
    (subst (HasNoSlot ranges) (sym same) (slotless_on ranges k l retires slotless) a covered) gone locked))

-- ---- the doublewords of a range

-- the doubleword of an index
pub nth_covered : (ranges : List Range) (k : KeeperView) (r : Range) (i : ℕ) → MayUnmap k ranges → Contains ranges r → i < 512 * r.pages → IsCovered ranges (r.address + 8 * i)
nth_covered ranges k r i may there low =
    let guest : IsGuestRange r.address r.pages = may.guest r there (omega (arith, low)) in
    let aligned : r.address % 4096 ≡ 0 = guest.aligned in
    let from : 0x10000 ≤ r.address = guest.low in
    let to : r.address + 4096 * r.pages ≤ 0x10000 + 4096 * 2047 = guest.high in
    record {
      word = record { low = omega (arith, from); high = omega (arith, to, low); whole = omega (arith, aligned) };
      range = r;
      there = there;
      covers_it = and_from (leb r.address (r.address + 8 * i)) (ltb (r.address + 8 * i) (r.address + 4096 * r.pages))
          (le-leb r.address (r.address + 8 * i) (omega arith)) (lt-ltb (r.address + 8 * i) (r.address + 4096 * r.pages) (omega (arith, low)));
    }

-- the index of a doubleword
nth_of : (ranges : List Range) (k : KeeperView) (r : Range) (a : ℕ) → MayUnmap k ranges → Contains ranges r → IsCovered (r ∷ []) a
    → (i : ℕ) × (i < 512 * r.pages) × (a ≡ r.address + 8 * i)
nth_of ranges k r a may there is =
    let same : r ≡ is.range = only_in r is.range is.there in
    let at = and_parts (leb r.address a) (ltb a (r.address + 4096 * r.pages)) (subst (λ (q : Range). covers a q ≡ true) (sym same) is.covers_it) in
    let from : r.address ≤ a = leb-true r.address a at.0 in
    let to : a < r.address + 4096 * r.pages = ltb-true a (r.address + 4096 * r.pages) at.1 in
    let guest : IsGuestRange r.address r.pages = may.guest r there (omega (arith, from, to)) in
    let aligned : r.address % 4096 ≡ 0 = guest.aligned in
    let whole : a % 8 ≡ 0 = is.word.whole in
    ((a - r.address) / 8, (omega (arith, from, to)), (omega (arith, from, aligned, whole)))

-- what holds of each index holds of the range
pub each_gone : (ranges : List Range) (k l : KeeperView) (r : Range) (n : ℕ) → MayUnmap k ranges → Contains ranges r → 512 * r.pages ≤ n
    → ((i : ℕ) → i < n → (kept_at l (place_of (r.address + 8 * i))).role ≡ NoRole) → HasNoRole (r ∷ []) l
each_gone ranges k l r n may there past gone a is =
    let nth = nth_of ranges k r a may there is in
    let low : nth.0 < 512 * r.pages = nth.1 in
    ap (λ (b : ℕ). (kept_at l (place_of b)).role) nth.2 ∙ gone nth.0 (omega (arith, low, past))

pub each_no_slot : (ranges : List Range) (k l : KeeperView) (r : Range) (n : ℕ) → MayUnmap k ranges → Contains ranges r → 512 * r.pages ≤ n
    → ((i : ℕ) → i < n → (kept_at l (place_of (r.address + 8 * i))).role ≢ Slot) → HasNoSlot (r ∷ []) l
each_no_slot ranges k l r n may there past gone a is slot =
    let nth = nth_of ranges k r a may there is in
    let low : nth.0 < 512 * r.pages = nth.1 in
    gone nth.0 (omega (arith, low, past)) (sym (ap (λ (b : ℕ). (kept_at l (place_of b)).role) nth.2) ∙ slot)

-- one index more
pub gone_more : {which : Role → Type 0} (ranges : List Range) (k l : KeeperView) (start n : ℕ) → Retires which ranges k l
    → ((i : ℕ) → i < n → (kept_at k (place_of (start + 8 * i))).role ≡ NoRole) → (kept_at l (place_of (start + 8 * n))).role ≡ NoRole
    → (i : ℕ) → i < n + 1 → (kept_at l (place_of (start + 8 * i))).role ≡ NoRole
gone_more ranges k l start n retires front new i low = dite (ℕ_discrete i n)
    (λ (same : i ≡ n). ap (λ (j : ℕ). (kept_at l (place_of (start + 8 * j))).role) same ∙ new)
    (λ (apart : i ≢ n). stays_none ranges k l retires (place_of (start + 8 * i)) (front i (omega (arith, low, apart))))

pub no_slot_more : {which : Role → Type 0} (ranges : List Range) (k l : KeeperView) (start n : ℕ) → Retires which ranges k l
    → ((i : ℕ) → i < n → (kept_at k (place_of (start + 8 * i))).role ≢ Slot) → (kept_at l (place_of (start + 8 * n))).role ≢ Slot
    → (i : ℕ) → i < n + 1 → (kept_at l (place_of (start + 8 * i))).role ≢ Slot
no_slot_more ranges k l start n retires front new i low = dite (ℕ_discrete i n)
    (λ (same : i ≡ n). subst (λ (j : ℕ). (kept_at l (place_of (start + 8 * j))).role ≢ Slot) (sym same) new)
    (λ (apart : i ≢ n). stays_no_slot ranges k l retires (place_of (start + 8 * i)) (front i (omega (arith, low, apart))))

-- ---- one range after another

-- a range more
pub ranges_more : (which : Range → KeeperView → Type 0) (ranges : List Range) (n : ℕ) (r : Range) (l m : KeeperView) → slice_get ranges n ≡ Some r
    → ((q : Range) → which q l → which q m) → ((i : ℕ) (q : Range) → i < n → slice_get ranges i ≡ Some q → which q l) → which r m
    → (i : ℕ) (q : Range) → i < n + 1 → slice_get ranges i ≡ Some q → which q m
ranges_more which ranges n r l m at stays front new i q low there = dite (ℕ_discrete i n)
    (λ (same : i ≡ n).
    let both : Some q ≡ Some r = sym there ∙ ap (slice_get ranges) same ∙ at in
    let is : r ≡ q = cc in
    subst (λ (x : Range). which x m) is new)
    (λ (apart : i ≢ n). stays q (front i q (omega (arith, low, apart)) there))

-- what holds in each of them holds in all
one_of : (ranges : List Range) (a : ℕ) → IsCovered ranges a → (i : ℕ) × (r : Range) × (i < length ranges) × (slice_get ranges i ≡ Some r) × IsCovered (r ∷ []) a
one_of ranges a is =
    let at = in_at ranges is.range is.there in
    (at.0, is.range, slice_get_within ranges at.0 is.range at.1, at.1, record { word = is.word; range = is.range; there = here is.range []; covers_it = is.covers_it })

pub all_gone : (ranges : List Range) (n : ℕ) (l : KeeperView) → length ranges ≤ n → ((i : ℕ) (r : Range) → i < n → slice_get ranges i ≡ Some r → HasNoRole (r ∷ []) l) → HasNoRole ranges l
all_gone ranges n l past front a is = let at = one_of ranges a is in let low : at.0 < length ranges = at.2 in front at.0 at.1 (omega (arith, low, past)) at.3 a at.4

pub all_no_slot : (ranges : List Range) (n : ℕ) (l : KeeperView) → length ranges ≤ n → ((i : ℕ) (r : Range) → i < n → slice_get ranges i ≡ Some r → HasNoSlot (r ∷ []) l) → HasNoSlot ranges l
all_no_slot ranges n l past front a is = let at = one_of ranges a is in let low : at.0 < length ranges = at.2 in front at.0 at.1 (omega (arith, low, past)) at.3 a at.4

pub no_role_on : {which : Role → Type 0} (ranges : List Range) (k l : KeeperView) → Retires which ranges k l → (r : Range) → HasNoRole (r ∷ []) k → HasNoRole (r ∷ []) l
no_role_on ranges k l retires r gone a is = stays_none ranges k l retires (place_of a) (gone a is)

pub no_slot_on : {which : Role → Type 0} (ranges : List Range) (k l : KeeperView) → Retires which ranges k l → (r : Range) → HasNoSlot (r ∷ []) k → HasNoSlot (r ∷ []) l
no_slot_on ranges k l retires r gone a is = stays_no_slot ranges k l retires (place_of a) (gone a is)

-- ---- all of it

pub may_later : (ranges : List Range) (k l : KeeperView) (generation : ℕ) → l ≡ record k { generation = generation } → MayUnmap k ranges → MayUnmap l ranges
may_later ranges k l generation is may = subst (λ (v : KeeperView). MayUnmap v ranges) (sym is) (record { guest = may.guest; unposted = may.unposted; unentered = may.unentered })

-- of which kind the roles were is left out
of_any : {which : Role → Type 0} (ranges : List Range) (k l : KeeperView) → Retires which ranges k l → Retires (λ _. Unit {0}) ranges k l
of_any ranges k l retires = record { each = retires.each; more = retires.more; are = retires.are; gone = λ x there. let y = retires.gone x there in (tt, y.1, y.2, y.3); had = retires.had; once = retires.once; only = retires.only }

pub is_unmapped : (ranges : List Range) (k l m n : KeeperView) (generation : ℕ) → l ≡ record k { generation = generation } → AreDecided k → Retires IsOfSlot ranges l m → Retires IsOfOther ranges m n
    → HasNoRole ranges n → IsUnmapped ranges k n
unfolding retires_then of_any
is_unmapped ranges k l m n generation is decided one two gone = record {
  gone = gone;
  kept = λ d outside. ⊎_elim (λ (same : kept_at n d ≡ kept_at l d). same ∙ ap (λ (v : KeeperView). kept_at v d) is) (λ (lost : LostRole ranges both.more l n d). absurd (outside lost.inside)) (both.each d);
  goes = record {
    more = one.more ++ two.more;
    are = two.are ∙ ap (λ (all : List Retired). all ++ two.more) one.are ∙ append_assoc l.retired one.more two.more
        ∙ ap (λ (v : KeeperView). v.retired ++ (one.more ++ two.more)) is;
    in_order = record {
      slots = one.more;
      others = two.more;
      are = refl;
      first = λ x there. let y = one.gone x there in (y.0, y.1, y.2 ∙ sym (generation_on ranges l n both), y.3 ∙ count);
      next = λ x there. let y = two.gone x there in (y.0, y.1, y.2 ∙ sym (generation_on ranges m n two), y.3 ∙ ap length (events_on ranges l m one) ∙ count);
    };
    all = λ a covered some. ⊎_elim
        (λ (same : kept_at n (place_of a) ≡ kept_at l (place_of a)). absurd (some (sym (ap (λ (x : Kept). x.role) same ∙ was a) ∙ gone a covered)))
        (λ (lost : LostRole ranges both.more l n (place_of a)). subst (RoleWent both.more (place_of a)) (was a) lost.went)
        (both.each (place_of a));
    only = record {
      some = λ x there. (both.had x there).some;
      had = λ x a there word place. (both.had x there).had ∙ ap (λ (d : ℕ). (kept_at l d).role) (sym place) ∙ was a;
      once = both.once;
    };
    words = λ x a there rx word place. (both.had x there).value ∙ ap (λ (v : KeeperView). (kept_at v x.at).value) is ∙ ap (λ (d : ℕ). (kept_at k d).value) (sym place);
  };
  decided = λ r there. decided;
  only = both.only ∙ ap (λ (v : KeeperView). record v { words = n.words; shown = n.shown; retired = n.retired }) is
      ∙ ap (λ (x : ℕ). record k { words = n.words; shown = n.shown; retired = n.retired; generation = x })
      (sym (ap (λ (v : KeeperView). v.generation) both.only ∙ ap (λ (v : KeeperView). v.generation) is));
}
  where
    -- setting the generation left the words and the events
    was : (a : ℕ) → (kept_at l (place_of a)).role ≡ (kept_at k (place_of a)).role
    was a = ap (λ (v : KeeperView). (kept_at v (place_of a)).role) is

    count : length l.events ≡ length k.events
    count = ap (λ (v : KeeperView). length v.events) is

    both : Retires (λ _. Unit {0}) ranges l n
    both = retires_then ranges l m n (of_any ranges l m one) (of_any ranges m n two)
