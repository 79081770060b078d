-- Words that are taken away: when they may be, in which order, and what the keeper knows then.
use Rattle.std.specs.Prelude.{◌≡◌, ◌≢◌, ◌⊎◌, ℕ, ◌<◌, List, ◌++◌, length, Contains}
use Rattle.address_space.specs.Pages.{IsGuestRange}
use Rattle.ld_base.specs.declared.linking.Role.{Role}
use Rattle.ld_base.specs.declared.linking.Role.TheVariants.{None as NoRole, Slot}
use Rattle.history_event.specs.declared.event.Range.{Range}
use Rattle.word_rule.specs.declared.view.KeeperView.{KeeperView}
use Rattle.word_rule.specs.declared.view.Retired.{Retired}
use Rattle.word_rule.specs.Allowed.{IsAllowed, IsSlot}
use Rattle.word_rule.specs.Fetches.{RoleWent}
use Rattle.word_rule.specs.KeeperSteps.{AreDecided, Unposted}
use Rattle.word_rule.specs.Layout.{place_of}
use Rattle.word_rule.specs.Views.{kept_at, row_of}
use Rattle.kept_words.specs.Gone.{AreApart, AreGone, Goes, IsCovered, IsInside, IsOutside}

-- no slot is left in them
abbrev pub HasNoSlot : List Range → KeeperView → Type 0
HasNoSlot ranges k = (a : ℕ) → IsCovered ranges a → (kept_at k (place_of a)).role ≢ Slot

abbrev pub HasNoRole : List Range → KeeperView → Type 0
HasNoRole ranges k = (a : ℕ) → IsCovered ranges a → (kept_at k (place_of a)).role ≡ NoRole

-- they lie in guest memory; no grant is open of a slot in them; and no value that may stand in a slot outside leads into them
pub record MayUnmap (k : KeeperView) (ranges : List Range) : Type 0 where
  pub guest : (r : Range) → Contains ranges r → 0 < r.pages → IsGuestRange r.address r.pages
  pub unposted : (a : ℕ) → IsCovered ranges a → Unposted k (place_of a)
  pub unentered : (a d value : ℕ) → IsCovered ranges a → IsOutside ranges d → IsSlot (kept_at k) d → IsAllowed (kept_at k) (row_of k) d value
      → (value ≡ 0) ⊎ (place_of value ≢ place_of a)

-- whose role goes next, if it has one: a slot's, or, once no slot of these ranges is left, another doubleword's. So at no moment has a word gone that a slot of
-- the ranges may lead to
abbrev pub SlotsGoFirst : List Range → KeeperView → ℕ → Type 0
SlotsGoFirst ranges k a = ((kept_at k (place_of a)).role ≡ Slot) ⊎ HasNoSlot ranges k

-- what went is the role that its doubleword had, with its word, which has none any more
pub record HadRole (k l : KeeperView) (x : Retired) : Type 0 where
  pub some : x.role ≢ NoRole
  pub had : x.role ≡ (kept_at k x.at).role
  pub value : x.value ≡ (kept_at k x.at).value
  pub none : (kept_at l x.at).role ≡ NoRole

-- a doubleword of these ranges lost the role that it had, and has none
pub record LostRole (ranges : List Range) (gone : List Retired) (k l : KeeperView) (d : ℕ) : Type 0 where
  pub inside : IsInside ranges d
  pub none : (kept_at l d).role ≡ NoRole
  pub went : RoleWent gone d (kept_at k d).role

-- each doubleword is as it was, or it is one of these ranges and its role went; such roles went, at this generation and behind these events. Nothing else
-- changed but what was shown of locked words
pub record Retires (which : Role → Type 0) (ranges : List Range) (k l : KeeperView) : Type 0 where
  pub more : List Retired
  pub are : l.retired ≡ k.retired ++ more
  pub each : (d : ℕ) → (kept_at l d ≡ kept_at k d) ⊎ LostRole ranges more k l d
  pub gone : AreGone which ranges k.generation (length k.events) more
  pub had : (x : Retired) → Contains more x → HadRole k l x
  pub once : AreApart more
  pub only : l ≡ record k { words = l.words; shown = l.shown; retired = l.retired }

-- no doubleword of these ranges has a role any more, and all others are as they were. Roles went in order, at the generation that is set then; and
-- before any of them went, what came of each slot's grants was decided as far as their fates were known
pub record IsUnmapped (ranges : List Range) (k l : KeeperView) : Type 0 where
  pub gone : HasNoRole ranges l
  pub kept : (d : ℕ) → IsOutside ranges d → kept_at l d ≡ kept_at k d
  pub goes : Goes ranges l.generation k l
  pub decided : (r : Range) → Contains ranges r → AreDecided k
  pub only : l ≡ record k { words = l.words; shown = l.shown; retired = l.retired; generation = l.generation }
