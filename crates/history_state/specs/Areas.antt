-- Where new objects, stacks and static areas stand: one after another at the lowest address that has room.
use Rattle.std.specs.Prelude.{◌≡◌, ℕ, ◌+◌, Bool, true, false, not, max, if◌then◌else◌, List, [], ◌∷◌, ◌++◌, map, filter, fold}
use Rattle.std.specs.List.{list_any, range_with_len}
use Rattle.std.specs.Option.{option_map_or, is_some}
use Rattle.address_space.specs.Pages.{AllFree, Fits, IsFirstFit, guest_pages, is_within, together_with, without}
use Rattle.ld_base.specs.declared.linking.Loaded.{Loaded}
use Rattle.ld_base.specs.declared.object.Kind.{Kind}
use Rattle.ld_base.specs.declared.object.Kind.TheVariants as kinds
use Rattle.ld_base.specs.declared.object.Object.{Object}
use Rattle.history_event.specs.declared.event.Purpose.{Purpose}
use Rattle.history_event.specs.declared.event.Purpose.TheVariants as purposes
use Rattle.history_event.specs.declared.event.Range.{Range}
use Rattle.seg_image.specs.Pages.{align_of, low_of, own_address, pages_of}
use Rattle.history_state.specs.State.{Statics}
use Rattle.history_state.specs.Storage.{pages_for}

-- the pages that no range has
unfoldable pub free_pages : List Range → List ℕ
free_pages ranges = filter (λ page. not (list_any (λ r. is_within r.address r.pages page) ranges)) guest_pages

-- the free pages and those of ranges that go, one after another
abbrev pub released : List ℕ → List Range → List ℕ
released free [] = free
released free (r ∷ rest) = released (together_with free r.address r.pages) rest

-- pages may stand anywhere at a multiple of their alignment, or at one address
pub data Where : Type 0 where
  anywhere : ℕ → Where
  only : ℕ → Where

-- pages that are wanted
pub record Area : Type 0 where
  pub pages : ℕ
  pub place : Where
  pub purpose : Purpose

-- ---- what is wanted

-- ET_EXEC takes its own addresses
abbrev pub where_of : Object → Kind → Where
where_of o kinds.Exec = only (low_of o)
where_of o kinds.Dyn = anywhere (align_of o)

abbrev pub object_area : Loaded → Area
object_area o = record { pages = pages_of o.object; place = where_of o.object o.object.kind; purpose = purposes.Object o.serial }

-- a hart's stack has 16 pages
abbrev pub stack_area : ℕ → Area
stack_area hart = record { pages = 16; place = anywhere 4096; purpose = purposes.Stack hart }

-- the greatest alignment of the segments of thread-local storage
abbrev pub storage_align : List Loaded → ℕ
storage_align added = fold (λ align o. option_map_or (λ seg. max align seg.align) o.object.tls align) 4096 added

abbrev pub static_area : Statics → List Loaded → ℕ → Area
static_area st added hart = record {
  pages = pages_for (st.tp + st.size);
  place = anywhere (storage_align added);
  purpose = purposes.StaticTls hart;
}

abbrev pub has_storage : List Loaded → Bool
has_storage added = list_any (λ o. is_some o.object.tls) added

abbrev pub static_areas : Statics → ℕ → List Loaded → List Area
static_areas st harts added = if has_storage added then map (static_area st added) (range_with_len 0 harts) else []

-- beside the objects: at startup each hart's stack, and then each hart's static area
abbrev pub other_areas : Bool → Statics → ℕ → List Loaded → List Area
other_areas true st harts added = map stack_area (range_with_len 0 harts) ++ static_areas st harts added
other_areas false st harts added = []

abbrev pub areas : Bool → Statics → ℕ → List Loaded → List Area
areas startup st harts added = map object_area added ++ other_areas startup st harts added

-- ---- what is given

-- the pages stand here
abbrev pub StandsAt : List ℕ → ℕ → Where → ℕ → Type 0
StandsAt free pages (anywhere align) address = IsFirstFit free pages align address
StandsAt free pages (only own) address = (address ≡ own) × AllFree free address pages

-- there is no room for them
abbrev pub HasNoRoom : List ℕ → ℕ → Where → Type 0
HasNoRoom free pages (anywhere align) = (address : ℕ) → ¬ (Fits free pages align address)
HasNoRoom free pages (only own) = ¬ (AllFree free own pages)

pub record IsGiven (free : List ℕ) (area : Area) (r : Range) : Type 0 where
  pub pages : r.pages ≡ area.pages
  pub purpose : r.purpose ≡ area.purpose
  pub stands : StandsAt free area.pages area.place r.address

-- one after another from the pages that are free; the last list is of those that are left
abbrev pub AreGiven : List ℕ → List Area → List Range → List ℕ → Type 0
AreGiven free [] [] left = left ≡ free
AreGiven free [] (r ∷ ranges) left = ⊥
AreGiven free (area ∷ rest) [] left = ⊥
AreGiven free (area ∷ rest) (r ∷ ranges) left = IsGiven free area r × AreGiven (without free r.address r.pages) rest ranges left

-- the first for which there is no room wants so many pages
pub record LacksRoom (free : List ℕ) (wanted : List Area) (pages : ℕ) : Type 0 where
  pub before : List Area
  pub area : Area
  pub rest : List Area
  pub are : wanted ≡ before ++ area ∷ rest
  pub ranges : List Range
  pub left : List ℕ
  pub given : AreGiven free before ranges left
  pub none : HasNoRoom left area.pages area.place
  pub is : pages ≡ area.pages

-- each object's base is that of its pages
abbrev pub AreBased : List Loaded → List Range → Type 0
AreBased [] ranges = Unit {0}
AreBased (o ∷ rest) [] = ⊥
AreBased (o ∷ rest) (r ∷ ranges) = (o.base ≡ own_address (low_of o.object) r.address) × AreBased rest ranges
