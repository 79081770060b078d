-- What harts run: the words that RX doublewords have as the keeper knows them, or had when they lost that role.
use Rattle.std.specs.Prelude.{◌≡◌, ◌≢◌, ◌⊎◌, ℕ, List, [], ◌∷◌, ◌++◌, Some, Ok, Contains}
use Rattle.ld_base.specs.declared.linking.Role.{Role}
use Rattle.ld_base.specs.declared.linking.Role.TheVariants.{Rx}
use Rattle.rv_hart.specs.Doublewords.{lane as bytes_in}
use Rattle.rv_hart.specs.declared.bus.Item.TheVariants.{Fetch}
use Rattle.word_rule.specs.declared.view.Access.{Access}
use Rattle.word_rule.specs.declared.view.Kept.{Kept}
use Rattle.word_rule.specs.declared.view.Retired.{Retired}
use Rattle.word_rule.specs.declared.view.TrailItem.{TrailItem}
use Rattle.word_rule.specs.declared.view.TrailItem.TheVariants.{Call}
use Rattle.word_rule.specs.HartSteps.{IsAsked}
use Rattle.word_rule.specs.Layout.{place_of, role_in}

-- the doubleword lost this role
pub record RoleWent (gone : List Retired) (d : ℕ) (role : Role) : Type 0 where
  pub went : Retired
  pub there : Contains gone went
  pub at : went.at ≡ d
  pub role_is : went.role ≡ role

-- these four bytes at the address are of the word that an RX doubleword had when it lost that role
pub record WordWent (gone : List Retired) (a bits : ℕ) : Type 0 where
  pub went : Retired
  pub there : Contains gone went
  pub at : went.at ≡ place_of a
  pub role_is : went.role ≡ Rx
  pub found : bits ≡ bytes_in went.value a 4

-- an instruction may lie at the address, and these four bytes are those of an RX doubleword's word there, or of the word that it had when it lost that role
abbrev pub FoundCode : (ℕ → Kept) → List Retired → ℕ → ℕ → Type 0
FoundCode known gone a bits = let d = place_of a in
    IsAsked a 4 × ((((known d).role ≡ Rx) × (bits ≡ bytes_in (known d).value a 4)) ⊎ WordWent gone a bits)

-- the first ones stand among the others, in the same order
pub data StandAmong : List Retired → List Retired → Type 0 where
  nothing : StandAmong [] []
  passed : (some all : List Retired) (x : Retired) → StandAmong some all → StandAmong some (all ++ x ∷ [])
  taken : (some all : List Retired) (x : Retired) → StandAmong some all → StandAmong (some ++ x ∷ []) (all ++ x ∷ [])

-- the item isn't a fetch that was answered
abbrev pub IsNoFetch : TrailItem → Type 0
IsNoFetch item = (a bits : ℕ) → item ≢ Call (Fetch a (Ok bits))

-- each answered fetch of a trail found this, but for some: for each of these a role RX of the doubleword that it asked for is listed. That the role went
-- between the fetch's look at the role and its load of the word isn't said
pub data FetchesFind (found : ℕ → ℕ → Type 0) : List TrailItem → List Retired → Type 0 where
  nothing : FetchesFind found [] []
  no_fetch : (trail : List TrailItem) (crossed : List Retired) (item : TrailItem) → IsNoFetch item → FetchesFind found trail crossed
      → FetchesFind found (trail ++ item ∷ []) crossed
  whole : (trail : List TrailItem) (crossed : List Retired) (a bits : ℕ) → found a bits → FetchesFind found trail crossed
      → FetchesFind found (trail ++ Call (Fetch a (Ok bits)) ∷ []) crossed
  crossing : (trail : List TrailItem) (crossed : List Retired) (a bits : ℕ) (went : Retired) → IsAsked a 4 → went.at ≡ place_of a → went.role ≡ Rx
      → FetchesFind found trail crossed → FetchesFind found (trail ++ Call (Fetch a (Ok bits)) ∷ []) (crossed ++ went ∷ [])

-- so it is with the fetches of a hart: each found code, but for some. Each role that went stands for one of these at most, in the order in which they went
pub record AreFetched (known : ℕ → Kept) (gone : List Retired) (trail : List TrailItem) : Type 0 where
  pub crossed : List Retired
  pub among : StandAmong crossed gone
  pub each : FetchesFind (FoundCode known gone) trail crossed

-- the doubleword lost the role by which it might be run, behind the roles listed
pub record WentBehind (gone crossed : List Retired) (d : ℕ) : Type 0 where
  pub went : Retired
  pub at : went.at ≡ d
  pub role_is : went.role ≡ Rx
  pub behind : StandAmong (crossed ++ went ∷ []) gone

-- it may be run, or lost that role behind those listed
abbrev pub IsCode : (ℕ → Kept) → List Retired → List Retired → ℕ → Type 0
IsCode known gone crossed d = ((known d).role ≡ Rx) ⊎ WentBehind gone crossed d

-- of one hart
pub record HartFetches (known : ℕ → Kept) (gone : List Retired) (access : Access) (trail : List TrailItem) : Type 0 where
  pub fetched : AreFetched known gone trail
  -- of the doubleword whose control word was found first in the access under way
  pub looked : (d control : ℕ) → access.last ≡ Some (d, control) → role_in control ≡ Rx → IsCode known gone fetched.crossed d

pub record Fetches (known : ℕ → Kept) (gone : List Retired) (access : ℕ → Access) (trail : ℕ → List TrailItem) : Type 0 where
  pub each : (m : ℕ) → HartFetches known gone (access m) (trail m)
