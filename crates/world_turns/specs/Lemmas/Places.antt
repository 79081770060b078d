-- How far all harts are with their slots, as a list: what of it memory holds by, and what an event leaves of it.
use Rattle.std.proofs.Common.{◌≡◌, ◌≢◌, ◌⊎◌, inl, inr, ⊎_elim, ℕ, zero, suc, Bool, true, false, cond, List, [], ◌∷◌, ◌++◌, length, flat_map, Some, None, refl, sym, ap, subst, arith}
use Rattle.std.specs.List.{Contains, slice_get}
use Rattle.std.proofs.lemmas.List.Elements.{Contains-append_cases, Contains-append_left, Contains-append_right}
use Rattle.history_state.specs.Lemmas.Lists.{none_in, only_in}
use Rattle.history_event.specs.declared.event.Event.{Event}
use Rattle.history_event.specs.declared.state.Granting.{Granting}
use Rattle.rv_hart.specs.declared.doubleword.Doubleword.{Doubleword}
use Rattle.history_state.specs.After.{after}
use Rattle.history_state.specs.Allowed.{Allowed}
use Rattle.history_state.specs.Legal.{Lawful, Legal}
use Rattle.history_state.specs.Setting.{Machine, Setting}
use Rattle.history_state.specs.State.{State}
use Rattle.history_calls.specs.Laws.{hart_of}
use Rattle.history_memory.specs.Holds.{Holds, SlotHolds, Took, TookAt}
use Rattle.history_memory.specs.Holds.SlotHolds.{exchanged, first}
use Rattle.history_memory.specs.Memory.{Memory}
use Rattle.hart_moves.specs.Harts.{Offered, Resolving}
use Rattle.world_turns.specs.Memory.{Remakes, memory_of}
use Rattle.world_turns.specs.Sound.{Fits, HasExchanged}
use Rattle.world_turns.specs.World.{has_won, won_by}
use Rattle.world_turns.specs.Lemmas.Offers.{Changes, Know, granted_to, has_exchanged_stays, has_offer_stays, no_grant_stays}

-- ---- grants that have won, by their numbers alone

abbrev pub won_all : List Resolving → List ℕ
won_all rs = flat_map won_by rs

took_alike : (won more : List ℕ) (g : Granting) → ((n : ℕ) → Contains won n → Contains more n) → Took won g → Took more g
took_alike won more g to (inl bound) = inl bound
took_alike won more g to (inr both) = inr (both.0, to g.number both.1)

at_alike : (s : State) (won more : List ℕ) (a : ℕ) (g : Granting) → ((n : ℕ) → Contains won n → Contains more n) → TookAt s won a g → TookAt s more a g
at_alike s won more a g to x = record { there = x.there; of = x.of; took = took_alike won more g to x.took }

slot_alike : (s : State) (won more : List ℕ) (a value : ℕ) → ((n : ℕ) → Contains won n → Contains more n) → ((n : ℕ) → Contains more n → Contains won n) → SlotHolds s won a value → SlotHolds s more a value
slot_alike s won more a value to from (first is none) = first is (λ g at. none g (at_alike s more won a g from at))
slot_alike s won more a value to from (exchanged g at is lazy only) = exchanged g (at_alike s won more a g to at) is lazy (λ h x. only h (at_alike s more won a h from x))

-- memory holds by the same numbers, in whatever order
pub holds_alike : (s : State) (won more : List ℕ) (memory : Memory) → ((n : ℕ) → Contains won n → Contains more n) → ((n : ℕ) → Contains more n → Contains won n) → Holds s won memory → Holds s more memory
holds_alike s won more memory to from h = record {
  words = λ a is. let x = h.words a is in record { role = x.role; fixed = x.fixed; slot = λ role. slot_alike s won more a (memory.value a) to from (x.slot role) };
  unsettled = λ n there. h.unsettled n (from n there);
}

-- ---- all harts

abbrev pub FitsAll : State → List Doubleword → List Resolving → Type 0
FitsAll s words rs = (h : ℕ) (r : Resolving) → slice_get rs h ≡ Some r → Fits s words h r

-- a journal, how far harts are, and memory
pub record Sounds (w : Setting) (past : List Event) (rs : List Resolving) (words : List Doubleword) : Type 0 where
  pub legal : Legal w past
  pub holds : Holds (after past) (won_all rs) (memory_of words)
  pub fits : FitsAll (after past) words rs

-- one hart is where it was, or at another place
abbrev pub placed : List Resolving → Resolving → List Resolving → List Resolving
placed front r rest = front ++ r ∷ rest

pub at_place : (front : List Resolving) (r : Resolving) (rest : List Resolving) → slice_get (placed front r rest) (length front) ≡ Some r
at_place [] r rest = refl
at_place (x ∷ front) r rest = at_place front r rest

-- every other hart stands where it stood
pub elsewhere : (front : List Resolving) (r q : Resolving) (rest : List Resolving) (h : ℕ) (p : Resolving) → slice_get (placed front q rest) h ≡ Some p
    → ((h ≡ length front) × (p ≡ q)) ⊎ ((h ≢ length front) × (slice_get (placed front r rest) h ≡ Some p))
elsewhere [] r q rest zero p at = inl (refl, sym (same q p at))
  where
    same : (x y : Resolving) → Some x ≡ Some y → x ≡ y
    same x y e = cc
elsewhere [] r q rest (suc h) p at = inr (differs h, at)
  where
    differs : (n : ℕ) → suc n ≡ 0 → ⊥
    differs n e = omega (arith, e)
elsewhere (x ∷ front) r q rest zero p at = inr (differs (length front), at)
  where
    differs : (n : ℕ) → 0 ≡ suc n → ⊥
    differs n e = omega (arith, e)
elsewhere (x ∷ front) r q rest (suc h) p at = ⊎_elim
    (λ (here : (h ≡ length front) × (p ≡ q)). inl (ap suc here.0, here.1))
    (λ (other : (h ≢ length front) × (slice_get (placed front r rest) h ≡ Some p)). inr (λ e. other.0 (less h (length front) e), other.1))
    (elsewhere front r q rest h p at)
  where
    less : (n k : ℕ) → suc n ≡ suc k → n ≡ k
    less n k e = omega (arith, e)

-- a number that has won is that of some hart's offer
pub record Winner (rs : List Resolving) (n : ℕ) : Type 0 where
  pub hart : ℕ
  pub place : Resolving
  pub at : slice_get rs hart ≡ Some place
  pub won : Contains (won_by place) n

pub winner_of : (rs : List Resolving) (n : ℕ) → Contains (won_all rs) n → Winner rs n
winner_of [] n there = absurd (none_in n there)
winner_of (r ∷ rest) n there = ⊎_elim
    (λ (a : Contains (won_by r) n). record { hart = 0; place = r; at = refl; won = a })
    (λ (b : Contains (won_all rest) n). let x = winner_of rest n b in record { hart = suc x.hart; place = x.place; at = x.at; won = x.won })
    (Contains-append_cases (won_by r) (won_all rest) n there)

pub is_winner : (rs : List Resolving) (h : ℕ) (r : Resolving) (n : ℕ) → slice_get rs h ≡ Some r → Contains (won_by r) n → Contains (won_all rs) n
is_winner [] h r n at won = absurd (let d : None ≡ Some r = at in cc)
is_winner (x ∷ rest) zero r n at won = Contains-append_left (won_by x) (won_all rest) n (subst (λ (y : Resolving). Contains (won_by y) n) (let e : r ≡ x = cc in e) won)
is_winner (x ∷ rest) (suc h) r n at won = Contains-append_right (won_by x) (won_all rest) n (is_winner rest h r n at won)

-- the offer of a hart that has won
pub record WonOffer (s : State) (words : List Doubleword) (h : ℕ) (r : Resolving) (n : ℕ) : Type 0 where
  pub offer : Offered
  pub found : ℕ
  pub number : offer.number ≡ n
  pub won : has_won offer found ≡ true
  pub exchanged : HasExchanged s words h offer found

won_if : (s : State) (words : List Doubleword) (h : ℕ) (r : Resolving) (n : ℕ) (o : Offered) (found : ℕ) (t : Bool) → has_won o found ≡ t → Contains (cond t (o.number ∷ []) []) n → HasExchanged s words h o found
    → WonOffer s words h r n
won_if s words h r n o found true e there x = record { offer = o; found = found; number = only_in o.number n there; won = e; exchanged = x }
won_if s words h r n o found false e there x = absurd (none_in n there)

pub won_offer : (s : State) (words : List Doubleword) (h : ℕ) (r : Resolving) (n : ℕ) → Fits s words h r → Contains (won_by r) n → WonOffer s words h r n
won_offer s words h Resolving.idle n fits there = absurd (none_in n there)
won_offer s words h (Resolving.to_exchange o) n fits there = absurd (none_in n there)
won_offer s words h (Resolving.to_finish o found) n fits there = won_if s words h (Resolving.to_finish o found) n o found (has_won o found) refl there fits
won_offer s words h (Resolving.to_settle o found) n fits there = won_if s words h (Resolving.to_settle o found) n o found (has_won o found) refl there fits

-- ---- an event of a hart

-- it grants nothing to a hart without an offer
abbrev pub Spares : Event → ℕ → Resolving → Type 0
Spares e h Resolving.idle = granted_to e ≢ Some h
Spares e h (Resolving.to_exchange o) = Unit {0}
Spares e h (Resolving.to_finish o found) = Unit {0}
Spares e h (Resolving.to_settle o found) = Unit {0}

pub fits_stay : (m : Machine) → Know m → Changes m → (w : Setting) → w.machine ≡ m → (past : List Event) (e : Event) (h : ℕ) → hart_of e ≡ Some h → Lawful m past → Allowed w past e → (j : ℕ) (r : Resolving)
    (old new : List Doubleword) → Remakes (after past) e old new → Spares e j r → Fits (after past) old j r → Fits (after (past ++ e ∷ [])) new j r
fits_stay m know changes w same past e h of lawful may j Resolving.idle old new remakes spares x = no_grant_stays past e h j of spares x
fits_stay m know changes w same past e h of lawful may j (Resolving.to_exchange o) old new remakes spares x = has_offer_stays m know w same past e h of lawful may j o x
fits_stay m know changes w same past e h of lawful may j (Resolving.to_finish o found) old new remakes spares x = has_exchanged_stays m know changes w same past e h of lawful may j o found old new remakes x
fits_stay m know changes w same past e h of lawful may j (Resolving.to_settle o found) old new remakes spares x = has_exchanged_stays m know changes w same past e h of lawful may j o found old new remakes x
