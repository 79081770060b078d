-- What a turn appends, the frames that it leaves, and whether its hart runs on, by what was done.
use Rattle.std.proofs.Common.{◌≡◌, ℕ, Bool, true, false, List, [], ◌∷◌, refl, sym, ap, ◌∙◌}
use Rattle.std.specs.Prelude.{◌||◌}
use Rattle.std.specs.List.{list_any}
use Rattle.history_event.specs.declared.event.Event.{Event}
use Rattle.history_event.specs.declared.handed.Function.{Function}
use Rattle.history_calls.specs.Call.{Call, resolves, opens, looks_up, closes, unmaps, asks_fault, locates, writes, stops}
use Rattle.hart_moves.specs.Due.{Return}
use Rattle.hart_moves.specs.Harts.{Frame, HartState, Purpose}
use Rattle.hart_moves.specs.Moves.{after_all, did_by, events_of, runs, telling, with_first}
use Rattle.hart_moves.specs.TurnEvents.Appends.{is_of_end}
use Rattle.hart_moves.specs.TurnEvents.Lemmas.Dues.{AskedFrom}

pub did_events : (added : List Event) → events_of (did_by added) ≡ added
did_events [] = refl
did_events (e ∷ rest) = refl

-- ---- a text that is told

pub telling_end : (text : ℕ) (words : List ℕ) (b : HartState) → (telling text words b).«end» ≡ b.«end»
telling_end text [] b = refl
telling_end text (word ∷ more) b = refl

pub telling_frames : (text : ℕ) (words : List ℕ) (b : HartState) → (telling text words b).frames ≡ b.frames
telling_frames text [] b = refl
telling_frames text (word ∷ more) b = refl

-- ---- functions that are run

no_end : (purpose : Purpose) (below : List Frame) (b : HartState) → is_of_end purpose ≡ false → (after_all purpose below b).«end» ≡ b.«end»
no_end (Purpose.of_startup registers) below b not_end = refl
no_end (Purpose.of_opening to root) below b not_end = refl
no_end (Purpose.of_closing to set) below b not_end = refl
no_end (Purpose.of_end code) below b not_end = absurd (let no : true ≡ false = not_end in cc)

pub first_end : (purpose : Purpose) (object : ℕ) (addresses : List ℕ) (rest : List Function) (below : List Frame) (b : HartState) → (with_first purpose object addresses rest below b).«end» ≡ b.«end»
first_end purpose object [] rest below b = refl
first_end purpose object (function ∷ more) rest below b = refl

pub runs_end : (purpose : Purpose) (functions : List Function) (below : List Frame) (b : HartState) → is_of_end purpose ≡ false → (runs purpose functions below b).«end» ≡ b.«end»
runs_end purpose [] below b not_end = no_end purpose below b not_end
runs_end purpose (f ∷ rest) below b not_end = first_end purpose f.object f.addresses rest below b

-- ---- frames of some purposes

abbrev pub some_are : (Purpose → Bool) → List Frame → Bool
some_are sort frames = list_any (λ f. sort f.purpose) frames

module _ (sort : Purpose → Bool) where
  -- what a call returns to has such frames where the hart has: a closing that goes is none
  pub asked_some : ((to : ℕ) (set : List ℕ) → sort (Purpose.of_closing to set) ≡ false) → (b : HartState) (asked : Call) (to : Return) → AskedFrom b asked to
      → some_are sort to.frames ≡ some_are sort b.frames
  asked_some spares b (resolves owner eights) to from = ap (some_are sort) from
  asked_some spares b (opens ask) to from = ap (some_are sort) from.1
  asked_some spares b (looks_up ask) to from = ap (some_are sort) from
  asked_some spares b (closes handle) to from = ap (some_are sort) from.1
  asked_some spares b (unmaps set) to from = sym (ap (some_are sort) from ∙ ap (λ (t : Bool). t || some_are sort to.frames) (spares to.to set))
  asked_some spares b asks_fault to from = ap (some_are sort) from
  asked_some spares b (locates number offset) to from = ap (some_are sort) from
  asked_some spares b (writes bytes) to from = ap (some_are sort) from
  asked_some spares b (stops reason) to from = ap (some_are sort) from

  behind_some : (purpose : Purpose) (below : List Frame) (b : HartState) → sort purpose ≡ false → some_are sort (after_all purpose below b).frames ≡ some_are sort below
  behind_some (Purpose.of_startup registers) below b other = refl
  behind_some (Purpose.of_opening to root) below b other = refl
  behind_some (Purpose.of_closing to set) below b other = ap (λ (t : Bool). t || some_are sort below) other
  behind_some (Purpose.of_end code) below b other = refl

  pub first_some : (purpose : Purpose) (object : ℕ) (addresses : List ℕ) (rest : List Function) (below : List Frame) (b : HartState)
      → some_are sort (with_first purpose object addresses rest below b).frames ≡ (sort purpose || some_are sort below)
  first_some purpose object [] rest below b = refl
  first_some purpose object (function ∷ more) rest below b = refl

  pub runs_some : (purpose : Purpose) (functions : List Function) (below : List Frame) (b : HartState) → sort purpose ≡ false → some_are sort (runs purpose functions below b).frames ≡ some_are sort below
  runs_some purpose [] below b other = behind_some purpose below b other
  runs_some purpose (f ∷ rest) below b other = first_some purpose f.object f.addresses rest below b ∙ ap (λ (t : Bool). t || some_are sort below) other
