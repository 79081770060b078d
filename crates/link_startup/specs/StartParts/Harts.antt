-- Names at which harts start, in each run: none of what is asked for here is of its folders or files.
use Rattle.std.specs.Prelude.{◌≡◌, ℕ, List, [], ◌∷◌, ◌++◌}
use Rattle.ld_base.specs.declared.fault.DlFault.{DlFault}
use Rattle.history_event.specs.declared.event.Event.{Event}
use Rattle.history_state.specs.After.{after}
use Rattle.history_state.specs.Allowed.{Allowed}
use Rattle.history_state.specs.Setting.{Setting}
use Rattle.history_calls.specs.declared.link_served.served.Served.{Served}
use Rattle.history_calls.specs.declared.link_served.served.Served.TheVariants as served
use Rattle.history_calls.specs.Startup.{FindHarts, FindsStart, LacksHart, found_at, program_entry}
use Rattle.link_startup.specs.declared.start_parts.harts.Unstarted.{Unstarted}
use Rattle.link_startup.specs.declared.start_parts.harts.Unstarted.TheVariants as unstarted

-- the hart's name is found at this address, and its event noted
pub record StartsAt (past : List Event) (hart : ℕ) (name : List ℕ) (value : ℕ) (events : List Event) : Type 0 where
  pub serial : ℕ
  pub index : ℕ
  pub are : events ≡ past ++ found_at hart name serial index value ∷ []
  pub finds : (w : Setting) → FindsStart w past hart name serial index value

-- the harts from one with this number on start at these names
pub record FoundFrom (past : List Event) (hart : ℕ) (names : List (List ℕ)) (addresses : List ℕ) (events : List Event) : Type 0 where
  pub found : List Event
  pub are : events ≡ past ++ found
  pub finds : (w : Setting) → FindHarts w past hart names found addresses

-- all harts start: the first one at the program's entry point. The state is as before.
pub record FoundAll (past : List Event) (names : List (List ℕ)) (starts : List ℕ) (events : List Event) : Type 0 where
  pub addresses : List ℕ
  pub first : starts ≡ program_entry (after past) ∷ addresses
  pub further : FoundFrom past 1 names addresses events
  pub same : after events ≡ after past

-- the first name at which no hart of this program can start, among those of the harts from one with this number on
pub record LacksFrom (past : List Event) (hart : ℕ) (program : List ℕ) (names : List (List ℕ)) (fault : DlFault) (events : List Event) : Type 0 where
  pub given : List Event
  pub are : events ≡ past ++ given
  pub lacks : (w : Setting) → LacksHart w program past hart names given fault

-- why harts don't start: at one of their names none can, or memory is wanted
abbrev pub IsLackingFrom : List Event → ℕ → List ℕ → List (List ℕ) → Unstarted → List Event → Type 0
IsLackingFrom past hart program names (unstarted.Refused fault) events = LacksFrom past hart program names fault events
IsLackingFrom past hart program names unstarted.Memory events = Unit {0}

abbrev pub IsLacking : List Event → List ℕ → List (List ℕ) → Unstarted → List Event → Type 0
IsLacking past program names why events = IsLackingFrom past 1 program names why events

abbrev pub IsLackingAt : List Event → ℕ → List ℕ → List ℕ → Unstarted → List Event → Type 0
IsLackingAt past hart program name why events = IsLackingFrom past hart program (name ∷ []) why events

-- ---- for the code of this crate alone

-- the hart's name is found at this address, whether or not a hart can start there
pub record IsFoundAt (past : List Event) (hart : ℕ) (name : List ℕ) (value : ℕ) (events : List Event) : Type 0 where
  pub serial : ℕ
  pub index : ℕ
  pub are : events ≡ past ++ found_at hart name serial index value ∷ []
  pub may : (w : Setting) → Allowed w past (found_at hart name serial index value)

-- what the look-up of a hart's name comes to: an address, a refusal whichever the program is, or memory is wanted, and nothing else
abbrev pub NameComesTo : List Event → ℕ → List ℕ → Served → List Event → Type 0
NameComesTo past hart name (served.Done value) events = IsFoundAt past hart name value events
NameComesTo past hart name (served.Opened root installs functions) events = ⊥
NameComesTo past hart name (served.Closing dying functions) events = ⊥
NameComesTo past hart name (served.Refused fault) events = (program : List ℕ) → LacksFrom past hart program (name ∷ []) fault events
NameComesTo past hart name (served.Again for) events = ⊥
NameComesTo past hart name served.Memory events = Unit {0}
