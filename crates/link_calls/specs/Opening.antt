-- What openings of a linker's state come to (dlopen(3), dlmopen(3)).
use Rattle.std.specs.Prelude.{◌≡◌, ℕ, List, Option, Some}
use Rattle.std.specs.Option.{option_map}
use Rattle.history_calls.specs.CallLaws.Coming.{Comes, IsOver, OpensWhereItCan}
use Rattle.history_journal.specs.Following.{machine_of}
use Rattle.ld_base.specs.declared.linking.File.{File}
use Rattle.library_source.specs.Count.{Rises}
use Rattle.history_event.specs.declared.event.OpenAsk.{OpenAsk}
use Rattle.history_state.specs.Setting.{Setting}
use Rattle.history_state.specs.State.{State}
use Rattle.link_calls.specs.LinkOpening.Planned.{IsPlanIn}
use Rattle.history_calls.specs.declared.link_served.served.Served.{Served}
use Rattle.history_calls.specs.Call.{Call, known}
use Rattle.link_state.specs.Table.{LinkTable}
use Rattle.link_open_plan.specs.declared.planning.Planned.{Planned}

-- what is asked for: of a name that is too long as many bytes are known as show that it is
abbrev pub asked : Option ℕ → Option (List ℕ) → ℕ → OpenAsk
asked ns name flags = record { ns = ns; name = option_map known name; flags = flags }

-- the opening came to this, in each run with these folders, and with the files as the library tells them
abbrev pub OpensIn : LinkTable → List (List ℕ) → Option (List File) → ℕ → Call → Served → LinkTable → Type 0
OpensIn old folders files hart call came new = Comes (IsOver (machine_of old.harts) folders files) old.events new.events hart call came

-- where the library tells its files and no read failed, an opening that finds all that it needs opens
abbrev pub OpensUnlessReadsFail : LinkTable → List (List ℕ) → Option (List File) → ℕ → ℕ → ℕ → OpenAsk → Served → Type 0
OpensUnlessReadsFail old folders files failures failures' hart ask came =
    (told : List File) → files ≡ Some told → ¬ (Rises failures failures') → OpensWhereItCan (machine_of old.harts) folders told old.events hart ask came

-- in some run on this machine the opening comes to this plan
pub record MayPlan (harts : ℕ) (s : State) (hart : ℕ) (ask : OpenAsk) (id : ℕ) (planned : Planned) : Type 0 where
  pub setting : Setting
  pub machine : setting.machine ≡ machine_of harts
  pub is : IsPlanIn setting s hart ask id planned
