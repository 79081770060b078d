-- What startup is lent, before the first event, and the run that it starts.
use Rattle.std.specs.Prelude.{◌≡◌, ℕ, true, false, List, Option}
use Rattle.elf_object.specs.Verdict.{object_verdict}
use Rattle.ld_base.specs.declared.linking.File.{File}
use Rattle.history_state.specs.Areas.{free_pages}
use Rattle.history_state.specs.Setting.{Setting}
use Rattle.history_state.specs.State.{empty_namespace, empty_state}
use Rattle.history_calls.specs.declared.link_served.startup.Setup.{Setup}
use Rattle.history_calls.specs.Startup.{setting_of}
use Rattle.load_walk.specs.declared.ask.LoadAsk.{LoadAsk}
use Rattle.link_open_plan.specs.ObjectPlaces.Placing.{statics_of}
use Rattle.link_open_plan.specs.declared.before.Before.{Before}

-- the run of a setup, over the files as the library tells them
abbrev pub run_of : Setup → Option (List File) → Setting
run_of setup files = setting_of object_verdict setup files

-- what is lent is what the state has before the first event
pub record IsFirst (b : Before) : Type 0 where
  pub namespace : b.namespace.now ≡ empty_namespace 0
  pub next : b.next ≡ empty_state.next
  pub free : b.regions.now ≡ free_pages empty_state.ranges
  pub modules : b.modules.now.modules ≡ empty_state.modules
  pub statics : statics_of b.modules.now ≡ empty_state.statics
  pub binds : b.binds_now ≡ false

-- ---- for the code of this crate alone

-- the load of the program
abbrev pub program_load : ℕ → Setup → LoadAsk
program_load next setup = record {
  name = setup.program;
  folders = setup.folders;
  preload = setup.preload;
  hart = 0;
  next = next;
  program = true;
  deep = false;
}
