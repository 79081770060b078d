-- What bind comes to.
use Rattle.std.specs.Prelude.{◌≡◌, ◌⊎◌, ℕ, Bool, List, [], map, Option, Some, None}
use Rattle.ld_base.specs.declared.fault.DlFault.{DlFault}
use Rattle.ld_base.specs.declared.fault.DlFault.TheVariants as dl
use Rattle.ld_base.specs.declared.linking.File.{File}
use Rattle.ld_base.specs.declared.linking.Loaded.{Loaded}
use Rattle.library_source.specs.Count.{Rises}
use Rattle.scope_rule.specs.Breadth.{breadth}
use Rattle.scope_rule.specs.Load.{Load, Walk, Brings, records_of}
use Rattle.scope_rule.specs.Needed.{version_fault}
use Rattle.scope_rule.specs.Opening.{opened}
use Rattle.scope_rule.specs.Seen.{Seen, seen_in, with_added}
use Rattle.scope_rule.specs.declared.namespace.Namespace.{Namespace}
use Rattle.elf_object.specs.Verdict.{object_verdict}
use Rattle.load_walk.specs.Files.{load_over}
use Rattle.load_walk.specs.Plan.{IsMissed, StopsFor}
use Rattle.load_walk.specs.declared.ask.LoadAsk.{LoadAsk}
use Rattle.ldso_cli.specs.declared.outcome.Cause.{Cause}
use Rattle.ldso_cli.specs.declared.outcome.Cause.TheVariants as causes
use Rattle.cli_words.specs.declared.command.Bind.{Bind}
use Rattle.cli_text.specs.Lines.{bound_text}
use Rattle.cli_text.specs.Refusal.{first_refusal}
use Rattle.ldso_cli.specs.Outside.{LibraryAt}
use Rattle.ldso_cli.specs.Status.{refused_text}

-- the program is asked for by hart 0, and is object 1
abbrev pub ask_of : Bind → LoadAsk
ask_of bind = record {
  name = bind.program;
  folders = bind.folders;
  preload = bind.preload;
  hart = 0;
  next = 1;
  program = Bool.true;
  deep = Bool.false;
}

-- a namespace in which nothing is loaded yet
abbrev pub nothing_loaded : Namespace
nothing_loaded = record { id = 0; objects = []; global = []; opens = [] }

-- the load of a program over files
abbrev pub program_load : Bind → List File → Load
program_load bind files = load_over object_verdict (ask_of bind) [] files

-- a program's objects are these: those that its load brings, with what their names found
pub record BindLoads (bind : Bind) (files : List File) (objects : List Loaded) : Type 0 where
  pub walk : Walk
  pub brings : Brings (program_load bind files) walk
  pub are : objects ≡ records_of (program_load bind files) Bool.false walk

-- what is seen of a program's objects before anything of them is global
abbrev pub unopened : List Loaded → Seen
unopened objects = with_added (seen_in nothing_loaded) objects

-- the namespace of a program's objects: its one opening is global
abbrev pub namespace_of : List Loaded → Namespace
namespace_of objects = opened nothing_loaded objects 1 Bool.true

-- the cause of a first refusal, or of none
abbrev pub cause_of : Option DlFault → Cause
cause_of None = causes.Done
cause_of (Some fault) = causes.Refused fault

-- what is printed of a namespace whose objects are all there: each slot's choice, or the refusal alone
abbrev pub objects_text : Namespace → Option DlFault → List ℕ
objects_text ns None = bound_text ns
objects_text ns (Some fault) = refused_text fault

-- the program and all that it needs are there, breadth-first, with the versions that they need: their references decide
pub record IsLoaded (bind : Bind) (files : List File) (cause : Cause) : Type 0 where
  pub objects : List Loaded
  pub loads : BindLoads bind files objects
  pub breadth_first : map (λ (o : Loaded). o.serial) objects ≡ breadth (unopened objects) 1
  pub versions : version_fault [] objects ≡ None
  pub cause_is : cause ≡ cause_of (first_refusal (namespace_of objects) bind.now objects)

-- something that they need isn't there
pub record IsNotLoaded (bind : Bind) (files : List File) (cause : Cause) : Type 0 where
  pub fault : DlFault
  pub is : StopsFor object_verdict (ask_of bind) [] fault files
  pub cause_is : cause ≡ causes.Refused fault

-- the library missed each path that the name may have: the program's, or one that is needed after those before it were found
abbrev pub BindMisses : Bind → LibraryAt → LibraryAt → List ℕ → List File → Type 0
BindMisses bind before after name files = IsMissed (program_load bind files) name before.misses after.misses

-- how bind comes to its end over files, while its library goes on from one state to another; no failure is invented
pub record BindComes (bind : Bind) (before after : LibraryAt) (files : List File) (cause : Cause) : Type 0 where
  pub is : IsLoaded bind files cause ⊎ IsNotLoaded bind files cause
  pub read_fault : (path : List ℕ) → cause ≡ causes.Refused (dl.ReadFault path) → Rises before.faults after.faults
  pub missing : (name : List ℕ) → cause ≡ causes.Refused (dl.MissingLibrary name) → BindMisses bind before after name files

-- the text of the objects that the program's load brings
pub record IsBound (bind : Bind) (files : List File) (text : List ℕ) : Type 0 where
  pub objects : List Loaded
  pub loads : BindLoads bind files objects
  pub text_is : text ≡ bound_text (namespace_of objects)

-- what bind prints at an end: the objects and the choices of their slots, or its refusal alone
abbrev pub BindPrints : Bind → List File → Cause → List ℕ → Type 0
BindPrints bind files causes.Done text = IsBound bind files text
BindPrints bind files (causes.Refused fault) text = text ≡ refused_text fault
BindPrints bind files _ text = ⊥
