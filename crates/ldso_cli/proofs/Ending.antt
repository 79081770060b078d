-- How bind ends.
use Rattle.std.proofs.Common.{◌≡◌, ◌≤◌, ℕ, map, Bool, true, false, List, [], ◌∷◌, length, Option, Some, None, Result, Ok, Err, refl, sym, ap, subst, ◌∙◌, inl, inr, cond, arith}
use Rattle.std.specs.Prelude.{IfOk}
use Rattle.std.specs.declared.alloc.AllocError.{AllocError}
use Rattle.ldso_cli.specs.declared.answer.Answer.{Answer}
use Rattle.std.specs.List.{AllByRecursion, slice_get}
use Rattle.std.specs.Option.{option_or, option_map}
use Rattle.std.proofs.lemmas.Grind.{common_steps}
use Rattle.ld_base.specs.declared.fault.DlFault.{DlFault}
use Rattle.ld_base.specs.declared.fault.DlFault.TheVariants as dl
use Rattle.ld_base.specs.declared.fault.NotAccepted.{NotAccepted}
use Rattle.ld_base.specs.declared.fault.Shown.{Shown}
use Rattle.ld_base.specs.declared.linking.File.{File}
use Rattle.ld_base.specs.declared.linking.Loaded.{Loaded}
use Rattle.ld_base.specs.declared.object.Object.{Object}
use Rattle.ld_base.specs.declared.object.Reloc.{Reloc}
use Rattle.ld_base.specs.declared.object.Symbol.{Symbol}
use Rattle.ld_base.specs.declared.parts.HashTable.{HashTable}
use Rattle.elf_object.specs.Verdict.{object_verdict}
use Rattle.library_source.specs.Count.{Rises}
use Rattle.library_source.specs.Files.{file_at, Over}
use Rattle.load_walk.specs.Files.{reading_of, as_read, file_as_read, is_program}
use Rattle.load_walk.specs.Plan.{HasToWait, IsPlan, IsRefused}
use Rattle.load_walk.specs.declared.ask.LoadAsk.{LoadAsk}
use Rattle.load_walk.specs.declared.ask.LoadPlan.{LoadPlan}
use Rattle.scope_rule.specs.Breadth.{breadth, first_kept, levels, without}
use Rattle.scope_rule.specs.Finding.{here}
use Rattle.scope_rule.specs.Load.{Load, Walk, Stops, Brings, IsRoot, records_of, waits}
use Rattle.scope_rule.specs.Loads.{Closed, new_of}
use Rattle.scope_rule.specs.Opening.{opened}
use Rattle.scope_rule.specs.Seen.{Seen, seen_in, with_added}
use Rattle.scope_rule.specs.Relocation.{choice_at}
use Rattle.scope_rule.specs.declared.namespace.Namespace.{Namespace}
use Rattle.ldso_cli.specs.declared.outcome.Cause.{Cause}
use Rattle.ldso_cli.specs.declared.outcome.Cause.TheVariants as causes
use Rattle.ldso_cli.specs.declared.outcome.End.{End}
use Rattle.cli_words.specs.declared.command.Bind.{Bind}
use Rattle.cli_words.specs.declared.command.Command.TheVariants as commands
use Rattle.ldso_cli.specs.Bind.{BindComes, BindPrints, BindLoads, ask_of, cause_of, namespace_of, nothing_loaded, objects_text, program_load, unopened}
use Rattle.ldso_cli.specs.Command.{WordsAnswer}
use Rattle.ldso_cli.specs.End.{bare}
use Rattle.ldso_cli.specs.Outside.{LibraryAt}
use Rattle.cli_text.specs.Refusal.{is_missing, missing_symbol, refusal_at, first_missing, refusal_of, first_refusal}
use Rattle.ldso_cli.specs.Status.{refused_text}

-- ---- a load that has to wait

-- nothing is loaded, so there is nothing to wait for
pub waits_for_none : ((load : Load) (shown : Shown) → load.there ≡ [] → Stops load (waits shown) → ⊥) → (told : Option (List File)) (bind : Bind) (shown : Shown) → Over told (HasToWait object_verdict (ask_of bind) [] shown) → ⊥
waits_for_none law told bind shown over = law (program_load bind over.files) shown refl over.holds

-- ---- what each object that was read has, with its table

-- what is known of verdicts
abbrev pub Law : (Object → HashTable → Type 0) → Type 0
Law P = (bytes : List ℕ) (program : Bool) (o : Object) (table : HashTable) → object_verdict bytes program ≡ Ok (o, table) → P o table

abbrev done : {X : Type 0} → X → Result X NotAccepted
done x = Ok x

verdict_has : (P : Object → HashTable → Type 0) (law : Law P) (bytes : List ℕ) (program : Bool) (verdict : Result (Object × HashTable) NotAccepted) (o : Object) (table : HashTable) → object_verdict bytes program ≡ verdict → as_read verdict ≡ here o table → P o table
verdict_has P law bytes program (Ok read) o table is e =
    let same : read.0 ≡ o = cc in
    let table_same : read.1 ≡ table = cc in
    subst (P o) table_same (subst (λ (x : Object). P x read.1) same (law bytes program read.0 read.1 is))
verdict_has P law bytes program (Err broken) o table is e = absurd cc

file_has : (P : Object → HashTable → Type 0) (law : Law P) (ask : LoadAsk) (path : List ℕ) (file : Option (List ℕ)) (o : Object) (table : HashTable) → file_as_read object_verdict ask path file ≡ here o table → P o table
file_has P law ask path None o table e = absurd cc
file_has P law ask path (Some bytes) o table e = verdict_has P law bytes (is_program ask path) (object_verdict bytes (is_program ask path)) o table refl e

pub read_has : (P : Object → HashTable → Type 0) (law : Law P) (files : List File) (ask : LoadAsk) (added : List Loaded) → AllByRecursion (λ o. reading_of object_verdict files ask o.path ≡ here o.object o.table) added → AllByRecursion (λ o. P o.object o.table) added
unfolding reading_of
read_has P law files ask [] h = tt
read_has P law files ask (o ∷ rest) h = (file_has P law ask o.path (file_at files o.path) o.object o.table h.0, read_has P law files ask rest h.1)

-- ---- a reference that is refused is no failed read, and no missing library

record IsNoFile (fault : Option DlFault) : Type 0 where
  pub not_read : (path : List ℕ) → fault ≡ Some (dl.ReadFault path) → ⊥
  pub not_missing : (name : List ℕ) → fault ≡ Some (dl.MissingLibrary name) → ⊥

none_no_file : IsNoFile None
none_no_file = record { not_read = λ path e. absurd cc; not_missing = λ name e. absurd cc }

either_no_file : (a b : Option DlFault) → IsNoFile a → IsNoFile b → IsNoFile (option_or a b)
either_no_file None b h k = k
either_no_file (Some f) b h k = h

symbol_no_file : (o : Loaded) (symbol : Option Symbol) → IsNoFile (option_map (missing_symbol o) symbol)
symbol_no_file o None = none_no_file
symbol_no_file o (Some s) = record { not_read = λ path e. absurd cc; not_missing = λ name e. absurd cc }

reloc_no_file : (s : Seen) (o : Loaded) (r : Reloc) → IsNoFile (refusal_at s o r)
unfolding refusal_at
reloc_no_file s o r =
    elim (is_missing (choice_at s o r)) as (λ v. IsNoFile (cond v (option_map (missing_symbol o) (slice_get o.object.symbols r.symbol)) None))
    [ true ↦ symbol_no_file o (slice_get o.object.symbols r.symbol) | false ↦ none_no_file ]

relocs_no_file : (s : Seen) (o : Loaded) (relocs : List Reloc) → IsNoFile (first_missing s o relocs)
relocs_no_file s o [] = none_no_file
relocs_no_file s o (r ∷ rest) = either_no_file (refusal_at s o r) (first_missing s o rest) (reloc_no_file s o r) (relocs_no_file s o rest)

slots_no_file : (s : Seen) (now : Bool) (o : Loaded) → IsNoFile (cond now (first_missing s o o.object.plt_relocs) None)
slots_no_file s true o = relocs_no_file s o o.object.plt_relocs
slots_no_file s false o = none_no_file

objects_no_file : (ns : Namespace) (now : Bool) (objects : List Loaded) → IsNoFile (first_refusal ns now objects)
objects_no_file ns now [] = none_no_file
objects_no_file ns now (o ∷ rest) =
    let s = seen_in ns in
    either_no_file (refusal_of s now o) (first_refusal ns now rest)
    (either_no_file (first_missing s o o.object.relocs) (cond now (first_missing s o o.object.plt_relocs) None) (relocs_no_file s o o.object.relocs) (slots_no_file s now o))
    (objects_no_file ns now rest)

-- a refusal of a reference
of_refusal : (fault : Option DlFault) (f : DlFault) → cause_of fault ≡ causes.Refused f → fault ≡ Some f
of_refusal None f e = absurd cc
of_refusal (Some g) f e = cc

-- ---- what bind answers

pub refused_answers : (bind : Bind) (before after : LibraryAt) (fault : DlFault) (r : Result Answer AllocError) → IfOk r (λ a. a.end ≡ bare (causes.Refused fault)) → IfOk r (λ a. a.text ≡ refused_text fault)
    → Over before.files (IsRefused object_verdict (ask_of bind) [] before.misses after.misses fault) → ((path : List ℕ) → fault ≡ dl.ReadFault path → Rises before.faults after.faults)
    → IfOk r (λ a. WordsAnswer (Some (commands.Bind bind)) before after a.end a.text)
refused_answers bind before after fault (Err e) end text over counted = tt
refused_answers bind before after fault (Ok answer) end text over counted =
    let P : Cause → Type 0 = λ c. BindPrints bind over.files c answer.text in
    record {
      files = over.files;
      are = over.are;
      holds = record {
        comes = record {
          cause = causes.Refused fault;
          end_is = end;
          by = record { is = inr (record { fault = fault; is = over.holds.stops; cause_is = refl }); read_fault = λ path e. counted path cc; missing = λ name e. over.holds.missed name cc };
        };
        prints = subst P (sym (ap (λ (e : End). e.cause) end)) text;
      };
    }

-- a load's new objects come breadth-first from its root, which is the first where nothing was there
abbrev pub BreadthFirst : Type 0
BreadthFirst = (load : Load) (deep : Bool) (w : Walk) (ns : Seen) (root : ℕ) → Brings load w → IsRoot w root → ns.objects ≡ load.there → Closed load.next load.there → 1 ≤ load.next
    → map (λ (o : Loaded). o.serial) (records_of load deep w) ≡ new_of load.next (breadth (with_added ns (records_of load deep w)) root)

abbrev pub RootIsNew : Type 0
RootIsNew = (load : Load) (w : Walk) (root : ℕ) → load.there ≡ [] → Brings load w → IsRoot w root → root ≡ load.next

-- from 1 on is every serial but the linker's
from_one : (xs : List ℕ) → new_of 1 (without 0 xs) ≡ without 0 xs
from_one [] = refl
from_one (x ∷ xs) = grind (arith, common_steps, from_one xs)

breadth_from_one : (ns : Seen) (root : ℕ) → new_of 1 (breadth ns root) ≡ breadth ns root
unfolding breadth
breadth_from_one ns root = from_one (first_kept (levels ns root (length ns.objects)))

module _ (breadth_first : BreadthFirst) (root_new : RootIsNew) (bind : Bind) (plan : LoadPlan) (files : List File) (is : IsPlan object_verdict (ask_of bind) nothing_loaded plan files) where
  loads_is : BindLoads bind files plan.added
  loads_is = record { walk = is.walk; brings = is.brings; are = is.added }

  root_is_first : plan.root ≡ 1
  root_is_first = root_new (program_load bind files) is.walk plan.root refl is.brings is.root

  -- the namespace that a plan makes
  pub same_namespace : opened nothing_loaded plan.added plan.root true ≡ namespace_of plan.added
  same_namespace = ap (λ (root : ℕ). opened nothing_loaded plan.added root true) root_is_first

  in_order : map (λ (o : Loaded). o.serial) plan.added ≡ breadth (unopened plan.added) 1
  in_order =
      let brought : List Loaded = records_of (program_load bind files) false is.walk in
      ap (map (λ (o : Loaded). o.serial)) is.added
      ∙ breadth_first (program_load bind files) false is.walk (seen_in nothing_loaded) plan.root is.brings is.root refl tt (omega arith)
      ∙ breadth_from_one (unopened brought) plan.root
      ∙ ap (breadth (unopened brought)) root_is_first
      ∙ ap (λ (objects : List Loaded). breadth (unopened objects) 1) (sym is.added)

  loaded_comes : (before after : LibraryAt) → BindComes bind before after files (cause_of (first_refusal (namespace_of plan.added) bind.now plan.added))
  loaded_comes before after =
      let ns = namespace_of plan.added in
      let none = objects_no_file ns bind.now plan.added in
      record {
        is = inl (record { objects = plan.added; loads = loads_is; breadth_first = in_order; versions = is.versions; cause_is = refl });
        read_fault = λ path e. absurd (none.not_read path (of_refusal (first_refusal ns bind.now plan.added) (dl.ReadFault path) e));
        missing = λ name e. absurd (none.not_missing name (of_refusal (first_refusal ns bind.now plan.added) (dl.MissingLibrary name) e));
      }

loaded_prints : (bind : Bind) (files : List File) (objects : List Loaded) (fault : Option DlFault) → BindLoads bind files objects → BindPrints bind files (cause_of fault) (objects_text (namespace_of objects) fault)
loaded_prints bind files objects None loads = record { objects = objects; loads = loads; text_is = refl }
loaded_prints bind files objects (Some fault) loads = refl

loaded_answer : BreadthFirst → RootIsNew → (bind : Bind) (before after : LibraryAt) (plan : LoadPlan) (ns : Namespace) (answer : Answer) → ns ≡ namespace_of plan.added → (over : Over before.files (IsPlan object_verdict (ask_of bind) nothing_loaded plan))
    → answer.end ≡ bare (cause_of (first_refusal ns bind.now ns.objects)) → answer.text ≡ objects_text ns (first_refusal ns bind.now ns.objects) → WordsAnswer (Some (commands.Bind bind)) before after answer.end answer.text
loaded_answer law first bind before after plan ns answer same over end text =
    let C : Namespace → Type 0 = λ n. answer.end ≡ bare (cause_of (first_refusal n bind.now n.objects)) in
    let T : Namespace → Type 0 = λ n. answer.text ≡ objects_text n (first_refusal n bind.now n.objects) in
    let end' = subst C same end in
    let text' = subst T same text in
    let fault = first_refusal (namespace_of plan.added) bind.now plan.added in
    let P : Cause → Type 0 = λ c. BindPrints bind over.files c answer.text in
    let Q : List ℕ → Type 0 = λ t. BindPrints bind over.files (cause_of fault) t in
    record {
      files = over.files;
      are = over.are;
      holds = record {
        comes = record { cause = cause_of fault; end_is = end'; by = loaded_comes law first bind plan over.files over.holds before after };
        prints = subst P (sym (ap (λ (e : End). e.cause) end')) (subst Q (sym text') (loaded_prints bind over.files plan.added fault (loads_is law first bind plan over.files over.holds)));
      };
    }

pub loaded_answers : BreadthFirst → RootIsNew → (bind : Bind) (before after : LibraryAt) (plan : LoadPlan) (ns : Namespace) (r : Result Answer AllocError) → ns ≡ opened nothing_loaded plan.added plan.root true → Over before.files (IsPlan object_verdict (ask_of bind) nothing_loaded plan)
    → IfOk r (λ a. a.end ≡ bare (cause_of (first_refusal ns bind.now ns.objects))) → IfOk r (λ a. a.text ≡ objects_text ns (first_refusal ns bind.now ns.objects)) → IfOk r (λ a. WordsAnswer (Some (commands.Bind bind)) before after a.end a.text)
loaded_answers law first bind before after plan ns (Err e) same over end text = tt
loaded_answers law first bind before after plan ns (Ok answer) same over end text = loaded_answer law first bind before after plan ns answer (same ∙ same_namespace law first bind plan over.files over.holds) over end text
