-- Where no read fails, the files decide the end.
use Rattle.std.proofs.Common.{◌≡◌, ◌⊎◌, inl, inr, ℕ, Bool, List, [], Option, Some, None, refl, sym, ap, subst, ◌∙◌}
use Rattle.ld_base.specs.declared.fault.DlFault.{DlFault}
use Rattle.ld_base.specs.declared.fault.DlFault.TheVariants as dl
use Rattle.ld_base.specs.declared.linking.File.{File}
use Rattle.ld_base.specs.declared.linking.Loaded.{Loaded}
use Rattle.library_source.specs.Files.{file_at}
use Rattle.elf_object.specs.Verdict.{object_verdict}
use Rattle.load_walk.specs.Files.{reading_of, reading_until, load_of, load_until}
use Rattle.load_walk.specs.Plan.{Lacks, StopsFor}
use Rattle.load_walk.specs.declared.ask.LoadAsk.{LoadAsk}
use Rattle.scope_rule.specs.Needed.{version_fault}
use Rattle.scope_rule.specs.Finding.{Reading, here, unaccepted, absent, failed}
use Rattle.scope_rule.specs.Load.{Brings, Load, Stop, Stops, Walk, records_of, refuses}
use Rattle.cli_text.specs.Refusal.{first_refusal}
use Rattle.cli_words.specs.declared.command.Bind.{Bind}
use Rattle.cli_words.specs.declared.command.Command.{Command}
use Rattle.cli_words.specs.declared.command.Command.TheVariants as commands
use Rattle.ldso_cli.proofs.Assembling.{SourceLaw, asm_end}
use Rattle.ldso_cli.proofs.Same.{OneWalk, one_list}
use Rattle.ldso_cli.specs.Bind.{IsLoaded, IsNotLoaded, ask_of, cause_of, namespace_of, program_load}
use Rattle.ldso_cli.specs.Command.{Comes, NoReadFails}
use Rattle.ldso_cli.specs.Dump.{ReadsAs, dump_cause, program_read}
use Rattle.ldso_cli.specs.End.{bare}
use Rattle.ldso_cli.specs.Outside.{LibraryAt}
use Rattle.ldso_cli.specs.declared.outcome.Cause.{Cause}
use Rattle.ldso_cli.specs.declared.outcome.Cause.TheVariants as causes
use Rattle.ldso_cli.specs.declared.outcome.End.{End}

abbrev pub OneStop : Type 0
OneStop = (load : Load) (first second : Stop) → Stops load first → Stops load second → first ≡ second

abbrev pub NotBoth : Type 0
NotBoth = (load : Load) (walk : Walk) (stop : Stop) → Brings load walk → Stops load stop → ⊥

-- ---- why bind's load is refused, where no read fails

until_same : (files : List File) (ask : LoadAsk) (fault : DlFault) → ((path : List ℕ) → fault ≡ dl.ReadFault path → ⊥) → reading_until object_verdict files ask fault ≡ reading_of object_verdict files ask
until_same files ask (dl.ReadFault path) quiet = absurd (quiet path refl)
until_same files ask _ quiet = refl

stops_over : (bind : Bind) (files : List File) (fault : DlFault) → ((path : List ℕ) → fault ≡ dl.ReadFault path → ⊥) → Stops (load_until object_verdict fault (ask_of bind) [] files) (refuses fault)
    → Stops (program_load bind files) (refuses fault)
stops_over bind files fault quiet stops = let P : (List ℕ → Reading) → Type 0 = λ r. Stops (load_of (ask_of bind) [] r) (refuses fault) in subst P (until_same files (ask_of bind) fault quiet) stops

-- a load stops, or lacks a version
pub record HasFault (bind : Bind) (files : List File) (cause : Cause) : Type 0 where
  pub fault : DlFault
  pub is : Stops (program_load bind files) (refuses fault) ⊎ Lacks (program_load bind files) Bool.false fault
  pub cause_is : cause ≡ causes.Refused fault

stopped : (bind : Bind) (files : List File) (fault : DlFault) → ((path : List ℕ) → fault ≡ dl.ReadFault path → ⊥) → StopsFor object_verdict (ask_of bind) [] fault files
    → Stops (program_load bind files) (refuses fault) ⊎ Lacks (program_load bind files) Bool.false fault
stopped bind files fault quiet (inl stops) = inl (stops_over bind files fault quiet stops)
stopped bind files fault quiet (inr lacks) = inr lacks

pub settled : (bind : Bind) (files : List File) (cause : Cause) → IsNotLoaded bind files cause → ((path : List ℕ) → cause ≡ causes.Refused (dl.ReadFault path) → ⊥) → HasFault bind files cause
settled bind files cause refused quiet = record {
  fault = refused.fault;
  is = stopped bind files refused.fault (λ path e. quiet path (refused.cause_is ∙ ap causes.Refused e)) refused.is;
  cause_is = refused.cause_is;
}

module _ (one_walk : OneWalk) (one_stop : OneStop) (not_both : NotBoth) (bind : Bind) (files : List File) where
  not_loaded : (cause : Cause) (fault : DlFault) → IsLoaded bind files cause → Stops (program_load bind files) (refuses fault) ⊎ Lacks (program_load bind files) Bool.false fault → ⊥
  not_loaded cause fault loaded (inl stops) = not_both (program_load bind files) loaded.loads.walk (refuses fault) loaded.loads.brings stops
  not_loaded cause fault loaded (inr lacks) =
      let same : loaded.objects ≡ records_of (program_load bind files) Bool.false lacks.walk = loaded.loads.are ∙ ap (records_of (program_load bind files) Bool.false) (one_walk (program_load bind files) loaded.loads.walk lacks.walk loaded.loads.brings lacks.brings) in
      let e : None ≡ Some fault = sym loaded.versions ∙ ap (version_fault []) same ∙ lacks.lacks in
      absurd cc

  one_fault : (f g : DlFault) → Stops (program_load bind files) (refuses f) ⊎ Lacks (program_load bind files) Bool.false f
      → Stops (program_load bind files) (refuses g) ⊎ Lacks (program_load bind files) Bool.false g → f ≡ g
  one_fault f g (inl p) (inl q) = let e : refuses f ≡ refuses g = one_stop (program_load bind files) (refuses f) (refuses g) p q in cc
  one_fault f g (inl p) (inr q) = absurd (not_both (program_load bind files) q.walk (refuses f) q.brings p)
  one_fault f g (inr p) (inl q) = absurd (not_both (program_load bind files) p.walk (refuses g) p.brings q)
  one_fault f g (inr p) (inr q) =
      let same : p.walk ≡ q.walk = one_walk (program_load bind files) p.walk q.walk p.brings q.brings in
      let e : Some f ≡ Some g = sym p.lacks ∙ ap (λ (w : Walk). version_fault [] (records_of (program_load bind files) Bool.false w)) same ∙ q.lacks in
      cc

  bind_end : (a b : Cause) → IsLoaded bind files a ⊎ IsNotLoaded bind files a → ((path : List ℕ) → a ≡ causes.Refused (dl.ReadFault path) → ⊥) → IsLoaded bind files b ⊎ IsNotLoaded bind files b
      → ((path : List ℕ) → b ≡ causes.Refused (dl.ReadFault path) → ⊥) → a ≡ b
  bind_end a b (inl p) quiet (inl q) quiet' =
      p.cause_is ∙ ap (λ (objects : List Loaded). cause_of (first_refusal (namespace_of objects) bind.now objects)) (one_list one_walk bind files p.objects q.objects p.loads q.loads) ∙ sym q.cause_is
  bind_end a b (inl p) quiet (inr q) quiet' = let fault = settled bind files b q quiet' in absurd (not_loaded a fault.fault p fault.is)
  bind_end a b (inr p) quiet (inl q) quiet' = let fault = settled bind files a p quiet in absurd (not_loaded b fault.fault q fault.is)
  bind_end a b (inr p) quiet (inr q) quiet' =
      let f = settled bind files a p quiet in
      let g = settled bind files b q quiet' in
      f.cause_is ∙ ap causes.Refused (one_fault f.fault g.fault f.is g.is) ∙ sym g.cause_is

-- ---- what dump's file is, where its read doesn't fail

gives_is : (path : List ℕ) (before after : LibraryAt) (file : Option (List ℕ)) (reading : Reading) → ReadsAs before after file reading → (dump_cause path reading ≡ causes.Refused (dl.ReadFault path) → ⊥) → program_read file ≡ reading
gives_is path before after file (here o table) gives quiet = gives
gives_is path before after file (unaccepted broken) gives quiet = gives
gives_is path before after file absent gives quiet = gives.0
gives_is path before after file failed gives quiet = absurd (quiet refl)

pub one_end : OneWalk → OneStop → NotBoth → SourceLaw → (command : Command) (files : List File) (before after before' after' : LibraryAt) (a b : End) → Comes command before after files a → NoReadFails a → Comes command before' after' files b → NoReadFails b → a ≡ b
one_end one_walk one_stop not_both sources (commands.Bind bind) files before after before' after' a b p quiet q quiet' =
    let fails : (path : List ℕ) → p.cause ≡ causes.Refused (dl.ReadFault path) → ⊥ = λ path e. quiet path (ap (λ (end : End). end.cause) p.end_is ∙ e) in
    let fails' : (path : List ℕ) → q.cause ≡ causes.Refused (dl.ReadFault path) → ⊥ = λ path e. quiet' path (ap (λ (end : End). end.cause) q.end_is ∙ e) in
    p.end_is ∙ ap bare (bind_end one_walk one_stop not_both bind files p.cause q.cause p.by.is fails q.by.is fails') ∙ sym q.end_is
one_end one_walk one_stop not_both sources (commands.Dump path) files before after before' after' a b p quiet q quiet' =
    let one = gives_is path before after (file_at files path) p.by.reading p.by.gives (λ e. quiet path (ap (λ (end : End). end.cause) p.end_is ∙ p.by.cause_is ∙ e)) in
    let two = gives_is path before' after' (file_at files path) q.by.reading q.by.gives (λ e. quiet' path (ap (λ (end : End). end.cause) q.end_is ∙ q.by.cause_is ∙ e)) in
    p.end_is ∙ ap bare (p.by.cause_is ∙ ap (dump_cause path) (sym one ∙ two) ∙ sym q.by.cause_is) ∙ sym q.end_is
one_end one_walk one_stop not_both sources (commands.Assemble path) files before after before' after' a b p quiet q quiet' =
    let fails : (path : List ℕ) → p.cause ≡ causes.Refused (dl.ReadFault path) → ⊥ = λ path e. quiet path (ap (λ (end : End). end.cause) p.end_is ∙ e) in
    let fails' : (path : List ℕ) → q.cause ≡ causes.Refused (dl.ReadFault path) → ⊥ = λ path e. quiet' path (ap (λ (end : End). end.cause) q.end_is ∙ e) in
    p.end_is ∙ ap bare (asm_end sources path before after before' after' files p.cause q.cause p.by fails q.by fails') ∙ sym q.end_is
one_end one_walk one_stop not_both sources (commands.Turns turns) files before after before' after' a b p quiet q quiet' = absurd p
one_end one_walk one_stop not_both sources (commands.Run run) files before after before' after' a b p quiet q quiet' = absurd p
one_end one_walk one_stop not_both sources (commands.Check check) files before after before' after' a b p quiet q quiet' = absurd p
one_end one_walk one_stop not_both sources (commands.Generate number) files before after before' after' a b p quiet q quiet' = absurd p
