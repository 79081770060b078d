-- How asm ends.
use Rattle.std.proofs.Common.{◌≡◌, ℕ, List, Option, Some, None, Result, Ok, Err, refl, sym, ap, subst, ◌∙◌}
use Rattle.std.specs.Prelude.{IfOk, IfSome}
use Rattle.std.specs.declared.alloc.AllocError.{AllocError}
use Rattle.ld_base.specs.declared.fault.AsmCause.{AsmCause}
use Rattle.ld_base.specs.declared.fault.DlFault.TheVariants as dl
use Rattle.ld_base.specs.declared.linking.File.{File}
use Rattle.library_source.specs.Count.{Rises}
use Rattle.library_source.specs.Files.{file_at}
use Rattle.asm_layout.specs.AsmDenotes.Denotes.{Denotes, AsmBroken}
use Rattle.cli_words.specs.declared.command.Command.TheVariants as commands
use Rattle.ldso_cli.specs.Asm.{SourceRead, source, missing, failed, SourceComes, ReadsSource, GivesCause, AsmComes, AsmPrints, IsOfFile}
use Rattle.ldso_cli.specs.Command.{WordsAnswer, EndsBare}
use Rattle.ldso_cli.specs.End.{bare}
use Rattle.ldso_cli.specs.Outside.{LibraryAt}
use Rattle.ldso_cli.specs.Status.{refused_text}
use Rattle.ldso_cli.specs.declared.answer.Answer.{Answer}
use Rattle.ldso_cli.specs.declared.outcome.Cause.{Cause}
use Rattle.ldso_cli.specs.declared.outcome.Cause.TheVariants as causes
use Rattle.ldso_cli.specs.declared.outcome.End.{End}
use Rattle.ldso_cli.proofs.Dumping.{files_at, some_file}

-- ---- what asm answers

-- what a path gave, with the files that have this at it, the cause that follows, and the text
record IsGiven (path : List ℕ) (before after : LibraryAt) (cause : Cause) (text : List ℕ) : Type 0 where
  pub file : Option (List ℕ)
  pub told : IfSome before.files (λ all. file_at all path ≡ file)
  pub read : SourceRead
  pub reads : ReadsSource before after file read
  pub gives : GivesCause path read cause
  pub prints : (files : List File) → file_at files path ≡ file → AsmPrints path files cause text

answer_over : (path : List ℕ) (before after : LibraryAt) (cause : Cause) (answer : Answer) → IsGiven path before after cause answer.text → answer.end ≡ bare cause
    → WordsAnswer (Some (commands.Assemble path)) before after answer.end answer.text
answer_over path before after cause answer given end =
    let over = files_at before.files path given.file given.told in
    let P : Option (List ℕ) → Type 0 = λ f. ReadsSource before after f given.read in
    let Q : Cause → Type 0 = λ c. AsmPrints path over.files c answer.text in
    record {
      files = over.files;
      are = over.are;
      holds = record {
        comes = record { cause = cause; end_is = end; by = record { read = given.read; reads = subst P (sym over.holds) given.reads; gives = given.gives } };
        prints = subst Q (sym (ap (λ (e : End). e.cause) end)) (given.prints over.files over.holds);
      };
    }

source_prints : (path bytes text : List ℕ) (files : List File) (cause : Cause) → file_at files path ≡ Some bytes → SourceComes bytes cause text → AsmPrints path files cause text
source_prints path bytes text files causes.Done at comes = record { source = bytes; is = at; comes = comes }
source_prints path bytes text files (causes.AsmRefused line why) at comes = record { source = bytes; is = at; comes = comes }
source_prints path bytes text files (causes.Refused fault) at comes = absurd comes
source_prints path bytes text files (causes.Ran run_end) at comes = absurd comes
source_prints path bytes text files (causes.TraceRefused line why) at comes = absurd comes
source_prints path bytes text files causes.Usage at comes = absurd comes
source_prints path bytes text files causes.WriteFault at comes = absurd comes
source_prints path bytes text files causes.Memory at comes = absurd comes

pub source_answers : (path : List ℕ) (before after : LibraryAt) (bytes : List ℕ) (r : Result Answer AllocError) → IfSome before.files (λ all. file_at all path ≡ Some bytes)
    → IfOk r (λ a. EndsBare (λ cause. SourceComes bytes cause a.text) a.end) → IfOk r (λ a. WordsAnswer (Some (commands.Assemble path)) before after a.end a.text)
source_answers path before after bytes (Err e) told ends = tt
source_answers path before after bytes (Ok answer) told ends =
    answer_over path before after ends.cause answer (record {
      file = Some bytes;
      told = told;
      read = source bytes;
      reads = refl;
      gives = (answer.text, ends.by);
      prints = λ files at. source_prints path bytes answer.text files ends.cause at ends.by;
    }) ends.end_is

pub missing_answers : (path : List ℕ) (before after : LibraryAt) (r : Result Answer AllocError) → IfSome before.files (λ all. file_at all path ≡ None) → Rises before.misses after.misses
    → IfOk r (λ a. a.end ≡ bare (causes.Refused (dl.MissingLibrary path))) → IfOk r (λ a. a.text ≡ refused_text (dl.MissingLibrary path))
    → IfOk r (λ a. WordsAnswer (Some (commands.Assemble path)) before after a.end a.text)
missing_answers path before after (Err e) told missed end text = tt
missing_answers path before after (Ok answer) told missed end text =
    answer_over path before after (causes.Refused (dl.MissingLibrary path)) answer (record {
      file = None;
      told = told;
      read = missing;
      reads = (refl, missed);
      gives = refl;
      prints = λ files at. text;
    }) end

pub failed_answers : (path : List ℕ) (before after : LibraryAt) (r : Result Answer AllocError) → Rises before.faults after.faults
    → IfOk r (λ a. a.end ≡ bare (causes.Refused (dl.ReadFault path))) → IfOk r (λ a. a.text ≡ refused_text (dl.ReadFault path))
    → IfOk r (λ a. WordsAnswer (Some (commands.Assemble path)) before after a.end a.text)
failed_answers path before after (Err e) counted end text = tt
failed_answers path before after (Ok answer) counted end text =
    let some = some_file path before.files in
    answer_over path before after (causes.Refused (dl.ReadFault path)) answer (record {
      file = some.0;
      told = some.1;
      read = failed;
      reads = counted;
      gives = refl;
      prints = λ files at. text;
    }) end

-- ---- the files decide it

-- what is known of sources
abbrev pub OneObject : Type 0
OneObject = (source first second : List ℕ) → Denotes source first → Denotes source second → first ≡ second

abbrev pub NeverBoth : Type 0
NeverBoth = (source bytes : List ℕ) (number : ℕ) (cause : AsmCause) → Denotes source bytes → AsmBroken source number cause → ⊥

abbrev pub OneFault : Type 0
OneFault = (source : List ℕ) (first second : ℕ) (cause cause' : AsmCause) → AsmBroken source first cause → AsmBroken source second cause' → (first ≡ second) × (cause ≡ cause')

-- what is known of sources, all together
pub record SourceLaw : Type 0 where
  pub one : OneObject
  pub never_both : NeverBoth
  pub one_fault : OneFault

one_comes : SourceLaw → (bytes text text' : List ℕ) (a b : Cause) → SourceComes bytes a text → SourceComes bytes b text' → a ≡ b
one_comes law bytes text text' causes.Done causes.Done p q = refl
one_comes law bytes text text' causes.Done (causes.AsmRefused line why) p q = absurd (law.never_both bytes text line why p q.0)
one_comes law bytes text text' (causes.AsmRefused line why) causes.Done p q = absurd (law.never_both bytes text' line why q p.0)
one_comes law bytes text text' (causes.AsmRefused line why) (causes.AsmRefused line' why') p q =
    let e = law.one_fault bytes line line' why why' p.0 q.0 in
    ap (λ (n : ℕ). causes.AsmRefused n why) e.0 ∙ ap (causes.AsmRefused line') e.1
one_comes law bytes text text' (causes.Refused fault) b p q = absurd p
one_comes law bytes text text' (causes.Ran run_end) b p q = absurd p
one_comes law bytes text text' (causes.TraceRefused line why) b p q = absurd p
one_comes law bytes text text' causes.Usage b p q = absurd p
one_comes law bytes text text' causes.WriteFault b p q = absurd p
one_comes law bytes text text' causes.Memory b p q = absurd p
one_comes law bytes text text' causes.Done (causes.Refused fault) p q = absurd q
one_comes law bytes text text' causes.Done (causes.Ran run_end) p q = absurd q
one_comes law bytes text text' causes.Done (causes.TraceRefused line why) p q = absurd q
one_comes law bytes text text' causes.Done causes.Usage p q = absurd q
one_comes law bytes text text' causes.Done causes.WriteFault p q = absurd q
one_comes law bytes text text' causes.Done causes.Memory p q = absurd q
one_comes law bytes text text' (causes.AsmRefused line why) (causes.Refused fault) p q = absurd q
one_comes law bytes text text' (causes.AsmRefused line why) (causes.Ran run_end) p q = absurd q
one_comes law bytes text text' (causes.AsmRefused line why) (causes.TraceRefused at reason) p q = absurd q
one_comes law bytes text text' (causes.AsmRefused line why) causes.Usage p q = absurd q
one_comes law bytes text text' (causes.AsmRefused line why) causes.WriteFault p q = absurd q
one_comes law bytes text text' (causes.AsmRefused line why) causes.Memory p q = absurd q

one_given : SourceLaw → (path : List ℕ) (before after before' after' : LibraryAt) (file : Option (List ℕ)) (read read' : SourceRead) (a b : Cause)
    → ReadsSource before after file read → GivesCause path read a → ((path : List ℕ) → a ≡ causes.Refused (dl.ReadFault path) → ⊥)
    → ReadsSource before' after' file read' → GivesCause path read' b → ((path : List ℕ) → b ≡ causes.Refused (dl.ReadFault path) → ⊥) → a ≡ b
one_given law path before after before' after' file failed read' a b reads gives quiet reads' gives' quiet' = absurd (quiet path gives)
one_given law path before after before' after' file (source bytes) failed a b reads gives quiet reads' gives' quiet' = absurd (quiet' path gives')
one_given law path before after before' after' file missing failed a b reads gives quiet reads' gives' quiet' = absurd (quiet' path gives')
one_given law path before after before' after' file missing missing a b reads gives quiet reads' gives' quiet' = gives ∙ sym gives'
one_given law path before after before' after' file missing (source bytes) a b reads gives quiet reads' gives' quiet' =
    let e : None ≡ Some bytes = sym reads.0 ∙ reads' in absurd cc
one_given law path before after before' after' file (source bytes) missing a b reads gives quiet reads' gives' quiet' =
    let e : Some bytes ≡ None = sym reads ∙ reads'.0 in absurd cc
one_given law path before after before' after' file (source bytes) (source bytes') a b reads gives quiet reads' gives' quiet' =
    let e : Some bytes' ≡ Some bytes = sym reads' ∙ reads in
    let same : bytes' ≡ bytes = cc in
    one_comes law bytes gives.0 gives'.0 a b gives.1 (subst (λ (it : List ℕ). SourceComes it b gives'.0) same gives'.1)

pub asm_end : SourceLaw → (path : List ℕ) (before after before' after' : LibraryAt) (files : List File) (a b : Cause)
    → AsmComes path before after files a → ((path : List ℕ) → a ≡ causes.Refused (dl.ReadFault path) → ⊥)
    → AsmComes path before' after' files b → ((path : List ℕ) → b ≡ causes.Refused (dl.ReadFault path) → ⊥) → a ≡ b
asm_end law path before after before' after' files a b p quiet q quiet' =
    one_given law path before after before' after' (file_at files path) p.read q.read a b p.reads p.gives quiet q.reads q.gives quiet'

one_source : (path : List ℕ) (files : List File) (cause : Cause) (a b : List ℕ) (p : IsOfFile path files cause a) (q : IsOfFile path files cause b) → q.source ≡ p.source
one_source path files cause a b p q = let e : Some q.source ≡ Some p.source = sym q.is ∙ p.is in cc

pub asm_text : OneObject → (path : List ℕ) (files : List File) (cause : Cause) (a b : List ℕ) → AsmPrints path files cause a → AsmPrints path files cause b → a ≡ b
asm_text law path files causes.Done a b p q =
    law p.source a b p.comes (subst (λ (it : List ℕ). Denotes it b) (one_source path files causes.Done a b p q) q.comes)
asm_text law path files (causes.AsmRefused line why) a b p q = p.comes.1 ∙ sym q.comes.1
asm_text law path files (causes.Refused fault) a b p q = p ∙ sym q
asm_text law path files (causes.Ran run_end) a b p q = absurd p
asm_text law path files (causes.TraceRefused line why) a b p q = absurd p
asm_text law path files causes.Usage a b p q = absurd p
asm_text law path files causes.WriteFault a b p q = absurd p
asm_text law path files causes.Memory a b p q = absurd p
