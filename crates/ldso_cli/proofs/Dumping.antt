-- How dump ends.
use Rattle.std.proofs.Common.{◌≡◌, ℕ, List, [], ◌∷◌, Option, Some, None, Result, Ok, Err, true, refl, sym, ap, subst, ◌∙◌}
use Rattle.std.specs.Prelude.{IfOk, IfSome}
use Rattle.std.specs.Global.{Vec}
use Rattle.std.specs.Result.{IsErrOf}
use Rattle.std.specs.Str.{bytes_eq}
use Rattle.std.specs.declared.alloc.AllocError.{AllocError}
use Rattle.std.proofs.lemmas.Slice.Eq.{bytes_eq-Decides}
use Rattle.ld_base.specs.declared.fault.NotAccepted.{NotAccepted}
use Rattle.ld_base.specs.declared.linking.File.{File}
use Rattle.ld_base.specs.declared.object.Object.{Object}
use Rattle.ld_base.specs.declared.parts.HashTable.{HashTable}
use Rattle.elf_object.specs.Verdict.{object_verdict}
use Rattle.library_source.specs.Count.{Rises}
use Rattle.library_source.specs.Files.{file_at}
use Rattle.library_source.specs.declared.library.ReadError.{ReadError}
use Rattle.library_source.specs.declared.library.ReadError.TheVariants.{Missing}
use Rattle.load_walk.specs.Files.{as_read}
use Rattle.library_source.specs.Files.{Over}
use Rattle.scope_rule.specs.Finding.{Reading, here, unaccepted, absent, failed}
use Rattle.cli_words.specs.declared.command.Command.TheVariants as commands
use Rattle.ldso_cli.specs.Command.{WordsAnswer}
use Rattle.ldso_cli.specs.Dump.{ReadsAs, DumpPrints, dump_cause, program_read, reading_text}
use Rattle.ldso_cli.specs.End.{bare}
use Rattle.ldso_cli.specs.Outside.{LibraryAt}
use Rattle.ldso_cli.specs.declared.answer.Answer.{Answer}
use Rattle.ldso_cli.specs.declared.outcome.Cause.{Cause}
use Rattle.ldso_cli.specs.declared.outcome.End.{End}

-- where the files are told, a path that was missing has none of them
pub told_missing : (told : Option (List File)) (path : List ℕ) (r : Result (Vec ℕ) ReadError) → IfSome told (λ all. IsErrOf r Missing → file_at all path ≡ None) → IsErrOf r Missing → IfSome told (λ all. file_at all path ≡ None)
told_missing None path r tells is = tt
told_missing (Some all) path r tells is = tells is

-- files that have this at a path; the files that were told, where they were
pub files_at : (told : Option (List File)) (path : List ℕ) (file : Option (List ℕ)) → IfSome told (λ all. file_at all path ≡ file) → Over told (λ files. file_at files path ≡ file)
files_at (Some all) path file h = record { files = all; are = refl; holds = h }
files_at None path None h = record { files = []; are = tt; holds = refl }
files_at None path (Some bytes) h = record {
  files = record { path = path; bytes = bytes } ∷ [];
  are = tt;
  holds = let e : bytes_eq path path ≡ true = (bytes_eq-Decides path path).1 refl in rw e refl;
}

-- what is read of a file decides the text
prints : (path : List ℕ) (files : List File) (file : Option (List ℕ)) (reading : Reading) → file_at files path ≡ file → program_read file ≡ reading → DumpPrints path files (dump_cause path reading) (reading_text path reading)
prints path files file (here o table) at is = record { object = o; table = table; is = ap program_read at ∙ is; text_is = refl }
prints path files file (unaccepted broken) at is = refl
prints path files file absent at is = refl
prints path files file failed at is = refl

-- the reading that a path gave, with the files that have this at it
record IsGiven (path : List ℕ) (before after : LibraryAt) (reading : Reading) : Type 0 where
  pub file : Option (List ℕ)
  pub told : IfSome before.files (λ all. file_at all path ≡ file)
  pub gives : ReadsAs before after file reading
  pub prints : (files : List File) → file_at files path ≡ file → DumpPrints path files (dump_cause path reading) (reading_text path reading)

answer_over : (path : List ℕ) (before after : LibraryAt) (reading : Reading) (answer : Answer) → IsGiven path before after reading → answer.end ≡ bare (dump_cause path reading) → answer.text ≡ reading_text path reading
    → WordsAnswer (Some (commands.Dump path)) before after answer.end answer.text
answer_over path before after reading answer given end text =
    let over = files_at before.files path given.file given.told in
    let P : Option (List ℕ) → Type 0 = λ f. ReadsAs before after f reading in
    let Q : Cause → Type 0 = λ c. DumpPrints path over.files c answer.text in
    let R : List ℕ → Type 0 = λ t. DumpPrints path over.files (dump_cause path reading) t in
    record {
      files = over.files;
      are = over.are;
      holds = record {
        comes = record { cause = dump_cause path reading; end_is = end; by = record { reading = reading; gives = subst P (sym over.holds) given.gives; cause_is = refl } };
        prints = subst Q (sym (ap (λ (e : End). e.cause) end)) (subst R (sym text) (given.prints over.files over.holds));
      };
    }

dump_answers : (path : List ℕ) (before after : LibraryAt) (reading : Reading) (r : Result Answer AllocError) → IsGiven path before after reading → IfOk r (λ a. a.end ≡ bare (dump_cause path reading)) → IfOk r (λ a. a.text ≡ reading_text path reading)
    → IfOk r (λ a. WordsAnswer (Some (commands.Dump path)) before after a.end a.text)
dump_answers path before after reading (Err e) given end text = tt
dump_answers path before after reading (Ok answer) given end text = answer_over path before after reading answer given end text

gives_read : (before after : LibraryAt) (bytes : List ℕ) (verdict : Result (Object × HashTable) NotAccepted) → object_verdict bytes true ≡ verdict → ReadsAs before after (Some bytes) (as_read verdict)
gives_read before after bytes (Ok read) is = ap as_read is
gives_read before after bytes (Err broken) is = ap as_read is

pub shown_answers : (path : List ℕ) (before after : LibraryAt) (bytes : List ℕ) (r : Result Answer AllocError) → IfSome before.files (λ all. file_at all path ≡ Some bytes)
    → IfOk r (λ a. a.end ≡ bare (dump_cause path (program_read (Some bytes)))) → IfOk r (λ a. a.text ≡ reading_text path (program_read (Some bytes)))
    → IfOk r (λ a. WordsAnswer (Some (commands.Dump path)) before after a.end a.text)
shown_answers path before after bytes r told end text =
    dump_answers path before after (program_read (Some bytes)) r (record {
      file = Some bytes;
      told = told;
      gives = gives_read before after bytes (object_verdict bytes true) refl;
      prints = λ files at. prints path files (Some bytes) (program_read (Some bytes)) at refl;
    }) end text

pub missing_answers : (path : List ℕ) (before after : LibraryAt) (r : Result Answer AllocError) → IfSome before.files (λ all. file_at all path ≡ None) → Rises before.misses after.misses
    → IfOk r (λ a. a.end ≡ bare (dump_cause path absent)) → IfOk r (λ a. a.text ≡ reading_text path absent) → IfOk r (λ a. WordsAnswer (Some (commands.Dump path)) before after a.end a.text)
missing_answers path before after r told missed end text =
    dump_answers path before after absent r (record { file = None; told = told; gives = (refl, missed); prints = λ files at. refl }) end text

pub some_file : (path : List ℕ) (told : Option (List File)) → (file : Option (List ℕ)) × IfSome told (λ all. file_at all path ≡ file)
some_file path None = (None, tt)
some_file path (Some all) = (file_at all path, refl)

pub failed_answers : (path : List ℕ) (before after : LibraryAt) (r : Result Answer AllocError) → Rises before.faults after.faults
    → IfOk r (λ a. a.end ≡ bare (dump_cause path failed)) → IfOk r (λ a. a.text ≡ reading_text path failed) → IfOk r (λ a. WordsAnswer (Some (commands.Dump path)) before after a.end a.text)
failed_answers path before after r counted end text =
    let some = some_file path before.files in
    dump_answers path before after failed r (record { file = some.0; told = some.1; gives = counted; prints = λ files at. refl }) end text
