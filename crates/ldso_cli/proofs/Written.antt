-- An answer, as it was written.
use Rattle.std.proofs.Common.{◌≡◌, ◌⊎◌, inl, inr, Option, Some, None, Result, Ok, Err, refl, ap, subst, sym}
use Rattle.std.specs.Prelude.{IfOk}
use Rattle.std.specs.Result.{MatchResult}
use Rattle.std.specs.declared.alloc.AllocError.{AllocError}
use Rattle.cli_words.specs.declared.command.Command.{Command}
use Rattle.library_source.specs.Count.{Rises}
use Rattle.ldso_cli.specs.Command.{WordsAnswer}
use Rattle.ldso_cli.specs.Complete.{Completes, IsDone}
use Rattle.ldso_cli.specs.Ends.{WordsEnd, Handing, IsUnanswered, Written}
use Rattle.ldso_cli.specs.Headline.{Headline}
use Rattle.ldso_cli.specs.Laws.{AnswersAreHistories, AnswersComplete}
use Rattle.ldso_cli.specs.Outside.{LibraryAt, SinkAt}
use Rattle.ldso_cli.specs.declared.answer.Answer.{Answer}
use Rattle.ldso_cli.specs.declared.outcome.Cause.TheVariants as causes
use Rattle.ldso_cli.specs.declared.outcome.End.{End}

pub ended : (handed : Handing) (command : Option Command) (before after : LibraryAt) (old new : SinkAt) (r : Result Answer AllocError) (end : End) → IfOk r (λ a. WordsAnswer command before after a.end a.text)
    → MatchResult r (λ a. Written handed a.end a.text old new end) (λ _. IsUnanswered handed old new end) → WordsEnd handed command before after old new end
ended handed command before after old new (Ok a) end answers written = inl (record { own = a.end; text = a.text; answers = answers; written = written })
ended handed command before after old new (Err e) end answers unanswered = inr unanswered

-- what is kept stays, however the answer was written
pub keeps : (handed : Handing) (command : Option Command) (before after : LibraryAt) (old new : SinkAt) (end : End) → AnswersAreHistories → WordsEnd handed command before after old new end
    → Headline command before after end
keeps handed command before after old new end law (inr unanswered) =
    subst (Headline command before after) (sym unanswered.end_is) refl
keeps handed command before after old new end law (inl answered) =
    let own : Headline command before after answered.own = law command before after answered.own answered.text answered.answers in
    elim answered.written [
      | inl whole ↦ subst (Headline command before after) (sym whole.end_is) own
      | inr (inl short) ↦ subst (Headline command before after) (sym short.end_is) own
      | inr (inr stopped) ↦ subst (Headline command before after) (sym stopped.end_is) own
    ]

-- and a command that did what it was asked ends so, where its sink doesn't fail
pub completes : (handed : Handing) (command : Option Command) (before after : LibraryAt) (old new : SinkAt) (end : End) → AnswersComplete → WordsEnd handed command before after old new end
    → Completes command before after old new end
completes handed None before after old new end law ends = tt
completes handed (Some command) before after old new end law (inr unanswered) = λ files are well still can. inr (ap (λ (e : End). e.cause) unanswered.end_is)
completes handed (Some command) before after old new end law (inl answered) = λ files are well still can.
    let own : IsDone command answered.own = law command before after answered.own answered.text files answered.answers are well can in
    by answered.written own still
  where
    by : Written handed answered.own answered.text old new end → IsDone command answered.own → (Rises old.faults new.faults → ⊥) → IsDone command end ⊎ (end.cause ≡ causes.Memory)
    by (inl whole) own still = inl (subst (IsDone command) (sym whole.end_is) own)
    by (inr (inl short)) own still = absurd (still short.counted)
    by (inr (inr stopped)) own still = inr (ap (λ (e : End). e.cause) stopped.end_is)
