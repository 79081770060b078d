use Rattle.std.proofs.Common.{◌≡◌, Option, ap, subst, sym, String, Global, List}
use Rattle.cli_words.specs.declared.command.Command.{Command}
use Rattle.cli_read.specs.SaidWords.Words.{texts}
use Rattle.ldso_cli.specs.Complete.{Completes}
use Rattle.ldso_cli.specs.Ends.{WordsEnd, IsCaused}
use Rattle.ldso_cli.specs.Headline.{Headline}
use Rattle.ldso_cli.specs.Outside.{handed_to, library_at, sink_at}
use Rattle.ldso_cli.specs.declared.outcome.Cause.{Cause}
use Rattle.ldso_cli.specs.declared.outcome.End.{End}
use Rattle.ldso_cli.proofs.Asking.{along, of_each}
use Rattle.ldso_cli.proofs.Causes.{end_caused}
use Rattle.ldso_cli.proofs.Written.{completes, ended, keeps}
use Rattle.ldso_cli.proofs.top.ldso.Goals as goal

pub returns-clause-ends : goal.returns-clause-ends
returns-clause-ends g c =
    let before = library_at g.L.Library.files g.L.Library.faults g.L.Library.misses c.args.library in
    let after = library_at g.L.Library.files g.L.Library.faults g.L.Library.misses c.answer-answer.result.1 in
    let old = sink_at g.K.Sink.taken g.K.Sink.faults c.args.out.now in
    let new = sink_at g.K.Sink.taken g.K.Sink.faults c.write_answer-end.new.out in
    let handed = handed_to g.K.Sink.writes c.args.out.now c.write_answer-end.new.out in
    let P : Option Command → End → Type 0 = λ command end. WordsEnd handed command before after old new end in
    along (texts c.as_slice.result.now) (texts c.args.words.items) (ap (λ (ws : List (String Global)). texts ws) c.as_slice.ensures.value)
    (λ command answers. subst (P command) (sym c.into_outcome.ensures.end) (ended handed command before after old new c.answer-answer.result.0 c.write_answer-end.result answers c.write_answer-end.ensures.written))
    c.answer-answer.ensures.answers

pub returns-clause-causes : goal.returns-clause-causes
returns-clause-causes g c =
    let before = library_at g.L.Library.files g.L.Library.faults g.L.Library.misses c.args.library in
    let after = library_at g.L.Library.files g.L.Library.faults g.L.Library.misses c.answer-answer.result.1 in
    let old = sink_at g.K.Sink.taken g.K.Sink.faults c.args.out.now in
    let new = sink_at g.K.Sink.taken g.K.Sink.faults c.write_answer-end.new.out in
    let handed = handed_to g.K.Sink.writes c.args.out.now c.write_answer-end.new.out in
    let same : c.into_outcome.result.cause ≡ c.write_answer-end.result.cause = ap (λ (e : End). e.cause) c.into_outcome.ensures.end in
    let P : Option Command → Cause → Type 0 = λ command cause. IsCaused command before after old new cause in
    of_each c.words_are_one_command.ensures (texts c.args.words.items)
    (along (texts c.as_slice.result.now) (texts c.args.words.items) (ap (λ (ws : List (String Global)). texts ws) c.as_slice.ensures.value)
    (λ command answers. subst (P command) (sym same) (end_caused handed command before after old new c.answer-answer.result.0 c.write_answer-end.result answers c.write_answer-end.ensures.written))
    c.answer-answer.ensures.answers)

pub returns-clause-untouched : goal.returns-clause-untouched
returns-clause-untouched g c =
    along (texts c.as_slice.result.now) (texts c.args.words.items) (ap (λ (ws : List (String Global)). texts ws) c.as_slice.ensures.value) (λ command leaves. leaves) c.answer-answer.ensures.untouched

pub returns-clause-headline : goal.returns-clause-headline
returns-clause-headline g c =
    let before = library_at g.L.Library.files g.L.Library.faults g.L.Library.misses c.args.library in
    let after = library_at g.L.Library.files g.L.Library.faults g.L.Library.misses c.answer-answer.result.1 in
    let old = sink_at g.K.Sink.taken g.K.Sink.faults c.args.out.now in
    let new = sink_at g.K.Sink.taken g.K.Sink.faults c.write_answer-end.new.out in
    let handed = handed_to g.K.Sink.writes c.args.out.now c.write_answer-end.new.out in
    let P : Option Command → End → Type 0 = λ command end. Headline command before after end in
    of_each c.words_are_one_command.ensures (texts c.args.words.items)
    (along (texts c.as_slice.result.now) (texts c.args.words.items) (ap (λ (ws : List (String Global)). texts ws) c.as_slice.ensures.value)
    (λ command answers. subst (P command) (sym c.into_outcome.ensures.end)
    (keeps handed command before after old new c.write_answer-end.result c.answers_are_histories.ensures
    (ended handed command before after old new c.answer-answer.result.0 c.write_answer-end.result answers c.write_answer-end.ensures.written)))
    c.answer-answer.ensures.answers)

pub returns-clause-complete : goal.returns-clause-complete
returns-clause-complete g c =
    let before = library_at g.L.Library.files g.L.Library.faults g.L.Library.misses c.args.library in
    let after = library_at g.L.Library.files g.L.Library.faults g.L.Library.misses c.answer-answer.result.1 in
    let old = sink_at g.K.Sink.taken g.K.Sink.faults c.args.out.now in
    let new = sink_at g.K.Sink.taken g.K.Sink.faults c.write_answer-end.new.out in
    let handed = handed_to g.K.Sink.writes c.args.out.now c.write_answer-end.new.out in
    let P : Option Command → End → Type 0 = λ command end. Completes command before after old new end in
    of_each c.words_are_one_command.ensures (texts c.args.words.items)
    (along (texts c.as_slice.result.now) (texts c.args.words.items) (ap (λ (ws : List (String Global)). texts ws) c.as_slice.ensures.value)
    (λ command answers. subst (P command) (sym c.into_outcome.ensures.end)
    (completes handed command before after old new c.write_answer-end.result c.answers_complete.ensures
    (ended handed command before after old new c.answer-answer.result.0 c.write_answer-end.result answers c.write_answer-end.ensures.written)))
    c.answer-answer.ensures.answers)
