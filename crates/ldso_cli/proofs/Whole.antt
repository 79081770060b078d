-- Where nothing fails, the words and the files decide the answer.
use Rattle.std.proofs.Common.{◌≡◌, ◌⊎◌, inl, inr, ℕ, ◌+◌, ◌^◌, ◌≤◌, Bool, true, false, cond, List, [], ◌∷◌, ◌++◌, Option, Some, None, Result, Ok, refl, sym, ap, subst, ◌∙◌, arith}
use Rattle.std.specs.Prelude.{◌||◌, count_by}
use Rattle.std.specs.Io.KnownBytes.{append_known}
use Rattle.std.specs.List.{list_any}
use Rattle.std.proofs.lemmas.Bool.{or_parts}
use Rattle.std.proofs.lemmas.List.Sums.{sum_by-cons}
use Rattle.ld_base.specs.declared.fault.DlFault.{DlFault}
use Rattle.ld_base.specs.declared.linking.File.{File}
use Rattle.library_source.specs.Count.{Rises, RisesBy}
use Rattle.library_source.specs.Files.{Over}
use Rattle.cli_words.specs.declared.command.Command.{Command}
use Rattle.cli_words.specs.declared.command.Command.TheVariants as commands
use Rattle.cli_words.specs.declared.command.Turns.{Turns}
use Rattle.cli_words.specs.Reads.{OneCommand}
use Rattle.lib_gen.specs.Set.{AreSetOf}
use Rattle.history_event.specs.declared.event.Event.{Event}
use Rattle.history_event.specs.declared.event.Event.TheVariants as events
use Rattle.history_event.specs.declared.event.OpenAnswer.TheVariants as openings
use Rattle.history_calls.specs.declared.link_served.startup.Setup.{Setup}
use Rattle.history_calls.specs.Laws.{is_read_fault}
use Rattle.history_calls.specs.Startup.{harts_of}
use Rattle.trace_text.specs.RunTexts.Printed.{journal_lines}
use Rattle.trace_text.specs.declared.run_texts.record.RunRecord.{RunRecord}
use Rattle.trace_text.specs.declared.run_texts.run_end.RunEnd.{RunEnd}
use Rattle.trace_check.specs.Laws.{OneVerdict}
use Rattle.world_turns.specs.declared.schedules.schedule.TurnItem.{TurnItem}
use Rattle.world_laws.specs.TurnOnce.Laws.{NothingFails, is_from_outside}
use Rattle.world_turns.specs.Counts.{is_refused_for, read_faults}
use Rattle.ldso_cli.proofs.Asking.{one_asked}
use Rattle.ldso_cli.proofs.Assembling.{SourceLaw}
use Rattle.ldso_cli.proofs.Bounds.{few_harts}
use Rattle.ldso_cli.proofs.Causes.{own_caused}
use Rattle.ldso_cli.proofs.Decided.{NotBoth, OneStop, one_end}
use Rattle.ldso_cli.proofs.Same.{OneWalk, one_text}
use Rattle.ldso_cli.proofs.Schedules.{one_schedule}
use Rattle.ldso_cli.proofs.Told.{never_rises}
use Rattle.ldso_cli.proofs.Traces.{one_checked}
use Rattle.ldso_cli.proofs.Turning.{Quiet, RunLaw, one_end_kept, one_outcome}
use Rattle.ldso_cli.specs.Asked.{Asks}
use Rattle.ldso_cli.specs.Command.{WordsAnswer, IsAnswer, NoReadFails, OverFiles, Prints}
use Rattle.ldso_cli.specs.End.{AreOneEnd, KeepOne, events_kept, kept_end}
use Rattle.ldso_cli.specs.Ends.{ComeToOne, WordsEnd, Handing, IsUndisturbed, RunAt, Written, is_want_of_memory}
use Rattle.ldso_cli.specs.Generate.{set_cause, set_setup, set_text}
use Rattle.ldso_cli.specs.Played.{IsNotRun, IsRun, last_line, run_cause}
use Rattle.ldso_cli.specs.Status.{status_of_cause}
use Rattle.ldso_cli.specs.declared.outcome.Cause.{Cause}
use Rattle.ldso_cli.specs.declared.outcome.Cause.TheVariants as causes
use Rattle.ldso_cli.specs.declared.outcome.End.{End}

-- a call that answered, and whose text was written whole
record IsTold (handed : Handing) (command : Option Command) (run : RunAt) : Type 0 where
  pub text : List ℕ
  pub answers : WordsAnswer command run.before run.after run.end text
  pub written : handed text (Ok tt)
  pub taken : run.new.taken ≡ append_known run.old.taken text

written_whole : (handed : Handing) (command : Option Command) (run : RunAt) (own : End) (text : List ℕ) → (run.end.cause ≡ causes.WriteFault → ⊥) → (run.end.cause ≡ causes.Memory → ⊥) → WordsAnswer command run.before run.after own text
    → Written handed own text run.old run.new run.end → IsTold handed command run
written_whole handed command run own text wrote memory answers (inl whole) = record { text = text; answers = subst (λ (e : End). WordsAnswer command run.before run.after e text) (sym whole.end_is) answers; written = whole.written; taken = whole.taken }
written_whole handed command run own text wrote memory answers (inr (inl cut)) = absurd (wrote (ap (λ (e : End). e.cause) cut.end_is))
written_whole handed command run own text wrote memory answers (inr (inr stopped)) = absurd (memory (ap (λ (e : End). e.cause) stopped.end_is))

told : (handed : Handing) (command : Option Command) (run : RunAt) → (run.end.cause ≡ causes.WriteFault → ⊥) → (run.end.cause ≡ causes.Memory → ⊥) → WordsEnd handed command run.before run.after run.old run.new run.end → IsTold handed command run
told handed command run wrote memory (inl answered) = written_whole handed command run answered.own answered.text wrote memory answered.answers answered.written
told handed command run wrote memory (inr unanswered) = absurd (memory (ap (λ (e : End). e.cause) unanswered.end_is))

-- the answer over the files that are told
over_these : (command : Command) (files : List File) (run : RunAt) (text : List ℕ) → run.before.files ≡ Some files → OverFiles command run.before run.after run.end text → IsAnswer command run.before run.after run.end text files
over_these command files run text tells answers =
    let P : List File → Type 0 = IsAnswer command run.before run.after run.end text in
    let over : Over (Some files) P = subst (λ (t : Option (List File)). Over t P) tells answers in
    subst P over.are over.holds

abbrev IsOver : Setup → List TurnItem → Option (List File) → Result RunEnd DlFault → RunRecord → Type 0
IsOver setup items files ended left = IsNotRun setup files ended left ⊎ IsRun setup items files ended left

-- one end is one in all that it keeps
itself : (end : End) → AreOneEnd end end
itself end = record { cause = refl; kept = keeps end.kept }
  where
    keeps : (kept : Option RunRecord) → KeepOne kept kept
    keeps None = tt
    keeps (Some kept) = record { events = refl; ends = refl; counts = refl }

same_end : (a b : End) → a ≡ b → AreOneEnd a b
same_end a b e = subst (AreOneEnd a) e (itself a)

-- ---- where the library's faults don't rise

no_reads : (handed : Handing) (command : Option Command) (run : RunAt) → IsTold handed command run → (Rises run.before.faults run.after.faults → ⊥) → NoReadFails run.end
no_reads handed command run told still path is = still ((own_caused command run.before run.after run.old run.new run.end told.text told.answers).read_fault path is)

-- a count that didn't rise is one of nothing
none_rose : (p : Event → Bool) (e : Event) (rest : List Event) (before after : ℕ) → (Rises before after → ⊥) → RisesBy (count_by p (e ∷ rest)) before after → p e ≡ false
none_rose p e rest before after still rises = by (p e) refl
  where
    counted : count_by p (e ∷ rest) ≡ cond (p e) 1 0 + count_by p rest
    counted = sum_by-cons (λ (x : Event). cond (p x) 1 0) e rest

    one : (n more : ℕ) → RisesBy n before after → n ≡ 1 + more → Rises before after
    one n more (inl low) is = inl (omega (arith, low, is))
    one n more (inr end) is = inr end

    by : (t : Bool) → p e ≡ t → t ≡ false
    by false is = refl
    by true is = absurd (still (one (count_by p (e ∷ rest)) (count_by p rest) rises (counted ∙ ap (λ (t : Bool). cond t 1 0 + count_by p rest) is)))

rest_rose : (p : Event → Bool) (e : Event) (rest : List Event) (before after : ℕ) → RisesBy (count_by p (e ∷ rest)) before after → RisesBy (count_by p rest) before after
rest_rose p e rest before after (inr end) = inr end
rest_rose p e rest before after (inl low) =
    let counted : count_by p (e ∷ rest) ≡ cond (p e) 1 0 + count_by p rest = sum_by-cons (λ (x : Event). cond (p x) 1 0) e rest in inl (omega (arith, low, counted))

fails_not : (e : Event) → is_refused_for is_read_fault e ≡ false → is_want_of_memory e ≡ false → is_from_outside e ≡ false
fails_not (events.Open h ask (openings.Refused fault)) reads well = reads
fails_not (events.Open h ask _) reads well = refl
fails_not (events.Ended h reason) reads well = well
fails_not _ reads well = refl

nothing_fails : (journal : List Event) (before after : ℕ) → (Rises before after → ⊥) → RisesBy (read_faults journal) before after → list_any is_want_of_memory journal ≡ false → NothingFails journal
nothing_fails [] before after still rises well = refl
nothing_fails (e ∷ rest) before after still rises well =
    let parts = or_parts (is_want_of_memory e) (list_any is_want_of_memory rest) well in
    let first : is_from_outside e ≡ false = fails_not e (none_rose (is_refused_for is_read_fault) e rest before after still rises) parts.0 in
    let behind : list_any is_from_outside rest ≡ false =
    nothing_fails rest before after still (rest_rose (is_refused_for is_read_fault) e rest before after rises) parts.1 in
    λ i. first i || behind i

-- a number makes one set
abbrev pub OneSet : Type 0
OneSet = (number : ℕ) (first second : List File) → AreSetOf number first → AreSetOf number second → first ≡ second

-- what is known of commands
pub record Law : Type 0 where
  pub one_walk : OneWalk
  pub one_stop : OneStop
  pub not_both : NotBoth
  pub sources : SourceLaw
  pub runs : RunLaw
  pub one_set : OneSet
  pub one_verdict : OneVerdict

module _ (handed handed' : Handing) (law : Law) (words : List (List ℕ)) (files : List File) (first second : RunAt) (p : IsUndisturbed handed words files first) (q : IsUndisturbed handed' words files second) where
  come_to_one : (command : Option Command) (one : IsTold handed command first) (two : IsTold handed' command second) → AreOneEnd first.end second.end → one.text ≡ two.text → ComeToOne handed handed' first second
  come_to_one command one two end text = record {
    end = end;
    status = ap status_of_cause end.cause;
    text = one.text;
    first_handed = one.written;
    second_handed = subst (λ (t : List ℕ). handed' t (Ok tt)) (sym text) two.written;
    first_took = one.taken;
    second_took = two.taken ∙ ap (append_known second.old.taken) (sym text);
  }

  -- of a command that runs no program
  over_files : (command : Command) → first.before.files ≡ Some files → second.before.files ≡ Some files → (Rises first.before.faults first.after.faults → ⊥)
      → (Rises second.before.faults second.after.faults → ⊥) → (one : IsTold handed (Some command) first) → (two : IsTold handed' (Some command) second)
      → OverFiles command first.before first.after first.end one.text → OverFiles command second.before second.after second.end two.text → ComeToOne handed handed' first second
  over_files command tells tells' still still' one two answers answers' =
      let a = over_these command files first one.text tells answers in
      let b = over_these command files second two.text tells' answers' in
      let end : first.end ≡ second.end =
      one_end law.one_walk law.one_stop law.not_both law.sources command files first.before first.after second.before second.after first.end second.end a.comes (no_reads handed (Some command) first one still) b.comes
      (no_reads handed' (Some command) second two still') in
      let prints : Prints command files first.end two.text = subst (λ (e : End). Prints command files e two.text) (sym end) b.prints in
      come_to_one (Some command) one two (same_end first.end second.end end) (one_text law.one_walk law.sources.one command files first.end one.text two.text a.prints prints)

  -- no read fails in a run that ended so
  quiet_run : (run : RunAt) (ended : Result RunEnd DlFault) (left : RunRecord) → NoReadFails run.end → run.end ≡ kept_end (run_cause ended) left → Quiet ended
  quiet_run run ended left reads is = λ path e. reads path (ap (λ (x : End). x.cause) is ∙ ap run_cause e)

  -- nothing fails in it, whose library's faults don't rise
  well_run : (run : RunAt) (cause : Cause) (left : RunRecord) (before after : ℕ) → (Rises before after → ⊥) → RisesBy (read_faults left.journal.events) before after
      → list_any is_want_of_memory (events_kept run.end) ≡ false → run.end ≡ kept_end cause left → NothingFails left.journal.events
  well_run run cause left before after still rises well is = nothing_fails left.journal.events before after still rises (ap (list_any is_want_of_memory) (sym (ap events_kept is)) ∙ well)

  one_turned : (turns : Turns) → Asks words (Some (commands.Turns turns)) → IsTold handed (Some (commands.Turns turns)) first → IsTold handed' (Some (commands.Turns turns)) second → ComeToOne handed handed' first second
  one_turned turns asks one two =
      let a = one.answers in
      let b = two.answers in
      let still = p.reads_well (commands.Turns turns) asks.0 refl in
      let still' = q.reads_well (commands.Turns turns) asks.0 refl in
      let few : harts_of turns.setup ≤ 2 ^ 32 = (let below = few_harts words turns asks.0 in omega (arith, below)) in
      let items : b.items ≡ a.items = one_schedule (harts_of turns.setup) turns.schedule b.items a.items few b.says a.says in
      let over : IsOver turns.setup a.items (Some files) a.ended a.left = subst (λ (t : Option (List File)). IsOver turns.setup a.items t a.ended a.left) (p.told (commands.Turns turns) asks.0 refl) a.plays.is in
      let over' : IsOver turns.setup a.items (Some files) b.ended b.left =
      subst (λ (t : Option (List File)). IsOver turns.setup a.items t b.ended b.left) (q.told (commands.Turns turns) asks.0 refl)
      (subst (λ (it : List TurnItem). IsOver turns.setup it second.before.files b.ended b.left) items b.plays.is) in
      let same =
      one_outcome law.runs turns.setup a.items files a.ended b.ended a.left b.left over (quiet_run first a.ended a.left (no_reads handed (Some (commands.Turns turns)) first one still) a.end_is)
      (well_run first (run_cause a.ended) a.left first.before.faults first.after.faults still a.plays.counted.faults p.runs_well a.end_is)
      over' (quiet_run second b.ended b.left (no_reads handed' (Some (commands.Turns turns)) second two still') b.end_is)
      (well_run second (run_cause b.ended) b.left second.before.faults second.after.faults still' b.plays.counted.faults q.runs_well b.end_is) in
      come_to_one (Some (commands.Turns turns)) one two (one_end_kept first.end second.end (run_cause a.ended) (run_cause b.ended) a.left b.left a.end_is b.end_is (ap run_cause same.0) same.1)
      (a.text_is ∙ (λ i. journal_lines (same.1.events i) ++ last_line (same.0 i)) ∙ sym b.text_is)

  one_generated : (number : ℕ) → IsTold handed (Some (commands.Generate number)) first → IsTold handed' (Some (commands.Generate number)) second → ComeToOne handed handed' first second
  one_generated number one two =
      let a = one.answers in
      let b = two.answers in
      let set : b.files ≡ a.files = law.one_set number b.files a.files b.are a.are in
      let over : IsOver set_setup [] (Some a.files) b.ended b.left = subst (λ (fs : List File). IsOver set_setup [] (Some fs) b.ended b.left) set b.plays.is in
      let same =
      one_outcome law.runs set_setup [] a.files a.ended b.ended a.left b.left a.plays.is (λ path e. never_rises (a.plays.read_fault path e)) (well_run first (set_cause a.ended) a.left 0 0 never_rises a.plays.counted.faults p.runs_well a.end_is)
      over (λ path e. never_rises (b.plays.read_fault path e)) (well_run second (set_cause b.ended) b.left 0 0 never_rises b.plays.counted.faults q.runs_well b.end_is) in
      come_to_one (Some (commands.Generate number)) one two (one_end_kept first.end second.end (set_cause a.ended) (set_cause b.ended) a.left b.left a.end_is b.end_is (ap set_cause same.0) same.1)
      (a.text_is ∙ (λ i. set_text number (same.0 i) (same.1.events i)) ∙ sym b.text_is)

  one_of : (command : Option Command) → Asks words command → IsTold handed command first → IsTold handed' command second → ComeToOne handed handed' first second
  one_of None asks one two =
      come_to_one None one two (same_end first.end second.end (one.answers.end_is ∙ sym two.answers.end_is)) (one.answers.text_is ∙ sym two.answers.text_is)
  one_of (Some (commands.Bind bind)) asks one two = over_files (commands.Bind bind) (p.told (commands.Bind bind) asks.0 refl) (q.told (commands.Bind bind) asks.0 refl)
      (p.reads_well (commands.Bind bind) asks.0 refl) (q.reads_well (commands.Bind bind) asks.0 refl) one two one.answers two.answers
  one_of (Some (commands.Dump path)) asks one two = over_files (commands.Dump path) (p.told (commands.Dump path) asks.0 refl) (q.told (commands.Dump path) asks.0 refl)
      (p.reads_well (commands.Dump path) asks.0 refl) (q.reads_well (commands.Dump path) asks.0 refl) one two one.answers two.answers
  one_of (Some (commands.Assemble path)) asks one two = over_files (commands.Assemble path) (p.told (commands.Assemble path) asks.0 refl) (q.told (commands.Assemble path) asks.0 refl)
      (p.reads_well (commands.Assemble path) asks.0 refl) (q.reads_well (commands.Assemble path) asks.0 refl) one two one.answers two.answers
  one_of (Some (commands.Turns turns)) asks one two = one_turned turns asks one two
  one_of (Some (commands.Run run)) asks one two = absurd (p.written (commands.Run run) asks.0)
  one_of (Some (commands.Check check)) asks one two =
      let same = one_checked law.one_verdict check files first.before first.after second.before second.after first.end second.end one.text two.text (p.told (commands.Check check) asks.0 refl) (q.told (commands.Check check) asks.0 refl)
      one.answers (no_reads handed (Some (commands.Check check)) first one (p.reads_well (commands.Check check) asks.0 refl))
      two.answers (no_reads handed' (Some (commands.Check check)) second two (q.reads_well (commands.Check check) asks.0 refl)) in
      come_to_one (Some (commands.Check check)) one two (same_end first.end second.end same.0) same.1
  one_of (Some (commands.Generate number)) asks one two = one_generated number one two

pub one_answer : OneCommand → Law → (handed handed' : Handing) (words : List (List ℕ)) (files : List File) (first second : RunAt) → IsUndisturbed handed words files first → IsUndisturbed handed' words files second
    → ComeToOne handed handed' first second
one_answer one law handed handed' words files first second p q =
    let same : q.ends.asked ≡ p.ends.asked = one_asked one words q.ends.asked p.ends.asked q.ends.asks p.ends.asks in
    let ends : WordsEnd handed' p.ends.asked second.before second.after second.old second.new second.end =
    subst (λ (c : Option Command). WordsEnd handed' c second.before second.after second.old second.new second.end) same q.ends.holds in
    one_of handed handed' law words files first second p q p.ends.asked p.ends.asks (told handed p.ends.asked first p.writes_well p.has_memory p.ends.holds)
    (told handed' p.ends.asked second q.writes_well q.has_memory ends)
