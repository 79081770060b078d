-- What words ask for.
use Rattle.std.proofs.Common.{◌≡◌, ◌⊎◌, inl, inr, ⊎_elim, ℕ, List, Option, Some, None, Result, Ok, Err, refl, ap, subst}
use Rattle.std.specs.Prelude.{IfOk}
use Rattle.std.proofs.lemmas.Bool.{true≢false}
use Rattle.std.specs.declared.alloc.AllocError.{AllocError}
use Rattle.cli_words.specs.Reads.{OneCommand, Reads}
use Rattle.cli_words.specs.declared.command.Command.{Command}
use Rattle.cli_words.specs.declared.command.Command.TheVariants as commands
use Rattle.cli_words.specs.declared.command.Turns.{Turns}
use Rattle.history_calls.specs.Startup.{harts_of}
use Rattle.ldso_cli.proofs.Schedules.{Schedule, told_schedule}
use Rattle.ldso_cli.specs.Asked.{Asks, CanBeDone, OfAsked}
use Rattle.ldso_cli.specs.Command.{WordsAnswer, IsUsage, LeavesLibrary}
use Rattle.ldso_cli.specs.Scheduled.{AsScheduled}
use Rattle.ldso_cli.specs.Generate.{GenComes}
use Rattle.ldso_cli.specs.Outside.{LibraryAt}
use Rattle.ldso_cli.specs.Turns.{IsScheduled, TurnsComes}
use Rattle.ldso_cli.specs.declared.answer.Answer.{Answer}

-- words ask for one command at most
pub one_asked : OneCommand → (words : List (List ℕ)) (command other : Option Command) → Asks words command → Asks words other → command ≡ other
one_asked one words None None a b = refl
one_asked one words (Some c) None a b = absurd (b c a.0 a.1)
one_asked one words None (Some c) a b = absurd (a c b.0 b.1)
one_asked one words (Some c) (Some d) a b = ap (λ (x : Command). Some x) (one words c d a.0 b.0)

-- ---- whether a command can be done

scheduled : (turns : Turns) → Schedule (harts_of turns.setup) turns.schedule ⊎ (Schedule (harts_of turns.setup) turns.schedule → ⊥) → IsScheduled turns ⊎ (IsScheduled turns → ⊥)
scheduled turns (inl x) = inl (record { items = x.0; says = x.1 })
scheduled turns (inr none) = inr (λ is. none (is.items, is.says))

told : (command : Command) → CanBeDone command ⊎ (CanBeDone command → ⊥)
told (commands.Bind bind) = inl tt
told (commands.Assemble path) = inl tt
told (commands.Dump path) = inl tt
told (commands.Turns turns) = scheduled turns (told_schedule (harts_of turns.setup) turns.schedule)
told (commands.Run run) = inl tt
told (commands.Check check) = inl tt
told (commands.Generate number) = inl tt

-- ---- words that are a command

-- another command that they are is this one
can_other : OneCommand → (words : List (List ℕ)) (command other : Command) → Reads words command → Reads words other → CanBeDone other → CanBeDone command
can_other one words command other reads reads' can = subst CanBeDone (one words other command reads' reads) can

pub not_done : OneCommand → (words : List (List ℕ)) (command : Command) → Reads words command → (CanBeDone command → ⊥) → {P : Option Command → Type 0} → P None → OfAsked words P
not_done one words command reads cannot holds = record { asked = None; asks = λ other reads' can. cannot (can_other one words command other reads reads' can); holds = holds }

-- they ask for it, if it can be done, and else for nothing
pub unanswered : OneCommand → (words : List (List ℕ)) (command : Command) → Reads words command → {P : Option Command → Type 0} → ((asked : Option Command) → P asked) → OfAsked words P
unanswered one words command reads {P} holds = either (told command)
  where
    either : CanBeDone command ⊎ (CanBeDone command → ⊥) → OfAsked words P
    either (inl can) = record { asked = Some command; asks = (reads, can); holds = holds (Some command) }
    either (inr cannot) = not_done one words command reads cannot (holds None)

-- ---- turns

pub turned : OneCommand → (words : List (List ℕ)) (turns : Turns) → Reads words (commands.Turns turns) → (before after : LibraryAt) (r : Result Answer AllocError) → IfOk r (λ a. AsScheduled turns before after a.end a.text)
    → OfAsked words (λ command. IfOk r (λ a. WordsAnswer command before after a.end a.text))
turned one words turns reads before after (Err e) come = unanswered one words (commands.Turns turns) reads (λ _. tt)
turned one words turns reads before after (Ok a) come = ⊎_elim
    (λ (x : IsScheduled turns × TurnsComes turns before after a.end a.text). record { asked = Some (commands.Turns turns); asks = (reads, x.0); holds = x.1 })
    (λ (x : (IsScheduled turns → ⊥) × IsUsage a.end a.text). not_done one words (commands.Turns turns) reads x.0 x.1)
    come

-- ---- gen

pub generated : (words : List (List ℕ)) (number : ℕ) → Reads words (commands.Generate number) → (before after : LibraryAt) (r : Result Answer AllocError) → IfOk r (λ a. GenComes number a.end a.text)
    → OfAsked words (λ command. IfOk r (λ a. WordsAnswer command before after a.end a.text))
generated words number reads before after (Err e) come = record { asked = Some (commands.Generate number); asks = (reads, tt); holds = tt }
generated words number reads before after (Ok a) come = record { asked = Some (commands.Generate number); asks = (reads, tt); holds = come }

-- ---- what is left of the library

-- nothing was read
pub left_as_is : {L : Type 0} (command : Option Command) (library : L) → LeavesLibrary command library library
left_as_is None library = refl
left_as_is (Some command) library = λ unread. refl

-- turns may have read where its schedule is one
pub turns_read : {L : Type 0} → OneCommand → (words : List (List ℕ)) (turns : Turns) → Reads words (commands.Turns turns) → (before after : L) → ((IsScheduled turns → ⊥) → after ≡ before)
    → OfAsked words (λ command. LeavesLibrary command before after)
turns_read one words turns reads before after unread = by (told (commands.Turns turns))
  where
    by : CanBeDone (commands.Turns turns) ⊎ (CanBeDone (commands.Turns turns) → ⊥) → OfAsked words (λ command. LeavesLibrary command before after)
    by (inl can) = record { asked = Some (commands.Turns turns); asks = (reads, can); holds = λ no. absurd (true≢false no) }
    by (inr cannot) = not_done one words (commands.Turns turns) reads cannot (unread cannot)

-- ---- words that are none

pub along : (words words' : List (List ℕ)) → words ≡ words' → {P Q : Option Command → Type 0} → ((command : Option Command) → P command → Q command) → OfAsked words P → OfAsked words' Q
along words words' same goes of = record { asked = of.asked; asks = subst (λ (ws : List (List ℕ)). Asks ws of.asked) same of.asks; holds = goes of.asked of.holds }

-- what holds of what words ask for holds of each that they ask for
pub of_each : OneCommand → (words : List (List ℕ)) {P : Option Command → Type 0} → OfAsked words P → (command : Option Command) → Asks words command → P command
of_each one words {P} of command asks = subst P (one_asked one words of.asked command of.asks asks) of.holds
