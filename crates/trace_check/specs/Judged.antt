-- What the text of a trace is judged to be.
use Rattle.std.specs.Prelude.{◌≡◌, ◌≢◌, ℕ, ◌+◌, List, [], ◌∷◌, ◌++◌, length, Option, None, IsSome}
use Rattle.std.specs.List.{AllZip}
use Rattle.ld_base.specs.declared.fault.DlFault.TheVariants as faults
use Rattle.ld_base.specs.declared.linking.File.{File}
use Rattle.history_event.specs.declared.event.Event.{Event}
use Rattle.history_event.specs.declared.event.Event.TheVariants as events
use Rattle.history_event.specs.declared.event.OpenAnswer.TheVariants as opens
use Rattle.history_event.specs.declared.event.OpenAsk.{OpenAsk}
use Rattle.history_event.specs.declared.event_line.EventLine.{EventLine}
use Rattle.history_event.specs.declared.event_line.EventLine.TheVariants as lines
use Rattle.history_event.specs.declared.event_line.OpenLine.{OpenLine}
use Rattle.history_state.specs.Allowed.{Allowed}
use Rattle.history_state.specs.Legal.{Legal, Whole}
use Rattle.history_state.specs.Setting.{Setting}
use Rattle.trace_check.specs.Harts.{IsNoEvent, NameHarts}
use Rattle.trace_check.specs.Lines.{AreLines, Lines}
use Rattle.trace_check.specs.declared.verdict.TraceCause.{TraceCause}
use Rattle.trace_check.specs.declared.verdict.TraceCause.TheVariants as causes
use Rattle.trace_opens.specs.OpeningRows.Expected.{LacksFiles, trace_run}
use Rattle.trace_read.specs.Lines.{HasLine}
use Rattle.trace_read.specs.Said.{said_of}

-- the events of a legal history have these lines, each its own
pub record Says (w : Setting) (lines : List (List ℕ)) (events : List Event) : Type 0 where
  pub said : AllZip (λ line e. HasLine line (said_of e)) lines events
  pub legal : Legal w events

-- no event that has the line may come
pub record IsIllegal (w : Setting) (past : List Event) (line : List ℕ) : Type 0 where
  pub said : EventLine
  pub has : HasLine line said
  pub none : (e : Event) → said_of e ≡ said → ¬ (Allowed w past e)

-- the line is an opening's, and what that gives is left to files, of which none are told
pub record IsUndecided (w : Setting) (past : List Event) (line : List ℕ) : Type 0 where
  pub hart : ℕ
  pub ask : OpenAsk
  pub answer : OpenLine
  pub has : HasLine line (lines.Open hart ask answer)
  pub lacks : LacksFiles w past hart ask

-- the line is an opening's, which may be refused for a failed read of the path
pub record MayFailIn (w : Setting) (past : List Event) (line path : List ℕ) : Type 0 where
  pub hart : ℕ
  pub ask : OpenAsk
  pub answer : OpenLine
  pub has : HasLine line (lines.Open hart ask answer)
  pub may : Allowed w past (events.Open hart ask (opens.Refused (faults.ReadFault path)))

-- legal, with so many events; or the line of this number is refused
pub data Verdict : Type 0 where
  legal : ℕ → Verdict
  at : ℕ → TraceCause → Verdict

-- lines count from 1. Where files are told, one of these holds at most
pub data Judged (w : Setting) (t : Lines) : Verdict → Type 0 where
  -- a line before the last is no event's
  no_line : (before behind : List (List ℕ)) (line : List ℕ) (events : List Event) → t.events ≡ before ++ line ∷ behind → Says w before events
      → IsNoEvent line → Judged w t (at (length before + 1) causes.NotALine)
  -- or its event may not come
  not_allowed : (before behind : List (List ℕ)) (line : List ℕ) (events : List Event) → t.events ≡ before ++ line ∷ behind → Says w before events
      → IsIllegal w events line → Judged w t (at (length before + 1) causes.Illegal)
  -- or whether it may is left to files that aren't told
  undecided : (before behind : List (List ℕ)) (line : List ℕ) (events : List Event) → t.events ≡ before ++ line ∷ behind → Says w before events
      → IsUndecided w events line → Judged w t (at (length before + 1) causes.Illegal)
  -- the text ends without a line feed before a last line: a last line has its own (a choice: docs/DECISIONS.md)
  is_cut : (events : List Event) → Says w t.events events → t.last ≡ None → t.rest ≢ [] → Judged w t (at (length t.events + 1) causes.NotALine)
  -- or without a last line
  no_end : (events : List Event) → Says w t.events events → t.last ≡ None → t.rest ≡ [] → Judged w t (at (length t.events + 1) causes.NoEnd)
  -- the history isn't whole
  not_whole : (events : List Event) → Says w t.events events → IsSome t.last → ¬ (Whole w events) → Judged w t (at (length t.events + 1) causes.NotWhole)
  -- something stands behind the last line
  goes_on : (events : List Event) → Says w t.events events → IsSome t.last → Whole w events → t.rest ≢ []
      → Judged w t (at (length t.events + 2) causes.NotALine)
  is_legal : (events : List Event) → Says w t.events events → IsSome t.last → Whole w events → t.rest ≡ [] → Judged w t (legal (length events))

-- the text is judged so, of a run without preload names that looks for libraries in these folders
pub record IsJudged (folders : List (List ℕ)) (files : Option (List File)) (text : List ℕ) (verdict : Verdict) : Type 0 where
  pub lines : Lines
  pub are : AreLines text lines
  pub named : ℕ
  pub harts : NameHarts lines.events named
  pub judged : Judged (trace_run (named + 1) folders files) lines verdict

-- one of its lines is such an opening's, behind those before it
pub record MayFailAt (w : Setting) (t : Lines) (path : List ℕ) : Type 0 where
  pub before : List (List ℕ)
  pub behind : List (List ℕ)
  pub line : List ℕ
  pub events : List Event
  pub are : t.events ≡ before ++ line ∷ behind
  pub says : Says w before events
  pub may : MayFailIn w events line path

-- to judge the text the path may have to be read, and that may fail
pub record MayBeRead (folders : List (List ℕ)) (files : Option (List File)) (text path : List ℕ) : Type 0 where
  pub lines : Lines
  pub are : AreLines text lines
  pub named : ℕ
  pub harts : NameHarts lines.events named
  pub may : MayFailAt (trace_run (named + 1) folders files) lines path
