-- What a line settles, and a text.
use Rattle.std.specs.Prelude.{◌≡◌, ℕ, List, Some}
use Rattle.ld_base.specs.declared.linking.File.{File}
use Rattle.history_event.specs.declared.event.Event.{Event}
use Rattle.history_state.specs.Allowed.{Allowed}
use Rattle.history_state.specs.Setting.{Setting}
use Rattle.trace_check.specs.Judged.{IsJudged, Verdict}
use Rattle.trace_read.specs.Said.{said_of}

-- where files are told, at most one event that may come next has a line: an opening's line settles records and pages
abbrev pub OneEvent : Type 0
OneEvent = (w : Setting) (files : List File) (past : List Event) (e f : Event) → w.files ≡ Some files → Allowed w past e → Allowed w past f
    → said_of e ≡ said_of f → e ≡ f

-- where files are told, a text has at most one verdict
abbrev pub OneVerdict : Type 0
OneVerdict = (folders : List (List ℕ)) (files : List File) (text : List ℕ) (one other : Verdict) → IsJudged folders (Some files) text one
    → IsJudged folders (Some files) text other → one ≡ other
