-- The lines of a journal, as they are read.
use Rattle.std.proofs.Common.{◌≡◌, ℕ, false, List, [], ◌∷◌, ◌++◌, map, Some, None, refl, sym, ap, ◌∙◌, append-nil}
use Rattle.std.specs.List.{AllByRecursion, AllZip, flat_map}
use Rattle.std.proofs.lemmas.List.Elements.{All-from_recursion}
use Rattle.history_event.specs.declared.event.Event.{Event}
use Rattle.history_event.specs.declared.event.Event.TheVariants as events
use Rattle.trace_check.specs.Lines.{AreLines, IsBefore, IsLast, Lines, is_end}
use Rattle.trace_laws.specs.Beginning.{IsWritten}
use Rattle.trace_read.specs.Laws.{EventsHaveLines}
use Rattle.trace_read.specs.Lines.{HasLine}
use Rattle.trace_read.specs.Said.{said_of}
use Rattle.trace_text.specs.Lines.{line_text, open_text, sym_text, words_text}
use Rattle.trace_laws.proofs.Feeds.{no_feed, words_bare}

-- ---- each says its event

pub all_said : EventsHaveLines → (journal : List Event) → AllByRecursion IsWritten journal → AllZip (λ line e. HasLine line (said_of e)) (map line_text journal) journal
all_said law [] all = tt
all_said law (e ∷ rest) all = (law e all.0, all_said law rest all.1)

-- ---- none of them is the last line

not_end : (e : Event) → is_end (line_text e) ≡ false
unfolding words_text open_text sym_text
not_end (events.Open hart ask answer) = refl
not_end (events.Close hart handle answer) = refl
not_end (events.Unmapped hart set) = refl
not_end (events.Grant grant hart owner slot choice value) = refl
not_end (events.Bound grant) = refl
not_end (events.Lost grant saw) = refl
not_end (events.Unresolved hart owner slot choice) = refl
not_end (events.Sym hart ask answer) = refl
not_end (events.Tls hart owner address) = refl
not_end (events.Init hart object) = refl
not_end (events.Fini hart object) = refl
not_end (events.Wrote hart bytes) = refl
not_end (events.Told hart None) = refl
not_end (events.Told hart (Some fault)) = refl
not_end (events.Ended hart reason) = refl

is_before : (e : Event) → IsBefore (line_text e)
is_before e = record { line = record { words = words_text e; are = refl; one = no_feed (words_text e) (words_bare e) }; before = not_end e }

all_before : (journal : List Event) → AllByRecursion IsBefore (map line_text journal)
all_before [] = tt
all_before (e ∷ rest) = (is_before e, all_before rest)

-- ---- a whole text

abbrev pub lines_of : List Event → List ℕ → Lines
lines_of journal last = record { events = map line_text journal; last = Some last; rest = [] }

same_flat : (journal : List Event) → flat_map line_text journal ≡ flat_map (λ line. line) (map line_text journal)
same_flat [] = refl
same_flat (e ∷ rest) = ap (λ text. line_text e ++ text) (same_flat rest)

pub are_lines : (journal : List Event) (last : List ℕ) → IsLast last → AreLines (flat_map line_text journal ++ last) (lines_of journal last)
are_lines journal last ends = record {
  whole = ap (λ text. text ++ last) (same_flat journal) ∙ ap (λ text. flat_map (λ line. line) (map line_text journal) ++ text) (sym (append-nil last));
  before = All-from_recursion IsBefore (map line_text journal) (all_before journal);
  ends = ends;
}
