-- The line that a run ends with.
use Rattle.std.proofs.Common.{ℕ, List, [], ◌∷◌, codes, decimal, refl}
use Rattle.trace_laws.specs.Laws.{EndLinesAreLast}
use Rattle.trace_text.specs.Ends.{end_text}
use Rattle.trace_text.specs.RunTexts.Ends.{end_line, end_words, run_status}
use Rattle.trace_text.specs.Said.{said}
use Rattle.trace_text.specs.declared.run_texts.run_end.RunEnd.{RunEnd}
use Rattle.trace_text.specs.declared.run_texts.run_end.RunEnd.TheVariants.{Ended, Exited}
use Rattle.trace_laws.proofs.Feeds.{Bare, decimal_bare, end_bare, no_feed, said_bare}

words_bare : (run_end : RunEnd) → Bare (end_words run_end)
words_bare (Exited code) = refl
words_bare (Ended hart reason) = said_bare (codes "hart" ∷ decimal hart ∷ []) (end_text reason) (refl, (decimal_bare hart, tt)) (end_bare reason)

abbrev words : RunEnd → List ℕ
words run_end = said (codes "end" ∷ decimal (run_status run_end) ∷ []) (end_words run_end)

pub end_lines_are_last : EndLinesAreLast
unfolding end_line
end_lines_are_last run_end = record {
  line = record {
    words = words run_end;
    are = refl;
    one = no_feed (words run_end) (said_bare (codes "end" ∷ decimal (run_status run_end) ∷ []) (end_words run_end) (refl, (decimal_bare (run_status run_end), tt)) (words_bare run_end));
  };
  last = refl;
}
