-- The line that sums up the run of a generated set.
use Rattle.std.specs.Prelude.{ℕ, List, [], ◌∷◌, ◌++◌, Option, Some, None, codes}
use Rattle.std.specs.Fmt.{decimal}
use Rattle.lib_gen.specs.GeneratedSources.Shape.{library_count, symbol_count}
use Rattle.trace_text.specs.declared.run_texts.record.Counts.{Counts}

-- libraries, symbols and slots are as many as the number makes
abbrev pub set_words : ℕ → List ℕ
set_words number =
    codes "gen " ++ (decimal number ++ (codes " libs=" ++ (decimal (library_count number)
    ++ (codes " symbols=" ++ (decimal (symbol_count number) ++ (codes " slots=" ++ decimal (symbol_count number)))))))

-- the code with which a run exited, where it did
abbrev pub exit_word : Option ℕ → List ℕ
exit_word (Some code) = decimal code
exit_word None = codes "-"

-- grants, and those that were bound, are as many as the journal has
abbrev pub run_words : Counts → Option ℕ → List ℕ
run_words counts code = codes " grants=" ++ (decimal counts.grants ++ (codes " bound=" ++ (decimal counts.bound ++ (codes " exit=" ++ exit_word code))))

unfoldable pub summary_line : ℕ → Counts → Option ℕ → List ℕ
summary_line number counts code = set_words number ++ (run_words counts code ++ 10 ∷ [])
