use Rattle.std.proofs.Common.{◌++◌, ◌∷◌, ◌∙◌, [], ap, codes, Global, List, Vec, ℕ}
use Rattle.std.specs.Fmt.{decimal}
use Rattle.ldso_cli.specs.Status.{trace_refused_text}
use Rattle.ldso_cli.proofs.check.trace_refused.Goals as goal

pub returns-clause-text : goal.returns-clause-text
unfolding trace_refused_text
returns-clause-text c =
    c.from.ensures
    ∙ ap (λ (v : Vec ℕ Global). v.items) c.into_bytes.ensures.value
    ∙ c.in_ok-text.ensures.ok
    ∙ ap (λ (word : List ℕ). codes "end 117 trace " ++ (decimal c.args.line ++ (32 ∷ (word ++ 10 ∷ [])))) c.trace_word-word.ensures
