use Rattle.std.proofs.Common.{◌≡◌, ◌∙◌, ℕ, ◌+◌, ◌<◌, ◌≤◌, Bool, true, List, length, take, get_or, Some, sym, ap, subst}
use Rattle.std.specs.List.{AllPass}
use Rattle.std.proofs.lemmas.List.{take_all}
use Rattle.std.proofs.lemmas.List.Elements.{All-more}
use Rattle.std.proofs.lemmas.Option.{slice_get-get_or}
use Rattle.history_event.specs.declared.hart_end.HartEnd.{HartEnd}
use Rattle.history_event.specs.declared.hart_end.HartEnd.TheVariants.{Exit}
use Rattle.history_state.specs.Setting.{is_exit}
use Rattle.trace_text.specs.RunTexts.Ends.{AllExited}
use Rattle.trace_text.proofs.run_texts.run_end.RunEnd.of.Goals as goal

-- one more hart ended by exit
one_more : (ends : List HartEnd) (n : ℕ) (e : HartEnd) (b : Bool) → n < length ends → e ≡ get_or ends n e → b ≡ is_exit e → b ≡ true → AllPass is_exit (take n ends)
    → AllPass is_exit (take (n + 1) ends)
one_more ends n e b lt at is exit all =
    let P : HartEnd → Type 0 = λ x. is_exit x ≡ true in
    All-more P ends n e lt all (subst P at (sym is ∙ exit))

-- all did, and hart 0 with this code
all_exited : (ends : List HartEnd) (n code : ℕ) (d : HartEnd) → 0 < length ends → length ends ≤ n → get_or ends 0 d ≡ Exit code → AllPass is_exit (take n ends)
    → AllExited ends code
all_exited ends n code d some over first all =
    let P : List HartEnd → Type 0 = λ xs. AllPass is_exit xs in
    record { first = slice_get-get_or ends 0 d some ∙ ap Some first; each = subst P (take_all n ends over) all }

pub loop-number-preserved : goal.loop-number-preserved
loop-number-preserved c =
    one_more c.args.ends.now c.loop-number.number c.index-ends-number.result c.is_exit.result c.loop-number-test.true c.index-ends-number.is c.is_exit.ensures c.if-not-is_exit.false c.loop-number.invariant

pub returns : goal.returns
returns c = all_exited c.args.ends.now c.loop-number.number c.in-Exit.code _ c.requires.some c.loop-number-test.false c.in-Exit.is c.loop-number.invariant
