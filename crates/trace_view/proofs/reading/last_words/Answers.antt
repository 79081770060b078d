use Rattle.std.proofs.Common.{sym, ap, ◌∙◌}
use Rattle.std.specs.List.{list_all}
use Rattle.trace_view.specs.Names.{is_visible}
use Rattle.trace_view.proofs.Ended.{are_text, is_last}
use Rattle.trace_view.proofs.reading.last_words.Goals as goal

pub returns-in-Ok : goal.returns-in-Ok
returns-in-Ok c =
    let same = c.in-Ok.ensures.cases.0 in
    let visible = c.if-not-are_visible.false in (
      is_last c.args.line.now c.in-Some.rest.now c.in-Ok.text.now c.in-Some.ensures.cases.0 c.in-Some.ensures.cases.1
          c.in-Some-strip_suffix.ensures.cases.0 (same ∙ c.in-Some-strip_suffix.ensures.cases.1),
      ap (list_all is_visible) same ∙ sym c.are_visible.ensures ∙ visible,
    )

pub returns-in-Err : goal.returns-in-Err
returns-in-Err c = absurd (c.in-Err.ensures.cases.0 (are_text c.in-Some-strip_suffix.words.now (sym c.are_visible.ensures ∙ c.if-not-are_visible.false)))
