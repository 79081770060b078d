-- From the last line to the first.
use Rattle.std.proofs.Common.{◌≡◌, ◌∙◌, ap, sym, ℕ, ◌+◌, ◌-◌, ◌<◌, ◌&&◌, length, get_or, drop, arith, List}
use Rattle.std.specs.Prelude.{Option, if◌then◌else◌, unwrap_or}
use Rattle.std.proofs.lemmas.Option.{unwrap_or-slice_get}
use Rattle.asm_layout.specs.declared.place.Place.{Place}
use Rattle.asm_layout.specs.Places.{is_section, place_at}
use Rattle.asm_layout.specs.Symbols.{next_offset, size_behind}
use Rattle.asm_symbols.specs.Reaches.{defines_some, end_of, AreEndsFrom, AreSizesFrom}
use Rattle.asm_symbols.proofs.Behind.{ends_before, sizes_before}
use Rattle.asm_symbols.proofs.label_sizes.LabelSizes.of.Goals as goal

pub loop-number-preserved : goal.loop-number-preserved
loop-number-preserved c =
    let lines = c.as_slice-lines.result.now in
    let at = c.loop-number.number in
    let k = at - 1 in
    let next : at ≡ k + 1 = omega arith in
    let below : k < length lines = omega (arith, c.loop-number.auto.number) in
    let line = c.index-lines-number.result in
    let place = c.place_of-place.result in
    let same = c.as_slice-lines.ensures in
    let counted : k < length c.args.statements.now = rw (← same) below in
    let is : place ≡ place_at lines k =
    ap (λ (found : Option Place). unwrap_or found place) (sym c.place_of-place.ensures)
    ∙ unwrap_or-slice_get c.as_slice-places_of.result.now k place
    ∙ ap (λ (places : List Place). get_or places k place) c.as_slice-places_of.ensures
    ∙ c.requires.each.each k place counted
    ∙ ap (λ lines. place_at lines k) (sym same) in
    let ends : AreEndsFrom lines (k + 1) c.loop-number.ends = λ section. rw (← next) (c.loop-number.invariant.ends section) in
    let sizes : AreSizesFrom lines (k + 1) c.loop-number.sizes.items = rw (← next) c.loop-number.invariant.sizes in
    let reach : c.saturating_sub.result ≡ size_behind lines k =
    c.saturating_sub.ensures
    ∙ ap (λ (n : ℕ). n - place.offset) (c.of.ensures ∙ ends place.section)
    ∙ ap (λ (p : Place). next_offset lines p.section (k + 1) (drop (k + 1) lines) - p.offset) is in
    record {
      ends = ends_before lines k line c.loop-number.ends c.before-ends.result below c.index-lines-number.is ends
          (λ section. c.before-ends.ensures section
          ∙ ap (λ (p : Place). if is_section section p.section && defines_some line then p.offset else end_of c.loop-number.ends section) is);
      sizes = sizes_before lines k c.loop-number.sizes.items c.saturating_sub.result below sizes reach;
    }
