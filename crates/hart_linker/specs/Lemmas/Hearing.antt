-- A hart that has ended is told of events: it stays between two turns.
use Rattle.std.proofs.Common.{◌≡◌, ◌≤◌, false, List, ◌++◌, None, Some, sym, ap, ◌∙◌, arith}
use Rattle.history_event.specs.declared.event.Event.{Event}
use Rattle.history_event.specs.declared.hart_end.HartEnd.{HartEnd}
use Rattle.word_rule.specs.declared.view.HartView.{HartView}
use Rattle.word_rule.specs.Views.{IsLane, known_of, last_block}
use Rattle.slot_bind.specs.Rows.{full_offer}
use Rattle.history_state.specs.After.{after}
use Rattle.history_state.specs.Setting.{Setting}
use Rattle.tls_blocks.specs.Blocks.{BlockTable}
use Rattle.hart_moves.specs.Harts.{HartState, Resolving}
use Rattle.hart_linker.specs.Between.{BlocksFit, Hears, IsAtRow, IsBetweenTurns}
use Rattle.hart_trails.specs.Lemmas.Rising.{generation_rises}

-- the blocks that it keeps are of no later generation
pub early_on : (d : BlockTable) (old more now : List Event) → now ≡ old ++ more → d.generation ≤ (after old).generation → d.generation ≤ (after now).generation
early_on d old more now are early =
    let rises : (after old).generation ≤ (after (old ++ more)).generation = generation_rises old more in
    let same : (after now).generation ≡ (after (old ++ more)).generation = ap (λ (es : List Event). (after es).generation) are in
    omega (arith, early, rises, same)

pub blocks_told : (w : Setting) (begun : List Event) (before now : HartView) (d : BlockTable) → Hears w begun before now → BlocksFit d before → BlocksFit d now
blocks_told w begun before now d x fit =
    let known : known_of now.lane ≡ known_of before.lane = ap (λ (h : HartView). known_of h.lane) x.told in
    record {
      same = λ number. fit.same number ∙ ap (last_block d.generation number) (sym known);
      latest = λ generation number later. ap (last_block generation number) known ∙ fit.latest generation number later;
    }

-- outside a call it stands at its row as before
pub row_told : (w : Setting) (begun : List Event) (before now : HartView) → Hears w begun before now → before.lane.calling ≡ false → IsLane before.lane → (r : Resolving) → IsAtRow before r → IsAtRow now r
row_told w begun before now x calm lane Resolving.idle y = ap (λ (h : HartView). h.lane.calling) x.told ∙ calm
row_told w begun before now x calm lane (Resolving.to_exchange o) y = absurd (let no : None ≡ Some (full_offer y.grant) = sym (lane.idle calm) ∙ y.read in cc)
row_told w begun before now x calm lane (Resolving.to_finish o found) y = absurd y
row_told w begun before now x calm lane (Resolving.to_settle o found) y = ap (λ (h : HartView). h.lane.calling) x.told ∙ calm

pub hears_between : (w : Setting) (begun : List Event) (before now : HartView) (b : HartState) (d : BlockTable) (reason : HartEnd) → Hears w begun before now → b.«end» ≡ Some reason
    → before.lane.calling ≡ false → IsLane before.lane → IsBetweenTurns w begun before b d → IsBetweenTurns w begun now b d
hears_between w begun before now b d reason x over calm lane at = record {
  heard = x.heard;
  fits = λ on. absurd (let no : None ≡ Some reason = sym on ∙ over in cc);
  row = row_told w begun before now x calm lane b.resolving at.row;
  blocks = blocks_told w begun before now d x at.blocks;
  early = early_on d before.heard x.longer.0 now.heard x.longer.1 at.early;
  current = λ on. absurd (let no : None ≡ Some reason = sym on ∙ over in cc);
  reached = λ on. absurd (let no : None ≡ Some reason = sym on ∙ over in cc);
}
