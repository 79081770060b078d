-- The rule: what holds of all words and all views between any two steps.
use Rattle.std.specs.Prelude.{◌≡◌, ℕ, List, length, slice_index, slice_set, ◌<◌}
use Rattle.word_rule.specs.declared.kind.HartKind.{HartKind}
use Rattle.word_rule.specs.declared.kind.KeeperKind.{KeeperKind}
use Rattle.word_rule.specs.declared.view.HartView.{HartView}
use Rattle.word_rule.specs.declared.view.KeeperView.{KeeperView}
use Rattle.word_rule.specs.declared.view.View.{View}
use Rattle.word_rule.specs.declared.view.View.TheVariants.{Keeper, Hart}
use mathlib.Core.Option.{some}
use lib.ListN.{get_elem?}
use Rattle.word_rule.specs.Layout.{table_words}
use Rattle.word_rule.specs.Views.{after, entries_of, exchanges_of, kept_at, row_of}
use Rattle.word_rule.specs.Operations.{becomes}
use Rattle.word_rule.specs.HartSteps.{HartLearns, hart_word, hart_op, hart_after}
use Rattle.word_rule.specs.KeeperSteps.{KeeperLearns, keeper_word, keeper_op, keeper_after}
use Rattle.word_rule.specs.Seats.{Heard, Seats}
use Rattle.word_rule.specs.Words.{Words}
use Rattle.word_rule.specs.Calls.{Calls}
use Rattle.word_rule.specs.Slots.{AreLosses, Slots}
use Rattle.word_rule.specs.Generations.{Generations}
use Rattle.word_rule.specs.Fetches.{Fetches}

-- the parts, over the words and what the views say: the keeper's, and the last view of each hart
pub record Parts (word : ℕ → ℕ) (kept : KeeperView) (hart : ℕ → HartView) : Type 0 where
  pub heard : Heard kept.events hart
  pub locks : Words word (kept_at kept) kept.access (after (λ (h : HartView). h.access) hart)
  pub calls : Calls word (length kept.events) (row_of kept) (after (λ (h : HartView). h.lane) hart) (after (λ (h : HartView). entries_of h.trail) hart)
  pub slots : Slots word (kept_at kept) kept.access.locked (length kept.events) (row_of kept) (after (λ (h : HartView). h.lane.tried) hart)
      (after (λ (h : HartView). exchanges_of h.trail) hart)
  pub losses : AreLosses kept.losses (after (λ (h : HartView). exchanges_of h.trail) hart)
  pub generations : Generations word kept.generation (row_of kept) (after (λ (h : HartView). h.trail) hart)
  pub fetches : Fetches (kept_at kept) kept.retired (after (λ (h : HartView). h.access) hart) (after (λ (h : HartView). h.trail) hart)

pub record IsGuest (words : List ℕ) (views : List View) : Type 0 where
  pub kept : KeeperView
  pub keeper : ℕ
  pub seat_of : ℕ → ℕ
  pub hart : ℕ → HartView
  pub wide : length words ≡ table_words
  pub seats : Seats views kept keeper seat_of hart
  pub parts : Parts (slice_index words) kept hart

-- a seat with this view may take a step of the kind: whatever the words and the other views are, the rule holds after it, and
-- what the kind tells is true
abbrev pub HartKeeps : HartKind → ℕ → HartView → Type 0
HartKeeps kind seat h =
    (words : List ℕ) (views : List View) → IsGuest words views → get_elem? views seat ≡ some (Hart h)
    → slice_index words (hart_word kind) < 18446744073709551616
    → let n = slice_index words (hart_word kind) in
    IsGuest (slice_set words (hart_word kind) (becomes (hart_op kind) n)) (slice_set views seat (Hart (hart_after kind h n))) × HartLearns kind h n

abbrev pub KeeperKeeps : KeeperKind → ℕ → KeeperView → Type 0
KeeperKeeps kind seat k =
    (words : List ℕ) (views : List View) → IsGuest words views → get_elem? views seat ≡ some (Keeper k)
    → slice_index words (keeper_word kind) < 18446744073709551616
    → let n = slice_index words (keeper_word kind) in
    IsGuest (slice_set words (keeper_word kind) (becomes (keeper_op kind) n)) (slice_set views seat (Keeper (keeper_after kind k n))) × KeeperLearns kind k n
