-- Kinds of step of either seat, for a table of atomic words.
use Rattle.std.specs.Prelude.{◌≡◌, ℕ, []}
use Rattle.atomic_table.specs.Table.{Me, Step}
use Rattle.word_rule.specs.declared.kind.Kind.{Kind}
use Rattle.word_rule.specs.declared.kind.Kind.TheVariants.{Hart as OfHart, Keeper as OfKeeper}
use Rattle.word_rule.specs.declared.view.View.{View}
use Rattle.word_rule.specs.declared.view.View.TheVariants.{Keeper, Hart}
use Rattle.word_rule.specs.Operations.{Op, operands}
use Rattle.word_rule.specs.HartSteps.{HartReady, HartLearns, hart_word, hart_op, hart_after}
use Rattle.word_rule.specs.KeeperSteps.{KeeperReady, KeeperLearns, keeper_word, keeper_op, keeper_after}

abbrev pub word_of : Kind → ℕ
word_of (OfHart kind) = hart_word kind
word_of (OfKeeper kind) = keeper_word kind

abbrev pub op_of : Kind → Op
op_of (OfHart kind) = hart_op kind
op_of (OfKeeper kind) = keeper_op kind

-- a step of a kind is for a seat of its own sort alone
abbrev pub Ready : Kind → View → Type 0
Ready (OfHart kind) (Hart h) = HartReady kind h
Ready (OfKeeper kind) (Keeper k) = KeeperReady kind k
Ready _ _ = ⊥

abbrev pub after_step : Kind → View → ℕ → View
after_step (OfHart kind) (Hart h) n = Hart (hart_after kind h n)
after_step (OfKeeper kind) (Keeper k) n = Keeper (keeper_after kind k n)
after_step _ v n = v

abbrev pub Learns : Kind → View → ℕ → Type 0
Learns (OfHart kind) (Hart h) n = HartLearns kind h n
Learns (OfKeeper kind) (Keeper k) n = KeeperLearns kind k n
Learns _ _ n = Unit {0}

-- the step is one on the kind's word, with its operation's operands
abbrev pub IsStep : Kind → Step Unit → Type 0
IsStep kind step = (step.word ≡ word_of kind) × ((step.first, step.second) ≡ operands (op_of kind))

-- what a step tells: that the seat was ready for the kind, that this was its step, the view after it, and what the rule knows
abbrev pub Tells : Kind → Step Unit → Me Unit View → ℕ → Me Unit View → Type 0
Tells kind step before found now = (now ≡ (after_step kind before.0 found, [])) × Learns kind before.0 found × Ready kind before.0 × IsStep kind step
