use Rattle.std.proofs.Common.{◌≡◌, ℕ, List, Some, length}
use Rattle.std.specs.List.{slice_get}
use Rattle.ld_base.specs.declared.linking.Choice.{Choice}
use Rattle.ld_base.specs.declared.linking.Loaded.{Loaded}
use Rattle.trace_replay.specs.Opened.{IsNew}
use Rattle.trace_replay.specs.declared.steps.bringing.NewChoices.{NewChoices}
use Rattle.trace_replay.proofs.steps.bringing.all_choices.Given as goal

-- what the objects so far chose is there
abbrev pub invariant-loop-index : goal.invariant-loop-index
invariant-loop-index l = record {
  count : length l.news.items ≡ l.index;
  each : (k : ℕ) (o : Loaded) (own : List Choice) (n : NewChoices) → slice_get l.added k ≡ Some o → slice_get l.choices k ≡ Some own → slice_get l.news.items k ≡ Some n → IsNew l.now o own n;
}
