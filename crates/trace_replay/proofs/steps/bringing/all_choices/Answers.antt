use Rattle.std.proofs.Common.{◌≡◌, ⊎_elim, ◌+◌, ◌<◌, List, Some, length, sym, ap, subst, ◌∙◌, arith}
use Rattle.std.specs.List.{slice_get}
use Rattle.std.proofs.lemmas.List.{length_push}
use Rattle.std.proofs.lemmas.Option.{slice_get-get_or}
use Rattle.history_state.specs.Lemmas.Tidy.{get_push}
use Rattle.ld_base.specs.declared.linking.Choice.{Choice}
use Rattle.ld_base.specs.declared.linking.Loaded.{Loaded}
use Rattle.trace_replay.specs.Opened.{IsNew}
use Rattle.trace_replay.specs.declared.steps.bringing.NewChoices.{NewChoices}
use Rattle.trace_replay.proofs.steps.bringing.all_choices.Goals as goal

pub loop-index-preserved : goal.loop-index-preserved
loop-index-preserved c = record {
  count = ap (λ (ns : List NewChoices). length ns) c.in_ok-push.ensures.items ∙ length_push c.loop-index.news.items c.in_ok-new_choices.field-0 ∙ ap (λ k. k + 1) c.loop-index.invariant.count;
  each = λ k o own n object lists at. ⊎_elim
      (λ (old : slice_get c.loop-index.news.items k ≡ Some n). c.loop-index.invariant.each k o own n object lists old)
      (λ (last : (k ≡ length c.loop-index.news.items) × (c.in_ok-new_choices.field-0 ≡ n)).
      let here : k ≡ c.loop-index.index = last.0 ∙ c.loop-index.invariant.count in
      let within : c.loop-index.index < length c.args.added.now = omega arith in
      let inside : c.loop-index.index < length c.args.choices.now = omega (arith, c.requires.count) in
      let first : Some c.index-added-index.result ≡ Some o =
      sym (slice_get-get_or c.args.added.now c.loop-index.index c.index-added-index.result within ∙ ap (λ (x : Loaded). Some x) (sym c.index-added-index.is)) ∙ ap (slice_get c.args.added.now) (sym here) ∙ object in
      let second : Some c.index-choices-index.result ≡ Some own =
      sym (slice_get-get_or c.args.choices.now c.loop-index.index c.index-choices-index.result inside ∙ ap (λ (x : List Choice). Some x) (sym c.index-choices-index.is)) ∙ ap (slice_get c.args.choices.now) (sym here) ∙ lists in
      let object_is : c.index-added-index.result ≡ o = cc in
      let own_is : c.as_slice.result.now ≡ own = c.as_slice.ensures ∙ (let e : c.index-choices-index.result ≡ own = cc in e) in
      subst (λ (x : NewChoices). IsNew c.args.now o own x) last.1
      (subst (λ (y : Loaded). IsNew c.args.now y own c.in_ok-new_choices.field-0) object_is
      (subst (λ (ys : List Choice). IsNew c.args.now c.index-added-index.result ys c.in_ok-new_choices.field-0) own_is c.in_ok-new_choices.ensures)))
      (get_push c.loop-index.news.items c.in_ok-new_choices.field-0 k n (ap (λ (ns : List NewChoices). slice_get ns k) (sym c.in_ok-push.ensures.items) ∙ at));
}

pub returns : goal.returns
returns c = record { count = c.loop-index.invariant.count ∙ (let e : c.loop-index.index ≡ length c.args.added.now = omega arith in e); each = c.loop-index.invariant.each }
