use Rattle.std.proofs.Common.{◌≡◌, ◌<◌, None, List, length, rules, ap, sym, subst, ◌∙◌}
use Rattle.std.specs.List.{filter, find, slice_get}
use Rattle.std.specs.Option.{option_map}
use Rattle.std.proofs.lemmas.Fn.{filter_same}
use Rattle.history_event.specs.declared.state.Kept.{Kept}
use Rattle.history_journal.specs.LinkHarts.Kept.{KeptTable, fault_of, is_anothers, is_of}
use Rattle.history_journal.proofs.LinkHarts.Removed.{at_place, none_is, removed_others}
use Rattle.history_journal.proofs.link_harts.kept.KeptFaults.take.Goals as goal

pub returns-in_err-place-clause-kept : goal.returns-in_err-place-clause-kept
returns-in_err-place-clause-kept c =
    let all : c.as_slice.result.now ≡ c.args.self.now.kept = c.as_slice.ensures.value ∙ ap (λ (v : KeptTable). v.kept) c.self.view_is in
    let none : find (is_of c.args.hart) c.args.self.now.kept ≡ None = subst (λ (ks : List Kept). find (is_of c.args.hart) ks ≡ None) all c.in_err-place.ensures.none in
    none_is c.args.hart c.args.self.now.kept none

pub returns-clause-taken : goal.returns-clause-taken
returns-clause-taken c =
    let items : c.as_slice.result.now ≡ c.self.inside.kept.items = c.as_slice.ensures.value in
    let found : slice_get c.self.inside.kept.items c.in_ok-place.place ≡ find (is_of c.args.hart) c.self.inside.kept.items =
    subst (λ (ks : List Kept). slice_get ks c.in_ok-place.place ≡ find (is_of c.args.hart) ks) items c.in_ok-place.ensures.found in
    let within : c.in_ok-place.place < length c.self.inside.kept.items = subst (λ (ks : List Kept). c.in_ok-place.place < length ks) items c.in_ok-place.ensures.within in
    ap (option_map (λ (k : Kept). k.fault)) (sym (at_place c.args.hart c.self.inside.kept.items c.in_ok-place.place c.remove-fault.result within c.remove-fault.ensures.value found))
    ∙ ap (λ (v : KeptTable). fault_of c.args.hart v.kept) c.self.view_is

pub returns-clause-kept : goal.returns-clause-kept
returns-clause-kept c =
    let items : c.as_slice.result.now ≡ c.self.inside.kept.items = c.as_slice.ensures.value in
    let found : slice_get c.self.inside.kept.items c.in_ok-place.place ≡ find (is_of c.args.hart) c.self.inside.kept.items =
    subst (λ (ks : List Kept). slice_get ks c.in_ok-place.place ≡ find (is_of c.args.hart) ks) items c.in_ok-place.ensures.found in
    let within : c.in_ok-place.place < length c.self.inside.kept.items = subst (λ (ks : List Kept). c.in_ok-place.place < length ks) items c.in_ok-place.ensures.within in
    let others : c.retain.new.self.items ≡ filter (is_anothers c.args.hart) c.remove-fault.new.self.items =
    filter_same _ (is_anothers c.args.hart) _ (λ x b f' k. search rules) _ _ c.retain.ensures.filtered in
    others ∙ ap (filter (is_anothers c.args.hart)) c.remove-fault.ensures.items
    ∙ removed_others c.args.hart c.self.inside.kept.items c.in_ok-place.place c.remove-fault.result within c.remove-fault.ensures.value found
    ∙ ap (λ (v : KeptTable). filter (is_anothers c.args.hart) v.kept) c.self.view_is
