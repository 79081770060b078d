use Rattle.std.proofs.Common.{◌≡◌, ◌<◌, Bool, not, None, List, length, rules, ap, sym, subst, ◌∙◌}
use Rattle.std.specs.List.{filter, find, slice_get}
use Rattle.std.proofs.lemmas.Fn.{filter_same}
use Rattle.link_spaces.specs.PendingClosingsPart.Pending.{PendingClosing, PendingList, is_of}
use Rattle.link_spaces.proofs.PendingClosingsPart.Taken.{at_place, none_is, removed_others}
use Rattle.link_spaces.proofs.pending_closings.closings.PendingClosings.take.Goals as goal

pub returns-in_err-place-clause-closings : goal.returns-in_err-place-clause-closings
returns-in_err-place-clause-closings c =
    let all : c.as_slice.result.now ≡ c.args.self.now.closings = c.as_slice.ensures.value ∙ ap (λ (v : PendingList). v.closings) c.self.view_is in
    none_is (is_of c.args.hart c.args.set.now) c.args.self.now.closings
    (subst (λ (ps : List PendingClosing). find (is_of c.args.hart c.args.set.now) ps ≡ None) all c.in_err-place.ensures.none)

pub returns-clause-taken : goal.returns-clause-taken
returns-clause-taken c =
    let items : c.as_slice.result.now ≡ c.self.inside.closings.items = c.as_slice.ensures.value in
    let found : slice_get c.self.inside.closings.items c.in_ok-place.place ≡ find (is_of c.args.hart c.args.set.now) c.self.inside.closings.items =
    subst (λ (ps : List PendingClosing). slice_get ps c.in_ok-place.place ≡ find (is_of c.args.hart c.args.set.now) ps) items c.in_ok-place.ensures.found in
    let within : c.in_ok-place.place < length c.self.inside.closings.items = subst (λ (ps : List PendingClosing). c.in_ok-place.place < length ps) items c.in_ok-place.ensures.within in
    sym (at_place (is_of c.args.hart c.args.set.now) c.self.inside.closings.items c.in_ok-place.place c.remove-closing.result within c.remove-closing.ensures.value found)
    ∙ ap (λ (v : PendingList). find (is_of c.args.hart c.args.set.now) v.closings) c.self.view_is

pub returns-clause-closings : goal.returns-clause-closings
returns-clause-closings c =
    let other : PendingClosing → Bool = λ p. not (is_of c.args.hart c.args.set.now p) in
    let items : c.as_slice.result.now ≡ c.self.inside.closings.items = c.as_slice.ensures.value in
    let found : slice_get c.self.inside.closings.items c.in_ok-place.place ≡ find (is_of c.args.hart c.args.set.now) c.self.inside.closings.items =
    subst (λ (ps : List PendingClosing). slice_get ps c.in_ok-place.place ≡ find (is_of c.args.hart c.args.set.now) ps) items c.in_ok-place.ensures.found in
    let within : c.in_ok-place.place < length c.self.inside.closings.items = subst (λ (ps : List PendingClosing). c.in_ok-place.place < length ps) items c.in_ok-place.ensures.within in
    let others : c.retain.new.self.items ≡ filter other c.remove-closing.new.self.items =
    filter_same _ other _ (λ x b f' k. search rules) _ _ c.retain.ensures.filtered in
    others ∙ ap (filter other) c.remove-closing.ensures.items
    ∙ removed_others (is_of c.args.hart c.args.set.now) c.self.inside.closings.items c.in_ok-place.place c.remove-closing.result within c.remove-closing.ensures.value found
    ∙ ap (λ (v : PendingList). filter other v.closings) c.self.view_is
