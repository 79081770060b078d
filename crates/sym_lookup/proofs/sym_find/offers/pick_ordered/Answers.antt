use Rattle.std.proofs.Common.{◌≡◌, ◌==◌, ◌∙◌, ap, sym, false, true, rules, List, ℕ, None}
use Rattle.std.specs.Prelude.{count_by, if◌then◌else◌, slice_get}
use Rattle.std.specs.List.{find}
use Rattle.ld_base.specs.declared.linking.Want.{Want}
use Rattle.ld_base.specs.Pick.{names_no_version}
use Rattle.scope_lists.specs.NameOrder.{offers_of}
use Rattle.sym_lookup.specs.SymFind.Offers.{in_sight_at, is_wanted_at}
use Rattle.sym_lookup.proofs.SymFind.Offers.{any_taken, none_taken, sight_taken, wanted_taken}
use Rattle.sym_lookup.proofs.sym_find.offers.pick_ordered.Goals as goal

pub returns-then-not-object : goal.returns-then-not-object
returns-then-not-object c =
    let o = c.args.object.now in
    let are : c.offers.result.now ≡ offers_of o c.args.sought.now.name = c.offers.ensures ∙ ap (offers_of o) c.name-name.ensures in
    let without : o.has_versym ≡ false = search rules in
    any_taken o c.args.sought.now.name c.args.sought.now.want (c.one_pick.ensures.taken o c.args.sought.now.name c.args.sought.now.want) c.copied.result without
    (c.copied.ensures ∙ c.first.ensures.value ∙ ap (λ (l : List ℕ). slice_get l 0) are)

pub returns-in-Some : goal.returns-in-Some
returns-in-Some c =
    let o = c.args.object.now in
    let some : o.has_versym ≡ true = search rules in
    wanted_taken o c.args.sought.now.name c.args.sought.now.want (c.one_pick.ensures.taken o c.args.sought.now.name c.args.sought.now.want) c.first_wanted.result c.in-Some.index some
    (c.first_wanted.ensures ∙ ap (λ (w : Want). find (is_wanted_at o w) (offers_of o c.name-name.result.now)) c.asked-asked.ensures ∙ ap (λ (l : List ℕ). find (is_wanted_at o c.args.sought.now.want) (offers_of o l)) c.name-name.ensures) c.in-Some.is

pub returns-in-None : goal.returns-in-None
returns-in-None c =
    let o = c.args.object.now in
    let are : c.offers-in-None.result.now ≡ offers_of o c.args.sought.now.name = c.offers-in-None.ensures ∙ ap (offers_of o) c.name-name.ensures in
    let some : o.has_versym ≡ true = search rules in
    sight_taken o c.args.sought.now.name c.args.sought.now.want (c.one_pick.ensures.taken o c.args.sought.now.name c.args.sought.now.want) c.first_wanted.result c.only_in_sight.result some
    (c.first_wanted.ensures ∙ ap (λ (w : Want). find (is_wanted_at o w) (offers_of o c.name-name.result.now)) c.asked-asked.ensures ∙ ap (λ (l : List ℕ). find (is_wanted_at o c.args.sought.now.want) (offers_of o l)) c.name-name.ensures) c.in-None.is
    (ap names_no_version (sym c.asked-asked.ensures) ∙ sym c.names_no_version.ensures ∙ c.if-names_no_version.true)
    (c.only_in_sight.ensures ∙ ap (λ (l : List ℕ). if count_by (in_sight_at o) l == 1 then find (in_sight_at o) l else None) are)

pub returns-in-None-2 : goal.returns-in-None-2
returns-in-None-2 c =
    let o = c.args.object.now in
    let some : o.has_versym ≡ true = search rules in
    none_taken o c.args.sought.now.name c.args.sought.now.want (c.one_pick.ensures.taken o c.args.sought.now.name c.args.sought.now.want) c.first_wanted.result some
    (c.first_wanted.ensures ∙ ap (λ (w : Want). find (is_wanted_at o w) (offers_of o c.name-name.result.now)) c.asked-asked.ensures ∙ ap (λ (l : List ℕ). find (is_wanted_at o c.args.sought.now.want) (offers_of o l)) c.name-name.ensures) c.in-None-2.is
    (ap names_no_version (sym c.asked-asked.ensures) ∙ sym c.names_no_version.ensures ∙ c.if-names_no_version.false)
