use Rattle.std.proofs.Common.{map, sym, ap, subst, ◌∙◌, arith}
use Rattle.std.specs.List.{All}
use Rattle.ldso_view.specs.Spelled.{IsFoundFrom, unknown}
use Rattle.ldso_view.proofs.More.{found_more, one_more}
use Rattle.ldso_view.proofs.spelled.all_found.Goals as goal

pub loop-member-preserved : goal.loop-member-preserved
loop-member-preserved g c = record {
  same =
      ap (map unknown) c.in_ok-push.ensures.ok
      ∙ one_more c.loop-member.all c.args.members.now c.in_ok-found.field-0 c.member-item.result c.loop-member.member-index c.loop-member-test.true c.loop-member.invariant.same
      (c.in_ok-found.ensures.same ∙ ap unknown c.member-item.is);
  found =
      let lib = g.L.Library.files c.args.library.now in
      let low = g.L.Library.faults c.args.library.now in
      let before = g.L.Library.faults c.loop-member.library in
      let after = g.L.Library.faults c.found.new.library in
      subst (All (IsFoundFrom lib low after c.args.folder.now)) (sym c.in_ok-push.ensures.ok)
      (found_more lib low before after c.args.folder.now c.loop-member.all c.in_ok-found.field-0 c.loop-member.invariant.faults c.found.ensures.faults
      c.loop-member.invariant.found
      (subst (λ files. IsFoundFrom files before after c.args.folder.now c.in_ok-found.field-0) c.loop-member.invariant.files c.in_ok-found.ensures.found));
  faults = omega (arith, c.found.ensures.faults, c.loop-member.invariant.faults);
  files = c.found.ensures.files ∙ c.loop-member.invariant.files;
}
