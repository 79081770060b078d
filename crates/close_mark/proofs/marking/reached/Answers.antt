use Rattle.std.proofs.Common.{◌≡◌, ◌+◌, ◌<◌, ℕ, List, [], ◌∷◌, ◌++◌, Bool, true, false, eqb, map, length, sym, ap, subst, ◌∙◌, arith, length-append}
use Rattle.std.specs.HashSet.{contains}
use Rattle.std.specs.List.{list_any}
use Rattle.std.specs.List.Sorted.{IsPermutation}
use Rattle.std.proofs.lemmas.Bool.{OnFalse_at, not-true, not-false}
use Rattle.std.proofs.lemmas.List.{nil_from_length}
use Rattle.history_graph.specs.declared.graph.Edge.{Edge}
use Rattle.close_mark.specs.Marks.{target_of}
use Rattle.close_mark.proofs.Closed.{Marked, Marked-start, Marked-again, Marked-new, all_marked, left, left_less, targets}
use Rattle.close_mark.proofs.marking.reached.Goals as goal

pub loop-serial-init : goal.loop-serial-init
loop-serial-init c =
    let roots : List ℕ = c.args.roots.now in
    let marked : ℕ → Bool = contains eqb c.new-reached.result in
    let start = Marked-start c.args.edges.now roots marked (λ d. ap (list_any (eqb d)) c.new-reached.ensures.empty) in
    subst (Marked c.args.edges.now roots marked) (sym c.in_ok-pending.ensures.items) start

pub loop-serial-smaller-in-Continue-branch-4 : goal.loop-serial-smaller-in-Continue-branch-4
loop-serial-smaller-in-Continue-branch-4 c =
    let x : ℕ = c.in-Some.serial in
    let edges : List Edge = c.in_ok-successors.successors in
    let inside : List Edge = c.successors.inside.edges.items in
    let before : ℕ → Bool = contains eqb c.loop-serial.reached in
    let after : ℕ → Bool = contains eqb c.insert.new.self in
    let rest : List ℕ = c.pop.new.self.items in
    let new : before x ≡ false = not-true (before x) (sym c.in_ok-insert.ensures.added ∙ c.if-branch.true) in
    let less : left inside after + length (targets inside x) ≡ left inside before = left_less inside before after x new c.in_ok-insert.ensures.updates.0 in
    let found : c.push_targets.new.pending.items ≡ rest ++ targets inside x =
    c.in_ok-push_targets.ensures ∙ ap (λ (es : List Edge). rest ++ map target_of es) c.of.ensures
    ∙ ap (λ (es : List Edge). rest ++ targets es x) (sym c.successors.view_is) in
    let long : length c.push_targets.new.pending.items ≡ length rest + length (targets inside x) = ap length found ∙ length-append rest (targets inside x) in
    let was : length c.loop-serial.pending.items ≡ length rest + 1 = ap length c.in-Some.ensures.items ∙ length-append rest (x ∷ []) in
    let smaller : length c.push_targets.new.pending.items + left inside after < length c.loop-serial.pending.items + left inside before = omega arith in
    smaller

pub loop-serial-preserved-in-Continue-branch-4 : goal.loop-serial-preserved-in-Continue-branch-4
loop-serial-preserved-in-Continue-branch-4 c =
    let x : ℕ = c.in-Some.serial in
    let edges : List Edge = c.args.edges.now in
    let successors : List Edge = c.in_ok-successors.successors in
    let roots : List ℕ = c.args.roots.now in
    let before : ℕ → Bool = contains eqb c.loop-serial.reached in
    let after : ℕ → Bool = contains eqb c.insert.new.self in
    let rest : List ℕ = c.pop.new.self.items in
    let same : IsPermutation edges successors = c.in_ok-successors.ensures in
    let old : Marked edges roots before (rest ++ x ∷ []) = subst (Marked edges roots before) c.in-Some.ensures.items c.loop-serial.invariant in
    let found : c.push_targets.new.pending.items ≡ rest ++ targets successors x =
    c.in_ok-push_targets.ensures ∙ ap (λ (es : List Edge). rest ++ map target_of es) c.of.ensures in
    subst (Marked edges roots after) (sym found) (Marked-new edges successors roots before after rest x same c.in_ok-insert.ensures.updates.0 old)

pub loop-serial-preserved : goal.loop-serial-preserved
loop-serial-preserved c =
    let x : ℕ = c.in-Some.serial in
    let edges : List Edge = c.args.edges.now in
    let roots : List ℕ = c.args.roots.now in
    let before : ℕ → Bool = contains eqb c.loop-serial.reached in
    let rest : List ℕ = c.pop.new.self.items in
    let there : before x ≡ true = not-false (before x) (sym c.in_ok-insert.ensures.added ∙ c.if-branch.false) in
    let old : Marked edges roots before (rest ++ x ∷ []) = subst (Marked edges roots before) c.in-Some.ensures.items c.loop-serial.invariant in
    let same : c.insert.new.self.keys ≡ c.loop-serial.reached.keys = OnFalse_at c.if-branch.false c.in_ok-insert.ensures.unchanged in
    subst (λ (keys : List ℕ). Marked edges roots (λ q. list_any (eqb q) keys) rest) (sym same) (Marked-again edges roots before rest x there old)

pub returns : goal.returns
returns c =
    let edges : List Edge = c.args.edges.now in
    let roots : List ℕ = c.args.roots.now in
    let marked : ℕ → Bool = contains eqb c.loop-serial.reached in
    let none : c.loop-serial.pending.items ≡ [] = nil_from_length c.loop-serial.pending.items (omega (arith, c.loop-serial.pending.ok.0, c.in_default.ensures.cases)) in
    let old : Marked edges roots marked [] = subst (Marked edges roots marked) none c.loop-serial.invariant in
    λ d. (old.sound d, all_marked edges roots marked old d)
