use Rattle.std.proofs.Common.{◌≡◌, ℕ, ◌+◌, true, false, length, take, refl, sym, ap, ◌∙◌, arith}
use Rattle.history_event.specs.declared.hart_end.HartEnd.{HartEnd}
use Rattle.history_event.specs.declared.hart_end.HartEnd.TheVariants as ends
use Rattle.history_state.specs.Setting.{exited}
use Rattle.link_keeper.specs.Beginning.{ending_by, ends_in}
use Rattle.link_keeper.proofs.Exits.{done_at, fails_at}
use Rattle.link_keeper.proofs.beginning.first_exited.Goals.{in-Exit, in_default-matches}
use Rattle.link_keeper.proofs.beginning.first_exited.Goals as goal

not_exited : (hart : ℕ) (e : HartEnd) → ((code : ℕ) → e ≡ ends.Exit code → ⊥) → exited (record { hart = hart; «end» = e }) ≡ false
not_exited hart (ends.Exit code) other = absurd (other code refl)
not_exited hart _ other = refl

pub returns-then-left-eq0 : goal.returns-then-left-eq0
returns-then-left-eq0 c =
    let count = c.loop-event.invariant.count in
    let zeroth = c.if-left-eq0.true in
    sym (done_at c.args.harts c.loop-event.event-index c.args.events.now (omega (arith, count, zeroth)) c.loop-event.invariant.exits)

pub returns-then-not-matches : goal.returns-then-not-matches
returns-then-not-matches c =
    let count : c.loop-event.left + length (ends_in (take c.loop-event.event-index c.args.events.now)) ≡ c.args.harts = c.loop-event.invariant.count in
    let some : c.loop-event.left ≡ 0 → ⊥ = c.if-left-eq0.false in
    elim c.match-matches.branch [
      | in-Exit w ↦ absurd (let no : true ≡ false = sym w.matches-is ∙ c.if-not-matches.true in cc)
      | in_default-matches w ↦ sym (fails_at c.args.harts c.loop-event.event-index c.args.events.now c.event-item.result (record { hart = c.in-Ended.hart; «end» = c.in-Ended.«end» })
          c.loop-event-test.true (sym c.event-item.is) (ap ending_by c.in-Ended.is) (not_exited c.in-Ended.hart c.in-Ended.«end» w.in_default-matches.not-Exit) (omega (arith, count, some)))
    ]
