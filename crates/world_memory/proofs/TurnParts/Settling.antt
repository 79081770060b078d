-- A history that is legal with more events has each of them where it may come.
use Rattle.std.proofs.Common.{◌≡◌, ◌∙◌, ap, sym, subst, refl, ℕ, zero, suc, List, [], ◌∷◌, ◌++◌, take, length, Some, None, append_assoc}
use Rattle.std.specs.List.{slice_get}
use Rattle.std.proofs.Math.Seq.{take-append_seam}
use Rattle.history_event.specs.declared.event.Event.{Event}
use Rattle.history_state.specs.Allowed.{Allowed}
use Rattle.history_state.specs.Legal.{Legal}
use Rattle.history_state.specs.Setting.{Setting}
use Rattle.history_state.specs.Lemmas.History.{one_behind}
use Rattle.hart_moves.specs.Harts.{HartState}
use Rattle.hart_moves.specs.Moves.{AreAllowed}
use Rattle.hart_moves.specs.Lemmas.Legality.{allowed_split}
use Rattle.world_turns.specs.Laws.{SettlingIsSound}
use Rattle.world_turns.specs.World.{settled_by, settling}
use Rattle.world_memory.specs.TurnParts.Settling.{NextMaySettle, SettlingMayCome}

at_seam : (past : List Event) (e : Event) (rest : List Event) → slice_get (past ++ e ∷ rest) (length past) ≡ Some e
at_seam [] e rest = refl
at_seam (x ∷ past) e rest = at_seam past e rest

legal_behind : (w : Setting) (past more : List Event) → Legal w (past ++ more) → AreAllowed w past more
unfolding Legal
legal_behind w past [] legal = tt
legal_behind w past (e ∷ rest) legal = (
  subst (λ (es : List Event). Allowed w es e) (take-append_seam past (e ∷ rest)) (legal (length past) e (at_seam past e rest)),
  legal_behind w (past ++ e ∷ []) rest (subst (Legal w) (sym (one_behind past e rest)) legal),
)

-- ---- harts

pub settling_may : SettlingIsSound → SettlingMayCome
settling_may sound w world only x = legal_behind w world.journal (settling world.harts) (sound w world only x).legal

-- what is settled of the harts in front, of one, and of those behind it
settling_at : (harts : List HartState) (h : ℕ) (b : HartState) → slice_get harts h ≡ Some b
    → (rest : List Event) × (settling harts ≡ settling (take h harts) ++ (settled_by b.resolving ++ rest))
settling_at [] h b at = absurd (let none : None ≡ Some b = at in cc)
settling_at (x ∷ rest) zero b at =
    let same : x ≡ b = cc in (settling rest, ap (λ (y : HartState). settled_by y.resolving ++ settling rest) same)
settling_at (x ∷ rest) (suc h) b at =
    let more = settling_at rest h b at in
    (more.0, ap (λ (es : List Event). settled_by x.resolving ++ es) more.1 ∙ sym (append_assoc (settled_by x.resolving) (settling (take h rest)) (settled_by b.resolving ++ more.0)))

pub next_may : SettlingIsSound → NextMaySettle
next_may sound w world h b only x at =
    let parts = settling_at world.harts h b at in
    let all = subst (AreAllowed w world.journal) parts.1 (settling_may sound w world only x) in
    let behind = (allowed_split w world.journal (settling (take h world.harts)) (settled_by b.resolving ++ parts.0) all).1 in
    (allowed_split w (world.journal ++ settling (take h world.harts)) (settled_by b.resolving) parts.0 behind).0
