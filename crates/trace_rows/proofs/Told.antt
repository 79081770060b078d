-- What harts write and are told, and how they end.
use Rattle.std.proofs.Common.{◌≡◌, ℕ, ◌&&◌, ◌||◌, Bool, not, eqb, List, [], ◌∷◌, map, refl, sym, ap, subst, ◌∙◌}
use Rattle.std.specs.Bool.{Decides}
use Rattle.std.specs.List.{list_any}
use Rattle.std.proofs.lemmas.Bool.{not-true}
use Rattle.std.proofs.lemmas.Bool.Decides.{Decides-and, Decides-eqb, Decides-like, Decides-or}
use Rattle.history_event.specs.declared.state.Ending.{Ending}
use Rattle.history_state.specs.Allowed.{MayEnd}
use Rattle.history_state.specs.Objects.{has}
use Rattle.history_state.specs.Setting.{Setting, are_finals}
use Rattle.history_state.specs.State.{State}
use Rattle.trace_replay.specs.Lists.{Lists}
use Rattle.trace_replay.specs.Shown.{IsShown}

-- ---- ends

has_map : (endings : List Ending) (hart : ℕ) → list_any (λ (e : Ending). eqb e.hart hart) endings ≡ has (map (λ (e : Ending). e.hart) endings) hart
has_map [] hart = refl
has_map (e ∷ rest) hart = ap (λ (b : Bool). eqb e.hart hart || b) (has_map rest hart)

pub ends_so : (w : Setting) (s : State) (l : Lists) (hart : ℕ) (ended first finals : Bool) → IsShown s l → ended ≡ list_any (λ (e : Ending). eqb e.hart hart) l.endings → first ≡ eqb hart 0
    → finals ≡ are_finals w s → Decides (not ended || (first && finals)) (MayEnd w s hart)
ends_so w s l hart ended first finals x is zero over =
    let there : ended ≡ has (map (λ (e : Ending). e.hart) s.endings) hart = is ∙ has_map l.endings hart ∙ ap (λ (es : List Ending). has (map (λ (e : Ending). e.hart) es) hart) x.endings in
    Decides-or (not ended) (first && finals)
    ((λ e. sym there ∙ not-true ended e), (λ none. ap not (there ∙ none)))
    (Decides-and first finals (Decides-like first (λ e. e) (λ e. e) (subst (λ (b : Bool). Decides b (hart ≡ 0)) (sym zero) (Decides-eqb hart 0))) ((λ e. sym over ∙ e), (λ e. over ∙ e)))
