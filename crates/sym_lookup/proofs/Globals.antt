-- Searches for a name, of those that are global first and then of the linker's own object.
use Rattle.std.proofs.Common.{◌≡◌, ◌∙◌, ap, sym, ℕ, List, [], ◌∷◌}
use Rattle.std.specs.Prelude.{Option, Some, None}
use Rattle.std.specs.Option.{option_or}
use Rattle.ld_base.specs.declared.linking.Want.{Want}
use Rattle.scope_rule.specs.Choose.{first_with, pick_at}
use Rattle.scope_rule.specs.Lemmas.Orders.{first_of_two}
use Rattle.scope_rule.specs.Searching.{in_global}
use Rattle.scope_rule.specs.Seen.{Seen}

module _ (s : Seen) (sought name : List ℕ) (wanted want : Want) (same : sought ≡ name) (alike : wanted ≡ want) where
  -- what the linker's own object has
  abbrev last : List ℕ → Want → Option (ℕ × ℕ)
  last bytes asked = first_with (pick_at s bytes asked) (0 ∷ [])

  alike_in : (serials : List ℕ) → first_with (pick_at s sought wanted) serials ≡ first_with (pick_at s name want) serials
  alike_in serials = ap (λ n. first_with (pick_at s n wanted) serials) same ∙ ap (λ w. first_with (pick_at s name w) serials) alike

  pub by_global : (m : ℕ × ℕ) → Some m ≡ first_with (pick_at s sought wanted) s.global → Some m ≡ in_global s name want
  unfolding in_global
  by_global m is = ap (λ (found : Option (ℕ × ℕ)). option_or found (last name want)) (is ∙ alike_in s.global) ∙ sym (first_of_two (pick_at s name want) s.global (0 ∷ []))

  pub by_linker : (found : Option (ℕ × ℕ)) → None ≡ first_with (pick_at s sought wanted) s.global → found ≡ last sought wanted → found ≡ in_global s name want
  unfolding in_global
  by_linker found none is =
      is ∙ alike_in (0 ∷ []) ∙ ap (λ (before : Option (ℕ × ℕ)). option_or before (last name want)) (none ∙ alike_in s.global) ∙ sym (first_of_two (pick_at s name want) s.global (0 ∷ []))
