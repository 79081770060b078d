-- What a header adds to those before it.
use Rattle.std.proofs.Common.{◌≡◌, ℕ, ◌+◌, ◌^◌, ◌<◌, ◌≤◌, Bool, true, false, ◌||◌, List, [], ◌∷◌, ◌++◌, length, take, get_or, refl, ap, ◌∙◌, arith}
use Rattle.std.specs.Prelude.{Some, None}
use Rattle.std.specs.List.{list_any}
use Rattle.std.proofs.lemmas.List.Folds.{list_any-append}
use Rattle.std.proofs.lemmas.Option.{slice_get-get_or}
use Rattle.elf_head.specs.AcceptancePart.Least.{least_below}
use Rattle.elf_head.specs.AcceptancePart.Lemmas.Leasts.{least_found, least_kept}
use Rattle.ld_base.specs.declared.parts.Header.{Header}
use Rattle.elf_head.specs.Segments.{bad_segment, is_bad, is_bad_at, is_misshapen}

-- whether one passes of a list with one more
pub any_push : {X : Type 0} (p : X → Bool) (xs : List X) (x : X) → list_any p (xs ++ x ∷ []) ≡ (list_any p xs || p x)
any_push p xs x = list_any-append p xs (x ∷ []) ∙ ap (λ b. list_any p xs || b) (elim (p x) as (λ b. (b || false) ≡ b) [ true ↦ refl | false ↦ refl ])

-- a segment that may be mapped ends in the first 4 GiB
pub limit_of_shape : (size : ℕ) (h : Header) → is_misshapen size h ≡ false → h.vaddr + h.memsz ≤ 2 ^ 32
unfolding is_misshapen
limit_of_shape size h shape = grind arith

pub ruleset passing = (any_push, limit_of_shape)

module _ (size : ℕ) (headers : List Header) (i : ℕ) (d : Header) (within : i < length headers) (none : least_below (is_bad_at size headers) i ≡ None) where
  bad_at : is_bad_at size headers i ≡ is_bad size headers (take i headers) (get_or headers i d)
  bad_at = rw (slice_get-get_or headers i d within) refl

  -- it is this one
  pub bad_here : is_bad size headers (take i headers) (get_or headers i d) ≡ true → bad_segment size headers ≡ Some i
  unfolding bad_segment
  bad_here bad = rw (least_found (is_bad_at size headers) i (length headers) none (bad_at ∙ bad) within)

  -- it isn't this one
  pub good_here : is_bad size headers (take i headers) (get_or headers i d) ≡ false → least_below (is_bad_at size headers) (i + 1) ≡ None
  good_here good = least_kept (is_bad_at size headers) i none (bad_at ∙ good)
