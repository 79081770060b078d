-- Relocations beside their bindings, one after another.
use Rattle.std.proofs.Common.{◌≡◌, ℕ, zero, suc, ◌+◌, ◌-◌, ◌<◌, ◌≤◌, Bool, true, false, List, [], ◌∷◌, length, get_or, drop, take, Some, None, refl, arith, sym, ◌∙◌, ap}
use Rattle.std.proofs.lemmas.List.{drop_all, drop_more, get_or_default, take_rest}
use Rattle.std.proofs.lemmas.Slice.Zip.{get_or-zip, length-zip}
use Rattle.std.specs.List.{find, zip}
use Rattle.std.specs.Prelude.{pos}
use Rattle.ld_base.specs.declared.object.Reloc.{Reloc}
use Rattle.relocator.specs.declared.binding.Binding.{Binding}

-- an index within a list has an element
pub some_at : {X : Type 0} (xs : List X) (n : ℕ) → n < length xs → (x : X) × (x ≡ get_or xs n x)
some_at [] n less = absurd (omega arith)
some_at (x ∷ xs) zero less = (x, refl)
some_at (x ∷ xs) (suc n) less = some_at xs n (omega arith)

-- any relocation
abbrev pub no_reloc : Reloc
no_reloc = record { place = 0; kind = 0; symbol = 0; addend = pos 0 }

module _ (items relocs : List Reloc) (lent bindings : List Binding) (same : items ≡ relocs) (same_lent : lent ≡ bindings) where
  -- what is read at an index
  pub reloc_read : (n : ℕ) (d : Reloc) → n < length items → (n < length relocs) × (get_or items n d ≡ get_or relocs n (get_or items n d))
  reloc_read n d within =
      let into : n < length relocs = rw (← same) within in
      (into, ap (λ xs. get_or xs n d) same ∙ get_or_default relocs n d (get_or items n d) into)

  pub binding_read : (n : ℕ) (b : Binding) → b ≡ get_or lent n b → b ≡ get_or bindings n b
  binding_read n b is = rw same_lent at is

  -- the pairs from there on
  pub pairs_from : (n : ℕ) (d : Reloc) (b : Binding) → length relocs ≤ length bindings → n < length items → b ≡ get_or lent n b
      → drop n (zip relocs bindings) ≡ (get_or items n d, b) ∷ drop (n + 1) (zip relocs bindings)
  pairs_from n d b enough within is =
      let r = reloc_read n d within in
      let into = r.0 in
      let long = length-zip relocs bindings in
      let here : get_or (zip relocs bindings) n (get_or items n d, b) ≡ (get_or items n d, b) =
      get_or-zip relocs bindings n (get_or items n d, b) into (omega arith) ∙ (let first = sym r.1 in let second = sym (binding_read n b is) in cc) in
      drop_more (zip relocs bindings) n (get_or items n d, b) (omega arith) ∙ ap (λ x. x ∷ drop (n + 1) (zip relocs bindings)) here

module _ {X : Type 0} (p : X → Bool) (xs : List X) (n : ℕ) (so_far : find p (drop n xs) ≡ find p xs) where
  pub search_hit : (x : X) → drop n xs ≡ x ∷ drop (n + 1) xs → p x ≡ true → find p xs ≡ Some x
  search_hit x here passes = sym so_far ∙ rw (here, passes)

  pub search_on : (x : X) → drop n xs ≡ x ∷ drop (n + 1) xs → p x ≡ false → find p (drop (n + 1) xs) ≡ find p xs
  search_on x here fails = (let e : find p (x ∷ drop (n + 1) xs) ≡ find p xs = rw here at so_far in rw fails at e)

  pub search_end : length xs ≤ n → find p xs ≡ None
  search_end past = sym so_far ∙ ap (find p) (drop_all n xs past)

-- the slots' bindings, as the code cuts them off
pub slots_cut : (lent bindings : List Binding) (m count : ℕ) → lent ≡ bindings → m ≡ count → take (length lent - m) (drop m lent) ≡ drop count bindings
slots_cut lent bindings m count same counted = take_rest lent m ∙ ap (λ n. drop n lent) counted ∙ ap (drop count) same
