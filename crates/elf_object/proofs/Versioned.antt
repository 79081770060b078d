-- Symbols with their versions.
use Rattle.std.proofs.Common.{◌≡◌, ℕ, zero, suc, ◌+◌, ◌<◌, ◌≤◌, List, [], ◌∷◌, ◌++◌, length, map, take, drop, get_or, Some, refl, ◌∙◌, ap, arith, add-zero, drop_of_length-le}
use Rattle.std.specs.Prelude.{slice_index, slice_set}
use Rattle.std.specs.List.{enumerate_from, slice_get}
use Rattle.std.proofs.lemmas.List.{append-nil, length-map, take_all}
use Rattle.std.proofs.lemmas.List.FromFn.{length-enumerate_from}
use Rattle.ld_base.specs.declared.object.Symbol.{Symbol}
use Rattle.ld_base.specs.declared.parts.DynParts.{DynParts}
use Rattle.ld_base.specs.declared.parts.Header.{Header}
use Rattle.elf_head.specs.AcceptancePart.Lemmas.Finds.{same_some}
use Rattle.elf_dynamic.specs.Parts.{AreParts}
use Rattle.elf_object.specs.Object.{with_version, with_versions}

-- as many as there are symbols
pub length-versions : (symbols : List Symbol) (versym : List ℕ) → length (with_versions symbols versym) ≡ length symbols
unfolding with_versions
length-versions symbols versym = length-map (enumerate_from 0 symbols) (with_version versym) ∙ length-enumerate_from 0 symbols

-- the first symbols changed by their places, and the others as they are
module _ (change : ℕ × Symbol → Symbol) where
  abbrev mixed : ℕ → ℕ → List Symbol → List Symbol
  mixed k n symbols = map change (take n (enumerate_from k symbols)) ++ drop n symbols

  mixed_get : (k n : ℕ) (symbols : List Symbol) (s : Symbol) → n < length symbols → get_or (mixed k n symbols) n s ≡ get_or symbols n s
  mixed_get k n [] s below = absurd (omega arith)
  mixed_get k zero (t ∷ rest) s below = refl
  mixed_get k (suc n) (t ∷ rest) s below = mixed_get (k + 1) n rest s (omega arith)

  mixed_set : (k n : ℕ) (symbols : List Symbol) (s : Symbol) → n < length symbols
      → slice_set (mixed k n symbols) n (change (k + n, get_or symbols n s)) ≡ mixed k (suc n) symbols
  mixed_set k n [] s below = absurd (omega arith)
  mixed_set k zero (t ∷ rest) s below = ap (λ j. change (j, t) ∷ rest) (add-zero k)
  mixed_set k (suc n) (t ∷ rest) s below =
      let at : k + suc n ≡ k + 1 + n = omega arith in
      ap (λ (l : List Symbol). change (k, t) ∷ l)
      (ap (λ j. slice_set (mixed (k + 1) n rest) n (change (j, get_or rest n s))) at ∙ mixed_set (k + 1) n rest s (omega arith))

-- one symbol more has its version
pub next_version : (versym : List ℕ) (symbols items : List Symbol) (n version : ℕ) (s : Symbol)
    → items ≡ map (with_version versym) (take n (enumerate_from 0 symbols)) ++ drop n symbols → length items ≡ length symbols → n < length items
    → s ≡ get_or items n s → version ≡ slice_index versym n
    → slice_set items n (record s { version = version }) ≡ map (with_version versym) (take (n + 1) (enumerate_from 0 symbols)) ++ drop (n + 1) symbols
next_version versym symbols items n version s are len below is says =
    let within : n < length symbols = omega (arith, len) in
    let own : s ≡ get_or symbols n s = is ∙ ap (λ (l : List Symbol). get_or l n s) are ∙ mixed_get (with_version versym) 0 n symbols s within in
    let place : n ≡ 0 + n = omega arith in
    let put : (let v : Symbol = record s { version = version } in v) ≡ with_version versym (0 + n, get_or symbols n s) =
    ap (λ k. let v : Symbol = record s { version = k } in v) says ∙ ap (λ (x : Symbol). with_version versym (n, x)) own ∙ ap (λ k. with_version versym (k, get_or symbols n s)) place in
    let more : n + 1 ≡ suc n = omega arith in
    rw more
    (ap (λ (l : List Symbol). slice_set l n (let v : Symbol = record s { version = version } in v)) are
    ∙ ap (slice_set (mixed (with_version versym) 0 n symbols) n) put ∙ mixed_set (with_version versym) 0 n symbols s within)

-- all have their versions
pub all_versions : (versym : List ℕ) (symbols items : List Symbol) (n : ℕ) → length symbols ≤ n
    → items ≡ map (with_version versym) (take n (enumerate_from 0 symbols)) ++ drop n symbols → items ≡ with_versions symbols versym
unfolding with_versions
all_versions versym symbols items n past are =
    let whole : take n (enumerate_from 0 symbols) ≡ enumerate_from 0 symbols = take_all n (enumerate_from 0 symbols) (omega (arith, length-enumerate_from 0 symbols)) in
    let none : drop n symbols ≡ [] = drop_of_length-le symbols past in
    are ∙ rw (whole, none) (append-nil (map (with_version versym) (enumerate_from 0 symbols)))

-- the symbol of an index is that of the index, but for its version
versioned_from : (n : ℕ) (symbols : List Symbol) (versym : List ℕ) (i : ℕ) (s : Symbol) → slice_get (map (with_version versym) (enumerate_from n symbols)) i ≡ Some s
    → (t : Symbol) × (slice_get symbols i ≡ Some t) × (with_version versym (n + i, t) ≡ s)
versioned_from n [] versym i s e = absurd cc
versioned_from n (t ∷ rest) versym zero s e = (t, refl, ap (λ k. with_version versym (k, t)) (add-zero n) ∙ same_some e)
versioned_from n (t ∷ rest) versym (suc i) s e =
    let found = versioned_from (n + 1) rest versym i s e in
    let at : n + suc i ≡ n + 1 + i = omega arith in
    (found.0, found.1, ap (λ k. with_version versym (k, found.0)) at ∙ found.2)

-- a symbol that has version 0 is the one that has another, with version 0
unversioned : (t s : Symbol) (version : ℕ) → (let v : Symbol = record t { version = version } in v) ≡ s → t.version ≡ 0 → t ≡ (let v : Symbol = record s { version = 0 } in v)
unversioned t s version e none =
    let own : t ≡ (let v : Symbol = record t { version = 0 } in v) = ap (λ n. let v : Symbol = record t { version = n } in v) none in
    own ∙ ap (λ (x : Symbol). let v : Symbol = record x { version = 0 } in v) e

-- without their versions they are the symbols, where those have none
pub but_versions : (symbols : List Symbol) (versym : List ℕ) → ((i : ℕ) (t : Symbol) → slice_get symbols i ≡ Some t → t.version ≡ 0)
    → (i : ℕ) (s : Symbol) → slice_get (with_versions symbols versym) i ≡ Some s → slice_get symbols i ≡ Some (record s { version = 0 })
unfolding with_versions
but_versions symbols versym none i s e =
    let found = versioned_from 0 symbols versym i s e in
    found.1 ∙ ap Some (unversioned found.0 s _ found.2 (none i found.0 found.1))

-- no symbol of a table has a version
pub parts_unversioned : (bytes : List ℕ) (headers : List Header) (parts : DynParts) → AreParts bytes headers parts → (i : ℕ) (s : Symbol) → slice_get parts.symbols i ≡ Some s → s.version ≡ 0
parts_unversioned bytes headers parts say i s at = ap (λ (t : Symbol). t.version) (say.symbols.each i s at).1
