-- Symbols with their versions.
use Rattle.std.proofs.Common.{◌≡◌, ◌∙◌, ap, subst, refl, ℕ, zero, suc, ◌+◌, Bool, true, false, if◌then◌else◌, List, [], ◌∷◌, length, map, slice_index, arith}
use Rattle.std.specs.Prelude.{Some}
use Rattle.std.specs.List.{enumerate_from, slice_get}
use Rattle.std.proofs.lemmas.List.FromFn.{length-enumerate_from}
use Rattle.std.proofs.lemmas.Option.{get_or_from_slice_get}
use Rattle.ld_base.specs.declared.object.Symbol.{Symbol}
use Rattle.elf_object.specs.Object.{with_version, with_versions}
use Rattle.asm_write.specs.declared.contents.Contents.{Contents}
use Rattle.asm_write.specs.declared.contents.SymbolEntry.{SymbolEntry}
use Rattle.asm_write.specs.Starts.{starts_of}
use Rattle.asm_laws.specs.ElfSpelled.Said.{AreSaidBy}
use Rattle.asm_laws.specs.ElfSpelled.Lemmas.Reading.{some_is}
use Rattle.asm_laws.specs.ElfSpelled.Lemmas.Rows.{get-map, length-map}
use Rattle.asm_accepted.specs.ElfTabled.Tables.{SaysSymbol, null_entry, said_symbol}
use Rattle.asm_accepted.specs.ElfVersioned.Said.{said_versym}
use Rattle.asm_accepted.specs.ElfAccepted.Said.{SaysVersioned, version_of}

-- what is said one by one, once each has its number
numbered : {A B : Type 0} (Says Also : A → B → Type 0) (f : ℕ × B → B) (n : ℕ) (records : List A) (all : List B) → length all ≡ length records
    → ((i : ℕ) (x : B) → slice_get all i ≡ Some x → (r : A) × (slice_get records i ≡ Some r) × Says r x)
    → ((i : ℕ) (r : A) (x : B) → slice_get records i ≡ Some r → Says r x → Also r (f (n + i, x)))
    → (i : ℕ) (x : B) → slice_get (map f (enumerate_from n all)) i ≡ Some x → (r : A) × (slice_get records i ≡ Some r) × Also r x
numbered Says Also f n records [] long each step i x is = absurd cc
numbered Says Also f n [] (y ∷ all) long each step i x is = absurd (omega (arith, long))
numbered Says Also f n (r ∷ records) (y ∷ all) long each step zero x is =
    let (s, at, says) = each 0 y refl in
    let place : n + 0 ≡ n = omega arith in
    let here : f (n + 0, y) ≡ x = ap (λ k. f (k, y)) place ∙ some_is (f (n, y)) x is in
    (s, at, subst (λ z. Also s z) here (step 0 s y at says))
numbered Says Also f n (r ∷ records) (y ∷ all) long each step (suc i) x is =
    numbered Says Also f (n + 1) records all (omega (arith, long)) (λ j. each (suc j)) (λ j s z at says.
    let place : n + suc j ≡ n + 1 + j = omega arith in
    subst (λ k. Also s (f (k, z))) place (step (suc j) s z at says)) i x is

-- the version of a symbol's index
version_at : (contents : Contents) (i : ℕ) (entry : SymbolEntry) → slice_get (null_entry ∷ contents.symbols) i ≡ Some entry → slice_index (said_versym contents) i ≡ version_of contents entry
version_at contents i entry is = cases contents.has_versions
  where
    there : slice_get (map (λ (e : SymbolEntry). e.version) (null_entry ∷ contents.symbols)) i ≡ Some entry.version
    there = get-map (λ (e : SymbolEntry). e.version) (null_entry ∷ contents.symbols) i entry is

    cases : (some : Bool) → slice_index (if some then 0 ∷ map (λ (e : SymbolEntry). e.version) contents.symbols else []) i ≡ (if some then entry.version else 0)
    cases true = get_or_from_slice_get (0 ∷ map (λ (e : SymbolEntry). e.version) contents.symbols) i entry.version 0 there
    cases false = refl

pub versioned : (contents : Contents) (symbols : List Symbol) (versym : List ℕ) → versym ≡ said_versym contents
    → AreSaidBy (SaysSymbol (starts_of contents) contents.strings) (null_entry ∷ contents.symbols) symbols
    → AreSaidBy (SaysVersioned contents) (null_entry ∷ contents.symbols) (with_versions symbols versym)
unfolding with_versions
versioned contents symbols versym is are =
    let entries = null_entry ∷ contents.symbols in
    let long = length-map (with_version versym) (enumerate_from 0 symbols) ∙ length-enumerate_from 0 symbols in
    record {
      count = long ∙ are.count;
      each = numbered (SaysSymbol (starts_of contents) contents.strings) (SaysVersioned contents) (with_version versym) 0 entries symbols are.count are.each (λ i entry s at says.
          let place : 0 + i ≡ i = omega arith in
          let version : slice_index versym (0 + i) ≡ version_of contents entry = ap (slice_index versym) place ∙ ap (λ (all : List ℕ). slice_index all i) is ∙ version_at contents i entry at in
          let put : ℕ → Symbol → Symbol = λ v t. record t { version = v } in
          record { name = says.name; fields = ap (put (slice_index versym (0 + i))) says.fields ∙ ap (λ v. put v (said_symbol (starts_of contents) entry s.name)) version });
    }
