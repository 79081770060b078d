-- Each name of an accepted object is a string: no offset of one lacks it.
use Rattle.std.proofs.Common.{◌≡◌, ◌∙◌, ap, sym, subst, refl, ℕ, zero, suc, ◌*◌, ◌<◌, Bool, true, false, if◌then◌else◌, List, [], ◌∷◌, ◌++◌, length, map, filter, find, reverse, arith, inl, inr}
use Rattle.std.specs.Prelude.{Some, None, Option, option_map}
use Rattle.std.specs.Option.{option_or}
use Rattle.std.specs.List.{slice_get}
use Rattle.std.proofs.lemmas.Bool.Decides.{nat_tests}
use Rattle.std.proofs.lemmas.List.{reverse-append}
use Rattle.std.proofs.lemmas.List.Folds.{find-append}
use Rattle.elf_head.specs.AcceptancePart.Lemmas.Finds.{never}
use Rattle.ld_base.specs.declared.parts.DynParts.{DynParts}
use Rattle.ld_base.specs.declared.parts.Head.{Head}
use Rattle.ld_base.specs.declared.parts.Tag.{Tag}
use Rattle.elf_head.specs.DynTable.Name.{IsStringAt}
use Rattle.elf_head.specs.DynTable.Symbol.{symbol_name}
use Rattle.elf_head.specs.DynTable.Tag.{has_tag, last_of, values_of}
use Rattle.elf_head.specs.DynTable.TagNumbers.{dt_needed, dt_soname}
use Rattle.elf_dynamic.specs.Breaks.{Lacks, LacksName, LacksSymbolName}
use Rattle.elf_dynamic.specs.Parts.{IsNameAt, IsNameOf, LacksString}
use Rattle.elf_dynamic.specs.Verdict.{SpellsDynamic, bad_name, bad_symbol_name, by_tables}
use Rattle.asm_laws.specs.ElfSpelled.Said.{AreSaidBy}
use Rattle.asm_accepted.specs.Strings.{IsStringOf}

-- an entry with a value of a tag
kept_from : {A B : Type 0} (p : A → Bool) (f : A → B) (xs : List A) (i : ℕ) (y : B) → slice_get (map f (filter p xs)) i ≡ Some y
    → (k : ℕ) × (x : A) × (slice_get xs k ≡ Some x) × (p x ≡ true) × (f x ≡ y)
kept_from p f [] i y is = absurd cc
kept_from {A} {B} p f (x ∷ xs) i y is =
    let Goal : Type 0 = (k : ℕ) × (z : A) × (slice_get (x ∷ xs) k ≡ Some z) × (p z ≡ true) × (f z ≡ y) in
    let later : (j : ℕ) → slice_get (map f (filter p xs)) j ≡ Some y → Goal = λ j at. (let found = kept_from p f xs j y at in (suc found.0, found.1, found.2, found.3, found.4)) in
    let P : Bool → Type 0 = λ b. p x ≡ b → slice_get (map f (if b then x ∷ filter p xs else filter p xs)) i ≡ Some y → Goal in
    let cases : (b : Bool) → P b = λ b. elim b as P [ true ↦ λ passes at. here passes i at later | false ↦ λ _ at. later i at ] in
    cases (p x) refl is
  where
    here : p x ≡ true → (j : ℕ) → slice_get (f x ∷ map f (filter p xs)) j ≡ Some y
        → ((j : ℕ) → slice_get (map f (filter p xs)) j ≡ Some y → (k : ℕ) × (z : A) × (slice_get (x ∷ xs) k ≡ Some z) × (p z ≡ true) × (f z ≡ y))
        → (k : ℕ) × (z : A) × (slice_get (x ∷ xs) k ≡ Some z) × (p z ≡ true) × (f z ≡ y)
    here passes zero at later = let same : f x ≡ y = cc in (0, x, refl, passes, same)
    here passes (suc j) at later = later j at

-- the last that passes
reverse_one : {A : Type 0} (x : A) (xs : List A) → reverse (x ∷ xs) ≡ reverse xs ++ x ∷ []
reverse_one x xs = reverse-append (x ∷ []) xs

none_or : {A : Type 0} (o : Option A) (b : Bool) (x : A) → option_or o (if b then Some x else None) ≡ None → (o ≡ None) × (b ≡ false)
none_or None false x none = (refl, refl)
none_or None true x none = absurd cc
none_or (Some y) b x none = absurd cc

found_in : {A : Type 0} (p : A → Bool) (x : A) (xs : List A) → find p (reverse (x ∷ xs)) ≡ option_or (find p (reverse xs)) (if p x then Some x else None)
found_in p x xs = ap (find p) (reverse_one x xs) ∙ find-append p (reverse xs) (x ∷ [])

none_passes : {A : Type 0} (p : A → Bool) (xs : List A) → find p (reverse xs) ≡ None → (j : ℕ) (u : A) → slice_get xs j ≡ Some u → p u ≡ false
none_passes p [] none j u is = absurd cc
none_passes p (x ∷ xs) none zero u is =
    let (rest, out) = none_or (find p (reverse xs)) (p x) x (sym (found_in p x xs) ∙ none) in
    let same : x ≡ u = cc in
    subst (λ z. p z ≡ false) same out
none_passes p (x ∷ xs) none (suc j) u is =
    let (rest, out) = none_or (find p (reverse xs)) (p x) x (sym (found_in p x xs) ∙ none) in
    none_passes p xs rest j u is

abbrev LastAt : {A : Type 0} → (A → Bool) → List A → A → Type 0
LastAt {A} p xs y = (k : ℕ) × (slice_get xs k ≡ Some y) × (p y ≡ true) × ((j : ℕ) (u : A) → k < j → slice_get xs j ≡ Some u → p u ≡ false)

-- the first of a list, where none of the others passes, or one of them
last_first : {A : Type 0} (p : A → Bool) (x : A) (xs : List A) (y : A) → find p (reverse xs) ≡ None → (if p x then Some x else None) ≡ Some y → LastAt p (x ∷ xs) y
last_first {A} p x xs y none is =
    let P : Bool → Type 0 = λ b. p x ≡ b → (if b then Some x else None) ≡ Some y → LastAt p (x ∷ xs) y in
    let yes : P true = λ passes at.
    (let same : x ≡ y = cc in (0, at, subst (λ z. p z ≡ true) same passes, λ j u after got. beyond j u after got)) in
    let cases : (b : Bool) → P b = λ b. elim b as P [ true ↦ yes | false ↦ λ _ at. absurd cc ] in
    cases (p x) refl is
  where
    beyond : (j : ℕ) (u : A) → 0 < j → slice_get (x ∷ xs) j ≡ Some u → p u ≡ false
    beyond zero u after got = absurd (omega (arith, after))
    beyond (suc j) u after got = none_passes p xs none j u got

later : {A : Type 0} (p : A → Bool) (x : A) (xs : List A) (y : A) → LastAt p xs y → LastAt p (x ∷ xs) y
later {A} p x xs y (k, at, passes, none) = (suc k, at, passes, beyond)
  where
    beyond : (j : ℕ) (u : A) → suc k < j → slice_get (x ∷ xs) j ≡ Some u → p u ≡ false
    beyond zero u after got = absurd (omega (arith, after))
    beyond (suc j) u after got = none j u (omega (arith, after)) got

last_at : {A : Type 0} (p : A → Bool) (xs : List A) (y : A) → find p (reverse xs) ≡ Some y → LastAt p xs y
last_at p [] y is = absurd cc
last_at {A} p (x ∷ xs) y is =
    let P : Option A → Type 0 = λ o. find p (reverse xs) ≡ o → option_or o (if p x then Some x else None) ≡ Some y → LastAt p (x ∷ xs) y in
    let some : (z : A) → P (Some z) = λ z found at.
    (let same : z ≡ y = cc in later p x xs y (last_at p xs y (found ∙ ap Some same))) in
    let cases : (o : Option A) → P o = λ o. elim o as P [ None ↦ λ none at. last_first p x xs y none at | Some z ↦ some z ] in
    cases (find p (reverse xs)) refl (sym (found_in p x xs) ∙ is)

-- rule 12 of acceptance

module _ (bytes : List ℕ) (head : Head) (program : Bool) (said : DynParts) (spells : SpellsDynamic bytes head program said) where
  no_name : (k : ℕ) → Lacks (LacksName spells.say.strings said.tags) k → ⊥
  no_name = never (Lacks (LacksName spells.say.strings said.tags)) (λ k first.
      spells.kept 12 first.bad.0 (by_tables said spells.say 12 first.bad.0 (bad_name k first.bad.0 first first.bad.1)))

  no_symbol : (symbol : ℕ) → Lacks (LacksSymbolName spells.say.strings spells.say.table (length said.symbols)) symbol → ⊥
  no_symbol = never (Lacks (LacksSymbolName spells.say.strings spells.say.table (length said.symbols))) (λ symbol first.
      spells.kept 12 first.bad.0 (by_tables said spells.say 12 first.bad.0 (bad_symbol_name no_name symbol first.bad.0 first first.bad.1)))

  is_tag : (tag : ℕ) (t : Tag) → has_tag tag t ≡ true → t.tag ≡ tag
  is_tag tag t is = grind (arith, nat_tests)

  differ : (tag : ℕ) (t : Tag) → has_tag tag t ≡ false → t.tag ≡ tag → ⊥
  differ tag t other same = grind (arith, nat_tests)

  needed_lacks : (i offset : ℕ) → slice_get (values_of said.tags dt_needed) i ≡ Some offset → LacksString spells.say.strings offset → ⊥
  unfolding values_of
  needed_lacks i offset is lacks =
      let (k, entry, at, passes, value) = kept_from (has_tag dt_needed) (λ t. t.value) said.tags i offset is in
      no_name k (offset, record { entry = entry; is = at; names = inl (is_tag dt_needed entry passes); at = sym value; lacks = lacks })

  own_lacks : (offset : ℕ) → last_of said.tags dt_soname ≡ Some offset → LacksString spells.say.strings offset → ⊥
  unfolding last_of
  own_lacks offset is lacks = own (find (has_tag dt_soname) (reverse said.tags)) refl is
    where
      own : (o : Option Tag) → find (has_tag dt_soname) (reverse said.tags) ≡ o → option_map (λ t. t.value) o ≡ Some offset → ⊥
      own None found at = absurd cc
      own (Some entry) found at =
          let (k, there, passes, later) = last_at (has_tag dt_soname) said.tags entry found in
          let value : offset ≡ entry.value = cc in
          no_name k (
            offset,
            record {
              entry = entry;
              is = there;
              names = inr (is_tag dt_soname entry passes, λ j u after got same. differ dt_soname u (later j u after got) same);
              at = value;
              lacks = lacks;
            },
          )

  -- so what is named is a string
  string_or : (strings : List ℕ) (offset : ℕ) (name : List ℕ) → (LacksString strings offset → ⊥) → IsNameAt strings offset name → IsStringAt strings offset name
  string_or strings offset name some (inl is) = is
  string_or strings offset name some (inr (lacks, none)) = absurd (some lacks)

  pub symbol_string : (i offset : ℕ) (name : List ℕ) → i < length said.symbols → offset ≡ symbol_name spells.say.table (24 * i) → IsNameAt spells.say.strings offset name
      → IsStringAt spells.say.strings offset name
  symbol_string i offset name inside at is =
      string_or spells.say.strings offset name (λ lacks. no_symbol i (offset, record { there = inside; at = at; lacks = lacks })) is

  pub needed_strings : AreSaidBy (IsStringAt spells.say.strings) (values_of said.tags dt_needed) said.needed
  needed_strings =
      let are = spells.say.needed in
      record {
        count = are.count;
        each = λ i name at. (let (offset, there, is) = are.each i name at in
            (offset, there, string_or spells.say.strings offset name (needed_lacks i offset there) is));
      }

  pub own_string : IsStringOf spells.say.strings (last_of said.tags dt_soname) said.soname
  own_string = of (last_of said.tags dt_soname) said.soname own_lacks spells.say.soname
    where
      of : (o : Option ℕ) (name : Option (List ℕ)) → ((offset : ℕ) → o ≡ Some offset → LacksString spells.say.strings offset → ⊥) → IsNameOf spells.say.strings o name
          → IsStringOf spells.say.strings o name
      of _ _ some IsNameOf.nameless = tt
      of _ _ some (IsNameOf.named offset name is) = string_or spells.say.strings offset name (some offset refl) is
