-- Rule 12: the first offset at which no string stands.
use Rattle.std.proofs.Common.{◌≢◌, ◌≡◌, ◌↔◌, ◌⊎◌, ◌∙◌, ap, sym, subst, refl, ℕ, zero, suc, ◌*◌, ◌<◌, ◌||◌, ◌&&◌, Bool, true, false, not, List, [], ◌∷◌}
use Rattle.std.proofs.Common.{Option, Some, None, arith, ◌≤◌}
use Rattle.std.specs.Prelude.{Decides, find, option_map, if◌then◌else◌}
use Rattle.std.specs.List.{list_any, slice_get}
use Rattle.std.proofs.lemmas.Bool.{true≢false}
use Rattle.std.proofs.lemmas.Bool.Decides.{not_from_Decides, Decides-eqb}
use Rattle.ld_base.specs.declared.parts.Tag.{Tag}
use Rattle.elf_head.specs.AcceptancePart.First.{IsFirst}
use Rattle.elf_head.specs.AcceptancePart.Lemmas.Finds.{one_first, same_some}
use Rattle.elf_head.specs.AcceptancePart.Lemmas.Leasts.{least_at, least_found, least_kept, least_none}
use Rattle.elf_head.specs.DynTable.Name.{string_at, IsStringAt}
use Rattle.elf_head.specs.DynTable.Symbol.{symbol_name}
use Rattle.elf_head.specs.DynTable.Tag.{has_tag}
use Rattle.elf_head.specs.DynTable.TagNumbers.{dt_needed, dt_soname}
use Rattle.elf_dynamic.specs.Breaks.{Lacks, LacksName, LacksSymbolName, NamesString}
use Rattle.elf_dynamic.specs.Parts.{LacksString}
use Rattle.elf_dynamic.specs.Rules.{bad_string, lacks_string, name_offsets, unnamed_symbol}
use Rattle.elf_head.specs.AcceptancePart.Lemmas.Tests.{among, both, contrary, either, means, some_decides}
use Rattle.elf_dynamic.proofs.Reasons.{or_else}

-- a search of one symbol more
pub ruleset least_steps = (least_kept, least_found)

-- ---- a search for what stands at the first number

abbrev FindsAt : (ℕ → ℕ → Type 0) → Option ℕ → Type 0
FindsAt L None = (k x : ℕ) → L k x → ⊥
FindsAt L (Some x) = (k : ℕ) × IsFirst (Lacks L) k × L k x

-- there is a first, and this stands at it
abbrev pub StandsFirst : (ℕ → ℕ → Type 0) → ℕ → Type 0
StandsFirst L x = (k : ℕ) × IsFirst (Lacks L) k × L k x

finds_at_is : (L : ℕ → ℕ → Type 0) → ((k x y : ℕ) → L k x → L k y → x ≡ y) → (o : Option ℕ) (x : ℕ) → FindsAt L o → (o ≡ Some x) ↔ StandsFirst L x
finds_at_is L one None x never = (λ e. absurd cc, λ (k, first, l). absurd (never k x l))
finds_at_is L one (Some y) x (j, is_first, own) = (
  λ e. subst (StandsFirst L) (same_some e) (j, is_first, own),
  λ (k, first, l). ap Some (one k y x (subst (λ n. L n y) (one_first (Lacks L) j k is_first first) own) l),
)

finds_at_none : (L : ℕ → ℕ → Type 0) (o : Option ℕ) → FindsAt L o → (o ≡ None) ↔ ((k : ℕ) → Lacks L k → ⊥)
finds_at_none L None never = (λ e k (x, l). never k x l, λ none. refl)
finds_at_none L (Some y) (k, first, l) = (λ e. absurd cc, λ none. absurd (none k (y, l)))

finds_at_cons : (L M : ℕ → ℕ → Type 0) (here : Bool) (v : ℕ) (o : Option ℕ) → (here ≡ true → L 0 v) → ((x : ℕ) → L 0 x → here ≡ true)
    → ((k x : ℕ) → L (suc k) x ↔ M k x) → FindsAt M o → FindsAt L (if here then Some v else o)
finds_at_cons L M true v o holds fails shift f = grind arith
finds_at_cons L M false v None holds fails shift never = elim [ zero ↦ λ x l. true≢false (sym (fails x l)) | suc k ↦ λ x l. never k x ((shift k x).0 l) ]
finds_at_cons L M false v (Some x) holds fails shift (k, first, m) =
    let before : (j : ℕ) → j < suc k → Lacks L j → ⊥ = elim [
      | zero ↦ λ below (y, l). true≢false (sym (fails y l))
      | suc j ↦ λ below (y, l). first.before j (omega arith) (y, (shift j y).0 l)
    ] in
    (suc k, record { bad = (x, (shift k x).1 m); before = before }, (shift k x).1 m)

-- ---- names

-- what holds of the elements from an index on
from_next : {P : Tag → Type 0} (t : Tag) (tags : List Tag) (m : ℕ)
    → ((j : ℕ) (u : Tag) → m ≤ j → slice_get tags j ≡ Some u → P u) ↔ ((j : ℕ) (u : Tag) → suc m ≤ j → slice_get (t ∷ tags) j ≡ Some u → P u)
from_next {P} t tags m = (next, λ all j u low is. all (suc j) u (omega arith) is)
  where
    next : ((j : ℕ) (u : Tag) → m ≤ j → slice_get tags j ≡ Some u → P u) → (j : ℕ) (u : Tag) → suc m ≤ j → slice_get (t ∷ tags) j ≡ Some u → P u
    next all zero u low is = absurd (omega arith)
    next all (suc j) u low is = all j u (omega arith) is

module _ (string : (strings name : List ℕ) (offset : ℕ) → (string_at strings offset ≡ Some name) ↔ IsStringAt strings offset name) (strings : List ℕ) where
  lacks_decides : (offset : ℕ) → Decides (lacks_string strings offset) (LacksString strings offset)
  lacks_decides offset =
      means (contrary (some_decides (string_at strings offset))) (λ none name is. none (name, (string strings name offset).1 is))
      (λ lacks (name, e). lacks name ((string strings name offset).0 e))

  asks_decides : (t : Tag) (tags : List Tag)
      → Decides (has_tag dt_needed t || (has_tag dt_soname t && not (list_any (has_tag dt_soname) tags))) (NamesString (t ∷ tags) 0 t)
  asks_decides t tags =
      either (Decides-eqb t.tag dt_needed) (both (Decides-eqb t.tag dt_soname) (means (contrary (among (λ u. Decides-eqb u.tag dt_soname) tags))
      (λ never. (from_next t tags 0).0 (λ j u low is same. never (j, u, is, same)))
      (λ none (j, u, is, same). (from_next t tags 0).1 none j u (omega arith) is same)))

  shifted : (t : Tag) (tags : List Tag) (k : ℕ) (u : Tag) → NamesString (t ∷ tags) (suc k) u ↔ NamesString tags k u
  shifted t tags k u = let next = from_next {P = λ (u : Tag). u.tag ≢ dt_soname} t tags (suc k) in grind arith

  names_find : (tags : List Tag) → FindsAt (LacksName strings tags) (find (lacks_string strings) (name_offsets tags))
  names_find [] = λ k x l. absurd (let is = l.is in cc)
  names_find (t ∷ tags) =
      let asks = has_tag dt_needed t || (has_tag dt_soname t && not (list_any (has_tag dt_soname) tags)) in
      let here = both (asks_decides t tags) (lacks_decides t.value) in
      subst (FindsAt (LacksName strings (t ∷ tags))) (same asks (name_offsets tags))
      (finds_at_cons (LacksName strings (t ∷ tags)) (LacksName strings tags) (asks && lacks_string strings t.value) t.value
      (find (lacks_string strings) (name_offsets tags))
      (λ e. let (names, lacks) = here.0 e in record { entry = t; is = refl; names = names; at = refl; lacks = lacks }) (λ x l. grind arith)
      (λ k x. (
        λ l. record { entry = l.entry; is = l.is; names = (shifted t tags k l.entry).0 l.names; at = l.at; lacks = l.lacks },
        λ l. record { entry = l.entry; is = l.is; names = (shifted t tags k l.entry).1 l.names; at = l.at; lacks = l.lacks },
      )) (names_find tags))
    where
      same : (asks : Bool) (rest : List ℕ)
          → (if asks && lacks_string strings t.value then Some t.value else find (lacks_string strings) rest)
          ≡ find (lacks_string strings) (if asks then t.value ∷ rest else rest)
      same asks rest = grind arith

  module _ (part : List ℕ) (count : ℕ) where
    symbols_find : FindsAt (LacksSymbolName strings part count) (option_map (λ i. symbol_name part (24 * i)) (unnamed_symbol strings part count))
    symbols_find = by_found (unnamed_symbol strings part count) refl
      where
        by_found : (o : Option ℕ) → unnamed_symbol strings part count ≡ o
            → FindsAt (LacksSymbolName strings part count) (option_map (λ i. symbol_name part (24 * i)) o)
        by_found None none = λ k x l. not_from_Decides _ (lacks_decides _) (least_none _ count k none l.there) (rw l.at at l.lacks)
        by_found (Some k) found =
            let least = least_at _ count k found in
            let own : LacksSymbolName strings part count k
            (symbol_name part (24 * k)) = record { there = least.within; at = refl; lacks = (lacks_decides _).0 least.passes } in
            (k, record { bad = (_, own); before = λ j below (x, l). not_from_Decides _ (lacks_decides _) (least.before j below) (rw l.at at l.lacks) }, own)

    pub string_first : (tags : List Tag) (offset : ℕ) → (bad_string strings tags part count ≡ Some offset)
        ↔ (StandsFirst (LacksName strings tags) offset ⊎
        (((k : ℕ) → Lacks (LacksName strings tags) k → ⊥) × StandsFirst (LacksSymbolName strings part count) offset))
    unfolding bad_string
    string_first tags offset =
        or_else (finds_at_is (LacksName strings tags) (λ k x y l m. l.at ∙ ap (λ (t : Tag). t.value) (same_some (sym l.is ∙ m.is)) ∙ sym m.at) _ offset
        (names_find tags))
        (finds_at_none (LacksName strings tags) _ (names_find tags))
        (finds_at_is (LacksSymbolName strings part count) (λ k x y l m. l.at ∙ sym m.at) _ offset symbols_find)
