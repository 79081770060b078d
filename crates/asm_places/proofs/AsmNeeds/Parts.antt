-- What needs ask of files, one need more.
use Rattle.std.proofs.Common.{◌≡◌, ℕ, ◌+◌, ◌<◌, ◌≤◌, nat_lt, Bool, true, false, not, ◌&&◌, List, [], ◌∷◌, ◌++◌, length, get_or, map, filter, Some, None, refl, sym, ap, ◌∙◌, append-nil, arith}
use Rattle.std.specs.Prelude.{if◌then◌else◌, Option, position}
use Rattle.std.specs.Str.{bytes_eq}
use Rattle.std.proofs.lemmas.Cmp.{nat_list_eq_equiv}
use Rattle.std.proofs.lemmas.Bool.Decides.{nat_tests}
use Rattle.std.proofs.Math.ListN.{get_or-append}
use Rattle.std.proofs.Math.Seq.{get_or-append_seam}
use Rattle.std.proofs.lemmas.List.{length-append, map-append, get_or-set_same, get_or-set_other, length-set}
use Rattle.std.proofs.lemmas.List.Elements.{filter-append}
use Rattle.std.proofs.lemmas.List.Quantifiers.{position-Some}
use Rattle.std.proofs.lemmas.Slice.Eq.{bytes_eq-Decides}
use Rattle.asm_statement.specs.declared.directive.Need.{Need}
use Rattle.asm_layout.specs.Once.{added}
use Rattle.asm_layout.specs.Uses.{distinct_names}
use Rattle.asm_layout.specs.Versions.{is_of_file, is_strong_need}
use Rattle.asm_layout.proofs.Distinct.{AreFirsts, distinct_push}
use Rattle.asm_places.specs.declared.asm_needs.needed_file.NeededFile.{NeededFile}
use Rattle.asm_places.specs.AsmNeeds.Filled.{nothing, with_need, with_need_at, part_of, ArePartOf, AreEmpty}

abbrev versions_of : (Need → Bool) → List Need → List (List ℕ)
versions_of test needs = distinct_names (map (λ need. need.version) (filter test needs))

one_more : (test : Need → Bool) (needs : List Need) (need : Need) (b : Bool) → test need ≡ b
    → versions_of test (needs ++ need ∷ []) ≡ (if b then added bytes_eq (versions_of test needs) need.version else versions_of test needs)
one_more test needs need b is =
    let version : Need → List ℕ = λ need. need.version in
    let P : Bool → Type 0 = λ b. distinct_names (map version (filter test needs ++ (if b then need ∷ [] else [])))
    ≡ (if b then added bytes_eq (versions_of test needs) need.version else versions_of test needs) in
    let cases : (b : Bool) → P b = λ b. elim b as P [
      | true ↦ ap distinct_names (map-append version (filter test needs) (need ∷ [])) ∙ distinct_push bytes_eq (map version (filter test needs)) need.version
      | false ↦ ap (λ (found : List Need). distinct_names (map version found)) (append-nil (filter test needs))
    ] in
    ap (λ (found : List Need). distinct_names (map version found))
    (filter-append test needs (need ∷ []) ∙ ap (λ (b : Bool). filter test needs ++ (if b then need ∷ [] else [])) is)
    ∙ cases b

abbrev file_with : List (List ℕ) → List (List ℕ) → NeededFile
file_with versions strong = record { versions = versions; strong = strong }

joined : (old one strong more : List (List ℕ)) (b weak : Bool)
    → file_with (if b then one else old) (if (b && not weak) then more else strong)
    ≡ (if b then file_with one (if weak then strong else more) else file_with old strong)
joined old one strong more true true = refl
joined old one strong more true false = refl
joined old one strong more false weak = refl

pub part_more : (needs : List Need) (need : Need) (file : List ℕ)
    → part_of (needs ++ need ∷ []) file ≡ (if bytes_eq file need.file then with_need need (part_of needs file) else part_of needs file)
part_more needs need file =
    let here = bytes_eq file need.file in
    let versions = versions_of (is_of_file file) needs in
    let strong = versions_of (is_strong_need file) needs in
    let more = added bytes_eq versions need.version in
    let stronger = added bytes_eq strong need.version in
    ap (λ (v : List (List ℕ)). file_with v (versions_of (is_strong_need file) (needs ++ need ∷ []))) (one_more (is_of_file file) needs need here refl)
    ∙ ap (λ (v : List (List ℕ)). file_with (if here then more else versions) v) (one_more (is_strong_need file) needs need (here && not need.is_weak) refl)
    ∙ joined versions more strong stronger here need.is_weak

-- a need more, at the first file of its name
size : (need : Need) (at : Option ℕ) (files : List NeededFile) → length (with_need_at need at files) ≡ length files
size need None files = refl
size need (Some at) files = length-set files at (with_need need (get_or files at nothing))

pub spread : (names : List (List ℕ)) (needs : List Need) (need : Need) (old : List NeededFile) → AreFirsts names → ArePartOf names needs old
    → ArePartOf names (needs ++ need ∷ []) (with_need_at need (position (bytes_eq need.file) names) old)
spread names needs need old firsts are = record {
  all = size need (position (bytes_eq need.file) names) old ∙ are.all;
  each = λ k d below.
      let file = get_or names k [] in
      let was = are.each k d below in
      let P : Bool → Type 0 = λ b. bytes_eq file need.file ≡ b
      → get_or (with_need_at need (position (bytes_eq need.file) names) old) k d ≡ (if b then with_need need (part_of needs file) else part_of needs file) in
      let cases : (b : Bool) → P b = λ b. elim b as P [
        | true ↦ λ e.
            let same : file ≡ need.file = (bytes_eq-Decides file need.file).0 e in
            let at : position (bytes_eq need.file) names ≡ Some k = ap (λ (n : List ℕ). position (bytes_eq n) names) (sym same) ∙ firsts k below in
            let room : k < length old = rw are.all below in
            rw at (get_or-set_same old k (with_need need (get_or old k nothing)) d room ∙ ap (with_need need) (are.each k nothing below))
        | false ↦ λ e. elsewhere k d below e (position (bytes_eq need.file) names) refl ∙ was
      ] in
      cases (bytes_eq file need.file) refl ∙ sym (part_more needs need file);
}
  where
    elsewhere : (k : ℕ) (d : NeededFile) → k < length names → bytes_eq (get_or names k []) need.file ≡ false → (at : Option ℕ)
        → position (bytes_eq need.file) names ≡ at → get_or (with_need_at need at old) k d ≡ get_or old k d
    elsewhere k d below e None is = refl
    elsewhere k d below e (Some j) is =
        let found : bytes_eq need.file (get_or names j []) ≡ true = (position-Some (bytes_eq need.file) names j [] is).1 in
        get_or-set_other old j k (with_need need (get_or old j nothing)) d
        (λ same. let turned : bytes_eq (get_or names j []) need.file ≡ true = nat_list_eq_equiv.symm (get_or names j []) need.file ∙ found in
        absurd (cc (turned, ap (λ (n : ℕ). bytes_eq (get_or names n []) need.file) same, e)))

-- one file more of which nothing is needed
pub empty_more : (count : ℕ) (files : List NeededFile) (file : NeededFile) → AreEmpty count files → file ≡ nothing → AreEmpty (count + 1) (files ++ file ∷ [])
empty_more count files file are is = record {
  all = length-append files (file ∷ []) ∙ ap (λ (n : ℕ). n + 1) are.all;
  each = λ k d below.
      let P : Bool → Type 0 = λ old. nat_lt k (length files) ≡ old → get_or (files ++ file ∷ []) k d ≡ nothing in
      let cases : (old : Bool) → P old = λ old. elim old as P [
        | true ↦ λ e.
            let within : k < length files = grind (arith, nat_tests) in
            let counted : k < count = omega (arith, are.all) in
            get_or-append files (file ∷ []) d k within ∙ are.each k d counted
        | false ↦ λ e.
            let beyond : length files ≤ k = grind (arith, nat_tests) in
            let last : k ≡ length files = omega (arith, are.all) in
            rw last (get_or-append_seam files file [] d ∙ is)
      ] in
      cases (nat_lt k (length files)) refl;
}
