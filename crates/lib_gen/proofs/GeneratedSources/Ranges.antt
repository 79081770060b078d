-- Numbers in order, with one more at the end.
use Rattle.std.proofs.Common.{◌≡◌, ℕ, zero, suc, ◌+◌, ◌%◌, List, [], ◌∷◌, ◌++◌, map, refl, sym, ap, ◌∙◌, append_assoc, append-nil, arith}
use Rattle.std.specs.List.{flat_map, range_with_len}
use Rattle.std.proofs.lemmas.Grind.{flat_map-append}
use Rattle.ld_base.specs.declared.linking.File.{File}
use Rattle.lib_gen.specs.GeneratedSources.Sources.{call_lines, function_lines, library_file}

range_more : (a k : ℕ) → range_with_len a (suc k) ≡ range_with_len a k ++ (a + k) ∷ []
range_more a zero = ap (λ (n : ℕ). n ∷ []) (let e : a ≡ a + 0 = omega arith in e)
range_more a (suc k) =
    ap (λ (ns : List ℕ). a ∷ ns) (range_more (a + 1) k)
    ∙ ap (λ (n : ℕ). a ∷ (range_with_len (a + 1) k ++ n ∷ [])) (let e : a + 1 + k ≡ a + suc k = omega arith in e)

one_more : (k : ℕ) → range_with_len 0 (k + 1) ≡ range_with_len 0 k ++ k ∷ []
one_more k = ap (range_with_len 0) (let e : k + 1 ≡ suc k = omega arith in e) ∙ range_more 0 k ∙ ap (λ n. range_with_len 0 k ++ n ∷ []) (let e : 0 + k ≡ k = omega arith in e)

-- what a text grows by
pub text_more : (f : ℕ → List ℕ) (before text more : List ℕ) (k : ℕ) → text ≡ before ++ flat_map f (range_with_len 0 k) → more ≡ text ++ f k → more ≡ before ++ flat_map f (range_with_len 0 (k + 1))
text_more f before text more k so_far is =
    is ∙ ap (λ (t : List ℕ). t ++ f k) so_far ∙ append_assoc before (flat_map f (range_with_len 0 k)) (f k)
    ∙ ap (λ (t : List ℕ). before ++ (flat_map f (range_with_len 0 k) ++ t)) (sym (append-nil (f k)))
    ∙ ap (λ (t : List ℕ). before ++ t) (sym (flat_map-append f (range_with_len 0 k) (k ∷ [])))
    ∙ ap (λ (ns : List ℕ). before ++ flat_map f ns) (sym (one_more k))

pub functions_more : (i : ℕ) (before text more : List ℕ) (k : ℕ) → text ≡ before ++ flat_map (function_lines i) (range_with_len 0 k) → more ≡ text ++ function_lines i k
    → more ≡ before ++ flat_map (function_lines i) (range_with_len 0 (k + 1))
functions_more i before text more k = text_more (function_lines i) before text more k

pub calls_more : (functions number calls : ℕ) (before text more : List ℕ) (k : ℕ) → text ≡ before ++ flat_map (λ place. call_lines functions ((place + number) % calls)) (range_with_len 0 k)
    → more ≡ text ++ call_lines functions ((k + number) % calls) → more ≡ before ++ flat_map (λ place. call_lines functions ((place + number) % calls)) (range_with_len 0 (k + 1))
calls_more functions number calls before text more k = text_more (λ place. call_lines functions ((place + number) % calls)) before text more k

map_more : (number : ℕ) (ns : List ℕ) (k : ℕ) → map (library_file number) (ns ++ k ∷ []) ≡ map (library_file number) ns ++ library_file number k ∷ []
map_more number [] k = refl
map_more number (n ∷ ns) k = ap (λ (fs : List File). library_file number n ∷ fs) (map_more number ns k)

pub files_more : (number : ℕ) (files more : List File) (k : ℕ) → files ≡ map (library_file number) (range_with_len 0 k) → more ≡ files ++ library_file number k ∷ [] → more ≡ map (library_file number) (range_with_len 0 (k + 1))
files_more number files more k so_far is =
    is ∙ ap (λ (fs : List File). fs ++ library_file number k ∷ []) so_far ∙ sym (map_more number (range_with_len 0 k) k) ∙ ap (λ (ns : List ℕ). map (library_file number) ns) (sym (one_more k))
