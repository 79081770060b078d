-- What a last line says.
use Rattle.std.proofs.Common.{◌≡◌, ℕ, zero, suc, ◌-◌, ◌<◌, true, List, [], ◌∷◌, ◌++◌, length, take, drop, get_or, codes, nat_eq, sym, ap, ◌∙◌, arith}
use Rattle.std.specs.Prelude.{Some, nat_le}
use Rattle.std.specs.Cmp.Lexicographic.{pointwise}
use Rattle.std.specs.List.{list_all}
use Rattle.std.specs.Str.{IsUtf8}
use Rattle.std.proofs.lemmas.Bool.{and_parts, leb-true}
use Rattle.std.proofs.lemmas.List.{take-append-drop}
use Rattle.std.proofs.lemmas.Slice.Eq.{bytes_eq-Decides}
use Rattle.std.proofs.lemmas.Str.{IsUtf8-from_ascii}
use Rattle.trace_view.specs.Journal.{last_line}
use Rattle.trace_view.specs.Names.{is_visible}

pub is_last : (line rest words : List ℕ) → pointwise nat_eq (take 4 line) (codes "end ") ≡ true → rest ≡ drop 4 line
    → pointwise nat_eq (drop (length rest - 1) rest) (10 ∷ []) ≡ true → words ≡ take (length rest - 1) rest → line ≡ last_line (Some words)
is_last line rest words front behind back is =
    let first : take 4 line ≡ codes "end " = (bytes_eq-Decides (take 4 line) (codes "end ")).0 front in
    let last : drop (length rest - 1) rest ≡ 10 ∷ [] = (bytes_eq-Decides (drop (length rest - 1) rest) (10 ∷ [])).0 back in
    sym (take-append-drop 4 line) ∙ ap (λ (f : List ℕ). f ++ drop 4 line) first ∙ ap (λ (r : List ℕ). codes "end " ++ r) (sym behind)
    ∙ ap (λ (r : List ℕ). codes "end " ++ r) (sym (take-append-drop (length rest - 1) rest))
    ∙ ap (λ (w : List ℕ). codes "end " ++ (w ++ drop (length rest - 1) rest)) (sym is)
    ∙ ap (λ (e : List ℕ). codes "end " ++ (words ++ e)) last

-- ---- visible words are text

ascii : (words : List ℕ) → list_all is_visible words ≡ true → (i : ℕ) → get_or words i 0 < 128
ascii [] all i = omega arith
ascii (w ∷ ws) all zero =
    let below : nat_le w 0x7e ≡ true = (and_parts (nat_le 0x20 w) (nat_le w 0x7e) (and_parts (is_visible w) (list_all is_visible ws) all).0).1 in
    omega (arith, leb-true w 0x7e below)
ascii (w ∷ ws) all (suc i) = ascii ws (and_parts (is_visible w) (list_all is_visible ws) all).1 i

pub are_text : (words : List ℕ) → list_all is_visible words ≡ true → IsUtf8 words
are_text words all = IsUtf8-from_ascii words (ascii words all)
