-- A text that is taken front by front.
use Rattle.std.proofs.Common.{◌≡◌, ◌++◌, ℕ, List, Option, None, Some, take, drop, append_assoc, refl, sym, ap, ◌∙◌}
use Rattle.std.proofs.lemmas.List.{take-append-drop}
use Rattle.std.specs.Io.KnownBytes.{append_known}
use Rattle.library_source.specs.Writing.{TakesBefore}

-- bytes that are known are taken one piece after another
append_known-append : (old : Option (List ℕ)) (xs ys : List ℕ) → append_known (append_known old xs) ys ≡ append_known old (xs ++ ys)
append_known-append None xs ys = refl
append_known-append (Some bytes) xs ys = ap Some (append_assoc bytes xs ys)

-- where the first n of the rest are taken too, the rest is what is behind them
pub takes_more : (n : ℕ) (old now new : Option (List ℕ)) (bytes rest : List ℕ) →
    TakesBefore rest old bytes now → new ≡ append_known now (take n rest) → TakesBefore (drop n rest) old bytes new
takes_more n old now new bytes rest before more = record {
  front = before.front ++ take n rest;
  whole =
      before.whole ∙ ap (λ xs. before.front ++ xs) (sym (take-append-drop n rest)) ∙ sym (append_assoc before.front (take n rest) (drop n rest));
  taken =
      more ∙ ap (λ known. append_known known (take n rest)) before.taken ∙ append_known-append old before.front (take n rest);
}
