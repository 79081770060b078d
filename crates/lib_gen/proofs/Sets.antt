-- Two sets of one number are the same.
use Rattle.std.proofs.Common.{◌≡◌, ℕ, List, [], ◌∷◌, refl, sym, ◌∙◌}
use Rattle.std.specs.List.{AllZip}
use Rattle.ld_base.specs.declared.linking.File.{File}
use Rattle.asm_layout.specs.AsmDenotes.Denotes.{Denotes}
use Rattle.lib_gen.specs.Set.{IsObjectOf}

-- what is known: a source has one object
abbrev pub OneObject : Type 0
OneObject = (source first second : List ℕ) → Denotes source first → Denotes source second → first ≡ second

one_file : OneObject → (source first second : File) → IsObjectOf source first → IsObjectOf source second → first ≡ second
one_file one source first second p q =
    let path : first.path ≡ second.path = p.path_is ∙ sym q.path_is in
    let bytes : first.bytes ≡ second.bytes = one source.bytes first.bytes second.bytes p.denoted q.denoted in
    λ i. record { path = path i; bytes = bytes i }

pub same_files : OneObject → (sources first second : List File) → AllZip IsObjectOf sources first → AllZip IsObjectOf sources second → first ≡ second
same_files one [] [] [] p q = refl
same_files one [] (f ∷ fs) gs p q = absurd p
same_files one [] [] (g ∷ gs) p q = absurd q
same_files one (s ∷ ss) [] gs p q = absurd p
same_files one (s ∷ ss) (f ∷ fs) [] p q = absurd q
same_files one (s ∷ ss) (f ∷ fs) (g ∷ gs) p q =
    let first : f ≡ g = one_file one s f g p.0 q.0 in
    let rest : fs ≡ gs = same_files one ss fs gs p.1 q.1 in
    λ i. first i ∷ rest i
