-- The object of each choice is seen, or is the linker's own.
use Rattle.std.proofs.Common.{◌≡◌, ℕ, Bool, true, false, ◌&&◌, not, eqb, List, [], ◌∷◌, Option, Some, None, refl, sym, subst, ◌∙◌, ◌⊎◌, inl, inr}
use Rattle.std.specs.Prelude.{if◌then◌else◌}
use Rattle.std.specs.List.{Contains, slice_get}
use Rattle.std.proofs.lemmas.Bool.{eq-eqb, eqb-true, true≢false}
use Rattle.ld_base.specs.Pick.{pick_of}
use Rattle.ld_base.specs.Symbol.{is_weak}
use Rattle.ld_base.specs.declared.linking.Choice.TheVariants.{Def, WeakZero, Missing}
use Rattle.ld_base.specs.declared.linking.Loaded.{Loaded}
use Rattle.ld_base.specs.declared.linking.Want.{Want}
use Rattle.ld_base.specs.declared.object.Reloc.{Reloc}
use Rattle.ld_base.specs.declared.object.Symbol.{Symbol}
use Rattle.history_state.specs.Lemmas.Lists.{not_found}
use Rattle.scope_rule.specs.Choose.{choice_of, choose_for, first_with, is_own, pick_at, searched, want_of}
use Rattle.scope_rule.specs.Linker.{linker_symbol}
use Rattle.scope_rule.specs.Loading.{object_of}
use Rattle.scope_rule.specs.Relocation.{choice_at, has_no_symbol, is_copy}
use Rattle.scope_rule.specs.Seen.{Seen}
use Rattle.link_finds.specs.SeenChoices.Seeing.{StandsIn}

-- it is seen, or is the linker's own
abbrev IsThere : Seen → ℕ → Type 0
IsThere ns serial = (serial ≡ 0) ⊎ ((o : Loaded) × (object_of ns serial ≡ Some o))

picked : (ns : Seen) (name : List ℕ) (wanted : Want) (serial index : ℕ) → pick_at ns name wanted serial ≡ Some index → IsThere ns serial
unfolding pick_at
picked ns name wanted serial index e = at (eqb serial 0) refl e
  where
    some : (x : Option Loaded) → object_of ns serial ≡ x → elim x [ Some o ↦ pick_of o.object name wanted | None ↦ None ] ≡ Some index → IsThere ns serial
    some (Some o) f h = inr (o, f)
    some None f h = absurd (let d : None ≡ Some index = h in cc)

    at : (b : Bool) → eqb serial 0 ≡ b
        → (if b then linker_symbol name else elim (object_of ns serial) [ Some o ↦ pick_of o.object name wanted | None ↦ None ]) ≡ Some index → IsThere ns serial
    at true t h = inl (eqb-true serial 0 t)
    at false t h = some (object_of ns serial) refl h

first_is : (pick : ℕ → Option ℕ) (xs : List ℕ) (m : ℕ × ℕ) → first_with pick xs ≡ Some m → pick m.0 ≡ Some m.1
first_is pick [] m e = absurd (let d : None ≡ Some m = e in cc)
first_is pick (x ∷ xs) m e = at (pick x) refl (first_is pick xs m) e
  where
    at : (p : Option ℕ) → pick x ≡ p → (first_with pick xs ≡ Some m → pick m.0 ≡ Some m.1)
        → elim p [ Some index ↦ Some (x, index) | None ↦ first_with pick xs ] ≡ Some m → pick m.0 ≡ Some m.1
    at (Some i) t again f = let same : (x, i) ≡ m = cc in let P : ℕ × ℕ → Type 0 = λ z. pick z.0 ≡ Some z.1 in subst P same t
    at None t again f = again f

of_found : (ns : Seen) (s : Symbol) (x : Option (ℕ × ℕ)) → ((m : ℕ × ℕ) → x ≡ Some m → IsThere ns m.0) → StandsIn ns (choice_of s x)
of_found ns s (Some m) h = h m refl
of_found ns s None h = at (is_weak s)
  where
    at : (b : Bool) → StandsIn ns (if b then WeakZero else Missing)
    at true = tt
    at false = tt

of_symbol : (ns : Seen) (o : Loaded) (index : ℕ) (s : Symbol) (copy : Bool) → IsThere ns o.serial → StandsIn ns (choose_for ns o index s copy)
unfolding choose_for
of_symbol ns o index s copy own = at (not copy && is_own s)
  where
    at : (b : Bool) → StandsIn ns (if b then Def o.serial index else choice_of s (first_with (pick_at ns s.name (want_of o.object s)) (searched ns o copy)))
    at true = own
    at false = of_found ns s (first_with (pick_at ns s.name (want_of o.object s)) (searched ns o copy))
        (λ m e. picked ns s.name (want_of o.object s) m.0 m.1 (first_is (pick_at ns s.name (want_of o.object s)) (searched ns o copy) m e))

own_there : (ns : Seen) (o : Loaded) → Contains ns.objects o → IsThere ns o.serial
own_there ns o inside = at (object_of ns o.serial) refl
  where
    at : (x : Option Loaded) → object_of ns o.serial ≡ x → IsThere ns o.serial
    at (Some p) e = inr (p, e)
    at None e = absurd (true≢false (sym (eq-eqb o.serial o.serial refl) ∙ not_found (λ (p : Loaded). eqb p.serial o.serial) ns.objects o e inside))

-- what a relocation of an object that is seen chooses
pub stands : (ns : Seen) (o : Loaded) (r : Reloc) → Contains ns.objects o → StandsIn ns (choice_at ns o r)
unfolding choice_at
stands ns o r inside = at (has_no_symbol r)
  where
    own : IsThere ns o.serial
    own = own_there ns o inside

    symbol : (x : Option Symbol) → StandsIn ns (elim x [ Some s ↦ choose_for ns o r.symbol s (is_copy r) | None ↦ Missing ])
    symbol (Some s) = of_symbol ns o r.symbol s (is_copy r) own
    symbol None = tt

    null : (b : Bool)
        → StandsIn ns (if b then Def o.serial 0 else elim (slice_get o.object.symbols r.symbol) [ Some s ↦ choose_for ns o r.symbol s (is_copy r) | None ↦ Missing ])
    null true = own
    null false = symbol (slice_get o.object.symbols r.symbol)

    at : (b : Bool) → StandsIn ns
        (if b then WeakZero
        else if eqb r.symbol 0 then Def o.serial 0
        else elim (slice_get o.object.symbols r.symbol) [ Some s ↦ choose_for ns o r.symbol s (is_copy r) | None ↦ Missing ])
    at true = tt
    at false = null (eqb r.symbol 0)
