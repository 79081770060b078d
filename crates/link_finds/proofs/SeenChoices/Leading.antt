-- What leads to code in a state.
use Rattle.std.proofs.Common.{◌≡◌, ℕ, ◌&&◌, Bool, true, false, not, eqb, Option, Some, refl, sym, ap, ◌∙◌}
use Rattle.std.specs.Option.{option_map_or}
use Rattle.ld_base.specs.declared.linking.Choice.TheVariants.{Def, WeakZero, Missing}
use Rattle.ld_base.specs.declared.linking.Loaded.{Loaded}
use Rattle.history_state.specs.Addresses.{address, definition_address, is_code_in, is_code_of, leads_to_code}
use Rattle.history_state.specs.Objects.{object_at}
use Rattle.history_state.specs.State.{State}

-- the linker's own is the same in each state
pub of_linker : (s t : State) (lazy serial index : ℕ) → eqb serial 0 ≡ true → leads_to_code t lazy (Def serial index) ≡ leads_to_code s lazy (Def serial index)
unfolding leads_to_code address is_code_of
of_linker s t lazy serial index is = rw is refl

pub address_by : (s : State) (serial index a : ℕ) (o : Loaded) → eqb serial 0 ≡ false → object_at s serial ≡ Some o → a ≡ definition_address (Some o) index → a ≡ address s (Def serial index)
unfolding address
address_by s serial index a o isnt found at = rw isnt (at ∙ sym (ap (λ (x : Option Loaded). definition_address x index) found))

code_by : (s : State) (serial a : ℕ) (o : Loaded) (code : Bool) → eqb serial 0 ≡ false → object_at s serial ≡ Some o → code ≡ is_code_in o a → code ≡ is_code_of s serial a
unfolding is_code_of
code_by s serial a o code isnt found is = rw isnt (is ∙ sym (ap (λ (x : Option Loaded). option_map_or (λ (y : Loaded). is_code_in y a) x false) found))

leads_by : (s : State) (lazy serial index a : ℕ) (code : Bool) → a ≡ address s (Def serial index) → code ≡ is_code_of s serial a
    → (code && not (eqb a lazy)) ≡ leads_to_code s lazy (Def serial index)
unfolding leads_to_code
leads_by s lazy serial index a code at is = rw (is, at) refl

-- a definition of an object that the state has
pub of_object : (s : State) (lazy serial index a : ℕ) (o : Loaded) (code : Bool) → eqb serial 0 ≡ false → object_at s serial ≡ Some o → a ≡ definition_address (Some o) index → code ≡ is_code_in o a
    → (code && not (eqb a lazy)) ≡ leads_to_code s lazy (Def serial index)
of_object s lazy serial index a o code isnt found at is = leads_by s lazy serial index a code (address_by s serial index a o isnt found at) (code_by s serial a o code isnt found is)

pub leads_weak : (s : State) (lazy : ℕ) → true ≡ leads_to_code s lazy WeakZero
unfolding leads_to_code
leads_weak s lazy = refl

pub leads_missing : (s : State) (lazy : ℕ) → false ≡ leads_to_code s lazy Missing
unfolding leads_to_code
leads_missing s lazy = refl

-- ---- addresses

pub linkers_address : (s t : State) (serial index : ℕ) → eqb serial 0 ≡ true → address t (Def serial index) ≡ address s (Def serial index)
unfolding address
linkers_address s t serial index is = rw is refl

pub weak_address : (s : State) → 0 ≡ address s WeakZero
unfolding address
weak_address s = refl

pub missing_address : (s : State) → 0 ≡ address s Missing
unfolding address
missing_address s = refl
