-- What a choice comes to depends on the namespaces alone.
use Rattle.std.proofs.Common.{◌≡◌, ℕ, ◌&&◌, Bool, true, false, not, eqb, List, Option, refl, sym, ap, ◌∙◌}
use Rattle.std.specs.Option.{option_map_or}
use Rattle.ld_base.specs.declared.linking.Choice.TheVariants.{Def, WeakZero, Missing}
use Rattle.ld_base.specs.declared.linking.Loaded.{Loaded}
use Rattle.history_state.specs.Addresses.{address, definition_address, is_code_in, is_code_of, is_linkers_page, leads_to_code, linker_function}
use Rattle.history_state.specs.State.{State}
use Rattle.scope_rule.specs.declared.namespace.Namespace.{Namespace}
use Rattle.link_spaces.proofs.MappedObjects.Finding.{in_all}

pub of_linker : (s : State) (serial index : ℕ) → eqb serial 0 ≡ true → linker_function index ≡ address s (Def serial index)
unfolding address
of_linker s serial index is = rw is refl

pub of_object : (s : State) (nss : List Namespace) (serial index : ℕ) (o : Option Loaded) → eqb serial 0 ≡ false → s.namespaces ≡ nss → o ≡ in_all nss serial
    → definition_address o index ≡ address s (Def serial index)
unfolding address
of_object s nss serial index o isnt are found = rw isnt (ap (λ (x : Option Loaded). definition_address x index) (found ∙ ap (λ (all : List Namespace). in_all all serial) (sym are)))

pub code_of_linker : (s : State) (serial a : ℕ) → eqb serial 0 ≡ true → is_linkers_page a ≡ is_code_of s serial a
unfolding is_code_of
code_of_linker s serial a is = rw is refl

pub code_of_object : (s : State) (nss : List Namespace) (serial a : ℕ) (o : Option Loaded) → eqb serial 0 ≡ false → s.namespaces ≡ nss → o ≡ in_all nss serial
    → option_map_or (λ (x : Loaded). is_code_in x a) o false ≡ is_code_of s serial a
unfolding is_code_of
code_of_object s nss serial a o isnt are found =
    rw isnt (ap (λ (x : Option Loaded). option_map_or (λ (y : Loaded). is_code_in y a) x false) (found ∙ ap (λ (all : List Namespace). in_all all serial) (sym are)))

pub leads_by : (s : State) (lazy serial index a : ℕ) (code : Bool) → a ≡ address s (Def serial index) → code ≡ is_code_of s serial a
    → (code && not (eqb a lazy)) ≡ leads_to_code s lazy (Def serial index)
unfolding leads_to_code
leads_by s lazy serial index a code at is = rw (is, at) refl

pub of_weak : (s : State) → 0 ≡ address s WeakZero
unfolding address
of_weak s = refl

pub leads_weak : (s : State) (lazy : ℕ) → true ≡ leads_to_code s lazy WeakZero
unfolding leads_to_code
leads_weak s lazy = refl

pub leads_missing : (s : State) (lazy : ℕ) → false ≡ leads_to_code s lazy Missing
unfolding leads_to_code
leads_missing s lazy = refl

pub of_missing : (s : State) → 0 ≡ address s Missing
unfolding address
of_missing s = refl
