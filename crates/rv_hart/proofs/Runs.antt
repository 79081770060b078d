-- A fetch and the access that its word asks for make a step.
use Rattle.std.proofs.Common.{◌≡◌, ℕ, List, [], ◌∷◌, Option, Result, Ok, Err, refl, sym, ap, subst, ◌∙◌}
use Rattle.rv_isa.specs.declared.instr.Instr.{Instr}
use Rattle.rv_isa.specs.Encoding.{Decodes}
use Rattle.rv_hart.specs.declared.action.Access.{Access}
use Rattle.rv_hart.specs.declared.action.Access.TheVariants.{Nothing, Read, Write, Amo, Reserve, Conditional, Ecall, Break, Bad, Misaligned}
use Rattle.rv_hart.specs.declared.action.Answer.{Answer}
use Rattle.rv_hart.specs.declared.action.Answer.TheVariants.{Nothing as NoAnswer, Value, Held, Stored}
use Rattle.rv_hart.specs.declared.bus.BusFault.{BusFault}
use Rattle.rv_hart.specs.declared.bus.Item.{Item}
use Rattle.rv_hart.specs.declared.bus.Item.TheVariants.{Fetch, Read as ReadItem, Write as WriteItem, Amo as AmoItem, Reserve as ReserveItem, Conditional as ConditionalItem}
use Rattle.rv_hart.specs.declared.stepping.Stop.{Stop}
use Rattle.rv_hart.specs.declared.stepping.Stop.TheVariants.{Ecall as EcallStop, Break as BreakStop, Bad as BadStop, Misaligned as MisalignedStop}
use Rattle.rv_hart.specs.Registers.{Registers}
use Rattle.rv_hart.specs.Instructions.{access_for, after_action}
use Rattle.rv_hart.specs.Trail.{Place, Ready, Stopped, place_for, concluded, answered, IsAfterStep, IsStep, Chain, Steps, Performs, place_after}

-- where the answer of an access leads
abbrev end_of : Registers → Option Instr → Result Answer Stop → Place
end_of r decoded (Ok answer) = Ready (after_action r decoded answer)
end_of r decoded (Err stop) = Stopped r stop

end-concluded : {T : Type 0} (r : Registers) (decoded : Option Instr) (address : ℕ) (kind : T → Answer) (answer : Result T BusFault) → end_of r decoded (answered address kind answer) ≡ concluded r decoded address kind answer
end-concluded r decoded address kind (Ok found) = refl
end-concluded r decoded address kind (Err fault) = refl

abbrev StepsTo : {B : Type 0} → (B → Item → B → Type 0) → B → B → Registers → Place → Type 0
StepsTo does bus bus' r end = (items : List Item) × Chain does bus items bus' × IsStep r items end

after_step : (r : Registers) (decoded : Option Instr) (result : Result Answer Stop) → IsAfterStep (end_of r decoded result)
after_step r decoded (Ok answer) = tt
after_step r decoded (Err stop) = tt

-- a step without an access
alone : {B : Type 0} (does : B → Item → B → Type 0) (bus mid bus' : B) (r : Registers) (word : ℕ) (decoded : Option Instr) (access : Access) (result : Result Answer Stop) (given : Result Answer Stop) →
    does bus (Fetch r.pc (Ok word)) mid → Decodes word decoded → access ≡ access_for r decoded → (bus' ≡ mid) × (result ≡ given) → end_of r decoded given ≡ place_for r word decoded access → StepsTo does bus bus' r (end_of r decoded result)
alone does bus mid bus' r word decoded access result given fetched decodes asked h same =
    (Fetch r.pc (Ok word) ∷ [], (mid, fetched, sym h.0), ((refl, (decoded, decodes, ap (end_of r decoded) h.1 ∙ same ∙ ap (place_for r word decoded) asked)), after_step r decoded result))

pub performed : {B : Type 0} (does : B → Item → B → Type 0) (bus mid bus' : B) (r : Registers) (word : ℕ) (decoded : Option Instr) (access : Access) (result : Result Answer Stop) →
    does bus (Fetch r.pc (Ok word)) mid → Decodes word decoded → access ≡ access_for r decoded → Performs does mid bus' word access result → StepsTo does bus bus' r (end_of r decoded result)
performed does bus mid bus' r word decoded Nothing result fetched decodes asked h = alone does bus mid bus' r word decoded Nothing result (Ok NoAnswer) fetched decodes asked h refl
performed does bus mid bus' r word decoded (Read address size) result fetched decodes asked (answer, value, did, gave) = (
  Fetch r.pc (Ok word) ∷ ReadItem address size answer ∷ [],
  (mid, fetched, (bus', did, refl)),
  (decoded, (refl, (decoded, decodes, ap (place_for r word decoded) asked)), (sym asked, ap (end_of r decoded) gave ∙ end-concluded r decoded address Value answer)),
)
performed does bus mid bus' r word decoded (Write address size value) result fetched decodes asked (answer, did, gave) = (
  Fetch r.pc (Ok word) ∷ WriteItem address size value answer ∷ [],
  (mid, fetched, (bus', did, refl)),
  (decoded, (refl, (decoded, decodes, ap (place_for r word decoded) asked)), (sym asked, ap (end_of r decoded) gave ∙ end-concluded r decoded address (λ _. NoAnswer) answer)),
)
performed does bus mid bus' r word decoded (Amo address size op value) result fetched decodes asked (answer, found, did, gave) = (
  Fetch r.pc (Ok word) ∷ AmoItem address size op value answer ∷ [],
  (mid, fetched, (bus', did, refl)),
  (decoded, (refl, (decoded, decodes, ap (place_for r word decoded) asked)), (sym asked, ap (end_of r decoded) gave ∙ end-concluded r decoded address Value answer)),
)
performed does bus mid bus' r word decoded (Reserve address size) result fetched decodes asked (answer, found, did, gave) = (
  Fetch r.pc (Ok word) ∷ ReserveItem address size answer ∷ [],
  (mid, fetched, (bus', did, refl)),
  (decoded, (refl, (decoded, decodes, ap (place_for r word decoded) asked)), (sym asked, ap (end_of r decoded) gave ∙ end-concluded r decoded address (λ found. Held found.0 found.1) answer)),
)
performed does bus mid bus' r word decoded (Conditional address size value version) result fetched decodes asked (answer, did, gave) = (
  Fetch r.pc (Ok word) ∷ ConditionalItem address size value version answer ∷ [],
  (mid, fetched, (bus', did, refl)),
  (decoded, (refl, (decoded, decodes, ap (place_for r word decoded) asked)), (sym asked, ap (end_of r decoded) gave ∙ end-concluded r decoded address Stored answer)),
)
performed does bus mid bus' r word decoded Ecall result fetched decodes asked h = alone does bus mid bus' r word decoded Ecall result (Err EcallStop) fetched decodes asked h refl
performed does bus mid bus' r word decoded Break result fetched decodes asked h = alone does bus mid bus' r word decoded Break result (Err BreakStop) fetched decodes asked h refl
performed does bus mid bus' r word decoded Bad result fetched decodes asked h = alone does bus mid bus' r word decoded Bad result (Err (BadStop word)) fetched decodes asked h refl
performed does bus mid bus' r word decoded (Misaligned address) result fetched decodes asked h = alone does bus mid bus' r word decoded (Misaligned address) result (Err (MisalignedStop address)) fetched decodes asked h refl

-- a step that gets through its instruction
pub stepped : {B T : Type 0} (does : B → Item → B → Type 0) (bus bus' : B) (r r' : Registers) (decoded : Option Instr) (answer : Answer) (value : T) → StepsTo does bus bus' r (end_of r decoded (Ok answer)) → r' ≡ after_action r decoded answer → Steps does bus bus' r r' (Ok value)
stepped does bus bus' r r' decoded answer value (items, chain, step) left = record {
  items = items;
  chain = chain;
  step = subst (λ x. IsStep r items (Ready x)) (sym left) step;
}

-- a step whose hart stops
pub stopped : {B T : Type 0} (does : B → Item → B → Type 0) (bus bus' : B) (r : Registers) (decoded : Option Instr) (stop : Stop) (result : Result T Stop) → StepsTo does bus bus' r (end_of r decoded (Err stop)) → result ≡ Err stop → Steps does bus bus' r r result
stopped does bus bus' r decoded stop result (items, chain, step) gave = record {
  items = items;
  chain = chain;
  step = subst (λ x. IsStep r items (place_after r x)) (sym gave) step;
}
