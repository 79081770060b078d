-- Where the calls of a bus lead a hart by the instructions: one after another, each the one that the hart's registers ask
-- for. No ecall is passed here and no fuel is counted: that is for whoever runs the hart.
use Rattle.std.specs.Prelude.{◌≡◌, ℕ, List, [], ◌∷◌, Option, Result, Ok, Err, Bool, IfOk, ◌<◌, ◌*◌, ◌^◌}
use Rattle.rv_isa.specs.declared.instr.Instr.{Instr}
use Rattle.rv_isa.specs.Encoding.{Decodes}
use Rattle.rv_hart.specs.declared.action.Access.{Access}
use Rattle.rv_hart.specs.declared.action.Access.TheVariants.{Nothing, Read, Write, Amo, Reserve, Conditional, Ecall, Break, Bad, Misaligned}
use Rattle.rv_hart.specs.declared.action.Answer.{Answer}
use Rattle.rv_hart.specs.declared.action.Answer.TheVariants.{Nothing as NoAnswer, Value, Held, Stored}
use Rattle.rv_hart.specs.declared.bus.BusFault.{BusFault}
use Rattle.rv_hart.specs.declared.bus.BusFault.TheVariants.{Again}
use Rattle.rv_hart.specs.declared.bus.Item.{Item}
use Rattle.rv_hart.specs.declared.bus.Item.TheVariants.{Fetch, Read as ReadItem, Write as WriteItem, Amo as AmoItem, Reserve as ReserveItem}
use Rattle.rv_hart.specs.declared.bus.Item.TheVariants.{Conditional as ConditionalItem}
use Rattle.rv_hart.specs.declared.stepping.Stop.{Stop}
use Rattle.rv_hart.specs.declared.stepping.Stop.TheVariants.{Ecall as EcallStop, Break as BreakStop, Bad as BadStop, Misaligned as MisalignedStop, Refused}
use Rattle.rv_hart.specs.Buses.{HasValue}
use Rattle.rv_hart.specs.Registers.{Registers}
use Rattle.rv_hart.specs.Instructions.{access_for, after_action}

-- where a hart is between two calls of its bus: about to fetch; at an instruction whose access is
-- to come; or stopped at an instruction, with the registers from before it
pub data Place : Type 0 where
  Ready : Registers → Place
  Accessing : Registers → Option Instr → Place
  Stopped : Registers → Stop → Place

-- where a fetched word leads, by the access that it asks for
abbrev pub place_for : Registers → ℕ → Option Instr → Access → Place
place_for r word decoded Nothing = Ready (after_action r decoded NoAnswer)
place_for r word decoded Ecall = Stopped r EcallStop
place_for r word decoded Break = Stopped r BreakStop
place_for r word decoded Bad = Stopped r (BadStop word)
place_for r word decoded (Misaligned address) = Stopped r (MisalignedStop address)
place_for r word decoded _ = Accessing r decoded

-- where a fetch leads
abbrev pub Fetched : Registers → Result ℕ BusFault → Place → Type 0
Fetched r (Ok word) end = (decoded : Option Instr) × Decodes word decoded × (end ≡ place_for r word decoded (access_for r decoded))
Fetched r (Err fault) end = end ≡ Stopped r (Refused r.pc fault)

-- the first call of an instruction: the fetch at the pc
abbrev pub Begins : Registers → Item → Place → Type 0
Begins r (Fetch address answer) end = (address ≡ r.pc) × Fetched r answer end
Begins r _ end = ⊥

-- where an access at an address leads, by what it gave
abbrev pub concluded : {T : Type 0} → Registers → Option Instr → ℕ → (T → Answer) → Result T BusFault → Place
concluded r decoded address kind (Ok found) = Ready (after_action r decoded (kind found))
concluded r decoded address kind (Err fault) = Stopped r (Refused address fault)

-- the second call of an instruction: the access that it asks for
abbrev pub Ends : Registers → Option Instr → Item → Place → Type 0
Ends r decoded (ReadItem address size answer) end = (access_for r decoded ≡ Read address size) × (end ≡ concluded r decoded address Value answer)
Ends r decoded (WriteItem address size value answer) end =
    (access_for r decoded ≡ Write address size value) × (end ≡ concluded r decoded address (λ _. NoAnswer) answer)
Ends r decoded (AmoItem address size op value answer) end =
    (access_for r decoded ≡ Amo address size op value) × (end ≡ concluded r decoded address Value answer)
Ends r decoded (ReserveItem address size answer) end =
    (access_for r decoded ≡ Reserve address size) × (end ≡ concluded r decoded address (λ found. Held found.0 found.1) answer)
Ends r decoded (ConditionalItem address size value version answer) end =
    (access_for r decoded ≡ Conditional address size value version) × (end ≡ concluded r decoded address Stored answer)
Ends r decoded (Fetch address answer) end = ⊥

-- a hart that was told to try again begins the instruction anew; no other that is stopped goes on
abbrev pub Resumes : Registers → Stop → Item → Place → Type 0
Resumes r (Refused address (Again shown)) item end = Begins r item end
Resumes r _ item end = ⊥

-- one call of the bus, from place to place
abbrev pub Advances : Place → Item → Place → Type 0
Advances (Ready r) item end = Begins r item end
Advances (Accessing r decoded) item end = Ends r decoded item end
Advances (Stopped r stop) item end = Resumes r stop item end

-- these calls lead the hart from a place to another, by the instructions
abbrev pub Leads : Place → List Item → Place → Type 0
Leads start [] end = start ≡ end
Leads start (item ∷ items) end = (between : Place) × Advances start item between × Leads between items end

-- a hart is between two instructions, or stopped
abbrev pub IsAfterStep : Place → Type 0
IsAfterStep (Ready r) = Unit {0}
IsAfterStep (Accessing r decoded) = ⊥
IsAfterStep (Stopped r stop) = Unit {0}

-- one step of a hart: a fetch, and the one access that the word asks for, if it asks for one
abbrev pub IsStep : Registers → List Item → Place → Type 0
IsStep r (fetch ∷ []) end = Begins r fetch end × IsAfterStep end
IsStep r (fetch ∷ (access ∷ [])) end = (decoded : Option Instr) × Begins r fetch (Accessing r decoded) × Ends r decoded access end
IsStep r _ end = ⊥

-- where a step leaves its hart
abbrev pub place_after : {T : Type 0} → Registers → Result T Stop → Place
place_after r (Ok _) = Ready r
place_after r (Err stop) = Stopped r stop

-- the bus did these calls, one after another
abbrev pub Chain : {B : Type 0} → (B → Item → B → Type 0) → B → List Item → B → Type 0
Chain does bus [] end = bus ≡ end
Chain {B} does bus (item ∷ items) end = (between : B) × does bus item between × Chain does between items end

-- what a call of the bus answered, as what it gives the hart or as why the hart stops
abbrev pub answered : {T : Type 0} → ℕ → (T → Answer) → Result T BusFault → Result Answer Stop
answered address kind (Ok found) = Ok (kind found)
answered address kind (Err fault) = Err (Refused address fault)

-- an access was made by the one call that it asks for, or by none, and gave this
abbrev pub Performs : {B : Type 0} → (B → Item → B → Type 0) → B → B → ℕ → Access → Result Answer Stop → Type 0
Performs does bus bus' word Nothing result = (bus' ≡ bus) × (result ≡ Ok NoAnswer)
Performs does bus bus' word (Read address size) result =
    (answer : Result ℕ BusFault) × HasValue size answer × does bus (ReadItem address size answer) bus' × (result ≡ answered address Value answer)
Performs does bus bus' word (Write address size value) result =
    (answer : Result Unit BusFault) × does bus (WriteItem address size value answer) bus' × (result ≡ answered address (λ _. NoAnswer) answer)
Performs does bus bus' word (Amo address size op value) result =
    (answer : Result ℕ BusFault) × HasValue size answer × does bus (AmoItem address size op value answer) bus' × (result ≡ answered address Value answer)
Performs does bus bus' word (Reserve address size) result =
    (answer : Result (ℕ × ℕ) BusFault) × IfOk answer (λ found. found.0 < 2 ^ (8 * size)) × does bus (ReserveItem address size answer) bus'
    × (result ≡ answered address (λ found. Held found.0 found.1) answer)
Performs does bus bus' word (Conditional address size value version) result =
    (answer : Result Bool BusFault) × does bus (ConditionalItem address size value version answer) bus' × (result ≡ answered address Stored answer)
Performs does bus bus' word Ecall result = (bus' ≡ bus) × (result ≡ Err EcallStop)
Performs does bus bus' word Break result = (bus' ≡ bus) × (result ≡ Err BreakStop)
Performs does bus bus' word Bad result = (bus' ≡ bus) × (result ≡ Err (BadStop word))
Performs does bus bus' word (Misaligned address) result = (bus' ≡ bus) × (result ≡ Err (MisalignedStop address))

-- one step of a hart over a bus: the calls that the bus did are those of the step, which leaves the
-- hart's registers and the step's result
pub record Steps {B T : Type 0} (does : B → Item → B → Type 0) (bus bus' : B) (r r' : Registers) (result : Result T Stop) : Type 0 where
  pub items : List Item
  pub chain : Chain does bus items bus'
  pub step : IsStep r items (place_after r' result)
