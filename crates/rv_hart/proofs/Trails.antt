-- Trails, from place to place.
use Rattle.std.proofs.Common.{◌≡◌, ℕ, Bool, List, [], ◌∷◌, ◌++◌, Option, Result, Ok, Err, refl, sym, ap, subst, ◌∙◌}
use Rattle.rv_isa.specs.declared.instr.Instr.{Instr}
use Rattle.rv_isa.specs.Laws.{OneDecoding}
use Rattle.rv_hart.specs.declared.bus.BusFault.{BusFault}
use Rattle.rv_hart.specs.declared.bus.BusFault.TheVariants.{Again}
use Rattle.rv_hart.specs.declared.bus.Item.{Item}
use Rattle.rv_hart.specs.declared.bus.Item.TheVariants.{Fetch, Read, Write, Amo, Reserve, Conditional}
use Rattle.rv_hart.specs.declared.stepping.Stop.{Stop}
use Rattle.rv_hart.specs.declared.stepping.Stop.TheVariants.{Refused}
use Rattle.rv_hart.specs.Registers.{Registers}
use Rattle.rv_hart.specs.Instructions.{access_for}
use Rattle.rv_hart.specs.Items.{left_by, items_left}
use Rattle.rv_hart.specs.Trail.{Place, Ready, Accessing, Stopped, place_for, Fetched, Begins, Ends, Resumes, Advances, Leads, IsStep}
use Rattle.rv_hart.specs.Laws.{OneEnd, StepLeads, LeadsJoin, SilentSteps}

fetched_once : OneDecoding → (r : Registers) (answer : Result ℕ BusFault) (one other : Place) → Fetched r answer one → Fetched r answer other → one ≡ other
fetched_once unique r (Ok word) one other h g =
    h.2 ∙ ap (λ d. place_for r word d (access_for r d)) (unique word h.0 g.0 h.1 g.1) ∙ sym g.2
fetched_once unique r (Err fault) one other h g = h ∙ sym g

begins_once : OneDecoding → (r : Registers) (item : Item) (one other : Place) → Begins r item one → Begins r item other → one ≡ other
begins_once unique r (Fetch address answer) one other h g = fetched_once unique r answer one other h.1 g.1
begins_once unique r (Read address size answer) one other h g = absurd h
begins_once unique r (Write address size value answer) one other h g = absurd h
begins_once unique r (Amo address size op value answer) one other h g = absurd h
begins_once unique r (Reserve address size answer) one other h g = absurd h
begins_once unique r (Conditional address size value version answer) one other h g = absurd h

ends_once : (r : Registers) (decoded : Option Instr) (item : Item) (one other : Place) → Ends r decoded item one → Ends r decoded item other → one ≡ other
ends_once r decoded (Fetch address answer) one other h g = absurd h
ends_once r decoded (Read address size answer) one other h g = h.1 ∙ sym g.1
ends_once r decoded (Write address size value answer) one other h g = h.1 ∙ sym g.1
ends_once r decoded (Amo address size op value answer) one other h g = h.1 ∙ sym g.1
ends_once r decoded (Reserve address size answer) one other h g = h.1 ∙ sym g.1
ends_once r decoded (Conditional address size value version answer) one other h g = h.1 ∙ sym g.1

resumes_once : OneDecoding → (r : Registers) (stop : Stop) (item : Item) (one other : Place) → Resumes r stop item one → Resumes r stop item other → one ≡ other
resumes_once unique r (Refused address (Again shown)) item one other h g = begins_once unique r item one other h g
resumes_once unique r _ item one other h g = absurd h

advances_once : OneDecoding → (start : Place) (item : Item) (one other : Place) → Advances start item one → Advances start item other → one ≡ other
advances_once unique (Ready r) item one other h g = begins_once unique r item one other h g
advances_once unique (Accessing r decoded) item one other h g = ends_once r decoded item one other h g
advances_once unique (Stopped r stop) item one other h g = resumes_once unique r stop item one other h g

pub one_end : OneDecoding → OneEnd
one_end unique start [] one other h g = sym h ∙ g
one_end unique start (item ∷ items) one other (a, ha, fa) (b, hb, fb) =
    one_end unique b items one other (subst (λ p. Leads p items one) (advances_once unique start item a b ha hb) fa) fb

pub step_leads : StepLeads
step_leads r [] end h = absurd h
step_leads r (fetch ∷ []) end h = (end, h.0, refl)
step_leads r (fetch ∷ (access ∷ [])) end h = (Accessing r h.0, h.1, (end, h.2, refl))
step_leads r (fetch ∷ (access ∷ (more ∷ rest))) end h = absurd h

pub leads_join : LeadsJoin
leads_join start between end [] more h g = subst (λ p. Leads p more end) (sym h) g
leads_join start between end (item ∷ items) more (place, advance, rest) g = (place, advance, leads_join place between end items more rest g)

-- ---- what a step leaves

fetch_refused : (has_word : ℕ → Bool) (r : Registers) (fetch : Item) (end : Place) → Begins r fetch end → (rest : List Item) → [] ≡ left_by has_word fetch ++ rest → (fault : BusFault) × (end ≡ Stopped r (Refused r.pc fault))
fetch_refused has_word r (Fetch address (Ok word)) end h rest e = absurd cc
fetch_refused has_word r (Fetch address (Err fault)) end h rest e = (fault, h.1)
fetch_refused has_word r (Read address size answer) end h rest e = absurd h
fetch_refused has_word r (Write address size value answer) end h rest e = absurd h
fetch_refused has_word r (Amo address size op value answer) end h rest e = absurd h
fetch_refused has_word r (Reserve address size answer) end h rest e = absurd h
fetch_refused has_word r (Conditional address size value version answer) end h rest e = absurd h

no_access : (r s : Registers) (decoded : Option Instr) (fault : BusFault) → Accessing r decoded ≡ Stopped s (Refused s.pc fault) → ⊥
no_access r s decoded fault e = absurd cc

silent : (has_word : ℕ → Bool) (r : Registers) (calls : List Item) (end : Place) → IsStep r calls end → [] ≡ items_left has_word calls → (fault : BusFault) × (end ≡ Stopped r (Refused r.pc fault))
silent has_word r [] end h e = absurd h
silent has_word r (fetch ∷ []) end h e = fetch_refused has_word r fetch end h.0 [] e
silent has_word r (fetch ∷ (access ∷ [])) end h e =
    let refused = fetch_refused has_word r fetch (Accessing r h.0) h.1 (items_left has_word (access ∷ [])) e in
    absurd (no_access r r h.0 refused.0 refused.1)
silent has_word r (fetch ∷ (access ∷ (more ∷ rest))) end h e = absurd h

pub silent_steps : SilentSteps
silent_steps has_word r end (calls, step, left) = silent has_word r calls end step left
