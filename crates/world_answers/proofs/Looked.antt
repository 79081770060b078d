-- Look-ups and closings, as their hart gets them.
use Rattle.std.proofs.Common.{◌≡◌, ℕ, List, [], None, refl, subst}
use Rattle.history_calls.specs.CallLaws.Coming.{IsOn, MadeBy}
use Rattle.history_journal.specs.Following.{machine_of}
use Rattle.link_calls.specs.Coming.{ComesIn, LooksUpIn}
use Rattle.history_event.specs.declared.event.Event.{Event}
use Rattle.history_event.specs.declared.event.SymAsk.{SymAsk}
use Rattle.history_state.specs.After.{after}
use Rattle.history_calls.specs.declared.link_served.served.Served.{Served}
use Rattle.history_calls.specs.declared.link_served.served.Served.TheVariants as served
use Rattle.history_calls.specs.Answer.{refused_value}
use Rattle.history_calls.specs.Call.{Call, closes, looks_up}
use Rattle.history_calls.specs.Served.{Makes}
use Rattle.link_state.specs.Table.{LinkTable}
use Rattle.world_memory.specs.declared.turn_answers.answered.Answered.{Answered}
use Rattle.world_memory.specs.declared.turn_answers.answered.MemoryChange.TheVariants as change
use Rattle.world_answers.specs.Answers.{AnswersIn, MayEndIn}
use Rattle.world_answers.specs.Served.{answer_with, noted}
use Rattle.world_answers.proofs.Came.{given_to, served_in, wanting_may_end}
use Rattle.world_answers.proofs.Quiet.{leaves_value, look_changes}

abbrev comes : (old mid : LinkTable) (h : ℕ) (call : Call) (came : Served) → LooksUpIn old h call came mid → ComesIn old h call came mid
comes old mid h call came looked = record { given = looked.given; are = looked.are; served = looked.served }

pub looked_in : (old mid new : LinkTable) (h : ℕ) (ask : SymAsk) (came : Served) (result : Answered) → LooksUpIn old h (looks_up ask) came mid → MayEndIn old h
    → result ≡ answer_with change.Made 0 came → new ≡ noted mid h came → AnswersIn old h (looks_up ask) result new
looked_in old mid new h ask came result looked may is noted_so =
    served_in (IsOn (machine_of old.harts)) old mid new h (looks_up ask) change.Made 0 came result refl refl (comes old mid h (looks_up ask) came looked) may
    (λ w value done gives.
    let made : Makes (after mid.events) looked.given mid.made = subst (λ (c : Served). MadeBy (after mid.events) looked.given c old.made mid.made) done looked.made_by in
    look_changes mid.made gives (subst (λ (es : List Event). Makes (after es) looked.given mid.made) looked.are made))
    is noted_so

pub looking_may_end : (old mid : LinkTable) (h : ℕ) (call : Call) (came : Served) → LooksUpIn old h call came mid → mid.harts ≡ old.harts → MayEndIn old h → came ≡ served.Memory → MayEndIn mid h
looking_may_end old mid h call came looked harts may memory =
    wanting_may_end (IsOn (machine_of old.harts)) old mid h call came (given_to old.harts [] None) refl (comes old mid h call came looked) harts memory may

pub closed_in : (old mid new : LinkTable) (h handle denied : ℕ) (came : Served) (result : Answered) → refused_value (closes handle) ≡ denied → ComesIn old h (closes handle) came mid → MayEndIn old h
    → result ≡ answer_with change.Nothing denied came → new ≡ noted mid h came → AnswersIn old h (closes handle) result new
closed_in old mid new h handle denied came result value closed may is noted_so =
    served_in (IsOn (machine_of old.harts)) old mid new h (closes handle) change.Nothing denied came result refl value closed may (λ w n done gives. leaves_value gives) is noted_so

pub closing_may_end : (old mid : LinkTable) (h : ℕ) (call : Call) (came : Served) → ComesIn old h call came mid → mid.harts ≡ old.harts → MayEndIn old h → came ≡ served.Memory → MayEndIn mid h
closing_may_end old mid h call came closed harts may memory =
    wanting_may_end (IsOn (machine_of old.harts)) old mid h call came (given_to old.harts [] None) refl closed harts memory may
