use Rattle.std.proofs.Common.{◌≡◌, Bool, true, false, ◌||◌, ◌++◌, List, [], ◌∷◌, Some, None, Result, Ok, Err, IfOk, map, refl, sym, ap, ◌∙◌, append_assoc}
use Rattle.std.specs.Option.{unwrap_or}
use Rattle.std.specs.Prelude.{if◌then◌else◌}
use Rattle.ld_base.specs.declared.linking.Choice.{Choice}
use Rattle.ld_base.specs.declared.linking.Choice.TheVariants.{WeakZero}
use Rattle.ld_base.specs.declared.linking.Loaded.{Loaded}
use Rattle.ld_base.specs.declared.object.Reloc.{Reloc}
use Rattle.history_state.specs.Bound.{binds_now}
use Rattle.history_state.specs.Relocating.{first_fault, reloc_fault}
use Rattle.history_state.specs.Lemmas.Lists.{at_in}
use Rattle.scope_rule.specs.Relocation.{choice_at}
use Rattle.scope_rule.specs.Seen.{Seen, seen}
use Rattle.sym_lookup.specs.References.{Referring}
use Rattle.history_calls.specs.LoadChoices.Choices.{slot_entry}
use Rattle.link_open_plan.specs.ObjectChoices.Sight.{chosen_at, faults_at}
use Rattle.link_open_plan.proofs.ObjectChoices.Refused.{by_slots, relocs_named, slots_named}
use Rattle.link_open_plan.proofs.object_choices.choosing.choose_at.Goals.{then-now, else-now}
use Rattle.link_open_plan.proofs.object_choices.choosing.choose_at.Goals as goal

if_ok : {A E : Type 0} (r : Result A E) (P Q : A → Type 0) → ((x : A) → P x → Q x) → IfOk r P → IfOk r Q
if_ok (Ok x) P Q f h = f x h
if_ok (Err e) P Q f h = h

behind : (new old first more : List Choice) → new ≡ old ++ first → new ++ more ≡ old ++ (first ++ more)
behind new old first more is = ap (λ (cs : List Choice). cs ++ more) is ∙ append_assoc old first more

entry : (ns : Seen) (now : Bool) (o : Loaded) (r : Reloc) (b : Bool) → (if b then choice_at ns o r else WeakZero) ≡ unwrap_or (if b then Some (choice_at ns o r) else None) WeakZero
entry ns now o r true = refl
entry ns now o r false = refl

entries : (ns : Seen) (now bound : Bool) (o : Loaded) (rs : List Reloc) → bound ≡ binds_now now o.object → map (chosen_at ns bound o) rs ≡ map (slot_entry ns now o) rs
entries ns now bound o [] is = refl
entries ns now bound o (r ∷ rest) is =
    ap (λ (b : Bool). (if b then choice_at ns o r else WeakZero) ∷ map (chosen_at ns bound o) rest) is
    ∙ ap (λ (c : Choice). c ∷ map (chosen_at ns bound o) rest) (entry ns now o r (binds_now now o.object))
    ∙ ap (λ (cs : List Choice). slot_entry ns now o r ∷ cs) (entries ns now bound o rest is)

pub choose_relocs-requires-clause-named : goal.choose_relocs-requires-clause-named
choose_relocs-requires-clause-named c =
    rw c.as_slice-relocs.ensures (relocs_named c.args.owner.now.object (c.requires.sight.named c.args.owner.now c.requires.new.added))

pub choose_slots-requires-clause-accepted : goal.choose_slots-requires-clause-accepted
choose_slots-requires-clause-accepted c =
    c.requires.sight.accepted c.args.owner.now (at_in (seen c.args.sight.now.view).objects c.args.place c.args.owner.now c.requires.new.there)

pub choose_slots-requires-clause-there : goal.choose_slots-requires-clause-there
choose_slots-requires-clause-there c = at_in (seen c.args.sight.now.view).objects c.args.place c.args.owner.now c.requires.new.there

pub choose_slots-requires-clause-slots : goal.choose_slots-requires-clause-slots
choose_slots-requires-clause-slots c =
    rw c.as_slice-slots.ensures
    (slots_named c.args.owner.now.object (c.requires.sight.named c.args.owner.now c.requires.new.added)
    (c.requires.sight.accepted c.args.owner.now (at_in (seen c.args.sight.now.view).objects c.args.place c.args.owner.now c.requires.new.there)))

pub returns-clause-fault : goal.returns-clause-fault
returns-clause-fault c =
    let ns : Seen = seen c.args.sight.now.view in
    let bound : c.if-now.bound ≡ binds_now c.args.now c.args.owner.now.object = elim c.if-now.branch [
      | then-now w ↦ w.bound-is ∙ w.if-now.true ∙ sym (ap (λ (b : Bool). b || c.args.owner.now.object.flags.bind_now) w.if-now.true)
      | else-now w ↦ w.bound-is ∙ sym (ap (λ (b : Bool). b || c.args.owner.now.object.flags.bind_now) w.if-now.false)
    ] in
    if_ok c.choose_slots.result _ _
    (λ fault are s shows.
    let same : c.in_ok-references.references.seen ≡ ns = ap (λ (r : Referring). r.seen) c.in_ok-references.ensures in
    let none : None ≡ first_fault (reloc_fault s ns c.args.owner.now) c.args.owner.now.object.relocs =
    sym c.in_default.is ∙ c.in_ok-fault.ensures.fault s shows.modules
    ∙ ap (λ (n : Seen). first_fault (reloc_fault s n c.args.owner.now) c.as_slice-relocs.result.now) same
    ∙ ap (first_fault (reloc_fault s ns c.args.owner.now)) c.as_slice-relocs.ensures in
    by_slots s ns c.args.now c.if-now.bound c.args.owner.now fault bound none
    (are s shows ∙ ap (first_fault (faults_at s ns c.if-now.bound c.args.owner.now)) c.as_slice-slots.ensures))
    c.choose_slots.ensures.fault

pub returns-clause-choices : goal.returns-clause-choices
returns-clause-choices c =
    let ns : Seen = seen c.args.sight.now.view in
    let bound : c.if-now.bound ≡ binds_now c.args.now c.args.owner.now.object = elim c.if-now.branch [
      | then-now w ↦ w.bound-is ∙ w.if-now.true ∙ sym (ap (λ (b : Bool). b || c.args.owner.now.object.flags.bind_now) w.if-now.true)
      | else-now w ↦ w.bound-is ∙ sym (ap (λ (b : Bool). b || c.args.owner.now.object.flags.bind_now) w.if-now.false)
    ] in
    let same : c.in_ok-references.references.seen ≡ ns = ap (λ (r : Referring). r.seen) c.in_ok-references.ensures in
    let first : c.choose_relocs.new.choices ≡ c.args.choices.now ++ map (choice_at ns c.args.owner.now) c.args.owner.now.object.relocs =
    c.in_ok-fault.ensures.choices c.in_default.is
    ∙ ap (λ (n : Seen). c.args.choices.now ++ map (choice_at n c.args.owner.now) c.as_slice-relocs.result.now) same
    ∙ ap (λ (rs : List Reloc). c.args.choices.now ++ map (choice_at ns c.args.owner.now) rs) c.as_slice-relocs.ensures in
    if_ok c.choose_slots.result _ _
    (λ fault are none.
    are none
    ∙ behind c.choose_relocs.new.choices c.args.choices.now (map (choice_at ns c.args.owner.now) c.args.owner.now.object.relocs)
    (map (chosen_at ns c.if-now.bound c.args.owner.now) c.as_slice-slots.result.now) first
    ∙ ap (λ (rs : List Reloc). c.args.choices.now ++ (map (choice_at ns c.args.owner.now) c.args.owner.now.object.relocs ++ map (chosen_at ns c.if-now.bound c.args.owner.now) rs)) c.as_slice-slots.ensures
    ∙ ap (λ (cs : List Choice). c.args.choices.now ++ (map (choice_at ns c.args.owner.now) c.args.owner.now.object.relocs ++ cs))
    (entries ns c.args.now c.if-now.bound c.args.owner.now c.args.owner.now.object.plt_relocs bound))
    c.choose_slots.ensures.choices
