use Rattle.std.proofs.Common.{◌≡◌, ℕ, zero, suc, ◌+◌, ◌<◌, ◌≤◌, Bool, true, false, List, [], ◌∷◌, map, drop, length, Ok, ⊎_elim, refl, subst, arith}
use Rattle.std.specs.List.{Contains, range_with_len}
use Rattle.std.specs.Prelude.{IsTrue}
use Rattle.std.proofs.lemmas.Bool.{ne_eqb}
use Rattle.elf_object.specs.Verdict.{object_verdict}
use Rattle.history_state.specs.Setting.{Machine}
use Rattle.history_state.specs.State.{State}
use Rattle.history_state.specs.Lemmas.Steps.{good_after}
use Rattle.ld_base.specs.declared.linking.Loaded.{Loaded}
use Rattle.history_state.specs.After.{after}
use Rattle.history_state.specs.Objects.{serial_of}
use Rattle.history_state.specs.Read.{WasRead}
use Rattle.history_state.specs.Lemmas.Lists.{first_or_later, in_map, later, none_in}
use Rattle.history_journal.specs.Following.{machine_of}
use Rattle.link_open_laws.proofs.law.libraries_have_no_copies.Goals as goal

-- an element behind the first is one of the list
behind : {X : Type 0} (xs : List X) (x : X) → Contains (drop 1 xs) x → Contains xs x
behind [] x h = h
behind (y ∷ xs) x h = later y xs x h

at_least : (n a x : ℕ) → Contains (range_with_len a n) x → a ≤ x
at_least zero a x inside = absurd (none_in x inside)
at_least (suc n) a x inside = ⊎_elim
    (λ (first : a ≡ x). omega (arith, first))
    (λ (rest : Contains (range_with_len (a + 1) n) x). let more : a + 1 ≤ x = at_least n (a + 1) x rest in omega (arith, more))
    (first_or_later a (range_with_len (a + 1) n) x inside)

-- those behind the first have serials above the first number
above : (added : List Loaded) (next : ℕ) → map serial_of added ≡ range_with_len next (length added) → (o : Loaded) → Contains (drop 1 added) o → next < o.serial
above [] next are o h = absurd (none_in o h)
above (p ∷ added) next are o h =
    let rest : map serial_of added ≡ range_with_len (next + 1) (length added) = cc in
    let low : next + 1 ≤ o.serial = at_least (length added) (next + 1) o.serial (subst (λ (ns : List ℕ). Contains ns o.serial) rest (in_map serial_of added o h)) in
    omega (arith, low)

is_library : (m : Machine) (o : Loaded) → (read : WasRead m o) → 1 < o.serial → read.program ≡ false
is_library m o read high = at read.program read.first
  where
    at : (b : Bool) → (IsTrue b → o.serial ≡ 1) → b ≡ false
    at true first = absurd (let one : o.serial ≡ 1 = first refl in omega (arith, one, high))
    at false first = refl

pub returns : goal.returns
returns c harts past hart id root ask added ranges lawful next o behind_first r inside =
    let s : State = after past in
    let positive : 1 ≤ s.next = (good_after (record { serials = c.serials_follow.ensures; leads = c.found_stands.ensures.names; founds = c.found_stands.ensures.founds }) (machine_of harts) past lawful).positive in
    let higher : s.next < o.serial = above added s.next (c.serials_are_in_order.ensures.new (machine_of harts) next.setting past hart id root ask added ranges next.machine lawful next.may) o behind_first in
    let read : WasRead (machine_of harts) o = c.objects_are_read.ensures.new (machine_of harts) next.setting past hart id root ask added ranges next.machine lawful next.may o (behind added o behind_first) in
    let library : read.program ≡ false = is_library (machine_of harts) o read (omega (arith, positive, higher)) in
    ne_eqb r.kind 4 (c.accepted_object.ensures.library read.bytes o.object o.table (subst (λ (b : Bool). object_verdict read.bytes b ≡ Ok (o.object, o.table)) library read.is) r inside)
