-- Harts whose grants are settled one after another.
use Rattle.std.proofs.Common.{◌≡◌, ℕ, zero, suc, ◌+◌, ◌<◌, List, [], ◌∷◌, ◌++◌, map, take, drop, length, get_or, refl, sym, ap, subst, ◌∙◌, append-nil, append_assoc, arith}
use Rattle.history_event.specs.declared.event.Event.{Event}
use Rattle.hart_moves.specs.Moves.{AreAllowed}
use Rattle.hart_moves.specs.Lemmas.Legality.{allowed_split}
use Rattle.hart_seat.specs.Table.{HartTable}
use Rattle.world_memory.specs.TurnAnswers.Following.{MayFollowAll}
use Rattle.world_turns.specs.World.{settled_by, settling}
use Rattle.world_answers.specs.ReturnsPart.Settling.{freed_in, harts_in}

-- ---- the grants of the harts in front are settled, and this one's is next

abbrev pub settled_in : HartTable → List Event
settled_in h = settled_by h.hart.resolving

-- what is settled of all harts: that of those in front, of the next one, and of the rest
parts : (harts : List HartTable) (i : ℕ) (d : HartTable) → i < length harts
    → settling (harts_in harts) ≡ settling (harts_in (take i harts)) ++ (settled_in (get_or harts i d) ++ settling (harts_in (drop (suc i) harts)))
parts [] i d lt = absurd (omega (arith, lt))
parts (h ∷ rest) zero d lt = refl
parts (h ∷ rest) (suc i) d lt =
    ap (λ (es : List Event). settled_in h ++ es) (parts rest i d (omega (arith, lt)))
    ∙ sym (append_assoc (settled_in h) (settling (harts_in (take i rest))) (settled_in (get_or rest i d) ++ settling (harts_in (drop (suc i) rest))))

front_grows : (harts : List HartTable) (i : ℕ) (d : HartTable) → i < length harts
    → settling (harts_in (take (suc i) harts)) ≡ settling (harts_in (take i harts)) ++ settled_in (get_or harts i d)
front_grows [] i d lt = absurd (omega (arith, lt))
front_grows (h ∷ rest) zero d lt = append-nil (settled_in h)
front_grows (h ∷ rest) (suc i) d lt =
    ap (λ (es : List Event). settled_in h ++ es) (front_grows rest i d (omega (arith, lt)))
    ∙ sym (append_assoc (settled_in h) (settling (harts_in (take i rest))) (settled_in (get_or rest i d)))

pub next_may : (n : ℕ) (past : List Event) (harts : List HartTable) (i : ℕ) (d : HartTable) → i < length harts → MayFollowAll n past (settling (harts_in harts))
    → MayFollowAll n (past ++ settling (harts_in (take i harts))) (settled_in (get_or harts i d))
next_may n past harts i d lt may = record {
  setting = may.setting;
  machine = may.machine;
  may = (allowed_split may.setting (past ++ settling (harts_in (take i harts))) (settled_in (get_or harts i d)) (settling (harts_in (drop (suc i) harts)))
      (allowed_split may.setting past (settling (harts_in (take i harts))) (settled_in (get_or harts i d) ++ settling (harts_in (drop (suc i) harts)))
      (subst (AreAllowed may.setting past) (parts harts i d lt) may.may)).1).0;
}

pub events_grow : (past : List Event) (harts : List HartTable) (i : ℕ) (d : HartTable) → i < length harts
    → (past ++ settling (harts_in (take i harts))) ++ settled_in (get_or harts i d) ≡ past ++ settling (harts_in (take (i + 1) harts))
events_grow past harts i d lt =
    let next : suc i ≡ i + 1 = omega arith in
    append_assoc past (settling (harts_in (take i harts))) (settled_in (get_or harts i d))
    ∙ ap (λ (es : List Event). past ++ es) (sym (front_grows harts i d lt))
    ∙ ap (λ (k : ℕ). past ++ settling (harts_in (take k harts))) next

-- ---- the harts behind those that are settled

-- they are as they were
pub item_of : (harts : List HartTable) (i : ℕ) (d : HartTable) → get_or (map freed_in (take i harts) ++ drop i harts) i d ≡ get_or harts i d
item_of [] zero d = refl
item_of [] (suc i) d = refl
item_of (h ∷ rest) zero d = refl
item_of (h ∷ rest) (suc i) d = item_of rest i d
