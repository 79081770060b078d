-- The lines of slots, one after another.
use Rattle.std.proofs.Common.{◌≡◌, ℕ, ◌+◌, ◌<◌, Bool, true, false, ◌&&◌, List, [], ◌∷◌, ◌++◌, length, get_or, drop, Some, refl, sym, ap, subst, ◌∙◌, nat_lt}
use Rattle.std.specs.List.{flat_map, enumerate_from, list_all, slice_get}
use Rattle.std.proofs.lemmas.Bool.{ltb-true}
use Rattle.std.proofs.lemmas.Option.{slice_get-get_or}
use Rattle.std.specs.Prelude.{pos}
use Rattle.ld_base.specs.declared.linking.Loaded.{Loaded}
use Rattle.ld_base.specs.declared.object.Reloc.{Reloc}
use Rattle.ld_base.specs.declared.object.Symbol.{Symbol}
use Rattle.ld_base.specs.declared.linking.Choice.{Choice}
use Rattle.scope_rule.specs.Relocation.{choice_at}
use Rattle.scope_rule.specs.Seen.{Seen}
use Rattle.cli_text.specs.Named.{AreNamed}
use Rattle.cli_text.specs.Lines.{numbered_line, slot_text}
use Rattle.cli_text.proofs.Numbered.{parts_at, line_step}

and_both : (a b : Bool) → (a && b) ≡ true → (a ≡ true) × (b ≡ true)
and_both true b h = (refl, h)
and_both false b h = absurd cc

named : (count : ℕ) (ys : List Reloc) → list_all (λ r. nat_lt r.symbol count) ys ≡ true → AreNamed count ys
named count [] h = tt
named count (r ∷ rest) h =
    let both = and_both (nat_lt r.symbol count) (list_all (λ r. nat_lt r.symbol count) rest) h in
    (ltb-true r.symbol count both.0, named count rest both.1)

pub named_second : (count : ℕ) (xs ys : List Reloc) → list_all (λ r. nat_lt r.symbol count) (xs ++ ys) ≡ true → AreNamed count ys
named_second count [] ys h = named count ys h
named_second count (x ∷ xs) ys h = named_second count xs ys (and_both (nat_lt x.symbol count) (list_all (λ r. nat_lt r.symbol count) (xs ++ ys)) h).1

pub named_first : (count : ℕ) (xs ys : List Reloc) → list_all (λ r. nat_lt r.symbol count) (xs ++ ys) ≡ true → AreNamed count xs
named_first count [] ys h = tt
named_first count (x ∷ xs) ys h =
    let both = and_both (nat_lt x.symbol count) (list_all (λ r. nat_lt r.symbol count) (xs ++ ys)) h in
    (ltb-true x.symbol count both.0, named_first count xs ys both.1)

line_is : (seen : Seen) (o : Loaded) (n : ℕ) (r : Reloc) (s : Symbol) → slice_get o.object.symbols r.symbol ≡ Some s → numbered_line seen o (n, r) ≡ slot_text o n s (choice_at seen o r)
line_is seen o n r s there = rw (there, numbered_line) refl

-- one more slot
pub slot_step : (seen : Seen) (o : Loaded) (old new total : List ℕ) (n : ℕ) (slots : List Reloc) (d : Reloc) (s : Symbol) (c : Choice) → n < length slots → slice_get o.object.symbols (get_or slots n d).symbol ≡ Some s
    → c ≡ choice_at seen o (get_or slots n d) → new ≡ old ++ slot_text o n s c → old ++ flat_map (numbered_line seen o) (enumerate_from n (drop n slots)) ≡ total
    → new ++ flat_map (numbered_line seen o) (enumerate_from (n + 1) (drop (n + 1) slots)) ≡ total
slot_step seen o old new total n slots d s c lt there chosen written so_far =
    let same : slot_text o n s c ≡ numbered_line seen o (n, get_or slots n d) = ap (slot_text o n s) chosen ∙ sym (line_is seen o n (get_or slots n d) s there) in
    line_step (numbered_line seen o) old new total n n slots d lt (written ∙ ap (λ (line : List ℕ). old ++ line) same) so_far

pub named_rest : (count n : ℕ) (slots : List Reloc) (d : Reloc) → n < length slots → AreNamed count (drop n slots) → AreNamed count (drop (n + 1) slots)
named_rest count n slots d lt h = let all = subst (λ (xs : List Reloc). AreNamed count xs) (parts_at slots n d lt) h in all.1

-- what an index in range reads
pub read_at : {X : Type 0} (xs ys : List X) (k : ℕ) (x : X) → ys ≡ xs → k < length xs → x ≡ get_or ys k x → slice_get xs k ≡ Some x
read_at {X} xs ys k x same lt is = slice_get-get_or xs k x lt ∙ ap Some (sym (is ∙ ap (λ (zs : List X). get_or zs k x) same))

-- the first of the slots that are left has its symbol
pub named_here : (count n : ℕ) (slots : List Reloc) (d : Reloc) → n < length slots → AreNamed count (drop n slots) → (get_or slots n d).symbol < count
named_here count n slots d lt h = let all = subst (λ (xs : List Reloc). AreNamed count xs) (parts_at slots n d lt) h in all.0

-- what stands for a relocation where there is none
abbrev pub no_reloc : Reloc
no_reloc = record { place = 0; kind = 0; symbol = 0; addend = pos 0 }

-- the element of a list at a place in it
pub at_place : {X : Type 0} (xs ys : List X) (k : ℕ) (x : X) → ys ≡ xs → k < length ys → x ≡ get_or ys k x → slice_get xs k ≡ Some x
at_place {X} xs ys k x same lt is = let P : List X → Type 0 = λ zs. slice_get zs k ≡ Some x in subst P same (slice_get-get_or ys k x lt ∙ ap Some (sym is))
