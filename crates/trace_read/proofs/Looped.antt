-- Loops that read one thing after another.
use Rattle.std.proofs.Common.{◌≡◌, ℕ, ◌+◌, ◌*◌, ◌==◌, Bool, true, false, List, [], ◌∷◌, ◌++◌, Option, Some}
use Rattle.std.proofs.Common.{None, option_map, if◌then◌else◌, refl, sym, ap, ◌∙◌, append_assoc, append-nil, map, take, drop, length}
use Rattle.std.proofs.Common.{◌-◌, ◌≤◌, slice_index_or, arith}
use Rattle.std.proofs.lemmas.List.{take_rest}
use Rattle.std.proofs.lemmas.Option.{none-some, same_Some}
use Rattle.ld_base.specs.Text.{is_plain}
use Rattle.trace_read.specs.Lists.{each}
use Rattle.trace_read.specs.Names.{byte_of, bytes_of, escaped, first_byte, unescape}
use Rattle.trace_read.specs.Names.Stage.{plain, percent}
use Rattle.trace_read.specs.Numbers.{digit}
use Rattle.trace_read.specs.Pieces.{◌>>=◌}

-- what is read of the rest, behind what is read already
abbrev pub onto : {A : Type 0} → List A → Option (List A) → Option (List A)
onto done rest = option_map (λ more. done ++ more) rest

pub none_yet : {A : Type 0} (rest : Option (List A)) → onto [] rest ≡ rest
none_yet None = refl
none_yet (Some rest) = refl

pub ended : {A : Type 0} (done : List A) → onto done (Some []) ≡ Some done
ended done = ap (λ xs. Some xs) (append-nil done)

longer : {A : Type 0} (done : List A) (a : A) (rest : Option (List A)) → onto (done ++ a ∷ []) rest ≡ onto done (option_map (λ more. a ∷ more) rest)
longer done a None = refl
longer done a (Some more) = ap (λ xs. Some xs) (append_assoc done (a ∷ []) more)

bind_map : {A : Type 0} (a : A) (rest : Option (List A)) → (rest >>= (λ items. Some (a ∷ items))) ≡ option_map (λ more. a ∷ more) rest
bind_map a None = refl
bind_map a (Some items) = refl

-- words

pub each_step : {A : Type 0} (read : List ℕ → Option A) (done : List A) (text : List ℕ) (texts : List (List ℕ)) (a : A) → read text ≡ Some a
    → onto (done ++ a ∷ []) (each read texts) ≡ onto done (each read (text ∷ texts))
each_step read done text texts a e =
    longer done a (each read texts)
    ∙ ap (onto done) (sym (bind_map a (each read texts)) ∙ ap (λ o. o >>= (λ a. each read texts >>= (λ items. Some (a ∷ items)))) (sym e))

pub each_fails : {A : Type 0} (read : List ℕ → Option A) (done : List A) (text : List ℕ) (texts : List (List ℕ)) → read text ≡ None
    → onto done (each read (text ∷ texts)) ≡ None
each_fails read done text texts e = ap (λ o. onto done (o >>= (λ a. each read texts >>= (λ items. Some (a ∷ items))))) e

pub each_stepped : {A B : Type 0} (f : B → List ℕ) (read : List ℕ → Option A) (done new : List A) (a : A) (rest : List B)
    → 1 ≤ length rest → ((d : B) → read (f (slice_index_or rest 0 d)) ≡ Some a) → new ≡ done ++ a ∷ []
    → onto new (each read (map f (take (length rest - 1) (drop 1 rest)))) ≡ onto done (each read (map f rest))
each_stepped f read done new a [] some e p = absurd (omega arith)
each_stepped f read done new a (x ∷ xs) some e p = rw (p, take_rest (x ∷ xs) 1) (each_step read done (f x) (map f xs) a (e x))

pub ruleset each_rules = (none_yet, ended, each_step, each_fails)

-- bytes

with_digits : (dh dl : Option ℕ) (rest : Option (List ℕ)) (b : ℕ) → (dh >>= (λ h. dl >>= (λ l. Some (16 * h + l)))) ≡ Some b
    → option_map (λ more. b ∷ more) rest ≡ (dh >>= (λ h. dl >>= (λ l. option_map (λ more. (16 * h + l) ∷ more) rest)))
with_digits None dl rest b e = absurd (none-some b e)
with_digits (Some h) None rest b e = absurd (none-some b e)
with_digits (Some h) (Some l) rest b e = ap (λ x. option_map (λ more. x ∷ more) rest) (sym (same_Some _ _ e))

without_digits : (dh dl : Option ℕ) (rest : Option (List ℕ)) → (dh >>= (λ h. dl >>= (λ l. Some (16 * h + l)))) ≡ None
    → (dh >>= (λ h. dl >>= (λ l. option_map (λ more. (16 * h + l) ∷ more) rest))) ≡ None
without_digits None dl rest e = refl
without_digits (Some h) None rest e = refl
without_digits (Some h) (Some l) rest e = absurd (none-some (16 * h + l) (sym e))

pub bytes_step : (done : List ℕ) (h l b : ℕ) (others : List ℕ) → byte_of h l ≡ Some b
    → onto (done ++ b ∷ []) (bytes_of None others) ≡ onto done (bytes_of None (h ∷ l ∷ others))
bytes_step done h l b others e = longer done b (bytes_of None others) ∙ ap (onto done) (with_digits (digit 16 h) (digit 16 l) (bytes_of None others) b e)

pub bytes_fail : (done : List ℕ) (h l : ℕ) (others : List ℕ) → byte_of h l ≡ None → onto done (bytes_of None (h ∷ l ∷ others)) ≡ None
bytes_fail done h l others e = ap (onto done) (without_digits (digit 16 h) (digit 16 l) (bytes_of None others) e)

pub bytes_odd : (done : List ℕ) (h : ℕ) → onto done (bytes_of None (h ∷ [])) ≡ None
bytes_odd done h = by (digit 16 h)
  where
    by : (d : Option ℕ) → onto done (d >>= (λ h. None)) ≡ None
    by None = refl
    by (Some d) = refl

pub bytes_stepped : (done new : List ℕ) (b : ℕ) (rest : List ℕ) → 2 ≤ length rest
    → byte_of (slice_index_or rest 0 0) (slice_index_or rest 1 0) ≡ Some b → new ≡ done ++ b ∷ []
    → onto new (bytes_of None (take (length rest - 2) (drop 2 rest))) ≡ onto done (bytes_of None rest)
bytes_stepped done new b [] some e p = absurd (omega arith)
bytes_stepped done new b (h ∷ []) some e p = absurd (omega arith)
bytes_stepped done new b (h ∷ l ∷ others) some e p = rw (p, take_rest (h ∷ l ∷ others) 2) (bytes_step done h l b others e)

pub ruleset byte_rules = (none_yet, ended, bytes_step, bytes_fail, bytes_odd)

-- names

-- a byte and what stands behind it, of what is read of a name
abbrev first_then : Option (ℕ × List ℕ) → Option (List ℕ)
first_then first = first >>= (λ p. option_map (λ more. p.0 ∷ more) (unescape plain p.1))

by_digits : (dh dl : Option ℕ) (rest : List ℕ)
    → first_then ((dh >>= (λ h. dl >>= (λ l. Some (16 * h + l)))) >>= (λ byte. if is_plain byte then None else Some (byte, rest)))
    ≡ (dh >>= (λ h. dl >>= (λ l. if is_plain (16 * h + l) then None else option_map (λ more. (16 * h + l) ∷ more) (unescape plain rest))))
by_digits None dl rest = refl
by_digits (Some h) None rest = refl
by_digits (Some h) (Some l) rest = by (is_plain (16 * h + l))
  where
    by : (t : Bool)
        → first_then (if t then None else Some (16 * h + l, rest)) ≡
        (if t then None else option_map (λ more. (16 * h + l) ∷ more) (unescape plain rest))
    by true = refl
    by false = refl

escaped_then : (rest : List ℕ) → first_then (escaped rest) ≡ unescape percent rest
unfolding escaped
escaped_then [] = refl
escaped_then (h ∷ []) = by (digit 16 h)
  where
    by : (d : Option ℕ) → ◌≡◌ {A = Option (List ℕ)} None (d >>= (λ h. None))
    by None = refl
    by (Some d) = refl
escaped_then (h ∷ l ∷ rest) = by_digits (digit 16 h) (digit 16 l) rest

name_first : (c : ℕ) (rest : List ℕ) → first_then (first_byte c rest) ≡ unescape plain (c ∷ rest)
unfolding first_byte
name_first c rest = by (c == 37) (is_plain c)
  where
    by : (a b : Bool) → first_then (if a then escaped rest else (if b then Some (c, rest) else None))
        ≡ (if a then unescape percent rest else (if b then option_map (λ name. c ∷ name) (unescape plain rest) else None))
    by true b = escaped_then rest
    by false true = refl
    by false false = refl

pub name_step : (done : List ℕ) (c b : ℕ) (others behind : List ℕ) → first_byte c others ≡ Some (b, behind)
    → onto (done ++ b ∷ []) (unescape plain behind) ≡ onto done (unescape plain (c ∷ others))
name_step done c b others behind e = longer done b (unescape plain behind) ∙ ap (onto done) (sym (ap first_then e) ∙ name_first c others)

pub name_fails : (done : List ℕ) (c : ℕ) (others : List ℕ) → first_byte c others ≡ None → onto done (unescape plain (c ∷ others)) ≡ None
name_fails done c others e = ap (onto done) (sym (name_first c others) ∙ ap first_then e)

pub name_stepped : (done new : List ℕ) (b : ℕ) (rest behind : List ℕ) → 1 ≤ length rest
    → first_byte (slice_index_or rest 0 0) (take (length rest - 1) (drop 1 rest)) ≡ Some (b, behind) → new ≡ done ++ b ∷ []
    → onto new (unescape plain behind) ≡ onto done (unescape plain rest)
name_stepped done new b [] behind some e p = absurd (omega arith)
name_stepped done new b (c ∷ others) behind some e p =
    ap (λ xs. onto xs (unescape plain behind)) p ∙ name_step done c b others behind (sym (ap (first_byte c) (take_rest (c ∷ others) 1)) ∙ e)

pub name_failed : (done rest : List ℕ) (meant : Option (List ℕ)) → 1 ≤ length rest
    → first_byte (slice_index_or rest 0 0) (take (length rest - 1) (drop 1 rest)) ≡ None → onto done (unescape plain rest) ≡ meant → meant ≡ None
name_failed done [] meant some e p = absurd (omega arith)
name_failed done (c ∷ others) meant some e p = sym p ∙ name_fails done c others (sym (ap (first_byte c) (take_rest (c ∷ others) 1)) ∙ e)

pub ruleset name_rules = (none_yet, ended, name_step, name_fails)
