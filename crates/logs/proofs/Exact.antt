-- The one pass accepts exactly the logs that are accepted. Assumes nothing.
use mathlib.Core.Path.{◌≡◌, refl, sym, ap, ◌∙◌, subst}
use mathlib.Core.Bool.{Bool, true, false, not, cond, ◌&&◌, ◌||◌}
use mathlib.Core.List.{List, [], ◌∷◌}
use mathlib.Core.Logic.{◌⊎◌, inl, inr, ⊎_elim}
use Prim.Native.Nat.{ℕ, suc, ◌≤◌}
use native.Mathlib.Omega.{arith}
use lib.Dec.{eqb, ltb, leb}
use borrow.Author.Tests.{ne_eqb, eq-eqb, eqb-true, eqb-false, le-leb, leb-true, lt-leb, ltb-false, ltb-true}
use Rattle.bits.proofs.Lists.{and_true, never_both, eq_or_not, same_test}
use Rattle.logs.specs.Reading.{Entry, mark, poll, pollack, ack, has}
use Rattle.logs.specs.Turns.{Turn, turn, Running, idle, runs, begun, end_of, turns_from, inside_from, within, turns_of, one_each, only_listed, mark_ahead, round_ok, rounds_ok, accepted}
use Rattle.logs.proofs.Sets.{without, is_none, has_here, has_there, without_has, without_keeps}
use Rattle.logs.proofs.Watched.{watched}

-- ---- slots whose turns begin, up to the next mark

abbrev slots_of : List Turn → List ℕ
slots_of [] = []
slots_of (turn s p a ∷ ts) = s ∷ slots_of ts

unfoldable new : Running → List Entry → List ℕ
new r [] = []
new r (mark l ∷ es) = []
new idle (poll x ∷ es) = x ∷ new (begun x) es
new (runs (turn s p a)) (poll x ∷ es) = cond (eqb x s) (new (runs (turn s (suc p) a)) es) (x ∷ new (begun x) es)
new idle (pollack x ∷ es) = new idle es
new (runs (turn s p a)) (pollack x ∷ es) = new (runs (turn s p (suc a))) es
new idle (ack x ∷ es) = new idle es
new (runs (turn s p a)) (ack x ∷ es) = new idle es

-- with the slot whose turn runs
abbrev with_run : Running → List ℕ → List ℕ
with_run idle l = l
with_run (runs (turn s p a)) l = s ∷ l

slots_by : (b : Bool) (x y : List Turn) (s : ℕ) (u v : List ℕ) → slots_of x ≡ s ∷ u → slots_of y ≡ s ∷ v → slots_of (cond b x y) ≡ s ∷ cond b u v
slots_by true x y s u v f g = f
slots_by false x y s u v f g = g

slots_new : (r : Running) (es : List Entry) → slots_of (turns_from r es) ≡ with_run r (new r es)
unfolding turns_from new
slots_new idle [] = refl
slots_new (runs (turn s p a)) [] = refl
slots_new idle (mark l ∷ es) = refl
slots_new (runs (turn s p a)) (mark l ∷ es) = refl
slots_new idle (poll x ∷ es) = slots_new (begun x) es
slots_new (runs (turn s p a)) (poll x ∷ es) =
    slots_by (eqb x s) (turns_from (runs (turn s (suc p) a)) es) (turn s p a ∷ turns_from (begun x) es) s (new (runs (turn s (suc p) a)) es) (x ∷ new (begun x) es)
    (slots_new (runs (turn s (suc p) a)) es) (ap (λ (l : List ℕ). s ∷ l) (slots_new (begun x) es))
slots_new idle (pollack x ∷ es) = slots_new idle es
slots_new (runs (turn s p a)) (pollack x ∷ es) = slots_new (runs (turn s p (suc a))) es
slots_new idle (ack x ∷ es) = slots_new idle es
slots_new (runs (turn s p a)) (ack x ∷ es) = ap (λ (l : List ℕ). s ∷ l) (slots_new idle es)

-- ---- a turn only grows

first_few : (s p a : ℕ) (ts : List Turn) → within (turn s p a ∷ ts) ≡ true → (p ≤ 5) × (a ≤ 4)
first_few s p a ts e =
    let u = and_true (leb p 5) (leb a 4 && within ts) e in
    let v = and_true (leb a 4) (within ts) u.1 in
    (leb-true p 5 u.0, leb-true a 4 v.0)

few_by : (s p a : ℕ) (b : Bool) (x y : List Turn) → (within x ≡ true → (suc p ≤ 5) × (a ≤ 4)) → within (cond b x (turn s p a ∷ y)) ≡ true → (p ≤ 5) × (a ≤ 4)
few_by s p a true x y f e = let h = f e in (omega arith, h.1)
few_by s p a false x y f e = first_few s p a y e

few : (s p a : ℕ) (es : List Entry) → within (turns_from (runs (turn s p a)) es) ≡ true → (p ≤ 5) × (a ≤ 4)
unfolding turns_from
few s p a [] e = first_few s p a [] e
few s p a (mark l ∷ es) e = first_few s p a [] e
few s p a (poll x ∷ es) e = few_by s p a (eqb x s) (turns_from (runs (turn s (suc p) a)) es) (turns_from (begun x) es) (few s (suc p) a es) e
few s p a (pollack x ∷ es) e = let h = few s p (suc a) es e in (h.0, omega arith)
few s p a (ack x ∷ es) e = let h = first_few s p (suc a) (turns_from idle es) e in (h.0, omega arith)

-- ---- each listed slot once

-- taken off the list one by one, and at a mark none is left
abbrev fits : List ℕ → List ℕ → Bool → Bool
fits due [] ahead = not ahead || is_none due
fits due (x ∷ n) ahead = has x due && fits (without x due) n ahead

-- how often x stands on the list
abbrev times : ℕ → List ℕ → ℕ
times x [] = 0
times x (y ∷ n) = cond (eqb x y) (suc (times x n)) (times x n)

abbrev right : Bool → ℕ → Bool
right ahead k = cond ahead (eqb k 1) (leb k 1)

abbrev each : Bool → List ℕ → List ℕ → Bool
each ahead [] n = true
each ahead (x ∷ due) n = right ahead (times x n) && each ahead due n

abbrev all_in : List ℕ → List ℕ → Bool
all_in [] m = true
all_in (x ∷ l) m = has x m && all_in l m

swap : (a b c : Bool) → a && (b && c) ≡ b && (a && c)
swap true true c = refl
swap true false c = refl
swap false true c = refl
swap false false c = refl

in_without : (x : ℕ) (n due : List ℕ) → all_in n (without x due) ≡ not (has x n) && all_in n due
in_without x [] due = refl
in_without x (y ∷ n) due = by (eq_or_not y x) (in_without x n due)
  where
    by : (y ≡ x) ⊎ (y ≡ x → ⊥) → all_in n (without x due) ≡ not (has x n) && all_in n due
        → has y (without x due) && all_in n (without x due) ≡ not (has x (y ∷ n)) && (has y due && all_in n due)
    by (inl e) ih = rw (e, without_has x due, has_here x n)
    by (inr d) ih = rw (without_keeps y x due d, has_there x y n (λ e. d (sym e)), ih) (swap (has y due) (not (has x n)) (all_in n due))

-- a slot stands on a list no times where it is not on it
times_none : (x : ℕ) (n : List ℕ) → eqb (times x n) 0 ≡ not (has x n)
times_none x [] = refl
times_none x (y ∷ n) = by (eqb x y) (times_none x n)
  where
    by : (b : Bool) → eqb (times x n) 0 ≡ not (has x n) → eqb (cond b (suc (times x n)) (times x n)) 0 ≡ not (cond b true (has x n))
    by true ih = ne_eqb (suc (times x n)) 0 (λ e. omega arith)
    by false ih = ih

one_more : (ahead : Bool) (k : ℕ) → right ahead (suc k) ≡ eqb k 0
one_more true k = same_test (suc k) 1 k 0 (λ e. omega arith) (λ e. omega arith)
one_more false k = ⊎_elim (λ e. le-leb (suc k) 1 (omega arith) ∙ sym (eq-eqb k 0 e)) (λ d. lt-leb (suc k) 1 (omega arith) ∙ sym (ne_eqb k 0 d)) (eq_or_not k 0)

join : (n o h : Bool) → n && (o && (not h || n)) ≡ o && n
join true true true = refl
join true true false = refl
join true false h = refl
join false true h = refl
join false false h = refl

pair : (a b c : Bool) → a && (b && c) ≡ (a && b) && c
pair true b c = refl
pair false b c = refl

-- a turn of slot x more
each_more : (ahead : Bool) (x : ℕ) (due n : List ℕ) → each ahead due (x ∷ n) ≡ each ahead (without x due) n && (not (has x due) || not (has x n))
each_more ahead x [] n = refl
each_more ahead x (y ∷ due) n = by (eqb x y) refl (each_more ahead x due n)
  where
    by : (b : Bool) → eqb x y ≡ b → each ahead due (x ∷ n) ≡ each ahead (without x due) n && (not (has x due) || not (has x n))
        → right ahead (times y (x ∷ n)) && each ahead due (x ∷ n)
        ≡ each ahead (cond b (without x due) (y ∷ without x due)) n && (not (cond b true (has x due)) || not (has x n))
    by true e ih =
        let q : x ≡ y = eqb-true x y e in
        let z : right ahead (times y (x ∷ n)) ≡ not (has x n) = subst (λ (w : ℕ). right ahead (times w (x ∷ n)) ≡ not (has x n)) q (rw (eq-eqb x x refl) (one_more ahead (times x n) ∙ times_none x n)) in
        rw (z, ih) (join (not (has x n)) (each ahead (without x due) n) (has x due))
    by false e ih =
        rw (ne_eqb y x (λ q. eqb-false x y e (sym q)), ih)
        (pair (right ahead (times y n)) (each ahead (without x due) n) (not (has x due) || not (has x n)))

none_each : (ahead : Bool) (due : List ℕ) → not ahead || is_none due ≡ each ahead due [] && true
none_each true [] = refl
none_each true (x ∷ due) = refl
none_each false [] = refl
none_each false (x ∷ due) = none_each false due

-- where x is listed, and where it is not
step_by : (h o t q : Bool) → h && (o && (not t && q)) ≡ (o && (not h || not t)) && (h && q)
step_by true true true q = refl
step_by true true false q = refl
step_by true false t q = refl
step_by false true t q = refl
step_by false false t q = refl

fits_is : (n due : List ℕ) (ahead : Bool) → fits due n ahead ≡ each ahead due n && all_in n due
fits_is [] due ahead = none_each ahead due
fits_is (x ∷ n) due ahead =
    rw (fits_is n (without x due) ahead, in_without x n due, each_more ahead x due n)
    (step_by (has x due) (each ahead (without x due) n) (has x n) (all_in n due))

-- the definition's own words
times_slots : (x : ℕ) (ts : List Turn) → turns_of x ts ≡ times x (slots_of ts)
times_slots x [] = refl
times_slots x (turn s p a ∷ ts) = rw (times_slots x ts)

each_slots : (ahead : Bool) (l : List ℕ) (ts : List Turn) → one_each ahead l ts ≡ each ahead l (slots_of ts)
each_slots ahead [] ts = refl
each_slots ahead (x ∷ l) ts = rw (times_slots x ts, each_slots ahead l ts)

only_slots : (l : List ℕ) (ts : List Turn) → only_listed l ts ≡ all_in (slots_of ts) l
only_slots l [] = refl
only_slots l (turn s p a ∷ ts) = rw (only_slots l ts)

round_is : (l : List ℕ) (es : List Entry) → round_ok l es ≡ inside_from idle es && (within (turns_from idle es) && fits l (new idle es) (mark_ahead es))
round_is l es =
    rw (each_slots (mark_ahead es) l (turns_from idle es), only_slots l (turns_from idle es), slots_new idle es, fits_is (new idle es) l (mark_ahead es))

-- ---- the pass

abbrev Ok : Running → Type 0
Ok idle = Unit {0}
Ok (runs (turn s p a)) = (p ≤ 5) × (a ≤ 4)

moved : (b i w f r : Bool) → b && (i && (w && (f && r))) ≡ i && (w && ((b && f) && r))
moved true i w f r = refl
moved false true true f r = refl
moved false true false f r = refl
moved false false w f r = refl

capped : (b i w f r : Bool) → (w ≡ true → b ≡ true) → b && (i && (w && (f && r))) ≡ i && (w && (f && r))
capped true i w f r h = refl
capped false i true f r h = absurd (never_both false (h refl) refl)
capped false true false f r h = refl
capped false false false f r h = refl

capped_in : (e b i w f r : Bool) → (w ≡ true → b ≡ true) → e && (b && (i && (w && (f && r)))) ≡ (e && i) && (w && (f && r))
capped_in true b i w f r h = capped b i w f r h
capped_in false b i w f r h = refl

ended : (e b i w f r : Bool) → e && (b && (i && (w && (f && r)))) ≡ (e && i) && ((b && w) && (f && r))
ended true true i w f r = refl
ended true false true w f r = refl
ended true false false w f r = refl
ended false b i w f r = refl

assoc : (i w f r : Bool) → i && (w && (f && r)) ≡ (i && (w && f)) && r
assoc true true f r = refl
assoc true false f r = refl
assoc false w f r = refl

first_within : (s p a : ℕ) (ts : List Turn) → (p ≤ 5) × (a ≤ 4) → within (turn s p a ∷ ts) ≡ within ts
first_within s p a ts h = rw (le-leb p 5 h.0, le-leb a 4 h.1)

last_within : (s p a : ℕ) (ts : List Turn) → p ≤ 5 → within (turn s p (suc a) ∷ ts) ≡ ltb a 4 && within ts
last_within s p a ts h = rw (le-leb p 5 h) (by (ltb a 4) refl)
  where
    by : (b : Bool) → ltb a 4 ≡ b → leb (suc a) 4 && within ts ≡ b && within ts
    by true e = let q = ltb-true a 4 e in rw (le-leb (suc a) 4 (omega arith))
    by false e = let q = ltb-false a 4 e in rw (lt-leb (suc a) 4 (omega arith))

end_within : (r : Running) → Ok r → within (end_of r) ≡ true
end_within idle h = refl
end_within (runs (turn s p a)) h = first_within s p a [] h

-- what the pass says, sentence by sentence
abbrev Says : List ℕ → Running → List Entry → Type 0
Says due r es = watched due r es ≡ inside_from r es && (within (turns_from r es) && (fits due (new r es) (mark_ahead es) && rounds_ok es))

says_mark : (due l : List ℕ) (r : Running) (es : List Entry) → Ok r → Says l idle es → Says due r (mark l ∷ es)
unfolding watched turns_from inside_from new rounds_ok
says_mark due l r es ok ih =
    rw (end_within r ok)
    (ap (λ (b : Bool). is_none due && b)
    (ih ∙ assoc (inside_from idle es) (within (turns_from idle es)) (fits l (new idle es) (mark_ahead es)) (rounds_ok es) ∙ ap (λ (b : Bool). b && rounds_ok es) (sym (round_is l es))))

says_poll : (due : List ℕ) (x s p a : ℕ) (es : List Entry) (b : Bool) → (p ≤ 5) × (a ≤ 4)
    → (suc p ≤ 5 → Says due (runs (turn s (suc p) a)) es) → Says (without x due) (begun x) es
    → cond b (ltb p 5 && watched due (runs (turn s (suc p) a)) es) (has x due && watched (without x due) (begun x) es)
    ≡ cond b (inside_from (runs (turn s (suc p) a)) es) (inside_from (begun x) es)
    && (within (cond b (turns_from (runs (turn s (suc p) a)) es) (turn s p a ∷ turns_from (begun x) es))
    && (fits due (cond b (new (runs (turn s (suc p) a)) es) (x ∷ new (begun x) es)) (mark_ahead es) && rounds_ok es))
says_poll due x s p a es true h f g = by (ltb p 5) refl
  where
    i : Bool
    i = inside_from (runs (turn s (suc p) a)) es

    w : Bool
    w = within (turns_from (runs (turn s (suc p) a)) es)

    z : Bool
    z = fits due (new (runs (turn s (suc p) a)) es) (mark_ahead es)

    by : (t : Bool) → ltb p 5 ≡ t → t && watched due (runs (turn s (suc p) a)) es ≡ i && (w && (z && rounds_ok es))
    by true e = f (let q = ltb-true p 5 e in omega arith)
    by false e =
        capped false i w z (rounds_ok es) (λ q. absurd (let u = few s (suc p) a es q in let v = ltb-false p 5 e in omega arith))
says_poll due x s p a es false h f g =
    rw (first_within s p a (turns_from (begun x) es) h, g)
    (moved (has x due) (inside_from (begun x) es) (within (turns_from (begun x) es)) (fits (without x due) (new (begun x) es) (mark_ahead es)) (rounds_ok es))

says_pollack : (due : List ℕ) (x s p a : ℕ) (es : List Entry) → (p ≤ 5) × (a ≤ 4) → (suc a ≤ 4 → Says due (runs (turn s p (suc a))) es)
    → eqb x s && (ltb a 4 && watched due (runs (turn s p (suc a))) es)
    ≡ (eqb x s && inside_from (runs (turn s p (suc a))) es)
    && (within (turns_from (runs (turn s p (suc a))) es) && (fits due (new (runs (turn s p (suc a))) es) (mark_ahead es) && rounds_ok es))
says_pollack due x s p a es h f = by (ltb a 4) refl
  where
    i : Bool
    i = inside_from (runs (turn s p (suc a))) es

    w : Bool
    w = within (turns_from (runs (turn s p (suc a))) es)

    z : Bool
    z = fits due (new (runs (turn s p (suc a))) es) (mark_ahead es)

    by : (t : Bool) → ltb a 4 ≡ t → eqb x s && (t && watched due (runs (turn s p (suc a))) es) ≡ (eqb x s && i) && (w && (z && rounds_ok es))
    by true e =
        rw (f (let q = ltb-true a 4 e in omega arith)) (capped_in (eqb x s) true i w z (rounds_ok es) (λ q. refl))
    by false e =
        capped_in (eqb x s) false i w z (rounds_ok es) (λ q. absurd (let u = few s p (suc a) es q in let v = ltb-false a 4 e in omega arith))

says : (due : List ℕ) (r : Running) (es : List Entry) → Ok r → Says due r es
unfolding watched turns_from inside_from new rounds_ok
says due idle [] h = refl
says due (runs (turn s p a)) [] h = rw (first_within s p a [] h)
says due r (mark l ∷ es) h = says_mark due l r es h (says l idle es tt)
says due idle (poll x ∷ es) h =
    rw (says (without x due) (begun x) es (omega arith, omega arith))
    (moved (has x due) (inside_from (begun x) es) (within (turns_from (begun x) es)) (fits (without x due) (new (begun x) es) (mark_ahead es)) (rounds_ok es))
says due (runs (turn s p a)) (poll x ∷ es) h =
    says_poll due x s p a es (eqb x s) h (λ q. says due (runs (turn s (suc p) a)) es (q, h.1)) (says (without x due) (begun x) es (omega arith, omega arith))
says due idle (pollack x ∷ es) h = refl
says due (runs (turn s p a)) (pollack x ∷ es) h = says_pollack due x s p a es h (λ q. says due (runs (turn s p (suc a))) es (h.0, q))
says due idle (ack x ∷ es) h = refl
says due (runs (turn s p a)) (ack x ∷ es) h =
    rw (last_within s p a (turns_from idle es) h.0, says due idle es tt)
    (ended (eqb x s) (ltb a 4) (inside_from idle es) (within (turns_from idle es)) (fits due (new idle es) (mark_ahead es)) (rounds_ok es))

-- the one pass says what `accepted` says
pub exact : (es : List Entry) → watched [] idle es ≡ accepted es
exact es =
    says [] idle es tt
    ∙ assoc (inside_from idle es) (within (turns_from idle es)) (fits [] (new idle es) (mark_ahead es)) (rounds_ok es)
    ∙ ap (λ (b : Bool). b && rounds_ok es) (sym (round_is [] es))
