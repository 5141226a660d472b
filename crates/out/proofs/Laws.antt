-- Words stored one after the other, as far as the output goes: two writers compose, a loop of writers, what a host reads back.
-- Assumes nothing.
use mathlib.Core.Path.{◌≡◌, refl, sym, ap, ◌∙◌}
use mathlib.Core.Bool.{Bool, true, false, cond}
use mathlib.Core.List.{List, [], ◌∷◌, ◌++◌, append_assoc, append-nil}
use Prim.Native.Nat.{ℕ, zero, suc, ◌+◌, ◌≤◌, ◌<◌}
use native.Mathlib.Nat.{add-zero, zero-add}
use native.Mathlib.Numerals.{add-one}
use native.Mathlib.Omega.{arith}
use lib.Dec.{ltb}
use lib.ListN.{length, take, drop, set, length-set, length-append}
use lib.Seq.{sets, sets-eq, length-sets, set_out, take_at, drop_at}
use borrow.Author.Tests.{ltb-true, ltb-false, lt-ltb, le-ltb}
use Rattle.out.specs.declared.Output.{Output}
use Rattle.out.specs.Encode.{after, Wrote}
use Rattle.out.specs.Outputs.{Writes}

-- ### The place after k words

module _ (n : ℕ) where
  after_step : (i k : ℕ) → after n i (suc k) ≡ after n (cond (ltb i n) (i + 1) i) k
  unfolding after
  after_step i k = refl

  pub after_add : (i j k : ℕ) → after n i (j + k) ≡ after n (after n i j) k
  unfolding after
  after_add i zero k = rw zero-add
  after_add i (suc j) k =
      let e : suc j + k ≡ suc (j + k) = omega arith in
      rw e (after_add (cond (ltb i n) (i + 1) i) j k)

  -- past the end it stays
  pub after_past : (i k : ℕ) → n ≤ i → after n i k ≡ i
  unfolding after
  after_past i zero h = refl
  after_past i (suc k) h = rw (le-ltb i n h) (after_past i k h)

  -- where all fits it goes on
  pub after_room : (i k : ℕ) → i + k ≤ n → after n i k ≡ i + k
  unfolding after
  after_room i zero h = sym (add-zero i)
  after_room i (suc k) h =
      let p : i < n = omega arith in
      rw (lt-ltb i n p) (after_room (i + 1) k (omega arith) ∙ omega arith)

  most_by : (i k : ℕ) (t : Bool) → ltb i n ≡ t → i ≤ n → ((j : ℕ) → j ≤ n → after n j k ≤ n) → after n (cond t (i + 1) i) k ≤ n
  most_by i k true e h ih = ih (i + 1) (omega (arith, ltb-true i n e))
  most_by i k false e h ih = ih i h

  pub after_most : (i k : ℕ) → i ≤ n → after n i k ≤ n
  unfolding after
  after_most i zero h = h
  after_most i (suc k) h = most_by i k (ltb i n) refl h (λ j. after_most j k)

-- ### Two writers

sets_past : (l : List ℕ) (i : ℕ) (vs : List ℕ) → length l ≤ i → sets l i vs ≡ l
sets_past l i [] h = refl
sets_past l i (a ∷ vs) h = rw (set_out l i a h) (sets_past l (suc i) vs (omega arith))

sets_by : (l : List ℕ) (i a : ℕ) (vs ws : List ℕ) (t : Bool) → ltb i (length l) ≡ t
    → sets (set l i a) (suc i) (vs ++ ws) ≡ sets (sets (set l i a) (suc i) vs) (after (length l) (suc i) (length vs)) ws
    → sets (set l i a) (suc i) (vs ++ ws) ≡ sets (sets (set l i a) (suc i) vs) (after (length l) (cond t (i + 1) i) (length vs)) ws
sets_by l i a vs ws true e ih = rw (add-one i) ih
sets_by l i a vs ws false e ih =
    let h : length l ≤ i = ltb-false i (length l) e in
    let g : length l ≤ suc i = omega arith in
    rw (set_out l i a h, sets_past l (suc i) (vs ++ ws) g, sets_past l (suc i) vs g, after_past (length l) i (length vs) h) (sym (sets_past l i ws h))

sets_after : (l : List ℕ) (i : ℕ) (vs ws : List ℕ) → sets l i (vs ++ ws) ≡ sets (sets l i vs) (after (length l) i (length vs)) ws
unfolding after
sets_after l i [] ws = refl
sets_after l i (a ∷ vs) ws =
    sets_by l i a vs ws (ltb i (length l)) refl
    (sets_after (set l i a) (suc i) vs ws ∙ ap (λ (n : ℕ). sets (sets (set l i a) (suc i) vs) (after n (suc i) (length vs)) ws) (length-set l i a))

module _ {l m : List ℕ} {i j : ℕ} {vs : List ℕ} (p : Wrote l i vs m j) where
  -- the output keeps its length
  pub wrote_length : length m ≡ length l
  wrote_length = ap length p.out ∙ length-sets l i vs

  -- a writer after another, which began where the first ended
  pub then : {r : List ℕ} {k : ℕ} {ws : List ℕ} → Wrote m j ws r k → Wrote l i (vs ++ ws) r k
  then {r} {k} {ws} q = record {
    out = q.out ∙ rw (p.out, p.end) (sym (sets_after l i vs ws));
    end = q.end ∙ rw (wrote_length, p.end, length-append vs ws) (sym (after_add (length l) i (length vs) (length ws)));
  }

  -- where all fits
  pub wrote_end : i + length vs ≤ length l → j ≡ i + length vs
  wrote_end h = p.end ∙ after_room (length l) i (length vs) h

  pub wrote_most : i ≤ length l → j ≤ length l
  wrote_most h = rw p.end (after_most (length l) i (length vs) h)

-- a writer that writes nothing
pub wrote_none : (l : List ℕ) (i : ℕ) → Wrote l i [] l i
unfolding after
wrote_none l i = record { out = refl; end = refl }

-- a word, where there is room for it, and where there is none
module _ (l : List ℕ) (i w : ℕ) where
  pub word_in : i < length l → Wrote l i (w ∷ []) (set l i w) (i + 1)
  unfolding after
  word_in h = record { out = refl; end = rw (lt-ltb i (length l) h) }

  pub word_past : length l ≤ i → Wrote l i (w ∷ []) l i
  unfolding after
  word_past h = record { out = sym (set_out l i w h); end = rw (le-ltb i (length l) h) }

-- the same words, said otherwise
pub wrote_as : {l m : List ℕ} {i j : ℕ} {vs ws : List ℕ} → Wrote l i vs m j → vs ≡ ws → Wrote l i ws m j
wrote_as p e = rw e at p

-- what a host reads: the words that were written, and behind them the output as it was
pub read_back : {l vs m : List ℕ} {j : ℕ} → Wrote l 0 vs m j → length vs ≤ length l → (take j m ≡ vs) × (drop j m ≡ drop j l)
read_back {l} {vs} {m} {j} w h =
    let e : m ≡ vs ++ drop (0 + length vs) l = w.out ∙ sets-eq vs l 0 (omega arith) in
    let z : j ≡ 0 + length vs = wrote_end w (omega arith) in
    let n : length vs ≡ j = omega arith in
    (ap (take j) e ∙ take_at vs (drop (0 + length vs) l) j n, ap (drop j) e ∙ drop_at vs (drop (0 + length vs) l) j n ∙ rw (← z))

-- ### A loop of writers: of all the words, the rest is still to be written

pub record Still (l : List ℕ) (i : ℕ) (all : List ℕ) (m : List ℕ) (j : ℕ) (rest : List ℕ) : Type 0 where
  pub done : List ℕ
  pub whole : all ≡ done ++ rest
  pub wrote : Wrote l i done m j

pub still_start : (l : List ℕ) (i : ℕ) (all : List ℕ) → Still l i all l i all
still_start l i all = record { done = []; whole = refl; wrote = wrote_none l i }

pub still_on : {l m r : List ℕ} {i j k : ℕ} {all rest ws more : List ℕ} → Still l i all m j rest → rest ≡ ws ++ more → Wrote m j ws r k → Still l i all r k more
still_on {ws = ws} {more = more} s e w = record {
  done = s.done ++ ws;
  whole = s.whole ∙ rw e (sym (append_assoc s.done ws more));
  wrote = then s.wrote w;
}

pub still_end : {l m : List ℕ} {i j : ℕ} {all rest : List ℕ} → Still l i all m j rest → rest ≡ [] → Wrote l i all m j
still_end s e = wrote_as s.wrote (sym (s.whole ∙ rw e (append-nil s.done)))

-- ### An output

-- one call after another
pub writes_then : {o m r : Output} {vs ws : List ℕ} → Writes o vs m → Writes m ws r → Writes o (vs ++ ws) r
writes_then p q = record { same = q.same ∙ p.same; wrote = then p.wrote q.wrote }

-- a call that writes nothing
pub writes_none : (o : Output) → Writes o [] o
writes_none o = record { same = refl; wrote = wrote_none o.words.now o.at }

-- the same words, said otherwise
pub writes_as : {o m : Output} {vs ws : List ℕ} → Writes o vs m → vs ≡ ws → Writes o ws m
writes_as p e = record { same = p.same; wrote = wrote_as p.wrote e }

-- what stands in the words that were lent, r, once the output is not used any more
pub writes_back : {o m : Output} {ws r : List ℕ} → Writes o ws m → (o.words.ghost_name ≡ m.words.ghost_name → r ≡ m.words.now) → Wrote o.words.now o.at ws r m.at
writes_back {o} {m} {ws} {r} p e = let k = e (sym p.same) in rw k p.wrote

-- a loop of calls: of all the words, the rest is still to be written
pub record StillWrites (o : Output) (all : List ℕ) (m : Output) (rest : List ℕ) : Type 0 where
  pub same : m.words.ghost_name ≡ o.words.ghost_name
  pub still : Still o.words.now o.at all m.words.now m.at rest

pub writes_start : (o : Output) (all : List ℕ) → StillWrites o all o all
writes_start o all = record { same = refl; still = still_start o.words.now o.at all }

pub writes_on : {o m r : Output} {all rest ws more : List ℕ} → StillWrites o all m rest → rest ≡ ws ++ more → Writes m ws r → StillWrites o all r more
writes_on s e w = record { same = w.same ∙ s.same; still = still_on s.still e w.wrote }

pub writes_end : {o m : Output} {all rest : List ℕ} → StillWrites o all m rest → rest ≡ [] → Writes o all m
writes_end s e = record { same = s.same; wrote = still_end s.still e }
