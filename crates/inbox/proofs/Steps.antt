-- What the code of a cell does in one step, as the definitions have it. Assumes nothing.
use mathlib.Core.Bool.{Bool, true, false, cond}
use mathlib.Core.List.{List}
use mathlib.Core.Logic.{⊎_elim}
use mathlib.Core.Path.{◌≡◌, refl, sym, ap, ◌∙◌, subst}
use Prim.Native.Nat.{ℕ, zero, suc, ◌+◌, ◌-◌, ◌≤◌, ◌<◌, zero-le}
use native.Mathlib.Omega.{arith}
use lib.Dec.{ltb}
use lib.ListN.{length, get_or, set, take, drop, length-set, length-drop, get_or-replicate}
use lib.Seq.{paste, get_or-set_same, get_or-set_other, length-take-le, take_all}
use borrow.Author.Tests.{lt-ltb, le-ltb, le-leb, lt-leb, eq-eqb, ne_eqb}
use Rattle.bits.proofs.Lists.{eq_or_not}
use Rattle.inbox.specs.declared.cell.Cell.{Cell}
use Rattle.inbox.specs.Cells.{Held, held, offset, size, place, grow, rest, settle, store, await, accept, place_at, free_place, next_place}
use Rattle.inbox.specs.Messages.{empty_cell, Fits}
use Rattle.inbox.proofs.Search.{Goes, next_finds}

-- the same places, joined up to e
abbrev pub grown_to : Cell → ℕ → Cell
grown_to c e = record { joined = e; offsets = c.offsets; lengths = c.lengths }

pub grown_fits : (c : Cell) (e : ℕ) → Fits c → e ≤ 2048 → Fits (grown_to c e)
grown_fits c e f h = record { offs = f.offs; lens = f.lens; joined = h; ends = f.ends; short = f.short }

pub goes_next : (c : Cell) → next_place c < 16 → Goes c (next_place c)
goes_next c a = ⊎_elim (λ q. absurd (omega arith)) (λ w. w.1) (next_finds 16 c 0 16 0)

pub empty_fits : Fits empty_cell
empty_fits =
    record {
      offs = refl;
      lens = refl;
      joined = zero-le;
      ends = λ k a. let z = get_or-replicate {A = ℕ} 16 k 0 0 a in omega arith;
      short = λ k a. let z = get_or-replicate {A = ℕ} 16 k 0 0 a in omega arith;
    }

-- ---- settling

pub settle_go : (n : ℕ) (h : Held) → ltb (next_place h.cell) 16 ≡ true
    → settle (suc n) h ≡ settle n (grow h (rest h (next_place h.cell)))
unfolding settle
settle_go n h e = ap (λ (t : Bool). cond t (settle n (grow h (rest h (next_place h.cell)))) h) e

pub settle_stop : (n : ℕ) (h : Held) → ltb (next_place h.cell) 16 ≡ false → settle n h ≡ h
unfolding settle
settle_stop zero h e = refl
settle_stop (suc n) h e = ap (λ (t : Bool). cond t (settle n (grow h (rest h (next_place h.cell)))) h) e

-- bs of length n, joined
pub grow_by : (c : Cell) (bs s : List ℕ) (n e : ℕ) → length s ≡ n → c.joined + n ≡ e
    → grow (held c bs) s ≡ held (grown_to c e) (paste bs c.joined s n)
unfolding grow
grow_by c bs s n e l q =
    ap (λ (x : ℕ). held (grown_to c (c.joined + x)) (paste bs c.joined s x)) l
    ∙ ap (λ (x : ℕ). held (grown_to c x) (paste bs c.joined s n)) q

pub goes_at : (c : Cell) (k : ℕ) → k ≡ next_place c → k < 16 → Goes c k
goes_at c k q a = subst (λ (x : ℕ). Goes c x) (sym q) (goes_next c (omega arith))

-- a turn of the code's loop: what is joined, and what is left to do
module _ (c : Cell) (bs : List ℕ) (k : ℕ) (short : size c k < 256) (room : 6144 ≤ length bs) (q : k ≡ next_place c) (a : k < 16) where
  rest_long : (e : ℕ) → e ≡ offset c k + size c k
      → length (take (e - c.joined) (drop (place k + (c.joined - offset c k)) bs)) ≡ e - c.joined
  rest_long e z =
      let g = goes_at c k q a in
      let d = length-drop (place k + (c.joined - offset c k)) bs in
      length-take-le _ _ (omega arith)

  turn : (n e : ℕ) → e ≡ offset c k + size c k
      → settle (suc n) (held c bs)
      ≡ settle n (held (grown_to c e) (paste bs c.joined (take (e - c.joined) (drop (place k + (c.joined - offset c k)) bs)) (e - c.joined)))
  turn n e z =
      let g = goes_at c k q a in
      settle_go n (held c bs) (lt-ltb (next_place c) 16 (omega arith))
      ∙ ap (λ (x : ℕ). settle n (grow (held c bs) (rest (held c bs) x))) (sym q)
      ∙ ap (λ (x : ℕ). settle n (grow (held c bs) (take (x - c.joined) (drop (place k + (c.joined - offset c k)) bs)))) (sym z)
      ∙ ap (settle n) (grow_by c bs (take (e - c.joined) (drop (place k + (c.joined - offset c k)) bs)) (e - c.joined) e (rest_long e z) (omega arith))

  pub settle_turn : (n j o e : ℕ) → 0 < n → j ≡ c.joined → o ≡ offset c k → e ≡ offset c k + size c k
      → settle n (held c bs)
      ≡ settle (n - 1) (held (grown_to c e) (paste bs j (take (e - j) (drop (place k + (j - o)) bs)) (e - j)))
  settle_turn n j o e h y w z =
      let m : n ≡ suc (n - 1) = omega arith in
      ap (λ (x : ℕ). settle x (held c bs)) m
      ∙ turn (n - 1) e z
      ∙ ap (λ (x : ℕ). settle (n - 1) (held (grown_to c e) (paste bs x (take (e - x) (drop (place k + (x - offset c k)) bs)) (e - x)))) (sym y)
      ∙ ap (λ (x : ℕ). settle (n - 1) (held (grown_to c e) (paste bs j (take (e - j) (drop (place k + (j - x)) bs)) (e - j)))) (sym w)

-- ---- a piece put to wait

abbrev pub stored : Cell → ℕ → ℕ → ℕ → Cell
stored c k o n = record { joined = c.joined; offsets = set c.offsets k o; lengths = set c.lengths k n }

pub stored_fits : (c : Cell) (k o n : ℕ) → Fits c → k < 16 → o + n ≤ 2048 → n ≤ 255 → Fits (stored c k o n)
stored_fits c k o n f a h s =
    let eo : length c.offsets ≡ 16 = f.offs in
    let el : length c.lengths ≡ 16 = f.lens in
    let so : get_or (set c.offsets k o) k 0 ≡ o = get_or-set_same c.offsets k o 0 (omega arith) in
    let sl : get_or (set c.lengths k n) k 0 ≡ n = get_or-set_same c.lengths k n 0 (omega arith) in
    record {
      offs = length-set c.offsets k o ∙ f.offs;
      lens = length-set c.lengths k n ∙ f.lens;
      joined = f.joined;
      ends = λ i b.
          ⊎_elim (λ q. subst (λ (x : ℕ). get_or (set c.offsets k o) x 0 + get_or (set c.lengths k n) x 0 ≤ 2048) (sym q) (omega arith))
          (λ z.
          let to = get_or-set_other c.offsets k i o 0 z in
          let tl = get_or-set_other c.lengths k i n 0 z in
          let e = f.ends i b in
          omega arith)
          (eq_or_not i k);
      short = λ i b.
          ⊎_elim (λ q. subst (λ (x : ℕ). get_or (set c.lengths k n) x 0 ≤ 255) (sym q) (omega arith))
          (λ z. let tl = get_or-set_other c.lengths k i n 0 z in let e = f.short i b in omega arith)
          (eq_or_not i k);
    }

module _ (c : Cell) (bs : List ℕ) (o : ℕ) (p : List ℕ) where
  pub await_longer : (i : ℕ) → i ≡ place_at c o → i < 16 → size c i < length p → await (held c bs) o p ≡ store (held c bs) i o p
  unfolding await
  await_longer i q a h =
      let r : await (held c bs) o p ≡ cond (ltb i 16) (cond (ltb (size c i) (length p)) (store (held c bs) i o p) (held c bs)) (cond (ltb (free_place c) 16) (store (held c bs) (free_place c) o p) (held c bs)) =
      ap (λ (x : ℕ). cond (ltb x 16) (cond (ltb (size c x) (length p)) (store (held c bs) x o p) (held c bs)) (cond (ltb (free_place c) 16) (store (held c bs) (free_place c) o p) (held c bs))) (sym q) in
      r ∙ simp (lt-ltb _ _ a, lt-ltb _ _ h)

  pub await_shorter : (i : ℕ) → i ≡ place_at c o → i < 16 → length p ≤ size c i → await (held c bs) o p ≡ held c bs
  unfolding await
  await_shorter i q a h =
      let r : await (held c bs) o p ≡ cond (ltb i 16) (cond (ltb (size c i) (length p)) (store (held c bs) i o p) (held c bs)) (cond (ltb (free_place c) 16) (store (held c bs) (free_place c) o p) (held c bs)) =
      ap (λ (x : ℕ). cond (ltb x 16) (cond (ltb (size c x) (length p)) (store (held c bs) x o p) (held c bs)) (cond (ltb (free_place c) 16) (store (held c bs) (free_place c) o p) (held c bs))) (sym q) in
      r ∙ simp (lt-ltb _ _ a, le-ltb _ _ h)

  pub await_free : (i j : ℕ) → i ≡ place_at c o → 16 ≤ i → j ≡ free_place c → j < 16 → await (held c bs) o p ≡ store (held c bs) j o p
  unfolding await
  await_free i j q a r h =
      let m : ltb (place_at c o) 16 ≡ false = le-ltb (place_at c o) 16 (omega arith) in
      let u : ltb (free_place c) 16 ≡ true = lt-ltb (free_place c) 16 (omega arith) in
      let e : await (held c bs) o p ≡ store (held c bs) (free_place c) o p = simp (m, u) in
      e ∙ ap (λ (x : ℕ). store (held c bs) x o p) (sym r)

  pub await_full : (i j : ℕ) → i ≡ place_at c o → 16 ≤ i → j ≡ free_place c → 16 ≤ j → await (held c bs) o p ≡ held c bs
  unfolding await
  await_full i j q a r h =
      let m : ltb (place_at c o) 16 ≡ false = le-ltb (place_at c o) 16 (omega arith) in
      let u : ltb (free_place c) 16 ≡ false = le-ltb (free_place c) 16 (omega arith) in
      simp (m, u)

  -- ---- a piece taken
  pub accept_old : o + length p ≤ c.joined → accept (held c bs) o p ≡ held c bs
  unfolding accept
  accept_old h = simp (le-leb _ _ h)

  pub accept_empty : c.joined < o + length p → length p ≡ 0 → accept (held c bs) o p ≡ held c bs
  unfolding accept
  accept_empty h z = simp (lt-leb _ _ h, eq-eqb _ _ z)

  pub accept_join : c.joined < o + length p → (length p ≡ 0 → ⊥) → o ≤ c.joined
      → accept (held c bs) o p ≡ settle 2048 (grow (held c bs) (drop (c.joined - o) p))
  unfolding accept
  accept_join h z l = simp (lt-leb _ _ h, ne_eqb _ _ z, le-leb _ _ l)

  pub accept_wait : c.joined < o + length p → (length p ≡ 0 → ⊥) → c.joined < o → accept (held c bs) o p ≡ await (held c bs) o p
  unfolding accept
  accept_wait h z l = simp (lt-leb _ _ h, ne_eqb _ _ z, lt-leb _ _ l)

  -- as the code has it: j is the joined end, s the piece's start
  pub join_step : (j s : ℕ) → j ≡ c.joined → s ≡ o → j < s + length p → (length p ≡ 0 → ⊥) → s ≤ j
      → accept (held c bs) o p
      ≡ settle 2048 (held (grown_to c (s + length p)) (paste bs j (take (length p - (j - s)) (drop (j - s) p)) (length (take (length p - (j - s)) (drop (j - s) p)))))
  join_step j s y w h z l =
      let n = length-drop (c.joined - o) p in
      let m = length-drop (j - s) p in
      accept_join (omega arith) z (omega arith)
      ∙ ap (settle 2048)
      (grow_by c bs (drop (c.joined - o) p) (length (drop (c.joined - o) p)) (s + length p) refl (omega arith)
      ∙ ap (λ (x : ℕ). held (grown_to c (s + length p)) (paste bs x (drop (x - o) p) (length (drop (x - o) p)))) (sym y)
      ∙ ap (λ (x : ℕ). held (grown_to c (s + length p)) (paste bs j (drop (j - x) p) (length (drop (j - x) p)))) (sym w)
      ∙ ap (λ (x : List ℕ). held (grown_to c (s + length p)) (paste bs j x (length x))) (sym (take_all (length p - (j - s)) (drop (j - s) p) (omega arith))))
