-- One message keeps its invariant through every step of the sender: cut again, swept, cut anew, stale, acknowledged; and once nothing of it is left to send or in flight, every byte
-- is covered. Assumes nothing.
use mathlib.Core.Bool.{Bool, false}
use mathlib.Core.List.{List, [], ◌∷◌, ◌++◌, map}
use mathlib.Core.Logic.{◌⊎◌, inl, inr, ⊎_elim}
use mathlib.Core.Path.{◌≡◌, sym, subst}
use Prim.Native.Nat.{ℕ, zero, suc, ◌+◌, ◌-◌, ◌≤◌, ◌<◌}
use native.Mathlib.Omega.{arith}
use lib.Dec.{eqb, ltb}
use lib.ListN.{length}
use borrow.Author.Tests.{eqb-true, ltb-false, lt-ltb, le-ltb}
use Rattle.bits.proofs.Lists.{cond_true, cond_false, cases, le_or_lt, or_false}
use Rattle.words.specs.Words.{least}
use Rattle.outbox.specs.Outbox.{Piece, OutMsg, with_inflight, lens, cut_up, recut, recut_one, recut_in, same, unstale, staled, swept, stale_in, remove, some, is_new, unfinished, new_pieces, cut_new}
use Rattle.sending.specs.Tiles.{Tiled, Tight, AllTight, Sound}
use Rattle.outbox.proofs.Passes.{least_left, least_pos}

-- ### bytes from x to end
module _ (C : ℕ → Type 0) where
  -- what is covered before them
  pub tiled_gap : (x y end : ℕ) (ps : List Piece) → x ≤ y → ((k : ℕ) → x ≤ k → k < y → C k) → Tiled C y end ps → Tiled C x end ps
  tiled_gap x y end [] h g t = (omega arith, λ k a b. ⊎_elim (λ l. t.1 k l b) (λ l. g k a l) (le_or_lt y k))
  tiled_gap x y end (p ∷ ps) h g t = (omega arith, t.1, (λ k a b. ⊎_elim (λ l. t.2 k l b) (λ l. g k a l) (le_or_lt y k)), t.3)

  pub tiled_join : (x mid end : ℕ) (ps qs : List Piece) → Tiled C x mid ps → Tiled C mid end qs → Tiled C x end (ps ++ qs)
  tiled_join x mid end [] qs t u = tiled_gap x mid end qs t.0 t.1 u
  tiled_join x mid end (p ∷ ps) qs t u = (t.0, t.1, t.2, tiled_join (p.off + p.len) mid end ps qs t.3 u)

  one_more : (n max y e end : ℕ) (st : Bool) (qs : List Piece) → Tiled C y end (record { off = y; len = least (e - y) max; stale = st } ∷ cut_up n max (y + least (e - y) max) e st ++ qs) → y < e → Tiled C y end (cut_up (suc n) max y e st ++ qs)
  unfolding cut_up
  one_more n max y e end st qs t h =
      subst (λ (l : List Piece). Tiled C y end (l ++ qs)) (sym (cond_true (ltb y e) (record { off = y; len = least (e - y) max; stale = st } ∷ cut_up n max (y + least (e - y) max) e st) [] (lt-ltb y e h))) t

  no_more_lem : (n max y e end : ℕ) (st : Bool) (qs : List Piece) → Tiled C y end qs → e ≤ y → Tiled C y end (cut_up n max y e st ++ qs)
  unfolding cut_up
  no_more_lem zero max y e end st qs t h = t
  no_more_lem (suc n) max y e end st qs t h =
      subst (λ (l : List Piece). Tiled C y end (l ++ qs)) (sym (cond_false (ltb y e) (record { off = y; len = least (e - y) max; stale = st } ∷ cut_up n max (y + least (e - y) max) e st) [] (le-ltb y e h))) t

  -- the bytes from y to e cut into parts
  tiled_cut : (n max y e end : ℕ) (st : Bool) (qs : List Piece) → 0 < max → y ≤ e → e - y ≤ n → Tiled C e end qs → Tiled C y end (cut_up n max y e st ++ qs)
  tiled_cut zero max y e end st qs p h f t = let z : e ≡ y = omega arith in no_more_lem 0 max y e end st qs (subst (λ (x : ℕ). Tiled C x end qs) z t) (omega arith)
  tiled_cut (suc n) max y e end st qs p h f t =
      ⊎_elim (λ l. let z : e ≡ y = omega arith in no_more_lem (suc n) max y e end st qs (subst (λ (x : ℕ). Tiled C x end qs) z t) l)
      (λ l.
      let a = least_left (e - y) max in
      let b = least_pos (e - y) max (omega arith) p in
      one_more n max y e end st qs (omega arith, b, (λ k c d. absurd (omega arith)), tiled_cut n max (y + least (e - y) max) e end st qs p (omega arith) (omega arith) t) l)
      (le_or_lt e y)

  pub tiled_recut : (max x end : ℕ) (ps : List Piece) → 0 < max → Tiled C x end ps → Tiled C x end (recut max ps)
  unfolding recut
  tiled_recut max x end [] h t = t
  tiled_recut max x end (p ∷ ps) h t =
      let u = tiled_recut max (p.off + p.len) end ps h t.3 in
      ⊎_elim (λ e.
      subst (λ (l : List Piece). Tiled C x end (l ++ recut max ps)) (sym (cond_true (ltb max p.len) (cut_up p.len max p.off (p.off + p.len) p.stale) (p ∷ []) e))
      (tiled_gap x p.off end (cut_up p.len max p.off (p.off + p.len) p.stale ++ recut max ps) t.0 t.2
      (tiled_cut p.len max p.off (p.off + p.len) end p.stale (recut max ps) h (omega arith) (omega arith) u)))
      (λ e.
      subst (λ (l : List Piece). Tiled C x end (l ++ recut max ps)) (sym (cond_false (ltb max p.len) (cut_up p.len max p.off (p.off + p.len) p.stale) (p ∷ []) e))
      (t.0, t.1, t.2, u))
      (cases (ltb max p.len))

  pub tiled_swept : (st : Bool) (n x end : ℕ) (ps : List Piece) → Tiled C x end ps → Tiled C x end (swept st n ps)
  unfolding swept
  tiled_swept st zero x end ps t = t
  tiled_swept st (suc n) x end [] t = t
  tiled_swept st (suc n) x end (p ∷ ps) t =
      ⊎_elim (λ e.
      subst (λ (l : List Piece). Tiled C x end l) (sym (cond_true (same st p.stale) (unstale p ∷ swept st n ps) (p ∷ swept st (suc n) ps) e)) (t.0, t.1, t.2, tiled_swept st n (p.off + p.len) end ps t.3))
      (λ e.
      subst (λ (l : List Piece). Tiled C x end l) (sym (cond_false (same st p.stale) (unstale p ∷ swept st n ps) (p ∷ swept st (suc n) ps) e)) (t.0, t.1, t.2, tiled_swept st (suc n) (p.off + p.len) end ps t.3))
      (cases (same st p.stale))

  pub tiled_stale : (x end : ℕ) (ps : List Piece) → Tiled C x end ps → Tiled C x end (map staled ps)
  tiled_stale x end [] t = t
  tiled_stale x end (p ∷ ps) t = (t.0, t.1, t.2, tiled_stale (p.off + p.len) end ps t.3)

  -- new pieces from y on
  pub tiled_new : (n max y total : ℕ) → 0 < max → y ≤ total → Tiled C y (y + lens (cut_up n max y total false)) (cut_up n max y total false)
  unfolding cut_up lens
  tiled_new zero max y total p h = (omega arith, λ k a b. absurd (omega arith))
  tiled_new (suc n) max y total p h =
      ⊎_elim (λ l.
      subst (λ (q : List Piece). Tiled C y (y + lens q) q) (sym (cond_false (ltb y total) (record { off = y; len = least (total - y) max; stale = false } ∷ cut_up n max (y + least (total - y) max) total false) [] (le-ltb y total l)))
      (omega arith, λ k a b. absurd (omega arith)))
      (λ l.
      let a = least_left (total - y) max in
      let b = least_pos (total - y) max (omega arith) p in
      let z : y + least (total - y) max + lens (cut_up n max (y + least (total - y) max) total false) ≡ y + (least (total - y) max + lens (cut_up n max (y + least (total - y) max) total false)) = omega arith in
      subst (λ (q : List Piece). Tiled C y (y + lens q) q) (sym (cond_true (ltb y total) (record { off = y; len = least (total - y) max; stale = false } ∷ cut_up n max (y + least (total - y) max) total false) [] (lt-ltb y total l)))
      (omega arith, b, (λ k c d. absurd (omega arith)), subst (λ (e : ℕ). Tiled C (y + least (total - y) max) e (cut_up n max (y + least (total - y) max) total false)) z (tiled_new n max (y + least (total - y) max) total p (omega arith))))
      (le_or_lt total y)

pub new_within : (n max y total : ℕ) → y ≤ total → y + lens (cut_up n max y total false) ≤ total
unfolding cut_up lens
new_within zero max y total h = omega arith
new_within (suc n) max y total h =
    ⊎_elim (λ l. subst (λ (q : List Piece). y + lens q ≤ total) (sym (cond_false (ltb y total) (record { off = y; len = least (total - y) max; stale = false } ∷ cut_up n max (y + least (total - y) max) total false) [] (le-ltb y total l))) (omega arith))
    (λ l.
    let a = least_left (total - y) max in
    let i = new_within n max (y + least (total - y) max) total (omega arith) in
    subst (λ (q : List Piece). y + lens q ≤ total) (sym (cond_true (ltb y total) (record { off = y; len = least (total - y) max; stale = false } ∷ cut_up n max (y + least (total - y) max) total false) [] (lt-ltb y total l))) (omega arith))
    (le_or_lt total y)

-- more bytes covered
pub tiled_more : (C D : ℕ → Type 0) → ((k : ℕ) → C k → D k) → (x end : ℕ) (ps : List Piece) → Tiled C x end ps → Tiled D x end ps
tiled_more C D f x end [] t = (t.0, λ k a b. f k (t.1 k a b))
tiled_more C D f x end (p ∷ ps) t = (t.0, t.1, (λ k a b. f k (t.2 k a b)), tiled_more C D f (p.off + p.len) end ps t.3)

-- ### no piece sent starts inside one in flight
module _ (W : ℕ → ℕ → Type 0) where
  pub tight_join : (ps qs : List Piece) → AllTight W ps → AllTight W qs → AllTight W (ps ++ qs)
  tight_join [] qs t u = u
  tight_join (p ∷ ps) qs t u = (t.0, tight_join ps qs t.1 u)

  -- parts of a piece
  tight_cut : (p : Piece) (n max y e : ℕ) (st : Bool) → Tight W p → p.off ≤ y → e ≤ p.off + p.len → AllTight W (cut_up n max y e st)
  unfolding cut_up
  tight_cut p zero max y e st t a b = tt
  tight_cut p (suc n) max y e st t a b =
      ⊎_elim (λ l. subst (λ (q : List Piece). AllTight W q) (sym (cond_false (ltb y e) (record { off = y; len = least (e - y) max; stale = st } ∷ cut_up n max (y + least (e - y) max) e st) [] (le-ltb y e l))) tt)
      (λ l.
      let c = least_left (e - y) max in
      subst (λ (q : List Piece). AllTight W q) (sym (cond_true (ltb y e) (record { off = y; len = least (e - y) max; stale = st } ∷ cut_up n max (y + least (e - y) max) e st) [] (lt-ltb y e l))) (
        record { only = λ off len w i j. let o = t.only off len w (omega arith) (omega arith) in (omega arith, omega arith) },
        tight_cut p n max (y + least (e - y) max) e st t (omega arith) b,
      ))
      (le_or_lt e y)

  pub tight_recut : (max : ℕ) (ps : List Piece) → AllTight W ps → AllTight W (recut max ps)
  unfolding recut
  tight_recut max [] t = tt
  tight_recut max (p ∷ ps) t =
      tight_join (recut_one max p) (recut max ps)
      (⊎_elim (λ e. subst (λ (l : List Piece). AllTight W l) (sym (cond_true (ltb max p.len) (cut_up p.len max p.off (p.off + p.len) p.stale) (p ∷ []) e)) (tight_cut p p.len max p.off (p.off + p.len) p.stale t.0 (omega arith) (omega arith)))
      (λ e. subst (λ (l : List Piece). AllTight W l) (sym (cond_false (ltb max p.len) (cut_up p.len max p.off (p.off + p.len) p.stale) (p ∷ []) e)) (t.0, tt))
      (cases (ltb max p.len)))
      (tight_recut max ps t.1)

  pub tight_swept : (st : Bool) (n : ℕ) (ps : List Piece) → AllTight W ps → AllTight W (swept st n ps)
  unfolding swept
  tight_swept st zero ps t = t
  tight_swept st (suc n) [] t = t
  tight_swept st (suc n) (p ∷ ps) t =
      ⊎_elim (λ e. subst (λ (l : List Piece). AllTight W l) (sym (cond_true (same st p.stale) (unstale p ∷ swept st n ps) (p ∷ swept st (suc n) ps) e)) (record { only = t.0.only }, tight_swept st n ps t.1))
      (λ e. subst (λ (l : List Piece). AllTight W l) (sym (cond_false (same st p.stale) (unstale p ∷ swept st n ps) (p ∷ swept st (suc n) ps) e)) (t.0, tight_swept st (suc n) ps t.1))
      (cases (same st p.stale))

  pub tight_stale : (ps : List Piece) → AllTight W ps → AllTight W (map staled ps)
  tight_stale [] t = tt
  tight_stale (p ∷ ps) t = (record { only = t.0.only }, tight_stale ps t.1)

  -- new pieces: every piece sent starts before them
  pub tight_new : (n max y total : ℕ) → ((off len : ℕ) → W off len → off < y) → AllTight W (cut_up n max y total false)
  unfolding cut_up
  tight_new zero max y total f = tt
  tight_new (suc n) max y total f =
      ⊎_elim (λ l. subst (λ (q : List Piece). AllTight W q) (sym (cond_false (ltb y total) (record { off = y; len = least (total - y) max; stale = false } ∷ cut_up n max (y + least (total - y) max) total false) [] (le-ltb y total l))) tt)
      (λ l.
      subst (λ (q : List Piece). AllTight W q) (sym (cond_true (ltb y total) (record { off = y; len = least (total - y) max; stale = false } ∷ cut_up n max (y + least (total - y) max) total false) [] (lt-ltb y total l)))
      (record { only = λ off len w i j. absurd (let o = f off len w in omega arith) }, tight_new n max (y + least (total - y) max) total (λ off len w. let o = f off len w in omega arith)))
      (le_or_lt total y)

  pub tight_remove : (off : ℕ) (ps : List Piece) → AllTight W ps → AllTight W (remove off ps)
  unfolding remove
  tight_remove off [] t = tt
  tight_remove off (p ∷ ps) t =
      ⊎_elim (λ e. subst (λ (l : List Piece). AllTight W l) (sym (cond_true (eqb p.off off) ps (p ∷ remove off ps) e)) t.1)
      (λ e. subst (λ (l : List Piece). AllTight W l) (sym (cond_false (eqb p.off off) ps (p ∷ remove off ps) e)) (t.0, tight_remove off ps t.1))
      (cases (eqb p.off off))

  -- the piece at off acknowledged, of which all was kept
  pub tiled_remove : (C : ℕ → Type 0) (off len x end : ℕ) (ps : List Piece) → W off len → ((k : ℕ) → off ≤ k → k < off + len → C k) → AllTight W ps → Tiled C x end ps → Tiled C x end (remove off ps)
  unfolding remove
  tiled_remove C off len x end [] w g a t = t
  tiled_remove C off len x end (p ∷ ps) w g a t =
      ⊎_elim (λ e.
      let z : p.off ≡ off = eqb-true p.off off e in
      let o = a.0.only off len w (omega arith) (omega (arith, t.1)) in
      subst (λ (l : List Piece). Tiled C x end l) (sym (cond_true (eqb p.off off) ps (p ∷ remove off ps) e))
      (tiled_gap C x p.off end ps t.0 t.2 (tiled_gap C p.off (p.off + p.len) end ps (omega arith) (λ k i j. g k (omega arith) (omega (arith, o.1))) t.3)))
      (λ e.
      subst (λ (l : List Piece). Tiled C x end l) (sym (cond_false (eqb p.off off) ps (p ∷ remove off ps) e))
      (t.0, t.1, t.2, tiled_remove C off len (p.off + p.len) end ps w g a.1 t.3))
      (cases (eqb p.off off))

-- ### pieces sent now: those in flight lie apart, so each starts inside itself alone
abbrev pub Has : ℕ → ℕ → List Piece → Type 0
Has off len [] = ⊥
Has off len (p ∷ ps) = ((p.off ≡ off) × (p.len ≡ len)) ⊎ Has off len ps

has_after : (C : ℕ → Type 0) (x end off len : ℕ) (ps : List Piece) → Tiled C x end ps → Has off len ps → x ≤ off
has_after C x end off len [] t h = absurd h
has_after C x end off len (p ∷ ps) t h = ⊎_elim (λ e. omega (arith, e.0, t.0)) (λ e. let i = has_after C (p.off + p.len) end off len ps t.3 e in omega (arith, t.0)) h

tight_past : (C : ℕ → Type 0) (Z : ℕ → ℕ → Type 0) (x end o : ℕ) (ps : List Piece) → o < x → Tiled C x end ps → AllTight Z ps → AllTight (λ off len. (off ≡ o) ⊎ Z off len) ps
tight_past C Z x end o [] h t a = tt
tight_past C Z x end o (p ∷ ps) h t a = (
  record { only = λ off len w i j. ⊎_elim (λ e. absurd (omega (arith, t.0))) (λ v. a.0.only off len v i j) w },
  tight_past C Z (p.off + p.len) end o ps (omega (arith, t.0)) t.3 a.1,
)

pub tight_by : (Z W : ℕ → ℕ → Type 0) → ((off len : ℕ) → W off len → Z off len) → (ps : List Piece) → AllTight Z ps → AllTight W ps
tight_by Z W f [] a = tt
tight_by Z W f (p ∷ ps) a = (record { only = λ off len w. a.0.only off len (f off len w) }, tight_by Z W f ps a.1)

pub tight_sent : (C : ℕ → Type 0) (W : ℕ → ℕ → Type 0) (x end : ℕ) (ps : List Piece) → Tiled C x end ps → AllTight W ps → AllTight (λ off len. W off len ⊎ Has off len ps) ps
tight_sent C W x end [] t a = tt
tight_sent C W x end (p ∷ ps) t a = (
  record {
    only = λ off len w i j.
        ⊎_elim (λ v. a.0.only off len v i j)
        (λ h. ⊎_elim (λ e. (sym e.0, omega (arith, e.1))) (λ e. absurd (let l = has_after C (p.off + p.len) end off len ps t.3 e in omega arith)) h)
        w;
  },
  tight_by (λ off len. (off ≡ p.off) ⊎ (W off len ⊎ Has off len ps)) (λ off len. W off len ⊎ Has off len (p ∷ ps))
      (λ off len w. ⊎_elim (λ v. inr (inl v)) (λ h. ⊎_elim (λ e. inl (sym e.0)) (λ e. inr (inr e)) h) w)
      ps
      (tight_past C (λ off len. W off len ⊎ Has off len ps) (p.off + p.len) end p.off ps (omega (arith, t.1)) t.3 (tight_sent C W (p.off + p.len) end ps t.3 a.1)),
)

-- ### one message
module _ (C : ℕ → Type 0) (W : ℕ → ℕ → Type 0) (m : OutMsg) (s : Sound C W m) where
  pub sound_recut : (max : ℕ) → 0 < max → Sound C W (recut_in max m)
  sound_recut max h = record { fits = s.fits; tiled = tiled_recut C max 0 m.cut m.inflight h s.tiled; tight = tight_recut W max m.inflight s.tight; below = s.below }

  pub sound_sweep : (st : Bool) (n : ℕ) → Sound C W (with_inflight m (swept st n m.inflight))
  sound_sweep st n = record { fits = s.fits; tiled = tiled_swept C st n 0 m.cut m.inflight s.tiled; tight = tight_swept W st n m.inflight s.tight; below = s.below }

  pub sound_stale : Sound C W (stale_in m)
  sound_stale = record { fits = s.fits; tiled = tiled_stale C 0 m.cut m.inflight s.tiled; tight = tight_stale W m.inflight s.tight; below = s.below }

  pub sound_new : (max n : ℕ) → 0 < max → Sound C W (cut_new max n m)
  sound_new max n h = record {
    fits = new_within n max m.cut (length m.bytes) s.fits;
    tiled = tiled_join C 0 m.cut (m.cut + lens (new_pieces max n m)) m.inflight (new_pieces max n m) s.tiled (tiled_new C n max m.cut (length m.bytes) h s.fits);
    tight = tight_join W m.inflight (new_pieces max n m) s.tight (tight_new W n max m.cut (length m.bytes) s.below);
    below = λ off len w. let o = s.below off len w in omega arith;
  }

  -- what goes out now is in flight
  pub sound_sent : Sound C (λ off len. W off len ⊎ (Has off len m.inflight × (off < m.cut))) m
  sound_sent = record {
    fits = s.fits;
    tiled = s.tiled;
    tight = tight_by (λ off len. W off len ⊎ Has off len m.inflight) (λ off len. W off len ⊎ (Has off len m.inflight × (off < m.cut))) (λ off len w. ⊎_elim (λ v. inl v) (λ h. inr h.0) w) m.inflight (tight_sent C W 0 m.cut m.inflight s.tiled s.tight);
    below = λ off len w. ⊎_elim (λ v. s.below off len v) (λ h. h.1) w;
  }

  -- a piece that was sent and kept is acknowledged: D says what is covered with it
  pub sound_ack : (D : ℕ → Type 0) (off len : ℕ) → W off len → ((k : ℕ) → C k → D k) → ((k : ℕ) → off ≤ k → k < off + len → D k) → Sound D W (with_inflight m (remove off m.inflight))
  sound_ack D off len w f g = record {
    fits = s.fits;
    tiled = tiled_remove W D off len 0 m.cut m.inflight w g s.tight (tiled_more C D f 0 m.cut m.inflight s.tiled);
    tight = tight_remove W off m.inflight s.tight;
    below = s.below;
  }

  -- THE KEY: a message with nothing left to send or in flight is covered to the last byte
  pub finished_covered : unfinished m ≡ false → (k : ℕ) → k < length m.bytes → C k
  finished_covered e k h =
      let o = or_false (is_new m) (some m.inflight) e in
      let l = ltb-false m.cut (length m.bytes) o.0 in
      empty m.inflight o.1 s.tiled k (omega arith)
    where
      empty : (ps : List Piece) → some ps ≡ false → Tiled C 0 m.cut ps → (k : ℕ) → k < m.cut → C k
      empty [] q t k b = t.1 k (omega arith) b
      empty (p ∷ ps) q t k b = absurd (let z : ◌≡◌ {A = ℕ} 0 1 = cc in omega arith)

-- a message just posted
pub sound_posted : (C : ℕ → Type 0) (q : ℕ) (bs : List ℕ) → Sound C (λ off len. ⊥) (record { seq = q; bytes = bs; cut = 0; inflight = [] })
sound_posted C q bs = record { fits = omega arith; tiled = (omega arith, λ k a b. absurd (omega arith)); tight = tt; below = λ off len w. absurd w }
