-- The promise of the sending end: the invariant of each message, carried through every call. Assumes nothing.
use mathlib.Core.Bool.{Bool, true, false, cond}
use mathlib.Core.List.{List, [], ◌∷◌, ◌++◌, map}
use mathlib.Core.Logic.{◌⊎◌, inl, inr, ⊎_elim}
use mathlib.Core.Path.{◌≡◌, refl, sym, ap, ◌∙◌, subst}
use Prim.Native.Nat.{ℕ, zero, suc, ◌+◌, ◌-◌, ◌≤◌, ◌<◌}
use native.Mathlib.Omega.{arith}
use lib.Dec.{eqb, leb}
use lib.ListN.{length, get_or, take, drop, length-append, length-drop, get_or-append}
use lib.Seq.{get_or-append_seam, length-take-le}
use borrow.Author.Tests.{eqb-true, le-leb}
use Rattle.bits.proofs.Lists.{cond_true, cond_false, cases, le_or_lt}
use Rattle.bits.specs.Stop.{stop}
use Rattle.inbox.specs.Messages.{framed}
use Rattle.outbox.specs.Outbox.{Piece, OutMsg, Outbox, Sent, with_inflight, sent_piece_of, recut_in, same, unstale, picked, swept, sweep, sweep_out, new_pieces, cut_new, fresh, fresh_out, take_out, Burst, pass_sweep, pass_new, stale_in, remove, retain, acked, unfinished, not_held}
use Rattle.sending.specs.Tiles.{Tiled, Sound}
use Rattle.sending.specs.Runs.{Event, Post, Take, Ack, Stale, Held, Run, none, burst, piece, Is, start, step, Fair, Covered, All, Stays, Leaves, AllFair, AllLeave, Promise}
use Rattle.sending.proofs.Covers.{Has, tiled_more, tight_by, sound_recut, sound_sweep, sound_stale, sound_new, sound_sent, sound_ack, finished_covered}

-- ### lists of messages
pub all_to : (P Q : OutMsg → Type 0) → ((m : OutMsg) → P m → Q m) → (ms : List OutMsg) → All P ms → All Q ms
all_to P Q f [] a = tt
all_to P Q f (m ∷ ms) a = (f m a.0, all_to P Q f ms a.1)

pub all_both : (P Q : OutMsg → Type 0) (ms : List OutMsg) → All P ms → All Q ms → All (λ m. P m × Q m) ms
all_both P Q [] a b = tt
all_both P Q (m ∷ ms) a b = ((a.0, b.0), all_both P Q ms a.1 b.1)

pub all_map : (P : OutMsg → Type 0) (f : OutMsg → OutMsg) → ((m : OutMsg) → P m → P (f m)) → (ms : List OutMsg) → All P ms → All P (map f ms)
all_map P f g [] a = tt
all_map P f g (m ∷ ms) a = (g m a.0, all_map P f g ms a.1)

pub all_join : (P : OutMsg → Type 0) (m : OutMsg) (ms : List OutMsg) → All P ms → P m → All P (ms ++ (m ∷ []))
all_join P m [] a p = (p, tt)
all_join P m (x ∷ ms) a p = (a.0, all_join P m ms a.1 p)

pub all_retain : (P : OutMsg → Type 0) (t : OutMsg → Bool) (ms : List OutMsg) → All P ms → All P (retain t ms)
unfolding retain
all_retain P t [] a = tt
all_retain P t (m ∷ ms) a =
    ⊎_elim (λ e. subst (λ (l : List OutMsg). All P l) (sym (cond_true (t m) (m ∷ retain t ms) (retain t ms) e)) (a.0, all_retain P t ms a.1))
    (λ e. subst (λ (l : List OutMsg). All P l) (sym (cond_false (t m) (m ∷ retain t ms) (retain t ms) e)) (all_retain P t ms a.1)) (cases (t m))

pub all_sweep : (P : OutMsg → Type 0) (st : Bool) → ((n : ℕ) (m : OutMsg) → P m → P (with_inflight m (swept st n m.inflight))) → (n : ℕ) (ms : List OutMsg) → All P ms → All P (sweep st n ms)
unfolding sweep
all_sweep P st g n [] a = tt
all_sweep P st g n (m ∷ ms) a = (g n m a.0, all_sweep P st g (n - length (picked st n m.inflight)) ms a.1)

pub all_fresh : (P : OutMsg → Type 0) (max : ℕ) → ((n : ℕ) (m : OutMsg) → P m → P (cut_new max n m)) → (n : ℕ) (ms : List OutMsg) → All P ms → All P (fresh max n ms)
unfolding fresh
all_fresh P max g n [] a = tt
all_fresh P max g n (m ∷ ms) a = (g n m a.0, all_fresh P max g (n - length (new_pieces max n m)) ms a.1)

-- ### numbers rise, from lo on and below n
abbrev Rise : ℕ → List OutMsg → ℕ → Type 0
Rise lo [] n = lo ≤ n
Rise lo (m ∷ ms) n = (lo ≤ m.seq) × Rise (m.seq + 1) ms n

rise_down : (lo lo' n : ℕ) (ms : List OutMsg) → lo' ≤ lo → Rise lo ms n → Rise lo' ms n
rise_down lo lo' n [] h r = omega arith
rise_down lo lo' n (m ∷ ms) h r = (omega (arith, r.0), r.1)

rise_join : (lo n : ℕ) (m : OutMsg) (ms : List OutMsg) → m.seq ≡ n → Rise lo ms n → Rise lo (ms ++ (m ∷ [])) (n + 1)
rise_join lo n m [] e r = (omega arith, omega arith)
rise_join lo n m (x ∷ ms) e r = (r.0, rise_join (x.seq + 1) n m ms e r.1)

rise_retain : (t : OutMsg → Bool) (lo n : ℕ) (ms : List OutMsg) → Rise lo ms n → Rise lo (retain t ms) n
unfolding retain
rise_retain t lo n [] r = r
rise_retain t lo n (m ∷ ms) r =
    ⊎_elim (λ e. subst (λ (l : List OutMsg). Rise lo l n) (sym (cond_true (t m) (m ∷ retain t ms) (retain t ms) e)) (r.0, rise_retain t (m.seq + 1) n ms r.1))
    (λ e. subst (λ (l : List OutMsg). Rise lo l n) (sym (cond_false (t m) (m ∷ retain t ms) (retain t ms) e)) (rise_down (m.seq + 1) lo n (retain t ms) (omega (arith, r.0)) (rise_retain t (m.seq + 1) n ms r.1))) (cases (t m))

rise_map : (f : OutMsg → OutMsg) → ((m : OutMsg) → (f m).seq ≡ m.seq) → (lo n : ℕ) (ms : List OutMsg) → Rise lo ms n → Rise lo (map f ms) n
rise_map f g lo n [] r = r
rise_map f g lo n (m ∷ ms) r = (subst (λ (x : ℕ). lo ≤ x) (sym (g m)) r.0, subst (λ (x : ℕ). Rise (x + 1) (map f ms) n) (sym (g m)) (rise_map f g (m.seq + 1) n ms r.1))

rise_sweep : (st : Bool) (k lo n : ℕ) (ms : List OutMsg) → Rise lo ms n → Rise lo (sweep st k ms) n
unfolding sweep
rise_sweep st k lo n [] r = r
rise_sweep st k lo n (m ∷ ms) r = (r.0, rise_sweep st (k - length (picked st k m.inflight)) (m.seq + 1) n ms r.1)

rise_fresh : (max k lo n : ℕ) (ms : List OutMsg) → Rise lo ms n → Rise lo (fresh max k ms) n
unfolding fresh
rise_fresh max k lo n [] r = r
rise_fresh max k lo n (m ∷ ms) r = (r.0, rise_fresh max (k - length (new_pieces max k m)) (m.seq + 1) n ms r.1)

rise_acked : (q off lo n : ℕ) (ms : List OutMsg) → Rise lo ms n → Rise lo (acked q off ms) n
unfolding acked
rise_acked q off lo n [] r = r
rise_acked q off lo n (m ∷ ms) r =
    ⊎_elim (λ e. subst (λ (l : List OutMsg). Rise lo l n) (sym (cond_true (eqb m.seq q) (with_inflight m (remove off m.inflight) ∷ ms) (m ∷ acked q off ms) e)) r)
    (λ e. subst (λ (l : List OutMsg). Rise lo l n) (sym (cond_false (eqb m.seq q) (with_inflight m (remove off m.inflight) ∷ ms) (m ∷ acked q off ms) e)) (r.0, rise_acked q off (m.seq + 1) n ms r.1)) (cases (eqb m.seq q))

-- ### the pieces sent of one message
pub record Was (bs : List (List Sent)) (q off len : ℕ) : Type 0 where
  pub b : ℕ
  pub j : ℕ
  pub sent : Is bs b j
  pub of : (piece bs b j).seq ≡ q
  pub at : (piece bs b j).off ≡ off
  pub long : length (piece bs b j).bytes ≡ len

module _ (K : ℕ → ℕ → Type 0) (bs : List (List Sent)) where
  pub record Good (m : OutMsg) : Type 0 where
    pub sound : Sound (Covered K bs m.seq m.bytes) (Was bs m.seq) m
    pub cuts : (b j : ℕ) → Is bs b j → (piece bs b j).seq ≡ m.seq → (piece bs b j).bytes ≡ take (length (piece bs b j).bytes) (drop (piece bs b j).off m.bytes)

  good_recut : (max : ℕ) → 0 < max → (m : OutMsg) → Good m → Good (recut_in max m)
  good_recut max h m g = record { sound = sound_recut (Covered K bs m.seq m.bytes) (Was bs m.seq) m g.sound max h; cuts = g.cuts }

  good_sweep : (st : Bool) (n : ℕ) (m : OutMsg) → Good m → Good (with_inflight m (swept st n m.inflight))
  good_sweep st n m g = record { sound = sound_sweep (Covered K bs m.seq m.bytes) (Was bs m.seq) m g.sound st n; cuts = g.cuts }

  good_stale : (m : OutMsg) → Good m → Good (stale_in m)
  good_stale m g = record { sound = sound_stale (Covered K bs m.seq m.bytes) (Was bs m.seq) m g.sound; cuts = g.cuts }

  good_new : (max : ℕ) → 0 < max → (n : ℕ) (m : OutMsg) → Good m → Good (cut_new max n m)
  good_new max h n m g = record { sound = sound_new (Covered K bs m.seq m.bytes) (Was bs m.seq) m g.sound max n h; cuts = g.cuts }

  -- piece j of burst b, which was kept, is acknowledged
  module _ (b j : ℕ) (i : Is bs b j) (k : K b j) where
    good_ack : (m : OutMsg) → m.seq ≡ (piece bs b j).seq → Good m → Good (with_inflight m (remove (piece bs b j).off m.inflight))
    good_ack m e g =
        record {
          sound =
              sound_ack (Covered K bs m.seq m.bytes) (Was bs m.seq) m g.sound (Covered K bs m.seq m.bytes) (piece bs b j).off (length (piece bs b j).bytes)
              (record { b = b; j = j; sent = i; of = sym e; at = refl; long = refl })
              (λ x c. c)
              (λ x u v. record { b = b; j = j; sent = i; kept = k; of = sym e; from = u; to = v; cut = g.cuts b j i (sym e) });
          cuts = g.cuts;
        }

    pub good_acked : (ms : List OutMsg) → All Good ms → All Good (acked (piece bs b j).seq (piece bs b j).off ms)
    unfolding acked
    good_acked [] a = tt
    good_acked (m ∷ ms) a =
        ⊎_elim (λ e.
        subst (λ (l : List OutMsg). All Good l) (sym (cond_true (eqb m.seq (piece bs b j).seq) (with_inflight m (remove (piece bs b j).off m.inflight) ∷ ms) (m ∷ acked (piece bs b j).seq (piece bs b j).off ms) e))
        (good_ack m (eqb-true m.seq (piece bs b j).seq e) a.0, a.1))
        (λ e.
        subst (λ (l : List OutMsg). All Good l) (sym (cond_false (eqb m.seq (piece bs b j).seq) (with_inflight m (remove (piece bs b j).off m.inflight) ∷ ms) (m ∷ acked (piece bs b j).seq (piece bs b j).off ms) e))
        (a.0, good_acked ms a.1))
        (cases (eqb m.seq (piece bs b j).seq))

  -- what leaves is covered
  abbrev Left : List OutMsg → OutMsg → Type 0
  Left after m = Stays m.seq after ⊎ ((i : ℕ) → i < length m.bytes → Covered K bs m.seq m.bytes i)

  stays_more : (m : OutMsg) (ms : List OutMsg) (q : ℕ) → Stays q (retain unfinished ms) → Stays q (retain unfinished (m ∷ ms))
  unfolding retain
  stays_more m ms q s =
      ⊎_elim (λ e. subst (λ (l : List OutMsg). Stays q l) (sym (cond_true (unfinished m) (m ∷ retain unfinished ms) (retain unfinished ms) e)) (inr s))
      (λ e. subst (λ (l : List OutMsg). Stays q l) (sym (cond_false (unfinished m) (m ∷ retain unfinished ms) (retain unfinished ms) e)) s) (cases (unfinished m))

  stays_first : (m : OutMsg) (ms : List OutMsg) → unfinished m ≡ true → Stays m.seq (retain unfinished (m ∷ ms))
  unfolding retain
  stays_first m ms e = subst (λ (l : List OutMsg). Stays m.seq l) (sym (cond_true (unfinished m) (m ∷ retain unfinished ms) (retain unfinished ms) e)) (inl refl)

  left_more : (x : OutMsg) (ms ns : List OutMsg) → All (Left (retain unfinished ms)) ns → All (Left (retain unfinished (x ∷ ms))) ns
  left_more x ms ns a = all_to (Left (retain unfinished ms)) (Left (retain unfinished (x ∷ ms))) (λ m l. ⊎_elim (λ s. inl (stays_more x ms m.seq s)) (λ c. inr c) l) ns a

  left_first : (m : OutMsg) (ms : List OutMsg) → Good m → Left (retain unfinished (m ∷ ms)) m
  left_first m ms g =
      ⊎_elim (λ e. inl (stays_first m ms e)) (λ e. inr (finished_covered (Covered K bs m.seq m.bytes) (Was bs m.seq) m g.sound e)) (cases (unfinished m))

  left_plain : (ms : List OutMsg) → All Good ms → All (Left (retain unfinished ms)) ms
  left_plain [] a = tt
  left_plain (m ∷ ms) a = (left_first m ms a.0, left_more m ms ms (left_plain ms a.1))

  left_acked : (b j : ℕ) → Is bs b j → K b j → (ms : List OutMsg) → All Good ms → All (Left (retain unfinished (acked (piece bs b j).seq (piece bs b j).off ms))) ms
  unfolding acked
  left_acked b j i k [] a = tt
  left_acked b j i k (m ∷ ms) a =
      ⊎_elim (λ e.
      let n : OutMsg = with_inflight m (remove (piece bs b j).off m.inflight) in
      subst (λ (l : List OutMsg). All (Left (retain unfinished l)) (m ∷ ms)) (sym (cond_true (eqb m.seq (piece bs b j).seq) (with_inflight m (remove (piece bs b j).off m.inflight) ∷ ms) (m ∷ acked (piece bs b j).seq (piece bs b j).off ms) e))
      (left_first (with_inflight m (remove (piece bs b j).off m.inflight)) ms (good_ack b j i k m (eqb-true m.seq (piece bs b j).seq e) a.0), left_more (with_inflight m (remove (piece bs b j).off m.inflight)) ms ms (left_plain ms a.1)))
      (λ e.
      subst (λ (l : List OutMsg). All (Left (retain unfinished l)) (m ∷ ms)) (sym (cond_false (eqb m.seq (piece bs b j).seq) (with_inflight m (remove (piece bs b j).off m.inflight) ∷ ms) (m ∷ acked (piece bs b j).seq (piece bs b j).off ms) e))
      (left_first m (acked (piece bs b j).seq (piece bs b j).off ms) a.0, left_more m (acked (piece bs b j).seq (piece bs b j).off ms) ms (left_acked b j i k ms a.1)))
      (cases (eqb m.seq (piece bs b j).seq))

-- ### what a burst sends is in flight in one of the messages that it leaves
pub record From (m : OutMsg) (x : Sent) : Type 0 where
  pub of : x.seq ≡ m.seq
  pub has : Has x.off (length x.bytes) m.inflight
  pub below : x.off < m.cut
  pub cut : x.bytes ≡ take (length x.bytes) (drop x.off m.bytes)

abbrev pub Made : List OutMsg → Sent → Type 0
Made [] x = ⊥
Made (m ∷ ms) x = From m x ⊎ Made ms x

abbrev pub EachMade : List OutMsg → List Sent → Type 0
EachMade ms [] = Unit {0}
EachMade ms (x ∷ xs) = Made ms x × EachMade ms xs

each_to : (ms ns : List OutMsg) → ((x : Sent) → Made ms x → Made ns x) → (xs : List Sent) → EachMade ms xs → EachMade ns xs
each_to ms ns f [] e = tt
each_to ms ns f (x ∷ xs) e = (f x e.0, each_to ms ns f xs e.1)

each_join : (ms : List OutMsg) (xs ys : List Sent) → EachMade ms xs → EachMade ms ys → EachMade ms (xs ++ ys)
each_join ms [] ys e f = f
each_join ms (x ∷ xs) ys e f = (e.0, each_join ms xs ys e.1 f)

pub each_at : (ms : List OutMsg) (xs : List Sent) (j : ℕ) → EachMade ms xs → j < length xs → Made ms (get_or xs j none)
each_at ms [] j e h = absurd (omega arith)
each_at ms (x ∷ xs) zero e h = e.0
each_at ms (x ∷ xs) (suc j) e h = each_at ms xs j e.1 (omega arith)

tiled_le : (C : ℕ → Type 0) (x end : ℕ) (ps : List Piece) → Tiled C x end ps → x ≤ end
tiled_le C x end [] t = t.0
tiled_le C x end (p ∷ ps) t = let i = tiled_le C (p.off + p.len) end ps t.3 in omega (arith, t.0)

pub has_fits : (C : ℕ → Type 0) (x end off len : ℕ) (ps : List Piece) → Tiled C x end ps → Has off len ps → (off + len ≤ end) × (0 < len)
has_fits C x end off len [] t h = absurd h
has_fits C x end off len (p ∷ ps) t h =
    ⊎_elim (λ e. let i = tiled_le C (p.off + p.len) end ps t.3 in (omega (arith, e.0, e.1), omega (arith, e.1, t.1))) (λ e. has_fits C (p.off + p.len) end off len ps t.3 e) h

has_left : (off len : ℕ) (ps qs : List Piece) → Has off len ps → Has off len (ps ++ qs)
has_left off len [] qs h = absurd h
has_left off len (p ∷ ps) qs h = ⊎_elim (λ e. inl e) (λ e. inr (has_left off len ps qs e)) h

has_right : (off len : ℕ) (ps qs : List Piece) → Has off len qs → Has off len (ps ++ qs)
has_right off len [] qs h = h
has_right off len (p ∷ ps) qs h = inr (has_right off len ps qs h)

has_swept : (st : Bool) (n off len : ℕ) (ps : List Piece) → Has off len ps → Has off len (swept st n ps)
unfolding swept
has_swept st zero off len ps h = h
has_swept st (suc n) off len [] h = h
has_swept st (suc n) off len (p ∷ ps) h =
    ⊎_elim (λ e. subst (λ (l : List Piece). Has off len l) (sym (cond_true (same st p.stale) (unstale p ∷ swept st n ps) (p ∷ swept st (suc n) ps) e)) (⊎_elim (λ q. inl q) (λ q. inr (has_swept st n off len ps q)) h))
    (λ e. subst (λ (l : List Piece). Has off len l) (sym (cond_false (same st p.stale) (unstale p ∷ swept st n ps) (p ∷ swept st (suc n) ps) e)) (⊎_elim (λ q. inl q) (λ q. inr (has_swept st (suc n) off len ps q)) h)) (cases (same st p.stale))

-- each of qs is one of ps
abbrev EachHas : List Piece → List Piece → Type 0
EachHas ps [] = Unit {0}
EachHas ps (q ∷ qs) = Has q.off q.len ps × EachHas ps qs

has_more : (p : Piece) (ps qs : List Piece) → EachHas ps qs → EachHas (p ∷ ps) qs
has_more p ps [] e = tt
has_more p ps (q ∷ qs) e = (inr e.0, has_more p ps qs e.1)

has_all : (ps : List Piece) → EachHas ps ps
has_all [] = tt
has_all (p ∷ ps) = (inl (refl, refl), has_more p ps ps (has_all ps))

has_behind : (ps qs rs : List Piece) → EachHas qs rs → EachHas (ps ++ qs) rs
has_behind ps qs [] e = tt
has_behind ps qs (r ∷ rs) e = (has_right r.off r.len ps qs e.0, has_behind ps qs rs e.1)

picked_has : (st : Bool) (n : ℕ) (ps : List Piece) → EachHas (swept st n ps) (picked st n ps)
unfolding swept picked
picked_has st zero ps = tt
picked_has st (suc n) [] = tt
picked_has st (suc n) (p ∷ ps) =
    ⊎_elim (λ e.
    subst (λ (l : List Piece). EachHas l (cond (same st p.stale) (p ∷ picked st n ps) (picked st (suc n) ps))) (sym (cond_true (same st p.stale) (unstale p ∷ swept st n ps) (p ∷ swept st (suc n) ps) e))
    (subst (λ (l : List Piece). EachHas (unstale p ∷ swept st n ps) l) (sym (cond_true (same st p.stale) (p ∷ picked st n ps) (picked st (suc n) ps) e)) (inl (refl, refl), has_more (unstale p) (swept st n ps) (picked st n ps) (picked_has st n ps))))
    (λ e.
    subst (λ (l : List Piece). EachHas l (cond (same st p.stale) (p ∷ picked st n ps) (picked st (suc n) ps))) (sym (cond_false (same st p.stale) (unstale p ∷ swept st n ps) (p ∷ swept st (suc n) ps) e))
    (subst (λ (l : List Piece). EachHas (p ∷ swept st (suc n) ps) l) (sym (cond_false (same st p.stale) (p ∷ picked st n ps) (picked st (suc n) ps) e)) (has_more p (swept st (suc n) ps) (picked st (suc n) ps) (picked_has st (suc n) ps))))
    (cases (same st p.stale))

module _ (K : ℕ → ℕ → Type 0) (bs : List (List Sent)) where
  from_sent : (m : OutMsg) (p : Piece) → Good K bs m → Has p.off p.len m.inflight → From m (sent_piece_of m.seq m.bytes p)
  from_sent m p g h =
      let f = has_fits (Covered K bs m.seq m.bytes) 0 m.cut p.off p.len m.inflight g.sound.tiled h in
      let c = g.sound.fits in
      let l : length (take p.len (drop p.off m.bytes)) ≡ p.len = length-take-le p.len (drop p.off m.bytes) (omega (arith, f.0, length-drop p.off m.bytes)) in
      record {
        of = refl;
        has = subst (λ (n : ℕ). Has p.off n m.inflight) (sym l) h;
        below = omega (arith, f.0, f.1);
        cut = ap (λ (n : ℕ). take n (drop p.off m.bytes)) (sym l);
      }

  each_from : (m : OutMsg) (ms : List OutMsg) (qs : List Piece) → Good K bs m → EachHas m.inflight qs → EachMade (m ∷ ms) (map (sent_piece_of m.seq m.bytes) qs)
  each_from m ms [] g e = tt
  each_from m ms (q ∷ qs) g e = (inl (from_sent m q g e.0), each_from m ms qs g e.1)

  sweep_made : (st : Bool) (n : ℕ) (ms : List OutMsg) → All (Good K bs) ms → EachMade (sweep st n ms) (sweep_out st n ms)
  unfolding sweep sweep_out
  sweep_made st n [] a = tt
  sweep_made st n (m ∷ ms) a =
      each_join (with_inflight m (swept st n m.inflight) ∷ sweep st (n - length (picked st n m.inflight)) ms) (map (sent_piece_of m.seq m.bytes) (picked st n m.inflight)) (sweep_out st (n - length (picked st n m.inflight)) ms)
      (each_from (with_inflight m (swept st n m.inflight)) (sweep st (n - length (picked st n m.inflight)) ms) (picked st n m.inflight) (good_sweep K bs st n m a.0) (picked_has st n m.inflight))
      (each_to (sweep st (n - length (picked st n m.inflight)) ms) (with_inflight m (swept st n m.inflight) ∷ sweep st (n - length (picked st n m.inflight)) ms) (λ x y. inr y) (sweep_out st (n - length (picked st n m.inflight)) ms)
      (sweep_made st (n - length (picked st n m.inflight)) ms a.1))

  fresh_made : (max n : ℕ) → 0 < max → (ms : List OutMsg) → All (Good K bs) ms → EachMade (fresh max n ms) (fresh_out max n ms)
  unfolding fresh fresh_out
  fresh_made max n h [] a = tt
  fresh_made max n h (m ∷ ms) a =
      each_join (cut_new max n m ∷ fresh max (n - length (new_pieces max n m)) ms) (map (sent_piece_of m.seq m.bytes) (new_pieces max n m)) (fresh_out max (n - length (new_pieces max n m)) ms)
      (each_from (cut_new max n m) (fresh max (n - length (new_pieces max n m)) ms) (new_pieces max n m) (good_new K bs max h n m a.0) (has_behind m.inflight (new_pieces max n m) (new_pieces max n m) (has_all (new_pieces max n m))))
      (each_to (fresh max (n - length (new_pieces max n m)) ms) (cut_new max n m ∷ fresh max (n - length (new_pieces max n m)) ms) (λ x y. inr y) (fresh_out max (n - length (new_pieces max n m)) ms)
      (fresh_made max (n - length (new_pieces max n m)) h ms a.1))

made_sweep : (st : Bool) (n : ℕ) (ms : List OutMsg) (x : Sent) → Made ms x → Made (sweep st n ms) x
unfolding sweep
made_sweep st n [] x h = absurd h
made_sweep st n (m ∷ ms) x h =
    ⊎_elim (λ f. inl (record { of = f.of; has = has_swept st n x.off (length x.bytes) m.inflight f.has; below = f.below; cut = f.cut }))
    (λ f. inr (made_sweep st (n - length (picked st n m.inflight)) ms x f)) h

made_fresh : (max n : ℕ) (ms : List OutMsg) (x : Sent) → Made ms x → Made (fresh max n ms) x
unfolding fresh
made_fresh max n [] x h = absurd h
made_fresh max n (m ∷ ms) x h =
    ⊎_elim (λ f. inl (record { of = f.of; has = has_left x.off (length x.bytes) m.inflight (new_pieces max n m) f.has; below = omega (arith, f.below); cut = f.cut }))
    (λ f. inr (made_fresh max (n - length (new_pieces max n m)) ms x f)) h

-- ### all three passes
module _ (K : ℕ → ℕ → Type 0) (bs : List (List Sent)) (n : ℕ) where
  pub record Passed (b : Burst) : Type 0 where
    pub good : All (Good K bs) b.msgs
    pub rise : Rise 0 b.msgs n
    pub made : EachMade b.msgs b.out

  passed_sweep : (st : Bool) (room : ℕ) (b : Burst) → Passed b → Passed (pass_sweep st room b)
  passed_sweep st room b p = record {
    good = all_sweep (Good K bs) st (good_sweep K bs st) (room - length b.out) b.msgs p.good;
    rise = rise_sweep st (room - length b.out) 0 n b.msgs p.rise;
    made = each_join (sweep st (room - length b.out) b.msgs) b.out (sweep_out st (room - length b.out) b.msgs) (each_to b.msgs (sweep st (room - length b.out) b.msgs) (made_sweep st (room - length b.out) b.msgs) b.out p.made) (sweep_made K bs st (room - length b.out) b.msgs p.good);
  }

  passed_new : (max room : ℕ) → 0 < max → (b : Burst) → Passed b → Passed (pass_new max room b)
  passed_new max room h b p = record {
    good = all_fresh (Good K bs) max (good_new K bs max h) (room - length b.out) b.msgs p.good;
    rise = rise_fresh max (room - length b.out) 0 n b.msgs p.rise;
    made = each_join (fresh max (room - length b.out) b.msgs) b.out (fresh_out max (room - length b.out) b.msgs) (each_to b.msgs (fresh max (room - length b.out) b.msgs) (made_fresh max (room - length b.out) b.msgs) b.out p.made) (fresh_made K bs max (room - length b.out) h b.msgs p.good);
  }

  pub passed_take : (max room : ℕ) → 0 < max → (o : Outbox) → All (Good K bs) o.msgs → Rise 0 o.msgs n → Passed (take_out max room o)
  unfolding take_out
  passed_take max room h o a r =
      passed_sweep true room (pass_new max room (pass_sweep false room (record { msgs = map (recut_in max) o.msgs; out = [] })))
      (passed_new max room h (pass_sweep false room (record { msgs = map (recut_in max) o.msgs; out = [] }))
      (passed_sweep false room (record { msgs = map (recut_in max) o.msgs; out = [] })
      (record { good = all_map (Good K bs) (recut_in max) (good_recut K bs max h) o.msgs a; rise = rise_map (recut_in max) (λ m. refl) 0 n o.msgs r; made = tt })))

-- ### a number is one message's
made_above : (lo n : ℕ) (ms : List OutMsg) (x : Sent) → Rise lo ms n → Made ms x → lo ≤ x.seq
made_above lo n [] x r h = absurd h
made_above lo n (m ∷ ms) x r h = ⊎_elim (λ f. omega (arith, f.of, r.0)) (λ f. let i = made_above (m.seq + 1) n ms x r.1 f in omega (arith, r.0)) h

rise_le : (lo n : ℕ) (ms : List OutMsg) → Rise lo ms n → lo ≤ n
rise_le lo n [] r = r
rise_le lo n (m ∷ ms) r = let i = rise_le (m.seq + 1) n ms r.1 in omega (arith, r.0)

made_below : (lo n : ℕ) (ms : List OutMsg) (x : Sent) → Rise lo ms n → Made ms x → x.seq < n
made_below lo n [] x r h = absurd h
made_below lo n (m ∷ ms) x r h = ⊎_elim (λ f. let i = rise_le (m.seq + 1) n ms r.1 in omega (arith, f.of)) (λ f. made_below (m.seq + 1) n ms x r.1 f) h

never_own : (x : Sent) (lo n : ℕ) (ms : List OutMsg) → x.seq < lo → Rise lo ms n → All (λ m. x.seq ≡ m.seq → From m x) ms
never_own x lo n [] h r = tt
never_own x lo n (m ∷ ms) h r = (λ e. absurd (omega (arith, r.0)), never_own x (m.seq + 1) n ms (omega (arith, r.0)) r.1)

own : (x : Sent) (lo n : ℕ) (ms : List OutMsg) → Rise lo ms n → Made ms x → All (λ m. x.seq ≡ m.seq → From m x) ms
own x lo n [] r h = tt
own x lo n (m ∷ ms) r h =
    ⊎_elim (λ f. (λ e. f, never_own x (m.seq + 1) n ms (omega (arith, f.of)) r.1))
    (λ f. (λ e. absurd (let i = made_above (m.seq + 1) n ms x r.1 f in omega arith), own x (m.seq + 1) n ms r.1 f)) h

all_each : (P : ℕ → OutMsg → Type 0) (ms : List OutMsg) → ((j : ℕ) → All (P j) ms) → All (λ m. (j : ℕ) → P j m) ms
all_each P [] f = tt
all_each P (m ∷ ms) f = (λ j. (f j).0, all_each P ms (λ j. (f j).1))

own_all : (n : ℕ) (ms : List OutMsg) (xs : List Sent) → Rise 0 ms n → EachMade ms xs → All (λ m. (j : ℕ) → j < length xs → (get_or xs j none).seq ≡ m.seq → From m (get_or xs j none)) ms
own_all n ms xs r e =
    all_each (λ j m. j < length xs → (get_or xs j none).seq ≡ m.seq → From m (get_or xs j none)) ms
    (λ j. ⊎_elim (λ l. all_to (λ m. Unit {0}) (λ m. j < length xs → (get_or xs j none).seq ≡ m.seq → From m (get_or xs j none)) (λ m u h q. absurd (omega arith)) ms (units ms))
    (λ l. all_to (λ m. (get_or xs j none).seq ≡ m.seq → From m (get_or xs j none)) (λ m. j < length xs → (get_or xs j none).seq ≡ m.seq → From m (get_or xs j none)) (λ m f h q. f q) ms (own (get_or xs j none) 0 n ms r (each_at ms xs j e l)))
    (le_or_lt (length xs) j))
  where
    units : (ms : List OutMsg) → All (λ m. Unit {0}) ms
    units [] = tt
    units (m ∷ ms) = (tt, units ms)

-- ### one burst more
module _ (bs : List (List Sent)) (X : List Sent) where
  pub burst_old : (b : ℕ) → b < length bs → burst (bs ++ (X ∷ [])) b ≡ burst bs b
  burst_old b h = get_or-append bs (X ∷ []) [] b h

  burst_new : (b : ℕ) → b ≡ length bs → burst (bs ++ (X ∷ [])) b ≡ X
  burst_new b e = ap (λ (k : ℕ). burst (bs ++ (X ∷ [])) k) e ∙ get_or-append_seam bs X [] []

  pub piece_old : (b j : ℕ) → b < length bs → piece (bs ++ (X ∷ [])) b j ≡ piece bs b j
  piece_old b j h = ap (λ (l : List Sent). get_or l j none) (burst_old b h)

  pub piece_new : (b j : ℕ) → b ≡ length bs → piece (bs ++ (X ∷ [])) b j ≡ get_or X j none
  piece_new b j e = ap (λ (l : List Sent). get_or l j none) (burst_new b e)

  pub is_old : (b j : ℕ) → Is bs b j → Is (bs ++ (X ∷ [])) b j
  is_old b j i = (omega (arith, i.0, length-append bs (X ∷ [])), subst (λ (l : List Sent). j < length l) (sym (burst_old b i.0)) i.1)

  pub is_split : (b j : ℕ) → Is (bs ++ (X ∷ [])) b j → Is bs b j ⊎ ((b ≡ length bs) × (j < length X))
  is_split b j i =
      ⊎_elim (λ h.
      let z : b ≡ length bs = omega (arith, i.0, length-append bs (X ∷ [])) in
      inr (z, subst (λ (l : List Sent). j < length l) (burst_new b z) i.1))
      (λ h. inl (h, subst (λ (l : List Sent). j < length l) (burst_old b h) i.1)) (le_or_lt (length bs) b)

  covered_more : (K : ℕ → ℕ → Type 0) (q : ℕ) (M : List ℕ) (i : ℕ) → Covered K bs q M i → Covered K (bs ++ (X ∷ [])) q M i
  covered_more K q M i c =
      let e = sym (piece_old c.b c.j c.sent.0) in
      record {
        b = c.b;
        j = c.j;
        sent = is_old c.b c.j c.sent;
        kept = c.kept;
        of = subst (λ (x : Sent). x.seq ≡ q) e c.of;
        from = subst (λ (x : Sent). x.off ≤ i) e c.from;
        to = subst (λ (x : Sent). i < x.off + length x.bytes) e c.to;
        cut = subst (λ (x : Sent). x.bytes ≡ take (length x.bytes) (drop x.off M)) e c.cut;
      }

  module _ (m : OutMsg) (f : (j : ℕ) → j < length X → (get_or X j none).seq ≡ m.seq → From m (get_or X j none)) where
    was_split : (off len : ℕ) → Was (bs ++ (X ∷ [])) m.seq off len → Was bs m.seq off len ⊎ (Has off len m.inflight × (off < m.cut))
    was_split off len w =
        ⊎_elim (λ i.
        let e = piece_old w.b w.j i.0 in
        inl (record {
          b = w.b;
          j = w.j;
          sent = i;
          of = subst (λ (x : Sent). x.seq ≡ m.seq) e w.of;
          at = subst (λ (x : Sent). x.off ≡ off) e w.at;
          long = subst (λ (x : Sent). length x.bytes ≡ len) e w.long;
        }))
        (λ i.
        let e = piece_new w.b w.j i.0 in
        let o = f w.j i.1 (subst (λ (x : Sent). x.seq ≡ m.seq) e w.of) in
        let a : (get_or X w.j none).off ≡ off = subst (λ (x : Sent). x.off ≡ off) e w.at in
        let l : length (get_or X w.j none).bytes ≡ len = subst (λ (x : Sent). length x.bytes ≡ len) e w.long in
        inr (subst (λ (k : ℕ). Has off k m.inflight) l (subst (λ (k : ℕ). Has k (length (get_or X w.j none).bytes) m.inflight) a o.has), subst (λ (k : ℕ). k < m.cut) a o.below))
        (is_split w.b w.j w.sent)

    good_grown : (K : ℕ → ℕ → Type 0) → Good K bs m → Good K (bs ++ (X ∷ [])) m
    good_grown K g =
        let s = sound_sent (Covered K bs m.seq m.bytes) (Was bs m.seq) m g.sound in
        record {
          sound = record {
            fits = s.fits;
            tiled = tiled_more (Covered K bs m.seq m.bytes) (Covered K (bs ++ (X ∷ [])) m.seq m.bytes) (covered_more K m.seq m.bytes) 0 m.cut m.inflight s.tiled;
            tight = tight_by (λ off len. Was bs m.seq off len ⊎ (Has off len m.inflight × (off < m.cut))) (Was (bs ++ (X ∷ [])) m.seq) was_split m.inflight s.tight;
            below = λ off len w. s.below off len (was_split off len w);
          };
          cuts = λ b j i q.
              ⊎_elim (λ k.
              let e = piece_old b j k.0 in
              subst (λ (x : Sent). x.bytes ≡ take (length x.bytes) (drop x.off m.bytes)) (sym e) (g.cuts b j k (subst (λ (x : Sent). x.seq ≡ m.seq) e q)))
              (λ k.
              let e = piece_new b j k.0 in
              subst (λ (x : Sent). x.bytes ≡ take (length x.bytes) (drop x.off m.bytes)) (sym e) (f j k.1 (subst (λ (x : Sent). x.seq ≡ m.seq) e q)).cut)
              (is_split b j i);
        }

-- ### a run
pub record RunOk (K : ℕ → ℕ → Type 0) (r : Run) : Type 0 where
  pub good : All (Good K r.bursts) r.box.msgs
  pub rise : Rise 0 r.box.msgs r.box.next_seq
  pub numbers : (b j : ℕ) → Is r.bursts b j → (piece r.bursts b j).seq < r.box.next_seq

module _ (K : ℕ → ℕ → Type 0) (r : Run) (k : RunOk K r) where
  posted_ok : (d : List ℕ) → r.box.next_seq < 4294967295 → RunOk K (step r (Post d))
  unfolding step stop
  posted_ok d h =
      let e : stop (r.box.next_seq + 1) ≡ r.box.next_seq + 1 = cond_true (leb (r.box.next_seq + 1) 4294967295) (r.box.next_seq + 1) 4294967295 (le-leb (r.box.next_seq + 1) 4294967295 (omega arith)) in
      let m : OutMsg = record { seq = r.box.next_seq; bytes = framed d; cut = 0; inflight = [] } in
      record {
        good =
            all_join (Good K r.bursts) (record { seq = r.box.next_seq; bytes = framed d; cut = 0; inflight = [] }) r.box.msgs k.good
            (record {
              sound = record { fits = omega arith; tiled = (omega arith, λ i a b. absurd (omega arith)); tight = tt; below = λ off len w. absurd (let n = k.numbers w.b w.j w.sent in omega (arith, w.of)) };
              cuts = λ b j i q. absurd (let n = k.numbers b j i in omega arith);
            });
        rise = subst (λ (n : ℕ). Rise 0 (r.box.msgs ++ (record { seq = r.box.next_seq; bytes = framed d; cut = 0; inflight = [] } ∷ [])) n) (sym e) (rise_join 0 r.box.next_seq (record { seq = r.box.next_seq; bytes = framed d; cut = 0; inflight = [] }) r.box.msgs refl k.rise);
        numbers = λ b j i. subst (λ (n : ℕ). (piece r.bursts b j).seq < n) (sym e) (let n = k.numbers b j i in omega arith);
      }

  taken_ok : (max room : ℕ) → 0 < max → RunOk K (step r (Take max room))
  unfolding step
  taken_ok max room h =
      let p = passed_take K r.bursts r.box.next_seq max room h r.box k.good k.rise in
      let X : List Sent = (take_out max room r.box).out in
      let ms : List OutMsg = (take_out max room r.box).msgs in
      record {
        good =
            all_to (λ m. Good K r.bursts m × ((j : ℕ) → j < length (take_out max room r.box).out → (get_or (take_out max room r.box).out j none).seq ≡ m.seq → From m (get_or (take_out max room r.box).out j none)))
            (Good K (r.bursts ++ ((take_out max room r.box).out ∷ []))) (λ m g. good_grown r.bursts (take_out max room r.box).out m g.1 K g.0) (take_out max room r.box).msgs
            (all_both (Good K r.bursts) (λ m. (j : ℕ) → j < length (take_out max room r.box).out → (get_or (take_out max room r.box).out j none).seq ≡ m.seq → From m (get_or (take_out max room r.box).out j none)) (take_out max room r.box).msgs p.good
            (own_all r.box.next_seq (take_out max room r.box).msgs (take_out max room r.box).out p.rise p.made));
        rise = p.rise;
        numbers = λ b j i.
            ⊎_elim (λ q. subst (λ (x : Sent). x.seq < r.box.next_seq) (sym (piece_old r.bursts (take_out max room r.box).out b j q.0)) (k.numbers b j q))
            (λ q. subst (λ (x : Sent). x.seq < r.box.next_seq) (sym (piece_new r.bursts (take_out max room r.box).out b j q.0))
            (made_below 0 r.box.next_seq (take_out max room r.box).msgs (get_or (take_out max room r.box).out j none) p.rise (each_at (take_out max room r.box).msgs (take_out max room r.box).out j p.made q.1)))
            (is_split r.bursts (take_out max room r.box).out b j i);
      }

  acked_ok : (b j : ℕ) → Is r.bursts b j → K b j → RunOk K (step r (Ack b j))
  unfolding step
  acked_ok b j i q = record {
    good = all_retain (Good K r.bursts) unfinished (acked (piece r.bursts b j).seq (piece r.bursts b j).off r.box.msgs) (good_acked K r.bursts b j i q r.box.msgs k.good);
    rise = rise_retain unfinished 0 r.box.next_seq (acked (piece r.bursts b j).seq (piece r.bursts b j).off r.box.msgs) (rise_acked (piece r.bursts b j).seq (piece r.bursts b j).off 0 r.box.next_seq r.box.msgs k.rise);
    numbers = k.numbers;
  }

  stale_ok : RunOk K (step r Stale)
  unfolding step
  stale_ok = record {
    good = all_map (Good K r.bursts) stale_in (good_stale K r.bursts) r.box.msgs k.good;
    rise = rise_map stale_in (λ m. refl) 0 r.box.next_seq r.box.msgs k.rise;
    numbers = k.numbers;
  }

  held_ok : (next : ℕ) (also : List ℕ) → RunOk K (step r (Held next also))
  unfolding step
  held_ok next also = record {
    good = all_retain (Good K r.bursts) (not_held next also) r.box.msgs k.good;
    rise = rise_retain (not_held next also) 0 r.box.next_seq r.box.msgs k.rise;
    numbers = k.numbers;
  }

  leaving : (b j : ℕ) → Is r.bursts b j → K b j → Leaves K r (Ack b j)
  unfolding Leaves step
  leaving b j i q = left_acked K r.bursts b j i q r.box.msgs k.good

pub stepped : (K : ℕ → ℕ → Type 0) (r : Run) (e : Event) → RunOk K r → Fair K r e → RunOk K (step r e)
unfolding Fair
stepped K r (Post d) k f = posted_ok K r k d f
stepped K r (Take max room) k f = taken_ok K r k max room f
stepped K r (Ack b j) k f = acked_ok K r k b j f.0 f.1
stepped K r Stale k f = stale_ok K r k
stepped K r (Held next also) k f = held_ok K r k next also

pub leaves : (K : ℕ → ℕ → Type 0) (r : Run) (e : Event) → RunOk K r → Fair K r e → Leaves K r e
unfolding Fair Leaves
leaves K r (Post d) k f = tt
leaves K r (Take max room) k f = tt
leaves K r (Ack b j) k f = leaving K r k b j f.0 f.1
leaves K r Stale k f = tt
leaves K r (Held next also) k f = tt

-- every message that the sender drops by acknowledgement of kept pieces has each byte in a kept piece that was cut from it
run_leaves : (K : ℕ → ℕ → Type 0) (r : Run) (es : List Event) → RunOk K r → AllFair K r es → AllLeave K r es
unfolding AllFair AllLeave
run_leaves K r [] k f = tt
run_leaves K r (e ∷ es) k f = (leaves K r e k f.0, run_leaves K (step r e) es (stepped K r e k f.0) f.1)

pub promise : Promise
promise K es f = run_leaves K start es (record { good = tt; rise = omega arith; numbers = λ b j i. absurd (omega (arith, i.0)) }) f
