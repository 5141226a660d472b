-- This end's part of the invariant: what each call of the outbox keeps. Pieces are cut from what was posted, those acknowledged are covered in the book, and a
-- message that leaves by acknowledgement is covered whole. Assumes nothing.
use Rattle.std.specs.Prelude.{Option, Some, None}
use mathlib.Core.Bool.{true, false, ◌&&◌}
use mathlib.Core.List.{List, [], ◌∷◌, ◌++◌, append_assoc}
use mathlib.Core.Logic.{◌⊎◌, inl, inr, ⊎_elim}
use mathlib.Core.Path.{◌≡◌, refl, sym, ap, ◌∙◌, subst}
use Prim.Native.Nat.{ℕ, zero, suc, ◌+◌, ◌≤◌, ◌<◌}
use native.Mathlib.Omega.{arith}
use lib.Dec.{eqb, ltb, leb}
use lib.ListN.{length, get_or, take, drop, length-append}
use lib.Seq.{get_or-append_seam}
use borrow.Author.Tests.{ltb-true, le-leb}
use Rattle.bits.specs.Mask.{has_bit}
use Rattle.bits.specs.Stop.{stop}
use Rattle.bits.proofs.Lists.{cond_true, cond_keeps, and_true}
use Rattle.inbox.specs.Messages.{framed, Cut}
use Rattle.outbox.specs.Outbox.{OutMsg, Outbox, Sent, with_inflight, recut_in, take_out, stale_in, remove, acked, unfinished, not_held}
use Rattle.promise.specs.Promise.{Ledger}
use Rattle.sending.specs.Runs.{Event, Post, Take, Ack, Stale, Held, Run, piece, Is, step, Fair, Covered, All, Stays, Leaves}
use Rattle.sending.specs.Runs as runs
use Rattle.sending.specs.Room.{EachShort}
use Rattle.sending.specs.Sending.{acks_from, run_after, body_in, bodies_in}
use Rattle.sending.proofs.Covers.{tiled_more}
use Rattle.sending.proofs.Promised.{Good, Made, each_at, has_fits, passed_take, all_to, all_both, all_map, all_join, all_retain, all_sweep, all_fresh, piece_old, piece_new, is_old, is_split, RunOk, stepped, leaves}
use Rattle.sending.proofs.Room.{take_short}

-- ---- more pieces kept

covered_more : (K L : ℕ → ℕ → Type 0) (bs : List (List Sent)) → ((b j : ℕ) → K b j → L b j) → (q : ℕ) (M : List ℕ) (i : ℕ) → Covered K bs q M i → Covered L bs q M i
covered_more K L bs f q M i c =
    record { b = c.b; j = c.j; sent = c.sent; kept = f c.b c.j c.kept; of = c.of; from = c.from; to = c.to; cut = c.cut }

good_more : (K L : ℕ → ℕ → Type 0) (bs : List (List Sent)) → ((b j : ℕ) → K b j → L b j) → (m : OutMsg) → Good K bs m → Good L bs m
good_more K L bs f m g =
    record {
      sound = record {
        fits = g.sound.fits;
        tiled = tiled_more (Covered K bs m.seq m.bytes) (Covered L bs m.seq m.bytes) (covered_more K L bs f m.seq m.bytes) 0 m.cut m.inflight g.sound.tiled;
        tight = g.sound.tight;
        below = g.sound.below;
      };
      cuts = g.cuts;
    }

run_more : (K L : ℕ → ℕ → Type 0) (r : Run) → ((b j : ℕ) → K b j → L b j) → RunOk K r → RunOk L r
run_more K L r f k =
    record { good = all_to (Good K r.bursts) (Good L r.bursts) (good_more K L r.bursts f) r.box.msgs k.good; rise = k.rise; numbers = k.numbers }

-- ---- lists of messages

all_acked : (P : OutMsg → Type 0) → ((m : OutMsg) (off : ℕ) → P m → P (with_inflight m (remove off m.inflight))) → (q off : ℕ) (ms : List OutMsg) → All P ms → All P (acked q off ms)
unfolding acked
all_acked P f q off [] a = tt
all_acked P f q off (m ∷ ms) a =
    cond_keeps (All P) (eqb m.seq q) _ _ (λ _. (f m off a.0, a.1)) (λ _. (a.0, all_acked P f q off ms a.1))

record Pick (P : OutMsg → Type 0) (q : ℕ) : Type 0 where
  m : OutMsg
  is : m.seq ≡ q
  holds : P m

pick : (P : OutMsg → Type 0) (q : ℕ) (ms : List OutMsg) → All P ms → Stays q ms → Pick P q
pick P q [] a s = absurd s
pick P q (m ∷ ms) a (inl e) = record { m = m; is = e; holds = a.0 }
pick P q (m ∷ ms) a (inr s) = pick P q ms a.1 s

pub all_of_stays : (R : ℕ → Type 0) (ms : List OutMsg) → ((q : ℕ) → Stays q ms → R q) → All (λ m. R m.seq) ms
all_of_stays R [] f = tt
all_of_stays R (m ∷ ms) f = (f m.seq (inl refl), all_of_stays R ms (λ q s. f q (inr s)))

module _ (slot : ℕ) (bodies : List (List ℕ)) where
  abbrev pub own : ℕ → List ℕ
  own k = get_or bodies k []

  -- piece j of burst b is covered in the book
  abbrev pub K : List (List Sent) → Ledger → ℕ → ℕ → Type 0
  K bs l b j =
      Is bs b j
      × ((i : ℕ) → (piece bs b j).off ≤ i → i < (piece bs b j).off + length (piece bs b j).bytes → l.covered slot (piece bs b j).seq i ≡ true)

  abbrev pub CutOf : Sent → Type 0
  CutOf p = Cut (framed (own p.seq)) p.off p.bytes

  abbrev Text : OutMsg → Type 0
  Text m = m.bytes ≡ framed (own m.seq)

  -- the run, with the messages that are still to be posted
  pub record RunInv (l : Ledger) (r : Run) (rest : List (List ℕ)) : Type 0 where
    pub run : RunOk (K r.bursts l) r
    pub pieces : (b j : ℕ) → Is r.bursts b j → CutOf (piece r.bursts b j)
    pub texts : All Text r.box.msgs
    pub front : List (List ℕ)
    pub split : bodies ≡ front ++ rest
    pub count : r.box.next_seq ≡ length front

  abbrev FairNow : Ledger → Run → Event → Type 0
  FairNow l r (Post d) = r.box.next_seq < 4294967295
  FairNow l r (Take max room) = (0 < max) × (max ≤ 255)
  FairNow l r (Ack b j) = K r.bursts l b j
  FairNow l r Stale = Unit {0}
  FairNow l r (Held next also) = Unit {0}

  -- ---- posting

  body_is : (front rest : List (List ℕ)) (d : List ℕ) → bodies ≡ front ++ (d ∷ rest) → own (length front) ≡ d
  body_is front rest d e = ap (λ (l : List (List ℕ)). get_or l (length front) []) e ∙ get_or-append_seam front d rest []

  posted_inv : (l : Ledger) (r : Run) (rest : List (List ℕ)) (d : List ℕ) → RunInv l r (d ∷ rest) → r.box.next_seq < 4294967295 → RunInv l (step r (Post d)) rest
  unfolding step stop Fair
  posted_inv l r rest d v h =
      let e : stop (r.box.next_seq + 1) ≡ r.box.next_seq + 1 = cond_true (leb (r.box.next_seq + 1) 4294967295) (r.box.next_seq + 1) 4294967295 (le-leb (r.box.next_seq + 1) 4294967295 (omega arith)) in
      record {
        run = stepped (K r.bursts l) r (Post d) v.run h;
        pieces = v.pieces;
        texts =
            all_join Text (record { seq = r.box.next_seq; bytes = framed d; cut = 0; inflight = [] }) r.box.msgs v.texts
            (ap framed (sym (ap own v.count ∙ body_is v.front rest d v.split)));
        front = v.front ++ (d ∷ []);
        split = v.split ∙ sym (append_assoc v.front (d ∷ []) rest);
        count = e ∙ ap (λ (n : ℕ). n + 1) v.count ∙ sym (length-append v.front (d ∷ []));
      }

  -- ---- taking

  -- a piece that a burst sends is cut from its message
  made_cut : (P : ℕ → ℕ → Type 0) (bs : List (List Sent)) (ms : List OutMsg) (x : Sent) → All (λ m. Text m × Good P bs m) ms → Made ms x → length x.bytes ≤ 255 → CutOf x
  made_cut P bs [] x a h s = absurd h
  made_cut P bs (m ∷ ms) x a (inr h) s = made_cut P bs ms x a.1 h s
  made_cut P bs (m ∷ ms) x a (inl f) s =
      let g = a.0.1 in
      let w = has_fits (Covered P bs m.seq m.bytes) 0 m.cut x.off (length x.bytes) m.inflight g.sound.tiled f.has in
      let c = g.sound.fits in
      let e : m.bytes ≡ framed (own x.seq) = a.0.0 ∙ ap (λ (k : ℕ). framed (own k)) (sym f.of) in
      let n : length m.bytes ≡ length (framed (own x.seq)) = ap length e in
      let u = w.0 in
      record { short = s; fits = omega arith; same = f.cut ∙ ap (λ (y : List ℕ). take (length x.bytes) (drop x.off y)) e }

  short_at : (max : ℕ) (xs : List Sent) (j : ℕ) → EachShort max xs → j < length xs → length (get_or xs j runs.none).bytes ≤ max
  short_at max [] j s h = absurd (omega arith)
  short_at max (x ∷ xs) zero s h = s.0
  short_at max (x ∷ xs) (suc j) s h = short_at max xs j s.1 (omega arith)

  taken_texts : (max room : ℕ) (o : Outbox) → All Text o.msgs → All Text (take_out max room o).msgs
  unfolding take_out
  taken_texts max room o a =
      all_sweep Text true (λ n m p. p) _ _
      (all_fresh Text max (λ n m p. p) _ _ (all_sweep Text false (λ n m p. p) _ _ (all_map Text (recut_in max) (λ m p. p) o.msgs a)))

  taken_inv : (l : Ledger) (r : Run) (rest : List (List ℕ)) (max room : ℕ) → RunInv l r rest → 0 < max → max ≤ 255 → RunInv l (step r (Take max room)) rest
  unfolding step Fair
  taken_inv l r rest max room v h s =
      let p = passed_take (K r.bursts l) r.bursts r.box.next_seq max room h r.box v.run.good v.run.rise in
      let t = taken_texts max room r.box v.texts in
      record {
        run =
            run_more (K r.bursts l) (K (r.bursts ++ ((take_out max room r.box).out ∷ [])) l) (step r (Take max room)) more
            (stepped (K r.bursts l) r (Take max room) v.run h);
        pieces = λ b j i.
            ⊎_elim (λ o. subst CutOf (sym (piece_old r.bursts (take_out max room r.box).out b j o.0)) (v.pieces b j o))
            (λ o. subst CutOf (sym (piece_new r.bursts (take_out max room r.box).out b j o.0))
            (made_cut (K r.bursts l) r.bursts (take_out max room r.box).msgs _ (all_both Text (Good (K r.bursts l) r.bursts) (take_out max room r.box).msgs t p.good)
            (each_at (take_out max room r.box).msgs (take_out max room r.box).out j p.made o.1)
            (let q = short_at max (take_out max room r.box).out j (take_short max room r.box) o.1 in omega arith)))
            (is_split r.bursts (take_out max room r.box).out b j i);
        texts = t;
        front = v.front;
        split = v.split;
        count = v.count;
      }
    where
      more : (b j : ℕ) → K r.bursts l b j → K (r.bursts ++ ((take_out max room r.box).out ∷ [])) l b j
      more b j k = (
        is_old r.bursts (take_out max room r.box).out b j k.0,
        subst (λ (x : Sent). (i : ℕ) → x.off ≤ i → i < x.off + length x.bytes → l.covered slot x.seq i ≡ true)
            (sym (piece_old r.bursts (take_out max room r.box).out b j k.0.0)) k.1,
      )

  -- ---- the rest

  pub event_inv : (l : Ledger) (e : Event) (r : Run) (rest : List (List ℕ)) → RunInv l r (body_in e ++ rest) → FairNow l r e → RunInv l (step r e) rest
  unfolding step Fair
  event_inv l (Post d) r rest v h = posted_inv l r rest d v h
  event_inv l (Take max room) r rest v h = taken_inv l r rest max room v h.0 h.1
  event_inv l (Ack b j) r rest v h =
      record {
        run = stepped (K r.bursts l) r (Ack b j) v.run (h.0, h);
        pieces = v.pieces;
        texts = all_retain Text unfinished _ (all_acked Text (λ m off p. p) (piece r.bursts b j).seq (piece r.bursts b j).off r.box.msgs v.texts);
        front = v.front;
        split = v.split;
        count = v.count;
      }
  event_inv l Stale r rest v h =
      record {
        run = stepped (K r.bursts l) r Stale v.run tt;
        pieces = v.pieces;
        texts = all_map Text stale_in (λ m p. p) r.box.msgs v.texts;
        front = v.front;
        split = v.split;
        count = v.count;
      }
  event_inv l (Held next also) r rest v h =
      record {
        run = stepped (K r.bursts l) r (Held next also) v.run tt;
        pieces = v.pieces;
        texts = all_retain Text (not_held next also) r.box.msgs v.texts;
        front = v.front;
        split = v.split;
        count = v.count;
      }

  -- more is covered
  pub ledger_inv : (l l' : Ledger) (r : Run) (rest : List (List ℕ)) → ((k i : ℕ) → l.covered slot k i ≡ true → l'.covered slot k i ≡ true) → RunInv l r rest → RunInv l' r rest
  ledger_inv l l' r rest f v =
      record {
        run = run_more (K r.bursts l) (K r.bursts l') r (λ b j k. (k.0, λ i u w. f (piece r.bursts b j).seq i (k.1 i u w))) v.run;
        pieces = v.pieces;
        texts = v.texts;
        front = v.front;
        split = v.split;
        count = v.count;
      }

  -- ---- acknowledgements

  -- every byte of message q is covered
  abbrev pub Whole : Ledger → ℕ → Type 0
  Whole l q = (i : ℕ) → i < 2 + length (own q) → l.covered slot q i ≡ true

  pub record AckedRun (l : Ledger) (r r' : Run) (rest : List (List ℕ)) : Type 0 where
    pub inv : RunInv l r' rest
    pub bursts : r'.bursts ≡ r.bursts
    pub left : (q : ℕ) → Stays q r.box.msgs → Stays q r'.box.msgs ⊎ Whole l q

  ack_one : (l : Ledger) (r : Run) (rest : List (List ℕ)) (b j : ℕ) → RunInv l r rest → K r.bursts l b j → AckedRun l r (step r (Ack b j)) rest
  ack_one l r rest b j v k =
      record { inv = event_inv l (Ack b j) r rest v k; bursts = unfold step in refl; left = went }
    where
      P : OutMsg → Type 0
      P m = Text m × (Stays m.seq (step r (Ack b j)).box.msgs ⊎ ((i : ℕ) → i < length m.bytes → Covered (K r.bursts l) r.bursts m.seq m.bytes i))

      all : All P r.box.msgs
      all = all_both Text _ r.box.msgs v.texts (unfold Leaves Fair in leaves (K r.bursts l) r (Ack b j) v.run (k.0, k))

      went : (q : ℕ) → Stays q r.box.msgs → Stays q (step r (Ack b j)).box.msgs ⊎ Whole l q
      went q s =
          let p = pick P q r.box.msgs all s in
          ⊎_elim (λ t. inl (subst (λ (y : ℕ). Stays y (step r (Ack b j)).box.msgs) p.is t))
          (λ t. inr (λ i h.
          let e : p.m.bytes ≡ framed (own q) = p.holds.0 ∙ ap (λ (y : ℕ). framed (own y)) p.is in
          let n : length p.m.bytes ≡ length (framed (own q)) = ap length e in
          let c = t i (omega arith) in
          subst (λ (y : ℕ). l.covered slot y i ≡ true) (c.of ∙ p.is) (c.kept.1 i c.from c.to)))
          p.holds.1

  acks_then : (l : Ledger) (r r' r'' : Run) (rest : List (List ℕ)) → AckedRun l r r' rest → AckedRun l r' r'' rest → AckedRun l r r'' rest
  acks_then l r r' r'' rest a b =
      record { inv = b.inv; bursts = b.bursts ∙ a.bursts; left = λ q s. ⊎_elim (λ t. b.left q t) (λ t. inr t) (a.left q s) }

  pub acks_inv : (l : Ledger) (bits sent i : ℕ) (fs : List (Option ℕ)) (r : Run) (rest : List (List ℕ)) → RunInv l r rest
      → ((k j : ℕ) → get_or fs k None ≡ Some j → i + k < 6 → has_bit bits (i + k) ≡ true → K r.bursts l sent j)
      → AckedRun l r (run_after (acks_from bits sent i fs) r) rest
  unfolding acks_from run_after
  acks_inv l bits sent i [] r rest v h = record { inv = v; bursts = refl; left = λ q s. inl s }
  acks_inv l bits sent i (None ∷ fs) r rest v h = acks_inv l bits sent (suc i) fs r rest v (λ k j e a b. later k j e a b)
    where
      later : (k j : ℕ) → get_or fs k None ≡ Some j → suc i + k < 6 → has_bit bits (suc i + k) ≡ true → K r.bursts l sent j
      later k j e a b = let z : i + suc k ≡ suc i + k = omega arith in h (suc k) j e (omega arith) (subst (λ (y : ℕ). has_bit bits y ≡ true) (sym z) b)
  acks_inv l bits sent i (Some j ∷ fs) r rest v h =
      cond_keeps (λ (es : List Event). AckedRun l r (run_after es r) rest) (ltb i 6 && has_bit bits i) _ _
      (λ q.
      let t = and_true (ltb i 6) (has_bit bits i) q in
      let z : i + 0 ≡ i = omega arith in
      let g = ltb-true i 6 t.0 in
      let a = ack_one l r rest sent j v (h 0 j refl (omega arith) (subst (λ (y : ℕ). has_bit bits y ≡ true) (sym z) t.1)) in
      acks_then l r (step r (Ack sent j)) _ rest a
      (acks_inv l bits sent (suc i) fs (step r (Ack sent j)) rest a.inv (λ k x e u w. subst (λ (bs : List (List Sent)). K bs l sent x) (sym a.bursts) (later k x e u w))))
      (λ q. acks_inv l bits sent (suc i) fs r rest v later)
    where
      later : (k x : ℕ) → get_or fs k None ≡ Some x → suc i + k < 6 → has_bit bits (suc i + k) ≡ true → K r.bursts l sent x
      later k x e a b = let z : i + suc k ≡ suc i + k = omega arith in h (suc k) x e (omega arith) (subst (λ (y : ℕ). has_bit bits y ≡ true) (sym z) b)

pub acks_bodies : (bits sent i : ℕ) (fs : List (Option ℕ)) → bodies_in (acks_from bits sent i fs) ≡ []
unfolding acks_from bodies_in
acks_bodies bits sent i [] = refl
acks_bodies bits sent i (None ∷ fs) = acks_bodies bits sent (suc i) fs
acks_bodies bits sent i (Some j ∷ fs) =
    cond_keeps (λ (es : List Event). bodies_in es ≡ []) (ltb i 6 && has_bit bits i) _ _ (λ _. acks_bodies bits sent (suc i) fs) (λ _. acks_bodies bits sent (suc i) fs)
