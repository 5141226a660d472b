-- The frames of a reception, one after the other: its events 2 and the messages handed over pair off. Assumes nothing.
use Rattle.std.specs.Prelude.{Option, Some, None}
use mathlib.Core.Path.{◌≡◌, refl, sym, ap, ◌∙◌, subst}
use mathlib.Core.Bool.{Bool, true, false, not, cond, ◌&&◌}
use mathlib.Core.List.{List, [], ◌∷◌, ◌++◌, append_assoc}
use mathlib.Core.Logic.{⊎_elim}
use Prim.Native.Nat.{ℕ, zero, suc, ◌+◌, ◌%◌, ◌≤◌, ◌<◌}
use native.Mathlib.Omega.{arith}
use lib.ListN.{length, get_or, length-append}
use Rattle.bits.specs.Mask.{has_bit, with_bit}
use Rattle.bits.proofs.Laws.{with_same}
use Rattle.bits.proofs.Lists.{cond_true, cond_false, le_or_lt, never_both}
use Rattle.words.specs.Words.{Heard, lost, heard}
use Rattle.words.specs.Fine.{Fine, AllFine}
use Rattle.stream.specs.Table.{Accepted}
use Rattle.frames.specs.declared.Air.{Air}
use Rattle.frames.specs.Reading.{Reading}
use Rattle.frames.specs.Frames.{frame_step, read_frames}
use Rattle.promise.specs.Promise.{Sent, Message, Ledger, Entered, unchanged, same, also_handed, book_piece, is_boats, is_watched, book_frame, book_frames, Event2, events_in, enter, enter_all, named, FrameOk, FramesOk, Pairs, Later, Rising, Once}
use Rattle.promise.proofs.Ledgers.{same_true, same_self, handed_self, handed_other}
use Rattle.promise.proofs.Ties.{View, Tie}
use Rattle.promise.proofs.Pieces.{also_one, Joint, view_after, event_for, piece_good}
use Rattle.promise.proofs.Barred.{barred_good}
use Rattle.promise.proofs.Others.{aside_good}
use Rattle.promise.proofs.Quiet.{view_of}
use Rattle.promise.proofs.QuietRx.{untouched}
use Rattle.promise.proofs.Readings.{frame_runs, chain_count}
use Rattle.promise.proofs.WalkFrames.{view_in, offered_in, is_piece, Seen, FrameRead, other, unkept, barred, piece, step_reads}
use Rattle.promise.proofs.Walk.{start}
use Rattle.promise.proofs.WalkRx.{frames_walk}
use Rattle.promise.proofs.WalkCalls.{all}

-- ---- the messages handed over, in order

abbrev pub all_handed : List Message → (ℕ → ℕ → Bool) → ℕ → ℕ → Bool
all_handed [] f = f
all_handed (m ∷ ms) f = all_handed ms (also_handed m.slot m.number f)

pub once_append : (ms xs : List Message) (f : ℕ → ℕ → Bool) → Once ms f → Once xs (all_handed ms f) → Once (ms ++ xs) f
once_append [] xs f o p = p
once_append (m ∷ ms) xs f o p = (o.0, once_append ms xs (also_handed m.slot m.number f) o.1 p)

pub record Received (M : Sent) (count : ℕ) (es : List Event2) (ms : List Message) (v : View) (l : Ledger) (f : ℕ → ℕ → Bool) (e : ℕ → Option Message) : Type 0 where
  pub tie : Tie M v l (enter_all es (named M.watched es ms) e)
  pub pairs : Pairs count es (named M.watched es ms) e
  pub rising : Rising ms
  pub once : Once ms f
  pub after : l.handed ≡ all_handed ms f

-- what an event names
named_own : (watched : ℕ → Bool) (x : Event2) (m : Message) (es : List Event2) (ms : List Message) → watched x.slot ≡ true
    → m ∷ named watched es ms ≡ named watched (x ∷ es) (m ∷ ms)
named_own watched x m es ms q = sym (cond_true (watched x.slot) _ _ q)

named_other : (watched : ℕ → Bool) (x : Event2) (es : List Event2) (ms : List Message) → watched x.slot ≡ false
    → record { slot = x.slot; number = x.number } ∷ named watched es ms ≡ named watched (x ∷ es) ms
named_other watched x es [] q = sym (cond_false (watched x.slot) _ _ q)
named_other watched x es (m ∷ ms) q = sym (cond_false (watched x.slot) _ _ q)

-- not handed over with m is not handed over before, and is not m
before : (s k : ℕ) (f : ℕ → ℕ → Bool) (a b : ℕ) → also_handed s k f a b ≡ false → (f a b ≡ false) × (same s k a b ≡ false)
before s k f a b q = at (same s k a b) refl
  where
    at : (t : Bool) → same s k a b ≡ t → (f a b ≡ false) × (same s k a b ≡ false)
    at true e =
        let r = same_true s k a b e in
        absurd (never_both (also_handed s k f a b) (ap (λ (x : ℕ). also_handed s k f x b) (sym r.0) ∙ ap (also_handed s k f s) (sym r.1) ∙ handed_self s k f) q)
    at false e = (sym (handed_other s k f a b e) ∙ q, e)

later_of : (m : Message) (xs : List Message) (f : ℕ → ℕ → Bool) → Once xs f
    → ((x : Message) → f x.slot x.number ≡ false → m.slot ≡ x.slot → m.number % 256 ≡ x.number % 256 → m.number < x.number)
    → Later m xs
later_of m [] f o h = tt
later_of m (x ∷ xs) f o h = (
  h x o.0,
  later_of m xs (also_handed x.slot x.number f) o.1 (λ y q. h y (before x.slot x.number f y.slot y.number q).0),
)

-- the book's entries after a frame
abbrev entry_after : Option Event2 → List Message → (ℕ → Option Message) → ℕ → Option Message
entry_after None ms e = e
entry_after (Some x) [] e = enter x.cell (Some (record { slot = x.slot; number = x.number })) e
entry_after (Some x) (m ∷ ms) e = enter x.cell (Some m) e

joint_tie : (M : Sent) (l : Ledger) (e : ℕ → Option Message) (x : Option Event2) (n : List Message) (v : View) (l' : Ledger)
    → Joint M l v l' x n e → Tie M v l' (entry_after x n e)
joint_tie M l e None [] v l' j = j.tie
joint_tie M l e None (m ∷ ms) v l' j = absurd j
joint_tie M l e (Some x) [] v l' j = j.tie
joint_tie M l e (Some x) (m ∷ []) v l' j = j.tie
joint_tie M l e (Some x) (m ∷ n ∷ ms) v l' j = absurd j

combine : (M : Sent) (l : Ledger) (e : ℕ → Option Message) (x : Option Event2) (n : List Message) (v₁ : View) (l₁ : Ledger)
    → Joint M l v₁ l₁ x n e → (es : List Event2) (ms : List Message) (v₂ : View) (l₂ : Ledger)
    → Received M v₁.table.count es ms v₂ l₂ l₁.handed (entry_after x n e)
    → Received M v₁.table.count (also_one x es) (n ++ ms) v₂ l₂ l.handed e
combine M l e None [] v₁ l₁ j es ms v₂ l₂ r =
    subst (λ (f : ℕ → ℕ → Bool). Received M v₁.table.count es ms v₂ l₂ f e) j.handed r
combine M l e None (m ∷ n) v₁ l₁ j es ms v₂ l₂ r = absurd j
combine M l e (Some v) [] v₁ l₁ j es ms v₂ l₂ x =
    record {
      tie = subst (λ (ns : List Message). Tie M v₂ l₂ (enter_all (v ∷ es) ns e)) (named_other M.watched v es ms j.off) x.tie;
      pairs = subst (λ (ns : List Message). Pairs v₁.table.count (v ∷ es) ns e) (named_other M.watched v es ms j.off)
          (refl, j.number, omega (arith, j.below), j.bare, x.pairs);
      rising = x.rising;
      once = subst (Once ms) j.handed x.once;
      after = x.after ∙ ap (all_handed ms) j.handed;
    }
combine M l e (Some v) (m ∷ n ∷ ns) v₁ l₁ j es ms v₂ l₂ r = absurd j
combine M l e (Some v) (m ∷ []) v₁ l₁ j es ms v₂ l₂ x =
    let o : Once ms (also_handed m.slot m.number l.handed) = subst (Once ms) j.handed x.once in
    record {
      tie = subst (λ (ns : List Message). Tie M v₂ l₂ (enter_all (v ∷ es) ns e)) (named_own M.watched v m es ms j.on) x.tie;
      pairs = subst (λ (ns : List Message). Pairs v₁.table.count (v ∷ es) ns e) (named_own M.watched v m es ms j.on)
          (j.slot, j.number, omega (arith, j.below), j.bare, x.pairs);
      rising = (later_of m ms (also_handed m.slot m.number l.handed) o lower, x.rising);
      once = (j.new, o);
      after = x.after ∙ ap (all_handed ms) j.handed;
    }
  where
    -- what is not handed over yet is at most 127 below m; so if it is alike it is above
    lower : (x : Message) → also_handed m.slot m.number l.handed x.slot x.number ≡ false
        → m.slot ≡ x.slot → m.number % 256 ≡ x.number % 256 → m.number < x.number
    lower x q p i =
        let b = before m.slot m.number l.handed x.slot x.number q in
        let n = j.near x.number (ap (λ (y : ℕ). l.handed y x.number) p ∙ b.0) in
        ⊎_elim (λ a.
        let z : m.number ≡ x.number = omega arith in
        absurd (never_both (same m.slot m.number x.slot x.number)
        (ap (λ (y : ℕ). same m.slot m.number y x.number) (sym p) ∙ ap (same m.slot m.number m.slot) (sym z) ∙ same_self m.slot m.number) b.1))
        (λ a. a) (le_or_lt x.number m.number)

-- ---- one frame, with the book's answers for it

-- from x to y, with the entry n in the book
pub record Read (M : Sent) (l : Ledger) (e : ℕ → Option Message) (x y : Reading) (n : Entered Ledger) : Type 0 where
  pub event : Option Event2
  pub joint : Joint M l (view_in y) n.left event n.out e
  pub events : events_in y.words ≡ events_in x.words ++ also_one event []
  pub long : length y.station.members ≡ 62

book_other : (M : Sent) (h : Heard) (k used : ℕ) (marked : Bool) (l : Ledger) → is_piece h used ≡ false → book_frame M h k used marked l ≡ unchanged l
unfolding book_frame
book_other M lost k used marked l q = refl
book_other M (heard flags field p) k used marked l q = rw q (at (M.watched (flags % 64)))
  where
    at : (t : Bool) → cond (t && false && not marked) (book_piece M (flags % 64) k (field % 65536) (length p) l) (unchanged l) ≡ unchanged l
    at true = refl
    at false = refl

-- a piece that is marked covers nothing
book_marked : (M : Sent) (flags field : ℕ) (p : List ℕ) (k used : ℕ) (marked : Bool) (l : Ledger) → marked ≡ true → book_frame M (heard flags field p) k used marked l ≡ unchanged l
unfolding book_frame
book_marked M flags field p k used marked l q = rw q (at (is_watched M.watched flags used))
  where
    at : (t : Bool) → cond (t && false) (book_piece M (flags % 64) k (field % 65536) (length p) l) (unchanged l) ≡ unchanged l
    at true = refl
    at false = refl

-- a boat's piece that is not marked
book_by_lem : (M : Sent) (flags field : ℕ) (p : List ℕ) (k used : ℕ) (marked : Bool) (l : Ledger) → is_boats flags used ≡ true → marked ≡ false
    → book_frame M (heard flags field p) k used marked l ≡ cond (M.watched (flags % 64)) (book_piece M (flags % 64) k (field % 65536) (length p) l) (unchanged l)
unfolding book_frame
book_by_lem M flags field p k used marked l q r = rw (q, r) (at (M.watched (flags % 64)))
  where
    at : (t : Bool) → cond (t && true && true) (book_piece M (flags % 64) k (field % 65536) (length p) l) (unchanged l) ≡ cond t (book_piece M (flags % 64) k (field % 65536) (length p) l) (unchanged l)
    at true = refl
    at false = refl

module _ (M : Sent) (small : (s k : ℕ) → M.watched s ≡ true → length (M.text s k) ≤ 65535) (x y : Reading) (l : Ledger) (e : ℕ → Option Message) (tie : Tie M (view_in x) l e)
    (k : ℕ) (few : x.frame < 64) (clear : has_bit x.unkept x.frame ≡ false) where
  abbrev m : Bool
  m = has_bit y.unkept x.frame

  still_read : (m : ℕ) → Seen x y (view_in x) [] m → Read M l e x y (unchanged l)
  still_read m s = record { event = None; joint = record { tie = subst (λ (v : View). Tie M v l e) (sym s.view) tie; handed = refl }; events = s.events; long = s.long }

  marked : with_bit x.unkept x.frame ≡ y.unkept → m ≡ true
  marked q = ap (λ (m : ℕ). has_bit m x.frame) (sym q) ∙ with_same x.unkept x.frame few

  book_read : (h : Heard) → Fine h → FrameOk M l h k x.station.used → FrameRead x y h → Read M l e x y (book_frame M h k x.station.used m l)
  book_read h fine ok (other q s) = subst (Read M l e x y) (sym (book_other M h k x.station.used m l q)) (still_read x.unkept s)
  book_read h fine ok (unkept flags field p b q z s) =
      subst (Read M l e x y) (sym (book_marked M flags field p k x.station.used m l (marked (sym s.mask)))) (still_read _ s)
  book_read h fine ok (barred flags field p b q s) =
      subst (Read M l e x y) (sym (book_marked M flags field p k x.station.used m l (marked (sym s.mask))))
      (record {
        event = None;
        joint = record { tie = subst (λ (v : View). Tie M v l e) (sym s.view) (barred_good M (view_in x) l e tie (flags % 64) k field p (small (flags % 64) k) (λ on. ok (ap (λ (t : Bool). t && is_boats flags x.station.used) on ∙ b)) q); handed = refl };
        events = s.events;
        long = s.long;
      })
  book_read h fine ok (piece flags field p b q s) =
      subst (Read M l e x y) (sym (book_by_lem M flags field p k x.station.used m l b (ap (λ (m : ℕ). has_bit m x.frame) s.mask ∙ clear))) (at (M.watched (flags % 64)) refl)
    where
      n : Entered Ledger
      n = book_piece M (flags % 64) k (field % 65536) (length p) l

      r : Accepted
      r = offered_in x flags field p

      read_as : (n : Entered Ledger) → Joint M l (view_after (view_in x) (flags % 64) r) n.left (event_for (flags % 64) r) n.out e → Read M l e x y n
      read_as n g =
          record {
            event = event_for (flags % 64) r;
            joint = subst (λ (v : View). Joint M l v n.left (event_for (flags % 64) r) n.out e) (sym s.view) g;
            events = s.events;
            long = s.long;
          }

      at : (t : Bool) → M.watched (flags % 64) ≡ t → Read M l e x y (cond t n (unchanged l))
      at true on =
          read_as n
          (piece_good M (view_in x) l e tie (flags % 64) k field p on (small (flags % 64) k on) (ok (ap (λ (t : Bool). t && is_boats flags x.station.used) on ∙ b)) q)
      at false off = read_as (unchanged l) (aside_good M (view_in x) l e tie (flags % 64) field p off (omega (arith, fine.2)) q)

-- ---- the running values

-- as frame i is read: i frames were seen, and none from it on is marked
pub record Ready (x : Reading) (i : ℕ) : Type 0 where
  pub frame : x.frame ≡ i
  pub seen : length x.seen ≡ i
  pub clear : (j : ℕ) → i ≤ j → has_bit x.unkept j ≡ false

one_more : (l : List ℕ) (u : ℕ) → length (l ++ (u ∷ [])) ≡ length l + 1
one_more l u = length-append l (u ∷ [])

get_front : (l r : List ℕ) (j : ℕ) → j < length l → get_or (l ++ r) j 0 ≡ get_or l j 0
get_front [] r j h = absurd (omega arith)
get_front (x ∷ l) r zero h = refl
get_front (x ∷ l) r (suc j) h = get_front l r j (omega arith)

pub get_last : (l : List ℕ) (u : ℕ) → get_or (l ++ (u ∷ [])) (length l) 0 ≡ u
get_last [] u = refl
get_last (x ∷ l) u = get_last l u

module _ (a : Air) where
  pub step_seen : (f : Heard) (x : Reading) → (frame_step a f x).seen ≡ x.seen ++ (x.station.used ∷ [])
  unfolding frame_step
  step_seen f x = ap (λ (l : List ℕ). l ++ (x.station.used ∷ [])) (frame_runs a f x).seen

  pub step_frame : (f : Heard) (x : Reading) → (frame_step a f x).frame ≡ x.frame + 1
  unfolding frame_step
  step_frame f x = ap (λ (n : ℕ). n + 1) (frame_runs a f x).frame

  step_count : (f : Heard) (x : Reading) → (frame_step a f x).station.count ≡ x.station.count
  unfolding read_frames
  step_count f x = chain_count (frames_walk all a tt tt x.station (f ∷ []) x start)

  step_other : (f : Heard) (x : Reading) (j : ℕ) → (j ≡ x.frame → ⊥) → has_bit (frame_step a f x).unkept j ≡ has_bit x.unkept j
  unfolding frame_step
  step_other f x j z = (frame_runs a f x).other j z

  step_ready : (f : Heard) (x : Reading) (i : ℕ) → Ready x i → Ready (frame_step a f x) (i + 1)
  step_ready f x i r =
      let p = r.frame in
      let q = r.seen in
      record {
        frame = step_frame f x ∙ ap (λ (n : ℕ). n + 1) r.frame;
        seen = ap length (step_seen f x) ∙ one_more x.seen x.station.used ∙ ap (λ (n : ℕ). n + 1) r.seen;
        clear = λ j h. step_other f x j (λ e. omega arith) ∙ r.clear j (omega arith);
      }

  pub seen_stays : (fs : List Heard) (x : Reading) (j : ℕ) → j < length x.seen → get_or (read_frames a fs x).seen j 0 ≡ get_or x.seen j 0
  unfolding read_frames
  seen_stays [] x j h = refl
  seen_stays (f ∷ fs) x j h =
      let n = one_more x.seen x.station.used in
      let m : length (frame_step a f x).seen ≡ length (x.seen ++ (x.station.used ∷ [])) = ap length (step_seen f x) in
      seen_stays fs (frame_step a f x) j (omega arith)
      ∙ ap (λ (l : List ℕ). get_or l j 0) (step_seen f x)
      ∙ get_front x.seen (x.station.used ∷ []) j h

  pub mask_stays : (fs : List Heard) (x : Reading) (j : ℕ) → j < x.frame → has_bit (read_frames a fs x).unkept j ≡ has_bit x.unkept j
  unfolding read_frames
  mask_stays [] x j h = refl
  mask_stays (f ∷ fs) x j h =
      let n = step_frame f x in
      mask_stays fs (frame_step a f x) j (omega arith) ∙ step_other f x j (λ e. omega arith)

-- ---- all of them

pub record Reads (M : Sent) (l : Ledger) (e : ℕ → Option Message) (x y : Reading) (h : Entered Ledger) : Type 0 where
  pub events : List Event2
  pub words : events_in y.words ≡ events_in x.words ++ events
  pub got : Received M x.station.count events h.out (view_of y.station y.store) h.left l.handed e
  pub long : length y.station.members ≡ 62

join_one : (x : Option Event2) (es : List Event2) → also_one x [] ++ es ≡ also_one x es
join_one None es = refl
join_one (Some v) es = refl

words_join : (first : List Event2) (x : Option Event2) (es mid last : List Event2) → last ≡ mid ++ es → mid ≡ first ++ also_one x [] → last ≡ first ++ also_one x es
words_join first x es mid last p q =
    p
    ∙ ap (λ (w : List Event2). w ++ es) q
    ∙ append_assoc first (also_one x []) es
    ∙ ap (λ (w : List Event2). first ++ w) (join_one x es)

module _ (M : Sent) (small : (s k : ℕ) → M.watched s ≡ true → length (M.text s k) ≤ 65535) (a : Air) (numbers : List ℕ) where
  -- one frame, with the book's answers for it
  step_read : (f : Heard) → Fine f → (x : Reading) (i : ℕ) (l : Ledger) (e : ℕ → Option Message) → Ready x i → i < 64 → Tie M (view_of x.station x.store) l e
      → length x.station.members ≡ 62 → (u : ℕ) (b : Bool) → x.station.used ≡ u → has_bit (frame_step a f x).unkept i ≡ b → FrameOk M l f (get_or numbers i 0) u
      → Read M l e x (frame_step a f x) (book_frame M f (get_or numbers i 0) u b l)
  step_read f fine x i l e r few tie long u b p q ok =
      let g = book_read M small x (frame_step a f x) l e tie (get_or numbers i 0) (subst (λ (y : ℕ). y < 64) (sym r.frame) few)
      (r.clear x.frame (subst (λ (y : ℕ). i ≤ y) (sym r.frame) (omega arith))) f fine (subst (FrameOk M l f (get_or numbers i 0)) (sym p) ok) (step_reads a x tie.tidy long f) in
      let t : has_bit (frame_step a f x).unkept x.frame ≡ b = ap (has_bit (frame_step a f x).unkept) r.frame ∙ q in
      subst (λ (y : ℕ). Read M l e x (frame_step a f x) (book_frame M f (get_or numbers i 0) y b l)) p
      (subst (λ (y : Bool). Read M l e x (frame_step a f x) (book_frame M f (get_or numbers i 0) x.station.used y l)) t g)

  pub frames_read_lem : (fs : List Heard) → AllFine fs → (x : Reading) (i : ℕ) (l : Ledger) (e : ℕ → Option Message) → Ready x i → i + length fs ≤ 64
      → Tie M (view_of x.station x.store) l e → length x.station.members ≡ 62
      → FramesOk M fs i numbers (read_frames a fs x).seen (read_frames a fs x).unkept l
      → Reads M l e x (read_frames a fs x) (book_frames M fs i numbers (read_frames a fs x).seen (read_frames a fs x).unkept l)
  unfolding read_frames book_frames
  frames_read_lem [] fine x i l e r few tie long ok =
      record { events = []; words = (untouched x).events; got = record { tie = tie; pairs = tt; rising = tt; once = tt; after = refl }; long = long }
  frames_read_lem (f ∷ fs) (AllFine.more h₀ fine) x i l e r few tie long ok =
      let y = read_frames a fs (frame_step a f x) in
      let x' = frame_step a f x in
      let r' = step_ready a f x i r in
      let m : length x'.seen ≡ i + 1 = r'.seen in
      let c : x'.frame ≡ i + 1 = r'.frame in
      let p : x.station.used ≡ get_or y.seen i 0 =
      sym (seen_stays a fs x' i (omega arith)
      ∙ ap (λ (s : List ℕ). get_or s i 0) (step_seen a f x)
      ∙ ap (λ (j : ℕ). get_or (x.seen ++ (x.station.used ∷ [])) j 0) (sym r.seen)
      ∙ get_last x.seen x.station.used) in
      let q : has_bit x'.unkept i ≡ has_bit y.unkept i = sym (mask_stays a fs x' i (omega arith)) in
      let n = book_frame M f (get_or numbers i 0) (get_or y.seen i 0) (has_bit y.unkept i) l in
      let g : Read M l e x x' n = step_read f h₀ x i l e r (omega arith) tie long (get_or y.seen i 0) (has_bit y.unkept i) p q ok.0 in
      let h = book_frames M fs (i + 1) numbers y.seen y.unkept n.left in
      let z = frames_read_lem fs fine x' (i + 1) n.left (entry_after g.event n.out e) r' (omega arith)
      (joint_tie M l e g.event n.out (view_of x'.station x'.store) n.left g.joint) g.long ok.1 in
      record {
        events = also_one g.event z.events;
        words = words_join (events_in x.words) g.event z.events (events_in x'.words) (events_in y.words) z.words g.events;
        got = subst (λ (count : ℕ). Received M count (also_one g.event z.events) (n.out ++ h.out) (view_of y.station y.store) h.left l.handed e) (step_count a f x)
            (combine M l e g.event n.out (view_of x'.station x'.store) n.left g.joint z.events h.out (view_of y.station y.store) h.left z.got);
        long = z.long;
      }
