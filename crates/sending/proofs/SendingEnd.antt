-- The theorem of request U11: every message that the sending end drops by acknowledgement of kept pieces has landed, unchanged. It stands on the definitions of
-- `outbox` and on those that the station's entry points name, and assumes nothing.
use Rattle.std.specs.Prelude.{Option, Some, None}
use mathlib.Core.Bool.{Bool, true, false, cond, ◌&&◌}
use mathlib.Core.List.{List, [], ◌∷◌, ◌++◌}
use mathlib.Core.Logic.{◌⊎◌, inl, inr, ⊎_elim}
use mathlib.Core.Path.{◌≡◌, refl, sym, ap, ◌∙◌, subst}
use Prim.Native.Nat.{ℕ, zero, suc, ◌+◌, ◌/◌, ◌%◌, ◌≤◌, ◌<◌}
use native.Mathlib.Omega.{arith}
use lib.Dec.{eqb, ltb, leb}
use lib.ListN.{length, get_or}
use borrow.Author.Tests.{eqb-true, ltb-false, eq-eqb, ne_eqb}
use Rattle.bits.specs.Mask.{has_bit}
use Rattle.bits.proofs.Lists.{and_true, cond_keeps, eq_or_not, never_both}
use Rattle.words.specs.Words.{Heard, lost, heard, parse}
use Rattle.inbox.specs.Messages.{framed, Cut}
use Rattle.net.specs.declared.Station.{Station}
use Rattle.net.specs.Net.{is_member}
use Rattle.frames.specs.Frames.{is_there}
use Rattle.config.specs.declared.Given.{Given}
use Rattle.station.specs.Entries.{start_refusal, reading_of}
use Rattle.outbox.specs.Outbox.{Sent}
use Rattle.outbox.specs.Bursts.{msg_field}
use Rattle.outbox.specs.Senders.{post_refusal, take_refusal, memory_refusal, both_refusal}
use Rattle.outbox.proofs.Bursting.{take_open}
use Rattle.promise.specs.Promise as item3
use Rattle.promise.specs.Promise.{Call, admission, reception, decision, sending, closing, reading, freeing, charging, signing, asking, handed, lent_to, Net, result, InBook, brings, reads, frees, ends, changes_nothing, in_book, outcome, is_refused, Answers, answers_of, Stays, sent_now, Ledger, Book, Entered, unchanged, empty_book, Message, Event2, enter, enter_all, book_frames, book_ends, book_done, book_call, frames_by, is_boats, is_watched, named, PieceOk, FrameOk, FramesOk, CallOk, Pairs, ReadsAs, AtCall, started, posting, all_below}
use Rattle.promise.proofs.Ledgers.{all_of}
use Rattle.promise.proofs.Messages.{Tied, started_tied, StayGood, call_good}
use Rattle.promise.proofs.Readings.{chain_count}
use Rattle.promise.proofs.WalkCalls.{all, step_walk}
use Rattle.sending.specs.Runs.{Event, Post, Take, Stale, Held, Run, piece, Is, start, All}
use Rattle.sending.specs.Runs as runs
use Rattle.sending.specs.Sending.{Step, post, take, stale, held, asks, answer, shore, bits_of, is_ack_to, acks_from, done, done_by, run_after, sender, bodies_in, posted, sent_by, Reception, Landing, Ends, fresh, reception_by, landings_of, shore_after, own_after, stepped, Ours, FrameFrom, FramesFrom, CallFrom, Carried, Among, no_reception, MadeFor, StepOk, StepsOk, Landed, AtStep, Holds, SendingEnd}
use Rattle.sending.proofs.Polled.{Polled, step_polled, start_polled}
use Rattle.sending.proofs.Book.{frames_more, frames_cover, frames_new, among_front, among_back, among_split}
use Rattle.sending.proofs.Kept.{KeptAt, ack_kept}
use Rattle.sending.proofs.Ends.{own, K, CutOf, RunInv, event_inv, ledger_inv, Whole, AckedRun, acks_inv, acks_bodies, all_of_stays}

-- ---- events 2 and messages that pair off

-- what is entered stays: a later event names an empty cell
entry_stays : (count : ℕ) (es : List Event2) (ms : List Message) (f : ℕ → Option Message) (c : ℕ) (m : Message) → Pairs count es ms f → f c ≡ Some m → enter_all es ms f c ≡ Some m
entry_stays count [] [] f c m p h = h
entry_stays count [] (x ∷ ms) f c m p h = absurd p
entry_stays count (e ∷ es) [] f c m p h = absurd p
entry_stays count (e ∷ es) (x ∷ ms) f c m p h =
    entry_stays count es ms (enter e.cell (Some x) f) c m p.4
    (⊎_elim (λ q. absurd (let z : Some m ≡ None = sym h ∙ ap f (sym q) ∙ p.3 in let w : ◌≡◌ {A = ℕ} 0 1 = cc in omega arith))
    (λ n. ap (λ (t : Bool). cond t (Some x) (f c)) (ne_eqb e.cell c n) ∙ h) (eq_or_not e.cell c))

-- the landing of a message that is handed over
record Lands (count : ℕ) (m : Message) (n : Net) (ls : List Landing) (f : ℕ → Option Message) : Type 0 where
  landing : Landing
  written : Among landing ls
  message : landing.message ≡ m
  slot : landing.event.slot ≡ m.slot
  number : landing.event.number ≡ m.number % 256
  below : landing.event.cell < count
  entry : f landing.event.cell ≡ Some m
  bytes : landing.bytes ≡ reading_of n.station n.store landing.event.cell

lands : (count : ℕ) (es : List Event2) (ms : List Message) (f : ℕ → Option Message) (m : Message) (n : Net) → Pairs count es ms f → Among m ms
    → Lands count m n (landings_of es ms n) (enter_all es ms f)
lands count [] [] f m n p a = absurd a
lands count [] (x ∷ ms) f m n p a = absurd p
lands count (e ∷ es) [] f m n p a = absurd p
lands count (e ∷ es) (x ∷ ms) f m n p (inl q) =
    record {
      landing = record { message = x; event = e; bytes = reading_of n.station n.store e.cell };
      written = inl refl;
      message = sym q;
      slot = p.0 ∙ ap (λ (y : Message). y.slot) (sym q);
      number = p.1 ∙ ap (λ (y : Message). y.number % 256) (sym q);
      below = p.2;
      entry =
          entry_stays count es ms (enter e.cell (Some x) f) e.cell x p.4 (ap (λ (t : Bool). cond t (Some x) (f e.cell)) (eq-eqb e.cell e.cell refl))
          ∙ ap (λ (y : Message). Some y) (sym q);
      bytes = refl;
    }
lands count (e ∷ es) (x ∷ ms) f m n p (inr a) =
    let r = lands count es ms (enter e.cell (Some x) f) m n p.4 a in
    record { landing = r.landing; written = inr r.written; message = r.message; slot = r.slot; number = r.number; below = r.below; entry = r.entry; bytes = r.bytes }

-- ---- one call of the station, in the book

step_count : (c : Call) (n : Net) → (item3.step c n).station.count ≡ n.station.count
step_count c n = chain_count (step_walk all tt tt tt c n (λ words snr now lent room numbers e. tt))

-- only a reception hands messages over
reception_pairs : (N : item3.Sent) (n : Net) (b : Book) (a : Answers) (k : InBook) (t : Bool) (m : Message)
    → AtCall N n.station.count k a.events (cond t (unchanged b) (book_done N k a b)).out n b
    → Among m (cond t (unchanged b) (book_done N k a b)).out
    → Pairs n.station.count a.events (named N.watched a.events (cond t (unchanged b) (book_done N k a b)).out) b.entry
    × ((cond t (unchanged b) (book_done N k a b)).left.entry ≡ enter_all a.events (named N.watched a.events (cond t (unchanged b) (book_done N k a b)).out) b.entry)
reception_pairs N n b a k true m p h = absurd h
reception_pairs N n b a (brings words numbers lent) false m p h = (p.pairs, refl)
reception_pairs N n b a (reads cell lent) false m p h = absurd h
reception_pairs N n b a (frees cell) false m p h = absurd h
reception_pairs N n b a (ends slot) false m p h = absurd h
reception_pairs N n b a changes_nothing false m p h = absurd h

-- where they pair off, each message that is handed over is named
named_among : (watched : ℕ → Bool) (es : List Event2) (ms : List Message) (m : Message) → Among m ms → Among m (named watched es ms)
named_among watched [] ms m h = h
named_among watched (e ∷ es) [] m h = absurd h
named_among watched (e ∷ es) (x ∷ ms) m (inl q) =
    cond_keeps (Among m) (watched e.slot) _ _ (λ _. inl q) (λ _. inr (named_among watched es (x ∷ ms) m (inl q)))
named_among watched (e ∷ es) (x ∷ ms) m (inr h) =
    cond_keeps (Among m) (watched e.slot) _ _ (λ _. inr (named_among watched es ms m h)) (λ _. inr (named_among watched es (x ∷ ms) m (inr h)))

module _ (slot : ℕ) (low : slot < 62) (bodies : List (List ℕ)) (small : (k : ℕ) → length (get_or bodies k []) ≤ 2046) where
  abbrev M : Stays
  M = sent_by slot bodies

  on : eqb slot slot ≡ true
  on = eq-eqb slot slot refl

  small_all : (s t k : ℕ) → eqb s slot ≡ true → length (get_or bodies k []) ≤ 65535
  small_all s t k q = let a = small k in omega arith

  -- ---- the premises of item 3

  field_parts : (seq off : ℕ) → off < 65536 → (msg_field seq off / 65536 % 256 ≡ seq % 256) × (msg_field seq off % 65536 ≡ off)
  field_parts seq off h = (omega arith, omega arith)

  module _ (b : Book) (bursts : List (List Sent)) (cuts : (x j : ℕ) → Is bursts x j → CutOf slot bodies (piece bursts x j)) where
    ours_ok : (l : Ledger) (number field : ℕ) (p : List ℕ) → Ours slot bursts l number field p → PieceOk (sent_now M b) l slot number field p
    ours_ok l number field p o =
        let x = piece bursts o.b o.j in
        let c = cuts o.b o.j o.sent in
        let n = small x.seq in
        let f = c.fits in
        let q = field_parts x.seq x.off (omega arith) in
        record {
          eight = ap (λ (y : ℕ). y / 65536 % 256) o.same.field_is ∙ q.0 ∙ ap (λ (y : ℕ). y % 256) (sym o.same.number_is);
          cut =
              subst (λ (y : ℕ). Cut (framed (own slot bodies y)) (field % 65536) p) (sym o.same.number_is)
              (subst (λ (y : ℕ). Cut (framed (own slot bodies x.seq)) y p) (sym (ap (λ (y : ℕ). y % 65536) o.same.field_is ∙ q.1))
              (subst (λ (y : List ℕ). Cut (framed (own slot bodies x.seq)) x.off y) (sym o.same.bytes_are) c));
          near = o.near;
        }

    frame_ok : (l : Ledger) (f : Heard) (k seen : ℕ) → FrameFrom slot bursts l f k seen → FrameOk (sent_now M b) l f k seen
    frame_ok l lost k seen h = tt
    frame_ok l (heard flags field p) k seen h = λ here.
        let q = and_true (eqb (flags % 64) slot) (is_boats flags seen) here in
        let e = eqb-true (flags % 64) slot q.0 in
        subst (λ (s : ℕ). PieceOk (sent_now M b) l s k field p) (sym e) (ours_ok l k field p (h q.1 e))

    frames_ok : (fs : List Heard) (i : ℕ) (numbers seen : List ℕ) (mask : ℕ) (l : Ledger)
        → FramesFrom slot bursts (sent_now M b) fs i numbers seen mask l → FramesOk (sent_now M b) fs i numbers seen mask l
    frames_ok [] i numbers seen mask l h = tt
    frames_ok (f ∷ fs) i numbers seen mask l h =
        (frame_ok l f (get_or numbers i 0) (get_or seen i 0) h.0, frames_ok fs (i + 1) numbers seen mask _ h.1)

    call_ok : (k : InBook) (a : Answers) → CallFrom slot bursts (sent_now M b) k a b → CallOk (sent_now M b) k a b
    call_ok (brings words numbers lent) a h = (h.0, λ q. frames_ok (frames_by (parse words)) 0 numbers a.seen a.mask b.ledger (h.1 q))
    call_ok (reads cell lent) a h = h
    call_ok (frees cell) a h = tt
    call_ok (ends s) a h = tt
    call_ok changes_nothing a h = tt

  -- ---- what a call leaves of this boat's part of the book

  record Onward (b : Book) (e : Entered Book) : Type 0 where
    more : (k i : ℕ) → b.ledger.covered slot k i ≡ true → e.left.ledger.covered slot k i ≡ true
    new : (k : ℕ) → e.left.ledger.handed slot k ≡ true → (b.ledger.handed slot k ≡ true) ⊎ Among (record { slot = slot; number = k }) e.out

  same_ledger : (b : Book) (e : Entered Book) → e.left.ledger ≡ b.ledger → Onward b e
  same_ledger b e q =
      record {
        more = λ k i h. ap (λ (l : Ledger). l.covered slot k i) q ∙ h;
        new = λ k h. inl (ap (λ (l : Ledger). l.handed slot k) (sym q) ∙ h);
      }

  onward : (N : item3.Sent) (b : Book) (bursts : List (List Sent)) (a : Answers) (k : InBook) (t : Bool) → a.refused ≡ t → CallFrom slot bursts N k a b
      → Onward b (cond t (unchanged b) (book_done N k a b))
  onward N b bursts a k true q h = same_ledger b (unchanged b) refl
  onward N b bursts a (brings words numbers lent) false q h =
      record {
        more = λ k i c. frames_more N (frames_by (parse words)) 0 numbers a.seen a.mask b.ledger slot k i c;
        new = λ k c. frames_new N (frames_by (parse words)) 0 numbers a.seen a.mask b.ledger slot k c;
      }
  onward N b bursts a (reads cell lent) false q h = same_ledger b _ refl
  onward N b bursts a (frees cell) false q h = same_ledger b _ refl
  onward N b bursts a (ends s) false q h =
      let z = ne_eqb s slot (h q) in
      unfold book_ends in
      record {
        more = λ k i c. ap (λ (t : Bool). cond t false (b.ledger.covered slot k i)) z ∙ c;
        new = λ k c. inl (sym (ap (λ (t : Bool). cond t false (b.ledger.handed slot k)) z) ∙ c);
      }
  onward N b bursts a changes_nothing false q h = same_ledger b _ refl

  -- ---- an acknowledgement's bit means a piece covered

  -- frame f, of number k, came and its bytes are covered, if it is this boat's
  abbrev CoveredBy : Ledger → Heard → ℕ → Type 0
  CoveredBy l lost k = ⊥
  CoveredBy l (heard flags field p) k = flags ≡ slot → (i : ℕ) → field % 65536 ≤ i → i < field % 65536 + length p → l.covered slot k i ≡ true

  abbrev Acked : Ledger → Reception → Type 0
  Acked l x = (w : ℕ) → Among w x.words → is_ack_to slot w ≡ true → (i : ℕ) → i < 6 → has_bit (bits_of w) i ≡ true
      → CoveredBy l (get_or x.frames i lost) (get_or x.numbers i 0)

  covered_on : (l l' : Ledger) → ((k i : ℕ) → l.covered slot k i ≡ true → l'.covered slot k i ≡ true) → (f : Heard) (k : ℕ) → CoveredBy l f k → CoveredBy l' f k
  covered_on l l' m lost k c = c
  covered_on l l' m (heard flags field p) k c = λ e i u v. m k i (c e i u v)

  up_flags : (seen flags : ℕ) → flags ≡ slot → is_member seen slot ≡ true → (is_boats flags seen ≡ true) × (flags % 64 ≡ slot)
  up_flags seen flags e h =
      let q : flags / 64 ≡ 0 = omega arith in
      let r : flags % 64 ≡ slot = omega arith in
      (rw (q, r, h) refl, r)

  kept_covered : (N : item3.Sent) → N.watched slot ≡ true → (fs : List Heard) (numbers seen : List ℕ) (mask : ℕ) (l : Ledger) (i : ℕ) → KeptAt slot (get_or fs i lost) mask i seen
      → CoveredBy (book_frames N fs 0 numbers seen mask l).left (get_or fs i lost) (get_or numbers i 0)
  kept_covered N w fs numbers seen mask l i k = at (get_or fs i lost) refl
    where
      at : (f : Heard) → get_or fs i lost ≡ f → CoveredBy (book_frames N fs 0 numbers seen mask l).left f (get_or numbers i 0)
      at lost q = never_both (is_there (get_or fs i lost)) k.there (ap is_there q)
      at (heard flags field p) q = λ e x u v.
          let z : 0 + i ≡ i = omega arith in
          let r = up_flags (get_or seen i 0) flags e k.member in
          subst (λ (j : ℕ). (book_frames N fs 0 numbers seen mask l).left.covered slot (get_or numbers j 0) x ≡ true) z
          (subst (λ (s : ℕ). (book_frames N fs 0 numbers seen mask l).left.covered s (get_or numbers (0 + i) 0) x ≡ true) r.1
          (frames_cover N fs 0 i numbers seen mask l flags field p q
          (subst (λ (j : ℕ). is_watched N.watched flags (get_or seen j 0) ≡ true) (sym z)
          (ap (λ (y : ℕ). N.watched y && is_boats flags (get_or seen i 0)) r.1 ∙ ap (λ (t : Bool). t && is_boats flags (get_or seen i 0)) w ∙ r.0)) (subst (λ (j : ℕ). has_bit mask j ≡ false) (sym z) k.unmarked) x u v))

  -- the reception that a call is, if it is one
  abbrev NewAcked : item3.Sent → Call → Net → Book → Type 0
  NewAcked N c n b = (r : Reception) → Among r (reception_by (in_book c) (outcome c n).words) → Acked (book_call N c n b).left.ledger r

  new_acked : (N : item3.Sent) → N.watched slot ≡ true → (c : Call) (n : Net) (b : Book) → Polled n.station → NewAcked N c n b
  unfolding result
  new_acked N o (admission packed relay now room) n b p r h = absurd h
  new_acked N o (decision now queue room) n b p r h = absurd h
  new_acked N o (posting to message queue) n b p r h = absurd h
  new_acked N o (sending now) n b p r h = absurd h
  new_acked N o (closing count) n b p r h = absurd h
  new_acked N o (reading cell lent) n b p r h = absurd h
  new_acked N o (freeing cell) n b p r h = absurd h
  new_acked N o (charging figures) n b p r h = absurd h
  new_acked N o (asking slot) n b p r h = absurd h
  new_acked N o (signing s) n b p r h = absurd h
  new_acked N o (reception words snr now lent room numbers) n b p r (inr h) = absurd h
  new_acked N o (reception words snr now lent room numbers) n b p r (inl q) =
      subst (Acked (book_call N (reception words snr now lent room numbers) n b).left.ledger) (sym q)
      (λ w m t i l h.
      let k = ack_kept slot n.station p words snr now (lent_to lent n.store) room w m t i l h in
      let z : is_refused (reception words snr now lent room numbers) n ≡ false = ap (λ (y : Bool). cond y false true) (eq-eqb (outcome (reception words snr now lent room numbers) n).refusal 0 k.0) in
      subst (λ (y : Bool). CoveredBy (cond y (unchanged b) (book_done N (in_book (reception words snr now lent room numbers)) (answers_of (reception words snr now lent room numbers) n) b)).left.ledger
      (get_or (frames_by (parse words)) i lost) (get_or numbers i 0)) (sym z)
      (kept_covered N o (frames_by (parse words)) numbers _ _ b.ledger i k.1))

  -- ---- the invariant

  record There (k : ℕ) (ls : List Landing) : Type 0 where
    landing : Landing
    written : Among landing ls
    message : (landing.message.slot ≡ slot) × (landing.message.number ≡ k)
    event : (landing.event.slot ≡ slot) × (landing.event.number ≡ k % 256)
    bytes : landing.bytes ≡ own slot bodies k

  record Inv (x : Ends) (rest : List (List ℕ)) : Type 0 where
    run : RunInv slot bodies x.book.ledger x.run rest
    tied : Tied (sent_now M x.book) x.net x.book
    polled : Polled x.net.station
    acks : (r : Reception) → Among r x.receptions → Acked x.book.ledger r
    landed : (k : ℕ) → x.book.ledger.handed slot k ≡ true → There k x.landings

  -- ---- the station's calls

  there_front : (k : ℕ) (ls xs : List Landing) → There k ls → There k (ls ++ xs)
  there_front k ls xs t =
      record { landing = t.landing; written = among_front t.landing ls xs t.written; message = t.message; event = t.event; bytes = t.bytes }

  module _ (x : Ends) (rest : List (List ℕ)) (v : Inv x rest) (c : Call)
      (ok : CallFrom slot x.run.bursts (sent_now M x.book) (in_book c) (answers_of c x.net) x.book) where
    abbrev e : Entered Book
    e = book_call (sent_now M x.book) c x.net x.book

    good : StayGood M c x.net x.book
    good = call_good M small_all c x.net x.book v.tied (call_ok x.book x.run.bursts v.run.pieces (in_book c) (answers_of c x.net) ok)

    went : Onward x.book e
    went = onward (sent_now M x.book) x.book x.run.bursts (answers_of c x.net) (in_book c) (is_refused c x.net) refl ok

    abbrev names : List Message
    names = named (λ s. eqb s slot) (answers_of c x.net).events e.out

    there_new : (k : ℕ) → Among (record { slot = slot; number = k }) e.out → There k (landings_of (answers_of c x.net).events names (item3.step c x.net))
    there_new k h =
        let p = reception_pairs (sent_now M x.book) x.net x.book (answers_of c x.net) (in_book c) (is_refused c x.net) (record { slot = slot; number = k }) good.at h in
        let l = lands x.net.station.count (answers_of c x.net).events names x.book.entry (record { slot = slot; number = k }) (item3.step c x.net) p.0
        (named_among (λ s. eqb s slot) (answers_of c x.net).events e.out (record { slot = slot; number = k }) h) in
        let g = call_good M small_all (reading l.landing.event.cell handed) (item3.step c x.net) e.left good.tied tt in
        let n = step_count c x.net in
        let below = l.below in
        let r = subst (λ (y : Option Message). ReadsAs (sent_now M e.left) y (item3.step c x.net) l.landing.event.cell)
        (ap (λ (f : ℕ → Option Message). f l.landing.event.cell) p.1 ∙ l.entry) (g.at.1 (omega arith)) in
        record {
          landing = l.landing;
          written = l.written;
          message = (ap (λ (m : Message). m.slot) l.message, ap (λ (m : Message). m.number) l.message);
          event = (l.slot, l.number);
          bytes = l.bytes ∙ r.1 on;
        }

    shore_inv : Inv (shore_after M c x) rest
    shore_inv =
        record {
          run = ledger_inv slot bodies x.book.ledger e.left.ledger x.run rest went.more v.run;
          tied = good.tied;
          polled = step_polled c x.net v.polled;
          acks = λ r h.
              ⊎_elim (λ a w m t i l q. covered_on x.book.ledger e.left.ledger went.more (get_or r.frames i lost) (get_or r.numbers i 0) (v.acks r a w m t i l q))
              (λ a. new_acked (sent_now M x.book) on c x.net x.book v.polled r a)
              (among_split r x.receptions (reception_by (in_book c) (outcome c x.net).words) h);
          landed = λ k h.
              ⊎_elim (λ a. there_front k x.landings (landings_of (answers_of c x.net).events names (item3.step c x.net)) (v.landed k a))
              (λ a.
              let t = there_new k a in
              record {
                landing = t.landing;
                written = among_back t.landing x.landings (landings_of (answers_of c x.net).events names (item3.step c x.net)) t.written;
                message = t.message;
                event = t.event;
                bytes = t.bytes;
              })
              (went.new k h);
        }

  -- ---- this end's calls

  own_inv : (x : Ends) (s : Step) (rest : List (List ℕ)) (w : List (List ℕ)) → Inv x w → RunInv slot bodies x.book.ledger (sender s x.run) rest → Inv (own_after s x) rest
  own_inv x s rest w v r = record { run = r; tied = v.tied; polled = v.polled; acks = v.acks; landed = v.landed }

  -- one event, or none where the call is refused
  abbrev Goes : Ledger → Run → List (List ℕ) → List Event → Type 0
  Goes l r rest es = RunInv slot bodies l r (bodies_in es ++ rest) → RunInv slot bodies l (run_after es r) rest

  goes_none : (l : Ledger) (r : Run) (rest : List (List ℕ)) → Goes l r rest []
  unfolding bodies_in run_after
  goes_none l r rest v = v

  goes_post : (l : Ledger) (r : Run) (rest : List (List ℕ)) (d : List ℕ) → r.box.next_seq < 4294967295 → Goes l r rest (Post d ∷ [])
  unfolding bodies_in run_after
  goes_post l r rest d h v = event_inv slot bodies l (Post d) r rest v h

  goes_take : (l : Ledger) (r : Run) (rest : List (List ℕ)) (max room : ℕ) → 0 < max → max ≤ 255 → Goes l r rest (Take max room ∷ [])
  unfolding bodies_in run_after
  goes_take l r rest max room h s v = event_inv slot bodies l (Take max room) r rest v (h, s)

  goes_stale : (l : Ledger) (r : Run) (rest : List (List ℕ)) → Goes l r rest (Stale ∷ [])
  unfolding bodies_in run_after
  goes_stale l r rest v = event_inv slot bodies l Stale r rest v tt

  goes_held : (l : Ledger) (r : Run) (rest : List (List ℕ)) (next : ℕ) (also : List ℕ) → Goes l r rest (Held next also ∷ [])
  unfolding bodies_in run_after
  goes_held l r rest next also v = event_inv slot bodies l (Held next also) r rest v tt

  done_goes : (l : Ledger) (r : Run) (rest : List (List ℕ)) (refusal : ℕ) (es : List Event) → (refusal ≡ 0 → Goes l r rest es) → Goes l r rest (done refusal es)
  done_goes l r rest refusal es f = cond_keeps (Goes l r rest) (eqb refusal 0) es [] (λ q. f (eqb-true refusal 0 q)) (λ _. goes_none l r rest)

  -- ---- acknowledgements

  -- a piece whose bit is set is covered
  carried_kept : (l : Ledger) (bs : List (List Sent)) (sent j : ℕ) (f : Heard) (number : ℕ) → CutOf slot bodies (piece bs sent j) → Is bs sent j
      → Carried slot f number (piece bs sent j) → CoveredBy l f number → K slot bodies bs l sent j
  carried_kept l bs sent j lost number c i h k = absurd k
  carried_kept l bs sent j (heard flags field p) number c i h k =
      let x = piece bs sent j in
      let m = h.1 in
      let n = small x.seq in
      let f = c.fits in
      let o : field % 65536 ≡ x.off = ap (λ (y : ℕ). y % 65536) m.field_is ∙ (field_parts x.seq x.off (omega arith)).1 in
      let w : length p ≡ length x.bytes = ap length m.bytes_are in
      (i, λ y u v. subst (λ (z : ℕ). l.covered slot z y ≡ true) m.number_is (k h.0 y (omega arith) (omega arith)))

  module _ (x : Ends) (rest : List (List ℕ)) (v : Inv x rest) (word sent : ℕ) (frames : List (Option ℕ)) (r : Reception) (made : MadeFor slot x word sent frames r) where
    acked_run : AckedRun slot bodies x.book.ledger x.run (run_after (acks_from (bits_of word) sent 0 frames) x.run) rest
    acked_run =
        acks_inv slot bodies x.book.ledger (bits_of word) sent 0 frames x.run rest v.run
        (λ k j q a b.
        let z : 0 + k ≡ k = omega arith in
        let c = made.carried k j q in
        carried_kept x.book.ledger x.run.bursts sent j (get_or r.frames k lost) (get_or r.numbers k 0) (v.run.pieces sent j c.0) c.0 c.1
        (v.acks r made.came word made.returned made.ack k (omega arith) (subst (λ (y : ℕ). has_bit (bits_of word) y ≡ true) z b)))

  whole_landed : (x : Ends) (rest : List (List ℕ)) → Inv x rest → (q : ℕ) → Whole slot bodies x.book.ledger q → Landed slot q (own slot bodies q) x
  whole_landed x rest v q h =
      let z : x.book.ledger.handed slot q ≡ true =
      v.tied.tie.says slot q
      ∙ all_of (2 + length (own slot bodies q)) (x.book.ledger.covered slot q) h in
      let t = v.landed q z in
      record { handed = z; landing = t.landing; written = t.written; message = t.message; event = t.event; bytes = t.bytes }

  -- what an acknowledgement does, refused or not
  record Out (x : Ends) (rest : List (List ℕ)) (es : List Event) : Type 0 where
    at : All (λ m. runs.Stays m.seq (run_after es x.run).box.msgs ⊎ Landed slot m.seq (own slot bodies m.seq) x) x.run.box.msgs
    inv : RunInv slot bodies x.book.ledger (run_after es x.run) rest

  done_bodies : (refusal : ℕ) (es : List Event) → bodies_in es ≡ [] → bodies_in (done refusal es) ≡ []
  unfolding bodies_in
  done_bodies refusal es h = cond_keeps (λ (l : List Event). bodies_in l ≡ []) (eqb refusal 0) es [] (λ _. h) (λ _. refl)

  inv_rest : (x : Ends) (rest bs : List (List ℕ)) → bs ≡ [] → Inv x (bs ++ rest) → Inv x rest
  inv_rest x rest bs e v = subst (λ (l : List (List ℕ)). Inv x (l ++ rest)) e v

  answer_out : (x : Ends) (rest : List (List ℕ)) → Inv x rest → (word sent : ℕ) (frames : List (Option ℕ)) (r : Reception) → MadeFor slot x word sent frames r → (refusal : ℕ)
      → Out x rest (done refusal (acks_from (bits_of word) sent 0 frames))
  unfolding run_after
  answer_out x rest v word sent frames r made refusal =
      let a = acked_run x rest v word sent frames r made in
      cond_keeps (Out x rest) (eqb refusal 0) _ []
      (λ _.
      record {
        at = all_of_stays (λ q. runs.Stays q (run_after (acks_from (bits_of word) sent 0 frames) x.run).box.msgs ⊎ Landed slot q (own slot bodies q) x) x.run.box.msgs
            (λ q s. ⊎_elim (λ t. inl t) (λ t. inr (whole_landed x rest v q t)) (a.left q s));
        inv = a.inv;
      })
      (λ _. record { at = all_of_stays (λ q. runs.Stays q x.run.box.msgs ⊎ Landed slot q (own slot bodies q) x) x.run.box.msgs (λ q s. inl s); inv = v.run })

  -- ---- every step

  record Went (e : Step) (x : Ends) (rest : List (List ℕ)) : Type 0 where
    at : AtStep slot bodies e x
    inv : Inv (stepped M e x) rest

  step_went : (e : Step) (x : Ends) (rest : List (List ℕ)) → Inv x (bodies_in (done_by e x.run) ++ rest) → StepOk slot M e x → Went e x rest
  unfolding done_by stepped
  step_went (post body memory) x rest v ok =
      record {
        at = tt;
        inv = own_inv x (post body memory) rest _ v
            (done_goes x.book.ledger x.run rest (post_refusal (length x.run.box.msgs) memory (length body)) (Post body ∷ [])
            (λ q. goes_post x.book.ledger x.run rest body (ok q)) v.run);
      }
  step_went (take max room out bytes marks) x rest v ok =
      record {
        at = tt;
        inv = own_inv x (take max room out bytes marks) rest _ v
            (done_goes x.book.ledger x.run rest (take_refusal out bytes marks max room) (Take max room ∷ [])
            (λ q. let o = take_open out bytes marks max room q in goes_take x.book.ledger x.run rest max room o.2 o.3) v.run);
      }
  step_went (stale marks) x rest v ok =
      record { at = tt; inv = own_inv x (stale marks) rest _ v (done_goes x.book.ledger x.run rest (memory_refusal marks) (Stale ∷ []) (λ q. goes_stale x.book.ledger x.run rest) v.run) }
  step_went (held next also bytes marks) x rest v ok =
      record {
        at = tt;
        inv = own_inv x (held next also bytes marks) rest _ v
            (done_goes x.book.ledger x.run rest (both_refusal bytes marks) (Held next also ∷ []) (λ q. goes_held x.book.ledger x.run rest next also) v.run);
      }
  step_went asks x rest v ok = record { at = tt; inv = own_inv x asks rest _ v (goes_none x.book.ledger x.run rest v.run) }
  step_went (answer word sent frames was bytes marks) x rest v ok =
      let o = answer_out x rest (inv_rest x rest _ (done_bodies (both_refusal bytes marks) (acks_from (bits_of word) sent 0 frames) (acks_bodies (bits_of word) sent 0 frames)) v)
      word sent frames (get_or x.receptions was no_reception) ok (both_refusal bytes marks) in
      record { at = o.at; inv = own_inv x (answer word sent frames was bytes marks) rest _ v o.inv }
  step_went (shore c) x rest v ok = record { at = tt; inv = unfold bodies_in in shore_inv x rest v c ok }

  run_is : (e : Step) (x : Ends) → sender e x.run ≡ (stepped M e x).run
  unfolding stepped done_by run_after
  run_is (post body memory) x = refl
  run_is (take max room out bytes marks) x = refl
  run_is (stale marks) x = refl
  run_is (held next also bytes marks) x = refl
  run_is asks x = refl
  run_is (answer word sent frames was bytes marks) x = refl
  run_is (shore c) x = refl

  steps_hold : (es : List Step) (x : Ends) → Inv x (posted es x.run) → StepsOk slot M es x → Holds slot bodies M es x
  unfolding StepsOk Holds posted
  steps_hold [] x v ok = tt
  steps_hold (e ∷ es) x v ok =
      let w = step_went e x (posted es (sender e x.run)) v ok.0 in
      (w.at, steps_hold es (stepped M e x) (subst (λ (r : Run). Inv (stepped M e x) (posted es r)) (run_is e x) w.inv) ok.1)

  start_inv : (s : Station) (g : Given) (store : List ℕ) → start_refusal g (length store) ≡ 0 → Inv (fresh (started s g store)) bodies
  start_inv s g store e =
      record {
        run = record {
          run = record { good = tt; rise = omega arith; numbers = λ b j i. absurd (omega (arith, i.0)) };
          pieces = λ b j i. absurd (omega (arith, i.0));
          texts = tt;
          front = [];
          split = refl;
          count = refl;
        };
        tied = started_tied (sent_now M empty_book) s g store e;
        polled = start_polled s g store e;
        acks = λ r h. absurd h;
        landed = λ k h. absurd (never_both false h refl);
      }

-- ---- what this end posts is short

short_post : (messages memory n : ℕ) → post_refusal messages memory n ≡ 0 → n ≤ 2046
short_post messages memory n e = at (ltb memory 16384) (ltb 2046 n) refl e
  where
    at : (a b : Bool) → ltb 2046 n ≡ b → ◌≡◌ {A = ℕ} (cond a 7 (cond b 29 (cond (leb 8 messages) 28 0))) 0 → n ≤ 2046
    at true b q h = absurd (omega arith)
    at false true q h = absurd (omega arith)
    at false false q h = ltb-false 2046 n q

abbrev EachBody : List (List ℕ) → Type 0
EachBody [] = Unit {0}
EachBody (d ∷ ds) = (length d ≤ 2046) × EachBody ds

body_join : (a b : List (List ℕ)) → EachBody a → EachBody b → EachBody (a ++ b)
body_join [] b x y = y
body_join (d ∷ a) b x y = (x.0, body_join a b x.1 y)

body_at : (ds : List (List ℕ)) (k : ℕ) → EachBody ds → length (get_or ds k []) ≤ 2046
body_at [] k x = omega arith
body_at (d ∷ ds) zero x = x.0
body_at (d ∷ ds) (suc k) x = body_at ds k x.1

done_short : (refusal : ℕ) (es : List Event) → (refusal ≡ 0 → EachBody (bodies_in es)) → EachBody (bodies_in (done refusal es))
unfolding bodies_in
done_short refusal es f = cond_keeps (λ (l : List Event). EachBody (bodies_in l)) (eqb refusal 0) es [] (λ q. f (eqb-true refusal 0 q)) (λ _. tt)

step_short : (e : Step) (r : Run) → EachBody (bodies_in (done_by e r))
unfolding done_by bodies_in
step_short (post body memory) r =
    done_short (post_refusal (length r.box.msgs) memory (length body)) (Post body ∷ []) (λ q. (short_post (length r.box.msgs) memory (length body) q, tt))
step_short (take max room out bytes marks) r = done_short (take_refusal out bytes marks max room) (Take max room ∷ []) (λ _. tt)
step_short (stale marks) r = done_short (memory_refusal marks) (Stale ∷ []) (λ _. tt)
step_short (held next also bytes marks) r = done_short (both_refusal bytes marks) (Held next also ∷ []) (λ _. tt)
step_short asks r = tt
step_short (answer word sent frames was bytes marks) r =
    done_short (both_refusal bytes marks) (acks_from (bits_of word) sent 0 frames) (λ _. subst EachBody (sym (acks_bodies (bits_of word) sent 0 frames)) tt)
step_short (shore c) r = tt

posted_short : (es : List Step) (r : Run) → EachBody (posted es r)
unfolding posted
posted_short [] r = tt
posted_short (e ∷ es) r = body_join (bodies_in (done_by e r)) (posted es (sender e r)) (step_short e r) (posted_short es (sender e r))

pub sending_end : SendingEnd
sending_end s g store z slot low es ok =
    steps_hold slot low (posted es start) (λ k. body_at (posted es start) k (posted_short es start))
    es (fresh (started s g store)) (start_inv slot low (posted es start) (λ k. body_at (posted es start) k (posted_short es start)) s g store z) ok
