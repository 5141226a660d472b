-- The premises of item 3 on messages and calls are needed: calls from a start that break one of them alone (`otherwise`), and of which what is promised does not
-- hold (`broken`, `too_old`). Assumes nothing.
use Rattle.std.specs.Prelude.{None}
use mathlib.Core.Path.{◌≡◌, refl, sym, ap, ◌∙◌, subst}
use mathlib.Core.Bool.{Bool, true, false, not, ◌&&◌}
use mathlib.Core.List.{List, [], ◌∷◌, ◌++◌}
use mathlib.Core.Logic.{⊎_elim}
use Prim.Native.Nat.{ℕ, zero, suc, ◌+◌, ◌*◌, ◌/◌, ◌%◌, ◌≤◌}
use native.Mathlib.Omega.{arith}
use lib.Dec.{ltb, eqb}
use lib.ListN.{length, take, replicate, get_or, length-replicate}
use Rattle.bits.specs.Loop.{first}
use Rattle.bits.specs.Mask.{has_bit, with_bit, without_bit, lowest_free}
use Rattle.bits.specs.Stop.{stop}
use Rattle.bits.proofs.Lists.{cases, cond_keeps, le_or_lt}
use Rattle.wire.specs.Call.{digit, char, trim_start, trim_end, unpacked}
use Rattle.wire.specs.Numbers.{widened, widened_at}
use Rattle.words.specs.Words.{Heard, lost, heard, word_ok, payload_ok, unpack, payload, frame_of, item_at, frames_of, head_ok, parse}
use Rattle.out.specs.Encode.{pack, frames_words, burst_words}
use Rattle.inbox.specs.Cells.{seek, next, grow, settle}
use Rattle.inbox.specs.Cells as cells
use Rattle.inbox.specs.Messages.{framed, Cut, shows_of}
use Rattle.stream.specs.Window.{slide_of, mark_of, window_of}
use Rattle.stream.specs.Table.{own_cell, put_of, accept}
use Rattle.net.specs.declared.Settings.{Settings}
use Rattle.net.specs.Net.{is_member, new_station}
use Rattle.admit.specs.Admission.{find_call, seat_of, leads_to}
use Rattle.frames.specs.Pieces.{piece_frame}
use Rattle.frames.specs.Frames.{read_frame, frame_step, read_frames}
use Rattle.rx.specs.Ending.{reply_end}
use Rattle.rx.specs.Reception.{ncs_rx}
use Rattle.station.specs.Entries.{admit_refusal, admit_of, receive_refusal, receive_of, cell_refusal, read_refusal, reading_of, free_of}
use Rattle.promise.specs.Promise.{handed, another, Net, InBook, Call, reception, reading, freeing, result, in_book, is_refused, step, after, Stays, Sent, sent_now, Ledger, Book, empty_book, Entered, unchanged, same, cover, also_handed, all_below, completes, book_piece, is_watched, book_frame, book_frames, frames_by, events_in, named, Answers, answers_of, book_done, book_call, Lowest, Pairs, Holds}
use Rattle.promise.proofs.Ledgers.{of_all}
use Rattle.promise.proofs.Pieces.{enter_by}
use Rattle.promise.proofs.Runs.{zero_time, one_cell, all_hi, all_empty, joins, hears, whole, apart}
use Rattle.promise.proofs.Alike.{filled, three_cells, having, up_to, run, reached, to_129}

-- ---- each after boat A was admitted to slot 0

-- number 128, whole, where 0 is not handed over: one too far. It is read as none and not marked; the book hands it over, and no event names it
abbrev pub far : List Call
far = joins ∷ hears (heard 0 (128 * 65536) (framed (104 ∷ 105 ∷ [])) ∷ []) (128 ∷ []) ∷ []

-- number 1 with the eight bits of 0: the event has another number than the message
abbrev pub misnumbered : List Call
misnumbered = joins ∷ hears (heard 0 0 (framed (104 ∷ 105 ∷ [])) ∷ []) (1 ∷ []) ∷ []

-- "hh" where the message is "hi": it is read back as it came
abbrev pub miscut : List Call
miscut = joins ∷ hears (heard 0 0 (framed (104 ∷ 104 ∷ [])) ∷ []) (0 ∷ []) ∷ reading 0 handed ∷ []

-- the second piece into another store, which has "xx": its bytes are joined to those
abbrev pub swapped : List Call
swapped =
    joins
    ∷ hears (heard 0 0 (2 ∷ 0 ∷ 104 ∷ []) ∷ []) (0 ∷ [])
    ∷ reception (burst_words (record { head = record { code = 0; hi = 0; extra = 0 }; frames = heard 0 3 (105 ∷ []) ∷ [] })) zero_time zero_time
    (another (2 ∷ 0 ∷ 120 ∷ 120 ∷ replicate 6396 7)) 8192 (0 ∷ [])
    ∷ reading 0 handed
    ∷ []

-- 65,536 bytes, one more than the premise allows: the two length bytes say 0. So its bound is tight
pub too_long : List ℕ
too_long = replicate 65536 0

pub too_long_is : length too_long ≡ 65536
unfolding too_long
too_long_is = length-replicate {A = ℕ} 65536 0

-- every message is that long
abbrev pub all_too_long : Stays
all_too_long = record { watched = λ s t. true; text = λ s t k. too_long }

-- the two length bytes alone: the station lands an empty message; an event, and no message of the book
abbrev pub overlong : List Call
overlong = joins ∷ hears (heard 0 0 (0 ∷ 0 ∷ []) ∷ []) (0 ∷ []) ∷ []

-- which has 65,536 bytes to come
uncovered : cover 0 0 0 2 empty_book.ledger.covered 0 0 2 ≡ false
unfolding cover
uncovered = refl

not_all : all_below (2 + length too_long) (cover 0 0 0 2 empty_book.ledger.covered 0 0) ≡ false
not_all =
    let l = too_long_is in
    ⊎_elim (λ t. absurd (apart (sym uncovered ∙ of_all (2 + length too_long) (cover 0 0 0 2 empty_book.ledger.covered 0 0) t 2 (omega arith)))) (λ t. t)
    (cases (all_below (2 + length too_long) (cover 0 0 0 2 empty_book.ledger.covered 0 0)))

pub record Broken (g : Settings) : Type 0 where
  pub far : Holds all_hi 1 far (one_cell g) empty_book → ⊥
  pub misnumbered : Holds all_hi 1 misnumbered (one_cell g) empty_book → ⊥
  pub miscut : Holds all_hi 1 miscut (one_cell g) empty_book → ⊥
  pub swapped : Holds all_hi 1 swapped (one_cell g) empty_book → ⊥
  pub overlong : Holds all_too_long 1 overlong (one_cell g) empty_book → ⊥

pub broken : (g : Settings) → Broken g
unfolding Holds step result admit_of admit_refusal new_station seat_of find_call first lowest_free has_bit with_bit without_bit leads_to unpacked digit char trim_start trim_end receive_of receive_refusal parse head_ok frames_of item_at frame_of payload unpack payload_ok word_ok pack frames_words ncs_rx read_frames frame_step read_frame piece_frame reply_end is_member accept widened widened_at own_cell put_of cells.accept shows_of settle grow seek next slide_of stop events_in book_frames book_frame cover also_handed all_below read_refusal cell_refusal reading_of
broken g =
    record {
      far = λ h. h.1.0.pairs;
      misnumbered = λ h. let z : ◌≡◌ {A = ℕ} 0 1 = h.1.0.pairs.1 in omega arith;
      miscut = λ h. let z : ◌≡◌ {A = ℕ} 104 105 = ap (λ (l : List ℕ). get_or l 1 0) ((h.1.1.0.1 (omega arith)).1 refl) in omega arith;
      swapped = λ h. let z : ◌≡◌ {A = ℕ} 120 104 = ap (λ (l : List ℕ). get_or l 0 0) ((h.1.1.1.0.1 (omega arith)).1 refl) in omega arith;
      overlong = λ h.
          subst (λ (t : Bool). Pairs 1 (record { slot = 0; cell = 0; number = 0 } ∷ []) (named (λ s. true) (record { slot = 0; cell = 0; number = 0 } ∷ []) ((enter_by t 0 0 empty_book.ledger (cover 0 0 0 2 empty_book.ledger.covered)).out ++ [])) (λ c. None))
          not_all h.1.0.pairs;
    }

-- ---- 129 below the lowest number not handed over

-- what was handed over stays so, but for a sign-off
abbrev GoesOn : InBook → Type 0
GoesOn (InBook.brings words numbers lent) = Unit {0}
GoesOn (InBook.reads cell lent) = Unit {0}
GoesOn (InBook.frees cell) = Unit {0}
GoesOn (InBook.ends slot) = ⊥
GoesOn InBook.changes_nothing = Unit {0}

handed_also : (s k : ℕ) (f : ℕ → ℕ → Bool) (a b : ℕ) → f a b ≡ true → also_handed s k f a b ≡ true
unfolding also_handed
handed_also s k f a b h = cond_keeps (λ (t : Bool). t ≡ true) (same s k a b) true (f a b) (λ _. refl) (λ _. h)

frame_handed : (M : Sent) (h : Heard) (k seen : ℕ) (marked : Bool) (l : Ledger) (a b : ℕ) → l.handed a b ≡ true → (book_frame M h k seen marked l).left.handed a b ≡ true
unfolding book_frame
frame_handed M lost k seen marked l a b h = h
frame_handed M (heard flags field p) k seen marked l a b h =
    cond_keeps (λ (e : Entered Ledger). e.left.handed a b ≡ true) (is_watched M.watched flags seen && not marked) _ (unchanged l)
    (λ _. cond_keeps (λ (e : Entered Ledger). e.left.handed a b ≡ true) (completes M (flags % 64) k l (cover (flags % 64) k (field % 65536) (length p) l.covered)) _ _
    (λ _. handed_also (flags % 64) k l.handed a b h) (λ _. h)) (λ _. h)

frames_handed : (M : Sent) (fs : List Heard) (i : ℕ) (numbers seen : List ℕ) (mask : ℕ) (l : Ledger) (a b : ℕ) → l.handed a b ≡ true
    → (book_frames M fs i numbers seen mask l).left.handed a b ≡ true
unfolding book_frames
frames_handed M [] i numbers seen mask l a b h = h
frames_handed M (f ∷ fs) i numbers seen mask l a b h = frames_handed M fs (i + 1) numbers seen mask _ a b (frame_handed M f _ _ _ l a b h)

done_handed : (M : Sent) (c : InBook) (w : Answers) (b : Book) (s k : ℕ) → GoesOn c → b.ledger.handed s k ≡ true → (book_done M c w b).left.ledger.handed s k ≡ true
done_handed M (InBook.brings words numbers lent) w b s k q h = frames_handed M (frames_by (parse words)) 0 numbers w.seen w.mask b.ledger s k h
done_handed M (InBook.reads cell lent) w b s k q h = h
done_handed M (InBook.frees cell) w b s k q h = h
done_handed M (InBook.ends slot) w b s k q h = absurd q
done_handed M InBook.changes_nothing w b s k q h = h

call_handed : (M : Sent) (c : Call) (n : Net) (b : Book) (s k : ℕ) → GoesOn (in_book c) → b.ledger.handed s k ≡ true → (book_call M c n b).left.ledger.handed s k ≡ true
call_handed M c n b s k q h =
    cond_keeps (λ (e : Entered Book). e.left.ledger.handed s k ≡ true) (is_refused c n) _ _ (λ _. h) (λ _. done_handed M (in_book c) (answers_of c n) b s k q h)

abbrev NoEnd : List Call → Type 0
NoEnd [] = Unit {0}
NoEnd (c ∷ cs) = GoesOn (in_book c) × NoEnd cs

-- what is promised of calls is promised of the last of them, with the book as it is then
later : (M : Stays) (count : ℕ) (cs ds : List Call) (n : Net) (b : Book) (s k : ℕ) → NoEnd cs → Holds M count (cs ++ ds) n b
    → (e : Book) × ((b.ledger.handed s k ≡ true → e.ledger.handed s k ≡ true) × Holds M count ds (after cs n) e)
unfolding Holds after
later M count [] ds n b s k q z = (b, (λ h. h, z))
later M count (c ∷ cs) ds n b s k q z =
    let r = later M count cs ds (step c n) (book_call (sent_now M b) c n b).left s k q.1 z.1 in
    (r.0, (λ h. r.1.0 (call_handed (sent_now M b) c n b s k q.0 h), r.1.1))

-- 0 is handed over, if it was not before
hands : (M : Sent) → M.text 0 0 ≡ [] → (l : Ledger) → (book_piece M 0 0 0 2 l).left.handed 0 0 ≡ true
unfolding all_below cover also_handed
hands M e l = rw e (go (l.handed 0 0) refl)
  where
    go : (b : Bool) → l.handed 0 0 ≡ b → (enter_by (not b && true) 0 0 l (cover 0 0 0 2 l.covered)).left.handed 0 0 ≡ true
    go true h = h
    go false h = refl

abbrev once_more_lem : Call
once_more_lem = hears (whole 0 ∷ []) (0 ∷ [])

-- number 0, handed over before, is read as 256, which lands: an event, and no message
last_refuted : (g : Settings) (b : Book) → b.ledger.handed 0 0 ≡ true → Holds all_empty 3 (once_more_lem ∷ []) (having g (window_of 129 0 0) 128) b → ⊥
unfolding Holds step after result new_station first lowest_free has_bit with_bit without_bit receive_of receive_refusal parse head_ok frames_of item_at frame_of payload unpack payload_ok word_ok pack frames_words ncs_rx read_frames frame_step read_frame piece_frame reply_end is_member accept widened widened_at own_cell put_of cells.accept shows_of settle grow seek next slide_of mark_of stop events_in book_frames book_frame cover also_handed all_below having filled cell_refusal free_of
last_refuted g b h z =
    subst (λ (t : Bool). Pairs 3 (record { slot = 0; cell = 0; number = 0 } ∷ []) (named (λ s. true) (record { slot = 0; cell = 0; number = 0 } ∷ []) ((enter_by (not t && true) 0 0 b.ledger (cover 0 0 0 2 b.ledger.covered)).out ++ [])) b.entry) h
    z.0.pairs

zero_handed : (g : Settings) (b : Book) → (book_call (sent_now all_empty b) once_more_lem (having g (up_to 127) 127) b).left.ledger.handed 0 0 ≡ true
unfolding Holds step after result new_station first lowest_free has_bit with_bit without_bit receive_of receive_refusal parse head_ok frames_of item_at frame_of payload unpack payload_ok word_ok pack frames_words ncs_rx read_frames frame_step read_frame piece_frame reply_end is_member accept widened widened_at own_cell put_of cells.accept shows_of settle grow seek next slide_of mark_of stop events_in book_frames book_frame cover also_handed all_below having filled cell_refusal free_of
zero_handed g b = hands (sent_now all_empty b) refl b.ledger

no_end : (n k : ℕ) → NoEnd (filled n k)
unfolding filled
no_end zero k = tt
no_end (suc n) k = (tt, (tt, no_end n (k + 1)))

both_none : (cs ds : List Call) → NoEnd cs → NoEnd ds → NoEnd (cs ++ ds)
both_none [] ds p q = q
both_none (c ∷ cs) ds p q = (p.0, both_none cs ds p.1 q)

run_no_end : NoEnd run
run_no_end = (
  tt,
  both_none (filled 15 1) (filled 28 16 ++ (filled 28 44 ++ (filled 28 72 ++ filled 28 100))) (no_end 15 1)
      (both_none (filled 28 16) (filled 28 44 ++ (filled 28 72 ++ filled 28 100)) (no_end 28 16)
      (both_none (filled 28 44) (filled 28 72 ++ filled 28 100) (no_end 28 44) (both_none (filled 28 72) (filled 28 100) (no_end 28 72) (no_end 28 100)))),
)

-- 0 to 128 are handed over, and 0 comes once more
abbrev pub old : List Call
old = run ++ (once_more_lem ∷ ((freeing 0 ∷ filled 1 128) ++ (once_more_lem ∷ [])))

pub too_old : (g : Settings) → Holds all_empty 3 old (three_cells g) empty_book → ⊥
unfolding Holds after filled
too_old g h =
    let a = later all_empty 3 run (once_more_lem ∷ ((freeing 0 ∷ filled 1 128) ++ (once_more_lem ∷ []))) (three_cells g) empty_book 0 0
    run_no_end h in
    let z : Holds all_empty 3 (once_more_lem ∷ ((freeing 0 ∷ filled 1 128) ++ (once_more_lem ∷ []))) (having g (up_to 127) 127) a.0 =
    subst (λ (n : Net). Holds all_empty 3 (once_more_lem ∷ ((freeing 0 ∷ filled 1 128) ++ (once_more_lem ∷ []))) n a.0) (reached g) a.1.1 in
    let c = later all_empty 3 (freeing 0 ∷ filled 1 128) (once_more_lem ∷ []) (step once_more_lem (having g (up_to 127) 127)) (book_call (sent_now all_empty a.0) once_more_lem (having g (up_to 127) 127) a.0).left 0 0
    (tt, no_end 1 128) z.1 in
    last_refuted g c.0 (c.1.0 (zero_handed g a.0)) (subst (λ (n : Net). Holds all_empty 3 (once_more_lem ∷ []) n c.0) (to_129 g) c.1.1)

-- the book before it, as far as the premises ask for it
abbrev pub old_book : Book
old_book =
    record {
      ledger = record { covered = λ s k i. eqb s 0 && ltb k 129 && ltb i 2; handed = λ s k. eqb s 0 && ltb k 129 };
      entry = λ c. None;
      stay = λ s. 0;
    }

-- ---- all else that the premises ask of these pieces
-- `misnumbered` would be right with the eight bits of 1, `miscut` of messages "hh", `swapped` in the store that was handed on, `overlong` of shorter messages

-- the premises on a piece, with other bounds on its number
pub record Within (under over : ℕ) (M : Sent) (l : Ledger) (s k field : ℕ) (p : List ℕ) : Type 0 where
  pub eight : field / 65536 % 256 ≡ k % 256
  pub cut : Cut (framed (M.text s k)) (field % 65536) p
  pub near : (n : ℕ) → Lowest l s n → (n ≤ k + under) × (k ≤ n + over)

-- as the premises have it: 128 below and 127 above. One more is too much, on either side
pub record Otherwise : Type 0 where
  pub far : Within 128 128 (sent_now all_hi empty_book) empty_book.ledger 0 128 (128 * 65536) (framed (104 ∷ 105 ∷ []))
  pub old : Within 129 127 (sent_now all_empty old_book) old_book.ledger 0 0 0 (framed [])
  pub misnumbered : Within 128 127 (sent_now all_hi empty_book) empty_book.ledger 0 1 65536 (framed (104 ∷ 105 ∷ []))
  pub miscut : Within 128 127 (record { watched = λ s. true; text = λ s k. 104 ∷ 104 ∷ [] }) empty_book.ledger 0 0 0 (framed (104 ∷ 104 ∷ []))
  pub swapped : Within 128 127 (sent_now all_hi empty_book) empty_book.ledger 0 0 0 (2 ∷ 0 ∷ 104 ∷ []) × Within 128 127 (sent_now all_hi empty_book) empty_book.ledger 0 0 3 (105 ∷ [])
  pub overlong : Within 128 127 (sent_now all_too_long empty_book) empty_book.ledger 0 0 0 (0 ∷ 0 ∷ [])

-- nothing is handed over, so 0 is the lowest
none_yet_lem : (k over : ℕ) → k ≤ over → (n : ℕ) → Lowest empty_book.ledger 0 n → (n ≤ k + 128) × (k ≤ n + over)
none_yet_lem k over a n w = ⊎_elim (λ b. (omega arith, omega arith)) (λ b. absurd (apart (w.1 0 (omega arith)))) (le_or_lt n 0)

up_to_128 : (n : ℕ) → Lowest old_book.ledger 0 n → (n ≤ 0 + 129) × (0 ≤ n + 127)
up_to_128 n w = ⊎_elim (λ b. (omega arith, omega arith)) (λ b. absurd (apart (w.1 129 b))) (le_or_lt n 129)

two_bytes_lem : 0 ∷ 0 ∷ [] ≡ take 2 (framed too_long)
two_bytes_lem = ap (λ (n : ℕ). n % 256 ∷ n / 256 % 256 ∷ []) (sym too_long_is)

pub otherwise : Otherwise
otherwise =
    record {
      far = record { eight = refl; cut = record { short = omega arith; fits = omega arith; same = refl }; near = none_yet_lem 128 128 (omega arith) };
      old = record { eight = refl; cut = record { short = omega arith; fits = omega arith; same = refl }; near = up_to_128 };
      misnumbered = record { eight = refl; cut = record { short = omega arith; fits = omega arith; same = refl }; near = none_yet_lem 1 127 (omega arith) };
      miscut = record { eight = refl; cut = record { short = omega arith; fits = omega arith; same = refl }; near = none_yet_lem 0 127 (omega arith) };
      swapped = (
        record { eight = refl; cut = record { short = omega arith; fits = omega arith; same = refl }; near = none_yet_lem 0 127 (omega arith) },
        record { eight = refl; cut = record { short = omega arith; fits = omega arith; same = refl }; near = none_yet_lem 0 127 (omega arith) },
      );
      overlong = record { eight = refl; cut = record { short = omega arith; fits = omega arith; same = two_bytes_lem }; near = none_yet_lem 0 127 (omega arith) };
    }
