-- Small wrong traces, pairings, readings and rosters, each refuted by a part of item 3's statement, over its own definitions; and two that it must let pass, with a
-- sign-off. The runs with which a premise is broken are in Needed. Assumes nothing.
use Rattle.std.specs.Prelude.{Option, Some, None}
use mathlib.Core.Path.{◌≡◌, refl, ap, ◌∙◌, subst}
use mathlib.Core.Bool.{Bool, true, false, not, ◌&&◌}
use mathlib.Core.List.{List, [], ◌∷◌, ◌++◌}
use Prim.Native.Nat.{ℕ, ◌+◌, ◌%◌, ◌≤◌, ◌<◌}
use native.Mathlib.Omega.{arith}
use lib.Dec.{eqb}
use lib.ListN.{length, get_or}
use Rattle.bits.specs.Loop.{first}
use Rattle.bits.specs.Mask.{has_bit, with_bit, lowest_free, without_bit}
use Rattle.bits.specs.Stop.{stop}
use Rattle.bits.proofs.Lists.{cond_keeps}
use Rattle.wire.specs.Call.{digit, char, trim_start, trim_end, unpacked}
use Rattle.wire.specs.Numbers.{widened, widened_at}
use Rattle.words.specs.Words.{Heard, lost, heard, word_ok, payload_ok, unpack, payload, frame_of, item_at, frames_of, head_ok, parse}
use Rattle.out.specs.Encode.{pack, frames_words}
use Rattle.inbox.specs.Cells.{seek, next, grow, settle}
use Rattle.inbox.specs.Cells as cells
use Rattle.inbox.specs.Messages.{shows_of}
use Rattle.stream.specs.Window.{slide_of}
use Rattle.stream.specs.Table.{own_cell, put_of, accept}
use Rattle.roster.specs.Members.{new_member}
use Rattle.net.specs.declared.Settings.{Settings}
use Rattle.net.specs.declared.Station.{Station}
use Rattle.net.specs.State.{with_used, with_member}
use Rattle.net.specs.Net.{is_member, blank_call, new_station}
use Rattle.admit.specs.Admission.{find_call, seat_of, leads_to}
use Rattle.frames.specs.Pieces.{piece_frame}
use Rattle.frames.specs.Frames.{read_frame, frame_step, read_frames}
use Rattle.rx.specs.Ending.{reply_end}
use Rattle.rx.specs.Reception.{ncs_rx}
use Rattle.station.specs.Entries.{admit_refusal, admit_of, receive_refusal, receive_of, cell_refusal, read_refusal, reading_of}
use Rattle.promise.specs.Promise.{handed, Net, InBook, result, step, after, leads, LinksHold, drew, over, poll, ack, struck, empty_view, TurnsHold, Sent, Message, Ledger, Entered, unchanged, Event2, Stayed, cover, also_handed, all_below, completes, book_piece, is_watched, book_frame, book_frames, also_stayed, empty_book, named, Pairs, Rising, Once, OnceInStay, ReadsAs, AtCall}
use Rattle.promise.proofs.Pieces.{enter_by}
use Rattle.promise.proofs.Receptions.{all_handed, once_append}
use Rattle.promise.proofs.Runs.{zero_time, one_cell, joins, hi, apart}

-- ---- turns: traces of slots 0, 1 and 2

some_none : {A : Type 0} (x : A) (l : List A) → x ∷ l ≡ [] → ⊥
some_none x l e = let z : ◌≡◌ {A = ℕ} 1 0 = cc in omega arith

-- 0 has a second turn, and 1 has had none
pub second_turn : TurnsHold empty_view (drew (0 ∷ 1 ∷ []) ∷ poll 0 ∷ over 0 ∷ poll 0 ∷ []) → ⊥
second_turn h = h.0.1.0 tt tt 1 tt (λ (e : ◌≡◌ {A = ℕ} 1 0). omega arith)

-- nor does another list, drawn up in between, allow it
pub second_turn_redrawn : TurnsHold empty_view (drew (0 ∷ 1 ∷ []) ∷ poll 0 ∷ over 0 ∷ drew (0 ∷ []) ∷ poll 0 ∷ []) → ⊥
second_turn_redrawn h = h.0.1.0 tt tt 1 tt (λ (e : ◌≡◌ {A = ℕ} 1 0). omega arith)

-- six polls in one turn; five acknowledgements
pub six_polls : TurnsHold empty_view (drew (0 ∷ []) ∷ poll 0 ∷ poll 0 ∷ poll 0 ∷ poll 0 ∷ poll 0 ∷ poll 0 ∷ []) → ⊥
six_polls h = let z : 6 ≤ 5 = (h.1.0.1 tt).polls in omega arith

pub five_acks : TurnsHold empty_view (drew (0 ∷ []) ∷ poll 0 ∷ ack 0 ∷ ack 0 ∷ ack 0 ∷ ack 0 ∷ ack 0 ∷ []) → ⊥
five_acks h = let z : 5 ≤ 4 = (h.1.0.1 tt).acks in omega arith

-- the turn of 0 does not end, and that of 1 begins
pub never_over : TurnsHold empty_view (drew (0 ∷ 1 ∷ []) ∷ poll 0 ∷ poll 1 ∷ []) → ⊥
never_over h = some_none 0 [] (h.1.1.0.1 tt).alone

-- a poll of a slot that is not listed; an acknowledgement, and an end of a waiting, outside every turn
pub unlisted : TurnsHold empty_view (drew (0 ∷ []) ∷ poll 1 ∷ []) → ⊥
unlisted h = h.1.0.0

pub ack_outside : TurnsHold empty_view (drew (0 ∷ []) ∷ poll 0 ∷ over 0 ∷ ack 0 ∷ []) → ⊥
ack_outside h = h.1.1.1.0

pub over_outside : TurnsHold empty_view (drew (0 ∷ []) ∷ over 0 ∷ []) → ⊥
over_outside h = h.1.0

-- ---- turns, with a sign-off

-- after it: an acknowledgement of the slot's turn; a poll of the slot, which is on no list; a second turn of 0, though 2 has had none
pub struck_ack : TurnsHold empty_view (drew (0 ∷ 1 ∷ []) ∷ poll 0 ∷ struck 0 ∷ ack 0 ∷ []) → ⊥
struck_ack h = h.1.1.1.0

pub struck_poll : TurnsHold empty_view (drew (0 ∷ 1 ∷ []) ∷ struck 0 ∷ poll 0 ∷ []) → ⊥
struck_poll h = h.1.1.0.0

pub struck_other : TurnsHold empty_view (drew (0 ∷ 1 ∷ 2 ∷ []) ∷ poll 0 ∷ over 0 ∷ struck 1 ∷ poll 0 ∷ []) → ⊥
struck_other h = h.0.1.0 tt tt 2 tt (λ (e : ◌≡◌ {A = ℕ} 2 0). omega arith)

-- six polls, a strike of another slot among them
pub struck_six : TurnsHold empty_view (drew (0 ∷ 1 ∷ []) ∷ poll 0 ∷ poll 0 ∷ poll 0 ∷ struck 1 ∷ poll 0 ∷ poll 0 ∷ poll 0 ∷ []) → ⊥
struck_six h = let z : 6 ≤ 5 = (h.1.0.1 tt).polls in omega arith

-- what it must let pass: 1 is struck, so 0 has its second turn; 0 is struck, so its next holder has a turn of the next list
pub struck_counts : TurnsHold empty_view (drew (0 ∷ 1 ∷ []) ∷ poll 0 ∷ over 0 ∷ struck 1 ∷ poll 0 ∷ [])
struck_counts = (
  (λ b h t q d. absurd h, (λ b h t q d. q, tt)),
  (
    (tt, λ b. record { alone = refl; polls = omega arith; acks = omega arith }),
    (tt, (tt, ((tt, λ b. record { alone = refl; polls = omega arith; acks = omega arith }), tt))),
  ),
)

pub struck_next : TurnsHold empty_view (drew (0 ∷ 1 ∷ []) ∷ poll 0 ∷ struck 0 ∷ drew (0 ∷ 1 ∷ []) ∷ poll 0 ∷ [])
struck_next = (
  (λ b h t q d. absurd h, (λ b h t q d. absurd h, tt)),
  (
    (tt, λ b. record { alone = refl; polls = omega arith; acks = omega arith }),
    (tt, ((λ b h t q d. absurd h, tt), ((tt, λ b. record { alone = refl; polls = omega arith; acks = omega arith }), tt))),
  ),
)

-- ---- pairings: message 0 of slot 5 (and 256, which is alike), cells 0 and 1 of two

abbrev event : (slot cell number : ℕ) → Event2
event slot cell number = record { slot = slot; cell = cell; number = number }

abbrev message : (slot number : ℕ) → Message
message slot number = record { slot = slot; number = number }

abbrev vacant : ℕ → Option Message
vacant c = None

taken_none : (m : Message) → Some m ≡ None → ⊥
taken_none m e = let z : ◌≡◌ {A = ℕ} 1 0 = cc in omega arith

-- handed over with no event; two events for one message; an event for none
pub silent : Pairs 2 [] (message 5 0 ∷ []) vacant → ⊥
silent h = h

pub event_too_many : Pairs 2 (event 5 0 0 ∷ event 5 1 0 ∷ []) (message 5 0 ∷ []) vacant → ⊥
event_too_many h = h.4

pub event_for_none : Pairs 2 (event 5 0 0 ∷ []) [] vacant → ⊥
event_for_none h = h

-- another slot; another number mod 256
pub other_slot : Pairs 2 (event 4 0 0 ∷ []) (message 5 0 ∷ []) vacant → ⊥
other_slot h = let z : ◌≡◌ {A = ℕ} 4 5 = h.0 in omega arith

pub other_number : Pairs 2 (event 5 0 1 ∷ []) (message 5 256 ∷ []) vacant → ⊥
other_number h = let z : ◌≡◌ {A = ℕ} 1 0 = h.1 in omega arith

-- a cell not below the count; one in use before the reception; one that an earlier event of it names
pub cell_past_count : Pairs 2 (event 5 2 0 ∷ []) (message 5 0 ∷ []) vacant → ⊥
cell_past_count h = let z : 2 < 2 = h.2 in omega arith

pub cell_in_use : Pairs 2 (event 5 0 0 ∷ []) (message 5 0 ∷ []) (λ c. Some (message 7 3)) → ⊥
cell_in_use h = taken_none (message 7 3) h.3

pub one_cell_twice : Pairs 2 (event 5 0 0 ∷ event 5 0 1 ∷ []) (message 5 0 ∷ message 5 1 ∷ []) vacant → ⊥
one_cell_twice h = taken_none (message 5 0) h.4.3

-- ---- the same where slot 5 alone is watched, and slot 4 is not

abbrev five : ℕ → Bool
five s = eqb s 5

-- a watched boat's message has no event, another boat's stands in its place; an event of the watched boat has no message, beside one of another
pub event_of_another : Pairs 2 (event 4 0 0 ∷ []) (named five (event 4 0 0 ∷ []) (message 5 0 ∷ [])) vacant → ⊥
event_of_another h = h.4

pub watched_for_none : Pairs 2 (event 4 0 0 ∷ event 5 1 0 ∷ []) (named five (event 4 0 0 ∷ event 5 1 0 ∷ []) []) vacant → ⊥
watched_for_none h = h.4

-- another boat's message in a cell that holds a watched boat's, and the other way round; in a cell past the count
pub on_the_watched : Pairs 2 (event 5 0 0 ∷ event 4 0 0 ∷ []) (named five (event 5 0 0 ∷ event 4 0 0 ∷ []) (message 5 0 ∷ [])) vacant → ⊥
on_the_watched h = taken_none (message 5 0) h.4.3

pub on_another : Pairs 2 (event 4 0 0 ∷ event 5 0 0 ∷ []) (named five (event 4 0 0 ∷ event 5 0 0 ∷ []) (message 5 0 ∷ [])) vacant → ⊥
on_another h = taken_none (message 4 0) h.4.3

pub another_past_count : Pairs 2 (event 4 2 0 ∷ []) (named five (event 4 2 0 ∷ []) []) vacant → ⊥
another_past_count h = let z : 2 < 2 = h.2 in omega arith

-- and pairings that are right: another boat's message before the watched one's, and after it
pub both_ways : Pairs 2 (event 4 0 7 ∷ event 5 1 0 ∷ []) (named five (event 4 0 7 ∷ event 5 1 0 ∷ []) (message 5 256 ∷ [])) vacant
    × Pairs 2 (event 5 1 0 ∷ event 4 0 7 ∷ []) (named five (event 5 1 0 ∷ event 4 0 7 ∷ []) (message 5 256 ∷ [])) vacant
both_ways = ((refl, refl, omega arith, refl, (refl, refl, omega arith, refl, tt)), (refl, refl, omega arith, refl, (refl, refl, omega arith, refl, tt)))

-- of two alike the higher number first
pub wrong_order : Rising (message 5 256 ∷ message 5 0 ∷ []) → ⊥
wrong_order h = let z : 256 < 0 = h.0.0 refl refl in omega arith

-- an event 2 of a call that is no reception: a decision, a reading, a freeing, a sign-off
abbrev QuietAt : Net → InBook → Type 0
QuietAt n c = AtCall (record { watched = λ s. true; text = λ s k. [] }) 1 c (event 5 0 0 ∷ []) [] n empty_book

pub event_elsewhere : (n : Net) → (QuietAt n InBook.changes_nothing → ⊥) × (QuietAt n (InBook.reads 0 handed) → ⊥) × (QuietAt n (InBook.frees 0) → ⊥) × (QuietAt n (InBook.ends 5) → ⊥)
event_elsewhere n = (λ h. some_none _ _ h, λ h. some_none _ _ h.0, λ h. some_none _ _ h, λ h. some_none _ _ h)

-- handed over twice, in one reception, and in a run within one stay
pub twice : Once (message 5 0 ∷ message 5 0 ∷ []) (λ s k. false) → ⊥
unfolding also_handed
twice h = let z : ◌≡◌ {A = Bool} true false = h.1.0 in apart cc

abbrev stayed : (slot stay number : ℕ) → Stayed
stayed slot stay number = record { slot = slot; stay = stay; number = number }

pub twice_in_stay : OnceInStay (stayed 5 1 0 ∷ stayed 4 1 0 ∷ stayed 5 1 0 ∷ []) (λ s t k. false) → ⊥
unfolding also_stayed
twice_in_stay h = let z : ◌≡◌ {A = Bool} true false = h.1.1.0 in apart cc

-- ---- readings of cell 0: as at a start, and with "hi" of slot 0 landed in it

abbrev with_hi : Settings → Net
with_hi g = after (joins ∷ hi ∷ []) (one_cell g)

pub record Readings (g : Settings) : Type 0 where
  -- it should be 22, and is read
  pub stale : ReadsAs (record { watched = λ s. true; text = λ s k. 104 ∷ 105 ∷ [] }) None (with_hi g) 0 → ⊥
  -- it should not be 22, and is
  pub gone : ReadsAs (record { watched = λ s. true; text = λ s k. 104 ∷ 105 ∷ [] }) (Some (message 0 0)) (one_cell g) 0 → ⊥
  -- the same of a boat that is not watched
  pub gone_too : ReadsAs (record { watched = five; text = λ s k. [] }) (Some (message 0 0)) (one_cell g) 0 → ⊥
  -- other bytes; a byte too few
  pub other : ReadsAs (record { watched = λ s. true; text = λ s k. 104 ∷ 111 ∷ [] }) (Some (message 0 0)) (with_hi g) 0 → ⊥
  pub short : ReadsAs (record { watched = λ s. true; text = λ s k. 104 ∷ 105 ∷ 33 ∷ [] }) (Some (message 0 0)) (with_hi g) 0 → ⊥

pub readings : (g : Settings) → Readings g
unfolding step after result admit_of admit_refusal new_station seat_of find_call first lowest_free has_bit with_bit without_bit leads_to unpacked digit char trim_start trim_end receive_of receive_refusal parse head_ok frames_of item_at frame_of payload unpack payload_ok word_ok pack frames_words ncs_rx read_frames frame_step read_frame piece_frame reply_end is_member accept widened widened_at own_cell put_of cells.accept shows_of settle grow seek next slide_of stop read_refusal cell_refusal reading_of
readings g =
    record {
      stale = λ h. let z : ◌≡◌ {A = ℕ} 0 22 = h in omega arith;
      gone = λ h. let z : ◌≡◌ {A = ℕ} 22 0 = h.0 in omega arith;
      gone_too = λ h. let z : ◌≡◌ {A = ℕ} 22 0 = h.0 in omega arith;
      other = λ h. let z : ◌≡◌ {A = ℕ} 105 111 = ap (λ (l : List ℕ). get_or l 1 0) (h.1 refl) in omega arith;
      short = λ h. let z : ◌≡◌ {A = ℕ} 0 33 = ap (λ (l : List ℕ). get_or l 2 0) (h.1 refl) in omega arith;
    }

-- ---- rosters of two boats, by their relays

abbrev relays : Settings → ℕ → ℕ → Station
relays g a b = with_used (with_member (with_member (new_station g 1) 0 (new_member blank_call a zero_time)) 1 (new_member blank_call b zero_time)) 3

pub record Rosters (g : Settings) : Type 0 where
  -- each relays for the other; a boat for itself; a relay without a member
  pub cycle : LinksHold (relays g 1 0) → ⊥
  pub itself : LinksHold (relays g 63 1) → ⊥
  pub nobody : LinksHold (relays g 63 5) → ⊥
  -- and the roster where slot 1 is relayed by slot 0 has its two links
  pub fine : (leads (relays g 63 0) 61 0 ≡ true) × (leads (relays g 63 0) 61 1 ≡ true)

pub rosters : (g : Settings) → Rosters g
unfolding leads is_member has_bit new_station
rosters g =
    record {
      cycle = λ h. apart (h 0 refl);
      itself = λ h. apart (h 1 refl);
      nobody = λ h. apart (h 1 refl);
      fine = (refl, refl);
    }

-- ---- what follows from the book alone, of any station: no message is handed over twice

abbrev NotTwice : Ledger → Entered Ledger → Type 0
NotTwice l e = Once e.out l.handed × (e.left.handed ≡ all_handed e.out l.handed)

first_time : (t u : Bool) → not t && u ≡ true → t ≡ false
first_time true u q = absurd (apart q)
first_time false u q = refl

piece_once : (M : Sent) (s k o n : ℕ) (l : Ledger) → NotTwice l (book_piece M s k o n l)
piece_once M s k o n l =
    cond_keeps (NotTwice l) (completes M s k l f) (enter_by true s k l f) (enter_by false s k l f)
    (λ q. ((first_time (l.handed s k) (all_below (2 + length (M.text s k)) (f s k)) q, tt), refl)) (λ _. (tt, refl))
  where
    f : ℕ → ℕ → ℕ → Bool
    f = cover s k o n l.covered

frame_once : (M : Sent) (h : Heard) (k seen : ℕ) (marked : Bool) (l : Ledger) → NotTwice l (book_frame M h k seen marked l)
unfolding book_frame
frame_once M lost k seen marked l = (tt, refl)
frame_once M (heard flags field p) k seen marked l =
    cond_keeps (NotTwice l) (is_watched M.watched flags seen && not marked) (book_piece M (flags % 64) k (field % 65536) (length p) l) (unchanged l)
    (λ _. piece_once M (flags % 64) k (field % 65536) (length p) l) (λ _. (tt, refl))

pub book_once : (M : Sent) (fs : List Heard) (i : ℕ) (numbers seen : List ℕ) (mask : ℕ) (l : Ledger) → NotTwice l (book_frames M fs i numbers seen mask l)
unfolding book_frames
book_once M [] i numbers seen mask l = (tt, refl)
book_once M (f ∷ fs) i numbers seen mask l =
    let e = book_frame M f (get_or numbers i 0) (get_or seen i 0) (has_bit mask i) l in
    let a = frame_once M f (get_or numbers i 0) (get_or seen i 0) (has_bit mask i) l in
    let b = book_once M fs (i + 1) numbers seen mask e.left in
    let r = book_frames M fs (i + 1) numbers seen mask e.left in (
      once_append e.out r.out l.handed a.0 (subst (Once r.out) a.1 b.0),
      b.1 ∙ ap (all_handed r.out) a.1 ∙ all_append e.out r.out l.handed,
    )
  where
    all_append : (ms xs : List Message) (g : ℕ → ℕ → Bool) → all_handed xs (all_handed ms g) ≡ all_handed (ms ++ xs) g
    all_append [] xs g = refl
    all_append (m ∷ ms) xs g = all_append ms xs (also_handed m.slot m.number g)
