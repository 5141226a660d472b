-- One boat that breaks the premises harms no other: boat A, in slot 0, sends two different messages under one number, and what is promised of boat B, in slot 1,
-- holds. By computation; assumes nothing.
use mathlib.Core.Path.{◌≡◌, refl, ap, ◌∙◌, subst}
use mathlib.Core.Bool.{Bool, true, ◌&&◌}
use mathlib.Core.List.{List, [], ◌∷◌}
use Prim.Native.Nat.{ℕ}
use native.Mathlib.Omega.{arith}
use lib.Dec.{eqb}
use lib.ListN.{get_or, replicate, take, drop}
use lib.Seq.{get_or-take, get_or-drop}
use Rattle.bits.specs.Loop.{first, fold}
use Rattle.bits.specs.Mask.{has_bit, with_bit, without_bit, lowest_free}
use Rattle.bits.specs.Stop.{stop}
use Rattle.wire.specs.Call.{digit, char, trim_start, trim_end, unpacked}
use Rattle.wire.specs.Numbers.{widened, widened_at}
use Rattle.words.specs.Words.{heard, word_ok, payload_ok, unpack, payload, frame_of, item_at, frames_of, head_ok, parse}
use Rattle.out.specs.Encode.{pack, frames_words}
use Rattle.inbox.specs.Cells.{seek, next, grow, settle, store, await}
use Rattle.inbox.specs.Cells as cells
use Rattle.inbox.specs.Messages.{framed, shows_of}
use Rattle.stream.specs.Window.{slide_of, mark_of}
use Rattle.stream.specs.Table.{own_cell, put_of, accept}
use Rattle.roster.specs.Members.{tally}
use Rattle.net.specs.declared.Settings.{Settings}
use Rattle.net.specs.declared.Station.{Station}
use Rattle.net.specs.Net.{is_member, new_station}
use Rattle.admit.specs.Admission.{find_call, seat_of, leads_to}
use Rattle.frames.specs.Pieces.{piece_frame}
use Rattle.frames.specs.Frames.{read_frame, frame_step, read_frames}
use Rattle.rx.specs.Ending.{reply_end}
use Rattle.rx.specs.Reception.{ncs_rx}
use Rattle.config.specs.declared.Given.{Given}
use Rattle.config.specs.Checks.{settings_of}
use Rattle.station.specs.Entries.{start_refusal, admit_refusal, admit_of, receive_refusal, receive_of, cell_refusal, read_refusal, reading_of}
use Rattle.signoff.specs.SignOff.{bereave_at, bereave_all, clear_at, clear_all, unhear_at, unhear_all, sign_off}
use Rattle.station.specs.SignOff.{sign_off_refusal, sign_off_of}
use Rattle.promise.specs.Promise.{handed, Net, net, Call, reading, signing, result, step, after, started, Stays, empty_book, cover, also_handed, all_below, book_frame, book_frames, book_ends, events_in, answers_of, CallsOk, handed_in, Messages}
use Rattle.promise.proofs.Item3.{item_3}
use Rattle.promise.proofs.Runs.{starts, one_cell, joins, hears, hi, apart}
use Rattle.promise.proofs.StayRun.{joins_too, whole}

-- two cells
abbrev bytes : List ℕ
bytes = replicate 12800 7

abbrev pub two_cells : Settings → Net
two_cells g = net (new_station g 2) bytes

-- boat B alone is watched; each of its messages is "hi"
abbrev pub b_alone : Stays
b_alone = record { watched = λ s t. eqb s 1; text = λ s t k. 104 ∷ 105 ∷ [] }

-- A sends byte 2 of its number 0 as 104 and as 111; between these two pieces comes number 0 of B, whole
abbrev pub contradicts : Call
contradicts = hears (heard 0 0 (2 ∷ 0 ∷ 104 ∷ []) ∷ heard 1 0 (framed (104 ∷ 105 ∷ [])) ∷ heard 0 2 (111 ∷ 105 ∷ []) ∷ []) (0 ∷ 0 ∷ 0 ∷ [])

abbrev pub boats_calls : List Call
boats_calls = joins ∷ joins_too ∷ contradicts ∷ reading 1 handed ∷ reading 0 handed ∷ []

-- B's message is in cell 1 and is read; A's takes cell 0, with whatever bytes
pub record BoatsRun (g : Settings) : Type 0 where
  pub events : (answers_of contradicts (after (joins ∷ joins_too ∷ []) (two_cells g))).events
      ≡ record { slot = 1; cell = 1; number = 0 } ∷ record { slot = 0; cell = 0; number = 0 } ∷ []
  pub book : handed_in b_alone boats_calls (two_cells g) empty_book ≡ record { slot = 1; stay = 0; number = 0 } ∷ []
  pub read : reading_of (after boats_calls (two_cells g)).station (after boats_calls (two_cells g)).store 1 ≡ 104 ∷ 105 ∷ []

pub boats_run : (g : Settings) → BoatsRun g
unfolding step after result admit_of admit_refusal new_station seat_of find_call first lowest_free has_bit with_bit without_bit leads_to unpacked digit char trim_start trim_end receive_of receive_refusal parse head_ok frames_of item_at frame_of payload unpack payload_ok word_ok pack frames_words ncs_rx read_frames frame_step read_frame piece_frame reply_end is_member accept widened widened_at own_cell put_of cells.accept shows_of settle grow store await seek next slide_of mark_of stop events_in handed_in book_frames book_frame cover also_handed all_below read_refusal cell_refusal reading_of
boats_run g = record { events = refl; book = refl; read = refl }

-- B's piece meets the premises, and nothing is asked of A's
pub b_ok : (g : Settings) → CallsOk b_alone boats_calls (two_cells g) empty_book
unfolding CallsOk step after result admit_of admit_refusal new_station seat_of find_call first lowest_free has_bit with_bit without_bit leads_to unpacked digit char trim_start trim_end receive_of receive_refusal parse head_ok frames_of item_at frame_of payload unpack payload_ok word_ok pack frames_words ncs_rx read_frames frame_step read_frame piece_frame reply_end is_member accept widened widened_at own_cell put_of cells.accept shows_of settle grow store await seek next slide_of mark_of stop events_in handed_in book_frames book_frame cover also_handed all_below read_refusal cell_refusal reading_of
b_ok g =
    (tt, (tt, ((tt, λ r. ((λ m. absurd (apart m)), ((λ m. whole _ _ 1 104 105 refl refl), ((λ m. absurd (apart m)), tt)))), (tt, (tt, tt)))))

-- so what is promised of B holds, from any start that is not refused
pub b_promised : (s : Station) (g : Given) → start_refusal g 12800 ≡ 0 → Messages b_alone (started s g bytes) boats_calls
b_promised s g e =
    (item_3 s g bytes e boats_calls).messages b_alone (λ s t k on. omega arith)
    (subst (λ (n : Net). CallsOk b_alone boats_calls n empty_book) (starts s g bytes e) (b_ok (settings_of g)))

-- while of no messages, whatever they are, do A's pieces meet them
byte_2 : (F : List ℕ) → 2 ∷ 0 ∷ 104 ∷ [] ≡ take 3 (drop 0 F) → 111 ∷ 105 ∷ [] ≡ take 2 (drop 2 F) → ⊥
byte_2 F p q =
    let a : 104 ≡ get_or F 2 0 = ap (λ (l : List ℕ). get_or l 2 0) p ∙ get_or-take 3 (drop 0 F) 2 0 (omega arith) ∙ get_or-drop 0 F 2 0 in
    let b : 111 ≡ get_or F 2 0 = ap (λ (l : List ℕ). get_or l 0 0) q ∙ get_or-take 2 (drop 2 F) 0 0 (omega arith) ∙ get_or-drop 2 F 0 0 in
    omega arith

pub a_breaks : (g : Settings) (M : Stays) → M.watched 0 0 ≡ true → CallsOk M boats_calls (two_cells g) empty_book → ⊥
unfolding CallsOk step after result admit_of admit_refusal new_station seat_of find_call first lowest_free has_bit with_bit without_bit leads_to unpacked digit char trim_start trim_end receive_of receive_refusal parse head_ok frames_of item_at frame_of payload unpack payload_ok word_ok pack frames_words ncs_rx read_frames frame_step read_frame piece_frame reply_end is_member accept widened widened_at own_cell put_of cells.accept shows_of settle grow store await seek next slide_of mark_of stop events_in handed_in book_frames book_frame cover also_handed all_below read_refusal cell_refusal reading_of
a_breaks g M on h =
    let f = h.1.1.0.1 refl in
    let w : M.watched 0 0 && true ≡ true = ap (λ (t : Bool). t && true) on in
    byte_2 (framed (M.text 0 0 0)) (f.0 w).cut.same (f.1.1.0 w).cut.same

-- ---- and not the slot's next holder either

-- the boat that is in slot 0 after one has signed off
abbrev pub next_alone : Stays
next_alone = record { watched = λ s t. eqb t 1; text = λ s t k. 104 ∷ 105 ∷ [] }

-- A contradicts itself and signs off; B takes the slot, and sends its number 0
abbrev pub next_calls : List Call
next_calls =
    joins
    ∷ hears (heard 0 0 (2 ∷ 0 ∷ 104 ∷ []) ∷ heard 0 2 (111 ∷ 105 ∷ []) ∷ []) (0 ∷ 0 ∷ [])
    ∷ signing 0
    ∷ joins_too
    ∷ hi
    ∷ reading 0 handed
    ∷ []

pub next_book : (g : Settings) → handed_in next_alone next_calls (one_cell g) empty_book ≡ record { slot = 0; stay = 1; number = 0 } ∷ []
unfolding step after result admit_of admit_refusal new_station seat_of find_call first fold lowest_free has_bit with_bit without_bit leads_to unpacked digit char trim_start trim_end receive_of receive_refusal parse head_ok frames_of item_at frame_of payload unpack payload_ok word_ok pack frames_words ncs_rx read_frames frame_step read_frame piece_frame reply_end is_member accept widened widened_at own_cell put_of cells.accept shows_of settle grow seek next slide_of stop events_in handed_in book_frames book_frame cover also_handed all_below read_refusal cell_refusal reading_of sign_off_of sign_off_refusal sign_off bereave_all bereave_at clear_all clear_at unhear_all unhear_at book_ends tally store await mark_of
next_book g = refl

pub next_ok : (g : Settings) → CallsOk next_alone next_calls (one_cell g) empty_book
unfolding CallsOk step after result admit_of admit_refusal new_station seat_of find_call first fold lowest_free has_bit with_bit without_bit leads_to unpacked digit char trim_start trim_end receive_of receive_refusal parse head_ok frames_of item_at frame_of payload unpack payload_ok word_ok pack frames_words ncs_rx read_frames frame_step read_frame piece_frame reply_end is_member accept widened widened_at own_cell put_of cells.accept shows_of settle grow seek next slide_of stop events_in handed_in book_frames book_frame cover also_handed all_below read_refusal cell_refusal reading_of sign_off_of sign_off_refusal sign_off bereave_all bereave_at clear_all clear_at unhear_all unhear_at book_ends tally store await mark_of
next_ok g =
    (tt, ((tt, λ r. ((λ m. absurd (apart m)), ((λ m. absurd (apart m)), tt))), (tt, (tt, ((tt, λ r. ((λ m. whole _ _ 0 104 105 refl refl), tt)), (tt, tt))))))

pub next_promised : (s : Station) (g : Given) → start_refusal g 6400 ≡ 0 → Messages next_alone (started s g (replicate 6400 7)) next_calls
next_promised s g e =
    (item_3 s g (replicate 6400 7) e next_calls).messages next_alone (λ s t k on. omega arith)
    (subst (λ (n : Net). CallsOk next_alone next_calls n empty_book) (starts s g (replicate 6400 7) e) (next_ok (settings_of g)))
