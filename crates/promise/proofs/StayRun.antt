-- The definitions run over a sign-off: a boat hands over number 0, signs off, and the next holder of its slot hands over its own number 0. And a piece of a former
-- stay is not to arrive: `former` breaks that premise alone, and the promise is refuted. By computation; assumes nothing.
use Rattle.std.specs.Prelude.{Some}
use mathlib.Core.Path.{◌≡◌, refl, sym, ap, subst}
use mathlib.Core.Bool.{cond, true, false}
use mathlib.Core.List.{List, [], ◌∷◌, ◌++◌}
use Prim.Native.Nat.{ℕ, ◌≤◌, ◌<◌}
use native.Mathlib.Omega.{arith}
use lib.Dec.{eqb}
use lib.ListN.{length, get_or, replicate}
use Rattle.bits.specs.Loop.{first, fold}
use Rattle.bits.specs.Mask.{has_bit, with_bit, without_bit, lowest_free}
use Rattle.bits.specs.Stop.{stop}
use Rattle.bits.proofs.Lists.{cond_keeps, never_both}
use Rattle.level.specs.declared.Level.TheVariants.{Unheard}
use Rattle.wire.specs.Call.{digit, char, trim_start, trim_end, unpacked, pack_call}
use Rattle.wire.specs.Numbers.{widened, widened_at}
use Rattle.words.specs.Words.{heard, word_ok, payload_ok, unpack, payload, frame_of, item_at, frames_of, head_ok, parse}
use Rattle.out.specs.Encode.{pack, frames_words}
use Rattle.inbox.specs.Cells.{seek, next, grow, settle}
use Rattle.inbox.specs.Cells as cells
use Rattle.inbox.specs.Messages.{framed, shows_of, Cut}
use Rattle.stream.specs.Window.{slide_of}
use Rattle.stream.specs.Table.{own_cell, put_of, accept}
use Rattle.roster.specs.Members.{tally}
use Rattle.net.specs.declared.Settings.{Settings}
use Rattle.net.specs.declared.Station.{Station}
use Rattle.net.specs.declared.Turn.TheVariants.{Waiting}
use Rattle.net.specs.declared.Wait.{Wait}
use Rattle.net.specs.State.{member_at}
use Rattle.net.specs.Net.{is_member, new_station, wait_of, idle_wait}
use Rattle.admit.specs.Admission.{find_call, seat_of, leads_to}
use Rattle.frames.specs.Pieces.{piece_frame}
use Rattle.frames.specs.Frames.{read_frame, frame_step, read_frames}
use Rattle.rx.specs.Ending.{reply_end}
use Rattle.rx.specs.Reception.{ncs_rx}
use Rattle.config.specs.declared.Given.{Given}
use Rattle.config.specs.Checks.{settings_of}
use Rattle.station.specs.Entries.{start_refusal, admit_refusal, admit_of, receive_refusal, receive_of, cell_refusal, read_refusal, reading_of}
use Rattle.signoff.specs.SignOff.{bereave_at, bereave_all, clear_at, clear_all, unhear_at, unhear_all, strike_wait, vacant, sign_off}
use Rattle.station.specs.SignOff.{sign_off_refusal, sign_off_of}
use Rattle.promise.specs.Promise.{handed, Net, net, Call, Sent, Ledger, Lowest, PieceOk, admission, reading, signing, result, outcome, step, after, started, Stays, empty_book, cover, also_handed, all_below, book_frame, book_frames, events_in, answers_of, book_ends, CallsOk, Holds, handed_in, Messages}
use Rattle.promise.proofs.Item3.{item_3}
use Rattle.promise.proofs.Runs.{zero_time, plain, one_cell, starts, joins, hears, hi, apart, near}

-- every message of a first stay is "hi", and of a later one "ho"
abbrev pub hi_then_ho : Stays
hi_then_ho = record { watched = λ s t. true; text = λ s t k. cond (eqb t 0) (104 ∷ 105 ∷ []) (104 ∷ 111 ∷ []) }

-- boat B is admitted
abbrev pub joins_too : Call
joins_too = admission (pack_call (66 ∷ 32 ∷ 32 ∷ 32 ∷ 32 ∷ 32 ∷ 32 ∷ [])) 63 zero_time 8192

-- number 0 of slot 0 once more, "ho"
abbrev ho : Call
ho = hears (heard 0 0 (framed (104 ∷ 111 ∷ [])) ∷ []) (0 ∷ [])

abbrev pub stay_calls : List Call
stay_calls = joins ∷ hi ∷ signing 0 ∷ reading 0 handed ∷ joins_too ∷ ho ∷ reading 0 handed ∷ []

pub record StayRun (g : Settings) : Type 0 where
  -- the message is landed, unread, in the one cell; the sign-off frees slot and cell, and says nothing
  pub taken : (after (joins ∷ hi ∷ []) (one_cell g)).station.landed ≡ 1
  pub freed : (after (joins ∷ hi ∷ signing 0 ∷ []) (one_cell g)).station.busy ≡ 0
  pub gone : (after (joins ∷ hi ∷ signing 0 ∷ []) (one_cell g)).station.used ≡ 0
  pub silent : (outcome (signing 0) (after (joins ∷ hi ∷ []) (one_cell g))).words ≡ []
  pub nobody : (outcome (signing 0) (after (joins ∷ hi ∷ signing 0 ∷ []) (one_cell g))).refusal ≡ 21
  pub no_slot : (outcome (signing 62) (one_cell g)).refusal ≡ 8
  pub unread : (outcome (reading 0 handed) (after (joins ∷ hi ∷ signing 0 ∷ []) (one_cell g))).refusal ≡ 22
  -- number 0 again, in another stay
  pub events : (answers_of ho (after (joins ∷ hi ∷ signing 0 ∷ joins_too ∷ []) (one_cell g))).events ≡ record { slot = 0; cell = 0; number = 0 } ∷ []
  pub book : handed_in hi_then_ho stay_calls (one_cell g) empty_book ≡ record { slot = 0; stay = 0; number = 0 } ∷ record { slot = 0; stay = 1; number = 0 } ∷ []
  pub read : reading_of (after stay_calls (one_cell g)).station (after stay_calls (one_cell g)).store 0 ≡ 104 ∷ 111 ∷ []

pub stay_run : (g : Settings) → StayRun g
unfolding step after result admit_of admit_refusal new_station seat_of find_call first fold lowest_free has_bit with_bit without_bit leads_to unpacked digit char trim_start trim_end receive_of receive_refusal parse head_ok frames_of item_at frame_of payload unpack payload_ok word_ok pack frames_words ncs_rx read_frames frame_step read_frame piece_frame reply_end is_member accept widened widened_at own_cell put_of cells.accept shows_of settle grow seek next slide_of stop events_in handed_in book_frames book_frame cover also_handed all_below read_refusal cell_refusal reading_of sign_off_of sign_off_refusal sign_off bereave_all bereave_at clear_all clear_at unhear_all unhear_at book_ends tally
stay_run g = record { taken = refl; freed = refl; gone = refl; silent = refl; nobody = refl; no_slot = refl; unread = refl; events = refl; book = refl; read = refl }

-- the premises hold of it

-- of number 0 as one piece, of two bytes, while number 1 is not handed over
pub whole : (M : Sent) (l : Ledger) (s a b : ℕ) → M.text s 0 ≡ a ∷ b ∷ [] → l.handed s 1 ≡ false → PieceOk M l s 0 0 (framed (a ∷ b ∷ []))
whole M l s a b e f =
    record {
      eight = refl;
      cut = subst (λ (m : List ℕ). Cut (framed m) 0 (framed (a ∷ b ∷ []))) (sym e) (record { short = omega arith; fits = omega arith; same = refl });
      near = λ n w. near 0 n (omega arith) (λ z. never_both (l.handed s 1) (w.1 1 z) f);
    }

pub stay_ok : (g : Settings) → CallsOk hi_then_ho stay_calls (one_cell g) empty_book
unfolding CallsOk step after result admit_of admit_refusal new_station seat_of find_call first fold lowest_free has_bit with_bit without_bit leads_to unpacked digit char trim_start trim_end receive_of receive_refusal parse head_ok frames_of item_at frame_of payload unpack payload_ok word_ok pack frames_words ncs_rx read_frames frame_step read_frame piece_frame reply_end is_member accept widened widened_at own_cell put_of cells.accept shows_of settle grow seek next slide_of stop events_in handed_in book_frames book_frame cover also_handed all_below read_refusal cell_refusal reading_of sign_off_of sign_off_refusal sign_off bereave_all bereave_at clear_all clear_at unhear_all unhear_at book_ends tally
stay_ok g =
    (tt, ((tt, λ r. ((λ m. whole _ _ 0 104 105 refl refl), tt)), (tt, (tt, (tt, ((tt, λ r. ((λ m. whole _ _ 0 104 111 refl refl), tt)), (tt, tt)))))))

short : (s t k : ℕ) → true ≡ true → length (hi_then_ho.text s t k) ≤ 65535
short s t k on = cond_keeps (λ (l : List ℕ). length l ≤ 65535) (eqb t 0) (104 ∷ 105 ∷ []) (104 ∷ 111 ∷ []) (λ _. omega arith) (λ _. omega arith)

-- and so does what item 3 promises, from any start that is not refused
pub stay_promised : (s : Station) (g : Given) → start_refusal g 6400 ≡ 0 → Messages hi_then_ho (started s g (replicate 6400 7)) stay_calls
stay_promised s g e =
    (item_3 s g (replicate 6400 7) e stay_calls).messages hi_then_ho short
    (subst (λ (n : Net). CallsOk hi_then_ho stay_calls n empty_book) (starts s g (replicate 6400 7) e) (stay_ok (settings_of g)))

-- ---- a piece of a former stay

-- "hi" of the first stay arrives in the second: it lands, and is read as it came
abbrev pub former : List Call
former = joins ∷ signing 0 ∷ joins_too ∷ hi ∷ reading 0 handed ∷ []

pub former_broken : (g : Settings) → Holds hi_then_ho 1 former (one_cell g) empty_book → ⊥
unfolding Holds step after result admit_of admit_refusal new_station seat_of find_call first fold lowest_free has_bit with_bit without_bit leads_to unpacked digit char trim_start trim_end receive_of receive_refusal parse head_ok frames_of item_at frame_of payload unpack payload_ok word_ok pack frames_words ncs_rx read_frames frame_step read_frame piece_frame reply_end is_member accept widened widened_at own_cell put_of cells.accept shows_of settle grow seek next slide_of stop events_in handed_in book_frames book_frame cover also_handed all_below read_refusal cell_refusal reading_of sign_off_of sign_off_refusal sign_off bereave_all bereave_at clear_all clear_at unhear_all unhear_at book_ends tally
former_broken g h = let z : ◌≡◌ {A = ℕ} 105 111 = ap (λ (l : List ℕ). get_or l 1 0) ((h.1.1.1.1.0.1 (omega arith)).1 refl) in omega arith

-- ---- its cells, and the boats that are left

-- boats B, C and D, relayed by A in slot 0
abbrev relayed : ℕ → Call
relayed letter = admission (pack_call (letter ∷ 32 ∷ 32 ∷ 32 ∷ 32 ∷ 32 ∷ 32 ∷ [])) 0 zero_time 8192

-- number 0 of A has landed, the first byte of number 1 has come, and B's number 0 has begun: three cells
abbrev all_come : List Call
all_come =
    joins ∷ relayed 66 ∷ relayed 67 ∷ relayed 68
    ∷ hears (heard 0 0 (framed []) ∷ heard 0 65536 (1 ∷ []) ∷ heard 1 0 (1 ∷ []) ∷ []) (0 ∷ 1 ∷ 0 ∷ []) ∷ []

abbrev all_here : Settings → Station
all_here g = (after all_come (net (new_station g 3) (replicate 19200 7))).station

abbrev one_left : Settings → Station
one_left g = (after (all_come ++ (signing 0 ∷ [])) (net (new_station g 3) (replicate 19200 7))).station

-- A signs off: its cells, the landed and the filling one, are free; the three have no relay, are unheard and silent, and the total says so
pub record LeftRun (g : Settings) : Type 0 where
  pub cells : ((all_here g).busy ≡ 7) × ((all_here g).landed ≡ 1)
  pub freed : ((one_left g).busy ≡ 4) × ((one_left g).landed ≡ 0)
  pub relays : ((member_at (all_here g) 1).via ≡ 0) × ((member_at (all_here g) 2).via ≡ 0) × ((member_at (all_here g) 3).via ≡ 0)
  pub none : ((member_at (one_left g) 1).via ≡ 63) × ((member_at (one_left g) 2).via ≡ 63) × ((member_at (one_left g) 3).via ≡ 63)
  pub level : ((member_at (one_left g) 1).snrup ≡ Unheard) × ((member_at (one_left g) 3).snrup ≡ Unheard)
  pub missed : ((member_at (one_left g) 1).missed ≡ g.misslimit) × ((member_at (one_left g) 3).missed ≡ g.misslimit)
  pub waits : (one_left g).round.toack ≡ 14
  pub gone : ((one_left g).used ≡ 14) × (member_at (one_left g) 0 ≡ vacant)

pub left_run : (g : Settings) → LeftRun g
unfolding step after result admit_of admit_refusal new_station seat_of find_call first fold lowest_free has_bit with_bit without_bit leads_to unpacked digit char trim_start trim_end receive_of receive_refusal parse head_ok frames_of item_at frame_of payload unpack payload_ok word_ok pack frames_words ncs_rx read_frames frame_step read_frame piece_frame reply_end is_member accept widened widened_at own_cell put_of cells.accept shows_of settle grow seek next slide_of stop sign_off_of sign_off_refusal sign_off bereave_all bereave_at clear_all clear_at unhear_all unhear_at tally
left_run g =
    record { cells = (refl, refl); freed = (refl, refl); relays = (refl, refl, refl); none = (refl, refl, refl); level = (refl, refl); missed = (refl, refl); waits = refl; gone = (refl, refl) }

-- the total of silent boats, with a miss limit of 1
pub three_silent : ((all_here (settings_of plain)).totals.silent ≡ 0) × ((one_left (settings_of plain)).totals.silent ≡ 3)
unfolding step after result admit_of admit_refusal new_station seat_of find_call first fold lowest_free has_bit with_bit without_bit leads_to unpacked digit char trim_start trim_end receive_of receive_refusal parse head_ok frames_of item_at frame_of payload unpack payload_ok word_ok pack frames_words ncs_rx read_frames frame_step read_frame piece_frame reply_end is_member accept widened widened_at own_cell put_of cells.accept shows_of settle grow seek next slide_of stop sign_off_of sign_off_refusal sign_off bereave_all bereave_at clear_all clear_at unhear_all unhear_at tally
three_silent = (refl, refl)

-- its own turn ends with no deadline, and one that relays for it goes on with no source
abbrev asked : ℕ → ℕ → Wait
asked slot source = wait_of (Waiting (record { slot = slot; relayfor = source; tries = 1; turnbursts = 2 })) (Some zero_time)

pub turn_ends : strike_wait 5 (asked 5 9) ≡ idle_wait
turn_ends = refl

pub turn_goes_on : strike_wait 9 (asked 5 9) ≡ asked 5 63
turn_goes_on = refl

pub turn_of_others : strike_wait 7 (asked 5 9) ≡ asked 5 9
turn_of_others = refl
