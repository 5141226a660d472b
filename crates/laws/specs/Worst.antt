-- The worst of the last thirty-two (U13 of document 02). The station keeps each boat's last levels in a ring. Here the readings are a list made from the calls
-- and the definitions: which reception, frame or entry updated whose up level, with what. `WorstOfLast`, the last definition, says that the call answers the
-- lowest of those since the window was last emptied, the last 32 at most, after any calls from a start.
use Rattle.std.specs.Prelude.{ℕ, zero, suc, ◌+◌, ◌/◌, ◌%◌, ◌≡◌, Bool, true, false, not, cond, ◌&&◌, ◌||◌, List, [], ◌∷◌, ◌++◌, eqb, ltb, leb, Float, length, get_or, take, Ok}
use Rattle.std.specs.Float.Ieee.{lt}
use Rattle.bits.specs.Mask.{has_bit, without_bit}
use Rattle.level.specs.declared.Level.{Level}
use Rattle.level.specs.declared.Level.TheVariants.{Unheard, Decibels}
use Rattle.level.specs.Levels.{is_heard, decibels_in}
use Rattle.recent.specs.Readings.{least_of, Finite, Lowest}
use Rattle.wire.specs.Call.{unpack_call}
use Rattle.wire.specs.Fields.{snr_from_q}
use Rattle.wire.specs.Kinds.{tiny, k_idle, t_up, t_ctrl, c_checkin, c_report, c_overheard, c_kids}
use Rattle.words.specs.declared.Head.{Head}
use Rattle.words.specs.Words.{Heard, lost, heard, Burst, parse}
use Rattle.roster.specs.Relays.{promotable_at}
use Rattle.net.specs.declared.Station.{Station}
use Rattle.net.specs.declared.Turn.{Turn}
use Rattle.net.specs.declared.Turn.TheVariants.{Idle, Sending, Waiting}
use Rattle.net.specs.State.{with_wait, with_round, with_rxsent}
use Rattle.net.specs.Net.{is_member, idle_wait, Said, said}
use Rattle.admit.specs.declared.Seat.{Seat}
use Rattle.admit.specs.declared.Seat.TheVariants.{Known, Free, Full}
use Rattle.admit.specs.Admission.{seat_of, slot_of}
use Rattle.bursts.specs.Rows.{member_in}
use Rattle.bursts.specs.Bursts.{list_sent, rx_list_burst}
use Rattle.bursts.specs.Reroute.{floor_of}
use Rattle.next.specs.declared.Due.{Due}
use Rattle.next.specs.declared.Due.TheVariants as due
use Rattle.next.specs.declared.Act.{Act}
use Rattle.next.specs.declared.Act.TheVariants as act
use Rattle.next.specs.Next.{act_of, brought_forward, turn_over_in, missed_in, due_of}
use Rattle.frames.specs.declared.Air.{Air}
use Rattle.frames.specs.Reading.{Reading}
use Rattle.frames.specs.Control.{call_at, relay_of, overheard_entry, is_kid, kid_entry}
use Rattle.frames.specs.Frames.{frame_step, read_frames}
use Rattle.rx.specs.Ending.{is_reply, busy_wait}
use Rattle.rx.specs.Reception.{air_of, first_reading}
use Rattle.config.specs.declared.Given.{Given}
use Rattle.station.specs.Entries.{start_refusal}
use Rattle.station.specs.Worst.{worst_of, decibels_of}
use Rattle.promise.specs.Promise.{lent_to, Net, of_burst, Call, admission, reception, decision, sending, closing, reading, freeing, charging, signing, asking, outcome, step, after, started, posting}

-- ---- what happens to a boat's window

-- a reception level updates the up level of the boat in the slot; the window of the slot is emptied
pub data Update : Type 0 where
  measured : (slot : ℕ) (level : Float) → Update
  emptied : (slot : ℕ) → Update

-- the readings of the boat in slot i since the last emptying, the newest first
abbrev pub also_read : ℕ → Update → List Float → List Float
also_read i (measured j x) xs = cond (eqb j i) (x ∷ xs) xs
also_read i (emptied j) xs = cond (eqb j i) [] xs

unfoldable pub readings_of : ℕ → List Update → List Float → List Float
readings_of i [] xs = xs
readings_of i (u ∷ us) xs = readings_of i us (also_read i u xs)

-- ---- in a reception, frame by frame

-- a newcomer has no reading
abbrev pub of_seat : Seat → List Update
of_seat (Known i) = []
of_seat (Free i) = emptied i ∷ []
of_seat Full = []

-- 'reception levels that updated a boat's up level': the reception's own, not the smoothed one
abbrev pub of_checkin : Air → List ℕ → Station → List Update
of_checkin a p s =
    let seat = seat_of s (call_at p 1) in
    of_seat seat ++ cond (eqb (slot_of seat) 255) [] (measured (slot_of seat) a.level ∷ [])

-- 'A children entry counts with the level it names, when heard'; unheard, which 63 says, empties the window
abbrev pub of_level : ℕ → Level → List Update
of_level c Unheard = emptied c ∷ []
of_level c (Decibels x) = measured c x ∷ []

-- slot c, and the byte b, whose bit 7 says that the relay reached it
abbrev pub of_kid : ℕ → ℕ → ℕ → Station → List Update
of_kid slot c b s = cond (is_kid s c slot) (cond (leb 128 b) (of_level c (snr_from_q b)) []) []

-- the entries of w bytes one after the other, each as f has left the station by then
unfoldable pub of_entries : (ℕ → Said → Said) → (ℕ → Station → List Update) → ℕ → ℕ → ℕ → ℕ → Said → List Update
of_entries f g w len zero e x = []
of_entries f g w len (suc n) e x = cond (leb (e + w) len) (g e x.station ++ of_entries f g w len n (e + w) (f e x)) []

abbrev pub of_kids : Air → ℕ → List ℕ → ℕ → Station → List Update
of_kids a len p slot s = of_entries (kid_entry a p slot) (λ e t. of_kid slot (get_or p e 0) (get_or p (e + 1) 0) t) 2 len 128 1 (said s [])

abbrev pub of_overheard : Air → ℕ → List ℕ → ℕ → Station → List Update
of_overheard a len p slot s = of_entries (overheard_entry a p slot (relay_of s slot)) (λ e t. of_seat (seat_of t (call_at p e))) 8 len 32 1 (said s [])

abbrev pub of_control : Air → ℕ → ℕ → ℕ → List ℕ → Station → List Update
of_control a slot b len p s =
    cond (eqb b c_checkin) (cond (leb 7 len) (of_checkin a p s) [])
    (cond (eqb b c_report) []
    (cond (eqb b c_overheard) (of_overheard a len p slot s)
    (cond (eqb b c_kids) (of_kids a len p slot s) [])))

abbrev pub of_frame : Air → Heard → Station → List Update
of_frame a lost s = []
of_frame a (heard flags field p) s =
    cond (eqb (flags / 64) t_up) []
    (cond (eqb (flags / 64) t_ctrl) (cond (eqb (length p) 0) [] (of_control a (flags % 64) (get_or p 0 0) (length p) p s)) [])

unfoldable pub of_frames : Air → List Heard → Reading → List Update
of_frames a [] x = []
of_frames a (f ∷ fs) x = of_frame a f x.station ++ of_frames a fs (frame_step a f x)

-- ---- at its end: K_IDLE and the reply, of a slot with a boat

abbrev pub of_sender : ℕ → Air → Station → List Update
of_sender slot a s = cond (is_member s.used slot) (measured slot a.level ∷ []) []

abbrev pub of_reply : Turn → Air → Head → Reading → List Update
of_reply Idle a h x = []
of_reply Sending a h x = []
of_reply (Waiting r) a h x = cond (is_reply h x.sender r) (of_sender r.slot a x.station) []

abbrev pub of_burst_at : Air → Burst → Reading → List Update
of_burst_at a b x =
    cond (eqb b.head.code tiny) (cond (eqb b.head.hi k_idle) (of_sender (b.head.extra % 64) a x.station) [])
    (of_frames a b.frames x ++ of_reply (read_frames a b.frames x).station.wait.turn a b.head (read_frames a b.frames x))

abbrev pub of_reception : Station → Float → Float → List ℕ → Burst → List Update
of_reception s snr now store b =
    of_burst_at (air_of s b.head snr now) b (first_reading (with_wait s (busy_wait s.wait b.head s.settings now)) store)

-- ---- in a decision: promotion, where it comes to rerouting

-- g at each of n slots from i on
unfoldable pub of_slots : (ℕ → List Update) → ℕ → ℕ → List Update
of_slots g zero i = []
of_slots g (suc n) i = g i ++ of_slots g n (suc i)

abbrev pub emptied_if : Bool → ℕ → List Update
emptied_if b i = cond b (emptied i ∷ []) []

-- a leaf that is heard well enough directly
abbrev pub promotions : Station → List Update
promotions s = of_slots (λ i. emptied_if (is_heard (promotable_at (has_bit s.used i) (member_in s i) (floor_of s))) i) 62 0

abbrev pub of_reroute : Station → Float → List Update
of_reroute s now = cond (not s.round.traffic && ltb 0 s.round.number && lt now s.round.nextround) [] (promotions s)

abbrev pub of_round_end : Station → Float → List Update
of_round_end s now =
    let t = with_round s (with_rxsent s.round s.round.number) in
    cond (eqb s.round.number 0 || eqb s.round.rxsent s.round.number) (of_reroute s now)
    (cond (list_sent t) [] (of_reroute (rx_list_burst t).station now))

abbrev pub of_act : Act → Station → Float → List Update
of_act act.Wait s now = []
of_act act.Beacon s now = []
of_act act.Acks s now = []
of_act act.Draw s now = of_round_end s now
of_act act.Poll s now = []

abbrev pub of_window : Station → Float → List Update
of_window s now =
    let t = brought_forward s now in
    cond (lt now s.round.windowend) [] (of_act (act_of t.round t.used now) t now)

abbrev pub of_due : Due → Station → Float → List Update
of_due due.Free s now = of_window s now
of_due due.Quiet s now = []
of_due due.Close s now = []
of_due (due.Again r) s now = []
of_due (due.Missed r) s now = of_window (turn_over_in (missed_in (with_wait s idle_wait) r.slot) r.slot r.relayfor) now

abbrev pub of_decision : Station → Float → List Update
of_decision s now = of_due (due_of s.wait s.round.closed now) s now

-- ---- in a sign-off: the boat's own window, and those of the boats that it relayed for

abbrev pub of_sign_off : Station → ℕ → List Update
of_sign_off s slot = emptied slot ∷ of_slots (λ i. emptied_if (has_bit (without_bit s.used slot) i && eqb (member_in s i).via slot) i) 62 0

-- ---- in the calls

abbrev pub of_call : Call → Net → List Update
of_call (admission packed relay now room) n = of_seat (seat_of n.station (unpack_call packed))
of_call (reception words snr now lent room numbers) n = of_burst (parse words) [] (of_reception n.station snr now (lent_to lent n.store))
of_call (decision now queue room) n = of_decision n.station now
of_call (posting slot message queue) n = []
of_call (sending now) n = []
of_call (closing count) n = []
of_call (reading cell lent) n = []
of_call (freeing cell) n = []
of_call (charging figures) n = []
of_call (signing slot) n = of_sign_off n.station slot
of_call (asking slot) n = []

-- a refused call has none
unfoldable pub updates_of : List Call → Net → List Update
updates_of [] n = []
updates_of (c ∷ cs) n = cond (eqb (outcome c n).refusal 0) (of_call c n) [] ++ updates_of cs (step c n)

-- 'the last 32 .., fewer at first', the newest first
abbrev pub last_of : List Call → Net → ℕ → List Float
last_of cs n slot = take 32 (readings_of slot (updates_of cs n) [])

-- the call answers their lowest, which is one of them, none being below it; unheard where there are none
pub record Worst (n : Net) (cs : List Call) (slot : ℕ) : Type 0 where
  pub answer : worst_of (after cs n).station slot ≡ Ok (least_of (last_of cs n slot))
  pub number : decibels_of (worst_of (after cs n).station slot) ≡ decibels_in (least_of (last_of cs n slot))
  pub finite : Finite (last_of cs n slot)
  pub lowest : Lowest (least_of (last_of cs n slot)) (last_of cs n slot)

-- from a start that is not refused, after any calls, of each boat
abbrev pub WorstOfLast : Type 0
WorstOfLast =
    (s : Station) (g : Given) (store : List ℕ) → start_refusal g (length store) ≡ 0 → (cs : List Call) (slot : ℕ)
    → is_member (after cs (started s g store)).station.used slot ≡ true → Worst (started s g store) cs slot
