-- `ncs_rx` of ncs.rs, control frames: check-in, report, overheard, children. `len` is the length of the payload p.
use Rattle.std.specs.Prelude.{ℕ, zero, suc, ◌+◌, ◌*◌, ◌%◌, Bool, true, not, cond, ◌&&◌, ◌||◌, List, [], ◌∷◌, ◌++◌, eqb, ltb, leb, get_or, set, drop, Some}
use Rattle.std.specs.Bool.{then_some}
use Rattle.wire.specs.Call.{unpack_call}
use Rattle.wire.specs.Fields.{snr_from_q}
use Rattle.words.specs.Words.{payload}
use Rattle.level.specs.declared.Level.{Level}
use Rattle.level.specs.declared.Level.TheVariants.{Unheard, Decibels}
use Rattle.recent.specs.declared.Recent.{Recent}
use Rattle.recent.specs.Readings.{empty, noted}
use Rattle.out.specs.Encode.{missed_word}
use Rattle.roster.specs.declared.Member.{Member}
use Rattle.roster.specs.Members.{with_heard, with_down, with_caps, with_version, received_at, reached_at, missed_one, is_willing}
use Rattle.net.specs.declared.Station.{Station}
use Rattle.net.specs.State.{index_of, member_at, with_member, with_counted, with_round, with_hears, with_activity, with_recent, recent_at, also_noted, queue_at, with_queue}
use Rattle.queue.specs.Queues.{reported_to}
use Rattle.net.specs.Net.{is_member, is_slot, Said, said}
use Rattle.admit.specs.Admission.{seat_of, slot_of, admit_by}
use Rattle.admit.specs.declared.Seat.{Seat}
use Rattle.admit.specs.declared.Seat.TheVariants.{Known, Free, Full}
use Rattle.frames.specs.declared.Air.{Air}
use Rattle.frames.specs.declared.payload.Payload.{Payload}
use Rattle.frames.specs.Reading.{Reading, on_station}

-- the payload of the frame of len bytes at `at`
abbrev pub payload_in : List ℕ → ℕ → ℕ → List ℕ
payload_in ws at len = payload (drop 2 (drop at ws)) len

-- as the code has it
abbrev pub payload_of : Payload → List ℕ
payload_of p = payload_in p.words.now p.at p.len

-- f at each entry of w bytes in a payload of len bytes, from byte e on, n entries at most
unfoldable pub each_entry : {A : Type 0} → (ℕ → A → A) → ℕ → ℕ → ℕ → ℕ → A → A
each_entry f w len zero e x = x
each_entry f w len (suc n) e x = cond (leb (e + w) len) (each_entry f w len n (e + w) (f e x)) x

-- ---- C_CHECKIN

abbrev pub checkin_member : Air → ℕ → List ℕ → Member → Member
checkin_member a len p m =
    with_version (with_caps (received_at m a.level (snr_from_q (get_or p 6 0)) a.time) (then_some (ltb 7 len) (get_or p 7 0))) (then_some (ltb 9 len) (get_or p 9 0))

-- the level is smoothed and capability and version are noted also for a known boat; its readings have the level as it came in
abbrev pub checked_in : Air → ℕ → List ℕ → ℕ → Said → Said
checked_in a len p slot d =
    said
    (cond (eqb slot 255) d.station
    (also_noted (with_member d.station slot (checkin_member a len p (member_at d.station slot))) (index_of slot) a.level)) d.words

abbrev pub with_active : Station → Station
with_active s = with_round s (with_activity s.round true)

abbrev pub call_at : List ℕ → ℕ → List ℕ
call_at p j = unpack_call (get_or p j 0 ∷ get_or p (j + 1) 0 ∷ get_or p (j + 2) 0 ∷ get_or p (j + 3) 0 ∷ get_or p (j + 4) 0 ∷ [])

abbrev pub seated_in : Seat → Air → ℕ → List ℕ → Said → Said
seated_in seat a len p d = checked_in a len p (slot_of seat) (said (with_active d.station) d.words)

unfoldable pub checkin_frame : Air → ℕ → List ℕ → Station → Said
checkin_frame a len p s =
    let seat = seat_of s (call_at p 1) in
    seated_in seat a len p (admit_by seat s (call_at p 1) 63 a.time)

-- ---- C_REPORT

-- a leaf's report, through the relay that was polled; 255 stands for nobody
abbrev pub forwarded_by : Air → Bool → Member → Bool
forwarded_by a here m = here && not (eqb m.via 63) && not (eqb m.via 255) && is_slot a.polled m.via

abbrev pub is_forwarded : Air → Station → ℕ → Bool
is_forwarded a s slot = forwarded_by a (is_member s.used slot) (member_at s slot)

-- q is the level field of the report: how the boat hears us
abbrev pub report_member : Air → ℕ → Bool → Member → Member
report_member a q forwarded m =
    cond forwarded (with_heard (with_down m (snr_from_q q)) a.time) (with_down m (snr_from_q q))

-- slot r hears slot k at the level field q, and 63 strikes the entry out; keys of 62 and above are dropped
abbrev pub hearing : ℕ → ℕ → ℕ → List ℕ → List ℕ
hearing r k q hears = cond (ltb r 62 && ltb k 62) (set hears (r * 62 + k) (q % 64)) hears

-- the pair at byte e: whom slot r hears, and how well
abbrev pub hear_pair : List ℕ → ℕ → ℕ → List ℕ → List ℕ
hear_pair p r e hears = hearing r (get_or p e 0) (get_or p (e + 1) 0) hears

abbrev pub hear_pairs : ℕ → List ℕ → ℕ → List ℕ → List ℕ
hear_pairs len p r hears = each_entry (hear_pair p r) 2 len 128 12 hears

abbrev pub is_pending : List ℕ → Bool
is_pending p = not (eqb (get_or p 3 0) 0) || not (eqb (get_or p 4 0) 0) || not (eqb (get_or p 5 0) 0)

-- three bytes, lowest first
abbrev pub u24 : List ℕ → ℕ → ℕ
u24 p j = get_or p j 0 + 256 * get_or p (j + 1) 0 + 65536 * get_or p (j + 2) 0

-- and how much of what was posted to it the boat holds, forwarded or not (U1)
abbrev pub report_station : Air → ℕ → List ℕ → ℕ → Station → Station
report_station a len p slot s =
    cond (is_member s.used slot)
    (with_queue (with_hears (with_member s slot (report_member a (get_or p 2 0) (is_forwarded a s slot) (member_at s slot))) (hear_pairs len p slot s.hears)) slot (reported_to (queue_at s slot) (u24 p 9))) s

-- of the reports that are no forwarded ones the last names the sender, and any may tell of more
abbrev pub report_says : Bool → List ℕ → Reading → Reading
report_says forwarded p x =
    cond forwarded x
    (record { station = x.station; store = x.store; words = x.words; frame = x.frame; heard = x.heard; unkept = x.unkept; sender = Some (get_or p 1 0); more = x.more || is_pending p; seen = x.seen })

unfoldable pub report_frame : Air → ℕ → List ℕ → Reading → Reading
report_frame a len p x =
    on_station (report_says (is_forwarded a x.station (get_or p 1 0)) p x) (report_station a len p (get_or p 1 0) x.station)

-- ---- C_OVERHEARD

-- the relay of a frame's newcomers, decided once: the frame's own boat, where it has no relay itself and is willing
unfoldable pub relay_of : Station → ℕ → ℕ
relay_of s slot = cond (is_member s.used slot && eqb (member_at s slot).via 63 && is_willing (member_at s slot)) slot 63

abbrev pub newcomer : List ℕ → ℕ → Member → Member
newcomer p e m = with_version (with_caps m (Some (get_or p (e + 6) 0))) (Some (get_or p (e + 7) 0))

-- the frame's boat hears the newcomer in slot c
abbrev pub heard_by : ℕ → ℕ → ℕ → Station → Station
heard_by slot c q s = cond (is_member s.used slot) (with_hears s (hearing slot c q s.hears)) s

-- the entry of eight bytes at e: an unknown call enters, where a slot is free
abbrev pub overheard_by : Seat → Air → List ℕ → ℕ → ℕ → ℕ → Said → Said
overheard_by (Known i) a p e slot via x = x
overheard_by (Free c) a p e slot via x =
    let d = admit_by (Free c) x.station (call_at p e) via a.time in
    said (heard_by slot c (get_or p (e + 5) 0) (with_member d.station c (newcomer p e (member_at d.station c)))) (x.words ++ d.words)
overheard_by Full a p e slot via x = x

unfoldable pub overheard_entry : Air → List ℕ → ℕ → ℕ → ℕ → Said → Said
overheard_entry a p slot via e x = overheard_by (seat_of x.station (call_at p e)) a p e slot via x

unfoldable pub overheard_frame : Air → ℕ → List ℕ → ℕ → Station → Said
overheard_frame a len p slot s = each_entry (overheard_entry a p slot (relay_of s slot)) 8 len 32 1 (said s [])

-- ---- C_KIDS

-- the boat in slot c has this frame's boat for its relay
abbrev pub kid_of : Bool → Member → ℕ → Bool
kid_of here m slot = here && eqb m.via slot && not (eqb m.via 63)

abbrev pub is_kid : Station → ℕ → ℕ → Bool
is_kid s c slot = kid_of (is_member s.used c) (member_at s c) slot

-- bit 7: the relay reached it, at the level of the low six bits; else one more missed poll
abbrev pub kid_member : Air → ℕ → Member → Member
kid_member a b m = cond (leb 128 b) (reached_at m (snr_from_q b) a.time) (missed_one m)

abbrev pub kid_events : ℕ → ℕ → List ℕ
kid_events c b = cond (leb 128 b) [] (missed_word c ∷ [])

-- what the entry makes of the boat's readings: the level that it names is one more, nothing heard makes them none
abbrev pub heard_as : Level → Recent → Recent
heard_as Unheard r = empty
heard_as (Decibels snr) r = noted r snr

abbrev pub kid_recent : ℕ → Recent → Recent
kid_recent b r = cond (leb 128 b) (heard_as (snr_from_q b) r) r

-- the entry of two bytes: slot c, and the byte b
abbrev pub kid_by : Air → ℕ → ℕ → ℕ → Said → Said
kid_by a slot c b x =
    cond (is_kid x.station c slot)
    (said
    (with_recent (with_counted x.station c (kid_member a b (member_at x.station c)))
    (set x.station.recent (index_of c) (kid_recent b (recent_at x.station (index_of c)))))
    (x.words ++ kid_events c b)) x

unfoldable pub kid_entry : Air → List ℕ → ℕ → ℕ → Said → Said
kid_entry a p slot e x = kid_by a slot (get_or p e 0) (get_or p (e + 1) 0) x

unfoldable pub kids_frame : Air → ℕ → List ℕ → ℕ → Station → Said
kids_frame a len p slot s = each_entry (kid_entry a p slot) 2 len 128 1 (said s [])
