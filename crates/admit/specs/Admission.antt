-- `admit` of ncs.rs: a known boat keeps its slot, an unknown one takes the lowest free slot.
use Rattle.std.specs.Prelude.{ℕ, zero, suc, Bool, true, false, cond, ◌&&◌, ◌||◌, List, [], ◌∷◌, eqb, get_or, Float, Option, Some, None}
use Rattle.bits.specs.Loop.{first}
use Rattle.bits.specs.Mask.{has_bit, with_bit, lowest_free}
use Rattle.wire.specs.Call.{key_of}
use Rattle.queue.specs.Queues.{empty_queue}
use Rattle.out.specs.Encode.{event_word}
use Rattle.roster.specs.Members.{no_member, new_member}
use Rattle.net.specs.declared.Station.{Station}
use Rattle.net.specs.State.{index_of, member_at, with_member, with_used, also_ack, emptied, with_queue}
use Rattle.net.specs.Net.{is_member, Said, said}
use Rattle.admit.specs.declared.Seat.{Seat}
use Rattle.admit.specs.declared.Seat.TheVariants.{Known, Free, Full}

-- the boat in slot i has the call of this key (the same seven bytes: law `key_same` of wire)
abbrev pub has_call : Station → ℕ → ℕ → Bool
has_call s key i = has_bit s.used i && eqb (key_of (get_or s.members i no_member).call) key

-- the least slot of a call
unfoldable pub find_call : Station → ℕ → Option ℕ
find_call s key = first (has_call s key) 62 0

abbrev pub seat_by : Option ℕ → Option ℕ → Seat
seat_by (Some i) free = Known i
seat_by None (Some i) = Free i
seat_by None None = Full

-- where a boat sits, or would sit
unfoldable pub seat_of : Station → List ℕ → Seat
seat_of s call = seat_by (find_call s (key_of call)) (lowest_free s.used 62)

abbrev pub is_full : Seat → Bool
is_full (Known i) = false
is_full (Free i) = false
is_full Full = true

-- 255 for none
abbrev pub slot_of : Seat → ℕ
slot_of (Known i) = i
slot_of (Free i) = i
slot_of Full = 255

-- event 4 first where it has a relay, then event 1
abbrev pub admit_events : ℕ → ℕ → List ℕ
admit_events slot via = cond (eqb via 63) (event_word 1 slot via ∷ []) (event_word 4 slot via ∷ event_word 1 slot via ∷ [])

abbrev pub enter_at : Station → ℕ → List ℕ → ℕ → Float → Station
enter_at s slot call via now =
    also_ack (with_queue (with_used (with_member (emptied s (index_of slot)) slot (new_member call via now)) (with_bit s.used (index_of slot))) slot empty_queue) (index_of slot)

-- the boat takes its seat; via is the relay of a newcomer
abbrev pub admit_by : Seat → Station → List ℕ → ℕ → Float → Said
admit_by (Known i) s call via now = said (also_ack s (index_of i)) []
admit_by (Free i) s call via now = said (enter_at s i call via now) (admit_events i via)
admit_by Full s call via now = said s []

-- the relays from slot `at` on lead to slot `to`, in n steps at most: each step from a member to its relay
unfoldable pub leads_to : ℕ → Station → ℕ → ℕ → Bool
leads_to zero s at to = false
leads_to (suc n) s at to = eqb at to || (is_member s.used at && leads_to n s (member_at s at).via to)

-- the relay of a newcomer at this seat: one that leads back to its own slot is not written (document 01, Member)
abbrev pub via_for : Station → Seat → ℕ → ℕ
via_for s seat via = cond (leads_to 62 s via (slot_of seat)) 63 via
