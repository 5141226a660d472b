-- What a boat at its seat changes, part by part. Laws `seat_station` and `seat_words_lem` (proofs/Seats.antt) say that the parts together are `admit_by`.
use Rattle.std.specs.Prelude.{ℕ, Bool, true, false, not, cond, List, [], get_or, set, Float}
use Rattle.bits.specs.Mask.{with_bit}
use Rattle.recent.specs.declared.Recent.{Recent}
use Rattle.recent.specs.Readings.{no_recent, empty}
use Rattle.queue.specs.declared.Queue.{Queue}
use Rattle.queue.specs.Queues.{empty_queue}
use Rattle.roster.specs.declared.Member.{Member}
use Rattle.roster.specs.Members.{no_member, new_member}
use Rattle.net.specs.declared.Station.{Station}
use Rattle.net.specs.State.{index_of, with_members, with_recent, with_queues, with_used, with_round, with_toack}
use Rattle.admit.specs.declared.Seat.{Seat}
use Rattle.admit.specs.declared.Seat.TheVariants.{Known, Free, Full}
use Rattle.admit.specs.Admission.{is_full, slot_of, admit_events}

-- a newcomer's
abbrev pub is_free : Seat → Bool
is_free (Known i) = false
is_free (Free i) = true
is_free Full = false

-- the member k, the readings z and the queue y are stored in slot i; the boats in use and those to be acknowledged
abbrev pub stored_at : Station → ℕ → Member → Recent → Queue → ℕ → ℕ → Station
stored_at s i k z y used acks =
    with_round (with_used (with_queues (with_recent (with_members s (set s.members i k)) (set s.recent i z)) (set s.queues i y)) used) (with_toack s.round acks)

abbrev pub seated_as : Seat → Station → List ℕ → ℕ → Float → Station
seated_as seat s call via now =
    let i = index_of (slot_of seat) in
    stored_at s i
    (cond (is_free seat) (new_member call via now) (get_or s.members i no_member))
    (cond (is_free seat) empty (get_or s.recent i no_recent))
    (cond (is_free seat) empty_queue (get_or s.queues i empty_queue))
    (cond (is_free seat) (with_bit s.used i) s.used)
    (cond (not (is_full seat)) (with_bit s.round.toack i) s.round.toack)

abbrev pub seat_words : Seat → ℕ → List ℕ
seat_words seat via = cond (is_free seat) (admit_events (slot_of seat) via) []
