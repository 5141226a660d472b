-- What a beacon has in its frames, and who goes on waiting for acknowledgement behind it. Assumes nothing.
use mathlib.Core.Path.{◌≡◌, refl}
use Prim.Native.Nat.{ℕ, suc, ◌+◌, ◌-◌, ◌<◌, ◌≤◌}
use mathlib.Core.Bool.{Bool, true, false, cond}
use mathlib.Core.List.{[], ◌++◌}
use native.Mathlib.Omega.{arith}
use lib.ListN.{length, take, replicate}
use Rattle.bits.specs.Mask.{minus_of, lowest_bit}
use Rattle.net.specs.declared.Station.{Station}
use Rattle.net.specs.declared.Settings.{Settings}
use Rattle.bursts.specs.Rows.{ack_at, ack_row, ack_rows}
use Rattle.bursts.specs.Bursts.{acked, beacon_rows, first_ms, len_ms, two_bytes, name_payload, beacon_payload, beacon_size, without_found, beyond}
use Rattle.bursts.proofs.Filling.{rows_most}

-- at most 124 rows, by the length of two passes
pub beacon_most : (s : Station) → length (beacon_rows s) ≤ 744
unfolding beacon_rows
beacon_most s =
    omega (arith, rows_most (ack_at (acked s) 9) (ack_row s) 6 (λ i. refl) [], rows_most (ack_at (minus_of s.used s.round.toack) 9) (ack_row s) 6 (λ i. refl) (ack_rows s (acked s) 9))

-- the bytes in use of the first frame's 32
payload_by : (g : Settings) (acks : ℕ) (b : Bool) → take (cond b 18 14) ((name_payload g ++ cond b (two_bytes (first_ms g acks) ++ two_bytes (len_ms g)) []) ++ replicate (32 - cond b 18 14) 0)
    ≡ name_payload g ++ cond b (two_bytes (first_ms g acks) ++ two_bytes (len_ms g)) []
payload_by g acks true = refl
payload_by g acks false = refl

pub payload_front : (g : Settings) (acks : ℕ) → take (beacon_size g) (beacon_payload g acks ++ replicate (32 - beacon_size g) 0) ≡ beacon_payload g acks
unfolding beacon_payload
payload_front g acks = payload_by g acks g.prime

-- the loop's turn i of n, and its end
pub beyond_turn : (n i m : ℕ) → i < n → beyond (n - i) m ≡ beyond (n - (i + 1)) (without_found (lowest_bit m) m)
unfolding beyond
beyond_turn n i m h =
    let e : n - i ≡ suc (n - (i + 1)) = omega arith in
    rw e

pub beyond_end : (n i m : ℕ) → n ≤ i → beyond (n - i) m ≡ m
unfolding beyond
beyond_end n i m h =
    let e : n - i ≡ 0 = omega arith in
    rw e
