-- The refusal of each call has a number of document 01. Knows nothing of the code. Assumes nothing.
use mathlib.Core.Path.{refl}
use mathlib.Core.Bool.{Bool, cond, ◌||◌}
use Prim.Native.Nat.{ℕ, ◌+◌, ◌/◌}
use lib.Dec.{eqb, ltb, leb}
use lib.Ieee.{Float}
use Rattle.bits.specs.Mask.{has_bit}
use Rattle.level.specs.Spans.{up_to, within}
use Rattle.words.specs.Words.{Burst, Parsed, malformed, parsed}
use Rattle.queue.specs.declared.Queue.{Queue}
use Rattle.queue.specs.Queues.{space_refusal}
use Rattle.net.specs.Net.{is_member}
use Rattle.config.specs.declared.Given.{Given}
use Rattle.config.specs.Checks.{settings_ok}
use Rattle.station.specs.Entries.{start_refusal, admit_refusal, receive_refusal, next_refusal, post_refusal, check1, check2, check3, check7, check22, check_relay, close_refusal, cell_refusal, read_refusal}
use Rattle.station.specs.SignOff.{sign_off_refusal}
use Rattle.station.proofs.Numbers.{Known, known_if}

pub known_start : (g : Given) (size : ℕ) → Known (start_refusal g size)
unfolding start_refusal
known_start g size = known_if (ltb size 6400) 7 (cond (settings_ok g) 0 5) refl (known_if (settings_ok g) 0 5 refl refl)

known_check1 : (now : Float) (rest : ℕ) → Known rest → Known (check1 now rest)
known_check1 now rest k = known_if (up_to 1000000000 now) rest 1 k refl

pub known_admit : (room : ℕ) (now : Float) (used relay : ℕ) (full : Bool) → Known (admit_refusal room now used relay full)
unfolding admit_refusal
known_admit room now used relay full =
    let rest = cond full 23 0 in
    let k : Known rest = known_if full 23 0 refl refl in
    known_if (ltb room 8192) 4 (check1 now (check_relay used relay rest)) refl
    (known_check1 now (check_relay used relay rest)
    (known_if (eqb relay 63) rest (cond (ltb 61 relay) 8 (cond (is_member used relay) rest 21)) k
    (known_if (ltb 61 relay) 8 (cond (is_member used relay) rest 21) refl (known_if (is_member used relay) rest 21 k refl))))

known_check3 : (p : Parsed Burst) → Known (check3 p 0)
known_check3 malformed = refl
known_check3 (parsed b) = refl

pub known_receive : (room size count : ℕ) (now snr : Float) (p : Parsed Burst) → Known (receive_refusal room size count now snr p)
unfolding receive_refusal
known_receive room size count now snr p =
    known_if (ltb room 8192) 4 (check7 size count (check1 now (check2 snr (check3 p 0)))) refl
    (known_if (ltb (size / 6400) count) 7 (check1 now (check2 snr (check3 p 0))) refl
    (known_check1 now (check2 snr (check3 p 0)) (known_if (within 200 snr) (check3 p 0) 2 (known_check3 p) refl)))

pub known_sent : (now : Float) → Known (check1 now 0)
known_sent now = known_check1 now 0 refl

pub known_next : (now : Float) (size room : ℕ) → Known (next_refusal now size room)
unfolding next_refusal
known_next now size room =
    known_if (ltb room 8192) 4 (cond (ltb size 126976) 7 (check1 now 0)) refl (known_if (ltb size 126976) 7 (check1 now 0) refl (known_sent now))

known_space : (q : Queue) (n : ℕ) → Known (space_refusal q n)
unfolding space_refusal
known_space q n =
    let rest = cond (ltb 16777215 (q.posted + n + 2)) 25 0 in
    known_if (ltb 2046 n) 24 (cond (ltb (q.kept + 2048) (q.posted + n + 2)) 24 rest) refl
    (known_if (ltb (q.kept + 2048) (q.posted + n + 2)) 24 rest refl (known_if (ltb 16777215 (q.posted + n + 2)) 25 0 refl refl))

pub known_post : (size used slot : ℕ) (q : Queue) (n : ℕ) → Known (post_refusal size used slot q n)
unfolding post_refusal
known_post size used slot q n =
    let rest = cond (is_member used slot) (space_refusal q n) 21 in
    known_if (ltb size 126976) 7 (cond (ltb 61 slot) 8 rest) refl
    (known_if (ltb 61 slot) 8 rest refl (known_if (is_member used slot) (space_refusal q n) 21 (known_space q n) refl))

pub known_close : (count : ℕ) → Known (close_refusal count)
known_close count = known_if (ltb 15 count) 9 0 refl refl

pub known_cell : (count landed cell : ℕ) → Known (cell_refusal count landed cell)
unfolding cell_refusal
known_cell count landed cell =
    known_if (leb count cell || leb 64 cell) 6 (check22 landed cell) refl (known_if (has_bit landed cell) 0 22 refl refl)

pub known_read : (size count landed cell : ℕ) → Known (read_refusal size count landed cell)
unfolding read_refusal
known_read size count landed cell = known_if (ltb (size / 6400) count) 7 (cell_refusal count landed cell) refl (known_cell count landed cell)

pub known_sign_off : (used slot : ℕ) → Known (sign_off_refusal used slot)
unfolding sign_off_refusal
known_sign_off used slot = known_if (ltb 61 slot) 8 (cond (is_member used slot) 0 21) refl (known_if (is_member used slot) 0 21 refl refl)
