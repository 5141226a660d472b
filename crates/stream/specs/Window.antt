-- MsgIn of stream.rs, what is whole of a boat's messages: `next`, `has`, `bitmap`, `holes`, and how `accept` moves `next`; and which numbers are
-- barred (document 02, U4). Every number below next is whole. The marks are one number of 128 bits: bit d stands for the number next + 1 + d.
-- A station marks at most 127 past next (document 01, 'Message number'), so 128 marks are enough. The bars are 128 bits too: bit d stands for the
-- number next + d. A barred number is never whole, so it holds next back, and stays at most 127 past it. A counter stops at 4,294,967,295,
-- and so does next: every value of a Window has a meaning, and none wraps.
use Rattle.std.specs.Prelude.{ℕ, zero, suc, ◌+◌, ◌-◌, ◌*◌, ◌/◌, ◌%◌, ◌^◌, Bool, not, cond, ◌&&◌, ◌||◌, eqb, leb, ltb}
use Rattle.bits.specs.Mask.{has_bit}
use Rattle.bits.specs.Stop.{stop}
use Rattle.stream.specs.declared.window.Window.{Window}

abbrev pub marks_of : Window → ℕ
marks_of w = w.low + 2 ^ 64 * w.high

abbrev pub bars_of : Window → ℕ
bars_of w = w.barlow + 2 ^ 64 * w.barhigh

abbrev pub window_of : ℕ → ℕ → ℕ → Window
window_of n marks bars =
    record { next = n; low = marks % 2 ^ 64; high = marks / 2 ^ 64; barlow = bars % 2 ^ 64; barhigh = bars / 2 ^ 64 }

abbrev pub with_marks : Window → ℕ → Window
with_marks w marks = record { next = w.next; low = marks % 2 ^ 64; high = marks / 2 ^ 64; barlow = w.barlow; barhigh = w.barhigh }

abbrev pub with_bars : Window → ℕ → Window
with_bars w bars = record { next = w.next; low = w.low; high = w.high; barlow = bars % 2 ^ 64; barhigh = bars / 2 ^ 64 }

-- numbers start at 0 for each boat, and none is barred
abbrev pub fresh_of : Window
fresh_of = record { next = 0; low = 0; high = 0; barlow = 0; barhigh = 0 }

-- MsgIn::has: the message of number k is whole, so it was handed over
abbrev pub handed_of : Window → ℕ → Bool
handed_of w k = ltb k w.next || (ltb w.next k && has_bit (marks_of w) (k - w.next - 1))

-- MsgIn::bitmap: which of the eight after next are whole
abbrev pub bitmap_of : Window → ℕ
bitmap_of w = marks_of w % 256

-- MsgIn::holes: a whole message past one that is missing
abbrev pub holes_of : Window → Bool
holes_of w = not (eqb (marks_of w) 0)

-- the number k is barred: its message claims too much
abbrev pub barred_of : Window → ℕ → Bool
barred_of w k = leb w.next k && has_bit (bars_of w) (k - w.next)

-- one on, for the number n is whole
abbrev pub slid_of : ℕ → ℕ → ℕ → Window
slid_of n m b = window_of (stop (n + 1)) (m / 2) (b / 2)

-- `while self.msgs.get(&self.next) is whole { self.next += 1 }`: n is whole, and with it the marked numbers right after it
unfoldable pub slide_of : ℕ → ℕ → ℕ → ℕ → Window
slide_of zero n m b = slid_of n m b
slide_of (suc f) n m b = cond (has_bit m 0) (slide_of f (stop (n + 1)) (m / 2) (b / 2)) (slid_of n m b)

-- m with bit d
abbrev pub marked : ℕ → ℕ → ℕ
marked m d = cond (has_bit m d) m (m + 2 ^ d)

-- number next + 1 + d is whole; past 128 marks nothing is marked
unfoldable pub mark_of : Window → ℕ → Window
mark_of w d = cond (ltb d 128) (with_marks w (marked (marks_of w) d)) w

-- the message of number k has landed
abbrev pub land_of : Window → ℕ → Window
land_of w k = cond (ltb w.next k) (mark_of w (k - w.next - 1)) (slide_of 128 w.next (marks_of w) (bars_of w))

-- the number k is barred from now on; below next and past 128 bars nothing is
unfoldable pub bar_of : Window → ℕ → Window
bar_of w k = cond (leb w.next k && ltb (k - w.next) 128) (with_bars w (marked (bars_of w) (k - w.next))) w
