-- The constants of wire.rs (TINY: station.rs) under their names there. Definitions only.
use Rattle.std.specs.Prelude.{ℕ}

-- The code of a header-only message
abbrev pub tiny : ℕ
tiny = 62

-- Frame types: the top two bits of a frame's flags
abbrev pub t_up : ℕ
t_up = 0

abbrev pub t_down : ℕ
t_down = 1

abbrev pub t_ctrl : ℕ
t_ctrl = 2

-- Control frames: their first payload byte
abbrev pub c_beacon : ℕ
c_beacon = 1

abbrev pub c_checkin : ℕ
c_checkin = 2

abbrev pub c_report : ℕ
c_report = 3

abbrev pub c_overheard : ℕ
c_overheard = 4

abbrev pub c_acks : ℕ
c_acks = 5

abbrev pub c_rxlist : ℕ
c_rxlist = 6

abbrev pub c_tree : ℕ
c_tree = 8

abbrev pub c_kids : ℕ
c_kids = 10

-- Header-only messages: the high nibble of a burst's head
abbrev pub k_poll : ℕ
k_poll = 1

abbrev pub k_pollack : ℕ
k_pollack = 2

abbrev pub k_ack : ℕ
k_ack = 3

abbrev pub k_idle : ℕ
k_idle = 4

abbrev pub k_relay : ℕ
k_relay = 5

abbrev pub k_close : ℕ
k_close = 6

abbrev pub k_subpoll : ℕ
k_subpoll = 7

abbrev pub k_suback : ℕ
k_suback = 8
