-- What a host gives at the start, and what each exported call gives back: the entry point's own answer, with the station as a block.
use Rattle.std.specs.Prelude.{ℕ, ◌≡◌, Bool, cond, eqb, List, length, replicate, Float, Result, Ok, Err}
use Rattle.refusal.specs.declared.Refusal.{Refusal}
use Rattle.refusal.specs.Numbers.{number_of, number_in}
use Rattle.level.specs.declared.Level.{Level}
use Rattle.level.specs.declared.Level.TheVariants.{Unheard}
use Rattle.config.specs.declared.Given.{Given}
use Rattle.stream.specs.Window.{bitmap_of}
use Rattle.net.specs.declared.Station.{Station}
use Rattle.net.specs.State.{member_at, queue_at}
use Rattle.out.specs.Encode.{after}
use Rattle.dues.specs.declared.Bill.{Bill}
use Rattle.logs.specs.Turns as turns
use Rattle.station.specs.declared.Answered.{Answered}
use Rattle.station.specs.declared.Heard.{Heard}
use Rattle.station.specs.declared.show.Entry.{Entry}
use Rattle.station.specs.Refusals.{refusal_of}
use Rattle.station.specs.Entries.{Outcome, words_in, answered, heard_of, unless, start_of, admit_of, receive_of, next_of, post_of, sent_of, close_of, free_of}
use Rattle.station.specs.SignOff.{sign_off_of}
use Rattle.shore.specs.declared.answer.Plan.{Plan}
use Rattle.shore.specs.declared.answer.Done.{Done}
use Rattle.shore.specs.declared.answer.Poorest.{Poorest}
use Rattle.shore.specs.declared.answer.Shown.{Shown}
use Rattle.shore.specs.declared.answer.Month.{Month}
use Rattle.shore.specs.declared.answer.Counts.{Counts}
use Rattle.shore.specs.declared.answer.Checked.{Checked}
use Rattle.shore.specs.Blocks.{flag_of, reading_of, time_of, settings_of, block_of, station_of}

abbrev pub given_of : Plan → Given
given_of p = record { settings = settings_of p.settings; call = p.call; times = p.times; payloads = p.payloads }

-- the station as a block, the refusal's number (0 for none), how many words were written
abbrev pub done_of : Station → Result ℕ Refusal → ℕ → Done
done_of s a mask = record { block = block_of s; words = words_in a; mask = mask; refusal = number_in a }

abbrev pub told : Answered → Done
told x = done_of x.station x.answer 0

abbrev pub told_heard : Heard → Done
told_heard x = done_of x.station x.answer x.mask

abbrev pub poorest_of : Result Level Refusal → Poorest
poorest_of (Ok l) = record { level = reading_of l; refusal = 0 }
poorest_of (Err r) = record { level = reading_of Unheard; refusal = number_of r }

abbrev pub shown_of : Entry → Shown
shown_of e =
    record { lastheard = time_of e.lastheard; snrup = reading_of e.snrup; snrdown = reading_of e.snrdown; cap = e.cap; missed = e.missed; bytesin = e.bytesin; here = flag_of e.here; call = e.call; via = e.via; hascaps = flag_of e.hascaps; caps = e.caps; hasversion = flag_of e.hasversion; version = e.version }

-- a boat's messages landed, and the bytes posted to it
abbrev pub counts_of : Station → ℕ → Counts
counts_of s slot =
    record { next = (member_at s slot).up.next; posted = (queue_at s slot).posted; kept = (queue_at s slot).kept; reported = (queue_at s slot).reported; bitmap = bitmap_of (member_at s slot).up; burst = (member_at s slot).burst }

abbrev pub month_of : Result Bill Refusal → Month
month_of (Ok b) = record { takings = b.takings; charges = b.charges; credits = b.credits; refusal = 0 }
month_of (Err r) = record { takings = 0; charges = replicate 62 0; credits = replicate 62 0; refusal = number_of r }

abbrev pub checked_of : Result Bool Refusal → Checked
checked_of v = record { refusal = number_in v; accepted = flag_of (turns.is_accepted v) }

-- What a call gives back, by what it does: its own refusal's number, whichever that is, and how many words only where it is not refused; the mask is a
-- reception's alone. `AllGivenBack` says that each exported call gives back just this.
abbrev pub given_back : Outcome → ℕ → ℕ → Done
given_back o room mask =
    record { block = block_of o.station; words = cond (eqb o.refusal 0) (after room 0 (length o.words)) 0; mask = mask; refusal = o.refusal }

-- The block of a station is read back as that block, and so a refused call gives back the very block that it was given: n is the number of the call's refusal,
-- o what it would have done. (A block that no call gave may come back in the form that calls give: a flag of 7 as 1.)
pub record RefusedKeeps : Type 0 where
  pub every : (s : Station) (n room : ℕ) (lent : List ℕ) (o : Outcome) → (n ≡ 0 → ⊥)
      → given_back (unless n (station_of (block_of s)) lent o) room 0 ≡ record { block = block_of s; words = 0; mask = 0; refusal = n }
  -- told by the code's `Refusal`, the number is that of the refusal which n stands for
  pub told_as : (s : Station) (n room : ℕ) (lent : List ℕ) (o : Outcome) → (n ≡ 0 → ⊥)
      → told (answered (unless n (station_of (block_of s)) lent o) room) ≡ record { block = block_of s; words = 0; mask = 0; refusal = number_of (refusal_of n) }
  -- so of each number of document 01 it is that number
  pub each : (s : Station) (r : Refusal) (room : ℕ) (lent : List ℕ) (o : Outcome)
      → told (answered (unless (number_of r) (station_of (block_of s)) lent o) room) ≡ record { block = block_of s; words = 0; mask = 0; refusal = number_of r }

-- What the contract of each exported call that gives back a block says of it, with any arguments, is what `given_back` says.
pub record AllGivenBack : Type 0 where
  pub start : (s : Station) (g : Given) (store : List ℕ) → told (answered (start_of s g store) 0) ≡ given_back (start_of s g store) 0 0
  pub admission : (s : Station) (packed : List ℕ) (relay : ℕ) (now : Float) (room : ℕ)
      → told (answered (admit_of s packed relay now room) room) ≡ given_back (admit_of s packed relay now room) room 0
  pub reception : (s : Station) (words : List ℕ) (snr now : Float) (store : List ℕ) (room : ℕ)
      → told_heard (heard_of (receive_of s words snr now store room) room) ≡ given_back (receive_of s words snr now store room) room (receive_of s words snr now store room).mask
  pub decision : (s : Station) (now : Float) (queue : List ℕ) (room : ℕ) → told (answered (next_of s now queue room) room) ≡ given_back (next_of s now queue room) room 0
  pub sending : (s : Station) (now : Float) → told (answered (sent_of s now) 0) ≡ given_back (sent_of s now) 0 0
  pub closing : (s : Station) (count : ℕ) → told (answered (close_of s count) 0) ≡ given_back (close_of s count) 0 0
  pub freeing : (s : Station) (cell : ℕ) → told (answered (free_of s cell) 0) ≡ given_back (free_of s cell) 0 0
  pub posting : (s : Station) (slot : ℕ) (message queue : List ℕ) → told (answered (post_of s slot message queue) 0) ≡ given_back (post_of s slot message queue) 0 0
  pub signing : (s : Station) (slot : ℕ) → told (answered (sign_off_of s slot) 0) ≡ given_back (sign_off_of s slot) 0 0
