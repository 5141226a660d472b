-- The words of a call fit the 8,192 words of output that document 01 asks for: `AllFit` is a statement over every station, from a start
-- or not. So what the contracts say of the output lent, `sets out 0 words`, is all the words, and the answer is how many they are.
use Rattle.std.specs.Prelude.{ℕ, ◌≤◌, ◌≡◌, cond, List, ◌++◌, eqb, Float, length, drop, Ok, Err}
use Rattle.refusal.specs.Numbers.{number_in}
use Rattle.std.proofs.lemmas.List.Edits.{sets}
use Rattle.net.specs.declared.Station.{Station}
use Rattle.net.specs.State.{queue_at}
use Rattle.config.specs.declared.Given.{Given}
use Rattle.station.specs.Refusals.{refusal_of}
use Rattle.station.specs.Entries.{Outcome, answer_of, words_in, admit_of, receive_of, next_of, start_refusal, start_of, post_refusal, post_of, check1, sent_of, close_refusal, close_of, cell_refusal, free_of}
use Rattle.station.specs.SignOff.{sign_off_refusal, sign_off_of}
use Rattle.station.specs.Worst.{worst_of, refusal_in}
use Rattle.dues.specs.Dues.{dues_refusal, dues_of}

-- a call that was lent an output of `room` words: its words are 8,192 at most and have room; it answers how many they are, or its refusal, and by its
-- cases that is document 01's number and the count; and the output has them all at its beginning, and behind them what it had
pub record Fits (o : Outcome) (room : ℕ) : Type 0 where
  pub most : length o.words ≤ 8192
  pub fit : length o.words ≤ room
  pub answer : answer_of o room ≡ cond (eqb o.refusal 0) (Ok (length o.words)) (Err (refusal_of o.refusal))
  pub number : number_in (answer_of o room) ≡ o.refusal
  pub written : words_in (answer_of o room) ≡ length o.words
  pub output : (out : List ℕ) → length out ≡ room → sets out 0 o.words ≡ o.words ++ drop (length o.words) out

-- the calls that are lent an output, with any arguments
pub record AllFit : Type 0 where
  pub admission : (s : Station) (packed : List ℕ) (relay : ℕ) (now : Float) (room : ℕ) → Fits (admit_of s packed relay now room) room
  pub reception : (s : Station) (words : List ℕ) (snr now : Float) (store : List ℕ) (room : ℕ) → Fits (receive_of s words snr now store room) room
  pub decision : (s : Station) (now : Float) (queue : List ℕ) (room : ℕ) → Fits (next_of s now queue room) room

-- the other calls, with any arguments: the number that each answers is document 01's, 0 for none (that of a reading stands in the contract of `read`)
pub record AllNumbered : Type 0 where
  pub start : (s : Station) (g : Given) (store : List ℕ) → number_in (answer_of (start_of s g store) 0) ≡ start_refusal g (length store)
  pub posting : (s : Station) (slot : ℕ) (message queue : List ℕ)
      → number_in (answer_of (post_of s slot message queue) 0) ≡ post_refusal (length queue) s.used slot (queue_at s slot) (length message)
  pub sending : (s : Station) (now : Float) → number_in (answer_of (sent_of s now) 0) ≡ check1 now 0
  pub closing : (s : Station) (count : ℕ) → number_in (answer_of (close_of s count) 0) ≡ close_refusal count
  pub freeing : (s : Station) (cell : ℕ) → number_in (answer_of (free_of s cell) 0) ≡ cell_refusal s.count s.landed cell
  pub signing : (s : Station) (slot : ℕ) → number_in (answer_of (sign_off_of s slot) 0) ≡ sign_off_refusal s.used slot
  pub asking : (s : Station) (slot : ℕ) → refusal_in (worst_of s slot) ≡ sign_off_refusal s.used slot
  pub charging : (s : Station) (figures : List ℕ) → number_in (dues_of s figures) ≡ dues_refusal figures
