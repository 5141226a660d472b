-- The eight marks that a list has of a boat, `MsgIn::bitmap` of stream.rs. The station keeps them as a running value, the low byte of the boat's window, moved
-- when a message lands; here they are rebuilt number by number, and `MarksFollow`, the last definition, says that the two are equal after any calls from a start.
use Rattle.std.specs.Prelude.{ℕ, ◌+◌, ◌%◌, ◌^◌, ◌≤◌, ◌<◌, ◌≡◌, Bool, true, false, cond, List, [], ◌∷◌, length, get_or, eqb}
use Rattle.bits.specs.Loop.{fold}
use Rattle.bits.specs.Mask.{either_of}
use Rattle.stream.specs.declared.window.Window.{Window}
use Rattle.stream.specs.Window.{handed_of, bitmap_of}
use Rattle.net.specs.declared.Station.{Station}
use Rattle.net.specs.State.{member_at}
use Rattle.net.specs.Net.{is_member}
use Rattle.config.specs.declared.Given.{Given}
use Rattle.station.specs.Entries.{start_refusal}
use Rattle.promise.specs.Promise.{Net, InBook, brings, reads, frees, ends, changes_nothing, Call, in_book, step, after, started, Stays, sent_now, Book, empty_book, also_handed, Event2, answers_of, book_call, CallsOk}

-- ---- rebuilding

-- `a | (self.has(self.next + 1 + i) as u8) << i`
abbrev pub also_marked : (ℕ → Bool) → ℕ → ℕ → ℕ → ℕ
also_marked has next i a = either_of a (cond (has (next + 1 + i)) (2 ^ i) 0)

-- `(0..8).fold(0, ..)`: which of the eight numbers after next are handed over, by a test of each
unfoldable pub rebuilt : (ℕ → Bool) → ℕ → ℕ
rebuilt has next = fold (also_marked has next) 8 0 0

-- a boat's window follows a test of its numbers: next is the lowest that fails, and the marks are those that the test gives
pub record Follows (has : ℕ → Bool) (w : Window) : Type 0 where
  pub missing : has w.next ≡ false
  pub below : (j : ℕ) → j < w.next → has j ≡ true
  pub marks : bitmap_of w ≡ rebuilt has w.next

-- so does that of each boat; f is the test of a slot and a number
abbrev pub MarksHold : (ℕ → ℕ → Bool) → Station → Type 0
MarksHold f s = (i : ℕ) → is_member s.used i ≡ true → Follows (f i) (member_at s i).up

-- ---- the three tests

-- the boats' own windows
abbrev pub in_window : Station → ℕ → ℕ → Bool
in_window s i k = handed_of (member_at s i).up k

-- landed with these events 2 too: an event names slot and cell, and the full number stands with the cell, its owner being slot * 2 ^ 32 + number
abbrev pub also_landed : List Event2 → List ℕ → (ℕ → ℕ → Bool) → ℕ → ℕ → Bool
also_landed [] owners f = f
also_landed (e ∷ es) owners f = also_landed es owners (also_handed e.slot (get_or owners e.cell 0 % 4294967296) f)

-- in a call: only receptions land messages; with a sign-off that is not refused the slot's stay ends, and nothing has landed in the next (U3 of document 02)
abbrev pub landed_by : InBook → Bool → List Event2 → List ℕ → (ℕ → ℕ → Bool) → ℕ → ℕ → Bool
landed_by (brings words numbers lent) refused es owners f = also_landed es owners f
landed_by (reads cell lent) refused es owners f = f
landed_by (frees cell) refused es owners f = f
landed_by (ends slot) refused es owners f = cond refused f (λ s k. cond (eqb slot s) false (f s k))
landed_by changes_nothing refused es owners f = f

-- in all the calls, told by their events 2: in the stays that run
unfoldable pub landed_in : List Call → Net → (ℕ → ℕ → Bool) → ℕ → ℕ → Bool
landed_in [] n f = f
landed_in (c ∷ cs) n f = landed_in cs (step c n) (landed_by (in_book c) (answers_of c n).refused (answers_of c n).events (step c n).station.owners f)

-- the book after the calls
unfoldable pub book_after : Stays → List Call → Net → Book → Book
book_after M [] n b = b
book_after M (c ∷ cs) n b = book_after M cs (step c n) (book_call (sent_now M b) c n b).left

-- ---- the promise

-- of the calls cs from n on, in the station last returned: the marks are those rebuilt from each boat's whole window, from all that landed, and, of each boat that is
-- watched, under item 3's premises on its messages, each of at most 2,046 bytes here, from what the book has handed over
pub record Marks (n : Net) (cs : List Call) : Type 0 where
  pub window : MarksHold (in_window (after cs n).station) (after cs n).station
  pub landed : MarksHold (landed_in cs n (λ s k. false)) (after cs n).station
  pub book : (M : Stays) → ((s t k : ℕ) → M.watched s t ≡ true → length (M.text s t k) ≤ 2046) → CallsOk M cs n empty_book
      → (i : ℕ) → M.watched i ((book_after M cs n empty_book).stay i) ≡ true → is_member (after cs n).station.used i ≡ true
      → Follows ((book_after M cs n empty_book).ledger.handed i) (member_at (after cs n).station i).up

-- from a start that is not refused, of any calls
abbrev pub MarksFollow : Type 0
MarksFollow =
    (s : Station) (g : Given) (store : List ℕ) → start_refusal g (length store) ≡ 0 → (cs : List Call) → Marks (started s g store) cs
