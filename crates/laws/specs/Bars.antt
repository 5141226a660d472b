-- Document 02, U4. `LongBarred` says that no message of at most 2,046 bytes is ever barred, of boats that meet item 3's premises. Barred numbers hold the lowest
-- number not handed over back: `BarsNear`, the last definition, says that after any calls from a start each barred number of a boat is at or above the lowest one
-- not handed over and at most 127 past it, and is not handed over itself.
use Rattle.std.specs.Prelude.{ℕ, ◌+◌, ◌≤◌, ◌<◌, ◌≡◌, true, false, List, length}
use Rattle.stream.specs.declared.window.Window.{Window}
use Rattle.stream.specs.Window.{handed_of, barred_of}
use Rattle.net.specs.declared.Station.{Station}
use Rattle.net.specs.State.{member_at}
use Rattle.net.specs.Net.{is_member}
use Rattle.config.specs.declared.Given.{Given}
use Rattle.station.specs.Entries.{start_refusal}
use Rattle.promise.specs.Promise.{Call, after, started, Stays, empty_book, CallsOk}
use Rattle.laws.specs.Marks.{book_after}

-- from a start that is not refused, after calls that meet item 3's premises: a number of a watched boat that is barred is that of a message of more than 2,046 bytes
abbrev pub LongBarred : Type 0
LongBarred =
    (s : Station) (g : Given) (store : List ℕ) → start_refusal g (length store) ≡ 0 → (cs : List Call)
    → let n = started s g store in
    (M : Stays) → ((s t k : ℕ) → M.watched s t ≡ true → length (M.text s t k) ≤ 65535) → CallsOk M cs n empty_book
    → (i : ℕ) → M.watched i ((book_after M cs n empty_book).stay i) ≡ true → is_member (after cs n).station.used i ≡ true
    → (k : ℕ) → barred_of (member_at (after cs n).station i).up k ≡ true → 2046 < length (M.text i ((book_after M cs n empty_book).stay i) k)

-- of one boat's numbers
abbrev pub NearNext : Window → Type 0
NearNext w = (k : ℕ) → barred_of w k ≡ true → (w.next ≤ k) × (k ≤ w.next + 127) × (handed_of w k ≡ false)

-- from a start that is not refused, after any calls
abbrev pub BarsNear : Type 0
BarsNear =
    (s : Station) (g : Given) (store : List ℕ) → start_refusal g (length store) ≡ 0 → (cs : List Call)
    → (i : ℕ) → is_member (after cs (started s g store)).station.used i ≡ true → NearNext (member_at (after cs (started s g store)).station i).up
