-- What a boat's piece does, by its four cases; and that table, store and window stay what they are known to be. Assumes nothing.
use Rattle.std.specs.Prelude.{Option, Some, None, is_some}
use mathlib.Core.Path.{◌≡◌, refl, sym, ap, ◌∙◌, subst}
use mathlib.Core.Bool.{Bool, true, false, cond, ◌&&◌, ◌||◌}
use mathlib.Core.List.{List}
use mathlib.Core.Logic.{⊎_elim}
use Prim.Native.Nat.{ℕ, ◌+◌, ◌-◌, ◌*◌, ◌/◌, ◌%◌, ◌≤◌}
use native.Mathlib.Omega.{arith}
use lib.ListN.{length, get_or}
use lib.Dec.{eqb, ltb}
use borrow.Author.Tests.{ltb-true}
use Rattle.bits.specs.Mask.{has_bit}
use Rattle.bits.proofs.Lists.{cond_true, cond_false, cases, le_or_lt, never_both, or_false}
use Rattle.wire.specs.Numbers.{widened, widened_at, distance, numbers}
use Rattle.wire.proofs.Near.{widened_at_lem}
use Rattle.inbox.specs.declared.cell.Cell.{Cell}
use Rattle.inbox.specs.declared.keep.Kept.{Kept}
use Rattle.inbox.specs.declared.keep.Kept.TheVariants.{Needless, Yes, Late, Overlong, Long, NoCell, NoPlace}
use Rattle.inbox.specs.Cells.{Held, held}
use Rattle.inbox.specs.Messages.{Fits, shows_of}
use Rattle.inbox.specs.Stores.{cell_of, landed_of}
use Rattle.inbox.proofs.Apart.{accept_fits, in_length, in_other}
use Rattle.inbox.proofs.Rule.{KeptIs, yes_is}
use Rattle.inbox.proofs.Steps.{empty_fits}
use Rattle.stream.specs.declared.window.Window.{Window}
use Rattle.stream.specs.declared.table.Room.{Room}
use Rattle.stream.specs.declared.table.Room.TheVariants.{Own, Free, Full}
use Rattle.stream.specs.Window.{handed_of, land_of, barred_of, bar_of}
use Rattle.stream.specs.Table.{Table, Accepted, accept, accept_by, accept_in, accepted, passed, table_room, cell_at, cell_for, held_for, place_of, has_room, owner_of, is_over, kept_for, take_by, put_of, put_in, joined_of, changes, bars, is_lost, barred_table}
use Rattle.stream.proofs.Takes.{changes_yes, bars_over, joined_length}
use Rattle.stream.proofs.Tables.{Tidy, kept_tidy, kept_other, freed_other, barred_tidy, place_below, place_in, room_only}
use Rattle.stream.proofs.Windows.{Sound, sound_next, sound_land, sound_bar, land_at, land_bars, bar_handed, bar_bars, handed_low}

or_no : (b : Bool) → b || false ≡ b
or_no true = refl
or_no false = refl

-- ---- the cases

-- a piece that the rule does not keep, or that changes nothing: only the answer tells of it
abbrev pub left_as : Table → Window → List ℕ → ℕ → ℕ → Kept → Accepted
left_as t w store c k a =
    record { table = t; window = w; store = store; lost = is_lost a; bars = false; landed = None; cell = c; number = k }

-- a piece of a message that claims too much: its own cell is free, and the number barred
abbrev pub barred_as : Table → Window → List ℕ → ℕ → ℕ → Accepted
barred_as t w store slot k =
    record {
      table = barred_table t (table_room t slot k);
      window = bar_of w k;
      store = store;
      lost = true;
      bars = true;
      landed = None;
      cell = place_of (table_room t slot k);
      number = k;
    }

-- the kept rule's answer to a piece of message k
abbrev pub answer_of : Table → Window → List ℕ → ℕ → ℕ → ℕ → List ℕ → Kept
answer_of t w store slot k offset p =
    kept_for (barred_of w k) store (table_room t slot k) (cell_at t (place_of (table_room t slot k))) k offset p

-- the cell that a kept piece of message k goes into, and what it holds after the piece
abbrev pub cell_in : Table → ℕ → ℕ → ℕ
cell_in t slot k = place_of (table_room t slot k)

abbrev pub held_after : Table → List ℕ → ℕ → ℕ → ℕ → List ℕ → Held
held_after t store slot k offset p =
    joined_of store (cell_in t slot k) (cell_for (table_room t slot k) (cell_at t (cell_in t slot k))) offset p

abbrev pub put_as : Table → Window → List ℕ → ℕ → ℕ → ℕ → List ℕ → Accepted
put_as t w store slot k offset p =
    accepted t w (table_room t slot k) slot k (put_in store (cell_in t slot k) (held_after t store slot k offset p))

left_by : (t : Table) (w : Window) (store : List ℕ) (slot k offset : ℕ) (p : List ℕ) (room : Room) (cell : Cell) (a : Kept)
    → changes a ≡ false → bars a ≡ false → accepted t w room slot k (take_by a store room cell offset p) ≡ left_as t w store (place_of room) k a
left_by t w store slot k offset p room cell Yes e z = absurd (never_both true refl e)
left_by t w store slot k offset p room cell Needless e z = refl
left_by t w store slot k offset p room cell Late e z = refl
left_by t w store slot k offset p room cell Overlong e z = absurd (never_both true refl z)
left_by t w store slot k offset p room cell Long e z = refl
left_by t w store slot k offset p room cell NoCell e z = refl
left_by t w store slot k offset p room cell NoPlace e z = refl

put_by : (t : Table) (w : Window) (store : List ℕ) (slot k offset : ℕ) (p : List ℕ) (room : Room) (cell : Cell)
    → accepted t w room slot k (take_by Yes store room cell offset p)
    ≡ accepted t w room slot k (put_in store (place_of room) (joined_of store (place_of room) (cell_for room cell) offset p))
unfolding put_of
put_by t w store slot k offset p room cell = refl

module _ (t : Table) (w : Window) (store : List ℕ) (slot field : ℕ) (p : List ℕ) where
  -- the piece is of message k, which is not handed over
  pub record Open (k : ℕ) : Type 0 where
    pub is : widened (field / 65536 % 256) w.next ≡ Some k
    pub fresh : handed_of w k ≡ false

  -- the three ways, as the code takes them
  pub accept_none : widened (field / 65536 % 256) w.next ≡ None → accept t w store slot field p ≡ passed t w store 0
  unfolding accept
  accept_none e = ap (λ (n : Option ℕ). accept_by n t w store slot (field % 65536) p) e

  pub accept_old : (k : ℕ) → widened (field / 65536 % 256) w.next ≡ Some k → handed_of w k ≡ true
      → accept t w store slot field p ≡ passed t w store k
  unfolding accept
  accept_old k e h = ap (λ (n : Option ℕ). accept_by n t w store slot (field % 65536) p) e ∙ cond_true (handed_of w k) _ _ h

  pub accept_open : (k : ℕ) → Open k
      → accept t w store slot field p ≡ accept_in t w store slot k (field % 65536) p (table_room t slot k)
  unfolding accept
  accept_open k o =
      ap (λ (n : Option ℕ). accept_by n t w store slot (field % 65536) p) o.is ∙ cond_false (handed_of w k) _ _ o.fresh

  -- what the rule's answer makes of the piece
  abbrev answered : ℕ → Kept → Accepted
  answered k a =
      accepted t w (table_room t slot k) slot k (take_by a store (table_room t slot k) (cell_at t (cell_in t slot k)) (field % 65536) p)

  in_cases : (P : Accepted → Type 0) (k : ℕ)
      → ((a : Kept) → answer_of t w store slot k (field % 65536) p ≡ a → changes a ≡ false → bars a ≡ false → P (left_as t w store (cell_in t slot k) k a))
      → (answer_of t w store slot k (field % 65536) p ≡ Overlong → P (barred_as t w store slot k))
      → (answer_of t w store slot k (field % 65536) p ≡ Yes → P (put_as t w store slot k (field % 65536) p))
      → P (accept_in t w store slot k (field % 65536) p (table_room t slot k))
  in_cases P k left bar put =
      ⊎_elim
      (λ y.
      let q = changes_yes answer y in
      subst P
      (sym (ap (answered k) q ∙ put_by t w store slot k (field % 65536) p (table_room t slot k) (cell_at t (cell_in t slot k))))
      (put q))
      (λ n.
      ⊎_elim
      (λ y. let q = bars_over answer y in subst P (sym (ap (answered k) q)) (bar q))
      (λ z.
      subst P
      (sym (left_by t w store slot k (field % 65536) p (table_room t slot k) (cell_at t (cell_in t slot k)) answer n z))
      (left answer refl n z))
      (cases (bars answer)))
      (cases (changes answer))
    where
      answer : Kept
      answer = answer_of t w store slot k (field % 65536) p

  -- what holds in each case holds of the piece: number none; handed over; not kept or needless; claiming too much; kept
  pub accept_cases : (P : Accepted → Type 0)
      → (widened (field / 65536 % 256) w.next ≡ None → P (passed t w store 0))
      → ((k : ℕ) → widened (field / 65536 % 256) w.next ≡ Some k → handed_of w k ≡ true → P (passed t w store k))
      → ((k : ℕ) → Open k → (a : Kept) → answer_of t w store slot k (field % 65536) p ≡ a → changes a ≡ false → bars a ≡ false
      → P (left_as t w store (cell_in t slot k) k a))
      → ((k : ℕ) → Open k → answer_of t w store slot k (field % 65536) p ≡ Overlong → P (barred_as t w store slot k))
      → ((k : ℕ) → Open k → answer_of t w store slot k (field % 65536) p ≡ Yes → P (put_as t w store slot k (field % 65536) p))
      → P (accept t w store slot field p)
  unfolding accept
  accept_cases P none old left bar put = go (widened (field / 65536 % 256) w.next) refl
    where
      go : (n : Option ℕ) → widened (field / 65536 % 256) w.next ≡ n → P (accept_by n t w store slot (field % 65536) p)
      go None e = none e
      go (Some k) e = by (handed_of w k) refl
        where
          by : (b : Bool) → handed_of w k ≡ b
              → P (cond b (passed t w store k) (accept_in t w store slot k (field % 65536) p (table_room t slot k)))
          by true h = old k e h
          by false h =
              let o : Open k = record { is = e; fresh = h } in in_cases P k (λ a q c z. left k o a q c z) (λ q. bar k o q) (λ q. put k o q)

-- ---- the number, and the window

-- a number made whole is at most 127 above next
pub widen_most : (s n k : ℕ) → n ≤ numbers → widened s n ≡ Some k → k ≤ n + 127
widen_most s n k h e = at (sym (widened_at_lem s n h) ∙ e)
  where
    at : widened_at s n ≡ Some k → k ≤ n + 127
    at = unfold widened_at in go (ltb (distance s n) 128) (ltb n (256 - distance s n)) refl
      where
        go : (a b : Bool) → ltb (distance s n) 128 ≡ a
            → cond a (Some (n + distance s n)) (cond b None (Some (n - (256 - distance s n)))) ≡ Some k → k ≤ n + 127
        go true b q z = let l = ltb-true (distance s n) 128 q in let y : n + distance s n ≡ k = cc in omega arith
        go false true q z = absurd (let y : ◌≡◌ {A = ℕ} 0 1 = cc in omega arith)
        go false false q z = let y : n - (256 - distance s n) ≡ k = cc in omega arith

-- a message that is not handed over and whose number was made whole near next lies in the window
pub open_window : (w : Window) (s k : ℕ) → Sound w → widened s w.next ≡ Some k → handed_of w k ≡ false → (w.next ≤ k) × (k ≤ w.next + 127)
open_window w s k sound e f =
    let n = sound_next w sound in
    (⊎_elim (λ l. l) (λ l. absurd (never_both (handed_of w k) (handed_low w k l) f)) (le_or_lt w.next k), widen_most s w.next k n e)

-- ---- what stays

cell_for_fits : (room : Room) (cell : Cell) → Fits cell → Fits (cell_for room cell)
cell_for_fits (Own c) cell f = f
cell_for_fits (Free c) cell f = empty_fits
cell_for_fits Full cell f = empty_fits

-- cell d of the table and of the store is the same before and after
pub record SameCell (t t' : Table) (s s' : List ℕ) (d : ℕ) : Type 0 where
  pub busy : has_bit t'.busy d ≡ has_bit t.busy d
  pub landed : has_bit t'.landed d ≡ has_bit t.landed d
  pub owner : get_or t'.owners d 0 ≡ get_or t.owners d 0
  pub cell : cell_at t' d ≡ cell_at t d
  pub bytes : cell_of s' d ≡ cell_of s d

pub same_cell : (t : Table) (s : List ℕ) (d : ℕ) → SameCell t t s s d
same_cell t s d = record { busy = refl; landed = refl; owner = refl; cell = refl; bytes = refl }

module _ (t : Table) (w : Window) (store : List ℕ) (slot field : ℕ) (p : List ℕ) (tidy : Tidy t store) (short : length p ≤ 255) where
  -- a kept piece ends at 2,048 or before, and its number is below 4,294,967,040
  module _ (k : ℕ) (yes : answer_of t w store slot k (field % 65536) p ≡ Yes) where
    abbrev kept_is : KeptIs k (field % 65536) (length p) (is_over (barred_of w k) store (table_room t slot k) (cell_at t (cell_in t slot k)) (field % 65536) p) (has_room (table_room t slot k)) (cell_for (table_room t slot k) (cell_at t (cell_in t slot k)))
    kept_is =
        yes_is k (field % 65536) (length p) (is_over (barred_of w k) store (table_room t slot k) (cell_at t (cell_in t slot k)) (field % 65536) p)
        (has_room (table_room t slot k)) (cell_for (table_room t slot k) (cell_at t (cell_in t slot k))) yes

    -- its number is not barred, and it shows no length above 2,046
    pub kept_modest : (barred_of w k ≡ false) × (shows_of (held_for (table_room t slot k) (cell_at t (cell_in t slot k)) store) (field % 65536) p ≡ false)
    kept_modest = or_false (barred_of w k) (shows_of (held_for (table_room t slot k) (cell_at t (cell_in t slot k)) store) (field % 65536) p) kept_is.modest

    in_store : 6400 * cell_in t slot k + 6400 ≤ length store
    in_store = (place_in t store tidy slot k).1

    pub after_length : length (held_after t store slot k (field % 65536) p).bytes ≡ 6400
    after_length =
        joined_length store (cell_in t slot k) (cell_for (table_room t slot k) (cell_at t (cell_in t slot k))) (field % 65536) p in_store short kept_is.fits

    pub after_fits : Fits (held_after t store slot k (field % 65536) p).cell
    after_fits =
        accept_fits (held (cell_for (table_room t slot k) (cell_at t (cell_in t slot k))) (cell_of store (cell_in t slot k))) (field % 65536) p
        (cell_for_fits (table_room t slot k) (cell_at t (cell_in t slot k)) (tidy.fits (cell_in t slot k) (place_in t store tidy slot k).0))
        short kept_is.fits

    put_length : length (put_as t w store slot k (field % 65536) p).store ≡ length store
    put_length = in_length store (cell_in t slot k) (held_after t store slot k (field % 65536) p).bytes in_store after_length

    put_tidy : Tidy (put_as t w store slot k (field % 65536) p).table (put_as t w store slot k (field % 65536) p).store
    put_tidy =
        kept_tidy t (cell_in t slot k) (owner_of slot k) (put_in store (cell_in t slot k) (held_after t store slot k (field % 65536) p)).taken
        store (put_as t w store slot k (field % 65536) p).store tidy (place_below t store tidy slot k) put_length after_fits
        (room_only t store tidy slot k kept_is.celled)

    put_other : (d : ℕ) → (d ≡ cell_in t slot k → ⊥) → 6400 * d + 6400 ≤ length store
        → SameCell t (put_as t w store slot k (field % 65536) p).table store (put_as t w store slot k (field % 65536) p).store d
    put_other d n l =
        let r = kept_other t (cell_in t slot k) (owner_of slot k) (put_in store (cell_in t slot k) (held_after t store slot k (field % 65536) p)).taken d n in
        record {
          busy = r.0;
          landed = r.1;
          owner = r.2;
          cell = r.3;
          bytes = in_other store (cell_in t slot k) (held_after t store slot k (field % 65536) p).bytes in_store after_length d n l;
        }

  pub accept_length : length (accept t w store slot field p).store ≡ length store
  accept_length =
      accept_cases t w store slot field p (λ x. length x.store ≡ length store)
      (λ e. refl) (λ k e h. refl) (λ k o a q c z. refl) (λ k o q. refl) (λ k o q. put_length k q)

  -- the table stays what it is known to be
  pub accept_tidy : Tidy (accept t w store slot field p).table (accept t w store slot field p).store
  accept_tidy =
      accept_cases t w store slot field p (λ x. Tidy x.table x.store)
      (λ e. tidy) (λ k e h. tidy) (λ k o a q c z. tidy) (λ k o q. barred_tidy t store tidy (table_room t slot k)) (λ k o q. put_tidy k q)

  -- every cell but the piece's own stays as it was, its bytes too
  pub accept_other : (d : ℕ) → (d ≡ (accept t w store slot field p).cell → ⊥) → 6400 * d + 6400 ≤ length store
      → SameCell t (accept t w store slot field p).table store (accept t w store slot field p).store d
  accept_other d =
      accept_cases t w store slot field p
      (λ x. (d ≡ x.cell → ⊥) → 6400 * d + 6400 ≤ length store → SameCell t x.table store x.store d)
      (λ e n l. same_cell t store d)
      (λ k e h n l. same_cell t store d)
      (λ k o a q c z n l. same_cell t store d)
      (λ k o q n l. bar_other (table_room t slot k) n)
      (λ k o q n l. put_other k q d n l)
    where
      bar_other : (room : Room) → (d ≡ place_of room → ⊥) → SameCell t (barred_table t room) store store d
      bar_other (Own c) n = let r = freed_other t store tidy c d n in record { busy = r.0; landed = r.1; owner = refl; cell = refl; bytes = refl }
      bar_other (Free c) n = same_cell t store d
      bar_other Full n = same_cell t store d

  -- the window stays what it is known to be; the landed number is the only one handed over with the piece, and no number is barred but the piece's
  module _ (sound : Sound w) where
    -- what a piece is to do to the window
    abbrev Moves : Window → Bool → Bool → ℕ → Type 0
    Moves v lands barring k =
        Sound v
        × ((j : ℕ) → handed_of v j ≡ handed_of w j || (lands && eqb j k))
        × ((j : ℕ) → barred_of v j ≡ barred_of w j || (barring && eqb j k))

    stays : (k : ℕ) → Moves w false false k
    stays k = (sound, λ j. sym (or_no (handed_of w j)), λ j. sym (or_no (barred_of w j)))

    landed_window : (k : ℕ) → Open t w store slot field p k → answer_of t w store slot k (field % 65536) p ≡ Yes → (b : Bool)
        → Moves (cond b (land_of w k) w) b false k
    landed_window k o q true =
        let l = open_window w (field / 65536 % 256) k sound o.is o.fresh in
        let n = sound_next w sound in
        let f = (kept_modest k q).0 in (
          sound_land w sound k f (kept_is k q).low l.0 (omega arith),
          land_at w k sound.low sound.high (omega arith) l.0 (omega arith),
          λ j. land_bars w sound k f l.0 j ∙ sym (or_no (barred_of w j)),
        )
    landed_window k o q false = stays k

    barred_window : (k : ℕ) → Open t w store slot field p k → Moves (bar_of w k) false true k
    barred_window k o =
        let l = open_window w (field / 65536 % 256) k sound o.is o.fresh in (
          sound_bar w k l.0 l.1 sound o.fresh,
          λ j. bar_handed w k j ∙ sym (or_no (handed_of w j)),
          bar_bars w k l.0 l.1,
        )

    pub accept_window : Sound (accept t w store slot field p).window
        × ((j : ℕ) → handed_of (accept t w store slot field p).window j
        ≡ handed_of w j || (is_some (accept t w store slot field p).landed && eqb j (accept t w store slot field p).number))
        × ((j : ℕ) → barred_of (accept t w store slot field p).window j
        ≡ barred_of w j || ((accept t w store slot field p).bars && eqb j (accept t w store slot field p).number))
    accept_window =
        accept_cases t w store slot field p (λ x. Moves x.window (is_some x.landed) x.bars x.number)
        (λ e. stays 0)
        (λ k e h. stays k)
        (λ k o a q c z. stays k)
        (λ k o q. barred_window k o)
        (λ k o q. landed_window k o q (is_some (landed_of (held_after t store slot k (field % 65536) p))))
