-- What the room for a piece says: the cell is below the count, its own cell is filling with the message, a free one is not taken.
-- Assumes nothing.
use Rattle.std.specs.Prelude.{Option, Some, None}
use mathlib.Core.Path.{◌≡◌, refl, ap, ◌∙◌}
use mathlib.Core.Bool.{Bool, true, false, not, cond, ◌&&◌}
use mathlib.Core.List.{List}
use mathlib.Core.Logic.{⊎_elim}
use Prim.Native.Nat.{ℕ, ◌^◌, ◌≤◌, ◌<◌}
use native.Mathlib.Omega.{arith}
use lib.ListN.{get_or}
use lib.Dec.{eqb}
use borrow.Author.Tests.{lt-ltb, le-ltb, eq-eqb, eqb-true, not-true}
use Rattle.bits.specs.Mask.{has_bit, lowest_free}
use Rattle.bits.proofs.Laws.{free_lt, free_is, free_none}
use Rattle.bits.proofs.Lists.{and_true, le_or_lt}
use Rattle.bits.proofs.Loops.{first_found, first_nothing}
use Rattle.stream.specs.declared.table.Room.{Room}
use Rattle.stream.specs.declared.table.Room.TheVariants.{Own, Free, Full}
use Rattle.stream.specs.Table.{owner_of, is_own, cell_count, own_cell, room_of}

-- two boats' messages have two names
pub owner_same : (s s' k k' : ℕ) → k < 2 ^ 32 → k' < 2 ^ 32 → owner_of s k ≡ owner_of s' k' → (s ≡ s') × (k ≡ k')
owner_same s s' k k' a b e = (omega arith, omega arith)

pub cells_most : (count : ℕ) → cell_count count ≤ 64
cells_most count =
    ⊎_elim
    (λ l. let e : cell_count count ≡ 64 = ap (λ (t : Bool). cond t count 64) (le-ltb count 64 l) in omega arith)
    (λ l. let e : cell_count count ≡ count = ap (λ (t : Bool). cond t count 64) (lt-ltb count 64 l) in omega arith)
    (le_or_lt 64 count)

pub cells_are : (count : ℕ) → count ≤ 64 → cell_count count ≡ count
cells_are count h =
    ⊎_elim
    (λ l. let e : cell_count count ≡ 64 = ap (λ (t : Bool). cond t count 64) (le-ltb count 64 l) in omega arith)
    (λ l. ap (λ (t : Bool). cond t count 64) (lt-ltb count 64 l))
    (le_or_lt 64 count)

-- what a cell that is filling with a message is
pub record Filling (owners : List ℕ) (busy landed c owner : ℕ) : Type 0 where
  pub taken : has_bit busy c ≡ true
  pub open_yet : has_bit landed c ≡ false
  pub holds : get_or owners c 0 ≡ owner

module _ (owners : List ℕ) (busy landed owner : ℕ) where
  pub own_filling : (c : ℕ) → is_own busy landed c (get_or owners c 0) owner ≡ true → Filling owners busy landed c owner
  own_filling c e =
      let a = and_true (has_bit busy c && not (has_bit landed c)) (eqb (get_or owners c 0) owner) e in
      let b = and_true (has_bit busy c) (not (has_bit landed c)) a.0 in
      record { taken = b.0; open_yet = not-true (has_bit landed c) b.1; holds = eqb-true (get_or owners c 0) owner a.1 }

  pub filling_own : (c : ℕ) → Filling owners busy landed c owner → is_own busy landed c (get_or owners c 0) owner ≡ true
  filling_own c f = own_test (has_bit busy c) (has_bit landed c) (get_or owners c 0) owner f.taken f.open_yet f.holds
    where
      own_test : (a b : Bool) (x y : ℕ) → a ≡ true → b ≡ false → x ≡ y → a && not b && eqb x y ≡ true
      own_test a b x y p q r = ap (λ (t : Bool). t && not b && eqb x y) p ∙ ap (λ (t : Bool). not t && eqb x y) q ∙ eq-eqb x y r

  module _ (n : ℕ) where
    -- by what the two searches found
    pub record OwnAt (c : ℕ) : Type 0 where
      pub below : c < n
      pub filling : Filling owners busy landed c owner

    pub record FreeAt (c : ℕ) : Type 0 where
      pub below : c < n
      pub unused : has_bit busy c ≡ false
      pub none : (d : ℕ) → d < n → is_own busy landed d (get_or owners d 0) owner ≡ false

    pub record NoneLeft : Type 0 where
      pub all : (d : ℕ) → d < n → has_bit busy d ≡ true
      pub none : (d : ℕ) → d < n → is_own busy landed d (get_or owners d 0) owner ≡ false

    abbrev pub RoomIs : Room → Type 0
    RoomIs (Own c) = OwnAt c
    RoomIs (Free c) = FreeAt c
    RoomIs Full = NoneLeft

    own_none : own_cell owners busy landed n owner ≡ None → (d : ℕ) → d < n → is_own busy landed d (get_or owners d 0) owner ≡ false
    unfolding own_cell
    own_none e d l = first_nothing (λ c. is_own busy landed c (get_or owners c 0) owner) n 0 e d (omega arith) (omega arith)

    own_some : (c : ℕ) → own_cell owners busy landed n owner ≡ Some c → OwnAt c
    unfolding own_cell
    own_some c e =
        let r = first_found (λ c. is_own busy landed c (get_or owners c 0) owner) n 0 c e in
        record { below = omega arith; filling = own_filling c r.1 }

    pub room_is : RoomIs (room_of (own_cell owners busy landed n owner) (lowest_free busy n))
    room_is = go (own_cell owners busy landed n owner) (lowest_free busy n) refl refl
      where
        go : (a b : Option ℕ) → own_cell owners busy landed n owner ≡ a → lowest_free busy n ≡ b → RoomIs (room_of a b)
        go (Some c) b p q = own_some c p
        go None (Some c) p q = record { below = free_lt busy n c q; unused = free_is busy n c q; none = own_none p }
        go None None p q = record { all = free_none busy n q; none = own_none p }
