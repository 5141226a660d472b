-- The outcome of a reception by its two cases: it is refused, or a burst is received in a store for all the cells. Assumes nothing.
use mathlib.Core.Path.{◌≡◌, refl}
use mathlib.Core.Bool.{Bool, true, false, cond}
use mathlib.Core.List.{List}
use Prim.Native.Nat.{ℕ, ◌*◌, ◌/◌, ◌≤◌}
use native.Mathlib.Omega.{arith}
use lib.Dec.{eqb, ltb}
use lib.Ieee.{Float}
use lib.ListN.{length}
use borrow.Author.Tests.{eqb-true, ltb-false}
use Rattle.bits.proofs.Lists.{cond_keeps, never_both}
use Rattle.words.specs.Words.{Burst, Parsed, malformed, parsed, parse}
use Rattle.words.specs.Fine.{FineBurst}
use Rattle.words.proofs.Fine.{parse_fine}
use Rattle.net.specs.declared.Station.{Station}
use Rattle.rx.specs.Reception.{ncs_rx}
use Rattle.station.specs.Entries.{Outcome, refused, received_as, receive_by, receive_refusal, receive_of, check1, check2, check3}
use Rattle.promise.specs.Promise.{Lent, handed, another, lent_to, LentOk}

abbrev pub refused_by : Outcome → Bool
refused_by o = cond (eqb o.refusal 0) false true

-- one that is not refused was lent a store for all the cells
store_room : (room count : ℕ) (now snr : Float) (store words : List ℕ) → receive_refusal room (length store) count now snr (parse words) ≡ 0 → 6400 * count ≤ length store
unfolding receive_refusal
store_room room count now snr store words = at (ltb room 8192) (ltb (length store / 6400) count) refl
  where
    at : (x y : Bool) → ltb (length store / 6400) count ≡ y → ◌≡◌ {A = ℕ} (cond x 4 (cond y 7 (check1 now (check2 snr (check3 (parse words) 0))))) 0 → 6400 * count ≤ length store
    at true y q e = absurd (omega arith)
    at false true q e = absurd (omega arith)
    at false false q e = let r = ltb-false (length store / 6400) count q in omega arith

pub receive_cases : (P : Parsed Burst → Outcome → Type 0) (s : Station) (words : List ℕ) (snr now : Float) (store : List ℕ) (room : ℕ)
    → ((w : Parsed Burst) (m : ℕ) → eqb m 0 ≡ false → P w (refused m s store))
    → ((u : Burst) → FineBurst u → 6400 * s.count ≤ length store → P (parsed u) (received_as (ncs_rx s u snr now store)))
    → P (parse words) (receive_of s words snr now store room)
unfolding receive_of
receive_cases P s words snr now store room sent_back taken =
    cond_keeps (P (parse words)) (eqb (receive_refusal room (length store) s.count now snr (parse words)) 0) _ _
    (λ q. by (parse words) refl (store_room room s.count now snr store words (eqb-true _ 0 q)))
    (λ q. sent_back (parse words) (receive_refusal room (length store) s.count now snr (parse words)) q)
  where
    by : (w : Parsed Burst) → parse words ≡ w → 6400 * s.count ≤ length store → P w (receive_by w s snr now store)
    by malformed e l = sent_back malformed 3 refl
    by (parsed u) e l = taken u (parse_fine words u e) l

-- and, where nobody else writes the store, the one handed on
pub lent_is : (store : List ℕ) (lent : Lent) (t : Bool) → LentOk lent t → t ≡ false → store ≡ lent_to lent store
lent_is store handed t k q = refl
lent_is store (another st) t k q = absurd (never_both t k q)
