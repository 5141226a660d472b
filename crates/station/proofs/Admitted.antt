-- A direct admission as the code stores it. Assumes nothing.
use mathlib.Core.Path.{◌≡◌, refl, sym, subst}
use mathlib.Core.Bool.{Bool, true, false, cond}
use mathlib.Core.List.{List, []}
use Prim.Native.Nat.{ℕ}
use lib.Ieee.{Float}
use Rattle.bits.specs.Mask.{with_bit}
use Rattle.out.specs.declared.Output.{Output}
use Rattle.out.specs.Outputs.{Writes}
use Rattle.out.specs.Encode.{Wrote}
use Rattle.out.proofs.Laws.{writes_back}
use Rattle.recent.specs.declared.Recent.{Recent}
use Rattle.recent.specs.Readings.{empty}
use Rattle.queue.specs.declared.Queue.{Queue}
use Rattle.queue.specs.Queues.{empty_queue}
use Rattle.roster.specs.declared.Member.{Member}
use Rattle.roster.specs.Members.{new_member}
use Rattle.net.specs.declared.Station.{Station}
use Rattle.net.specs.State.{index_of, with_round, with_toack}
use Rattle.net.specs.Net.{said, Did}
use Rattle.admit.specs.declared.Seat.{Seat}
use Rattle.admit.specs.declared.Seat.TheVariants.{Known, Free, Full}
use Rattle.admit.specs.Admission.{admit_events, admit_by, via_for}
use Rattle.admit.specs.Code.Seats.{stored_at}

-- what stands in the words that were lent, r, where the output n is as the call left it, m
pub left_back : {o m n : Output} {ws r : List ℕ} → n ≡ m → Writes o ws m → (o.words.ghost_name ≡ n.words.ghost_name → r ≡ n.words.now) → Wrote o.words.now o.at ws r n.at
left_back {o} {ws = ws} q w e = writes_back (subst (λ (k : Output). Writes o ws k) (sym q) w) e

module _ (s : Station) (call : List ℕ) (relay : ℕ) (now : Float) (ok : Bool) (found : Seat) {l m : List ℕ} {j : ℕ} where
  -- a boat that is known
  pub admit_known : (c i acks : ℕ) → ok ≡ true → found ≡ Known c → i ≡ index_of c → acks ≡ with_bit s.round.toack i → Wrote l 0 [] m j
      → Did (cond ok (admit_by found s call (via_for s found relay) now) (said s [])) (with_round s (with_toack s.round acks)) l 0 m j
  admit_known c i acks eo e ei ea w = rw (eo, e, ea, ei) (record { station = refl; wrote = w })

  -- a newcomer in slot c
  pub admit_free : (c i via : ℕ) (k : Member) (z : Recent) (y : Queue) (used acks : ℕ)
      → ok ≡ true → found ≡ Free c → i ≡ index_of c → via ≡ via_for s (Free c) relay
      → k ≡ new_member call via now → z ≡ empty → y ≡ empty_queue → used ≡ with_bit s.used i → acks ≡ with_bit s.round.toack i
      → Wrote l 0 (admit_events c via) m j
      → Did (cond ok (admit_by found s call (via_for s found relay) now) (said s [])) (stored_at s i k z y used acks) l 0 m j
  admit_free c i via k z y used acks eo e ei ev ek ez ey eu ea w =
      rw (eo, e, ea, eu, ey, ez, ek, ei, ← ev) (record { station = refl; wrote = w })

  -- no seat is left
  pub admit_full : found ≡ Full → Wrote l 0 [] m j → Did (cond ok (admit_by found s call (via_for s found relay) now) (said s [])) s l 0 m j
  admit_full e w = rw e (at ok)
    where
      at : (t : Bool) → Did (cond t (said s []) (said s [])) s l 0 m j
      at true = record { station = refl; wrote = w }
      at false = record { station = refl; wrote = w }

  -- a call that is refused
  pub admit_refused : ok ≡ false → Wrote l 0 [] m j → Did (cond ok (admit_by found s call (via_for s found relay) now) (said s [])) s l 0 m j
  admit_refused eo w = rw eo (record { station = refl; wrote = w })
