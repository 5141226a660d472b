-- A reception is refused, or it is a burst: what the code reads then is what `ncs_rx` says. Assumes nothing.
use Rattle.std.specs.Prelude.{Some}
use mathlib.Core.Path.{◌≡◌, refl, sym, ap, ◌∙◌}
use mathlib.Core.Bool.{Bool, true, false, cond}
use mathlib.Core.List.{List}
use Prim.Native.Nat.{ℕ, ◌<◌}
use native.Mathlib.Omega.{arith}
use lib.Dec.{eqb}
use lib.ListN.{length}
use lib.Ieee.{Float}
use borrow.Author.Tests.{lt-ltb, eqb-true}
use Rattle.wire.specs.Kinds.{tiny}
use Rattle.words.specs.declared.Head.{Head}
use Rattle.words.specs.Words.{Burst, Parsed, parsed, parse, shape_of}
use Rattle.words.proofs.Walk.{Left, left_shape, left_none, opened}
use Rattle.net.specs.declared.Station.{Station}
use Rattle.net.specs.declared.Wait.{Wait}
use Rattle.net.specs.State.{with_wait}
use Rattle.frames.specs.declared.Air.{Air}
use Rattle.frames.specs.Frames.{read_frames}
use Rattle.rx.specs.Ending.{busy_wait}
use Rattle.rx.specs.Reception.{air_by, air_of, rx_by, rx_of, ncs_rx}
use Rattle.rx.specs.Code.Reception.{head_for, quiet_head, many_of, frames_read, burst_read}

-- ### What `read_burst` asks

many_by : (h : Head) (n m : ℕ) (t : Bool) → eqb h.code tiny ≡ t → m ≡ cond t 0 n → 0 < m → m ≡ n
many_by h n m true e q l = absurd (omega arith)
many_by h n m false e q l = q

pub asked : (ok : Bool) (ws : List ℕ) (n : ℕ) {m : ℕ} {h : Head} → h ≡ head_for ok ws → m ≡ many_of h n → 0 < m → (ok ≡ true) × (m ≡ n)
asked true ws n {m} {h} eh em l = (refl, many_by h n m (eqb h.code tiny) refl em l)
asked false ws n {m} {h} eh em l = absurd (omega (arith, em ∙ ap (λ (k : Head). many_of k n) eh))

-- ### A burst

frames_by_lem : (ws : List ℕ) (n : ℕ) (b : Burst) → parse ws ≡ parsed b → Left ws n 1 0 b.frames → (t : Bool) → eqb n 0 ≡ t → frames_read n ws ≡ b.frames
unfolding frames_read
frames_by_lem ws n b p l true e = rw e (sym (left_none l (omega (arith, eqb-true n 0 e))))
frames_by_lem ws n b p l false e = rw (e, p)

module _ (s : Station) (b : Burst) (level now : Float) (store ws : List ℕ) (n : ℕ) (p : parse ws ≡ parsed b) (l : Left ws n 1 0 b.frames) where
  burst_by_lem : (t : Bool) → eqb b.head.code tiny ≡ t
      → burst_read (air_of s b.head level now) b.head (cond t 0 n) ws (with_wait s (busy_wait s.wait b.head s.settings now)) store
      ≡ ncs_rx s b level now store
  unfolding burst_read ncs_rx frames_read read_frames
  burst_by_lem true e = rw e
  burst_by_lem false e = rw (e, frames_by_lem ws n b p l (eqb n 0) refl)

  head_is : head_for true ws ≡ b.head
  head_is =
      let o = opened ws b p in
      let r : 0 < length ws = omega (arith, o.room) in
      rw (lt-ltb 0 (length ws) r) (sym o.head)

-- ### Together

module _ (ws : List ℕ) (n : ℕ) (s : Station) (level now : Float) (store : List ℕ) where
  heard_is : shape_of (parse ws) ≡ Some n
      → burst_read (air_of s (head_for true ws) level now) (head_for true ws) (many_of (head_for true ws) n) ws (with_wait s (busy_wait s.wait (head_for true ws) s.settings now)) store
      ≡ rx_of true ws s level now store
  heard_is shape = by (left_shape ws n shape)
    where
      by : (b : Burst) × (parse ws ≡ parsed b) × Left ws n 1 0 b.frames
          → burst_read (air_of s (head_for true ws) level now) (head_for true ws) (many_of (head_for true ws) n) ws (with_wait s (busy_wait s.wait (head_for true ws) s.settings now)) store
          ≡ rx_of true ws s level now store
      by (b, p, l) =
          ap (λ (h : Head). burst_read (air_of s h level now) h (many_of h n) ws (with_wait s (busy_wait s.wait h s.settings now)) store) (head_is s b level now store ws n p l)
          ∙ burst_by_lem s b level now store ws n p l (eqb b.head.code tiny) refl
          ∙ sym (ap (λ (k : Parsed Burst). rx_by k s level now store) p)

  quiet_is : burst_read (air_of s quiet_head level now) quiet_head 0 ws (with_wait s (busy_wait s.wait quiet_head s.settings now)) store ≡ rx_of false ws s level now store
  unfolding burst_read frames_read read_frames
  quiet_is = refl

  rx_by_lem : (ok : Bool) → (ok ≡ true → shape_of (parse ws) ≡ Some n)
      → burst_read (air_of s (head_for ok ws) level now) (head_for ok ws) (many_of (head_for ok ws) n) ws (with_wait s (busy_wait s.wait (head_for ok ws) s.settings now)) store
      ≡ rx_of ok ws s level now store
  rx_by_lem true shape = heard_is (shape refl)
  rx_by_lem false shape = quiet_is

  pub rx_is : (ok : Bool) {h : Head} {a : Air} {v : Wait} {m : ℕ} → h ≡ head_for ok ws → a ≡ air_by s.wait.turn s.used h level now
      → v ≡ busy_wait s.wait h s.settings now → m ≡ many_of h n → (ok ≡ true → shape_of (parse ws) ≡ Some n)
      → burst_read a h m ws (with_wait s v) store ≡ rx_of ok ws s level now store
  rx_is ok {h} {a} {v} {m} eh ea ev em shape = rw (ea, ev, em, eh) (rx_by_lem ok shape)
