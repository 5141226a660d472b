-- Slots and members: a slot's index is an element of the roster, a member has a slot, and what stands in a slot can be stored there again.
-- Assumes nothing.
use mathlib.Core.Path.{◌≡◌, refl, ap}
use mathlib.Core.Bool.{Bool, true, false, cond}
use Prim.Native.Nat.{ℕ, ◌<◌, ◌≤◌}
use native.Mathlib.Omega.{arith}
use lib.Dec.{ltb}
use lib.ListN.{length}
use lib.Ieee.{Float}
use lib.Seq.{set-get_or, get_or-set_same, set-set}
use borrow.Author.Tests.{lt-ltb, le-ltb, ltb-true}
use Rattle.bits.specs.Mask.{has_bit}
use Rattle.bits.proofs.Lists.{and_true}
use Rattle.roster.specs.declared.Member.{Member}
use Rattle.net.specs.declared.Station.{Station}
use Rattle.net.specs.declared.Turn.{Turn}
use Rattle.net.specs.declared.Turn.TheVariants.{Idle, Sending, Waiting}
use Rattle.net.specs.State.{index_of, member_at, with_member, with_members, queue_at, with_queue, with_queues, table_of, with_table}
use Rattle.net.specs.Net.{is_member, polled_by, done_by}
use Rattle.net.specs.Code.Done.{is_sure, done_for}

-- ### Slots

lt_by : (slot : ℕ) (t : Bool) → ltb slot 62 ≡ t → cond t slot 0 < 62
lt_by slot true e = ltb-true slot 62 e
lt_by slot false e = omega arith

pub index_lt : (slot : ℕ) → index_of slot < 62
index_lt slot = lt_by slot (ltb slot 62) refl

pub index_is : (slot : ℕ) → slot < 62 → index_of slot ≡ slot
index_is slot h = rw (lt-ltb slot 62 h)

pub index_none : (slot : ℕ) → 62 ≤ slot → index_of slot ≡ 0
index_none slot h = rw (le-ltb slot 62 h)

-- ### Members

module _ (used slot : ℕ) where
  pub member_lt : is_member used slot ≡ true → slot < 62
  unfolding is_member
  member_lt h = ltb-true slot 62 (and_true (ltb slot 62) (has_bit used slot) h).0

  pub member_has : is_member used slot ≡ true → has_bit used slot ≡ true
  unfolding is_member
  member_has h = (and_true (ltb slot 62) (has_bit used slot) h).1

  pub member_is : slot < 62 → is_member used slot ≡ has_bit used slot
  unfolding is_member
  member_is h = rw (lt-ltb slot 62 h)

  pub member_none : 62 ≤ slot → is_member used slot ≡ false
  unfolding is_member
  member_none h = rw (le-ltb slot 62 h)

module _ (s : Station) (slot : ℕ) where
  -- the member that stands there, stored again
  pub member_again : with_member s slot (member_at s slot) ≡ s
  member_again = ap (with_members s) (set-get_or s.members (index_of slot) _)

  -- what was stored is there, and the latest store counts
  pub member_stored : (m : Member) → length s.members ≡ 62 → member_at (with_member s slot m) slot ≡ m
  member_stored m h =
      let i : index_of slot < length s.members = omega (arith, index_lt slot) in
      get_or-set_same s.members (index_of slot) m _ i

  pub member_twice : (m n : Member) → with_member (with_member s slot m) slot n ≡ with_member s slot n
  member_twice m n = ap (with_members s) (set-set s.members (index_of slot) m n)

-- the same for the numbers of a directed queue
pub queue_again : (s : Station) (slot : ℕ) → with_queue s slot (queue_at s slot) ≡ s
queue_again s slot = ap (with_queues s) (set-get_or s.queues (index_of slot) _)

-- the station's own table, put back
pub table_again : (s : Station) → with_table s (table_of s) ≡ s
table_again s = refl

-- ### The end of a sending

-- of the boat only one truth value is read
pub done_is : (v : Turn) (s : Station) (t : Float) → done_for v s.wait s.settings (is_sure s (polled_by v)) t ≡ done_by v s t
done_is Idle s t = refl
done_is Sending s t = refl
done_is (Waiting r) s t = refl
