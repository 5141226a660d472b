-- To whom word goes, and its frames one after the other. Assumes nothing.
use Rattle.std.specs.Prelude.{Some}
use mathlib.Core.Path.{◌≡◌, refl, sym}
use mathlib.Core.Bool.{Bool, true, false, cond}
use mathlib.Core.List.{List, [], ◌++◌}
use Prim.Native.Nat.{ℕ, zero, suc, ◌+◌, ◌-◌, ◌%◌, ◌≤◌, ◌<◌}
use native.Mathlib.Omega.{arith}
use lib.Dec.{ltb}
use lib.ListN.{take, replicate}
use lib.Seq.{take_at}
use borrow.Author.Tests.{lt-ltb, le-ltb, ltb-true, ltb-false}
use Rattle.bits.specs.Loop.{first}
use Rattle.bits.proofs.Lists.{and_true}
use Rattle.bits.proofs.Loops.{first_found}
use Rattle.level.proofs.Levels.{level_for_lt}
use Rattle.words.specs.Words.{least}
use Rattle.roster.specs.declared.Member.{Member}
use Rattle.roster.specs.Members.{down_or_up}
use Rattle.queue.specs.Queues.{bytes_from}
use Rattle.queue.proofs.Laws.{length_bytes}
use Rattle.net.specs.declared.Station.{Station}
use Rattle.net.specs.declared.Settings.{Settings}
use Rattle.net.specs.Net.{is_member, down_level}
use Rattle.net.proofs.Laws.{member_lt}
use Rattle.bursts.specs.Rows.{reach_by}
use Rattle.bursts.specs.Direct.{has_word, leaf_of, leaf_word, directed_to, down_frame, down_frames, slot_or255}

-- ### To whom

word_member : (s : Station) (slot : ℕ) → has_word s slot ≡ true → is_member s.used slot ≡ true
word_member s slot e = (and_true (is_member s.used slot) _ e).0

directed_by_lem : (s : Station) (slot i : ℕ) (b : Bool) → has_word s slot ≡ b → cond b (Some slot) (first (leaf_word s slot) 62 0) ≡ Some i → has_word s i ≡ true
directed_by_lem s slot i true w e = let q : slot ≡ i = cc in rw q at w
directed_by_lem s slot i false w e = (and_true (has_word s i) (leaf_of s slot i) (first_found (leaf_word s slot) 62 0 i e).1).0

-- it has something to send
pub directed_word : (s : Station) (slot i : ℕ) → directed_to s slot ≡ Some i → has_word s i ≡ true
unfolding directed_to
directed_word s slot i e = directed_by_lem s slot i (has_word s slot) refl e

-- it is a member
pub directed_member : (s : Station) (slot i : ℕ) → directed_to s slot ≡ Some i → is_member s.used i ≡ true
directed_member s slot i e = word_member s i (directed_word s slot i e)

pub directed_lt : (s : Station) (slot i : ℕ) → directed_to s slot ≡ Some i → i < 62
directed_lt s slot i e = member_lt s.used i (directed_member s slot i e)

-- the slot itself
pub directed_self : (s : Station) (slot : ℕ) → slot < 256 → has_word s slot ≡ true → slot ≡ slot_or255 (directed_to s slot)
unfolding directed_to
directed_self s slot h w = let e : slot % 256 ≡ slot = omega arith in rw w (sym e)

-- or a boat relayed by it
pub directed_leaf : (s : Station) (slot : ℕ) → has_word s slot ≡ false → directed_to s slot ≡ first (leaf_word s slot) 62 0
unfolding directed_to
directed_leaf s slot w = rw w

-- ### Levels

pub reach_lt : (g : Settings) (used : ℕ) (m p : Member) → reach_by g used m p < 17
reach_lt g used m p = by (is_member used m.via)
  where
    by : (b : Bool) → cond b (down_level g p) (down_level g m) < 17
    by true = level_for_lt g.thresholds g.margin (down_or_up p)
    by false = level_for_lt g.thresholds g.margin (down_or_up m)

pub least_le : (a b : ℕ) → least a b ≤ b
least_le a b = by (ltb a b) refl
  where
    by : (t : Bool) → ltb a b ≡ t → cond t a b ≤ b
    by true e = omega (arith, ltb-true a b e)
    by false e = omega arith

pub least_fst : (a b : ℕ) → least a b ≤ a
least_fst a b = by (ltb a b) refl
  where
    by : (t : Bool) → ltb a b ≡ t → cond t a b ≤ a
    by true e = omega arith
    by false e = omega (arith, ltb-false a b e)

-- ### Frames

-- the payload is the first n bytes of the array
pub down_payload : (queue : List ℕ) (slot o n : ℕ) (p : List ℕ) → n ≤ 255 → p ≡ bytes_from queue slot o n ++ replicate (255 - n) 0 → take (least n 255) p ≡ bytes_from queue slot o n
down_payload queue slot o n p h e =
    let f : cond (ltb n 255) n 255 ≡ n = by (ltb n 255) refl in
    rw (e, f) (take_at (bytes_from queue slot o n) (replicate (255 - n) 0) n (length_bytes queue slot o n))
  where
    by : (t : Bool) → ltb n 255 ≡ t → cond t n 255 ≡ n
    by true q = refl
    by false q = omega (arith, ltb-false n 255 q)

pub mod_again : (k : ℕ) → k % 16777216 % 16777216 ≡ k % 16777216
mod_again k = omega arith

module _ (queue : List ℕ) (slot max last : ℕ) where
  pub down_more : (room n o : ℕ) → n < room → o < last
      → down_frames (room - n) queue slot max last o ≡ down_frame queue slot o (least max (last - o)) ++ down_frames (room - (n + 1)) queue slot max last (o + max)
  unfolding down_frames
  down_more room n o h l = let k : room - n ≡ suc (room - (n + 1)) = omega arith in rw (k, lt-ltb o last l)

  down_by : (k o : ℕ) → last ≤ o → down_frames k queue slot max last o ≡ []
  unfolding down_frames
  down_by zero o h = refl
  down_by (suc k) o h = rw (le-ltb o last h)

  pub down_last : (k o : ℕ) → last ≤ o → down_frames k queue slot max last o ≡ []
  down_last k o h = down_by k o h

  pub down_full : (room n o : ℕ) → room ≤ n → down_frames (room - n) queue slot max last o ≡ []
  unfolding down_frames
  down_full room n o h = let k : room - n ≡ 0 = omega arith in rw k
