-- One look over the slots in use: to whom word goes before a poll, and whose traffic the polled slot is to forward. Assumes nothing.
use Rattle.std.proofs.Common.{◌≡◌, ℕ, ◌+◌, ◌-◌, ◌^◌, ◌<◌, ◌≤◌, Bool, true, false, cond, ◌&&◌, ltb, get_or, sym, refl, ap, ◌∙◌, ⊎_elim, arith, eq-eqb, ne_eqb, eqb-true, Option, Some, None}
use lib.Count.{count_leading_zeros, leading_length}
use borrow.Author.Tests.{not-false}
use Rattle.bits.specs.Loop.{first, fold}
use Rattle.bits.specs.Mask.{has_bit, with_bit, without_bit, lowest_bit}
use Rattle.bits.proofs.Lists.{cond_true, cond_false, eq_or_not, lt_or_le}
use Rattle.bits.proofs.Laws.{has_none, has_past}
use Rattle.bits.proofs.Loops.{fold_turn, fold_keeps_below, first_at, first_none, first_lt, first_found, first_before, first_nothing, first_ext}
use Rattle.roster.specs.Relays.{slot_or63, is_source, relay_src_for}
use Rattle.queue.specs.Queues.{empty_queue}
use Rattle.net.specs.declared.Station.{Station}
use Rattle.net.proofs.Laws.{index_is, member_is, member_none}
use Rattle.bursts.specs.Rows.{member_in, least_of, mark_if, mask_where}
use Rattle.bursts.specs.Direct.{has_word, leaf_of, leaf_word, directed_to}
use Rattle.bursts.specs.Reroute.{able_of, needs_at, needs_of, tried_of, source_for}
use Rattle.bursts.proofs.Levels.{least_le}
use Rattle.bursts.proofs.Masks.{mask_where_lem, mask_past}
use Rattle.bursts.proofs.Directing.{directed_leaf}
use Rattle.next.specs.declared.Seen.{Seen}
use Rattle.next.specs.Code.Decision.{Ends, none_seen, look_at, word_at, to_of, asks_for}
use Rattle.next.proofs.Stages.{same_cond}

-- ### The end

-- a number of 64 digits has none past its leading zeros
pub no_digit : (used j : ℕ) → used < 2 ^ 64 → 64 - count_leading_zeros 64 used ≤ j → has_bit used j ≡ false
no_digit used j fits h = let n = leading_length 64 used fits in has_past n.0 used j n.2 (omega (arith, n.1))

least_past : (k j : ℕ) (b : Bool) → ltb k 62 ≡ b → cond b k 62 ≤ j → j < 62 → k ≤ j
least_past k j true e h l = h
least_past k j false e h l = absurd (omega arith)

pub ends_at : (used end : ℕ) → used < 2 ^ 64 → end ≡ least_of (64 - count_leading_zeros 64 used) 62 → Ends used end
ends_at used end fits e =
    record {
      most = rw e (least_le (64 - count_leading_zeros 64 used) 62);
      past = λ j h l. no_digit used j fits (least_past (64 - count_leading_zeros 64 used) j (ltb (64 - count_leading_zeros 64 used) 62) refl (rw e at h) l);
    }

-- ### The look

-- slots of which the test does not hold are passed by
pass_by : (p : ℕ → Bool) (n i m : ℕ) → ((k : ℕ) → i ≤ k → k < i + n → p k ≡ false) → fold (mark_if p) n i m ≡ m
pass_by p n i m h =
    fold_keeps_below (λ (x : ℕ). x ≡ m) (mark_if p) n i (λ k x l q e. cond_false (p k) (with_bit x k) x (h k l q) ∙ e) m refl

-- before slot j: what is left gives the whole
pub record Looking (s : Station) (slot end : ℕ) (x : Seen) (j : ℕ) : Type 0 where
  pub below : j ≤ end
  pub most : end ≤ 62
  pub asking : fold (mark_if (needs_at s)) (62 - j) j x.needs ≡ needs_of s
  pub told : fold (mark_if (word_at s slot)) (62 - j) j x.word ≡ mask_where (word_at s slot)

pub looking_start : (s : Station) (slot end : ℕ) → end ≤ 62 → Looking s slot end none_seen 0
unfolding mask_where
looking_start s slot end h = record { below = omega arith; most = h; asking = refl; told = refl }

pub looking_turn : {s : Station} {slot end j : ℕ} {x y : Seen} → j < end → Looking s slot end x j
    → y ≡ look_at x s.used j (member_in s j) (get_or s.queues j empty_queue) s.round.number slot → Looking s slot end y (j + 1)
looking_turn {s} {slot} {end} {j} {x} {y} h a e =
    let l : j < 62 = omega (arith, a.most) in
    record {
      below = omega arith;
      most = a.most;
      asking =
          ap (λ (z : Seen). fold (mark_if (needs_at s)) (62 - (j + 1)) (j + 1) z.needs) e
          ∙ sym (fold_turn (mark_if (needs_at s)) 62 j x.needs l)
          ∙ a.asking;
      told =
          ap (λ (z : Seen). fold (mark_if (word_at s slot)) (62 - (j + 1)) (j + 1) z.word) e
          ∙ sym (fold_turn (mark_if (word_at s slot)) 62 j x.word l)
          ∙ a.told;
    }

-- what it found
pub record Saw (s : Station) (slot : ℕ) (x : Seen) : Type 0 where
  pub asking : x.needs ≡ needs_of s
  pub told : x.word ≡ mask_where (word_at s slot)

pub looked : {s : Station} {slot end j : ℕ} {x : Seen} → Ends s.used end → end ≤ j → Looking s slot end x j → Saw s slot x
looked {s} {slot} {end} {j} {x} n h a =
    record {
      asking = sym (pass_by (needs_at s) (62 - j) j x.needs (λ k l q. rw (free k l q))) ∙ a.asking;
      told = sym (pass_by (word_at s slot) (62 - j) j x.word (λ k l q. rw (free k l q))) ∙ a.told;
    }
  where
    free : (k : ℕ) → j ≤ k → k < j + (62 - j) → has_bit s.used k ≡ false
    free k l q = n.past k (omega arith) (omega (arith, a.below, a.most))

-- ### Word

module _ (s : Station) (slot : ℕ) where
  with_one : (a : Bool) → a && true ≡ a
  with_one true = refl
  with_one false = refl

  -- the slot itself
  self_is : slot < 62 → word_at s slot slot ≡ has_word s slot
  self_is l =
      rw (member_is s.used slot l, index_is slot l, eq-eqb slot slot refl)
      (with_one _)

  self_bit : has_bit (mask_where (word_at s slot)) slot ≡ has_word s slot
  self_bit =
      ⊎_elim
      (λ l. mask_where_lem (word_at s slot) slot l ∙ self_is l)
      (λ l. mask_past (word_at s slot) slot l ∙ rw (member_none s.used slot l))
      (lt_or_le slot 62)

  -- where it has none to be sent, the boats relayed by it
  leaf_same : has_word s slot ≡ false → (j : ℕ) → j < 62 → word_at s slot j ≡ leaf_word s slot j
  leaf_same e j l =
      ⊎_elim
      (λ q. rw q (self_is (rw q at l) ∙ e ∙ sym (none (leaf_of s slot slot))))
      (λ q. rw (ne_eqb j slot q, member_is s.used j l, index_is j l))
      (eq_or_not j slot)
    where
      none : (b : Bool) → has_word s slot && b ≡ false
      none b = rw e

  first_short : (p : ℕ → Bool) → ((j : ℕ) → 62 ≤ j → p j ≡ false) → (f : Option ℕ) → first p 62 0 ≡ f → first p 64 0 ≡ f
  first_short p n None e =
      first_none p 64 (λ j l. ⊎_elim (λ h. first_nothing p 62 0 e j (omega arith) (omega arith)) (λ h. n j h) (lt_or_le j 62))
  first_short p n (Some i) e =
      first_at p 64 i (omega (arith, first_lt p 62 i e)) (λ j l. first_before p 62 0 i e j (omega arith) l) (first_found p 62 0 i e).1

  lowest_is : has_word s slot ≡ false → lowest_bit (mask_where (word_at s slot)) ≡ first (leaf_word s slot) 62 0
  unfolding lowest_bit
  lowest_is e =
      let m = mask_where (word_at s slot) in
      first_short (has_bit m) (λ j l. mask_past (word_at s slot) j l) (first (leaf_word s slot) 62 0)
      (first_ext (has_bit m) (leaf_word s slot) 62 0 (λ j l q. mask_where_lem (word_at s slot) j (omega arith) ∙ leaf_same e j (omega arith)))

  to_by : (b : Bool) → has_word s slot ≡ b → to_of (mask_where (word_at s slot)) slot ≡ directed_to s slot
  unfolding directed_to
  to_by true e = cond_true _ _ _ (self_bit ∙ e) ∙ sym (cond_true _ _ _ e)
  to_by false e = cond_false _ _ _ (self_bit ∙ e) ∙ lowest_is e ∙ sym (directed_leaf s slot e)

pub to_is : {s : Station} {slot : ℕ} {x : Seen} {f : Option ℕ} → Saw s slot x → f ≡ to_of x.word slot → f ≡ directed_to s slot
to_is {s} {slot} w e = e ∙ ap (λ (m : ℕ). to_of m slot) w.told ∙ to_by s slot (has_word s slot) refl

-- ### Whose traffic

-- nobody but the slot itself needs a relayer
source_none : (s : Station) (slot : ℕ) → without_bit (needs_of s) slot ≡ 0 → source_for s slot ≡ 63
unfolding source_for relay_src_for
source_none s slot e =
    same_cond (ltb slot 62)
    (ap slot_or63 (first_none (is_source s.hears (without_bit (needs_of s) slot) (able_of s) (tried_of s) slot s.settings.relaysnr) 62 (λ j l. rw (e, has_none j))))

asks_not : (needs slot : ℕ) → asks_for needs slot ≡ false → without_bit needs slot ≡ 0
asks_not needs slot e = eqb-true (without_bit needs slot) 0 (not-false _ e)

-- a relayer is looked for, or nobody needs one
pub source_is : {s : Station} {slot : ℕ} {x : Seen} {source : ℕ} (a : Bool) → Saw s slot x → asks_for x.needs slot ≡ a → source ≡ cond a (source_for s slot) 63 → source ≡ source_for s slot
source_is true w e q = q
source_is {s} {slot} {x} false w e q =
    q ∙ sym (source_none s slot (ap (λ (m : ℕ). without_bit m slot) (sym w.asking) ∙ asks_not x.needs slot e))
