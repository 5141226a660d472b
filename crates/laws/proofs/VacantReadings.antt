-- A slot without a boat has no reading, as at a start (an instance of the walk). Assumes nothing.
use mathlib.Core.Path.{◌≡◌, sym, ap, ◌∙◌, subst}
use mathlib.Core.Logic.{⊎_elim}
use mathlib.Core.Bool.{true, false}
use mathlib.Core.List.{List}
use Prim.Native.Nat.{ℕ, ◌<◌}
use native.Mathlib.Omega.{arith}
use lib.ListN.{length, get_or, set, length-set, length-replicate, get_or-replicate}
use lib.Seq.{get_or-set_same, get_or-set_other}
use Rattle.bits.specs.Mask.{has_bit, with_bit, without_bit}
use Rattle.bits.proofs.Laws.{with_same, with_other, without_other}
use Rattle.bits.proofs.Lists.{cond_keeps, eq_or_not, never_both}
use Rattle.bits.proofs.Loops.{fold_keeps}
use Rattle.recent.specs.declared.Recent.{Recent}
use Rattle.recent.specs.Readings.{no_recent, empty}
use Rattle.queue.specs.declared.Queue.{Queue}
use Rattle.net.specs.declared.Station.{Station}
use Rattle.net.specs.declared.Settings.{Settings}
use Rattle.net.specs.Net.{is_member, new_station}
use Rattle.net.proofs.Laws.{member_lt, member_has}
use Rattle.config.specs.declared.Given.{Given}
use Rattle.station.specs.Entries.{start_refusal}
use Rattle.signoff.specs.SignOff.{bereave_at, bereave_all, leave, struck_off, sign_off}
use Rattle.promise.specs.Promise.{Call, after, started}
use Rattle.promise.proofs.WalkRoster.{Beside, kept, ring, queue, joins, leaves, beside}
use Rattle.promise.proofs.WalkCalls.{always}
use Rattle.laws.specs.FreeSlots.{FreeSlots}
use Rattle.laws.proofs.VacantWalk.{runs_kept}
use Rattle.laws.proofs.VacantQueue.{runs_unposted}
use Rattle.laws.proofs.Vacant.{differ}

-- 62 rings, and none of a slot without a boat has a reading
pub record Unread (used : ℕ) (rs : List Recent) : Type 0 where
  pub long : length rs ≡ 62
  pub none : (i : ℕ) → i < 62 → has_bit used i ≡ false → get_or rs i no_recent ≡ empty

abbrev pub UnreadIn : Station → Type 0
UnreadIn s = Unread s.used s.recent

-- a boat's ring is written
put_unread : (used : ℕ) (rs : List Recent) (j : ℕ) (r : Recent) → has_bit used j ≡ true → Unread used rs → Unread used (set rs j r)
put_unread used rs j r h k =
    record {
      long = length-set rs j r ∙ k.long;
      none = λ i l f. get_or-set_other rs j i r no_recent (λ e. differ used i j h f (sym e)) ∙ k.none i l f;
    }

enter_unread : (used : ℕ) (rs : List Recent) (c : ℕ) → c < 62 → Unread used rs → Unread (with_bit used c) rs
enter_unread used rs c low k =
    record {
      long = k.long;
      none = λ i l f.
          let n : c ≡ i → ⊥ = λ e. never_both (has_bit (with_bit used c) i) (subst (λ (y : ℕ). has_bit (with_bit used c) y ≡ true) e (with_same used c (omega arith))) f in
          k.none i l (sym (with_other used c i n) ∙ f);
    }

leave_unread : (used : ℕ) (rs : List Recent) (slot : ℕ) → slot < 62 → Unread used rs → Unread (without_bit used slot) (set rs slot empty)
leave_unread used rs slot low k =
    let n = k.long in
    record {
      long = length-set rs slot empty ∙ k.long;
      none = λ i l f. ⊎_elim (λ e. ap (λ (y : ℕ). get_or (set rs slot empty) y no_recent) e ∙ get_or-set_same rs slot empty no_recent (omega arith))
          (λ z. get_or-set_other rs slot i empty no_recent z ∙ k.none i l (sym (without_other used slot i (λ e. z (sym e))) ∙ f)) (eq_or_not i slot);
    }

bereave_unread : (slot j : ℕ) (s : Station) → UnreadIn s → UnreadIn (bereave_at slot j s)
unfolding bereave_at
bereave_unread slot j s k = cond_keeps UnreadIn (has_bit s.used j) _ s (λ h. put_unread s.used s.recent j _ h k) (λ _. k)

sign_unread : (s : Station) (slot : ℕ) → is_member s.used slot ≡ true → UnreadIn s → UnreadIn (sign_off s slot)
unfolding sign_off bereave_all
sign_unread s slot here k =
    fold_keeps UnreadIn (bereave_at slot) (bereave_unread slot) 62 0 (leave slot (struck_off slot s)) (leave_unread s.used s.recent slot (member_lt s.used slot here) k)

beside_unread : {s : Station} {u : ℕ} {rs : List Recent} {qs : List Queue} → Beside s u rs qs → UnreadIn s → Unread u rs
beside_unread kept k = k
beside_unread {s} (ring i r here) k = put_unread s.used s.recent i r (member_has s.used i here) k
beside_unread (queue j q here) k = k
beside_unread {s} (joins i l) k = enter_unread s.used s.recent i l k
beside_unread {s} (leaves slot here) k = sign_unread s slot here k

new_unread : (g : Settings) (count : ℕ) → UnreadIn (new_station g count)
unfolding new_station
new_unread g count = record { long = length-replicate {A = Recent} 62 empty; none = λ i l f. get_or-replicate 62 i empty no_recent l }

pub runs_unread : (s : Station) (g : Given) (store : List ℕ) → start_refusal g (length store) ≡ 0 → (cs : List Call) → UnreadIn (after cs (started s g store)).station
runs_unread s g store e cs = always UnreadIn (λ x y c k. beside_unread (beside c) k) s g store e (new_unread _ _) cs

-- with what VacantWalk shows of the other fields
pub free_slots : FreeSlots
free_slots s g store e cs i low free = ((runs_kept s g store e cs i low).blank free, (runs_unread s g store e cs).none i low free, (runs_unposted s g store e cs).none i low free)
