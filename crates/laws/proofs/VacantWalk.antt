-- Every change leaves a slot without a boat as at a start, and nothing names it: so it is after any calls (an instance of the walk). Assumes nothing.
use Rattle.std.specs.Prelude.{Option, Some, None}
use mathlib.Core.Path.{◌≡◌, refl, ap, ◌∙◌, subst}
use mathlib.Core.Logic.{◌⊎◌, inl, inr}
use Prim.Native.Nat.{ℕ, zero, suc, ◌+◌, ◌*◌, ◌%◌, ◌≤◌, ◌<◌}
use native.Mathlib.Omega.{arith}
use mathlib.Core.Bool.{Bool, true, false, cond, ◌&&◌, ◌||◌}
use mathlib.Core.List.{List, [], ◌∷◌}
use lib.Dec.{eqb, ltb}
use lib.ListN.{length, get_or, replicate, length-replicate, get_or-replicate}
use Rattle.bits.specs.Loop.{first}
use Rattle.bits.specs.Mask.{has_bit, without_bit}
use Rattle.bits.proofs.Lists.{and_true, lt_or_le, never_both}
use Rattle.bits.proofs.Laws.{has_none}
use Rattle.bits.proofs.Loops.{first_found}
use Rattle.roster.specs.declared.Member.{Member}
use Rattle.roster.specs.Members.{no_member, new_member, promoted_at, rerouted_to}
use Rattle.roster.specs.Relays.{needs_relay, is_source, slot_or63, relay_src_for}
use Rattle.net.specs.declared.Station.{Station}
use Rattle.net.specs.declared.Settings.{Settings}
use Rattle.net.specs.declared.Turn.{Turn}
use Rattle.net.specs.declared.Turn.TheVariants.{Waiting}
use Rattle.net.specs.State.{index_of, member_at, with_wait, with_table}
use Rattle.net.specs.Net.{new_station}
use Rattle.net.proofs.Laws.{member_has}
use Rattle.bursts.specs.Rows.{member_in}
use Rattle.bursts.specs.Reroute.{needs_at, needs_of, able_of, tried_of, source_for}
use Rattle.bursts.proofs.Masks.{mask_where_lem}
use Rattle.next.specs.Next.{list_for}
use Rattle.config.specs.declared.Given.{Given}
use Rattle.station.specs.Entries.{start_refusal}
use Rattle.signoff.specs.SignOff.{vacant}
use Rattle.promise.specs.Promise.{Call, after, started}
use Rattle.promise.proofs.Walk.{stays_tried, turn_tried, Turned, still, ends, sends, polls, goes, draws, turned_list, without_false, lowest_in, Within, not_within, Change, others, turned, over, hears, written, counted, promoted, moved, entered, piece, landed, freed, barred, signs_off, offered, readings, queued, posted}
use Rattle.promise.proofs.WalkCalls.{all, always}
use Rattle.laws.specs.FreeSlots.{Apart}
use Rattle.laws.proofs.Vacant.{index_has, put_kept, seat_kept, member_kept, enter_kept, lists_kept, wait_kept, hears_kept, table_kept, freed_kept}
use Rattle.laws.proofs.VacantSign.{AllKeep, sign_keeps}

module _ (i : ℕ) (low : i < 62) where
  -- the source of a poll is a boat, or none
  source_by : (s : Station) (slot : ℕ) (f : has_bit s.used i ≡ false) (x : Option ℕ)
      → first (is_source s.hears (without_bit (needs_of s) slot) (able_of s) (tried_of s) slot s.settings.relaysnr) 62 0 ≡ x → slot_or63 x ≡ i → ⊥
  source_by s slot f None q e = omega arith
  source_by s slot f (Some a) q e =
      let r = first_found (is_source s.hears (without_bit (needs_of s) slot) (able_of s) (tried_of s) slot s.settings.relaysnr) 62 0 a q in
      let h : has_bit (without_bit (needs_of s) slot) a ≡ true = (and_true (has_bit (without_bit (needs_of s) slot) a) _ r.1).0 in
      let z : has_bit (needs_of s) i ≡ false = mask_where_lem (needs_at s) i low ∙ ap (λ (b : Bool). b && needs_relay (member_in s i)) f in
      never_both (has_bit (without_bit (needs_of s) slot) i) (subst (λ (y : ℕ). has_bit (without_bit (needs_of s) slot) y ≡ true) e h) (without_false (needs_of s) i slot z)

  source_not : (s : Station) (slot : ℕ) → has_bit s.used i ≡ false → source_for s slot ≡ i → ⊥
  unfolding source_for relay_src_for
  source_not s slot f e = at (ltb slot 62) e
    where
      at : (b : Bool) → cond b (slot_or63 (first (is_source s.hears (without_bit (needs_of s) slot) (able_of s) (tried_of s) slot s.settings.relaysnr) 62 0)) 63 ≡ i → ⊥
      at true q = source_by s slot f _ refl q
      at false q = omega arith

  -- nor is it on a list drawn up
  unlisted : (s : Station) (n : ℕ) → has_bit s.used i ≡ false → has_bit (list_for s n) i ≡ false
  unfolding list_for
  unlisted s n f =
      mask_where_lem (λ j. has_bit s.used j && eqb (member_in s j).via 63 && (eqb (n % 4) 0 || ltb (member_in s j).missed s.settings.misslimit)) i low
      ∙ ap (λ (x : Bool). x && eqb (member_in s i).via 63 && (eqb (n % 4) 0 || ltb (member_in s i).missed s.settings.misslimit)) f

  -- ---- the round, the list and the turn

  marked : (s : Station) (old new : ℕ) → Within s old new → has_bit s.used i ≡ false → has_bit old i ≡ false → has_bit new i ≡ false
  marked s old new w f o = not_within s old new i w (λ a. never_both (has_bit s.used i) (member_has s.used i a) f) o

  turned_apart : {s : Station} {y : Turn} {m : ℕ} → Turned s y m → has_bit s.used i ≡ false → has_bit s.round.list i ≡ false → Apart i s.wait.turn → Apart i y
  turned_apart still f o t = t
  turned_apart ends f o t = tt
  turned_apart sends f o t = tt
  turned_apart {s} (polls slot e) f o t =
      (λ q. never_both (has_bit s.round.list i) (subst (λ (y : ℕ). has_bit s.round.list y ≡ true) q (lowest_in s.round.list slot e)) o, source_not s slot f)
  turned_apart (goes r a b e) f o t = subst (Apart i) e t
  turned_apart (draws number) f o t = t

-- ---- each change

change_kept : (s t : Station) → Change all s t → AllKeep s → AllKeep t
change_kept s t (others r n e m q) k i low =
    lists_kept i low s r.toack r.treenews r.list
    (λ f b. (marked i low s s.round.toack r.toack m.toack f b.toack, marked i low s s.round.treenews r.treenews m.treenews f b.treenews, ap (λ (x : ℕ). has_bit x i) e ∙ b.list)) (k i low)
change_kept s t (turned a w r n y m q) k i low =
    lists_kept i low (with_wait s w) r.toack r.treenews r.list
    (λ f b. (marked i low s s.round.toack r.toack m.toack f b.toack, marked i low s s.round.treenews r.treenews m.treenews f b.treenews, turned_list i y (λ n. unlisted i low s n f) b.list))
    (wait_kept i low s w (λ f b. turned_apart i low y f b.list b.turn) (k i low))
change_kept s t (over a r e here) k i low =
    put_kept i low s (index_of r.relayfor) _ (index_has s.used r.relayfor here)
    (λ f b. let x : Apart i (Waiting r) = subst (Apart i) e b.turn in turn_tried i s.hears s.used (member_at s r.relayfor) r.relayfor r.slot x.0 (b.tried (index_of r.relayfor))) (k i low)
change_kept s t (hears r c q l h) k i low = hears_kept i low s r c (q % 64) (member_has s.used r l) h (k i low)
change_kept s t (written j m l here f) k i low = seat_kept i low s j m (member_has s.used j here) (stays_tried f) (k i low)
change_kept s t (counted j m n l here f) k i low = seat_kept i low s j _ (member_has s.used j here) (stays_tried f) (k i low)
change_kept s t (promoted j snr l here d) k i low = seat_kept i low s j (promoted_at (member_in s j) snr) (member_has s.used j here) refl (k i low)
change_kept s t (moved c r l here there able n) k i low = seat_kept i low s c (rerouted_to (member_in s c) r) (member_has s.used c here) refl (k i low)
change_kept s t (readings j r l here) k i low = k i low
change_kept s t (entered c call v now l free r) k i low = enter_kept i low s c (new_member call v now) l refl (k i low)
change_kept s t (queued j q l here f) k i low = k i low
change_kept s t (posted a j n l here e) k i low = k i low
change_kept s t (piece a store slot field p m here f l d) k i low =
    member_kept i low (with_table s (offered s store slot field p).table) slot m here (stays_tried f) (table_kept i low s slot field (member_at s slot).up store p here (k i low))
change_kept s t (landed a store slot field p m here f l d) k i low =
    member_kept i low (with_table s (offered s store slot field p).table) slot _ here (stays_tried f) (table_kept i low s slot field (member_at s slot).up store p here (k i low))
change_kept s t (freed a cell) k i low = freed_kept i low s cell (k i low)
change_kept s t (barred a store slot field p here b) k i low =
    member_kept i low (with_table s (offered s store slot field p).table) slot _ here refl (table_kept i low s slot field (member_at s slot).up store p here (k i low))
change_kept s t (signs_off a b c slot here) k i low = sign_keeps s slot here k i low

-- ---- a start, and every list of calls

new_kept : (g : Settings) (count : ℕ) → AllKeep (new_station g count)
unfolding new_station
new_kept g count i low =
    record {
      long = length-replicate {A = Member} 62 vacant;
      wide = length-replicate {A = ℕ} 3844 63;
      many = length-replicate {A = ℕ} 64 0;
      held = λ c h. absurd (never_both (has_bit 0 c) h (has_none c));
      blank = λ f.
          record {
            member = get_or-replicate 62 i vacant no_member low;
            row = λ j l. get_or-replicate {A = ℕ} 3844 (i * 62 + j) 63 0 (omega arith);
            toack = has_none i;
            treenews = has_none i;
            list = has_none i;
            tried = λ j. none_tried j (lt_or_le j 62);
            turn = tt;
            cells = λ c h e. never_both (has_bit 0 c) h (has_none c);
          };
    }
  where
    none_tried : (j : ℕ) → (j < 62) ⊎ (62 ≤ j) → has_bit (get_or (replicate 62 vacant) j no_member).tried i ≡ false
    none_tried j (inl l) = ap (λ (m : Member). has_bit m.tried i) (get_or-replicate 62 j vacant no_member l) ∙ has_none i
    none_tried j (inr l) = ap (λ (m : Member). has_bit m.tried i) (past (replicate 62 vacant) j (let n = length-replicate {A = Member} 62 vacant in omega arith)) ∙ has_none i
      where
        past : (l : List Member) (j : ℕ) → length l ≤ j → get_or l j no_member ≡ no_member
        past [] j h = refl
        past (x ∷ l) zero h = absurd (omega arith)
        past (x ∷ l) (suc j) h = past l j (omega arith)

pub runs_kept : (s : Station) (g : Given) (store : List ℕ) → start_refusal g (length store) ≡ 0 → (cs : List Call) → AllKeep (after cs (started s g store)).station
runs_kept s g store e cs = always AllKeep change_kept s g store e (new_kept _ _) cs
