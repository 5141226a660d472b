-- Chains of single changes at a slot, and those of rerouting and of a received list. Assumes nothing.
use Rattle.std.specs.Prelude.{Option, Some, None}
use mathlib.Core.Path.{◌≡◌, refl, sym, ap, ◌∙◌, subst}
use mathlib.Core.Logic.{inl, inr, ⊎_elim}
use Prim.Native.Nat.{ℕ, zero, suc, ◌<◌}
use native.Mathlib.Omega.{arith}
use mathlib.Core.Bool.{Bool, true, false, cond, not, ◌&&◌}
use mathlib.Core.List.{[]}
use lib.Dec.{eqb}
use lib.ListN.{set}
use lib.Seq.{set-get_or}
use lib.Ieee.{Float, le}
use borrow.Author.Tests.{eqb-false}
use Rattle.bits.specs.Mask.{has_bit, with_bit, without_bit, lowest_bit}
use Rattle.bits.proofs.Lists.{cond_keeps, and_true, never_both, eq_or_not}
use Rattle.bits.proofs.Laws.{has_none, has_both, with_other}
use Rattle.bits.proofs.Loops.{fold_keeps_below}
use Rattle.level.specs.declared.Level.{Level}
use Rattle.level.specs.declared.Level.TheVariants.{Unheard, Decibels}
use Rattle.recent.specs.declared.Recent.{Recent}
use Rattle.recent.specs.Readings.{empty}
use Rattle.roster.specs.declared.Member.{Member}
use Rattle.roster.specs.Members.{is_news, with_missed, told_now}
use Rattle.roster.specs.Relays.{could_relay, promote_by, promotable_at, is_leaf}
use Rattle.roster.proofs.Laws.{best_high_able, best_high_slot, without_in}
use Rattle.net.specs.declared.Station.{Station}
use Rattle.net.specs.declared.Reply.{Reply}
use Rattle.net.specs.declared.Round.{Round}
use Rattle.net.specs.declared.Totals.{Totals}
use Rattle.net.specs.declared.Turn.TheVariants.{Waiting}
use Rattle.net.specs.declared.Wait.{Wait}
use Rattle.net.specs.State.{index_of, member_at, with_member, with_members, with_counted, with_wait, with_round, with_totals, also_ack, also_news, with_recent, queue_at, with_queue}
use Rattle.net.specs.Net.{is_member, Said, said, members_in}
use Rattle.net.proofs.Laws.{index_lt, index_is, member_lt, member_is}
use Rattle.bursts.specs.Rows.{member_in}
use Rattle.bursts.specs.Bursts.{acked, without_found, beyond, tell_at, tell_all}
use Rattle.bursts.specs.Reroute.{able_at, able_of, floor_of, promote_with, promote_at, promote_all, leaf_at, leaves_of, new_relay, must_move, move_at, move_all, reroute_of}
use Rattle.bursts.proofs.Masks.{mask_where_lem}
use Rattle.next.specs.Next.{turn_over_in}
use Rattle.promise.proofs.Walk.{Allowed, told, Fields, none, also, Turned, Within, Marks, others, turned, over, written, counted, promoted, moved, readings, Chain, start, more, Queued, queued}
use Rattle.queue.specs.declared.Queue.{Queue}

-- ---- what is known where a change is made

-- a member's slot is its index
pub index_member : (used slot : ℕ) → is_member used slot ≡ true → is_member used (index_of slot) ≡ true
index_member used slot here = ap (is_member used) (index_is slot (member_lt used slot here)) ∙ here

-- masks of slots
same_marks : (s : Station) (r : Round) → r.toack ≡ s.round.toack → r.treenews ≡ s.round.treenews → Marks s r
same_marks s r p q = record { toack = λ i h. inl (ap (λ (m : ℕ). has_bit m i) (sym p) ∙ h); treenews = λ i h. inl (ap (λ (m : ℕ). has_bit m i) (sym q) ∙ h) }

pub none_left : (s : Station) (old : ℕ) → Within s old 0
none_left s old i h = absurd (never_both (has_bit 0 i) h (has_none i))

one_more : (s : Station) (old c : ℕ) → is_member s.used c ≡ true → Within s old (with_bit old c)
one_more s old c here i h =
    ⊎_elim (λ e. inr (subst (λ (j : ℕ). is_member s.used j ≡ true) e here)) (λ n. inl (sym (with_other old c i n) ∙ h)) (eq_or_not c i)

beyond_in : (k m i : ℕ) → has_bit (beyond k m) i ≡ true → has_bit m i ≡ true
unfolding beyond
beyond_in zero m i h = h
beyond_in (suc k) m i h = by (lowest_bit m) (beyond_in k (without_found (lowest_bit m) m) i h)
  where
    by : (f : Option ℕ) → has_bit (without_found f m) i ≡ true → has_bit m i ≡ true
    by (Some j) e = (without_in m j i e).0
    by None e = e

pub fewer : (s : Station) → Within s s.round.toack (beyond 9 (acked s))
fewer s i h =
    let b = beyond_in 9 (acked s) i h in
    inl (and_true (has_bit s.round.toack i) (has_bit (members_in s.used) i) (sym (has_both s.round.toack (members_in s.used) i) ∙ b)).0

level_by : (b : Bool) (d snr : Float) → cond b (Decibels d) Unheard ≡ Decibels snr → (b ≡ true) × (Decibels d ≡ Decibels snr)
level_by true d snr e = (refl, e)
level_by false d snr e = (cc, cc)

-- a boat that is promoted was heard directly
promotes : (l : Level) (leaf : Bool) (floor snr : Float) → promote_by l leaf floor ≡ Decibels snr → (leaf ≡ true) × (l ≡ Decibels snr)
promotes Unheard leaf floor snr e = (cc, cc)
promotes (Decibels d) leaf floor snr e =
    let b = level_by (leaf && le floor d) d snr e in
    ((and_true leaf (le floor d) b.0).0, b.1)

leaf_here : (t : Station) (c : ℕ) → c < 62 → has_bit (leaves_of t) c ≡ true → has_bit t.used c ≡ true
leaf_here t c h e = (and_true (has_bit t.used c) (is_leaf (member_in t c) t.settings.misslimit) (sym (mask_where_lem (leaf_at t) c h) ∙ e)).0

-- a leaf moves to a boat that could relay
module _ (s : Station) (c r : ℕ) (e : new_relay s c ≡ r) (l : r < 62) where
  able_in : (has_bit (able_of s) r ≡ true) × (r ≡ c → ⊥)
  able_in =
      let h = best_high_able s.hears (without_bit (without_bit (able_of s) c) (member_in s c).via) c s.settings.relaysnr r e l in
      without_in (able_of s) c r (without_in (without_bit (able_of s) c) (member_in s c).via r h).0

  able_at_lem : (has_bit s.used r ≡ true) × (could_relay (member_in s r) ≡ true)
  able_at_lem = and_true (has_bit s.used r) (could_relay (member_in s r)) (sym (mask_where_lem (able_at s) r l) ∙ able_in.0)

relay_lt : (s : Station) (c : ℕ) → eqb (new_relay s c) 63 ≡ false → new_relay s c < 62
relay_lt s c f =
    ⊎_elim (λ l. l) (λ e. absurd (eqb-false (new_relay s c) 63 f e))
    (best_high_slot s.hears (without_bit (without_bit (able_of s) c) (member_in s c).via) c s.settings.relaysnr)

module _ (A : Allowed) where
  -- ---- the changes at a slot, from s₀ on

  module _ (s₀ : Station) where
    -- flags, times and counters
    pub calm : (s : Station) (r : Round) (t : Totals) → r.list ≡ s.round.list → r.toack ≡ s.round.toack → r.treenews ≡ s.round.treenews
        → t.silent ≡ s.totals.silent → Chain A s₀ s → Chain A s₀ (with_totals (with_round s r) t)
    calm s r t e p q n k = more k (others r t e (same_marks s r p q) n)

    pub ack : (s : Station) (i : ℕ) → is_member s.used i ≡ true → Chain A s₀ s → Chain A s₀ (also_ack s i)
    ack s i here k = more k (others _ _ refl (record { toack = one_more s s.round.toack i here; treenews = λ j h. inl h }) refl)

    news : (s : Station) (i : ℕ) → is_member s.used i ≡ true → Chain A s₀ s → Chain A s₀ (also_news s i)
    news s i here k = more k (others _ _ refl (record { toack = λ j h. inl h; treenews = one_more s s.round.treenews i here }) refl)

    -- the turn, and the list
    pub turn : (s : Station) (w : Wait) (r : Round) (t : Totals) → A.turns → Turned s w.turn r.list → r.toack ≡ s.round.toack
        → r.treenews ≡ s.round.treenews → t.silent ≡ s.totals.silent → Chain A s₀ s → Chain A s₀ (with_totals (with_round (with_wait s w) r) t)
    turn s w r t allowed y p q n k = more k (turned allowed w r t y (same_marks s r p q) n)

    -- the turn ends, and what came of it is noted
    pub over_walk : (s : Station) (r : Reply) (w : Wait) (n : Totals) → A.turns → s.wait.turn ≡ Waiting r
        → ((u : Station) → Turned u w.turn u.round.list) → n.silent ≡ s.totals.silent → Chain A s₀ s
        → Chain A s₀ (turn_over_in (with_totals (with_wait s w) n) r.slot r.relayfor)
    over_walk s r w n allowed e y q k =
        cond_keeps (Chain A s₀) (is_member s.used r.relayfor) _ _
        (λ here. turn _ w s.round n allowed (y _) refl refl q (more k (over allowed r e here)))
        (λ _. turn s w s.round n allowed (y s) refl refl q k)

    pub write : (s : Station) (slot : ℕ) (m : Member) → is_member s.used slot ≡ true → Fields A (member_at s slot) m → Chain A s₀ s
        → Chain A s₀ (with_member s slot m)
    write s slot m here f k = more k (written (index_of slot) m (index_lt slot) (index_member s.used slot here) f)

    pub count : (s : Station) (slot : ℕ) (m : Member) (n : ℕ) → is_member s.used slot ≡ true → Fields A (member_at s slot) m → Chain A s₀ s
        → Chain A s₀ (with_counted s slot (with_missed m n))
    count s slot m n here f k = more k (counted (index_of slot) m n (index_lt slot) (index_member s.used slot here) f)

    pub heard_at_lem : (s : Station) (slot : ℕ) (r : Recent) → is_member s.used slot ≡ true → Chain A s₀ s → Chain A s₀ (with_recent s (set s.recent (index_of slot) r))
    heard_at_lem s slot r here k = more k (readings (index_of slot) r (index_lt slot) (index_member s.used slot here))

    -- the numbers of a boat's directed queue
    pub queue : (s : Station) (slot : ℕ) (q : Queue) → is_member s.used slot ≡ true → Queued (queue_at s slot) q → Chain A s₀ s → Chain A s₀ (with_queue s slot q)
    queue s slot q here f k = more k (queued (index_of slot) q (index_lt slot) (index_member s.used slot here) f)

    abbrev WalkSaid : Said → Type 0
    WalkSaid x = Chain A s₀ x.station

    -- ---- received list

    tell_walk : (i : ℕ) (s : Station) → i < 62 → Chain A s₀ s → Chain A s₀ (tell_at i s)
    tell_walk i s h k =
        cond_keeps (λ (m : Member). Chain A s₀ (with_members s (set s.members i m))) (has_bit s.used i && is_news (member_in s i)) (told_now (member_in s i)) (member_in s i)
        (λ e. more k (written i (told_now (member_in s i)) h (member_is s.used i h ∙ (and_true (has_bit s.used i) _ e).0) (also none told)))
        (λ _. subst (Chain A s₀) (sym (ap (with_members s) (set-get_or s.members i _))) k)

    pub told_walk : (s : Station) → Chain A s₀ s → Chain A s₀ (tell_all s)
    unfolding tell_all
    told_walk s k = fold_keeps_below (Chain A s₀) tell_at 62 0 (λ i t _ h m. tell_walk i t (omega arith) m) s k

    -- ---- reroute

    promote_with_lem : (l : Level) (i : ℕ) (x : Said) → i < 62
        → ((snr : Float) → l ≡ Decibels snr → (is_member x.station.used i ≡ true) × ((member_in x.station i).direct ≡ Decibels snr)) → WalkSaid x
        → WalkSaid (promote_with l i x)
    promote_with_lem Unheard i x h f k = k
    promote_with_lem (Decibels snr) i x h f k =
        news _ i (f snr refl).0 (more (more k (promoted i snr h (f snr refl).0 (f snr refl).1)) (readings i empty h (f snr refl).0))

    promote_walk : (floor : Float) (i : ℕ) (x : Said) → i < 62 → WalkSaid x → WalkSaid (promote_at floor i x)
    unfolding promote_at
    promote_walk floor i x h k =
        let u = x.station.used in
        let m = member_in x.station i in
        promote_with_lem (promotable_at (has_bit u i) m floor) i x h
        (λ snr e.
        let p = promotes m.direct (has_bit u i && not (eqb m.via 63)) floor snr e in
        (member_is u i h ∙ (and_true (has_bit u i) _ p.0).0, p.1)) k

    -- the leaves are those of a station t with the same boats
    abbrev Moves : Station → Said → Type 0
    Moves t x = WalkSaid x × (x.station.used ≡ t.used)

    move_walk : (t : Station) (c : ℕ) (x : Said) → c < 62 → Moves t x → Moves t (move_at (leaves_of t) c x)
    unfolding move_at
    move_walk t c x h k =
        cond_keeps (Moves t) (must_move (leaves_of t) s c) _ x
        (λ e. cond_keeps (Moves t) (eqb r 63) x _ (λ _. k)
        (λ f.
        let l = relay_lt s c f in
        let a = able_at_lem s c r refl l in
        let here = member_is s.used c h ∙ subst (λ (u : ℕ). has_bit u c ≡ true) (sym k.1) (leaf_here t c h (and_true (has_bit (leaves_of t) c) _ e).0) in
        (news _ c here (more k.0 (moved c r h here (member_is s.used r l ∙ a.0) a.1 (able_in s c r refl l).1)), k.1)))
        (λ _. k)
      where
        s : Station
        s = x.station

        r : ℕ
        r = new_relay s c

    moved_walk : (x : Said) → WalkSaid x → WalkSaid (move_all x)
    unfolding move_all
    moved_walk x k =
        (fold_keeps_below (Moves x.station) (move_at (leaves_of x.station)) 62 0 (λ c y _ h m. move_walk x.station c y (omega arith) m) x (k, refl)).0

    rerouted : (s : Station) → Chain A s₀ s → Chain A s₀ (reroute_of s).station
    unfolding reroute_of promote_all
    rerouted s k =
        moved_walk (promote_all s)
        (fold_keeps_below WalkSaid (promote_at (floor_of s)) 62 0 (λ i x _ h m. promote_walk (floor_of s) i x (omega arith) m) (said s []) k)

  -- boats promoted and moved
  pub reroute_walk : (s : Station) → Chain A s (reroute_of s).station
  reroute_walk s = rerouted s s start
