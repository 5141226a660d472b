-- There and back: after any calls from a start an unknown call that is admitted without a relay and signed off leaves the station what it was. Assumes nothing.
use mathlib.Core.Path.{◌≡◌, refl, sym, ap, ◌∙◌, subst}
use mathlib.Core.Bool.{Bool, true, false, cond, ◌&&◌}
use mathlib.Core.List.{List, [], ◌∷◌}
use Prim.Native.Nat.{ℕ, ◌+◌, ◌-◌, ◌*◌, ◌/◌, ◌^◌, ◌<◌}
use native.Mathlib.Omega.{arith}
use lib.ListN.{length, get_or, set}
use lib.Seq.{set-get_or, set-set, get_or-set_same}
use lib.Dec.{eqb, ltb}
use lib.Ieee.{Float}
use borrow.Author.Tests.{eqb-true, eq-eqb, ne_eqb, lt-ltb, le-ltb}
use Rattle.bits.specs.Mask.{has_bit, with_bit, without_bit}
use Rattle.bits.proofs.Laws.{with_new, with_same, without_gone, without_there}
use Rattle.bits.proofs.Lists.{cond_keeps, cond_true, cond_false, and_true, or_elim, never_both}
use Rattle.bits.proofs.Loops.{fold_keeps_below}
use Rattle.wire.specs.Call.{unpack_call}
use Rattle.out.specs.Encode.{event_word}
use Rattle.stream.specs.Table.{Table}
use Rattle.recent.specs.declared.Recent.{Recent}
use Rattle.recent.specs.Readings.{no_recent, empty}
use Rattle.roster.specs.declared.Member.{Member}
use Rattle.roster.specs.Members.{no_member, new_member, with_mark, silent_at, tally}
use Rattle.roster.specs.Relays.{heard_at}
use Rattle.net.specs.declared.Station.{Station}
use Rattle.net.specs.declared.Round.{Round}
use Rattle.net.specs.declared.Totals.{Totals}
use Rattle.net.specs.declared.Turn.{Turn}
use Rattle.net.specs.declared.Turn.TheVariants.{Idle, Sending, Waiting}
use Rattle.net.specs.declared.Wait.{Wait}
use Rattle.net.specs.State.{index_of, member_at, table_of, with_list, with_toack, with_treenews, with_silent, with_members, with_used, with_recent, recent_at, emptied, also_ack, with_queues}
use Rattle.net.specs.Net.{is_member, Said, said}
use Rattle.net.proofs.Laws.{index_is, member_is, member_lt}
use Rattle.bursts.specs.Rows.{member_in}
use Rattle.bursts.specs.Reroute.{with_member_in}
use Rattle.admit.specs.declared.Seat.{Seat}
use Rattle.admit.specs.declared.Seat.TheVariants.{Free}
use Rattle.admit.specs.Admission.{seat_of, is_full, via_for, admit_by, enter_at, leads_to}
use Rattle.admit.proofs.Laws.{seat_lt, seat_free}
use Rattle.station.specs.Entries.{Outcome, done, refused, unless, admitted, admit_refusal, admit_of}
use Rattle.signoff.specs.SignOff.{vacant, leave, untried, bereft, bereft_of, bereave_at, bereave_all, is_cell_of, clear_at, clear_all, unhear_at, unhear_all, strike_round, strike_by, strike_wait, struck_off, sign_off}
use Rattle.station.specs.SignOff.{sign_off_refusal, sign_off_of}
use Rattle.promise.specs.Promise.{Net, net, admission, signing, result, outcome, is_refused, step, after, started, leads, LinksHold}
use Rattle.promise.proofs.Links.{links}
use Rattle.promise.proofs.Signs.{sign_member, signed}
use Rattle.laws.specs.RoundTrip.{Unnamed, StruckRows, RoundTrip}
use Rattle.laws.specs.FreeSlots.{Apart, BlankIn}
use Rattle.laws.proofs.VacantSign.{AllKeep, column_struck}
use Rattle.laws.proofs.VacantWalk.{runs_kept}
use Rattle.laws.proofs.VacantReadings.{UnreadIn, runs_unread}
use Rattle.laws.proofs.VacantQueue.{UnpostedIn, runs_unposted}
use Rattle.queue.specs.declared.Queue.{Queue}
use Rattle.queue.specs.Queues.{empty_queue}

-- ---- there and back

add_sub : (m k : ℕ) → m + k - k ≡ m
add_sub m k = omega arith

without_with : (m i : ℕ) → i < 64 → has_bit m i ≡ false → without_bit (with_bit m i) i ≡ m
without_with m i l f = without_there (with_bit m i) i (with_same m i l) ∙ ap (λ (x : ℕ). x - 2 ^ i) (with_new m i l f) ∙ add_sub m (2 ^ i)

tally_same : (n : ℕ) (b : Bool) → tally n b b ≡ n
unfolding tally
tally_same n true = refl
tally_same n false = refl

station_is : (s : Station) (w : Wait) (r : Round) (x : Totals) (u : ℕ) (t : Table) (ms : List Member) (rs : List Recent) (qs : List Queue) (h : List ℕ)
    → w ≡ s.wait → r ≡ s.round → x ≡ s.totals → u ≡ s.used → t ≡ table_of s → ms ≡ s.members → rs ≡ s.recent → qs ≡ s.queues → h ≡ s.hears
    → ◌≡◌ {A = Station} (record { settings = s.settings; wait = w; round = r; totals = x; used = u; busy = t.busy; landed = t.landed; count = t.count; members = ms; recent = rs; queues = qs; hears = h; owners = t.owners; cells = t.cells }) s
station_is s w r x u t ms rs qs h a b c d e f p z g =
    λ j. record { settings = s.settings; wait = a j; round = b j; totals = c j; used = d j; busy = (e j).busy; landed = (e j).landed; count = (e j).count; members = f j; recent = p j; queues = z j; hears = g j; owners = (e j).owners; cells = (e j).cells }

round_is : (r : Round) (l a n : ℕ) → l ≡ r.list → a ≡ r.toack → n ≡ r.treenews
    → ◌≡◌ {A = Round} (with_list (with_treenews (with_toack r a) n) l) r
round_is r l a n p q w =
    λ j. record { list = p j; toack = q j; treenews = w j; windowend = r.windowend; nextbeacon = r.nextbeacon; nextround = r.nextround; txat = r.txat; number = r.number; rxsent = r.rxsent; closeleft = r.closeleft; closed = r.closed; traffic = r.traffic; rxdirty = r.rxdirty; activity = r.activity }

-- a boat and its readings written as they are
member_in_same : (s : Station) (j : ℕ) (m : Member) (r : Recent) → m ≡ member_in s j → r ≡ recent_at s j → with_recent (with_member_in s j m) (set s.recent j r) ≡ s
member_in_same s j m r e q =
    ap (λ (x : Member). with_recent (with_member_in s j x) (set s.recent j r)) e
    ∙ station_is s s.wait s.round _ s.used (table_of s) _ _ s.queues s.hears refl refl
    (ap (with_silent s.totals) (tally_same s.totals.silent (silent_at s.settings.misslimit (member_in s j)))) refl refl (set-get_or s.members j no_member)
    (ap (set s.recent j) q ∙ set-get_or s.recent j no_recent) refl refl

module _ (s : Station) (slot : ℕ) (low : slot < 62) (free : has_bit s.used slot ≡ false) (k : AllKeep s) (u : UnreadIn s) (posted : UnpostedIn s) (links : LinksHold s) (unnamed : Unnamed s slot) where
  b : BlankIn slot s
  b = (k slot low).blank free

  -- no boat has it for its relay
  no_relay : (j : ℕ) → j < 62 → has_bit s.used j ≡ true → (get_or s.members j no_member).via ≡ slot → ⊥
  unfolding leads
  no_relay j l h e =
      let q = (and_true (is_member s.used j) _ (links j (member_is s.used j l ∙ h))).1 in
      let v : (member_at s j).via ≡ slot = ap (λ (x : ℕ). (get_or s.members x no_member).via) (index_is j l) ∙ e in
      or_elim (eqb (member_at s j).via 63) _ q
      (λ z. let w = eqb-true (member_at s j).via 63 z in omega arith)
      (λ z. never_both (has_bit s.used slot)
      (sym (member_is s.used slot low) ∙ ap (is_member s.used) (sym v) ∙ (and_true (is_member s.used (member_at s j).via) _ z).0) free)

  untried_same : (m : Member) → has_bit m.tried slot ≡ false → untried slot m ≡ m
  untried_same m f = ap (with_mark m m.marknext m.markbits) (without_gone m.tried slot f)

  bereft_same : (j : ℕ) → j < 62 → has_bit s.used j ≡ true → bereft slot s.settings.misslimit (member_in s j) ≡ member_in s j
  bereft_same j l h = cond_false (eqb (member_in s j).via slot) _ _ (ne_eqb (member_in s j).via slot (no_relay j l h)) ∙ untried_same (member_in s j) (b.tried j)

  bereave_same : (j : ℕ) → j < 62 → bereave_at slot j s ≡ s
  unfolding bereave_at
  bereave_same j l =
      cond_keeps (λ (x : Station). x ≡ s) (has_bit s.used j)
      (with_recent (with_member_in s j (bereft slot s.settings.misslimit (member_in s j))) (set s.recent j (bereft_of slot (member_in s j) (recent_at s j)))) s
      (λ h. member_in_same s j (bereft slot s.settings.misslimit (member_in s j)) (bereft_of slot (member_in s j) (recent_at s j)) (bereft_same j l h)
      (cond_false (eqb (member_in s j).via slot) empty (recent_at s j) (ne_eqb (member_in s j).via slot (no_relay j l h)))) (λ _. refl)

  all_same : bereave_all slot s ≡ s
  unfolding bereave_all
  all_same = fold_keeps_below (λ (x : Station). x ≡ s) (bereave_at slot) 62 0 (λ j x _ l e. ap (bereave_at slot j) e ∙ bereave_same j (omega arith)) s refl

  -- cells
  clear_same : clear_all slot (table_of s) ≡ table_of s
  unfolding clear_all
  clear_same =
      fold_keeps_below (λ (x : Table). x ≡ table_of s) (clear_at slot) 64 0
      (λ c x _ l e. ap (clear_at slot c) e ∙ one c) (table_of s) refl
    where
      one : (c : ℕ) → clear_at slot c (table_of s) ≡ table_of s
      one c =
          unfold clear_at in
          cond_keeps (λ (x : Table). x ≡ table_of s) (is_cell_of (table_of s) slot c) _ (table_of s)
          (λ h. let q = and_true (has_bit s.busy c) _ h in absurd (b.cells c q.0 (eqb-true (get_or s.owners c 0 / 4294967296) slot q.1))) (λ _. refl)

  -- `hears`
  set_same : (h : List ℕ) (a : ℕ) → get_or h a 0 ≡ 63 → set h a 63 ≡ h
  set_same h a e = ap (set h a) (sym e) ∙ set-get_or h a 0

  column : (j : ℕ) → j < 62 → get_or s.hears (j * 62 + slot) 0 ≡ 63
  column j l = sym (named j l) ∙ unnamed j l
    where
      named : (j : ℕ) → j < 62 → heard_at s.hears j slot ≡ get_or s.hears (j * 62 + slot) 0
      named j l = unfold heard_at in cond_true (ltb j 62 && ltb slot 62) (get_or s.hears (j * 62 + slot) 0) 63 (rw (lt-ltb j 62 l) (lt-ltb slot 62 low))

  unhear_same : unhear_all slot s.hears ≡ s.hears
  unfolding unhear_all
  unhear_same =
      fold_keeps_below (λ (x : List ℕ). x ≡ s.hears) (unhear_at slot) 62 0
      (λ j x _ l e. ap (unhear_at slot j) e ∙ one j (omega arith)) s.hears refl
    where
      one : (j : ℕ) → j < 62 → unhear_at slot j s.hears ≡ s.hears
      one j l =
          unfold unhear_at in
          ap (λ (h : List ℕ). set h (j * 62 + slot) 63) (set_same s.hears (slot * 62 + j) (b.row j l)) ∙ set_same s.hears (j * 62 + slot) (column j l)

  -- the waiting
  strike_same : (y : Turn) (w : Wait) → Apart slot y → strike_by y slot w ≡ w
  strike_same Idle w a = refl
  strike_same Sending w a = refl
  strike_same (Waiting r) w a =
      cond_false (eqb r.slot slot) _ _ (ne_eqb r.slot slot a.0) ∙ cond_false (eqb r.relayfor slot) _ w (ne_eqb r.relayfor slot a.1)

  module _ (call : List ℕ) (now : Float) where
    abbrev new : Member
    new = new_member call 63 now

    -- the admission, with the slot for its index
    abbrev enter : ℕ → Station
    enter x = also_ack (with_queues (with_used (with_members (emptied s x) (set s.members x new)) (with_bit s.used x)) (set s.queues x empty_queue)) x

    gone : leave slot (struck_off slot (enter slot)) ≡ s
    gone =
        let n = (k slot low).long in
        station_is s (strike_wait slot s.wait) (strike_round slot (with_toack s.round (with_bit s.round.toack slot))) _ (without_bit (with_bit s.used slot) slot) (clear_all slot (table_of s))
        (set (set s.members slot new) slot vacant) (set (set s.recent slot empty) slot empty) (set (set s.queues slot empty_queue) slot empty_queue) (unhear_all slot s.hears)
        (strike_same s.wait.turn s.wait b.turn)
        (round_is s.round _ _ _ (without_gone s.round.list slot b.list) (without_with s.round.toack slot (omega arith) b.toack) (without_gone s.round.treenews slot b.treenews))
        (ap (λ (m : Member). with_silent s.totals (tally s.totals.silent (silent_at s.settings.misslimit m) (silent_at s.settings.misslimit vacant))) (get_or-set_same s.members slot new no_member (omega arith))
        ∙ ap (with_silent s.totals) (tally_same s.totals.silent (silent_at s.settings.misslimit vacant)))
        (without_with s.used slot (omega arith) free)
        clear_same
        (set-set s.members slot new vacant ∙ ap (set s.members slot) (sym b.member) ∙ set-get_or s.members slot no_member)
        (set-set s.recent slot empty empty ∙ ap (set s.recent slot) (sym (u.none slot low free)) ∙ set-get_or s.recent slot no_recent)
        (set-set s.queues slot empty_queue empty_queue ∙ ap (set s.queues slot) (sym (posted.none slot low free)) ∙ set-get_or s.queues slot empty_queue)
        unhear_same

    pub back : sign_off (enter_at s slot call 63 now) slot ≡ s
    unfolding sign_off
    back = ap (λ (x : ℕ). bereave_all slot (leave slot (struck_off slot (enter x)))) (index_is slot low) ∙ ap (bereave_all slot) gone ∙ all_same

-- ---- the calls

cond_both : {A : Type 0} (t : Bool) (x : A) → cond t x x ≡ x
cond_both true x = refl
cond_both false x = refl

unrefused : (n : ℕ) (s : Station) (store : List ℕ) (o : Outcome) → (unless n s store o).refusal ≡ 0 → unless n s store o ≡ o
unrefused n s store o e = go (eqb n 0) refl e
  where
    go : (t : Bool) → eqb n 0 ≡ t → (cond t o (refused n s store)).refusal ≡ 0 → cond t o (refused n s store) ≡ o
    go true q e = refl
    go false q e = absurd (never_both (eqb n 0) (eq-eqb n 0 e) q)

admitted_is : (s : Station) (call : List ℕ) (now : Float) (slot : ℕ) → seat_of s call ≡ Free slot
    → admitted s call 63 now ≡ said (enter_at s slot call 63 now) (event_word 1 slot 63 ∷ [])
admitted_is s call now slot q =
    ap (λ (seat : Seat). admit_by seat s call (via_for s seat 63) now) q
    ∙ ap (λ (v : ℕ). admit_by (Free slot) s call v now) (cond_both (leads_to 62 s 63 slot) 63)

module _ (n : Net) (packed : List ℕ) (now : Float) (room slot : ℕ) (seat : seat_of n.station (unpack_call packed) ≡ Free slot) (ok : (outcome (admission packed 63 now room) n).refusal ≡ 0) where
  abbrev call : List ℕ
  call = unpack_call packed

  admit_is : outcome (admission packed 63 now room) n ≡ done (enter_at n.station slot call 63 now) [] (event_word 1 slot 63 ∷ [])
  unfolding result admit_of
  admit_is =
      unrefused (admit_refusal room now n.station.used 63 (is_full (seat_of n.station call))) n.station [] (done (admitted n.station call 63 now).station [] (admitted n.station call 63 now).words) ok
      ∙ ap (λ (x : Said). done x.station [] x.words) (admitted_is n.station call now slot seat)

  step_is : step (admission packed 63 now room) n ≡ net (enter_at n.station slot call 63 now) n.store
  unfolding step result
  step_is = λ j. net (admit_is j).station (cond_both (is_refused (admission packed 63 now room) n) n.store j)

signs_ok : (used slot : ℕ) → slot < 62 → sign_off_refusal (with_bit used (index_of slot)) slot ≡ 0
unfolding sign_off_refusal
signs_ok used slot l =
    cond_false (ltb 61 slot) 8 _ (le-ltb 61 slot (omega arith))
    ∙ cond_true (is_member (with_bit used (index_of slot)) slot) 0 21 (member_is (with_bit used (index_of slot)) slot l ∙ ap (λ (x : ℕ). has_bit (with_bit used x) slot) (index_is slot l) ∙ with_same used slot (omega arith))

sign_is : (t : Station) (slot : ℕ) → sign_off_refusal t.used slot ≡ 0 → sign_off_of t slot ≡ done (sign_off t slot) [] []
unfolding sign_off_of
sign_is t slot e = cond_true (eqb (sign_off_refusal t.used slot) 0) (done (sign_off t slot) [] []) (refused (sign_off_refusal t.used slot) t []) (eq-eqb (sign_off_refusal t.used slot) 0 e)

leaves_is : (t : Station) (store : List ℕ) (slot : ℕ) → sign_off_refusal t.used slot ≡ 0 → step (signing slot) (net t store) ≡ net (sign_off t slot) store
unfolding step result
leaves_is t store slot e = λ j. net (sign_is t slot e j).station (cond_both (is_refused (signing slot) (net t store)) store j)

signed_is : (t : Station) (store : List ℕ) (slot : ℕ) → sign_off_refusal t.used slot ≡ 0 → outcome (signing slot) (net t store) ≡ done (sign_off t slot) [] []
unfolding result
signed_is t store slot e = sign_is t slot e

-- not refused: the slot has a boat
not_refused : (n : ℕ) (s : Station) (store : List ℕ) (o : Outcome) → (unless n s store o).refusal ≡ 0 → n ≡ 0
not_refused n s store o = go (eqb n 0) refl
  where
    go : (t : Bool) → eqb n 0 ≡ t → (cond t o (refused n s store)).refusal ≡ 0 → n ≡ 0
    go true q e = eqb-true n 0 q
    go false q e = e

sign_allowed : (t : Station) (store : List ℕ) (slot : ℕ) → (outcome (signing slot) (net t store)).refusal ≡ 0 → sign_off_refusal t.used slot ≡ 0
unfolding result sign_off_of
sign_allowed t store slot e = not_refused (sign_off_refusal t.used slot) t [] (done (sign_off t slot) [] []) e

struck_unnamed : (t : Station) (slot : ℕ) → slot < 62 → length t.members ≡ 62 → length t.hears ≡ 3844 → Unnamed (sign_off t slot) slot
unfolding heard_at
struck_unnamed t slot low long wide r l =
    cond_true (ltb r 62 && ltb slot 62) _ 63 (rw (lt-ltb r 62 l) (lt-ltb slot 62 low))
    ∙ ap (λ (h : List ℕ). get_or h (r * 62 + slot) 0) (signed slot t low long).hears
    ∙ column_struck slot low t.hears wide r l

pub struck_rows : StruckRows
struck_rows s g store e cs slot ok =
    let n = after cs (started s g store) in
    let z = sign_allowed n.station n.store slot ok in
    let k = runs_kept s g store e cs 0 (omega arith) in
    subst (λ (m : Net). Unnamed m.station slot) (sym (leaves_is n.station n.store slot z))
    (struck_unnamed n.station slot (member_lt n.station.used slot (sign_member n.station.used slot z)) k.long k.wide)

pub round_trip : RoundTrip
unfolding after
round_trip s g store e cs packed now room slot seat unnamed ok =
    let n = after cs (started s g store) in
    let call = unpack_call packed in
    let low = seat_lt n.station call slot seat in
    let t = enter_at n.station slot call 63 now in
    let z = signs_ok n.station.used slot low in
    let p = step_is n packed now room slot seat ok in
    let o = signed_is t n.store slot z in
    record {
      event = ap (λ (x : Outcome). x.words) (admit_is n packed now room slot seat ok);
      taken = ap (λ (x : Net). (outcome (signing slot) x).refusal) p ∙ ap (λ (x : Outcome). x.refusal) o;
      silent = ap (λ (x : Net). (outcome (signing slot) x).words) p ∙ ap (λ (x : Outcome). x.words) o;
      back = ap (step (signing slot)) p ∙ leaves_is t n.store slot z
          ∙ ap (λ (x : Station). net x n.store) (back n.station slot low (seat_free n.station call slot seat) (runs_kept s g store e cs) (runs_unread s g store e cs) (runs_unposted s g store e cs) (links s g store e cs) unnamed call now);
    }
