-- The shape of a station that a start leads to, each an instance of the walk: `next` of every boat stops at 4,294,967,295; no mask of slots
-- has a slot past 61; a boat's relay is a boat. That cells fit, and windows are in their bounds, is in Sounds. Assumes nothing.
use mathlib.Core.Path.{◌≡◌, refl, sym, ◌∙◌, subst}
use mathlib.Core.Logic.{⊎_elim, inl, inr}
use mathlib.Core.Bool.{Bool, true, false, ◌&&◌, ◌||◌}
use mathlib.Core.List.{List}
use Prim.Native.Nat.{ℕ, zero, suc, ◌+◌, ◌-◌, ◌≤◌, ◌<◌}
use native.Mathlib.Omega.{arith}
use lib.Dec.{leb, ltb, eqb}
use lib.ListN.{length, get_or, set}
use borrow.Author.Tests.{eqb-true}
use Rattle.bits.specs.Mask.{has_bit, without_bit}
use Rattle.bits.proofs.Laws.{has_none, with_other}
use Rattle.bits.proofs.Lists.{cond_keeps, and_true, lt_or_le, never_both}
use Rattle.bits.proofs.Loops.{fold_keeps}
use Rattle.bits.proofs.Stops.{stop_most}
use Rattle.stream.specs.declared.window.Window.{Window}
use Rattle.stream.specs.Window.{bar_of, slide_of, mark_of, land_of}
use Rattle.roster.specs.declared.Member.{Member}
use Rattle.roster.specs.Members.{no_member, new_member}
use Rattle.net.specs.declared.Settings.{Settings}
use Rattle.net.specs.declared.Station.{Station}
use Rattle.net.specs.declared.Turn.{Turn}
use Rattle.net.specs.declared.Turn.TheVariants.{Idle, Sending, Waiting}
use Rattle.net.specs.declared.Wait.{Wait}
use Rattle.net.specs.State.{index_of, member_at}
use Rattle.net.specs.Net.{is_member, new_station, wait_of}
use Rattle.net.proofs.Laws.{member_lt}
use Rattle.bursts.specs.Rows.{member_in}
use Rattle.bursts.proofs.Masks.{mask_past}
use Rattle.next.specs.Next.{list_for}
use Rattle.config.specs.declared.Given.{Given}
use Rattle.station.specs.Entries.{start_refusal}
use Rattle.signoff.specs.SignOff.{vacant, leave, struck_off, no_source, strike_by, bereave_at, bereave_all, sign_off}
use Rattle.promise.specs.Promise.{Call, after, started, leads}
use Rattle.promise.proofs.Links.{links}
use Rattle.promise.proofs.Walk.{Turned, still, ends, sends, polls, goes, draws, turned_list, without_false, lowest_in, Within, not_within, turn_tried, stays_up, stays_tried, also, none, RelayOk, Change, others, turned, over, hears, written, counted, promoted, moved, entered, queued, posted, piece, landed, freed, barred, readings, signs_off}
use Rattle.promise.proofs.WalkCalls.{all, always}
use Rattle.promise.proofs.WalkRoster.{Every, Each, every, set_every, every_new}

-- ---- of every member: `next` is a number of 32 bits

abbrev Low : Member → Type 0
Low m = m.up.next ≤ 4294967295

slide_low : (f n m b : ℕ) → (slide_of f n m b).next ≤ 4294967295
unfolding slide_of
slide_low zero n m b = stop_most (n + 1)
slide_low (suc f) n m b = cond_keeps (λ (w : Window). w.next ≤ 4294967295) (has_bit m 0) _ _ (λ _. slide_low f _ _ _) (λ _. stop_most (n + 1))

land_low : (w : Window) (k : ℕ) → w.next ≤ 4294967295 → (land_of w k).next ≤ 4294967295
unfolding mark_of
land_low w k l =
    cond_keeps (λ (x : Window). x.next ≤ 4294967295) (ltb w.next k) _ _
    (λ _. cond_keeps (λ (x : Window). x.next ≤ 4294967295) (ltb (k - w.next - 1) 128) _ w (λ _. l) (λ _. l)) (λ _. slide_low 128 _ _ _)

bar_low : (w : Window) (k : ℕ) → w.next ≤ 4294967295 → (bar_of w k).next ≤ 4294967295
unfolding bar_of
bar_low w k l = cond_keeps (λ (x : Window). x.next ≤ 4294967295) (leb w.next k && ltb (k - w.next) 128) _ w (λ _. l) (λ _. l)

each_low : Each all Low
each_low =
    record {
      field = λ m k f l. subst (λ (w : Window). w.next ≤ 4294967295) (sym (stays_up (also none f))) l;
      missed = λ m n l. l;
      marked = λ m next marks tried l. l;
      promoted = λ m snr e l. l;
      moved = λ m r l. l;
      landed = λ m number n l. land_low m.up number l;
      barred = λ m number l. bar_low m.up number l;
      entered = λ call v now. omega arith;
      cut = λ m limit l. l;
    }

new_low : (g : Settings) (count : ℕ) → Every Low (new_station g count)
unfolding new_station
new_low g count = every_new Low 62 _ (omega arith) (omega arith)

pub next_low : (s : Station) (g : Given) (store : List ℕ) → start_refusal g (length store) ≡ 0 → (cs : List Call) → Every Low (after cs (started s g store)).station
next_low s g store e cs = always (Every Low) (every all Low each_low) s g store e (new_low _ _) cs

-- ---- of the station: no slot past 61

-- a mask of slots
abbrev pub Past : ℕ → Type 0
Past m = (i : ℕ) → 62 ≤ i → has_bit m i ≡ false

-- the slot that a turn waits for
abbrev pub Waits : Turn → Type 0
Waits Idle = Unit {0}
Waits Sending = Unit {0}
Waits (Waiting r) = r.slot < 62

-- the slots in use, the round's list, those to be acknowledged, those whose place in the relay tree is news; the turn; every boat's relayers tried
pub record NarrowParts (u l a n : ℕ) (y : Turn) (ms : List Member) : Type 0 where
  pub used : Past u
  pub list : Past l
  pub toack : Past a
  pub treenews : Past n
  pub turn : Waits y
  pub tried : (j : ℕ) → Past (get_or ms j no_member).tried

abbrev pub Narrow : Station → Type 0
Narrow s = NarrowParts s.used s.round.list s.round.toack s.round.treenews s.wait.turn s.members

without_past : (m slot : ℕ) → Past m → Past (without_bit m slot)
without_past m slot p i h = without_false m i slot (p i h)

list_past : (s : Station) (number : ℕ) → Past (list_for s number)
unfolding list_for
list_past s number i l = mask_past _ i l

marks_past : (s : Station) (old new : ℕ) → Within s old new → Past old → Past new
marks_past s old new w p i h = not_within s old new i w (λ e. let l = member_lt s.used i e in omega arith) (p i h)

turned_waits : {s : Station} {y : Turn} {m : ℕ} → Turned s y m → Past s.round.list → Waits s.wait.turn → Waits y
turned_waits still p w = w
turned_waits ends p w = tt
turned_waits sends p w = tt
turned_waits {s} (polls slot e) p w = ⊎_elim (λ l. l) (λ h. absurd (never_both (has_bit s.round.list slot) (lowest_in s.round.list slot e) (p slot h))) (lt_or_le slot 62)
turned_waits (goes r tries bursts e) p w = subst Waits e w
turned_waits (draws number) p w = w

strike_waits : (slot : ℕ) (y : Turn) (w : Wait) → w.turn ≡ y → Waits y → Waits (strike_by y slot w).turn
strike_waits slot Idle w e h = subst Waits (sym e) h
strike_waits slot Sending w e h = subst Waits (sym e) h
strike_waits slot (Waiting r) w e h =
    cond_keeps (λ (v : Wait). Waits v.turn) (eqb r.slot slot) _ _ (λ _. tt)
    (λ _. cond_keeps (λ (v : Wait). Waits v.turn) (eqb r.relayfor slot) (wait_of (Waiting (no_source r)) w.deadline) w (λ _. h) (λ _. subst Waits (sym e) h))

-- a boat written
put_narrow : {u l a n : ℕ} {y : Turn} {ms : List Member} (j : ℕ) (m : Member) → Past m.tried → NarrowParts u l a n y ms → NarrowParts u l a n y (set ms j m)
put_narrow {ms = ms} j m p k =
    record { used = k.used; list = k.list; toack = k.toack; treenews = k.treenews; turn = k.turn; tried = set_every (λ (x : Member). Past x.tried) ms j m p k.tried }

-- with the relayers tried as they were
seat_narrow : {u l a n : ℕ} {y : Turn} {ms : List Member} (j : ℕ) (m : Member) → m.tried ≡ (get_or ms j no_member).tried → NarrowParts u l a n y ms → NarrowParts u l a n y (set ms j m)
seat_narrow j m e k = put_narrow j m (subst Past (sym e) (k.tried j)) k

bereave_narrow : (slot j : ℕ) (s : Station) → Narrow s → Narrow (bereave_at slot j s)
unfolding bereave_at
bereave_narrow slot j s k =
    let m = member_in s j in
    let p = without_past m.tried slot (k.tried j) in
    cond_keeps Narrow (has_bit s.used j) _ s (λ _. put_narrow j _ (cond_keeps (λ (x : Member). Past x.tried) (eqb m.via slot) _ _ (λ _. p) (λ _. p)) k) (λ _. k)

sign_narrow : (s : Station) (slot : ℕ) → Narrow s → Narrow (sign_off s slot)
unfolding sign_off bereave_all
sign_narrow s slot k =
    fold_keeps Narrow (bereave_at slot) (bereave_narrow slot) 62 0 (leave slot (struck_off slot s))
    (put_narrow {ms = s.members} slot vacant (λ i h. has_none i) (
    record {
      used = without_past s.used slot k.used;
      list = without_past s.round.list slot k.list;
      toack = without_past s.round.toack slot k.toack;
      treenews = without_past s.round.treenews slot k.treenews;
      turn = strike_waits slot s.wait.turn s.wait refl k.turn;
      tried = k.tried;
    }))

narrow_kept : (s t : Station) → Change all s t → Narrow s → Narrow t
narrow_kept s t (others r m e w q) k =
    record {
      used = k.used;
      list = subst Past (sym e) k.list;
      toack = marks_past s s.round.toack r.toack w.toack k.toack;
      treenews = marks_past s s.round.treenews r.treenews w.treenews k.treenews;
      turn = k.turn;
      tried = k.tried;
    }
narrow_kept s t (turned a x r m y w q) k =
    record {
      used = k.used;
      list = λ i h. turned_list i y (λ number. list_past s number i h) (k.list i h);
      toack = marks_past s s.round.toack r.toack w.toack k.toack;
      treenews = marks_past s s.round.treenews r.treenews w.treenews k.treenews;
      turn = turned_waits y k.list k.turn;
      tried = k.tried;
    }
narrow_kept s t (over a r e here) k =
    let low : r.slot < 62 = subst Waits e k.turn in
    put_narrow (index_of r.relayfor) _ (λ i h. turn_tried i s.hears s.used (member_at s r.relayfor) r.relayfor r.slot (λ z. omega arith) (k.tried (index_of r.relayfor) i h)) k
narrow_kept s t (hears r c q l e) k = k
narrow_kept s t (written i m l here f) k = seat_narrow i m (stays_tried f) k
narrow_kept s t (counted i m n l here f) k = seat_narrow i _ (stays_tried f) k
narrow_kept s t (promoted i snr l here d) k = seat_narrow i _ refl k
narrow_kept s t (moved c r l here there able z) k = seat_narrow c _ refl k
narrow_kept s t (entered i call v now l free r) k =
    put_narrow {ms = s.members} i (new_member call v now) (λ j h. has_none j)
    (record { used = λ j h. with_other s.used i j (λ e. omega arith) ∙ k.used j h; list = k.list; toack = k.toack; treenews = k.treenews; turn = k.turn; tried = k.tried })
narrow_kept s t (queued i q l here f) k = k
narrow_kept s t (posted a i m l here e) k = k
narrow_kept s t (piece a store slot field p m here f l d) k = seat_narrow (index_of slot) m (stays_tried f) k
narrow_kept s t (landed a store slot field p m here f l d) k = seat_narrow (index_of slot) _ (stays_tried f) k
narrow_kept s t (freed a cell) k = k
narrow_kept s t (barred a store slot field p here b) k = seat_narrow (index_of slot) _ refl k
narrow_kept s t (readings i r l here) k = k
narrow_kept s t (signs_off a b c slot here) k = sign_narrow s slot k

new_narrow : (g : Settings) (count : ℕ) → Narrow (new_station g count)
unfolding new_station
new_narrow g count =
    record {
      used = λ i h. has_none i;
      list = λ i h. has_none i;
      toack = λ i h. has_none i;
      treenews = λ i h. has_none i;
      turn = tt;
      tried = every_new (λ (m : Member). Past m.tried) 62 _ (λ i h. has_none i) (λ i h. has_none i);
    }

pub narrow : (s : Station) (g : Given) (store : List ℕ) → start_refusal g (length store) ≡ 0 → (cs : List Call) → Narrow (after cs (started s g store)).station
narrow s g store e cs = always Narrow narrow_kept s g store e (new_narrow _ _) cs

-- ---- of the roster: a relay is a boat, as relay links end

pub relays_named : (s : Station) (g : Given) (store : List ℕ) → start_refusal g (length store) ≡ 0 → (cs : List Call) (i : ℕ) → is_member (after cs (started s g store)).station.used i ≡ true
    → RelayOk (after cs (started s g store)).station.used (member_at (after cs (started s g store)).station i).via
unfolding leads
relays_named s g store e cs i here = by (eqb (member_at t i).via 63) refl (and_true (is_member t.used i) _ (links s g store e cs i here)).1
  where
    t : Station
    t = (after cs (started s g store)).station

    by : (b : Bool) → eqb (member_at t i).via 63 ≡ b → b || leads t 60 (member_at t i).via ≡ true → RelayOk t.used (member_at t i).via
    by true q l = inl (eqb-true _ 63 q)
    by false q l = inr (and_true (is_member t.used (member_at t i).via) _ l).0
