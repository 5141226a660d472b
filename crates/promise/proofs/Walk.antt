-- What the definitions change of a station, taken apart into single changes, each with what is known where it is made; and chains of them. Every call is such a
-- chain (WalkNext, WalkRx, WalkCalls): what each single change keeps, any calls keep. WalkRoster has the shorter forms for the roster and for every member. Assumes
-- nothing.
use Rattle.std.specs.Prelude.{Some, is_some}
use mathlib.Core.Path.{◌≡◌, refl, ◌∙◌, subst}
use mathlib.Core.Logic.{◌⊎◌, ⊎_elim}
use mathlib.Core.Bool.{true, false, not, ◌||◌}
use mathlib.Core.List.{List}
use Prim.Native.Nat.{ℕ, ◌+◌, ◌*◌, ◌%◌, ◌<◌}
use lib.Dec.{eqb}
use lib.Ieee.{Float}
use lib.ListN.{get_or, set}
use Rattle.bits.specs.Mask.{has_bit, with_bit, without_bit, lowest_bit}
use Rattle.bits.proofs.Lists.{cond_keeps, cases, eq_or_not, never_both}
use Rattle.bits.proofs.Laws.{has_none, with_other, without_same, without_other}
use Rattle.bits.proofs.Loops.{first_found}
use Rattle.level.specs.declared.Level.{Level}
use Rattle.level.specs.declared.Level.TheVariants.{Decibels}
use Rattle.wire.specs.Fields.{snr_from_q}
use Rattle.stream.specs.Window.{bitmap_of}
use Rattle.stream.specs.Table.{Accepted, accept, freed_table}
use Rattle.recent.specs.declared.Recent.{Recent}
use Rattle.roster.specs.declared.Member.{Member}
use Rattle.roster.specs.Members.{new_member, with_links, with_missed, with_burst, with_mark, known_caps, known_version, with_heard, with_down, with_direct, received_at, promoted_at, rerouted_to, landed_one, barred_one, told_now}
use Rattle.roster.specs.Relays.{could_relay, any_hears, turn_over}
use Rattle.queue.specs.declared.Queue.{Queue}
use Rattle.queue.specs.Queues.{empty_queue, reported_to, sent_in, space_refusal, posted_to}
use Rattle.net.specs.declared.Station.{Station}
use Rattle.net.specs.declared.Round.{Round}
use Rattle.net.specs.declared.Reply.{Reply}
use Rattle.net.specs.declared.Totals.{Totals}
use Rattle.net.specs.declared.Turn.{Turn}
use Rattle.net.specs.declared.Turn.TheVariants.{Idle, Sending, Waiting}
use Rattle.net.specs.declared.Wait.{Wait}
use Rattle.net.specs.State.{member_at, with_member, with_members, with_used, with_hears, with_wait, with_round, with_totals, with_table, with_recent, table_of, with_queues}
use Rattle.net.specs.Net.{is_member}
use Rattle.bursts.specs.Rows.{member_in}
use Rattle.bursts.specs.Reroute.{with_member_in, source_for}
use Rattle.next.specs.Next.{list_for}
use Rattle.frames.specs.Pieces.{size_of}
use Rattle.signoff.specs.SignOff.{sign_off}

-- which changes a chain may have: those by levels of this kind, those of the waiting and the list, those of the cells, those that the host alone makes: a posting, a sign-off
pub record Allowed : Type 1 where
  pub level : Float → Type 0
  pub turns : Type 0
  pub cells : Type 0
  pub host : Type 0

-- ---- a member: one group of its fields written, of those that any occasion may write. A level handed in is an allowed one

pub data Field (A : Allowed) (m : Member) : Member → Type 0 where
  burst : (n : ℕ) → Field A m (with_burst m n)
  told : Field A m (told_now m)
  caps : (n : ℕ) → Field A m (known_caps m n)
  version : (n : ℕ) → Field A m (known_version m n)
  heard : (now : Float) → Field A m (with_heard m now)
  down : (q : ℕ) → Field A m (with_down m (snr_from_q q))
  received : (x : Float) (l : Level) (now : Float) → A.level x → Field A m (received_at m x l now)
  direct : (x : Float) → A.level x → Field A m (with_direct m x)
  reached : (q : ℕ) (now : Float) → Field A m (with_links m (snr_from_q q) m.snrdown m.direct (Some now))

-- any number of them
pub data Fields (A : Allowed) (m : Member) : Member → Type 0 where
  none : Fields A m m
  also : {k l : Member} → Fields A m k → Field A k l → Fields A m l

-- what they leave alone
pub record Stays (m k : Member) : Type 0 where
  pub call : k.call ≡ m.call
  pub via : k.via ≡ m.via
  pub missed : k.missed ≡ m.missed

-- and the window, and the relayers tried
abbrev pub StaysUp : Member → Member → Type 0
StaysUp m k = Stays m k × (k.up ≡ m.up) × (k.tried ≡ m.tried)

field_stays : {A : Allowed} {m k : Member} → Field A m k → StaysUp m k
field_stays (burst n) = (record { call = refl; via = refl; missed = refl }, refl, refl)
field_stays told = (record { call = refl; via = refl; missed = refl }, refl, refl)
field_stays (caps n) = (record { call = refl; via = refl; missed = refl }, refl, refl)
field_stays (version n) = (record { call = refl; via = refl; missed = refl }, refl, refl)
field_stays (heard now) = (record { call = refl; via = refl; missed = refl }, refl, refl)
field_stays (down q) = (record { call = refl; via = refl; missed = refl }, refl, refl)
field_stays (received x l now ok) = (record { call = refl; via = refl; missed = refl }, refl, refl)
field_stays (direct x ok) = (record { call = refl; via = refl; missed = refl }, refl, refl)
field_stays (reached q now) = (record { call = refl; via = refl; missed = refl }, refl, refl)

both_stay : {A : Allowed} {m k : Member} → Fields A m k → StaysUp m k
both_stay none = (record { call = refl; via = refl; missed = refl }, refl, refl)
both_stay (also c f) =
    let a = both_stay c in
    let b = field_stays f in
    (record { call = b.0.call ∙ a.0.call; via = b.0.via ∙ a.0.via; missed = b.0.missed ∙ a.0.missed }, b.1 ∙ a.1, b.2 ∙ a.2)

pub stays : {A : Allowed} {m k : Member} → Fields A m k → Stays m k
stays f = (both_stay f).0

pub stays_up : {A : Allowed} {m k : Member} → Fields A m k → k.up ≡ m.up
stays_up f = (both_stay f).1

pub stays_tried : {A : Allowed} {m k : Member} → Fields A m k → k.tried ≡ m.tried
stays_tried f = (both_stay f).2

-- what came of a turn is a mark and the relayers tried
pub over_keeps : (Q : Member → Type 0) (hears : List ℕ) (used : ℕ) (m : Member) (a slot : ℕ) → ((next marks tried : ℕ) → Q (with_mark m next marks tried))
    → Q (turn_over hears used m a slot)
unfolding turn_over
over_keeps Q hears used m a slot q =
    cond_keeps Q (not (eqb m.up.next m.marknext) || not (eqb (bitmap_of m.up) m.markbits)) _ _ (λ _. q _ _ _) (λ _. q _ _ _)

pub over_stays : (hears : List ℕ) (used : ℕ) (m : Member) (a slot : ℕ) → Stays m (turn_over hears used m a slot)
over_stays hears used m a slot = over_keeps (Stays m) hears used m a slot (λ next marks tried. record { call = refl; via = refl; missed = refl })

-- of the relayers tried, the slot that had the turn apart, none is new
pub turn_tried : (i : ℕ) (hears : List ℕ) (used : ℕ) (m : Member) (a slot : ℕ) → (slot ≡ i → ⊥) → has_bit m.tried i ≡ false → has_bit (turn_over hears used m a slot).tried i ≡ false
unfolding turn_over
turn_tried i hears used m a slot n f =
    cond_keeps (λ (x : Member). has_bit x.tried i ≡ false) (not (eqb m.up.next m.marknext) || not (eqb (bitmap_of m.up) m.markbits)) _ _ (λ _. has_none i)
    (λ _. cond_keeps (λ (t : ℕ). has_bit t i ≡ false) (any_hears hears _ a) (with_bit m.tried slot) 0 (λ _. with_other m.tried slot i n ∙ f) (λ _. has_none i))

-- what each field written keeps, any number of them keep
pub fields_keep : {A : Allowed} {m k : Member} (Q : Member → Type 0) → ((x y : Member) → Field A x y → Q x → Q y) → Fields A m k → Q m → Q k
fields_keep Q f none q = q
fields_keep Q f (also {k = x} {l = y} c l) q = f x y l (fields_keep Q f c q)

-- ---- a station

-- a turn goes on, ends, begins or is waited out; a list is drawn up: the turn and the list after it
pub data Turned (s : Station) : Turn → ℕ → Type 0 where
  still : Turned s s.wait.turn s.round.list
  ends : Turned s Idle s.round.list
  sends : Turned s Sending s.round.list
  polls : (slot : ℕ) → lowest_bit s.round.list ≡ Some slot
      → Turned s (Waiting (record { slot = slot; relayfor = source_for s slot; tries = 0; turnbursts = 0 })) (without_bit s.round.list slot)
  goes : (r : Reply) (tries bursts : ℕ) → s.wait.turn ≡ Waiting r
      → Turned s (Waiting (record { slot = r.slot; relayfor = r.relayfor; tries = tries; turnbursts = bursts })) s.round.list
  draws : (number : ℕ) → Turned s s.wait.turn (list_for s number)

-- a mask with a slot struck has none that it had not; its lowest slot is in it
pub without_false : (m i j : ℕ) → has_bit m i ≡ false → has_bit (without_bit m j) i ≡ false
without_false m i j f = ⊎_elim (λ e. subst (λ (y : ℕ). has_bit (without_bit m j) y ≡ false) e (without_same m j)) (λ z. without_other m j i z ∙ f) (eq_or_not j i)

pub lowest_in : (m slot : ℕ) → lowest_bit m ≡ Some slot → has_bit m slot ≡ true
unfolding lowest_bit
lowest_in m slot e = (first_found (has_bit m) 64 0 slot e).1

-- a slot that is not on the list, nor on one drawn up, is not on the list after it
pub turned_list : {s : Station} {y : Turn} {m : ℕ} (i : ℕ) → Turned s y m → ((n : ℕ) → has_bit (list_for s n) i ≡ false) → has_bit s.round.list i ≡ false → has_bit m i ≡ false
turned_list i still f o = o
turned_list i ends f o = o
turned_list i sends f o = o
turned_list {s} i (polls slot e) f o = without_false s.round.list i slot o
turned_list i (goes r tries bursts e) f o = o
turned_list i (draws number) f o = f number

-- a mask of slots has none that it had not, members apart
abbrev pub Within : Station → ℕ → ℕ → Type 0
Within s old new = (i : ℕ) → has_bit new i ≡ true → (has_bit old i ≡ true) ⊎ (is_member s.used i ≡ true)

pub not_within : (s : Station) (old new i : ℕ) → Within s old new → (is_member s.used i ≡ true → ⊥) → has_bit old i ≡ false → has_bit new i ≡ false
not_within s old new i w n o = ⊎_elim (λ e. absurd (⊎_elim (λ a. never_both (has_bit old i) a o) n (w i e))) (λ e. e) (cases (has_bit new i))

-- those to be acknowledged, and those whose place in the relay tree is news
pub record Marks (s : Station) (r : Round) : Type 0 where
  pub toack : Within s s.round.toack r.toack
  pub treenews : Within s s.round.treenews r.treenews

-- none, or a member
abbrev pub RelayOk : ℕ → ℕ → Type 0
RelayOk used v = (v ≡ 63) ⊎ (is_member used v ≡ true)

-- what a piece for a slot comes to
abbrev pub offered : Station → List ℕ → ℕ → ℕ → List ℕ → Accepted
offered s store slot field p = accept (table_of s) (member_at s slot).up store slot field p

-- the numbers of a boat's directed queue (U1): a report, a burst of word back
pub data Queued (q : Queue) : Queue → Type 0 where
  reports : (n : ℕ) → Queued q (reported_to q n)
  sent : (round : ℕ) → Queued q (sent_in q round)

-- one change
pub data Change (A : Allowed) (s : Station) : Station → Type 0 where
  -- the round but for its list, and the totals but for the silent boats; and with them the waiting and the list
  others : (r : Round) (t : Totals) → r.list ≡ s.round.list → Marks s r → t.silent ≡ s.totals.silent → Change A s (with_totals (with_round s r) t)
  turned : A.turns → (w : Wait) (r : Round) (t : Totals) → Turned s w.turn r.list → Marks s r → t.silent ≡ s.totals.silent
      → Change A s (with_totals (with_round (with_wait s w) r) t)
  -- what came of a running turn, noted of the boat whose traffic was to be forwarded
  over : A.turns → (r : Reply) → s.wait.turn ≡ Waiting r → is_member s.used r.relayfor ≡ true
      → Change A s (with_member s r.relayfor (turn_over s.hears s.used (member_at s r.relayfor) r.relayfor r.slot))
  -- a member hears slot k
  hears : (r k q : ℕ) → is_member s.used r ≡ true → k < 62 → Change A s (with_hears s (set s.hears (r * 62 + k) (q % 64)))
  -- a boat's fields, and those with its missed count, which the total of silent boats follows
  written : (i : ℕ) (m : Member) → i < 62 → is_member s.used i ≡ true → Fields A (member_in s i) m → Change A s (with_members s (set s.members i m))
  counted : (i : ℕ) (m : Member) (n : ℕ) → i < 62 → is_member s.used i ≡ true → Fields A (member_in s i) m → Change A s (with_member_in s i (with_missed m n))
  -- a leaf loses its relay; a boat gets another one, which has none itself
  promoted : (i : ℕ) (snr : Float) → i < 62 → is_member s.used i ≡ true → (member_in s i).direct ≡ Decibels snr → Change A s (with_member_in s i (promoted_at (member_in s i) snr))
  moved : (c r : ℕ) → c < 62 → is_member s.used c ≡ true → is_member s.used r ≡ true → could_relay (member_in s r) ≡ true → (r ≡ c → ⊥)
      → Change A s (with_member_in s c (rerouted_to (member_in s c) r))
  -- a boat's last reception levels
  readings : (i : ℕ) (r : Recent) → i < 62 → is_member s.used i ≡ true → Change A s (with_recent s (set s.recent i r))
  -- a newcomer takes a free slot
  entered : (i : ℕ) (call : List ℕ) (v : ℕ) (now : Float) → i < 62 → has_bit s.used i ≡ false → RelayOk s.used v
      → Change A s (with_queues (with_used (with_members s (set s.members i (new_member call v now))) (with_bit s.used i)) (set s.queues i empty_queue))
  -- a boat's directed queue
  queued : (i : ℕ) (q : Queue) → i < 62 → is_member s.used i ≡ true → Queued (get_or s.queues i empty_queue) q → Change A s (with_queues s (set s.queues i q))
  posted : A.host → (i n : ℕ) → i < 62 → is_member s.used i ≡ true → space_refusal (get_or s.queues i empty_queue) n ≡ 0
      → Change A s (with_queues s (set s.queues i (posted_to (get_or s.queues i empty_queue) (n + 2))))
  -- a boat's piece is kept; a message lands with it; a cell is freed
  piece : A.cells → (store : List ℕ) (slot field : ℕ) (p : List ℕ) (m : Member) → is_member s.used slot ≡ true → Fields A (member_at s slot) m
      → (offered s store slot field p).lost ≡ false → is_some (offered s store slot field p).landed ≡ false
      → Change A s (with_member (with_table s (offered s store slot field p).table) slot m)
  landed : A.cells → (store : List ℕ) (slot field : ℕ) (p : List ℕ) (m : Member) → is_member s.used slot ≡ true → Fields A (member_at s slot) m
      → (offered s store slot field p).lost ≡ false → is_some (offered s store slot field p).landed ≡ true
      → Change A s (with_member (with_table s (offered s store slot field p).table) slot (landed_one m (offered s store slot field p).number (size_of (offered s store slot field p).landed)))
  freed : A.cells → (cell : ℕ) → Change A s (with_table s (freed_table (table_of s) cell))
  -- a boat's piece claims too much: its number is barred, and its message's cell is free
  barred : A.cells → (store : List ℕ) (slot field : ℕ) (p : List ℕ) → is_member s.used slot ≡ true → (offered s store slot field p).bars ≡ true
      → Change A s (with_member (with_table s (offered s store slot field p).table) slot (barred_one (member_at s slot) (offered s store slot field p).number))
  -- a boat signs off: one change, as no property is asked to hold half-way. Signs says what is left of every part
  signs_off : A.turns → A.cells → A.host → (slot : ℕ) → is_member s.used slot ≡ true → Change A s (sign_off s slot)

-- ---- chains

pub data Chain (A : Allowed) (s : Station) : Station → Type 0 where
  start : Chain A s s
  more : {t u : Station} → Chain A s t → Change A t u → Chain A s u

module _ {A : Allowed} where
  pub chain_then : {s t u : Station} → Chain A s t → Chain A t u → Chain A s u
  chain_then a start = a
  chain_then a (more b c) = more (chain_then a b) c

  -- what each change keeps, a chain keeps
  pub chain_keeps : {s t : Station} (P : Station → Type 0) → ((x y : Station) → Change A x y → P x → P y) → Chain A s t → P s → P t
  chain_keeps P f start p = p
  chain_keeps P f (more {t = x} {u = y} a c) p = f x y c (chain_keeps P f a p)
