-- The station and the events after a kept piece; what a frame leaves of a reception's running values, and every call of the number of cells. Assumes nothing.
use Rattle.std.specs.Prelude.{Option, Some, None, is_some}
use mathlib.Core.Path.{◌≡◌, refl, sym, ap, ◌∙◌, subst}
use mathlib.Core.Bool.{Bool, true, false, cond, ◌&&◌}
use mathlib.Core.List.{List, [], ◌∷◌, ◌++◌}
use mathlib.Core.Logic.{⊎_elim}
use Prim.Native.Nat.{ℕ, ◌/◌, ◌%◌, ◌≤◌, ◌<◌}
use native.Mathlib.Omega.{arith}
use lib.ListN.{length, get_or, set, length-set}
use lib.Seq.{get_or-set_same, get_or-set_other}
use borrow.Author.Tests.{eq-eqb, ne_eqb}
use Rattle.bits.specs.Mask.{has_bit}
use Rattle.bits.proofs.Laws.{with_other}
use Rattle.bits.proofs.Lists.{cond_keeps, le_or_lt, eq_or_not}
use Rattle.words.specs.Words.{Heard, lost, heard}
use Rattle.out.specs.Encode.{message_word}
use Rattle.stream.specs.declared.window.Window.{Window}
use Rattle.stream.specs.Window.{land_of, bar_of, fresh_of}
use Rattle.stream.specs.declared.table.Room.{Room}
use Rattle.stream.specs.Table.{Table, Accepted, accept, has_own, place_of, freed_table, barred_table, table_room}
use Rattle.stream.proofs.Accepts.{accept_cases}
use Rattle.roster.specs.declared.Member.{Member}
use Rattle.roster.specs.Members.{no_member, landed_one, barred_one}
use Rattle.net.specs.declared.Station.{Station}
use Rattle.net.specs.State.{index_of, member_at, with_member, with_table, table_of}
use Rattle.net.specs.Net.{is_member}
use Rattle.net.proofs.Laws.{index_lt, index_is, member_lt, member_none}
use Rattle.frames.specs.declared.Air.{Air}
use Rattle.frames.specs.Reading.{Reading}
use Rattle.frames.specs.Pieces.{is_aside_leaf, heard_member, size_of, piece_member, relayer, is_relayed, relayed_words, piece_events, traffic_if, relay_if, unkept_at, barred_piece, kept_piece, piece_frame}
use Rattle.frames.specs.Frames.{read_frame}
use Rattle.promise.specs.Promise.{Event2, events_in}
use Rattle.promise.proofs.FrameCases.{frame_cases}
use Rattle.promise.proofs.Pieces.{also_one, windows_after, view_after, windows_barred, view_barred, event_for}
use Rattle.promise.proofs.Quiet.{window_in, window_at, Keeps, kept_self, view_of, view_is, kept_view}
use Rattle.promise.proofs.Events.{events_none, relayed_word, message_word_lem}
use Rattle.promise.proofs.Signs.{sign_beside, cleared}
use Rattle.promise.proofs.Walk.{Change, others, turned, over, hears, written, counted, promoted, moved, entered, piece, landed, freed, barred, signs_off, Chain, chain_keeps, queued, posted}
use Rattle.promise.proofs.Walk as walk
use Rattle.promise.proofs.WalkCalls.{all}
use Rattle.promise.proofs.QuietRx.{Untouched, untouched, control_untouched}

-- ---- the station after a kept piece

heard_up : (a : Air) (m : Member) (slot : ℕ) → (heard_member a m slot).up ≡ m.up
heard_up a m slot = cond_keeps (λ (x : Member). x.up ≡ m.up) (is_aside_leaf a m slot) _ _ (λ _. refl) (λ _. refl)

piece_up : (a : Air) (m : Member) (slot : ℕ) (r : Accepted) → (piece_member a m slot r).up ≡ cond (is_some r.landed) (land_of m.up r.number) m.up
piece_up a m slot r = at (is_some r.landed)
  where
    at : (b : Bool) → (cond b (landed_one (heard_member a m slot) r.number (size_of r.landed)) (heard_member a m slot)).up ≡ cond b (land_of m.up r.number) m.up
    at true = ap (λ (w : Window). land_of w r.number) (heard_up a m slot)
    at false = heard_up a m slot

-- a member written: its window is the new one, the others' stay
window_new : (used : ℕ) (ms : List Member) (slot : ℕ) (m : Member) → is_member used slot ≡ true → length ms ≡ 62 → window_in used (set ms (index_of slot) m) slot ≡ m.up
window_new used ms slot m here long =
    let n = index_lt slot in
    ap (λ (t : Bool). cond t (get_or (set ms (index_of slot) m) (index_of slot) no_member).up fresh_of) here
    ∙ ap (λ (y : Member). y.up) (get_or-set_same ms (index_of slot) m no_member (omega arith))

window_old : (used : ℕ) (ms : List Member) (slot : ℕ) (m : Member) → is_member used slot ≡ true → (i : ℕ) → (i ≡ slot → ⊥)
    → window_in used (set ms (index_of slot) m) i ≡ window_in used ms i
window_old used ms slot m here i z =
    ⊎_elim (λ a.
    ap (λ (t : Bool). cond t (get_or (set ms (index_of slot) m) (index_of i) no_member).up fresh_of) (member_none used i a)
    ∙ sym (ap (λ (t : Bool). cond t (get_or ms (index_of i) no_member).up fresh_of) (member_none used i a)))
    (λ a.
    ap (λ (y : Member). cond (is_member used i) y.up fresh_of)
    (get_or-set_other ms (index_of slot) (index_of i) m no_member
    (λ e. z (sym (index_is i a) ∙ e ∙ index_is slot (member_lt used slot here)))))
    (le_or_lt 62 i)

-- what holds of each slot's window holds after one member is written with a window of which it holds
pub written_keeps : (P : ℕ → Window → Type 0) (used : ℕ) (ms : List Member) (slot : ℕ) (m : Member) → is_member used slot ≡ true → length ms ≡ 62
    → P slot m.up → ((i : ℕ) → P i (window_in used ms i)) → (i : ℕ) → P i (window_in used (set ms (index_of slot) m) i)
written_keeps P used ms slot m here long new old i =
    ⊎_elim (λ q. subst (λ (j : ℕ). P j (window_in used (set ms (index_of slot) m) j)) (sym q) (subst (P slot) (sym (window_new used ms slot m here long)) new))
    (λ z. subst (P i) (sym (window_old used ms slot m here i z)) (old i)) (eq_or_not i slot)

-- a number barred in its window
windows_barred_lem : (used : ℕ) (ms : List Member) (slot k : ℕ) → is_member used slot ≡ true → length ms ≡ 62
    → (i : ℕ) → window_in used (set ms (index_of slot) (barred_one (get_or ms (index_of slot) no_member) k)) i ≡ windows_barred (window_in used ms) slot k i
windows_barred_lem used ms slot k here long i =
    ⊎_elim (λ q.
    ap (window_in used (set ms (index_of slot) m)) q
    ∙ window_new used ms slot m here long
    ∙ ap (λ (w : Window). bar_of w k) (sym (ap (λ (t : Bool). cond t (get_or ms (index_of slot) no_member).up fresh_of) here))
    ∙ ap (λ (t : Bool). cond t (bar_of (window_in used ms slot) k) (window_in used ms slot)) (sym (eq-eqb slot slot refl))
    ∙ ap (windows_barred (window_in used ms) slot k) (sym q))
    (λ z.
    window_old used ms slot m here i z
    ∙ ap (λ (t : Bool). cond t (bar_of (window_in used ms i) k) (window_in used ms i)) (sym (ne_eqb slot i (λ q. z (sym q)))))
    (eq_or_not i slot)
  where
    m : Member
    m = barred_one (get_or ms (index_of slot) no_member) k

module _ (used : ℕ) (ms : List Member) (slot : ℕ) (m : Member) (b : Bool) (k : ℕ) (here : is_member used slot ≡ true) (long : length ms ≡ 62)
    (up : m.up ≡ cond b (land_of (get_or ms (index_of slot) no_member).up k) (get_or ms (index_of slot) no_member).up) where
  same_b : (t : Bool) (w : Window) → cond t (land_of w k) w ≡ cond (t && true) (land_of w k) w
  same_b true w = refl
  same_b false w = refl

  other_b : (t : Bool) (w : Window) → w ≡ cond (t && false) (land_of w k) w
  other_b true w = refl
  other_b false w = refl

  at_slot : window_in used ms slot ≡ (get_or ms (index_of slot) no_member).up
  at_slot = ap (λ (t : Bool). cond t (get_or ms (index_of slot) no_member).up fresh_of) here

  is_slot : window_in used (set ms (index_of slot) m) slot ≡ windows_after (window_in used ms) slot b k slot
  is_slot =
      window_new used ms slot m here long
      ∙ up
      ∙ same_b b (get_or ms (index_of slot) no_member).up
      ∙ ap (λ (w : Window). cond (b && true) (land_of w k) w) (sym at_slot)
      ∙ ap (λ (t : Bool). cond (b && t) (land_of (window_in used ms slot) k) (window_in used ms slot)) (sym (eq-eqb slot slot refl))

  not_slot : (i : ℕ) → (i ≡ slot → ⊥) → window_in used (set ms (index_of slot) m) i ≡ window_in used ms i
  not_slot i z = window_old used ms slot m here i z

  pub windows_after_lem : (i : ℕ) → window_in used (set ms (index_of slot) m) i ≡ windows_after (window_in used ms) slot b k i
  windows_after_lem i =
      ⊎_elim (λ q. ap (window_in used (set ms (index_of slot) m)) q ∙ is_slot ∙ ap (windows_after (window_in used ms) slot b k) (sym q))
      (λ z.
      not_slot i z
      ∙ other_b b (window_in used ms i)
      ∙ ap (λ (t : Bool). cond (b && t) (land_of (window_in used ms i) k) (window_in used ms i)) (sym (ne_eqb slot i (λ q. z (sym q)))))
      (eq_or_not i slot)

traffic_kept : (b : Bool) (s₀ s : Station) → Keeps s₀ s → Keeps s₀ (traffic_if b s)
traffic_kept true s₀ s k = k
traffic_kept false s₀ s k = k

relay_kept : (b : Bool) (s₀ s : Station) → Keeps s₀ s → Keeps s₀ (relay_if b s)
relay_kept true s₀ s k = k
relay_kept false s₀ s k = k

module _ (a : Air) (slot : ℕ) (r : Accepted) (x : Reading) where
  abbrev base : Station
  base = with_member (with_table x.station r.table) slot (piece_member a (member_at x.station slot) slot r)

  base_kept : Keeps base (kept_piece a slot r x).station
  base_kept = relay_kept (is_relayed a x.station slot r) base _ (traffic_kept (is_some r.landed) base _ (kept_self base))

  module _ (here : is_member x.station.used slot ≡ true) (long : length x.station.members ≡ 62) where
    pub piece_view : view_of (kept_piece a slot r x).station r.store ≡ view_after (view_of x.station x.store) slot r
    piece_view =
        kept_view base (kept_piece a slot r x).station r.store base_kept
        ∙ view_is (table_of base) r.table r.store r.store (window_at base) (windows_after (window_at x.station) slot (is_some r.landed) r.number)
        refl refl
        (windows_after_lem x.station.used x.station.members slot (piece_member a (member_at x.station slot) slot r) (is_some r.landed) r.number here long
        (piece_up a (member_at x.station slot) slot r))

    pub piece_long : length (kept_piece a slot r x).station.members ≡ 62
    piece_long = base_kept.long ∙ length-set x.station.members (index_of slot) _ ∙ long

-- a number barred with it
module _ (slot : ℕ) (r : Accepted) (x : Reading) (here : is_member x.station.used slot ≡ true) (long : length x.station.members ≡ 62) where
  pub barred_view : view_of (barred_piece slot r x).station x.store ≡ view_barred (view_of x.station x.store) slot r
  barred_view =
      view_is (table_of (barred_piece slot r x).station) r.table x.store x.store (window_at (barred_piece slot r x).station) (windows_barred (window_at x.station) slot r.number)
      refl refl (windows_barred_lem x.station.used x.station.members slot r.number here long)

  pub barred_long : length (barred_piece slot r x).station.members ≡ 62
  barred_long = length-set x.station.members (index_of slot) _ ∙ long

-- its events
pub piece_events_lem : (a : Air) (s : Station) (slot : ℕ) (r : Accepted) → slot < 64 → (is_some r.landed ≡ true → r.cell < 64)
    → events_in (piece_events a s slot r) ≡ also_one (event_for slot r) []
piece_events_lem a s slot r low fit = at (is_some r.landed) (relayer a s slot r) refl
  where
    word : List ℕ
    word = message_word slot r.cell r.number ∷ []

    one : Event2
    one = record { slot = slot; cell = r.cell; number = r.number % 256 }

    said : r.cell < 64 → events_in word ≡ one ∷ []
    said f = message_word_lem slot r.cell r.number [] low f ∙ ap (λ (l : List Event2). one ∷ l) events_none

    at : (b : Bool) (via : Option ℕ) → is_some r.landed ≡ b → events_in (cond b (relayed_words via slot ++ word) []) ≡ also_one (cond b (Some one) None) []
    at true (Some v) q = relayed_word slot v word ∙ said (fit q)
    at true None q = said (fit q)
    at false via q = events_none

-- ---- the running values: frame, members seen, and the marks of the other frames; and how many cells there are

pub record Runs (x y : Reading) : Type 0 where
  pub frame : y.frame ≡ x.frame
  pub seen : y.seen ≡ x.seen
  pub other : (i : ℕ) → (i ≡ x.frame → ⊥) → has_bit y.unkept i ≡ has_bit x.unkept i

untouched_runs : (x y : Reading) → Untouched x y → Runs x y
untouched_runs x y u = record { frame = u.frame; seen = u.seen; other = λ i z. ap (λ (n : ℕ). has_bit n i) u.unkept }

pub frame_runs : (a : Air) (f : Heard) (x : Reading) → Runs x (read_frame a f x)
unfolding read_frame piece_frame
frame_runs a lost x = untouched_runs x x (untouched x)
frame_runs a (heard flags field p) x =
    frame_cases (Runs x) a x (untouched_runs x x (untouched x)) flags field p
    (cond_keeps (Runs x) (is_member x.station.used (flags % 64)) _ x
    (λ _. cond_keeps (Runs x) (accept (table_of x.station) (member_at x.station (flags % 64)).up x.store (flags % 64) field p).lost _ _
    (λ _. cond_keeps (λ (y : Reading). Runs x (unkept_at y)) (accept (table_of x.station) (member_at x.station (flags % 64)).up x.store (flags % 64) field p).bars _ x
    (λ _. record { frame = refl; seen = refl; other = λ i z. with_other x.unkept x.frame i (λ q. z (sym q)) })
    (λ _. record { frame = refl; seen = refl; other = λ i z. with_other x.unkept x.frame i (λ q. z (sym q)) }))
    (λ _. record { frame = refl; seen = refl; other = λ i z. refl }))
    (λ _. untouched_runs x x (untouched x)))
    (untouched_runs x _ (control_untouched a (flags % 64) (get_or p 0 0) (length p) p x))

-- ---- the cells stay as many as they were

barred_count : (t : Table) (room : Room) → (barred_table t room).count ≡ t.count
barred_count t room = cond_keeps (λ (y : Table). y.count ≡ t.count) (has_own room) (freed_table t (place_of room)) t (λ _. refl) (λ _. refl)

accept_count : (t : Table) (w : Window) (store : List ℕ) (slot field : ℕ) (p : List ℕ) → (accept t w store slot field p).table.count ≡ t.count
accept_count t w store slot field p =
    accept_cases t w store slot field p (λ (y : Accepted). y.table.count ≡ t.count) (λ e. refl) (λ k e h. refl) (λ k o b q c z. refl) (λ k o q. barred_count t (table_room t slot k)) (λ k o q. refl)

count_kept : (n : ℕ) (s t : Station) → Change all s t → s.count ≡ n → t.count ≡ n
count_kept n s t (others r m e k q) h = h
count_kept n s t (turned a w r m y k q) h = h
count_kept n s t (over a r e here) h = h
count_kept n s t (hears r c q l e) h = h
count_kept n s t (written i m l here f) h = h
count_kept n s t (counted i m k l here f) h = h
count_kept n s t (promoted i snr l here d) h = h
count_kept n s t (moved c r l here there able z) h = h
count_kept n s t (walk.readings i r l here) h = h
count_kept n s t (entered i call v now l free r) h = h
count_kept n s t (queued i q l here f) h = h
count_kept n s t (posted a i m l here e) h = h
count_kept n s t (piece a store slot field p m here f l d) h = accept_count (table_of s) (member_at s slot).up store slot field p ∙ h
count_kept n s t (landed a store slot field p m here f l d) h = accept_count (table_of s) (member_at s slot).up store slot field p ∙ h
count_kept n s t (freed a cell) h = h
count_kept n s t (barred a store slot field p here b) h = accept_count (table_of s) (member_at s slot).up store slot field p ∙ h
count_kept n s t (signs_off a b c slot here) h = ap (λ (x : Table). x.count) (sign_beside s slot).table ∙ (cleared slot (table_of s)).count ∙ h

pub chain_count : {s t : Station} → Chain all s t → t.count ≡ s.count
chain_count {s} c = chain_keeps (λ (t : Station). t.count ≡ s.count) (count_kept s.count) c refl
