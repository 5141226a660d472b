-- The entries of a control frame, one after the other: a loop over them, and what each leaves of the station and the output. Assumes nothing.
use mathlib.Core.Path.{◌≡◌, refl, sym, ap, ap₂, ◌∙◌, subst}
use mathlib.Core.Bool.{Bool, true, false, not, cond}
use mathlib.Core.List.{List, [], ◌∷◌, ◌++◌, append-nil}
use Prim.Native.Nat.{ℕ, zero, suc, ◌+◌, ◌*◌, ◌<◌, ◌≤◌}
use native.Mathlib.Omega.{arith}
use native.Mathlib.Nat.{suc-mul, zero-mul, min-le_left}
use lib.Dec.{ltb}
use Rattle.std.specs.Prelude.{Option}
use Rattle.std.specs.Bool.{then_some}
use lib.ListN.{length, get_or, set, take, length-take, get_or-eq_default}
use lib.Seq.{set-get_or}
use borrow.Author.Tests.{le-leb, lt-leb, ne_eqb}
use Rattle.bits.specs.Mask.{with_bit}
use Rattle.words.specs.Words.{payload, unpack}
use Rattle.out.specs.declared.Output.{Output}
use Rattle.out.specs.Outputs.{Writes}
use Rattle.out.proofs.Laws.{writes_then, writes_none, writes_as}
use Rattle.net.specs.declared.Station.{Station}
use Rattle.net.specs.State.{index_of, member_at, with_member, with_counted, with_members, with_hears, with_totals, with_silent, with_recent, recent_at, with_round, with_toack}
use Rattle.net.specs.Net.{Said, said, Does, is_member}
use Rattle.net.proofs.Laws.{member_again}
use Rattle.recent.specs.declared.Recent.{Recent}
use Rattle.recent.specs.Readings.{no_recent, empty, noted}
use Rattle.queue.specs.declared.Queue.{Queue}
use Rattle.queue.specs.Queues.{empty_queue}
use Rattle.roster.specs.declared.Member.{Member}
use Rattle.roster.specs.Members.{no_member, new_member, with_caps, with_version, received_at, silent_at, tally}
use Rattle.roster.proofs.Silent.{tally_same}
use Rattle.level.specs.declared.Level.{Level}
use Rattle.wire.specs.Fields.{snr_from_q}
use Rattle.admit.specs.Admission.{seat_of, slot_of, is_full, admit_events, enter_at, admit_by}
use Rattle.admit.specs.Code.Seats.{is_free, stored_at}
use Rattle.admit.proofs.Laws.{known_lt, seat_lt}
use Rattle.admit.proofs.Seats.{seat_words_lem}
use Rattle.admit.specs.declared.Seat.{Seat}
use Rattle.admit.specs.declared.Seat.TheVariants.{Known, Free, Full}
use Rattle.frames.specs.declared.Air.{Air}
use Rattle.frames.specs.Code.Control.{relay_by}
use Rattle.frames.specs.Control.{each_entry, call_at, checkin_member, with_active, seated_in, checkin_frame, hearing, hear_pair, newcomer, relay_of, overheard_by, overheard_entry, kid_of, is_kid, kid_member, kid_recent, kid_events, kid_entry}

-- ### A loop over entries

module _ {A : Type 0} (f : ℕ → A → A) (w len : ℕ) (all : A) where
  -- the entries from e on are left: what they make of y is what all make of the start
  pub record Rest (e : ℕ) (y : A) : Type 0 where
    pub turns : ℕ
    pub enough : len < e + turns * w
    pub same : all ≡ each_entry f w len turns e y

  each_done : (n e : ℕ) (y : A) → len < e + w → each_entry f w len n e y ≡ y
  unfolding each_entry
  each_done zero e y h = refl
  each_done (suc n) e y h = rw (lt-leb (e + w) len h)

  turn_by : (n e : ℕ) (y : A) → len < e + n * w → all ≡ each_entry f w len n e y → e + w ≤ len → Rest (e + w) (f e y)
  unfolding each_entry
  turn_by zero e y h s l = absurd (omega (arith, zero-mul w))
  turn_by (suc n) e y h s l =
      record { turns = n; enough = omega (arith, suc-mul n w); same = s ∙ rw (le-leb (e + w) len l) }

  pub rest_on : (e : ℕ) (y : A) → Rest e y → e + w ≤ len → Rest (e + w) (f e y)
  rest_on e y r l = turn_by r.turns e y r.enough r.same l

  pub rest_end : (e : ℕ) (y : A) → Rest e y → len < e + w → all ≡ y
  rest_end e y r l = r.same ∙ each_done r.turns e y l

-- ### Stations and outputs

module _ {o m : Output} where
  -- two steps, one after the other
  pub did_then : {d q : Said} {t r : Station} {m' : Output} → Does d t o m → Does q r m m' → Does (said q.station (d.words ++ q.words)) r o m'
  did_then x y = record { station = y.station; wrote = writes_then x.wrote y.wrote }

  pub did_as : {d q : Said} {t : Station} → d ≡ q → Does d t o m → Does q t o m
  did_as {t} e x = subst (λ (k : Said). Does k t o m) e x

-- a step that changes nothing
pub did_none : (s : Station) (o : Output) → Does (said s []) s o o
did_none s o = record { station = refl; wrote = writes_none o }

-- a loop over entries that writes: `done` is what was done before the entry at e
module _ (f : ℕ → Said → Said) (w len : ℕ) (all : Said) (o : Output) where
  pub record Going (e : ℕ) (t : Station) (m : Output) : Type 0 where
    pub done : Said
    pub rest : Rest f w len all e done
    pub did : Does done t o m

  pub going_end : (e : ℕ) (t : Station) (m : Output) → Going e t m → len < e + w → Does all t o m
  going_end e t m g h = did_as (sym (rest_end f w len all e g.done g.rest h)) g.did

-- ### A check-in

-- what it tells of its boat, byte by byte
pub checkin_is : (a : Air) (len : ℕ) (p : List ℕ) (m h c r : Member) (down : Level) (b6 b7 b9 : ℕ) (caps version : Option ℕ)
    → b6 ≡ get_or p 6 0 → b7 ≡ get_or p 7 0 → b9 ≡ get_or p 9 0 → down ≡ snr_from_q b6 → h ≡ received_at m a.level down a.time
    → caps ≡ then_some (ltb 7 len) b7 → c ≡ with_caps h caps → version ≡ then_some (ltb 9 len) b9 → r ≡ with_version c version
    → r ≡ checkin_member a len p m
checkin_is a len p m h c r down b6 b7 b9 caps version e6 e7 e9 ed eh e3 ec e4 er =
    let d : down ≡ snr_from_q (get_or p 6 0) = ed ∙ ap snr_from_q e6 in
    let g : h ≡ received_at m a.level (snr_from_q (get_or p 6 0)) a.time = eh ∙ ap (λ (x : Level). received_at m a.level x a.time) d in
    let x : caps ≡ then_some (ltb 7 len) (get_or p 7 0) = e3 ∙ ap (λ (b : ℕ). then_some (ltb 7 len) b) e7 in
    let y : version ≡ then_some (ltb 9 len) (get_or p 9 0) = e4 ∙ ap (λ (b : ℕ). then_some (ltb 9 len) b) e9 in
    er ∙ ap₂ with_version (ec ∙ ap₂ with_caps g x) y

-- one write to a place, where the definitions write twice
set_over : {A : Type 0} (l : List A) (i : ℕ) (k d : A) (f : A → A) → set l i (f k) ≡ set (set l i k) i (f (get_or (set l i k) i d))
set_over [] i k d f = refl
set_over (x ∷ l) zero k d f = refl
set_over {A} (x ∷ l) (suc i) k d f = ap (λ (r : List A). x ∷ r) (set_over l i k d f)

module _ (a : Air) (len : ℕ) (p : List ℕ) (s : Station) (call : List ℕ) where
  -- a boat that is known, as the code stores it
  pub checkin_known : (c i : ℕ) (k : Member) (z : Recent) (acks : ℕ) (o : Output)
      → call ≡ call_at p 1 → seat_of s call ≡ Known c → i ≡ index_of c
      → k ≡ checkin_member a len p (get_or s.members i no_member) → z ≡ noted (get_or s.recent i no_recent) a.level → acks ≡ with_bit s.round.toack i
      → Does (checkin_frame a len p s) (with_active (with_round (with_recent (with_members s (set s.members i k)) (set s.recent i z)) (with_toack s.round acks))) o o
  unfolding checkin_frame
  checkin_known c i k z acks o ecall e ei ek ez ea =
      rw (← ecall, e, ne_eqb c 255 (λ q. omega (arith, known_lt s call c e)), ea, ez, ek, ei) (record { station = refl; wrote = writes_none o })

  -- a newcomer in slot c
  pub checkin_free : (c i : ℕ) (k : Member) (z : Recent) (y : Queue) (used acks : ℕ) {o m : Output}
      → call ≡ call_at p 1 → seat_of s call ≡ Free c → i ≡ index_of c
      → k ≡ checkin_member a len p (new_member call 63 a.time) → z ≡ noted empty a.level → y ≡ empty_queue
      → used ≡ with_bit s.used i → acks ≡ with_bit s.round.toack i → Writes o (admit_events c 63) m
      → Does (checkin_frame a len p s) (with_active (stored_at s i k z y used acks)) o m
  unfolding checkin_frame
  checkin_free c i k z y used acks ecall e ei ek ez ey eu ea w =
      rw (← ecall, e, ne_eqb c 255 (λ q. omega (arith, seat_lt s call c e)), ea, eu, ey, ez, ek, ei)
      (record {
        station = ap₂ (λ (ms : List Member) (rs : List Recent). with_recent (with_members (with_active (enter_at s c call 63 a.time)) ms) rs)
            (set_over s.members (index_of c) (new_member call 63 a.time) no_member (checkin_member a len p))
            (set_over s.recent (index_of c) empty no_recent (λ (r : Recent). noted r a.level));
        wrote = w;
      })

  -- no seat is left
  pub checkin_full : (o : Output) → call ≡ call_at p 1 → seat_of s call ≡ Full → Does (checkin_frame a len p s) (with_active s) o o
  unfolding checkin_frame
  checkin_full o ecall e = rw (← ecall, e) (record { station = refl; wrote = writes_none o })

-- ### The pairs of a report

pub hears_turn : (p : List ℕ) (r len : ℕ) (all : List ℕ) (e : ℕ) (hears hears' : List ℕ) (k q : ℕ)
    → Rest (hear_pair p r) 2 len all e hears → e + 2 ≤ len → k ≡ get_or p e 0 → q ≡ get_or p (e + 1) 0 → hears' ≡ hearing r k q hears
    → Rest (hear_pair p r) 2 len all (e + 2) hears'
hears_turn p r len all e hears hears' k q g l ek eq eh =
    let z : hear_pair p r e hears ≡ hears' = sym (eh ∙ rw (ek, eq)) in
    subst (λ (h : List ℕ). Rest (hear_pair p r) 2 len all (e + 2) h) z (rest_on (hear_pair p r) 2 len all e hears g l)

-- ### The entries of overheard boats

heard_by_lem : (t : Bool) (s : Station) (h : List ℕ) → with_hears s (cond t h s.hears) ≡ cond t (with_hears s h) s
heard_by_lem true s h = refl
heard_by_lem false s h = refl

module _ (a : Air) (p : List ℕ) (slot via e : ℕ) where
  over_by_lem : (seat : Seat) (s : Station) (ws : List ℕ)
      → overheard_by seat a p e slot via (said s ws)
      ≡ said (overheard_by seat a p e slot via (said s [])).station (ws ++ (overheard_by seat a p e slot via (said s [])).words)
  over_by_lem (Known k) s ws = ap (said s) (sym (append-nil ws))
  over_by_lem (Free k) s ws = refl
  over_by_lem Full s ws = ap (said s) (sym (append-nil ws))

  over_more : (d : Said)
      → said (overheard_entry a p slot via e (said d.station [])).station (d.words ++ (overheard_entry a p slot via e (said d.station [])).words)
      ≡ overheard_entry a p slot via e d
  unfolding overheard_entry
  over_more d = sym (over_by_lem (seat_of d.station (call_at p e)) d.station d.words)

  pub over_turn : (d : Said) {t r : Station} {o m m' : Output} → Does d t o m
      → Does (overheard_entry a p slot via e (said t [])) r m m' → Does (overheard_entry a p slot via e d) r o m'
  over_turn d {t} {r} {m} {m'} x y =
      let z : Does (overheard_entry a p slot via e (said d.station [])) r m m' =
      subst (λ (s : Station). Does (overheard_entry a p slot via e (said s [])) r m m') x.station y in
      did_as (over_more d) (did_then x z)

  module _ (s : Station) (call : List ℕ) where
    -- a newcomer in slot c, as the code stores it
    over_is : (c : ℕ) → call ≡ call_at p e
        → let i = index_of c in
        with_hears (stored_at s i (newcomer p e (new_member call via a.time)) empty empty_queue (with_bit s.used i) (with_bit s.round.toack i))
        (cond (is_member (with_bit s.used i) slot) (hearing slot c (get_or p (e + 5) 0) s.hears) s.hears)
        ≡ (overheard_by (Free c) a p e slot via (said s [])).station
    over_is c q =
        let t = enter_at s c call via a.time in
        rw (← q)
        (ap (λ (ms : List Member). with_hears (with_members t ms) (cond (is_member t.used slot) (hearing slot c (get_or p (e + 5) 0) s.hears) s.hears))
        (set_over s.members (index_of c) (new_member call via a.time) no_member (newcomer p e))
        ∙ heard_by_lem (is_member t.used slot) (with_member t c (newcomer p e (member_at t c))) (hearing slot c (get_or p (e + 5) 0) s.hears))

    pub over_stored : (c i : ℕ) (k : Member) (z : Recent) (y : Queue) (used acks : ℕ) (here : Bool) (q : ℕ) (hears' : List ℕ) {o m : Output}
        → call ≡ call_at p e → seat_of s call ≡ Free c → i ≡ index_of c
        → k ≡ newcomer p e (new_member call via a.time) → z ≡ empty → y ≡ empty_queue → used ≡ with_bit s.used i → acks ≡ with_bit s.round.toack i
        → Writes o (admit_events c via) m
        → here ≡ is_member used slot → q ≡ get_or p (e + 5) 0 → hears' ≡ cond here (hearing slot c q s.hears) s.hears
        → Does (overheard_entry a p slot via e (said s [])) (with_hears (stored_at s i k z y used acks) hears') o m
    unfolding overheard_entry
    over_stored c i k z y used acks here q hears' ecall eseat ei ek ez ey eu ea w eh eq es =
        rw (← ecall, eseat)
        record { station = rw (es, eq, eh, ea, eu, ey, ez, ek, ei) (over_is c ecall); wrote = w }

    -- who is known, or has no seat
    pub over_left : {o : Output} → call ≡ call_at p e → ((c : ℕ) → seat_of s call ≡ Free c → ⊥) → Does (overheard_entry a p slot via e (said s [])) s o o
    unfolding overheard_entry
    over_left {o} ecall f = rw (← ecall) (at (seat_of s call) refl)
      where
        at : (seat : Seat) → seat_of s call ≡ seat → Does (overheard_by seat a p e slot via (said s [])) s o o
        at (Known i) q = did_none s o
        at (Free c) q = absurd (f c q)
        at Full q = did_none s o

-- the relay of the frame's newcomers
pub relay_is : (s : Station) (slot b : ℕ) (here : Bool) (via : ℕ) → b ≡ index_of slot → here ≡ is_member s.used slot
    → via ≡ relay_by here (get_or s.members b no_member) slot → via ≡ relay_of s slot
unfolding relay_of
relay_is s slot b here via eb eh ev = ev ∙ rw (eh, eb)

-- ### The entries of children

module _ (a : Air) (p : List ℕ) (slot e c b : ℕ) (ec : c ≡ get_or p e 0) (eb : b ≡ get_or p (e + 1) 0) where
  -- as the code stores it
  pub kid_stored : (d : Said) (s : Station) (ix : ℕ) (here : Bool) (k : Member) (r : Recent) (n : ℕ) {o m m' : Output} → Does d s o m
      → ix ≡ index_of c → here ≡ is_member s.used c → kid_of here (get_or s.members ix no_member) slot ≡ true
      → k ≡ kid_member a b (get_or s.members ix no_member) → r ≡ kid_recent b (get_or s.recent ix no_recent)
      → n ≡ tally s.totals.silent (silent_at s.settings.misslimit (get_or s.members ix no_member)) (silent_at s.settings.misslimit k)
      → Writes m (kid_events c b) m'
      → Does (kid_entry a p slot e d) (with_totals (with_recent (with_members s (set s.members ix k)) (set s.recent ix r)) (with_silent s.totals n)) o m'
  unfolding kid_entry
  kid_stored d s ix here k r n x ei eh eo ek er en y =
      rw (← ec, ← eb, ← x.station, rw (eh, ei) at eo)
      record { station = rw (en, er, ek, ei); wrote = writes_then x.wrote y }

  -- no child of the frame's boat
  pub kid_left : (d : Said) (s : Station) (ix : ℕ) (here : Bool) {o m : Output} → Does d s o m
      → ix ≡ index_of c → here ≡ is_member s.used c → kid_of here (get_or s.members ix no_member) slot ≡ false
      → Does (kid_entry a p slot e d) s o m
  unfolding kid_entry
  kid_left d s ix here x ei eh eo = rw (← ec, ← eb, ← x.station, rw (eh, ei) at eo) record { station = refl; wrote = x.wrote }

-- ### A payload's bytes

-- past its end it reads as 0
pub byte_past : (l : List ℕ) (len j : ℕ) → len ≤ j → get_or (payload l len) j 0 ≡ 0
unfolding payload
byte_past l len j h = get_or-eq_default (take len (unpack l)) 0 (omega (arith, length-take len (unpack l), min-le_left len (length (unpack l))))
