-- The station's own logs pass the turn check: what the monitor accepts, the check accepts. Assumes nothing.
use Rattle.std.specs.Prelude.{Option, Some, None}
use mathlib.Core.Path.{◌≡◌, refl, sym, ap, ◌∙◌, subst}
use mathlib.Core.Logic.{inl, inr}
use Prim.Native.Nat.{ℕ, zero, suc, ◌+◌, ◌/◌, ◌%◌, ◌<◌}
use native.Mathlib.Omega.{arith}
use mathlib.Core.Bool.{Bool, true, false, cond, ◌&&◌}
use mathlib.Core.List.{List, [], ◌∷◌, ◌++◌, append_assoc, append-nil}
use lib.ListN.{length}
use borrow.Author.Tests.{eq-eqb, ne_eqb, lt-ltb}
use Rattle.bits.specs.Mask.{has_bit, slots_of}
use Rattle.bits.proofs.Laws.{slots_length}
use Rattle.config.specs.Checks.{settings_of}
use Rattle.stream.specs.Table.{cell_count}
use Rattle.net.specs.declared.Station.{Station}
use Rattle.net.specs.declared.Settings.{Settings}
use Rattle.net.specs.Net.{new_station}
use Rattle.logs.specs.Reading.{Entry, has, list_ok, marks_from, slots_in, entries_from, sent_in}
use Rattle.logs.specs.Reading as log
use Rattle.logs.specs.Turns.{Running, idle, runs, begun, accepted, verdict_of}
use Rattle.logs.specs.Turns as log-turns
use Rattle.logs.proofs.Sets.{without}
use Rattle.logs.proofs.Watched.{watched}
use Rattle.logs.proofs.Exact.{exact}
use Rattle.promise.specs.Promise.{Net, Call, signing, result, outcome, is_refused, step, after, started, TurnEvent, drew, over, poll, ack, over_if, drew_if, bursts_in, turn_events, trace, LinksHold}
use Rattle.laws.specs.Logs.{slot_words, mark_words, marks_in, log_of, log_from, NoSignOff, OwnLogs}
use Rattle.promise.proofs.Monitor.{In, NoDup, Run, rest, turn, Acc}
use Rattle.promise.proofs.Links.{links}
use Rattle.promise.proofs.TurnsWords.{sent_append, quiet_first}
use Rattle.promise.proofs.TurnsLists.{list_once}
use Rattle.promise.proofs.Turns.{start_is, followed}
use Rattle.laws.proofs.LogsWords.{Good, good_none, good_mark, Agree}
use Rattle.laws.proofs.LogsRows.{Sendable}
use Rattle.laws.proofs.LogsCalls.{Logged, reports}
use Rattle.promise.proofs.WalkRoster.{settings_stay}
use Rattle.promise.proofs.WalkCalls.{all, step_walk}
use Rattle.promise.proofs.CallEvents.{over_of, drew_of, behind_of, events_are}

-- ---- the check beside the monitor

-- the listed slots without a turn are the same; a waiting that has ended may leave its run in the log, of a slot that is not due
abbrev Link : List ℕ → Run → Running → Type 0
Link left rest idle = NoDup left
Link left rest (runs (log-turns.turn s p a)) = NoDup left × (In s left → ⊥)
Link left (turn s p a) idle = ⊥
Link left (turn s p a) (runs (log-turns.turn x q b)) = NoDup left × (In s left → ⊥) × (x ≡ s) × (q ≡ p) × (b ≡ a)

-- where the monitor accepts what the calls return, the check accepts the entries
abbrev Goes : List Entry → List TurnEvent → Type 0
Goes es k = (left : List ℕ) (r : Run) (v : Running) → Link left r v → Acc left r k → watched left v es ≡ true

goes_over : (es : List Entry) (k : List TurnEvent) (x : ℕ) → Goes es k → Goes es (over x ∷ k)
goes_over es k x g left rest v l c = absurd c
goes_over es k x g left (turn s p a) idle l c = absurd l
goes_over es k x g left (turn s p a) (runs (log-turns.turn y q b)) l c =
    g left rest (runs (log-turns.turn y q b)) (l.0, λ i. l.1 (subst (λ (z : ℕ). In z left) l.2 i)) c.1

goes_drew : (es : List Entry) (k : List TurnEvent) (m : List ℕ) → Goes es k → Goes (log.mark m ∷ es) (drew m ∷ k)
unfolding watched
goes_drew es k m g [] rest v l c = g m rest idle c.0 c.1
goes_drew es k m g (x ∷ left) rest v l c = absurd c
goes_drew es k m g left (turn s p a) v l c = absurd c

-- a slot that is not on the list
without_none : (x : ℕ) (l : List ℕ) → (In x l → ⊥) → without x l ≡ l
without_none x [] n = refl
without_none x (y ∷ l) n = rw (ne_eqb x y (λ e. n (inl e)), without_none x l (λ i. n (inr i)))

front : (x : ℕ) (l : List ℕ) → (In x l → ⊥) → without x (x ∷ l) ≡ l
front x l n = rw (eq-eqb x x refl) (without_none x l n)

-- a turn begins
begin : (es : List Entry) (k : List TurnEvent) (x y : ℕ) (left : List ℕ) → Goes es k → x ≡ y → NoDup (y ∷ left) → Acc left (turn x 1 0) k
    → has x (y ∷ left) && watched (without x (y ∷ left)) (begun x) es ≡ true
begin es k x y left g e d c =
    subst (λ (z : ℕ). has x (z ∷ left) && watched (without x (z ∷ left)) (begun x) es ≡ true) e
    (let n : In x left → ⊥ = λ i. d.0 (subst (λ (z : ℕ). In z left) e i) in
    rw (front x left n, eq-eqb x x refl) (g left (turn x 1 0) (begun x) (d.1, n, refl, refl, refl) c))

goes_poll : (es : List Entry) (k : List TurnEvent) (x : ℕ) → Goes es k → Goes (log.poll x ∷ es) (poll x ∷ k)
unfolding watched
goes_poll es k x g [] rest v l c = absurd c
goes_poll es k x g (y ∷ left) rest idle l c = begin es k x y left g c.0 l c.1
goes_poll es k x g (y ∷ left) rest (runs (log-turns.turn s p a)) l c =
    rw (ne_eqb x s (λ e. l.1 (inl (sym e ∙ c.0)))) (begin es k x y left g c.0 l.0 c.1)
goes_poll es k x g left (turn s p a) idle l c = absurd l
goes_poll es k x g left (turn s p a) (runs (log-turns.turn y q b)) l c =
    rw (eq-eqb x y (c.0 ∙ sym l.2), lt-ltb q 5 (omega (arith, l.3, c.1)))
    (g left (turn s (suc p) a) (runs (log-turns.turn y (suc q) b)) (l.0, l.1, l.2, ap suc l.3, l.4) c.2)

goes_pollack : (es : List Entry) (k : List TurnEvent) (x : ℕ) → Goes es k → Goes (log.pollack x ∷ es) (ack x ∷ k)
unfolding watched
goes_pollack es k x g left rest v l c = absurd c
goes_pollack es k x g left (turn s p a) idle l c = absurd l
goes_pollack es k x g left (turn s p a) (runs (log-turns.turn y q b)) l c =
    rw (eq-eqb x y (c.0 ∙ sym l.2), lt-ltb b 4 (omega (arith, l.4, c.1)))
    (g left (turn s p (suc a)) (runs (log-turns.turn y q (suc b))) (l.0, l.1, l.2, l.3, ap suc l.4) c.2)

goes_ack : (es : List Entry) (k : List TurnEvent) (x y : ℕ) → Goes es k → Goes (log.ack x ∷ es) (ack x ∷ over y ∷ k)
unfolding watched
goes_ack es k x y g left rest v l c = absurd c
goes_ack es k x y g left (turn s p a) idle l c = absurd l
goes_ack es k x y g left (turn s p a) (runs (log-turns.turn z q b)) l c =
    rw (eq-eqb x z (c.0 ∙ sym l.2), lt-ltb b 4 (omega (arith, l.4, c.1))) (g left rest idle l.0 c.2.1)

goes_over_if : (es : List Entry) (k : List TurnEvent) (o : Option ℕ) → Goes es k → Goes es (over_if o ++ k)
goes_over_if es k None g = g
goes_over_if es k (Some x) g = goes_over es k x g

goes_burst : {b : List TurnEvent} {o : Option ℕ} {h : List Entry} (es : List Entry) (k : List TurnEvent) → Agree b o h → Goes es k → Goes (h ++ es) (b ++ (over_if o ++ k))
goes_burst {b} {o} es k Agree.neither g = goes_over_if es k o g
goes_burst es k (Agree.polls {x}) g = goes_poll es k x g
goes_burst es k (Agree.goes {x}) g = goes_pollack es k x g
goes_burst es k (Agree.ends {x} {y}) g = goes_ack es k x y g

-- ---- the words of a mark

-- each is a slot
abbrev Slots : List ℕ → Type 0
Slots l = (x : ℕ) → In x l → x < 62

below : (m n i x : ℕ) → In x (slots_of m n i) → x < i + n
unfolding slots_of
below m zero i x h = absurd h
below m (suc n) i x h = go (has_bit m i) h (λ u. below m n (suc i) x u)
  where
    go : (b : Bool) → In x (cond b (i ∷ slots_of m n (suc i)) (slots_of m n (suc i))) → (In x (slots_of m n (suc i)) → x < suc i + n) → x < i + suc n
    go true (inl e) ih = omega arith
    go true (inr u) ih = let z = ih u in omega arith
    go false u ih = let z = ih u in omega arith

slot_kind : (x : ℕ) → x < 64 → ((0x60000000 + x) / 268435456 ≡ 6) × ((0x60000000 + x) % 64 ≡ x) × ((0x60000000 + x) / 64 ≡ 25165824)
slot_kind x h = (omega arith, omega arith, omega arith)

slots_good : (l ws : List ℕ) → Slots l → Good ws → Good (slot_words l ++ ws)
unfolding slot_words
slots_good [] ws h g = g
slots_good (x ∷ l) ws h g =
    let b = h x (inl refl) in
    good_mark (0x60000000 + x) (slot_words l ++ ws) (slot_kind x (omega arith)).0 (slots_good l ws (λ y i. h y (inr i)) g)

slots_read : (l ws : List ℕ) → Slots l → slots_in (length l) (slot_words l ++ ws) ≡ l
unfolding slot_words slots_in
slots_read [] ws h = refl
slots_read (x ∷ l) ws h =
    let b = h x (inl refl) in
    rw ((slot_kind x (omega arith)).1, slots_read l ws (λ y i. h y (inr i)))

slots_pass : (l ws : List ℕ) → entries_from (length l) (slot_words l ++ ws) ≡ entries_from 0 ws
unfolding slot_words entries_from
slots_pass [] ws = refl
slots_pass (x ∷ l) ws = slots_pass l ws

slots_over : (l ws : List ℕ) → marks_from (length l) (slot_words l ++ ws) ≡ marks_from 0 ws
unfolding slot_words marks_from
slots_over [] ws = refl
slots_over (x ∷ l) ws = slots_over l ws

has_not : (x : ℕ) (l : List ℕ) → (In x l → ⊥) → has x l ≡ false
has_not x [] n = refl
has_not x (y ∷ l) n = rw (ne_eqb x y (λ e. n (inl e))) (has_not x l (λ i. n (inr i)))

slots_listed : (l bs ws : List ℕ) → Slots l → NoDup l → ((x : ℕ) → In x l → In x bs → ⊥) → list_ok bs (length l) (slot_words l ++ ws) ≡ true
unfolding slot_words list_ok
slots_listed [] bs ws h d n = refl
slots_listed (x ∷ l) bs ws h d n =
    let b = h x (inl refl) in
    let s = slot_kind x (omega arith) in
    rw (s.1, s.2, lt-ltb x 62 b, has_not x bs (n x (inl refl)))
    (slots_listed l (x ∷ bs) ws (λ y i. h y (inr i)) d.1 (apart d.0 n))
  where
    apart : (In x l → ⊥) → ((y : ℕ) → In y (x ∷ l) → In y bs → ⊥) → (y : ℕ) → In y l → In y (x ∷ bs) → ⊥
    apart f n y i (inl e) = f (subst (λ (z : ℕ). In z l) e i)
    apart f n y i (inr j) = n y (inr i) j

module _ (l ws : List ℕ) (h : Slots l) (short : length l < 64) where
  abbrev count : ℕ
  count = 0x60000000 + length l

  mark_good : Good ws → Good (mark_words l ++ ws)
  mark_good g = good_mark count (slot_words l ++ ws) (slot_kind (length l) short).0 (slots_good l ws h g)

  mark_marks : NoDup l → marks_from 0 (mark_words l ++ ws) ≡ marks_from 0 ws
  unfolding marks_from
  mark_marks d =
      let s = slot_kind (length l) short in
      rw (s.0, s.2, s.1, slots_listed l [] ws h d (λ x i j. j)) (slots_over l ws)

  mark_read : entries_from 0 (mark_words l ++ ws) ≡ log.mark l ∷ entries_from 0 ws
  unfolding entries_from
  mark_read =
      let s = slot_kind (length l) short in
      rw (s.0, s.1, slots_read l ws h, slots_pass l ws)

-- ---- one call

-- a log that goes on as the trace k does
record Sound (ws : List ℕ) (k : List TurnEvent) : Type 0 where
  good : Good ws
  marks : marks_from 0 ws ≡ true
  goes : Goes (entries_from 0 ws) k

sound_burst : {ws : List ℕ} {o : Option ℕ} (v : List ℕ) (k : List TurnEvent) → Logged ws o → Sound v k → Sound (sent_in ws ++ v) ((bursts_in ws ++ over_if o) ++ k)
sound_burst {ws} {o} v k s f =
    let b = s.ok in
    let e : sent_in ws ≡ s.burst = ap sent_in s.words ∙ sent_append s.events s.burst ∙ ap (λ (l : List ℕ). l ++ sent_in s.burst) s.mute.1 ∙ b.sent in
    let t : bursts_in ws ≡ bursts_in s.burst = ap bursts_in s.words ∙ quiet_first s.events s.burst s.mute.0 in
    subst (λ (l : List ℕ). Sound (l ++ v) ((bursts_in ws ++ over_if o) ++ k)) (sym e)
    (subst (λ (l : List TurnEvent). Sound (s.burst ++ v) ((l ++ over_if o) ++ k)) (sym t)
    (record {
      good = b.good v f.good;
      marks = b.marks v ∙ f.marks;
      goes = subst (λ (es : List Entry). Goes es ((bursts_in s.burst ++ over_if o) ++ k)) (sym (b.read v))
          (subst (λ (l : List TurnEvent). Goes (b.entries ++ entries_from 0 v) l) (sym (append_assoc (bursts_in s.burst) (over_if o) k)) (goes_burst (entries_from 0 v) k b.agree f.goes));
    }))

-- the mark of a list that is drawn up
abbrev mark_if : Option ℕ → List ℕ
mark_if None = []
mark_if (Some list) = mark_words (slots_of list 62 0)

sound_mark : (o : Option ℕ) (v : List ℕ) (k : List TurnEvent) → Sound v k → Sound (mark_if o ++ v) (drew_if o ++ k)
sound_mark None v k f = f
sound_mark (Some m) v k f =
    let l = slots_of m 62 0 in
    let h : Slots l = λ x i. below m 62 0 x i in
    let short : length l < 64 = omega (arith, slots_length m 62 0) in
    record {
      good = mark_good l v h short f.good;
      marks = mark_marks l v h short (list_once m) ∙ f.marks;
      goes = subst (λ (es : List Entry). Goes es (drew l ∷ k)) (sym (mark_read l v h short)) (goes_drew (entries_from 0 v) k l f.goes);
    }

sound_before : (o : Option ℕ) (v : List ℕ) (k : List TurnEvent) → Sound v k → Sound v (over_if o ++ k)
sound_before o v k f = record { good = f.good; marks = f.marks; goes = goes_over_if (entries_from 0 v) k o f.goes }

marks_over : (o : Option ℕ) (es : List TurnEvent) → marks_in (over_if o ++ es) ≡ marks_in es
marks_over None es = refl
marks_over (Some x) es = refl

marks_drew : (o : Option ℕ) → marks_in (drew_if o) ≡ mark_if o
marks_drew None = refl
marks_drew (Some m) = append-nil (mark_words (slots_of m 62 0))

sound_by : (b : Bool) (r d o : Option ℕ) (ws v : List ℕ) (k : List TurnEvent) → Logged ws o → Sound v k
    → Sound (cond b [] (mark_if d ++ sent_in ws) ++ v) (cond b [] ((over_if r ++ drew_if d) ++ (bursts_in ws ++ over_if o)) ++ k)
sound_by true r d o ws v k s f = f
sound_by false r d o ws v k s f =
    rw (append_assoc (mark_if d) (sent_in ws) v, append_assoc (over_if r ++ drew_if d) (bursts_in ws ++ over_if o) k, append_assoc (over_if r) (drew_if d) ((bursts_in ws ++ over_if o) ++ k))
    (sound_before r (mark_if d ++ (sent_in ws ++ v)) (drew_if d ++ ((bursts_in ws ++ over_if o) ++ k))
    (sound_mark d (sent_in ws ++ v) ((bursts_in ws ++ over_if o) ++ k) (sound_burst v k s f)))

sound_call : (c : Call) (n : Net) (v : List ℕ) (k : List TurnEvent) → ((slot : ℕ) → c ≡ signing slot → ⊥) → Logged (outcome c n).words (behind_of c n)
    → Sound v k → Sound (log_of c n ++ v) (turn_events c n ++ k)
unfolding log_of turn_events
sound_call c n v k z s f =
    let e = events_are c n z in
    let ws = (outcome c n).words in
    let m : marks_in (result c n).before ≡ mark_if (drew_of c n) = ap marks_in e.0 ∙ marks_over (over_of c n) (drew_if (drew_of c n)) ∙ marks_drew (drew_of c n) in
    subst (λ (l : List ℕ). Sound (cond (is_refused c n) [] (l ++ sent_in ws) ++ v) (cond (is_refused c n) [] ((result c n).before ++ (bursts_in ws ++ (result c n).behind)) ++ k)) (sym m)
    (subst (λ (l : List TurnEvent). Sound (cond (is_refused c n) [] (mark_if (drew_of c n) ++ sent_in ws) ++ v) (cond (is_refused c n) [] (l ++ (bursts_in ws ++ (result c n).behind)) ++ k)) (sym e.0)
    (subst (λ (l : List TurnEvent). Sound (cond (is_refused c n) [] (mark_if (drew_of c n) ++ sent_in ws) ++ v) (cond (is_refused c n) [] ((over_if (over_of c n) ++ drew_if (drew_of c n)) ++ (bursts_in ws ++ l)) ++ k)) (sym e.1)
    (sound_by (is_refused c n) (over_of c n) (drew_of c n) (behind_of c n) ws v k s f)))

-- ---- every list of calls

sound_none : Sound [] []
unfolding marks_from entries_from watched
sound_none = record { good = good_none; marks = refl; goes = λ left r v l c. refl }

sound : (cs : List Call) (n : Net) → NoSignOff cs → Sendable n.station.settings → ((ds : List Call) → LinksHold (after ds n).station) → Sound (log_from cs n) (trace cs n)
unfolding log_from trace after step
sound [] n z o l = sound_none
sound (c ∷ cs) n z o l =
    let e = settings_stay (step_walk all tt tt tt c n (λ words snr now lent room numbers q. tt)) in
    sound_call c n (log_from cs (step c n)) (trace cs (step c n)) z.0 (reports c n z.0 o (l (c ∷ [])))
    (sound cs (step c n) z.1 (subst Sendable (sym e) o) (λ ds. l (c ∷ ds)))

new_settings : (g : Settings) (count : ℕ) → (new_station g count).settings ≡ g
unfolding new_station
new_settings g count = refl

-- our own logs are accepted
pub own_logs : OwnLogs
unfolding verdict_of
own_logs s g store z name window cs unsigned =
    let n = started s g store in
    let e : n.station.settings ≡ settings_of g = ap (λ (t : Station). t.settings) (start_is s g store z) ∙ new_settings (settings_of g) (cell_count (length store / 6400)) in
    let f = sound cs n unsigned (subst Sendable (sym e) (record { name = name; window = window })) (links s g store z) in
    let a : accepted (entries_from 0 (log_from cs n)) ≡ true = sym (exact (entries_from 0 (log_from cs n))) ∙ f.goes [] rest idle tt (followed s g store z cs) in
    rw (f.good 0 (omega arith), f.marks, a)
