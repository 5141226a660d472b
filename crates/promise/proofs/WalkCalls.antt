-- Every call is a chain of single changes, so what each of them keeps holds after any calls from a start. Assumes nothing.
use mathlib.Core.Path.{◌≡◌, refl, sym, subst}
use mathlib.Core.Logic.{inl, inr}
use Prim.Native.Nat.{ℕ, ◌/◌}
use native.Mathlib.Omega.{arith}
use mathlib.Core.Bool.{Bool, true, false, cond}
use mathlib.Core.List.{List, [], ◌∷◌}
use lib.Dec.{eqb, ltb}
use lib.Ieee.{Float}
use lib.ListN.{length}
use borrow.Author.Tests.{eqb-true}
use Rattle.bits.proofs.Lists.{cond_keeps}
use Rattle.level.specs.Spans.{up_to}
use Rattle.wire.specs.Call.{unpack_call}
use Rattle.words.specs.Words.{Burst, Parsed, malformed, parsed, parse}
use Rattle.stream.specs.Table.{cell_count}
use Rattle.net.specs.declared.Station.{Station}
use Rattle.net.specs.declared.Turn.{Turn}
use Rattle.net.specs.declared.Turn.TheVariants.{Idle, Sending, Waiting}
use Rattle.net.specs.Net.{is_member, done_by, new_station, on_tx_done}
use Rattle.net.proofs.Laws.{index_lt}
use Rattle.admit.specs.Admission.{seat_of, slot_of, is_full, leads_to, via_for}
use Rattle.config.specs.declared.Given.{Given}
use Rattle.config.specs.Checks.{settings_of}
use Rattle.station.specs.Entries.{Outcome, done, refused, unless, check1, check_relay, start_refusal, start_of, admit_refusal, admit_of, receive_by, receive_refusal, receive_of, next_refusal, next_of, sent_of, close_refusal, close_of, read_refusal, cell_refusal, free_of, post_refusal, post_of}
use Rattle.station.specs.SignOff.{sign_off_refusal, sign_off_of}
use Rattle.station.specs.Worst.{worst_of, refusal_in}
use Rattle.dues.specs.Dues.{dues_refusal}
use Rattle.promise.specs.Promise.{Lent, lent_to, Net, Call, admission, reception, decision, sending, closing, reading, freeing, charging, signing, asking, result, step, after, started, posting}
use Rattle.promise.proofs.Walk.{Allowed, RelayOk, Turned, still, ends, Change, freed, signs_off, Chain, start, more, chain_then, chain_keeps, posted}
use Rattle.promise.proofs.Signs.{sign_member}
use Rattle.promise.proofs.WalkNext.{index_member, calm, turn}
use Rattle.promise.proofs.WalkRx.{admit_walk}
use Rattle.promise.proofs.Spoken.{next_walk, rx_walk}
use Rattle.net.specs.State.{index_of, queue_at}
use Rattle.queue.specs.declared.Queue.{Queue}
use Rattle.queue.specs.Queues.{space_refusal}

-- ---- the relay of a direct admission that is not refused: none, or a member

relay_by_lem : (used relay rest : ℕ) (none above member : Bool) → eqb relay 63 ≡ none → is_member used relay ≡ member
    → cond none rest (cond above 8 (cond member rest 21)) ≡ 0 → RelayOk used relay
relay_by_lem used relay rest true above member n m e = inl (eqb-true relay 63 n)
relay_by_lem used relay rest false above true n m e = inr m
relay_by_lem used relay rest false true false n m e = absurd (omega arith)
relay_by_lem used relay rest false false false n m e = absurd (omega arith)

clock_by : (b : Bool) (rest : ℕ) → cond b rest 1 ≡ 0 → rest ≡ 0
clock_by true rest e = e
clock_by false rest e = cc

room_by : (b : Bool) (rest : ℕ) → cond b 4 rest ≡ 0 → rest ≡ 0
room_by true rest e = cc
room_by false rest e = e

relay_ok : (room : ℕ) (now : Float) (used relay : ℕ) (full : Bool) → admit_refusal room now used relay full ≡ 0 → RelayOk used relay
unfolding admit_refusal
relay_ok room now used relay full e =
    relay_by_lem used relay (cond full 23 0) (eqb relay 63) (ltb 61 relay) (is_member used relay) refl refl
    (clock_by (up_to 1000000000 now) (check_relay used relay (cond full 23 0)) (room_by (ltb room 8192) (check1 now (check_relay used relay (cond full 23 0))) e))

-- ---- a posting that is not refused is to a member, and fits

post_by : (used slot rest : ℕ) (short above member : Bool) → is_member used slot ≡ member → cond short 7 (cond above 8 (cond member rest 21)) ≡ 0
    → (is_member used slot ≡ true) × (rest ≡ 0)
post_by used slot rest true above member m e = absurd (omega arith)
post_by used slot rest false true member m e = absurd (omega arith)
post_by used slot rest false false true m e = (m, e)
post_by used slot rest false false false m e = absurd (omega arith)

pub post_member : (size used slot : ℕ) (q : Queue) (n : ℕ) → post_refusal size used slot q n ≡ 0 → (is_member used slot ≡ true) × (space_refusal q n ≡ 0)
unfolding post_refusal
post_member size used slot q n e = post_by used slot (space_refusal q n) (ltb size 126976) (ltb 61 slot) (is_member used slot) refl e

-- ---- each call

-- the level that a reception hands in
abbrev pub LevelIn : (Float → Type 0) → Call → Type 0
LevelIn Ok c =
    (words : List ℕ) (snr now : Float) (lent : Lent) (room : ℕ) (numbers : List ℕ) → c ≡ reception words snr now lent room numbers → Ok snr

abbrev pub LevelsIn : (Float → Type 0) → List Call → Type 0
LevelsIn Ok [] = Unit {0}
LevelsIn Ok (c ∷ cs) = LevelIn Ok c × LevelsIn Ok cs

-- the end of a sending: what was only sent is over, and the reply to a poll is waited for
sent_turn : (s : Station) (y : Turn) (t : Float) → s.wait.turn ≡ y → Turned s (done_by y s t).turn s.round.list
sent_turn s Idle t e = still
sent_turn s Sending t e = ends
sent_turn s (Waiting r) t e = subst (λ (z : Turn). Turned s z s.round.list) e still

module _ (A : Allowed) where
  abbrev To : Station → Outcome → Type 0
  To s o = Chain A s o.station

  -- a refused call gives the station back
  pub unless_walk : (n : ℕ) (s : Station) (store : List ℕ) (o : Outcome) → (n ≡ 0 → To s o) → To s (unless n s store o)
  unless_walk n s store o h = cond_keeps (To s) (eqb n 0) o (refused n s store) (λ e. h (eqb-true n 0 e)) (λ _. start)

  pub admission_walk : (s : Station) (packed : List ℕ) (relay : ℕ) (now : Float) (room : ℕ) → To s (admit_of s packed relay now room)
  unfolding admit_of
  admission_walk s packed relay now room =
      let call = unpack_call packed in
      let full = is_full (seat_of s call) in
      unless_walk (admit_refusal room now s.used relay full) s [] _
      (λ e. admit_walk A s call (via_for s (seat_of s call) relay) now
      (cond_keeps (RelayOk s.used) (leads_to 62 s relay (slot_of (seat_of s call))) 63 relay (λ _. inl refl) (λ _. relay_ok room now s.used relay full e)))

  receive_by_lem : A.turns → A.cells → (p : Parsed Burst) (s : Station) (snr now : Float) (store : List ℕ) → A.level snr → To s (receive_by p s snr now store)
  receive_by_lem turns cells malformed s snr now store ok = start
  receive_by_lem turns cells (parsed b) s snr now store ok = rx_walk A turns cells s b snr now store ok

  reception_walk : A.turns → A.cells → (s : Station) (words : List ℕ) (snr now : Float) (store : List ℕ) (room : ℕ) → A.level snr → To s (receive_of s words snr now store room)
  unfolding receive_of
  reception_walk turns cells s words snr now store room ok =
      unless_walk (receive_refusal room (length store) s.count now snr (parse words)) s store _ (λ _. receive_by_lem turns cells (parse words) s snr now store ok)

  pub decision_walk : A.turns → (s : Station) (now : Float) (queue : List ℕ) (room : ℕ) → To s (next_of s now queue room)
  unfolding next_of
  decision_walk turns s now queue room = unless_walk (next_refusal now (length queue) room) s [] _ (λ _. next_walk A turns s now queue)

  pub posting_walk : A.host → (s : Station) (slot : ℕ) (message queue : List ℕ) → To s (post_of s slot message queue)
  unfolding post_of
  posting_walk host s slot message queue =
      unless_walk (post_refusal (length queue) s.used slot (queue_at s slot) (length message)) s queue _
      (λ e. let p = post_member (length queue) s.used slot (queue_at s slot) (length message) e in more start (posted host (index_of slot) (length message) (index_lt slot) (index_member s.used slot p.0) p.1))

  pub sending_walk : A.turns → (s : Station) (now : Float) → To s (sent_of s now)
  unfolding sent_of on_tx_done
  sending_walk turns s now = unless_walk (check1 now 0) s [] (done (on_tx_done s now) [] [])
      (λ _. turn A s s _ _ _ turns (sent_turn s s.wait.turn now refl) refl refl refl start)

  pub closing_walk : (s : Station) (count : ℕ) → To s (close_of s count)
  unfolding close_of
  closing_walk s count = unless_walk (close_refusal count) s [] _ (λ _. calm A s s _ _ refl refl refl refl start)

  freeing_walk : A.cells → (s : Station) (cell : ℕ) → To s (free_of s cell)
  unfolding free_of
  freeing_walk cells s cell = unless_walk (cell_refusal s.count s.landed cell) s [] _ (λ _. more start (freed cells cell))

  signing_walk : A.turns → A.cells → A.host → (s : Station) (slot : ℕ) → To s (sign_off_of s slot)
  unfolding sign_off_of
  signing_walk turns cells host s slot =
      unless_walk (sign_off_refusal s.used slot) s [] _ (λ e. more start (signs_off turns cells host slot (sign_member s.used slot e)))

  pub step_walk : A.turns → A.cells → A.host → (c : Call) (n : Net) → LevelIn A.level c → Chain A n.station (step c n).station
  unfolding step result
  step_walk turns cells host (admission packed relay now room) n ok = admission_walk n.station packed relay now room
  step_walk turns cells host (reception words snr now lent room numbers) n ok = reception_walk turns cells n.station words snr now (lent_to lent n.store) room (ok words snr now lent room numbers refl)
  step_walk turns cells host (decision now queue room) n ok = decision_walk turns n.station now queue room
  step_walk turns cells host (posting slot message queue) n ok = posting_walk host n.station slot message queue
  step_walk turns cells host (sending now) n ok = sending_walk turns n.station now
  step_walk turns cells host (closing count) n ok = closing_walk n.station count
  step_walk turns cells host (reading cell lent) n ok =
      unless_walk (read_refusal (length (lent_to lent n.store)) n.station.count n.station.landed cell) n.station n.store _ (λ _. start)
  step_walk turns cells host (freeing cell) n ok = freeing_walk cells n.station cell
  step_walk turns cells host (charging figures) n ok = unless_walk (dues_refusal figures) n.station n.store _ (λ _. start)
  step_walk turns cells host (signing slot) n ok = signing_walk turns cells host n.station slot
  step_walk turns cells host (asking slot) n ok = unless_walk (refusal_in (worst_of n.station slot)) n.station n.store _ (λ _. start)

  -- THE WALK: any calls are a chain of single changes
  pub after_walk : A.turns → A.cells → A.host → (cs : List Call) (n : Net) → LevelsIn A.level cs → Chain A n.station (after cs n).station
  unfolding after
  after_walk turns cells host [] n ok = start
  after_walk turns cells host (c ∷ cs) n ok = chain_then (step_walk turns cells host c n ok.0) (after_walk turns cells host cs (step c n) ok.1)

-- ---- from a start

pub started_is : (s : Station) (g : Given) (store : List ℕ) → start_refusal g (length store) ≡ 0
    → (started s g store).station ≡ new_station (settings_of g) (cell_count (length store / 6400))
unfolding start_of
started_is s g store e = rw e

-- every change is allowed, by levels of a kind
abbrev pub levels : (Float → Type 0) → Allowed
levels Ok = record { level = Ok; turns = Unit {0}; cells = Unit {0}; host = Unit {0} }

-- what a new station has and each change keeps holds after any calls, where the levels handed in are such
pub always_level : (Ok : Float → Type 0) (P : Station → Type 0) → ((x y : Station) → Change (levels Ok) x y → P x → P y) → (s : Station) (g : Given) (store : List ℕ)
    → start_refusal g (length store) ≡ 0 → P (new_station (settings_of g) (cell_count (length store / 6400)))
    → (cs : List Call) → LevelsIn Ok cs → P (after cs (started s g store)).station
always_level Ok P f s g store e p cs ok =
    chain_keeps P f (after_walk (levels Ok) tt tt tt cs (started s g store) ok) (subst P (sym (started_is s g store e)) p)

-- by any level
abbrev AnyLevel : Float → Type 0
AnyLevel x = Unit {0}

abbrev pub all : Allowed
all = levels AnyLevel

levels_in : (cs : List Call) → LevelsIn AnyLevel cs
levels_in [] = tt
levels_in (c ∷ cs) = ((λ words snr now lent room numbers e. tt), levels_in cs)

pub always : (P : Station → Type 0) → ((x y : Station) → Change all x y → P x → P y) → (s : Station) (g : Given) (store : List ℕ)
    → start_refusal g (length store) ≡ 0 → P (new_station (settings_of g) (cell_count (length store / 6400)))
    → (cs : List Call) → P (after cs (started s g store)).station
always P f s g store e p cs = always_level AnyLevel P f s g store e p cs (levels_in cs)
