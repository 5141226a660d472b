-- Item 3 of document 01, lists and turns: every call is accepted by the monitor, so the promise holds of every list of calls. Assumes nothing.
use Rattle.std.specs.Prelude.{None}
use mathlib.Core.Path.{◌≡◌, refl, sym, ap, ◌∙◌, subst}
use Prim.Native.Nat.{ℕ, ◌/◌, ◌+◌}
use mathlib.Core.Bool.{Bool, true, false, cond}
use mathlib.Core.List.{List, [], ◌∷◌, ◌++◌, append_assoc, append-nil}
use lib.Dec.{eqb}
use lib.Ieee.{Float}
use lib.ListN.{length}
use Rattle.bits.specs.Mask.{without_bit}
use Rattle.bits.proofs.Lists.{same_test, cond_keeps}
use Rattle.wire.specs.Call.{unpack_call}
use Rattle.words.specs.Words.{Burst, Parsed, malformed, parsed, parse}
use Rattle.config.specs.declared.Given.{Given}
use Rattle.config.specs.Checks.{settings_of}
use Rattle.stream.specs.Table.{freed_table, cell_count}
use Rattle.net.specs.declared.Station.{Station}
use Rattle.net.specs.declared.Settings.{Settings}
use Rattle.net.specs.declared.Turn.{Turn}
use Rattle.net.specs.declared.Turn.TheVariants.{Idle, Sending, Waiting}
use Rattle.net.specs.declared.Wait.{Wait}
use Rattle.net.specs.declared.Round.{Round}
use Rattle.net.specs.State.{with_round, with_closing, with_table, table_of, queue_at, with_queue}
use Rattle.net.specs.Net.{new_station, idle_wait, wait_of, done_by, on_tx_done}
use Rattle.admit.specs.Admission.{seat_of, is_full, via_for}
use Rattle.next.specs.Next.{ncs_next}
use Rattle.rx.specs.Reception.{ncs_rx}
use Rattle.station.specs.Entries.{Outcome, refused, done, unless, start_refusal, start_of, admitted, admit_of, receive_by, receive_refusal, receive_of, next_of, sent_of, close_of, free_of, read_refusal, check1, admit_refusal, next_refusal, close_refusal, cell_refusal, post_refusal, post_of}
use Rattle.signoff.specs.SignOff.{no_source, strike_by, sign_off}
use Rattle.station.specs.SignOff.{sign_off_refusal, sign_off_of}
use Rattle.station.specs.Worst.{worst_of, refusal_in}
use Rattle.dues.specs.Dues.{dues_refusal}
use Rattle.promise.specs.Promise.{lent_to, Net, of_burst, Call, admission, reception, decision, sending, closing, reading, freeing, charging, signing, result, outcome, step, after, started, TurnEvent, struck, over_if, drew_if, bursts_in, turn_events, trace, empty_view, TurnsHold, asking, posting}
use Rattle.promise.specs.Waits.{awaited, TurnsMatch}
use Rattle.promise.proofs.Monitor.{Run, rest, turn, run_without, Acc, slots, accepted, ends_in}
use Rattle.promise.proofs.TurnsWords.{Quiet, quiet_none}
use Rattle.promise.proofs.TurnsLists.{slots_in, Low, low_none, low_without, list_none, list_struck}
use Rattle.promise.proofs.Signs.{sign_beside}
use Rattle.promise.proofs.TurnsKeeps.{admit_calm}
use Rattle.promise.proofs.Spoken.{next_spoken, rx_spoken}
use Rattle.promise.proofs.WalkCalls.{all}
use Rattle.promise.proofs.TurnsSpoken.{Rel, Fine, fine_none, spoken_fine}
use Rattle.queue.specs.Queues.{posted_to}

-- ### Refused or not

-- the events of a call that left o, with what stands before its burst and after it
abbrev said : Outcome → List TurnEvent → List TurnEvent → List TurnEvent
said o xs ys = cond (cond (eqb o.refusal 0) false true) [] (xs ++ (bursts_in o.words ++ ys))

fine_unless : (left : List ℕ) (r : Run) (n : ℕ) (s : Station) (store : List ℕ) (o : Outcome) (xs ys : List TurnEvent)
    → Fine left r o.station (said o xs ys) → Fine left r s [] → Fine left r (unless n s store o).station (said (unless n s store o) xs ys)
fine_unless left r n s store o xs ys f g = go (eqb n 0) refl
  where
    go : (b : Bool) → eqb n 0 ≡ b → Fine left r (cond b o (refused n s store)).station (said (cond b o (refused n s store)) xs ys)
    go true q = f
    go false q = subst (λ (b : Bool). Fine left r s (cond (cond b false true) [] (xs ++ (bursts_in [] ++ ys)))) (sym q) g

-- a call that returns no burst
fine_quiet : (left : List ℕ) (r : Run) (n : ℕ) (s t : Station) (store old ws : List ℕ) → Quiet ws → Fine left r t [] → Fine left r s []
    → Fine left r (unless n s store (done t old ws)).station (said (unless n s store (done t old ws)) [] [])
fine_quiet left r n s t store old ws q f g =
    fine_unless left r n s store (done t old ws) [] [] (subst (λ (es : List TurnEvent). Fine left r t (es ++ [])) (sym q) f) g

-- ### Each call

done_turn : (y : Turn) (s : Station) (t : Float) (r : Run) → s.wait.turn ≡ y → Rel r y → Rel r (done_by y s t).turn
done_turn Idle s t r q e = subst (Rel r) (sym q) e
done_turn Sending s t rest q e = tt
done_turn Sending s t (turn x p a) q e = absurd e
done_turn (Waiting p) s t r q e = e

-- a sign-off ends the slot's turn, and any other goes on
strike_turn : (y : Turn) (v : Wait) (slot : ℕ) (r : Run) → v.turn ≡ y → Rel r y → Rel (run_without slot r) (strike_by y slot v).turn
strike_turn Idle v slot rest q e = subst (Rel rest) (sym q) e
strike_turn Idle v slot (turn x p a) q e = absurd e
strike_turn Sending v slot rest q e = subst (Rel rest) (sym q) e
strike_turn Sending v slot (turn x p a) q e = absurd e
strike_turn (Waiting p) v slot rest q e = absurd e
strike_turn (Waiting p) v slot (turn x n a) q e = rw (same_test slot x p.slot slot (λ d. e.0 ∙ sym d) (λ d. sym d ∙ e.0)) (go (eqb p.slot slot))
  where
    go : (b : Bool) → Rel (cond b rest (turn x n a)) (cond b idle_wait (cond (eqb p.relayfor slot) (wait_of (Waiting (no_source p)) v.deadline) v)).turn
    go true = tt
    go false = cond_keeps (λ (w : Wait). Rel (turn x n a) w.turn) (eqb p.relayfor slot) (wait_of (Waiting (no_source p)) v.deadline) v (λ _. e) (λ _. subst (Rel (turn x n a)) (sym q) e)

module _ (r : Run) (n : Net) (e : Rel r n.station.wait.turn) (l : Low n.station.round.list) where
  abbrev s : Station
  s = n.station

  abbrev left : List ℕ
  left = slots_in n.station.round.list

  same : Fine left r s []
  same = fine_none r s e l

  fine_admit : (packed : List ℕ) (relay : ℕ) (now : Float) (room : ℕ)
      → Fine left r (admit_of s packed relay now room).station (said (admit_of s packed relay now room) [] [])
  unfolding admit_of
  fine_admit packed relay now room =
      let call = unpack_call packed in
      let seat = seat_of s call in
      let c = admit_calm seat s call (via_for s seat relay) now in
      let t = (admitted s call relay now).station in
      fine_quiet left r (admit_refusal room now s.used relay (is_full seat)) s t [] [] (admitted s call relay now).words c.quiet.0
      (subst (λ (m : ℕ). Fine (slots_in m) r t []) c.list (fine_none r t (subst (λ y. Rel r y.turn) (sym c.wait) e) (subst Low (sym c.list) l))) same

  receive_by_lem : (b : Parsed Burst) (n : ℕ) (snr now : Float) (store : List ℕ)
      → Fine left r (unless n s store (receive_by b s snr now store)).station (said (unless n s store (receive_by b s snr now store)) [] (over_if (of_burst b None (λ b. (ncs_rx s b snr now store).over))))
  receive_by_lem malformed n snr now store = fine_unless left r n s store (refused 3 s store) [] [] same same
  receive_by_lem (parsed b) n snr now store =
      fine_unless left r n s store (receive_by (parsed b) s snr now store) [] (over_if (ncs_rx s b snr now store).over)
      (spoken_fine (rx_spoken all tt now [] tt s b snr store tt) r e l) same

  fine_receive : (words : List ℕ) (snr now : Float) (store : List ℕ) (room : ℕ)
      → Fine left r (receive_of s words snr now store room).station (said (receive_of s words snr now store room) [] (over_if (of_burst (parse words) None (λ b. (ncs_rx s b snr now store).over))))
  unfolding receive_of
  fine_receive words snr now store room = receive_by_lem (parse words) (receive_refusal room (length store) s.count now snr (parse words)) snr now store

  fine_decide : (now : Float) (queue : List ℕ) (room : ℕ)
      → Fine left r (next_of s now queue room).station (said (next_of s now queue room) (over_if (ncs_next s now queue).over ++ drew_if (ncs_next s now queue).drew) [])
  unfolding next_of
  fine_decide now queue room =
      let d = ncs_next s now queue in
      fine_unless left r (next_refusal now (length queue) room) s [] (done d.station [] d.words) (over_if d.over ++ drew_if d.drew) []
      (subst (λ (es : List TurnEvent). Fine left r d.station es) (sym (append_assoc (over_if d.over) (drew_if d.drew) (bursts_in d.words ++ [])))
      (spoken_fine (next_spoken all tt now queue s) r e l)) same

  fine_posting : (slot : ℕ) (message queue : List ℕ) → Fine left r (post_of s slot message queue).station (said (post_of s slot message queue) [] [])
  unfolding post_of
  fine_posting slot message queue =
      let t = with_queue s slot (posted_to (queue_at s slot) (length message + 2)) in
      fine_quiet left r (post_refusal (length queue) s.used slot (queue_at s slot) (length message)) s t queue _ [] quiet_none (fine_none r t e l) same

  fine_sending : (now : Float) → Fine left r (sent_of s now).station (said (sent_of s now) [] [])
  unfolding sent_of on_tx_done
  fine_sending now =
      fine_quiet left r (check1 now 0) s (on_tx_done s now) [] [] [] quiet_none
      (fine_none r (on_tx_done s now) (done_turn s.wait.turn s now r refl e) l) same

  fine_closing : (count : ℕ) → Fine left r (close_of s count).station (said (close_of s count) [] [])
  unfolding close_of
  fine_closing count =
      let t = with_round s (with_closing s.round true count) in
      fine_quiet left r (close_refusal count) s t [] [] [] quiet_none (fine_none r t e l) same

  -- a reading, and dues: the station and the store stay
  fine_reading : (n : ℕ) (store : List ℕ) → Fine left r (unless n s store (done s store [])).station (said (unless n s store (done s store [])) [] [])
  fine_reading n store = fine_quiet left r n s s store store [] quiet_none same same

  fine_freeing : (cell : ℕ) → Fine left r (free_of s cell).station (said (free_of s cell) [] [])
  unfolding free_of
  fine_freeing cell =
      let t = with_table s (freed_table (table_of s) cell) in
      fine_quiet left r (cell_refusal s.count s.landed cell) s t [] [] [] quiet_none (fine_none r t e l) same

  fine_sign : (slot : ℕ) → Fine left r (sign_off_of s slot).station (said (sign_off_of s slot) (struck slot ∷ []) [])
  unfolding sign_off_of bursts_in
  fine_sign slot =
      let t = sign_off s slot in
      let b = sign_beside s slot in
      let i : t.round.list ≡ without_bit s.round.list slot = ap (λ (y : Round). y.list) b.round in
      fine_unless left r (sign_off_refusal s.used slot) s [] (done t [] []) (struck slot ∷ []) []
      (record {
        run = run_without slot r;
        rel = subst (λ (y : Wait). Rel (run_without slot r) y.turn) (sym b.wait) (strike_turn s.wait.turn s.wait slot r refl e);
        low = subst Low (sym i) (low_without s.round.list l slot);
        keeps = λ k h. subst (λ (m : List ℕ). Acc m (run_without slot r) k) (ap slots_in i ∙ list_struck s.round.list slot) h;
      }) same

  fine_call : (c : Call) → Fine left r (outcome c n).station (turn_events c n)
  unfolding result turn_events
  fine_call (admission packed relay now room) = fine_admit packed relay now room
  fine_call (reception words snr now lent room numbers) = fine_receive words snr now (lent_to lent n.store) room
  fine_call (decision now queue room) = fine_decide now queue room
  fine_call (posting slot message queue) = fine_posting slot message queue
  fine_call (sending now) = fine_sending now
  fine_call (closing count) = fine_closing count
  fine_call (reading cell lent) = fine_reading (read_refusal (length (lent_to lent n.store)) s.count s.landed cell) n.store
  fine_call (freeing cell) = fine_freeing cell
  fine_call (charging figures) = fine_reading (dues_refusal figures) n.store
  fine_call (signing slot) = fine_sign slot
  fine_call (asking slot) = fine_reading (refusal_in (worst_of s slot)) n.store

-- ### Every list of calls

fine_then : {left : List ℕ} {r : Run} {s t : Station} {es ds : List TurnEvent} (f : Fine left r s es) → Fine (slots_in s.round.list) f.run t ds → Fine left r t (es ++ ds)
fine_then {left} {r} {s} {t} {es} {ds} f g =
    record { run = g.run; rel = g.rel; low = g.low; keeps = λ k h. subst (Acc left r) (sym (append_assoc es ds k)) (f.keeps (ds ++ k) (g.keeps k h)) }

calls : (cs : List Call) (n : Net) (r : Run) → Rel r n.station.wait.turn → Low n.station.round.list → Fine (slots_in n.station.round.list) r (after cs n).station (trace cs n)
unfolding trace step after
calls [] n r e l = fine_none r n.station e l
calls (c ∷ cs) n r e l =
    let f = fine_call r n e l c in
    fine_then f (calls cs (step c n) f.run f.rel f.low)

-- ### A start

pub start_is : (s : Station) (g : Given) (store : List ℕ) → start_refusal g (length store) ≡ 0
    → (start_of s g store).station ≡ new_station (settings_of g) (cell_count (length store / 6400))
unfolding start_of
start_is s g store z = ap (λ (n : ℕ). (unless n s store (done (new_station (settings_of g) (cell_count (length store / 6400))) store [])).station) z

new_turn : (g : Settings) (count : ℕ) → Rel rest (new_station g count).wait.turn
unfolding new_station
new_turn g count = tt

new_list : (g : Settings) (count : ℕ) → (new_station g count).round.list ≡ 0
unfolding new_station
new_list g count = refl

-- from a start that is not refused on, over every list of calls, the monitor follows the station
follows : (s : Station) (g : Given) (store : List ℕ) → start_refusal g (length store) ≡ 0 → (cs : List Call)
    → Fine [] rest (after cs (started s g store)).station (trace cs (started s g store))
follows s g store z cs =
    let n = started s g store in
    let e = start_is s g store z in
    let i : n.station.round.list ≡ 0 = ap (λ (t : Station). t.round.list) e ∙ new_list (settings_of g) (cell_count (length store / 6400)) in
    subst (λ (l : List ℕ). Fine l rest (after cs n).station (trace cs n)) (list_none n.station.round.list i)
    (calls cs n rest (subst (λ (t : Station). Rel rest t.wait.turn) (sym e) (new_turn (settings_of g) (cell_count (length store / 6400)))) (subst Low (sym i) low_none))

-- and accepts what they return
pub followed : (s : Station) (g : Given) (store : List ℕ) → start_refusal g (length store) ≡ 0 → (cs : List Call) → Acc [] rest (trace cs (started s g store))
followed s g store z cs = subst (Acc [] rest) (append-nil (trace cs (started s g store))) ((follows s g store z cs).keeps [] tt)

-- so from the drawing up of a list on no slot begins a second turn until each other slot on it has had one, and each turn has at most five polls and four
-- acknowledgements
pub turns : (s : Station) (g : Given) (store : List ℕ) → start_refusal g (length store) ≡ 0 → (cs : List Call) → TurnsHold empty_view (trace cs (started s g store))
turns s g store z cs = accepted (trace cs (started s g store)) (followed s g store z cs)

-- ### The turn that runs

rel_awaited : (r : Run) (t : Turn) → Rel r t → slots r ≡ awaited t
rel_awaited rest Idle e = refl
rel_awaited rest Sending e = refl
rel_awaited rest (Waiting p) e = absurd e
rel_awaited (turn x n a) Idle e = absurd e
rel_awaited (turn x n a) Sending e = absurd e
rel_awaited (turn x n a) (Waiting p) e = ap (λ (y : ℕ). y ∷ []) (sym e.0)

-- it is the one that the station waits for
pub turns_match : TurnsMatch
turns_match s g store z cs =
    let f = follows s g store z cs in
    ends_in (slots_in (after cs (started s g store)).station.round.list) f.run (trace cs (started s g store)) (followed s g store z cs) f.keeps
    ∙ rel_awaited f.run (after cs (started s g store)).station.wait.turn f.rel
