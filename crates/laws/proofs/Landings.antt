-- With no premise on pieces: a boat's window has handed over exactly the messages whose events 2 the calls returned. Assumes nothing.
use Rattle.std.specs.Prelude.{Some, None, is_some}
use mathlib.Core.Path.{◌≡◌, refl, sym, ap, ◌∙◌, subst}
use mathlib.Core.Bool.{Bool, true, false, cond, ◌&&◌, ◌||◌}
use mathlib.Core.List.{List, [], ◌∷◌, ◌++◌, append-nil}
use mathlib.Core.Logic.{⊎_elim}
use Prim.Native.Nat.{ℕ, ◌%◌, ◌≤◌, ◌<◌}
use native.Mathlib.Omega.{arith}
use lib.ListN.{length, get_or}
use lib.Seq.{get_or-set_same}
use lib.Dec.{eqb}
use lib.Ieee.{Float}
use borrow.Author.Tests.{eqb-true, eq-eqb, ne_eqb}
use Rattle.bits.specs.Mask.{has_bit, with_bit, without_bit}
use Rattle.bits.proofs.Laws.{with_same}
use Rattle.bits.proofs.Lists.{cond_keeps, cond_true, cases, eq_or_not, never_both}
use Rattle.words.specs.Words.{Heard, Burst, parsed}
use Rattle.words.specs.Fine.{Fine, AllFine}
use Rattle.inbox.specs.declared.keep.Kept.TheVariants.{Yes}
use Rattle.inbox.proofs.Rule.{yes_is, KeptIs}
use Rattle.stream.specs.declared.window.Window.{Window}
use Rattle.stream.specs.declared.table.Room.{Room}
use Rattle.stream.specs.declared.table.Room.TheVariants.{Own, Free, Full}
use Rattle.stream.specs.Window.{handed_of, land_of, barred_of, bar_of}
use Rattle.stream.specs.Table.{Table, Accepted, passed, accept, cell_at, cell_for, cell_count, owner_of, place_of, has_room, put_in, table_room, is_over, barred_table}
use Rattle.stream.proofs.Rooms.{RoomIs}
use Rattle.stream.proofs.Tables.{Tidy, table_room_lem, place_in, kept_other, freed_other}
use Rattle.stream.proofs.Accepts.{left_as, answer_of, cell_in, held_after, put_as, barred_as, accept_cases, accept_window}
use Rattle.net.specs.declared.Station.{Station}
use Rattle.net.proofs.Laws.{member_lt}
use Rattle.stream.proofs.Windows.{fresh_none, bar_handed}
use Rattle.signoff.specs.SignOff.{sign_off}
use Rattle.station.specs.SignOff.{sign_off_refusal, sign_off_of}
use Rattle.frames.specs.declared.Air.{Air}
use Rattle.frames.specs.Reading.{Reading}
use Rattle.frames.specs.Frames.{frame_step, read_frames}
use Rattle.rx.specs.Reception.{air_of, ncs_rx}
use Rattle.station.specs.Entries.{Outcome, receive_of, cell_refusal, free_of}
use Rattle.promise.specs.Promise.{lent_to, Net, net, Call, admission, reception, decision, sending, closing, reading, freeing, charging, signing, result, in_book, outcome, step, after, also_handed, frames_by, Event2, events_in, answers_of, asking, posting}
use Rattle.laws.specs.Marks.{also_landed, landed_by, landed_in}
use Rattle.promise.proofs.Ledgers.{handed_other, one_or}
use Rattle.promise.proofs.Ties.{View}
use Rattle.promise.proofs.Pieces.{also_one, windows_after, view_after, view_barred, event_for}
use Rattle.promise.proofs.Quiet.{window_at, Keeps, view_of}
use Rattle.promise.proofs.Events.{events_none}
use Rattle.promise.proofs.WalkFrames.{view_in, offered_in, FrameRead, other, unkept, barred, piece, first_in, rx_end}
use Rattle.promise.proofs.Signs.{sign_member}
use Rattle.promise.proofs.SignTies.{window_gone, window_still}
use Rattle.promise.proofs.Messages.{admission_kept, decision_kept, sending_kept, closing_kept, reading_kept, charging_kept, asking_kept, posting_kept}
use Rattle.promise.proofs.Outcomes.{refused_by, receive_cases}
use Rattle.promise.proofs.Fits.{FitView, accept_land}
use Rattle.promise.proofs.Sounds.{Fit, FitRead, fit_frame, step_read_fit, read_fine, first_fit, lent_fit, step_fit}

-- ---- the cell of a landed message

-- a piece leaves the cells of landed messages alone, and the cell of a message that lands with it has its number
pub record Landing (t : Table) (x : Accepted) : Type 0 where
  pub stays : (c : ℕ) → has_bit t.landed c ≡ true → (has_bit x.table.landed c ≡ true) × (get_or x.table.owners c 0 ≡ get_or t.owners c 0)
  pub fit : is_some x.landed ≡ true → x.cell < 64
  pub whole : is_some x.landed ≡ true → has_bit x.table.landed x.cell ≡ true
  pub number : is_some x.landed ≡ true → get_or x.table.owners x.cell 0 % 4294967296 ≡ x.number

module _ (t : Table) (w : Window) (store : List ℕ) (slot field : ℕ) (p : List ℕ) (tidy : Tidy t store) where
  module _ (k : ℕ) (yes : answer_of t w store slot k (field % 65536) p ≡ Yes) where
    abbrev over : Bool
    over = is_over (barred_of w k) store (table_room t slot k) (cell_at t (cell_in t slot k)) (field % 65536) p

    kept_is : KeptIs k (field % 65536) (length p) over (has_room (table_room t slot k)) (cell_for (table_room t slot k) (cell_at t (cell_in t slot k)))
    kept_is = yes_is k (field % 65536) (length p) over (has_room (table_room t slot k)) (cell_for (table_room t slot k) (cell_at t (cell_in t slot k))) yes

    open_cell : has_bit t.landed (cell_in t slot k) ≡ false
    open_cell = go (table_room t slot k) (table_room_lem t store tidy slot k) kept_is.celled
      where
        go : (r : Room) → RoomIs t.owners t.busy t.landed (owner_of slot k) (cell_count t.count) r → has_room r ≡ true → has_bit t.landed (place_of r) ≡ false
        go (Own c) q h = q.filling.open_yet
        go (Free c) q h = ⊎_elim (λ e. absurd (never_both (has_bit t.busy c) (tidy.taken c e) q.unused)) (λ e. e) (cases (has_bit t.landed c))
        go Full q h = absurd (never_both false h refl)

    put_landing : Landing t (put_as t w store slot k (field % 65536) p)
    put_landing =
        let low = (place_in t store tidy slot k).0 in
        let small = kept_is.low in
        let long = tidy.owners in
        record {
          stays = λ c h.
              let r = kept_other t (cell_in t slot k) (owner_of slot k) (put_in store (cell_in t slot k) (held_after t store slot k (field % 65536) p)).taken c
              (λ e. never_both (has_bit t.landed c) h (ap (has_bit t.landed) e ∙ open_cell)) in
              (r.1 ∙ h, r.2);
          fit = λ b. low;
          whole = λ b.
              ap (λ (u : Bool). has_bit (cond u (with_bit t.landed (cell_in t slot k)) (without_bit t.landed (cell_in t slot k))) (cell_in t slot k)) b
              ∙ with_same t.landed (cell_in t slot k) low;
          number = λ b.
              ap (λ (o : ℕ). o % 4294967296) (get_or-set_same t.owners (cell_in t slot k) (owner_of slot k) 0 (omega arith)) ∙ omega arith;
        }

  -- a piece that lands nothing and leaves the table alone
  still : (x : Accepted) → x.table ≡ t → is_some x.landed ≡ false → Landing t x
  still x p q =
      record {
        stays = λ c h. (ap (λ (u : Table). has_bit u.landed c) p ∙ h, ap (λ (u : Table). get_or u.owners c 0) p);
        fit = λ h. absurd (never_both (is_some x.landed) h q);
        whole = λ h. absurd (never_both (is_some x.landed) h q);
        number = λ h. absurd (never_both (is_some x.landed) h q);
      }

  -- a message that claims too much has not landed
  bar_landing : (k : ℕ) → Landing t (barred_as t w store slot k)
  bar_landing k =
      record {
        stays = λ c h. go (table_room t slot k) (table_room_lem t store tidy slot k) c h;
        fit = λ h. absurd (never_both false h refl);
        whole = λ h. absurd (never_both false h refl);
        number = λ h. absurd (never_both false h refl);
      }
    where
      go : (r : Room) → RoomIs t.owners t.busy t.landed (owner_of slot k) (cell_count t.count) r → (c : ℕ) → has_bit t.landed c ≡ true
          → (has_bit (barred_table t r).landed c ≡ true) × (get_or (barred_table t r).owners c 0 ≡ get_or t.owners c 0)
      go (Own d) q c h =
          ((freed_other t store tidy d c (λ e. never_both (has_bit t.landed c) h (ap (has_bit t.landed) e ∙ q.filling.open_yet))).1 ∙ h, refl)
      go (Free d) q c h = (h, refl)
      go Full q c h = (h, refl)

  accept_landing : Landing t (accept t w store slot field p)
  accept_landing =
      accept_cases t w store slot field p (Landing t)
      (λ e. still (passed t w store 0) refl refl) (λ k e h. still (passed t w store k) refl refl)
      (λ k o a q c z. still (left_as t w store (cell_in t slot k) k a) refl refl) (λ k o q. bar_landing k) (λ k o q. put_landing k q)

-- ---- the events so far

abbrev AllWhole : List Event2 → ℕ → Type 0
AllWhole [] landed = Unit {0}
AllWhole (e ∷ es) landed = (has_bit landed e.cell ≡ true) × AllWhole es landed

-- what landed before, f, and with the events so far is what the windows have handed over; the events' cells hold their messages yet
pub record Log (f : ℕ → ℕ → Bool) (v : View) (es : List Event2) : Type 0 where
  pub numbers : (i k : ℕ) → also_landed es v.table.owners f i k ≡ handed_of (v.windows i) k
  pub whole : AllWhole es v.table.landed

landed_append : (es xs : List Event2) (owners : List ℕ) (f : ℕ → ℕ → Bool) → also_landed (es ++ xs) owners f ≡ also_landed xs owners (also_landed es owners f)
landed_append [] xs owners f = refl
landed_append (e ∷ es) xs owners f = landed_append es xs owners (also_handed e.slot (get_or owners e.cell 0 % 4294967296) f)

whole_append : (es xs : List Event2) (landed : ℕ) → AllWhole es landed → AllWhole xs landed → AllWhole (es ++ xs) landed
whole_append [] xs landed a b = b
whole_append (e ∷ es) xs landed a b = (a.0, whole_append es xs landed a.1 b)

module _ (t : Table) (x : Accepted) (l : Landing t x) where
  whole_stays : (es : List Event2) → AllWhole es t.landed → AllWhole es x.table.landed
  whole_stays [] a = tt
  whole_stays (e ∷ es) a = ((l.stays e.cell a.0).0, whole_stays es a.1)

  landed_stays : (es : List Event2) (f : ℕ → ℕ → Bool) → AllWhole es t.landed → also_landed es x.table.owners f ≡ also_landed es t.owners f
  landed_stays [] f a = refl
  landed_stays (e ∷ es) f a =
      landed_stays es (also_handed e.slot (get_or x.table.owners e.cell 0 % 4294967296) f) a.1
      ∙ ap (λ (o : ℕ). also_landed es t.owners (also_handed e.slot (o % 4294967296) f)) (l.stays e.cell a.0).1

handed_by_lem : (s k : ℕ) (f : ℕ → ℕ → Bool) (i j : ℕ) → s ≡ i → also_handed s k f i j ≡ f i j || eqb j k
unfolding also_handed
handed_by_lem s k f i j e = ap (λ (t : Bool). cond (t && eqb k j) true (f i j)) (eq-eqb s i e) ∙ one_or k j (f i j)

-- ---- a piece

module _ (f : ℕ → ℕ → Bool) (v : View) (es : List Event2) (log : Log f v es) (fit : FitView v) (slot field : ℕ) (p : List ℕ) (short : length p ≤ 255) where
  abbrev r : Accepted
  r = accept v.table (v.windows slot) v.store slot field p

  landing : Landing v.table r
  landing = accept_landing v.table (v.windows slot) v.store slot field p fit.tidy

  abbrev g : ℕ → ℕ → Bool
  g = also_landed es r.table.owners f

  before : (i k : ℕ) → g i k ≡ handed_of (v.windows i) k
  before i k = ap (λ (h : ℕ → ℕ → Bool). h i k) (landed_stays v.table r landing es f log.whole) ∙ log.numbers i k

  land_handed : is_some r.landed ≡ true → (j : ℕ) → handed_of (land_of (v.windows slot) r.number) j ≡ handed_of (v.windows slot) j || eqb j r.number
  land_handed q j =
      ap (λ (w : Window). handed_of w j)
      (sym (accept_land v.table (v.windows slot) v.store slot field p ∙ cond_true (is_some r.landed) (land_of (v.windows slot) r.number) _ q))
      ∙ (accept_window v.table (v.windows slot) v.store slot field p fit.tidy short (fit.sound slot)).1 j
      ∙ ap (λ (t : Bool). handed_of (v.windows slot) j || (t && eqb j r.number)) q

  after_numbers : (b : Bool) → is_some r.landed ≡ b → (i k : ℕ)
      → also_landed (also_one (cond b (Some (record { slot = slot; cell = r.cell; number = r.number % 256 })) None) []) r.table.owners g i k
      ≡ handed_of (windows_after v.windows slot b r.number i) k
  after_numbers false q i k = before i k
  after_numbers true q i k =
      ap (λ (n : ℕ). also_handed slot n g i k) (landing.number q)
      ∙ ⊎_elim
      (λ e.
      handed_by_lem slot r.number g i k e
      ∙ ap (λ (t : Bool). t || eqb k r.number) (before i k)
      ∙ sym
      (ap (λ (t : Bool). handed_of (cond t (land_of (v.windows i) r.number) (v.windows i)) k) (eq-eqb slot i e)
      ∙ subst (λ (i : ℕ). handed_of (land_of (v.windows i) r.number) k ≡ handed_of (v.windows i) k || eqb k r.number) e (land_handed q k)))
      (λ z.
      handed_other slot r.number g i k (ap (λ (t : Bool). t && eqb r.number k) (ne_eqb slot i z))
      ∙ before i k
      ∙ sym (ap (λ (t : Bool). handed_of (cond t (land_of (v.windows i) r.number) (v.windows i)) k) (ne_eqb slot i z)))
      (eq_or_not slot i)

  after_whole : (b : Bool) → is_some r.landed ≡ b
      → AllWhole (also_one (cond b (Some (record { slot = slot; cell = r.cell; number = r.number % 256 })) None) []) r.table.landed
  after_whole false q = tt
  after_whole true q = (landing.whole q, tt)

  piece_log : Log f (view_after v slot r) (es ++ also_one (event_for slot r) [])
  piece_log =
      record {
        numbers = λ i k.
            ap (λ (h : ℕ → ℕ → Bool). h i k) (landed_append es (also_one (event_for slot r) []) r.table.owners f)
            ∙ after_numbers (is_some r.landed) refl i k;
        whole = whole_append es (also_one (event_for slot r) []) r.table.landed (whole_stays v.table r landing es log.whole)
            (after_whole (is_some r.landed) refl);
      }

  -- a message that claims too much
  barred_log : Log f (view_barred v slot r) es
  barred_log = record { numbers = λ i k. before i k ∙ at i k (eqb slot i); whole = whole_stays v.table r landing es log.whole }
    where
      at : (i k : ℕ) (t : Bool) → handed_of (v.windows i) k ≡ handed_of (cond t (bar_of (v.windows i) r.number) (v.windows i)) k
      at i k true = sym (bar_handed (v.windows i) r.number k)
      at i k false = refl

-- ---- a reception

abbrev LogRead : (ℕ → ℕ → Bool) → Reading → Type 0
LogRead f x = Log f (view_in x) (events_in x.words)

module _ (f : ℕ → ℕ → Bool) where
  -- what leaves every message alone and tells of none
  quiet_log : (v v' : View) (es es' : List Event2) → v' ≡ v → es' ≡ es ++ [] → Log f v es → Log f v' es'
  quiet_log v v' es es' p q l = subst (λ (u : View). Log f u es') (sym p) (subst (Log f v) (sym (q ∙ append-nil es)) l)

  read_log : (x y : Reading) (h : Heard) → Fine h → FitRead x → FrameRead x y h → LogRead f x → LogRead f y
  read_log x y h k fit (other q s) log = quiet_log (view_in x) (view_in y) (events_in x.words) (events_in y.words) s.view s.events log
  read_log x y h k fit (unkept flags field p b q z s) log = quiet_log (view_in x) (view_in y) (events_in x.words) (events_in y.words) s.view s.events log
  read_log x y h k fit (barred flags field p b q s) log =
      quiet_log (view_barred (view_in x) (flags % 64) (offered_in x flags field p)) (view_in y) (events_in x.words) (events_in y.words) s.view s.events
      (barred_log f (view_in x) (events_in x.words) log fit.view (flags % 64) field p (omega (arith, k.2)))
  read_log x y h k fit (piece flags field p b q s) log =
      let z = piece_log f (view_in x) (events_in x.words) log fit.view (flags % 64) field p (omega (arith, k.2)) in
      subst (λ (u : View). Log f u (events_in y.words)) (sym s.view) (subst (Log f (view_after (view_in x) (flags % 64) (offered_in x flags field p))) (sym s.events) z)

  frames_log : (a : Air) (fs : List Heard) (x : Reading) → AllFine fs → FitRead x → LogRead f x → LogRead f (read_frames a fs x)
  unfolding read_frames
  frames_log a [] x k fit log = log
  frames_log a (g ∷ fs) x (AllFine.more h k) fit log =
      frames_log a fs (frame_step a g x) k (step_read_fit a g x h fit) (read_log x (frame_step a g x) g h fit (fit_frame a g x fit) log)

  abbrev Told : Station → Type 0
  Told s = (i k : ℕ) → f i k ≡ handed_of (window_at s i) k

  rx_log : (s : Station) (u : Burst) (snr now : Float) (store : List ℕ) → AllFine u.frames → Fit (net s store) → Told s
      → Log f (view_of (ncs_rx s u snr now store).station (ncs_rx s u snr now store).store) (events_in (ncs_rx s u snr now store).words)
  rx_log s u snr now store k fit told =
      let c = rx_end s u snr now store in
      let log : LogRead f (first_in s u now store) = subst (Log f (view_of s store)) (sym events_none) (record { numbers = told; whole = tt }) in
      quiet_log _ _ _ _ c.view c.events
      (frames_log (air_of s u.head snr now) (frames_by (parsed u)) (first_in s u now store) (read_fine u k) (first_fit s u now store fit) log)

-- ---- the calls

module _ (f : ℕ → ℕ → Bool) (n : Net) (fit : Fit n) (told : Told f n.station) where
  abbrev TellsAll : Outcome → Type 0
  TellsAll o = (i k : ℕ) → also_landed (events_in o.words) o.station.owners f i k ≡ handed_of (window_at o.station i) k

  nothing_told : (i k : ℕ) → also_landed (events_in []) n.station.owners f i k ≡ handed_of (window_at n.station i) k
  nothing_told i k = ap (λ (es : List Event2). also_landed es n.station.owners f i k) events_none ∙ told i k

  received_told : (words : List ℕ) (snr now : Float) (st : List ℕ) (room : ℕ) → TellsAll (receive_of n.station words snr now st room)
  received_told words snr now st room =
      receive_cases (λ w o. TellsAll o) n.station words snr now st room (λ w m q. nothing_told) (λ u g l. (rx_log f n.station u snr now st g.frames (lent_fit n st l fit) told).numbers)

  kept_told : (c : Call) → Keeps n.station (outcome c n).station → Told f (outcome c n).station
  kept_told c k i j = told i j ∙ ap (λ (w : Window). handed_of w j) (sym (k.windows i))

  free_told : (cell : ℕ) → Told f (free_of n.station cell).station
  unfolding free_of
  free_told cell =
      cond_keeps (λ (o : Outcome). Told f o.station) (eqb (cell_refusal n.station.count n.station.landed cell) 0) _ _ (λ _. told) (λ _. told)

  -- a sign-off: the slot's window is fresh, and nothing has landed in its next stay
  abbrev EndsTold : ℕ → Outcome → Type 0
  EndsTold slot o = (i k : ℕ) → cond (refused_by o) f (λ x y. cond (eqb slot x) false (f x y)) i k ≡ handed_of (window_at o.station i) k

  sign_told : (slot : ℕ) → EndsTold slot (sign_off_of n.station slot)
  unfolding sign_off_of
  sign_told slot =
      cond_keeps (EndsTold slot) (eqb (sign_off_refusal n.station.used slot) 0) _ _
      (λ q. by (member_lt n.station.used slot (sign_member n.station.used slot (eqb-true _ 0 q))))
      (λ q i k. ap (λ (t : Bool). cond (cond t false true) f (λ x y. cond (eqb slot x) false (f x y)) i k) q ∙ told i k)
    where
      by : slot < 62 → (i k : ℕ) → cond (eqb slot i) false (f i k) ≡ handed_of (window_at (sign_off n.station slot) i) k
      by low i k =
          ⊎_elim (λ e. ap (λ (t : Bool). cond t false (f i k)) (eq-eqb slot i (sym e)) ∙ sym (fresh_none k)
          ∙ ap (λ (w : Window). handed_of w k) (sym (ap (window_at (sign_off n.station slot)) e ∙ window_gone slot n.station low fit.long)))
          (λ z. ap (λ (t : Bool). cond t false (f i k)) (ne_eqb slot i (λ e. z (sym e))) ∙ told i k ∙ ap (λ (w : Window). handed_of w k) (sym (window_still slot n.station low fit.long i z)))
          (eq_or_not i slot)

  abbrev next_told : Call → ℕ → ℕ → Bool
  next_told c = landed_by (in_book c) (answers_of c n).refused (answers_of c n).events (step c n).station.owners f

  call_told : (c : Call) → Told (next_told c) (step c n).station
  unfolding step result
  call_told (admission packed relay now room) = kept_told (admission packed relay now room) (admission_kept n.station packed relay now room)
  call_told (reception words snr now lent room numbers) = received_told words snr now (lent_to lent n.store) room
  call_told (decision now queue room) = kept_told (decision now queue room) (decision_kept n.station now queue room)
  call_told (posting slot message queue) = kept_told (posting slot message queue) (posting_kept n.station slot message queue)
  call_told (sending now) = kept_told (sending now) (sending_kept n.station now)
  call_told (closing count) = kept_told (closing count) (closing_kept n.station count)
  call_told (reading cell lent) = kept_told (reading cell lent) (reading_kept cell lent n)
  call_told (freeing cell) = free_told cell
  call_told (charging figures) = kept_told (charging figures) (charging_kept figures n)
  call_told (signing slot) = sign_told slot
  call_told (asking slot) = kept_told (asking slot) (asking_kept slot n)

-- every list of calls
pub calls_told : (cs : List Call) (n : Net) (f : ℕ → ℕ → Bool) → Fit n → Told f n.station → Told (landed_in cs n f) (after cs n).station
unfolding landed_in after
calls_told [] n f fit told = told
calls_told (c ∷ cs) n f fit told =
    calls_told cs (step c n) (landed_by (in_book c) (answers_of c n).refused (answers_of c n).events (step c n).station.owners f) (step_fit c n fit) (call_told f n fit told c)
