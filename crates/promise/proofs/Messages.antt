-- Item 3 of document 01, the messages: every call keeps the tie, so what is promised holds of every list of calls. Assumes nothing.
use Rattle.std.specs.Prelude.{Option, None}
use mathlib.Core.Path.{◌≡◌, refl, sym, ap, ◌∙◌, subst}
use mathlib.Core.Bool.{Bool, true, false, cond, ◌&&◌, ◌||◌}
use mathlib.Core.List.{List, [], ◌∷◌, ◌++◌, append-nil}
use mathlib.Core.Logic.{⊎_elim}
use Prim.Native.Nat.{ℕ, suc, ◌+◌, ◌*◌, ◌/◌, ◌%◌, ◌≤◌, ◌<◌}
use native.Mathlib.Omega.{arith}
use lib.ListN.{length, get_or, replicate, length-replicate}
use lib.Dec.{eqb, ltb, leb}
use lib.Ieee.{Float}
use borrow.Author.Tests.{eqb-true, ltb-false, eq-eqb, ne_eqb, le-ltb, lt-leb}
use Rattle.bits.specs.Mask.{has_bit}
use Rattle.bits.proofs.Laws.{has_none, without_same, without_other}
use Rattle.bits.proofs.Lists.{cond_keeps, cond_true, cond_false, eq_or_not, never_both}
use Rattle.wire.specs.Kinds.{tiny}
use Rattle.wire.specs.Call.{unpack_call}
use Rattle.words.specs.Words.{Heard, Burst, Parsed, parsed, parse}
use Rattle.words.specs.Fine.{AllFine, FineBurst}
use Rattle.stream.specs.declared.window.Window.{Window}
use Rattle.stream.specs.Window.{handed_of, fresh_of, barred_of}
use Rattle.stream.specs.Table.{Table, freed_table, cell_count}
use Rattle.stream.proofs.Rooms.{cells_most}
use Rattle.stream.proofs.Tables.{start_tidy, freed_tidy}
use Rattle.stream.proofs.Windows.{Sound, sound_fresh, fresh_none}
use Rattle.roster.specs.Members.{new_member}
use Rattle.level.specs.Consts.{zero_time}
use Rattle.net.specs.declared.Station.{Station}
use Rattle.net.specs.declared.Settings.{Settings}
use Rattle.net.specs.State.{table_of, with_table, with_wait, queue_at}
use Rattle.net.specs.Net.{is_member, new_station, blank_call, on_tx_done}
use Rattle.net.proofs.Laws.{member_lt}
use Rattle.admit.specs.Admission.{seat_of, is_full, via_for}
use Rattle.next.specs.Next.{ncs_next}
use Rattle.rx.specs.Reception.{Received, air_of, ncs_rx}
use Rattle.config.specs.declared.Given.{Given}
use Rattle.config.specs.Checks.{settings_ok, settings_of}
use Rattle.station.specs.Entries.{Outcome, refused, done, unless, admitted, received_as, receive_of, admit_refusal, admit_of, next_refusal, next_of, sent_of, check1, close_refusal, close_of, start_refusal, start_of, cell_refusal, check22, read_refusal, reading_of, free_of, receive_by, receive_refusal, post_refusal, post_of}
use Rattle.signoff.specs.SignOff.{sign_off}
use Rattle.station.specs.SignOff.{sign_off_refusal, sign_off_of}
use Rattle.station.specs.Worst.{worst_of, refusal_in}
use Rattle.dues.specs.Dues.{dues_refusal}
use Rattle.promise.specs.Promise.{Lent, lent_to, Net, net, of_burst, InBook, Call, admission, reception, decision, sending, closing, reading, freeing, charging, signing, result, in_book, outcome, is_refused, step, started, Stays, Sent, sent_now, Message, Ledger, Book, empty_book, same, also_handed, Entered, unchanged, book_frames, frames_by, Event2, events_in, enter, enter_all, named, answers_of, book_ends, book_done, book_call, FramesOk, CallOk, CallsOk, Once, Paired, ReadsAs, AtCall, Holds, Stayed, stayed, handed_in, also_stayed, OnceInStay, Messages, handed, another, asking, LentOk, posting}
use Rattle.promise.proofs.Outcomes.{refused_by, receive_cases, lent_is}
use Rattle.promise.proofs.Ledgers.{none_below, same_true}
use Rattle.promise.proofs.Modest.{fresh_free}
use Rattle.promise.proofs.Ties.{View, Use, Vacant, Comes, use_of, use_at, held_at, FineAt, entry_of, Tie, not_vacant, not_whole, use_vacant}
use Rattle.promise.proofs.Quiet.{window_in, Keeps, kept_self, view_of, kept_view}
use Rattle.promise.proofs.QuietWalk.{uncelled, keeps}
use Rattle.promise.proofs.WalkCalls.{all, admission_walk, decision_walk, sending_walk, closing_walk, step_walk, posting_walk}
use Rattle.promise.proofs.Readings.{chain_count}
use Rattle.promise.proofs.Events.{events_none}
use Rattle.promise.proofs.Short.{short_admit, short_next}
use Rattle.promise.proofs.Signs.{sign_member, signed}
use Rattle.promise.proofs.SignTies.{ends_here, ends_there, stay_here, stay_there, sign_tie}
use Rattle.promise.proofs.Receptions.{all_handed, frames_read_lem}
use Rattle.promise.proofs.Receptions as receptions
use Rattle.promise.proofs.WalkFrames.{first_in, last_in, rx_end}

-- what is handed from call to call, tied to the book
pub record Tied (M : Sent) (n : Net) (b : Book) : Type 0 where
  pub tie : Tie M (view_of n.station n.store) b.ledger b.entry
  pub long : length n.station.members ≡ 62

-- ---- a start

either_up : (b : Bool) (w : Window) → b ≡ false → cond b w fresh_of ≡ fresh_of
either_up true w q = absurd (never_both true refl q)
either_up false w q = refl

nobody : (i : ℕ) → is_member 0 i ≡ false
unfolding is_member
nobody i = ap (λ (t : Bool). ltb i 62 && t) (has_none i) ∙ and_none (ltb i 62)
  where
    and_none : (t : Bool) → t && false ≡ false
    and_none true = refl
    and_none false = refl

start_tied : (M : Sent) (g : Settings) (store : List ℕ) → 6400 ≤ length store → Tied M (net (new_station g (cell_count (length store / 6400))) store) empty_book
unfolding new_station
start_tied M g store room =
    let count = cell_count (length store / 6400) in
    record {
      tie = record {
        tidy = start_tidy count store some_cell (cells_most (length store / 6400)) in_store;
        sound = λ s. subst Sound (sym (fresh s)) sound_fresh;
        claimed = λ s k on q. absurd (never_both _ q (ap (λ (w : Window). barred_of w k) (fresh s) ∙ fresh_free k));
        numbers = λ s k on. sym (ap (λ (w : Window). handed_of w k) (fresh s) ∙ fresh_none k);
        says = λ s k. none_below (length (M.text s k));
        cells = λ c a. subst (λ (u : Use). FineAt M empty_book.ledger u (held_at (view_of (new_station g count) store) c)) (sym (free c)) tt;
        bare = λ s k on h free z i. refl;
        entries = λ c. sym (ap (entry_of M) (free c));
      };
      long = length-replicate 62 (new_member blank_call 63 zero_time);
    }
  where
    fresh : (i : ℕ) → window_in 0 (replicate 62 (new_member blank_call 63 zero_time)) i ≡ fresh_of
    fresh i = either_up (is_member 0 i) _ (nobody i)

    free : (c : ℕ) → use_of (has_bit 0 c) (has_bit 0 c) (get_or (replicate 64 0) c 0) ≡ Vacant
    free c = use_vacant (has_bit 0 c) (has_bit 0 c) (get_or (replicate 64 0) c 0) (has_none c)

    some_cell : 1 ≤ cell_count (length store / 6400)
    some_cell = cond_keeps (λ (y : ℕ). 1 ≤ y) (ltb (length store / 6400) 64) (length store / 6400) 64 (λ _. omega arith) (λ _. omega arith)

    in_store : 6400 * cell_count (length store / 6400) ≤ length store
    in_store =
        cond_keeps (λ (y : ℕ). 6400 * y ≤ length store) (ltb (length store / 6400) 64) (length store / 6400) 64
        (λ _. omega arith) (λ q. let r = ltb-false (length store / 6400) 64 q in omega arith)

pub started_tied : (M : Sent) (s : Station) (g : Given) (store : List ℕ) → start_refusal g (length store) ≡ 0 → Tied M (started s g store) empty_book
unfolding start_of
started_tied M s g store e =
    let begun = done (new_station (settings_of g) (cell_count (length store / 6400))) store [] in
    subst (λ (o : Outcome). Tied M (net o.station store) empty_book)
    (sym (cond_true (eqb (start_refusal g (length store)) 0) begun (refused (start_refusal g (length store)) s store) (eq-eqb (start_refusal g (length store)) 0 e)))
    (start_tied M (settings_of g) store (long_enough e))
  where
    long_enough : start_refusal g (length store) ≡ 0 → 6400 ≤ length store
    long_enough = unfold start_refusal in at (ltb (length store) 6400) refl
      where
        at : (t : Bool) → ltb (length store) 6400 ≡ t → ◌≡◌ {A = ℕ} (cond t 7 (cond (settings_ok g) 0 5)) 0 → 6400 ≤ length store
        at true q e = absurd (omega arith)
        at false q e = ltb-false (length store) 6400 q

-- ---- calls that leave every message alone

pub record CallGood (M : Sent) (c : Call) (n : Net) (b : Book) : Type 0 where
  pub tied : Tied M (step c n) (book_call M c n b).left
  pub at : AtCall M n.station.count (in_book c) (answers_of c n).events (book_call M c n b).out n b
  pub once : Once (book_call M c n b).out b.ledger.handed
  pub after : (book_call M c n b).left.ledger.handed ≡ all_handed (book_call M c n b).out b.ledger.handed
  pub stay : (book_call M c n b).left.stay ≡ b.stay

pub same_cond : {A : Type 0} (t : Bool) (x y : A) → x ≡ y → cond t x y ≡ x
same_cond true x y q = refl
same_cond false x y q = sym q

module _ (M : Sent) (c : Call) (n : Net) (b : Book) (tied : Tied M n b) (keeps : Keeps n.station (outcome c n).station)
    (store : (result c n).store ≡ n.store) (book : book_done M (in_book c) (answers_of c n) b ≡ unchanged b)
    (at : AtCall M n.station.count (in_book c) (answers_of c n).events (book_call M c n b).out n b) where
  step_view : view_of (step c n).station (step c n).store ≡ view_of n.station n.store
  unfolding step
  step_view =
      ap (view_of (outcome c n).station) (same_cond (is_refused c n) n.store (result c n).store (sym store))
      ∙ kept_view n.station (outcome c n).station n.store keeps

  step_long : length (step c n).station.members ≡ 62
  unfolding step
  step_long = keeps.long ∙ tied.long

  same_book : book_call M c n b ≡ unchanged b
  same_book = same_cond (is_refused c n) (unchanged b) (book_done M (in_book c) (answers_of c n) b) (sym book)

  quiet_call : CallGood M c n b
  quiet_call =
      record {
        tied = subst (λ (k : Entered Book). Tied M (step c n) k.left) (sym same_book)
            (record { tie = subst (λ (v : View). Tie M v b.ledger b.entry) (sym step_view) tied.tie; long = step_long });
        at = at;
        once = subst (λ (k : Entered Book). Once k.out b.ledger.handed) (sym same_book) tt;
        after = subst (λ (k : Entered Book). k.left.ledger.handed ≡ all_handed k.out b.ledger.handed) (sym same_book) refl;
        stay = ap (λ (k : Entered Book). k.left.stay) same_book;
      }

-- ---- no call but a reception returns an event 2

abbrev NoEvents : InBook → List Event2 → Type 0
NoEvents (InBook.brings words numbers lent) es = Unit {0}
NoEvents (InBook.reads cell lent) es = es ≡ []
NoEvents (InBook.frees cell) es = es ≡ []
NoEvents (InBook.ends slot) es = es ≡ []
NoEvents InBook.changes_nothing es = es ≡ []

quiet_unless : (m : ℕ) (s : Station) (store : List ℕ) (o : Outcome) → events_in o.words ≡ [] → events_in (unless m s store o).words ≡ []
quiet_unless m s store o h = cond_keeps (λ (x : Outcome). events_in x.words ≡ []) (eqb m 0) o (refused m s store) (λ _. h) (λ _. events_none)

pub other_events : (c : Call) (n : Net) → NoEvents (in_book c) (answers_of c n).events
unfolding result admit_of next_of post_of sent_of close_of free_of sign_off_of
other_events (admission packed relay now room) n =
    let s = n.station in
    let call = unpack_call packed in
    let seat = seat_of s call in
    quiet_unless (admit_refusal room now s.used relay (is_full seat)) s [] (done _ [] (admitted s call relay now).words)
    (short_admit seat s call (via_for s seat relay) now).quiet
other_events (reception words snr now lent room numbers) n = tt
other_events (decision now queue room) n =
    quiet_unless (next_refusal now (length queue) room) n.station [] (done _ [] (ncs_next n.station now queue).words) (short_next queue n.station now).quiet
other_events (posting slot message queue) n =
    quiet_unless (post_refusal (length queue) n.station.used slot (queue_at n.station slot) (length message)) n.station queue (done _ _ []) events_none
other_events (sending now) n = quiet_unless (check1 now 0) n.station [] (done (on_tx_done n.station now) [] []) events_none
other_events (closing count) n = quiet_unless (close_refusal count) n.station [] (done _ [] []) events_none
other_events (reading cell lent) n =
    quiet_unless (read_refusal (length (lent_to lent n.store)) n.station.count n.station.landed cell) n.station n.store (done n.station n.store []) events_none
other_events (freeing cell) n = quiet_unless (cell_refusal n.station.count n.station.landed cell) n.station [] (done _ [] []) events_none
other_events (charging figures) n = quiet_unless (dues_refusal figures) n.station n.store (done n.station n.store []) events_none
other_events (signing slot) n = quiet_unless (sign_off_refusal n.station.used slot) n.station [] (done (sign_off n.station slot) [] []) events_none
other_events (asking slot) n = quiet_unless (refusal_in (worst_of n.station slot)) n.station n.store (done n.station n.store []) events_none

-- ---- calls that keep them

abbrev pub KeepsOutcome : Station → Outcome → Type 0
KeepsOutcome s o = Keeps s o.station

pub admission_kept : (s : Station) (packed : List ℕ) (relay : ℕ) (now : Float) (room : ℕ) → KeepsOutcome s (admit_of s packed relay now room)
admission_kept s packed relay now room = keeps (admission_walk uncelled s packed relay now room)

pub decision_kept : (s : Station) (now : Float) (queue : List ℕ) (room : ℕ) → KeepsOutcome s (next_of s now queue room)
decision_kept s now queue room = keeps (decision_walk uncelled tt s now queue room)

pub posting_kept : (s : Station) (slot : ℕ) (message queue : List ℕ) → KeepsOutcome s (post_of s slot message queue)
posting_kept s slot message queue = keeps (posting_walk uncelled tt s slot message queue)

pub sending_kept : (s : Station) (now : Float) → KeepsOutcome s (sent_of s now)
sending_kept s now = keeps (sending_walk uncelled tt s now)

pub closing_kept : (s : Station) (count : ℕ) → KeepsOutcome s (close_of s count)
closing_kept s count = keeps (closing_walk uncelled s count)

-- ---- reading

module _ (M : Sent) (n : Net) (b : Book) (tied : Tied M n b) (cell : ℕ) where
  abbrev busy_bit : Bool
  busy_bit = has_bit n.station.busy cell

  abbrev landed_bit : Bool
  landed_bit = has_bit n.station.landed cell

  abbrev owner : ℕ
  owner = get_or n.station.owners cell 0

  -- no earlier check refuses it
  read_check : cell < n.station.count → read_refusal (length n.store) n.station.count n.station.landed cell ≡ check22 n.station.landed cell
  unfolding read_refusal cell_refusal
  read_check a =
      let r = tied.tie.tidy.room in
      let m = tied.tie.tidy.most in
      cond_false (ltb (length n.store / 6400) n.station.count) 7 _ (le-ltb (length n.store / 6400) n.station.count (omega arith))
      ∙ cond_false (leb n.station.count cell || leb 64 cell) 6 _
      (ap (λ (t : Bool). t || leb 64 cell) (lt-leb n.station.count cell a) ∙ lt-leb 64 cell (omega arith))

  reads_by : cell < n.station.count → (x y : Bool) → busy_bit ≡ x → landed_bit ≡ y → FineAt M b.ledger (use_of x y owner) (held_at (view_of n.station n.store) cell)
      → ReadsAs M (entry_of M (use_of x y owner)) n cell
  unfolding reading_of
  reads_by a false false p q f = read_check a ∙ cond_false landed_bit 0 22 q
  reads_by a true false p q f = read_check a ∙ cond_false landed_bit 0 22 q
  reads_by a false true p q f = absurd (never_both busy_bit (tied.tie.tidy.taken cell q) p)
  reads_by a true true p q f =
      let z = read_check a ∙ cond_true landed_bit 0 22 q in (
        z,
        λ on.
            cond_true (eqb (read_refusal (length n.store) n.station.count n.station.landed cell) 0) _ _ (eq-eqb _ 0 z)
            ∙ f on
            ∙ ap (λ (t : Bool). M.text (owner / 4294967296) (cond t (owner % 4294967296) (owner % 4294967296 % 256))) (sym on),
      )

  pub reads : cell < n.station.count → ReadsAs M (b.entry cell) n cell
  reads a =
      subst (λ (o : Option Message). ReadsAs M o n cell) (sym (tied.tie.entries cell))
      (reads_by a busy_bit landed_bit refl refl (tied.tie.cells cell a))

pub reading_kept : (c : ℕ) (lent : Lent) (n : Net) → KeepsOutcome n.station (outcome (reading c lent) n)
unfolding result
reading_kept c lent n =
    cond_keeps (KeepsOutcome n.station) (eqb (read_refusal (length (lent_to lent n.store)) n.station.count n.station.landed c) 0) _ _
    (λ _. kept_self n.station) (λ _. kept_self n.station)

pub charging_kept : (figures : List ℕ) (n : Net) → KeepsOutcome n.station (outcome (charging figures) n)
unfolding result
charging_kept figures n =
    cond_keeps (KeepsOutcome n.station) (eqb (dues_refusal figures) 0) _ _ (λ _. kept_self n.station) (λ _. kept_self n.station)

pub asking_kept : (slot : ℕ) (n : Net) → KeepsOutcome n.station (outcome (asking slot) n)
unfolding result
asking_kept slot n =
    cond_keeps (KeepsOutcome n.station) (eqb (refusal_in (worst_of n.station slot)) 0) _ _ (λ _. kept_self n.station) (λ _. kept_self n.station)

-- ---- freeing

comes_open : (x y : Bool) (o s k : ℕ) → use_of x y o ≡ Comes s k → y ≡ true → ⊥
comes_open false y o s k q h = not_vacant s k q
comes_open true false o s k q h = never_both false h refl
comes_open true true o s k q h = not_whole _ _ s k q

module _ (M : Sent) (n : Net) (b : Book) (tied : Tied M n b) (cell : ℕ) (is : has_bit n.station.landed cell ≡ true) where
  abbrev t₀ : Table
  t₀ = table_of n.station

  abbrev t₁ : Table
  t₁ = freed_table t₀ cell

  use_here : (d : ℕ) → d ≡ cell → use_at t₁ d ≡ Vacant
  use_here d q =
      ap (use_at t₁) q ∙ use_vacant (has_bit t₁.busy cell) (has_bit t₁.landed cell) (get_or t₁.owners cell 0) (without_same t₀.busy cell)

  use_there : (d : ℕ) → (d ≡ cell → ⊥) → use_at t₁ d ≡ use_at t₀ d
  use_there d z =
      ap (λ (y : Bool). use_of y (has_bit t₁.landed d) (get_or t₀.owners d 0)) (without_other t₀.busy cell d (λ q. z (sym q)))
      ∙ ap (λ (y : Bool). use_of (has_bit t₀.busy d) y (get_or t₀.owners d 0)) (without_other t₀.landed cell d (λ q. z (sym q)))

  freed_tie : Tie M (view_of (with_table n.station t₁) n.store) b.ledger (enter cell None b.entry)
  freed_tie =
      record {
        tidy = freed_tidy t₀ n.store tied.tie.tidy cell;
        sound = tied.tie.sound;
        claimed = tied.tie.claimed;
        numbers = tied.tie.numbers;
        says = tied.tie.says;
        cells = λ d a.
            ⊎_elim (λ q. subst (λ (u : Use). FineAt M b.ledger u (held_at (view_of n.station n.store) d)) (sym (use_here d q)) tt)
            (λ z. subst (λ (u : Use). FineAt M b.ledger u (held_at (view_of n.station n.store) d)) (sym (use_there d z)) (tied.tie.cells d a))
            (eq_or_not d cell);
        bare = λ s k on h free nowhere.
            tied.tie.bare s k on h free
            (λ d q.
            ⊎_elim (λ i. comes_open (has_bit t₀.busy cell) (has_bit t₀.landed cell) (get_or t₀.owners cell 0) s k (sym (ap (use_at t₀) i) ∙ q) is) (λ i. nowhere d (use_there d i ∙ q)) (eq_or_not d cell));
        entries = λ d.
            ⊎_elim (λ i. ap (λ (t : Bool). cond t None (b.entry d)) (eq-eqb cell d (sym i)) ∙ sym (ap (entry_of M) (use_here d i)))
            (λ i. ap (λ (t : Bool). cond t None (b.entry d)) (ne_eqb cell d (λ j. i (sym j))) ∙ tied.tie.entries d ∙ sym (ap (entry_of M) (use_there d i)))
            (eq_or_not d cell);
      }

module _ (M : Sent) (n : Net) (b : Book) (tied : Tied M n b) (cell : ℕ) where
  abbrev freed_book : Book
  freed_book = record { ledger = b.ledger; entry = enter cell None b.entry; stay = b.stay }

  abbrev freed_by : Bool → Entered Book
  freed_by t = cond t (unchanged b) (unchanged freed_book)

  abbrev FreeGood : Outcome → Type 0
  FreeGood o = Tied M (net o.station n.store) (freed_by (refused_by o)).left

  landed_of_lem : cell_refusal n.station.count n.station.landed cell ≡ 0 → has_bit n.station.landed cell ≡ true
  unfolding cell_refusal
  landed_of_lem = at (leb n.station.count cell || leb 64 cell) (has_bit n.station.landed cell)
    where
      at : (x y : Bool) → ◌≡◌ {A = ℕ} (cond x 6 (cond y 0 22)) 0 → y ≡ true
      at true y q = absurd (omega arith)
      at false true q = refl
      at false false q = absurd (omega arith)

  free_good : FreeGood (free_of n.station cell)
  unfolding free_of
  free_good =
      cond_keeps FreeGood (eqb (cell_refusal n.station.count n.station.landed cell) 0) _ _
      (λ q. record { tie = freed_tie M n b tied cell (landed_of_lem (eqb-true _ 0 q)); long = tied.long })
      (λ q. subst (λ (t : Bool). Tied M (net n.station n.store) (freed_by (cond t false true)).left) (sym q) tied)

  freed_once : (t : Bool) → Once (freed_by t).out b.ledger.handed
  freed_once true = tt
  freed_once false = tt

  freed_after : (t : Bool) → (freed_by t).left.ledger.handed ≡ all_handed (freed_by t).out b.ledger.handed
  freed_after true = refl
  freed_after false = refl

  freed_stay : (t : Bool) → (freed_by t).left.stay ≡ b.stay
  freed_stay true = refl
  freed_stay false = refl

  pub freeing_good : CallGood M (freeing cell) n b
  unfolding step result
  freeing_good =
      let t = is_refused (freeing cell) n in
      record {
        tied = subst (λ (store : List ℕ). Tied M (net (free_of n.station cell).station store) (freed_by t).left)
            (sym (same_cond t n.store n.store refl)) free_good;
        at = other_events (freeing cell) n;
        once = freed_once t;
        after = freed_after t;
        stay = freed_stay t;
      }

-- ---- a reception

-- what one that is not refused comes to: r for the station, h for the book
record RxDone (M : Sent) (count : ℕ) (l : Ledger) (e : ℕ → Option Message) (r : Received) (h : Entered Ledger) : Type 0 where
  pub got : receptions.Received M count (events_in r.words) h.out (view_of r.station r.store) h.left l.handed e
  pub long : length r.station.members ≡ 62

module _ (M : Sent) (small : (s k : ℕ) → M.watched s ≡ true → length (M.text s k) ≤ 65535) (n : Net) (b : Book) (tied : Tied M n b) (numbers : List ℕ) (snr now : Float) where
  module _ (u : Burst) (fine : FineBurst u) where
    abbrev frames : List Heard
    frames = frames_by (parsed u)

    abbrev booked : List ℕ → ℕ → Entered Ledger
    booked seen mask = book_frames M frames 0 numbers seen mask b.ledger

    few_read : 0 + length frames ≤ 64
    few_read = cond_keeps (λ (fs : List Heard). 0 + length fs ≤ 64) (eqb u.head.code tiny) [] u.frames (λ _. omega arith) (λ _. omega (arith, fine.count))

    fine_read : AllFine frames
    fine_read = cond_keeps AllFine (eqb u.head.code tiny) [] u.frames (λ _. AllFine.none) (λ _. fine.frames)

    rx_done : FramesOk M frames 0 numbers (ncs_rx n.station u snr now n.store).seen (ncs_rx n.station u snr now n.store).unkept b.ledger
        → RxDone M n.station.count b.ledger b.entry (ncs_rx n.station u snr now n.store) (booked (ncs_rx n.station u snr now n.store).seen (ncs_rx n.station u snr now n.store).unkept)
    rx_done ok =
        let r = ncs_rx n.station u snr now n.store in
        let c = rx_end n.station u snr now n.store in
        let y = last_in n.station u snr now n.store in
        let h = booked y.seen y.unkept in
        let z = frames_read_lem M small (air_of n.station u.head snr now) numbers frames fine_read (first_in n.station u now n.store) 0 b.ledger b.entry
        (record { frame = refl; seen = refl; clear = λ j l. has_none j }) few_read tied.tie tied.long
        (subst (λ (s : List ℕ). FramesOk M frames 0 numbers s y.unkept b.ledger) c.seen (subst (λ (m : ℕ). FramesOk M frames 0 numbers r.seen m b.ledger) c.mask ok)) in
        let w : events_in r.words ≡ z.events = c.events ∙ append-nil (events_in y.words) ∙ z.words ∙ ap (λ (x : List Event2). x ++ z.events) events_none in
        subst (λ (s : List ℕ). RxDone M n.station.count b.ledger b.entry r (booked s r.unkept)) (sym c.seen)
        (subst (λ (m : ℕ). RxDone M n.station.count b.ledger b.entry r (booked y.seen m)) (sym c.mask)
        (record {
          got = subst (λ (es : List Event2). receptions.Received M n.station.count es h.out (view_of r.station r.store) h.left b.ledger.handed b.entry) (sym w)
              (subst (λ (v : View). receptions.Received M n.station.count z.events h.out v h.left b.ledger.handed b.entry) (sym c.view) z.got);
          long = c.long ∙ z.long;
        }))

  -- the same in the store that was lent, which is the one handed on
  lent_done : (u : Burst) → FineBurst u → (st : List ℕ) → n.store ≡ st
      → FramesOk M (frames_by (parsed u)) 0 numbers (ncs_rx n.station u snr now st).seen (ncs_rx n.station u snr now st).unkept b.ledger
      → RxDone M n.station.count b.ledger b.entry (ncs_rx n.station u snr now st)
      (book_frames M (frames_by (parsed u)) 0 numbers (ncs_rx n.station u snr now st).seen (ncs_rx n.station u snr now st).unkept b.ledger)
  lent_done u fine st q =
      subst (λ (y : List ℕ).
      FramesOk M (frames_by (parsed u)) 0 numbers (ncs_rx n.station u snr now y).seen (ncs_rx n.station u snr now y).unkept b.ledger
      → RxDone M n.station.count b.ledger b.entry (ncs_rx n.station u snr now y)
      (book_frames M (frames_by (parsed u)) 0 numbers (ncs_rx n.station u snr now y).seen (ncs_rx n.station u snr now y).unkept b.ledger))
      q (rx_done u fine)

  -- refused or not
  module _ (st : List ℕ) (words : List ℕ) where
    abbrev seen_by : Parsed Burst → List ℕ
    seen_by w = of_burst w [] (λ u. (ncs_rx n.station u snr now st).seen)

    abbrev handed_by : Parsed Burst → Outcome → Entered Ledger
    handed_by w o = book_frames M (frames_by w) 0 numbers (seen_by w) o.mask b.ledger

    abbrev entered_by : Parsed Burst → Outcome → Entered Book
    entered_by w o =
        record {
          left = record { ledger = (handed_by w o).left; entry = enter_all (events_in o.words) (named M.watched (events_in o.words) (handed_by w o).out) b.entry; stay = b.stay };
          out = (handed_by w o).out;
        }

    abbrev book_by : Parsed Burst → Outcome → Entered Book
    book_by w o = cond (refused_by o) (unchanged b) (entered_by w o)

    record RxGood (w : Parsed Burst) (o : Outcome) : Type 0 where
      pub next : Tied M (net o.station (cond (refused_by o) n.store o.store)) (book_by w o).left
      pub paired : Paired M.watched n.station.count (events_in o.words) (book_by w o).out b
      pub after : (book_by w o).left.ledger.handed ≡ all_handed (book_by w o).out b.ledger.handed

    abbrev Rx : Parsed Burst → Outcome → Type 0
    Rx w o =
        (refused_by o ≡ false → n.store ≡ st)
        → (refused_by o ≡ false → FramesOk M (frames_by w) 0 numbers (seen_by w) o.mask b.ledger) → RxGood w o

    nothing_paired : Paired M.watched n.station.count (events_in []) [] b
    nothing_paired = subst (λ (es : List Event2). Paired M.watched n.station.count es [] b) (sym events_none) (record { pairs = tt; rising = tt; once = tt })

    refused_good : (w : Parsed Burst) (m : ℕ) → eqb m 0 ≡ false → Rx w (refused m n.station st)
    refused_good w m q k ok =
        let z : refused_by (refused m n.station st) ≡ true = ap (λ (t : Bool). cond t false true) q in
        let d = entered_by w (refused m n.station st) in
        record {
          next = subst (λ (t : Bool). Tied M (net n.station (cond t n.store st)) (cond t (unchanged b) d).left) (sym z) tied;
          paired = subst (λ (t : Bool). Paired M.watched n.station.count (events_in []) (cond t (unchanged b) d).out b) (sym z) nothing_paired;
          after = subst (λ (t : Bool). (cond t (unchanged b) d).left.ledger.handed ≡ all_handed (cond t (unchanged b) d).out b.ledger.handed) (sym z) refl;
        }

    done_good : (u : Burst) → FineBurst u → Rx (parsed u) (received_as (ncs_rx n.station u snr now st))
    done_good u fine k ok =
        let z = lent_done u fine st (k refl) (ok refl) in
        record {
          next = record { tie = z.got.tie; long = z.long };
          paired = record { pairs = z.got.pairs; rising = z.got.rising; once = z.got.once };
          after = z.got.after;
        }

    rx_good : (room : ℕ) → Rx (parse words) (receive_of n.station words snr now st room)
    rx_good room = receive_cases Rx n.station words snr now st room refused_good (λ u f l. done_good u f)

  pub reception_good : (words : List ℕ) (lent : Lent) (room : ℕ)
      → CallOk M (in_book (reception words snr now lent room numbers)) (answers_of (reception words snr now lent room numbers) n) b
      → CallGood M (reception words snr now lent room numbers) n b
  unfolding step result
  reception_good words lent room ok =
      let g = rx_good (lent_to lent n.store) words room (lent_is n.store lent (is_refused (reception words snr now lent room numbers) n) ok.0) ok.1 in
      record {
        tied = g.next;
        at = g.paired;
        once = g.paired.once;
        after = g.after;
        stay = cond_keeps (λ (k : Entered Book). k.left.stay ≡ b.stay) (is_refused (reception words snr now lent room numbers) n) _ _ (λ _. refl) (λ _. refl);
      }

-- ---- the cells stay as many as they were

call_count : (c : Call) (n : Net) → (outcome c n).station.count ≡ n.station.count
unfolding step
call_count c n = chain_count (step_walk all tt tt tt c n (λ words snr now lent room numbers e. tt))

-- ---- a sign-off

module _ (M : Stays) (n : Net) (b : Book) (tied : Tied (sent_now M b) n b) (slot : ℕ) where
  abbrev ended_by : Bool → Entered Book
  ended_by t = cond t (unchanged b) (unchanged (book_ends slot b))

  abbrev EndGood : Outcome → Type 0
  EndGood o = Tied (sent_now M (ended_by (refused_by o)).left) (net o.station n.store) (ended_by (refused_by o)).left

  -- another slot's stay goes on
  sent_there : (s k : ℕ) → (s ≡ slot → ⊥) → (sent_now M (book_ends slot b)).text s k ≡ (sent_now M b).text s k
  sent_there s k z = ap (λ (t : ℕ). M.text s t k) (stay_there slot b s z)

  watched_there : (s : ℕ) → (s ≡ slot → ⊥) → (sent_now M (book_ends slot b)).watched s ≡ (sent_now M b).watched s
  watched_there s z = ap (M.watched s) (stay_there slot b s z)

  end_good : EndGood (sign_off_of n.station slot)
  unfolding sign_off_of
  end_good =
      cond_keeps EndGood (eqb (sign_off_refusal n.station.used slot) 0) _ _
      (λ q.
      let low = member_lt n.station.used slot (sign_member n.station.used slot (eqb-true _ 0 q)) in
      record { tie = sign_tie (sent_now M b) (sent_now M (book_ends slot b)) slot watched_there sent_there n.station n.store b tied.tie low tied.long; long = (signed slot n.station low tied.long).long })
      (λ q. subst (λ (t : Bool). Tied (sent_now M (ended_by (cond t false true)).left) (net n.station n.store) (ended_by (cond t false true)).left) (sym q) tied)

-- ---- every list of calls

-- f are the messages handed over so far: in the stays that run as the book has it, and in later ones none
pub record Match (b : Book) (f : ℕ → ℕ → ℕ → Bool) : Type 0 where
  pub now : (s k : ℕ) → f s (b.stay s) k ≡ b.ledger.handed s k
  pub later : (s t k : ℕ) → b.stay s < t → f s t k ≡ false

abbrev all_stayed : List Stayed → (ℕ → ℕ → ℕ → Bool) → ℕ → ℕ → ℕ → Bool
all_stayed [] f = f
all_stayed (m ∷ ms) f = all_stayed ms (also_stayed m f)

stayed_append : (ms xs : List Stayed) (f : ℕ → ℕ → ℕ → Bool) → OnceInStay ms f → OnceInStay xs (all_stayed ms f) → OnceInStay (ms ++ xs) f
stayed_append [] xs f o p = p
stayed_append (m ∷ ms) xs f o p = (o.0, stayed_append ms xs (also_stayed m f) o.1 p)

-- a message with its stay, and the same in the stays that run
module _ (stay : ℕ → ℕ) where
  also_now : (f : ℕ → ℕ → ℕ → Bool) (g : ℕ → ℕ → Bool) (m : Message) → ((s k : ℕ) → f s (stay s) k ≡ g s k)
      → (s k : ℕ) → also_stayed (record { slot = m.slot; stay = stay m.slot; number = m.number }) f s (stay s) k ≡ also_handed m.slot m.number g s k
  unfolding also_stayed also_handed
  also_now f g m h s k = at (same m.slot m.number s k) refl
    where
      at : (e : Bool) → same m.slot m.number s k ≡ e → cond (e && eqb (stay m.slot) (stay s)) true (f s (stay s) k) ≡ cond e true (g s k)
      at true q = ap (λ (e : Bool). cond e true (f s (stay s) k)) (eq-eqb (stay m.slot) (stay s) (ap stay (same_true m.slot m.number s k q).0))
      at false q = h s k

  also_later : (f : ℕ → ℕ → ℕ → Bool) (m : Message) → ((s t k : ℕ) → stay s < t → f s t k ≡ false)
      → (s t k : ℕ) → stay s < t → also_stayed (record { slot = m.slot; stay = stay m.slot; number = m.number }) f s t k ≡ false
  unfolding also_stayed
  also_later f m h s t k l = at (same m.slot m.number s k) refl
    where
      at : (e : Bool) → same m.slot m.number s k ≡ e → cond (e && eqb (stay m.slot) t) true (f s t k) ≡ false
      at true q =
          ap (λ (e : Bool). cond e true (f s t k)) (ne_eqb (stay m.slot) t (λ w. let z : stay m.slot ≡ stay s = ap stay (same_true m.slot m.number s k q).0 in omega arith)) ∙ h s t k l
      at false q = h s t k l

  stayed_once : (ms : List Message) (f : ℕ → ℕ → ℕ → Bool) (g : ℕ → ℕ → Bool) → ((s k : ℕ) → f s (stay s) k ≡ g s k) → Once ms g → OnceInStay (stayed stay ms) f
  stayed_once [] f g h o = tt
  stayed_once (m ∷ ms) f g h o = (h m.slot m.number ∙ o.0, stayed_once ms (also_stayed _ f) (also_handed m.slot m.number g) (also_now f g m h) o.1)

  stayed_now : (ms : List Message) (f : ℕ → ℕ → ℕ → Bool) (g : ℕ → ℕ → Bool) → ((s k : ℕ) → f s (stay s) k ≡ g s k)
      → (s k : ℕ) → all_stayed (stayed stay ms) f s (stay s) k ≡ all_handed ms g s k
  stayed_now [] f g h = h
  stayed_now (m ∷ ms) f g h = stayed_now ms (also_stayed _ f) (also_handed m.slot m.number g) (also_now f g m h)

  stayed_later : (ms : List Message) (f : ℕ → ℕ → ℕ → Bool) → ((s t k : ℕ) → stay s < t → f s t k ≡ false)
      → (s t k : ℕ) → stay s < t → all_stayed (stayed stay ms) f s t k ≡ false
  stayed_later [] f h = h
  stayed_later (m ∷ ms) f h = stayed_later ms (also_stayed _ f) (also_later f m h)

-- a call, the stays that run being those of the book
pub record StayGood (M : Stays) (c : Call) (n : Net) (b : Book) : Type 0 where
  pub tied : Tied (sent_now M (book_call (sent_now M b) c n b).left) (step c n) (book_call (sent_now M b) c n b).left
  pub at : AtCall (sent_now M b) n.station.count (in_book c) (answers_of c n).events (book_call (sent_now M b) c n b).out n b
  pub once : Once (book_call (sent_now M b) c n b).out b.ledger.handed
  pub matches : (f : ℕ → ℕ → ℕ → Bool) → Match b f → Match (book_call (sent_now M b) c n b).left (all_stayed (stayed b.stay (book_call (sent_now M b) c n b).out) f)

-- one in which no stay ends
goes_on_lem : (M : Stays) (c : Call) (n : Net) (b : Book) → CallGood (sent_now M b) c n b → StayGood M c n b
goes_on_lem M c n b g =
    let e = book_call (sent_now M b) c n b in
    record {
      tied = subst (λ (stay : ℕ → ℕ). Tied (record { watched = λ s. M.watched s (stay s); text = λ s k. M.text s (stay s) k }) (step c n) e.left) (sym g.stay) g.tied;
      at = g.at;
      once = g.once;
      matches = λ f m.
          record {
            now = λ s k.
                ap (λ (stay : ℕ → ℕ). all_stayed (stayed b.stay e.out) f s (stay s) k) g.stay
                ∙ stayed_now b.stay e.out f b.ledger.handed m.now s k
                ∙ ap (λ (h : ℕ → ℕ → Bool). h s k) (sym g.after);
            later = λ s t k l. stayed_later b.stay e.out f m.later s t k (subst (λ (stay : ℕ → ℕ). stay s < t) g.stay l);
          };
    }

ends_match : (slot : ℕ) (b : Book) (f : ℕ → ℕ → ℕ → Bool) → Match b f → Match (book_ends slot b) f
ends_match slot b f m =
    record {
      now = λ s k.
          ⊎_elim (λ e. subst (λ (y : ℕ). f y ((book_ends slot b).stay y) k ≡ (book_ends slot b).ledger.handed y k) (sym e)
          (ap (λ (t : ℕ). f slot t k) (stay_here slot b) ∙ m.later slot (suc (b.stay slot)) k (omega arith) ∙ sym (ends_here slot b k)))
          (λ z. ap (λ (t : ℕ). f s t k) (stay_there slot b s z) ∙ m.now s k ∙ sym (ends_there slot b s k z)) (eq_or_not s slot);
      later = λ s t k l.
          ⊎_elim (λ e. let w = stay_here slot b in let v : (book_ends slot b).stay s ≡ (book_ends slot b).stay slot = ap (book_ends slot b).stay e in
          let u : b.stay s ≡ b.stay slot = ap b.stay e in m.later s t k (omega arith))
          (λ z. let w = stay_there slot b s z in m.later s t k (omega arith)) (eq_or_not s slot);
    }

signing_good : (M : Stays) (slot : ℕ) (n : Net) (b : Book) → Tied (sent_now M b) n b → StayGood M (signing slot) n b
unfolding step result
signing_good M slot n b tied =
    let t = is_refused (signing slot) n in
    record {
      tied = subst (λ (store : List ℕ). Tied (sent_now M (ended_by M n b tied slot t).left) (net (sign_off_of n.station slot).station store) (ended_by M n b tied slot t).left)
          (sym (same_cond t n.store n.store refl)) (end_good M n b tied slot);
      at = other_events (signing slot) n;
      once = none_out t;
      matches = λ f m. matched t f m;
    }
  where
    none_out : (t : Bool) → Once (cond t (unchanged b) (unchanged (book_ends slot b))).out b.ledger.handed
    none_out true = tt
    none_out false = tt

    matched : (t : Bool) (f : ℕ → ℕ → ℕ → Bool) → Match b f
        → Match (cond t (unchanged b) (unchanged (book_ends slot b))).left (all_stayed (stayed b.stay (cond t (unchanged b) (unchanged (book_ends slot b))).out) f)
    matched true f m = m
    matched false f m = ends_match slot b f m

module _ (M : Stays) (small : (s t k : ℕ) → M.watched s t ≡ true → length (M.text s t k) ≤ 65535) where
  small_now : (b : Book) (s k : ℕ) → (sent_now M b).watched s ≡ true → length ((sent_now M b).text s k) ≤ 65535
  small_now b s k = small s (b.stay s) k

  pub call_good : (c : Call) (n : Net) (b : Book) → Tied (sent_now M b) n b → CallOk (sent_now M b) (in_book c) (answers_of c n) b → StayGood M c n b
  unfolding result
  call_good (admission packed relay now room) n b t ok =
      goes_on_lem M (admission packed relay now room) n b
      (quiet_call (sent_now M b) (admission packed relay now room) n b t (admission_kept n.station packed relay now room) refl refl (other_events (admission packed relay now room) n))
  call_good (reception words snr now lent room numbers) n b t ok =
      goes_on_lem M (reception words snr now lent room numbers) n b (reception_good (sent_now M b) (small_now b) n b t numbers snr now words lent room ok)
  call_good (decision now queue room) n b t ok =
      goes_on_lem M (decision now queue room) n b
      (quiet_call (sent_now M b) (decision now queue room) n b t (decision_kept n.station now queue room) refl refl (other_events (decision now queue room) n))
  call_good (posting slot message queue) n b t ok =
      goes_on_lem M (posting slot message queue) n b
      (quiet_call (sent_now M b) (posting slot message queue) n b t (posting_kept n.station slot message queue) refl refl (other_events (posting slot message queue) n))
  call_good (sending now) n b t ok =
      goes_on_lem M (sending now) n b (quiet_call (sent_now M b) (sending now) n b t (sending_kept n.station now) refl refl (other_events (sending now) n))
  call_good (closing count) n b t ok =
      goes_on_lem M (closing count) n b (quiet_call (sent_now M b) (closing count) n b t (closing_kept n.station count) refl refl (other_events (closing count) n))
  call_good (reading cell lent) n b t ok =
      goes_on_lem M (reading cell lent) n b
      (quiet_call (sent_now M b) (reading cell lent) n b t (reading_kept cell lent n) refl refl (other_events (reading cell lent) n, reads (sent_now M b) n b t cell))
  call_good (freeing cell) n b t ok = goes_on_lem M (freeing cell) n b (freeing_good (sent_now M b) n b t cell)
  call_good (charging figures) n b t ok =
      goes_on_lem M (charging figures) n b (quiet_call (sent_now M b) (charging figures) n b t (charging_kept figures n) refl refl (other_events (charging figures) n))
  call_good (signing slot) n b t ok = signing_good M slot n b t
  call_good (asking slot) n b t ok =
      goes_on_lem M (asking slot) n b (quiet_call (sent_now M b) (asking slot) n b t (asking_kept slot n) refl refl (other_events (asking slot) n))

  calls_hold : (count : ℕ) (cs : List Call) (n : Net) (b : Book) → n.station.count ≡ count → Tied (sent_now M b) n b → CallsOk M cs n b → Holds M count cs n b
  unfolding CallsOk Holds step
  calls_hold count [] n b e t ok = tt
  calls_hold count (c ∷ cs) n b e t ok =
      let g = call_good c n b t ok.0 in (
        subst (λ (k : ℕ). AtCall (sent_now M b) k (in_book c) (answers_of c n).events (book_call (sent_now M b) c n b).out n b) e g.at,
        calls_hold count cs (step c n) (book_call (sent_now M b) c n b).left (call_count c n ∙ e) g.tied ok.1,
      )

  calls_once : (cs : List Call) (n : Net) (b : Book) (f : ℕ → ℕ → ℕ → Bool) → Match b f → Tied (sent_now M b) n b → CallsOk M cs n b → OnceInStay (handed_in M cs n b) f
  unfolding CallsOk handed_in
  calls_once [] n b f m t ok = tt
  calls_once (c ∷ cs) n b f m t ok =
      let g = call_good c n b t ok.0 in
      let e = book_call (sent_now M b) c n b in
      stayed_append (stayed b.stay e.out) (handed_in M cs (step c n) e.left) f
      (stayed_once b.stay e.out f b.ledger.handed m.now g.once)
      (calls_once cs (step c n) e.left (all_stayed (stayed b.stay e.out) f) (g.matches f m) g.tied ok.1)

pub messages_kept : (M : Stays) → ((s t k : ℕ) → M.watched s t ≡ true → length (M.text s t k) ≤ 65535) → (s : Station) (g : Given) (store : List ℕ) → start_refusal g (length store) ≡ 0
    → (cs : List Call) → CallsOk M cs (started s g store) empty_book → Messages M (started s g store) cs
messages_kept M small s g store e cs ok =
    let t = started_tied (sent_now M empty_book) s g store e in
    record {
      calls = calls_hold M small (started s g store).station.count cs (started s g store) empty_book refl t ok;
      once = calls_once M small cs (started s g store) empty_book (λ s t k. false) (record { now = λ s k. refl; later = λ s t k l. refl }) t ok;
    }
