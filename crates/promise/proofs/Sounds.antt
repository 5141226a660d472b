-- With no premise on pieces: from a start that is not refused, every call leaves cells, store and windows what they are known to be. Assumes nothing.
use mathlib.Core.Path.{◌≡◌, refl, sym, ap, ◌∙◌, subst}
use mathlib.Core.Bool.{false, cond}
use mathlib.Core.List.{List, [], ◌∷◌}
use mathlib.Core.Logic.{⊎_elim}
use Prim.Native.Nat.{ℕ, ◌*◌, ◌/◌, ◌%◌, ◌≤◌, ◌<◌}
use native.Mathlib.Omega.{arith}
use lib.ListN.{length}
use lib.Dec.{eqb}
use lib.Ieee.{Float}
use borrow.Author.Tests.{eqb-true}
use Rattle.bits.proofs.Lists.{cond_keeps, eq_or_not}
use Rattle.level.specs.Spans.{within}
use Rattle.wire.specs.Kinds.{tiny}
use Rattle.words.specs.Words.{Heard, Burst, parsed}
use Rattle.words.specs.Fine.{Fine, AllFine}
use Rattle.stream.specs.Table.{Table}
use Rattle.stream.proofs.Tables.{Tidy, freed_tidy}
use Rattle.stream.proofs.Windows.{Sound, sound_fresh}
use Rattle.net.specs.declared.Station.{Station}
use Rattle.net.specs.State.{table_of}
use Rattle.frames.specs.declared.Air.{Air}
use Rattle.frames.specs.Reading.{Reading}
use Rattle.frames.specs.Frames.{frame_step, read_frames}
use Rattle.rx.specs.Reception.{Received, air_of, ncs_rx}
use Rattle.config.specs.declared.Given.{Given}
use Rattle.station.specs.Entries.{Outcome, receive_of, start_refusal, cell_refusal, free_of}
use Rattle.promise.specs.Promise.{Lent, lent_to, Net, net, Call, admission, reception, decision, sending, closing, reading, freeing, charging, signing, result, outcome, is_refused, step, after, started, frames_by, asking, posting}
use Rattle.signoff.specs.SignOff.{sign_off}
use Rattle.station.specs.SignOff.{sign_off_refusal, sign_off_of}
use Rattle.net.proofs.Laws.{member_lt}
use Rattle.promise.proofs.Signs.{sign_member, signed, cleared_tidy}
use Rattle.promise.proofs.SignTies.{window_gone, window_still}
use Rattle.promise.proofs.Fits.{FitView, piece_fit, barred_fit}
use Rattle.promise.proofs.Quiet.{window_at, Keeps, view_of, kept_view}
use Rattle.promise.proofs.WalkFrames.{view_in, FrameRead, other, unkept, barred, piece, step_reads, first_in, rx_end}
use Rattle.promise.proofs.Messages.{started_tied, admission_kept, decision_kept, sending_kept, closing_kept, reading_kept, charging_kept, asking_kept, same_cond, posting_kept}
use Rattle.promise.proofs.Outcomes.{refused_by, receive_cases}

pub record Fit (n : Net) : Type 0 where
  pub view : FitView (view_of n.station n.store)
  pub long : length n.station.members ≡ 62

-- ---- a reception

pub record FitRead (x : Reading) : Type 0 where
  pub view : FitView (view_in x)
  pub long : length x.station.members ≡ 62

read_fit : (x y : Reading) (h : Heard) → Fine h → FitRead x → FrameRead x y h → FitRead y
read_fit x y h k f (other q s) = record { view = subst FitView (sym s.view) f.view; long = s.long }
read_fit x y h k f (unkept flags field p b q z s) = record { view = subst FitView (sym s.view) f.view; long = s.long }
read_fit x y h k f (barred flags field p b q s) =
    record { view = subst FitView (sym s.view) (barred_fit (view_in x) (flags % 64) field p f.view (omega (arith, k.2)) q); long = s.long }
read_fit x y h k f (piece flags field p b q s) =
    record { view = subst FitView (sym s.view) (piece_fit (view_in x) (flags % 64) field p f.view (omega (arith, k.2)) q); long = s.long }

-- so each frame is read as WalkFrames has it
pub fit_frame : (a : Air) (h : Heard) (x : Reading) → FitRead x → FrameRead x (frame_step a h x) h
fit_frame a h x f = step_reads a x f.view.tidy f.long h

pub step_read_fit : (a : Air) (h : Heard) (x : Reading) → Fine h → FitRead x → FitRead (frame_step a h x)
step_read_fit a h x k f = read_fit x (frame_step a h x) h k f (fit_frame a h x f)

frames_fit : (a : Air) (fs : List Heard) (x : Reading) → AllFine fs → FitRead x → FitRead (read_frames a fs x)
unfolding read_frames
frames_fit a [] x k f = f
frames_fit a (h ∷ fs) x (AllFine.more g k) f = frames_fit a fs (frame_step a h x) k (step_read_fit a h x g f)

pub read_fine : (u : Burst) → AllFine u.frames → AllFine (frames_by (parsed u))
read_fine u k = cond_keeps AllFine (eqb u.head.code tiny) [] u.frames (λ _. AllFine.none) (λ _. k)

pub first_fit : (s : Station) (u : Burst) (now : Float) (store : List ℕ) → Fit (net s store) → FitRead (first_in s u now store)
first_fit s u now store f = record { view = f.view; long = f.long }

-- only the store's length counts
other_store : (t : Table) (store st : List ℕ) → 6400 * t.count ≤ length st → Tidy t store → Tidy t st
other_store t store st h d =
    record {
      some = d.some;
      most = d.most;
      room = h;
      owners = d.owners;
      cells = d.cells;
      busy = d.busy;
      landed = d.landed;
      within = d.within;
      taken = d.taken;
      fits = d.fits;
      one = d.one;
    }

abbrev FitReceived : Received → Type 0
FitReceived r = Fit (net r.station r.store)

rx_fit : (s : Station) (u : Burst) (snr now : Float) (store : List ℕ) → AllFine u.frames → Fit (net s store) → FitReceived (ncs_rx s u snr now store)
rx_fit s u snr now store k f =
    let c = rx_end s u snr now store in
    let g = frames_fit (air_of s u.head snr now) (frames_by (parsed u)) (first_in s u now store) (read_fine u k) (first_fit s u now store f) in
    record { view = subst FitView (sym c.view) g.view; long = c.long ∙ g.long }

-- lent any store for all the cells
pub lent_fit : (n : Net) (st : List ℕ) → 6400 * n.station.count ≤ length st → Fit n → Fit (net n.station st)
lent_fit n st l f = record { view = record { tidy = other_store (table_of n.station) n.store st l f.view.tidy; sound = f.view.sound }; long = f.long }

receive_fit : (n : Net) (words : List ℕ) (snr now : Float) (st : List ℕ) (room : ℕ) → Fit n
    → Fit (net (receive_of n.station words snr now st room).station (cond (refused_by (receive_of n.station words snr now st room)) n.store (receive_of n.station words snr now st room).store))
receive_fit n words snr now st room f =
    receive_cases (λ w o. Fit (net o.station (cond (refused_by o) n.store o.store))) n.station words snr now st room
    (λ w m q. rw q (record { view = f.view; long = f.long }))
    (λ u g l. rx_fit n.station u snr now st g.frames (lent_fit n st l f))

-- ---- the calls

-- one that leaves every message and the store alone
pub quiet_view : (c : Call) (n : Net) → Keeps n.station (outcome c n).station → (result c n).store ≡ n.store → view_of (step c n).station (step c n).store ≡ view_of n.station n.store
unfolding step
quiet_view c n k q =
    ap (view_of (outcome c n).station) (same_cond (is_refused c n) n.store (result c n).store (sym q)) ∙ kept_view n.station (outcome c n).station n.store k

quiet_fit : (c : Call) (n : Net) → Fit n → Keeps n.station (outcome c n).station → (result c n).store ≡ n.store → Fit (step c n)
unfolding step
quiet_fit c n f k q = record { view = subst FitView (sym (quiet_view c n k q)) f.view; long = k.long ∙ f.long }

free_fit : (s : Station) (store : List ℕ) (cell : ℕ) → Fit (net s store) → Fit (net (free_of s cell).station store)
unfolding free_of
free_fit s store cell f =
    cond_keeps (λ (o : Outcome). Fit (net o.station store)) (eqb (cell_refusal s.count s.landed cell) 0) _ _
    (λ _. record { view = record { tidy = freed_tidy (table_of s) store f.view.tidy cell; sound = f.view.sound }; long = f.long })
    (λ _. record { view = f.view; long = f.long })

freeing_fit : (cell : ℕ) (n : Net) → Fit n → Fit (step (freeing cell) n)
unfolding step result
freeing_fit cell n f =
    subst (λ (store : List ℕ). Fit (net (free_of n.station cell).station store)) (sym (same_cond (is_refused (freeing cell) n) n.store n.store refl))
    (free_fit n.station n.store cell (record { view = f.view; long = f.long }))

sign_fit : (s : Station) (store : List ℕ) (slot : ℕ) → Fit (net s store) → Fit (net (sign_off_of s slot).station store)
unfolding sign_off_of
sign_fit s store slot f =
    cond_keeps (λ (o : Outcome). Fit (net o.station store)) (eqb (sign_off_refusal s.used slot) 0) _ _ (λ q. by (member_lt s.used slot (sign_member s.used slot (eqb-true _ 0 q)))) (λ _. f)
  where
    by : slot < 62 → Fit (net (sign_off s slot) store)
    by low =
        let d = signed slot s low f.long in
        record {
          view = record {
            tidy = subst (λ (t : Table). Tidy t store) (sym d.table) (cleared_tidy slot (table_of s) store f.view.tidy);
            sound = λ i. ⊎_elim (λ e. subst (λ (y : ℕ). Sound (window_at (sign_off s slot) y)) (sym e) (subst Sound (sym (window_gone slot s low f.long)) sound_fresh))
                (λ z. subst Sound (sym (window_still slot s low f.long i z)) (f.view.sound i)) (eq_or_not i slot);
          };
          long = d.long;
        }

signing_fit : (slot : ℕ) (n : Net) → Fit n → Fit (step (signing slot) n)
unfolding step result
signing_fit slot n f =
    subst (λ (store : List ℕ). Fit (net (sign_off_of n.station slot).station store)) (sym (same_cond (is_refused (signing slot) n) n.store n.store refl))
    (sign_fit n.station n.store slot (record { view = f.view; long = f.long }))

reception_fit : (words : List ℕ) (snr now : Float) (lent : Lent) (room : ℕ) (numbers : List ℕ) (n : Net) → Fit n → Fit (step (reception words snr now lent room numbers) n)
unfolding step result
reception_fit words snr now lent room numbers n f = receive_fit n words snr now (lent_to lent n.store) room f

pub step_fit : (c : Call) (n : Net) → Fit n → Fit (step c n)
unfolding result
step_fit (admission packed relay now room) n f =
    quiet_fit (admission packed relay now room) n f (admission_kept n.station packed relay now room) refl
step_fit (reception words snr now lent room numbers) n f = reception_fit words snr now lent room numbers n f
step_fit (decision now queue room) n f = quiet_fit (decision now queue room) n f (decision_kept n.station now queue room) refl
step_fit (posting slot message queue) n f = quiet_fit (posting slot message queue) n f (posting_kept n.station slot message queue) refl
step_fit (sending now) n f = quiet_fit (sending now) n f (sending_kept n.station now) refl
step_fit (closing count) n f = quiet_fit (closing count) n f (closing_kept n.station count) refl
step_fit (reading cell lent) n f = quiet_fit (reading cell lent) n f (reading_kept cell lent n) refl
step_fit (freeing cell) n f = freeing_fit cell n f
step_fit (charging figures) n f = quiet_fit (charging figures) n f (charging_kept figures n) refl
step_fit (signing slot) n f = signing_fit slot n f
step_fit (asking slot) n f = quiet_fit (asking slot) n f (asking_kept slot n) refl

pub after_fit : (cs : List Call) (n : Net) → Fit n → Fit (after cs n)
unfolding after
after_fit [] n f = f
after_fit (c ∷ cs) n f = after_fit cs (step c n) (step_fit c n f)

-- every list of calls from a start that is not refused
pub runs_fit : (s : Station) (g : Given) (store : List ℕ) → start_refusal g (length store) ≡ 0 → (cs : List Call) → Fit (after cs (started s g store))
runs_fit s g store e cs =
    let t = started_tied (record { watched = λ x. false; text = λ x k. [] }) s g store e in
    after_fit cs (started s g store) (record { view = record { tidy = t.tie.tidy; sound = t.tie.sound }; long = t.long })
