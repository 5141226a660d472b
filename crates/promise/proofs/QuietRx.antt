-- The frames of a reception that are no pieces, and its end, leave every message alone, and write no event 2. Assumes nothing.
use mathlib.Core.Path.{◌≡◌, refl, ap}
use Prim.Native.Nat.{ℕ}
use mathlib.Core.Bool.{Bool, true, false}
use mathlib.Core.List.{List, [], ◌∷◌, ◌++◌}
use lib.ListN.{get_or}
use Rattle.words.specs.declared.Head.{Head}
use Rattle.net.specs.declared.Station.{Station}
use Rattle.net.specs.Net.{Said}
use Rattle.frames.specs.declared.Air.{Air}
use Rattle.frames.specs.Reading.{Reading, also_said, on_station}
use Rattle.frames.specs.Control.{is_forwarded, report_says, report_station, report_frame}
use Rattle.frames.specs.Frames.{control_by}
use Rattle.rx.specs.Ending.{idle_end, reply_end, Ended}
use Rattle.promise.specs.Promise.{events_in}
use Rattle.promise.proofs.FrameCases.{control_cases}
use Rattle.promise.proofs.Events.{append_quiet}
use Rattle.promise.proofs.Short.{short_events, short_spoken}
use Rattle.promise.proofs.Quiet.{Keeps, kept_self}
use Rattle.promise.proofs.QuietWalk.{uncelled, keeps}
use Rattle.promise.proofs.Walk.{start}
use Rattle.promise.proofs.WalkRx.{checkin_walk, report_walk, overheard_walk, kids_walk}
use Rattle.promise.proofs.WalkWords.{checkin_events, overheard_events, kids_events}
use Rattle.promise.proofs.Spoken.{spoken_walk, idle_spoken, reply_spoken}

-- no event 2 is among the words
abbrev NoEvent : List ℕ → Type 0
NoEvent ws = events_in ws ≡ []

-- ---- the end of a reception

abbrev pub QuietEnd : Station → Ended → Type 0
QuietEnd s e = Keeps s e.station × NoEvent e.burst

pub idle_kept : (a : Air) (extra : ℕ) (s : Station) → QuietEnd s (idle_end a extra s)
idle_kept a extra s = let k = idle_spoken uncelled tt a.time [] 0 a tt extra s in (keeps (spoken_walk uncelled tt k), (short_spoken k).quiet)

pub reply_kept : (a : Air) (h : Head) (x : Reading) → QuietEnd x.station (reply_end a h x)
reply_kept a h x = let k = reply_spoken uncelled tt a.time [] 0 a tt h x in (keeps (spoken_walk uncelled tt k), (short_spoken k).quiet)

-- ---- a control frame

pub record Untouched (x y : Reading) : Type 0 where
  pub station : Keeps x.station y.station
  pub store : y.store ≡ x.store
  pub events : events_in y.words ≡ events_in x.words ++ []
  pub frame : y.frame ≡ x.frame
  pub unkept : y.unkept ≡ x.unkept
  pub seen : y.seen ≡ x.seen

append_none : {A : Type 0} (l : List A) → l ≡ l ++ []
append_none [] = refl
append_none (x ∷ l) = ap (λ (r : List _). x ∷ r) (append_none l)

pub untouched : (x : Reading) → Untouched x x
untouched x = record { station = kept_self x.station; store = refl; events = append_none (events_in x.words); frame = refl; unkept = refl; seen = refl }

said_untouched : (x : Reading) (d : Said) → Keeps x.station d.station → NoEvent d.words → Untouched x (also_said x d)
said_untouched x d k q =
    record { station = k; store = refl; events = append_quiet x.words d.words (events_in x.words) refl q; frame = refl; unkept = refl; seen = refl }

report_untouched : (a : Air) (len : ℕ) (p : List ℕ) (x : Reading) → Untouched x (report_frame a len p x)
unfolding report_frame
report_untouched a len p x = at (is_forwarded a x.station (get_or p 1 0))
  where
    k : Keeps x.station (report_station a len p (get_or p 1 0) x.station)
    k = keeps (report_walk uncelled a tt x.station len p (get_or p 1 0) x.station start)

    at : (b : Bool) → Untouched x (on_station (report_says b p x) (report_station a len p (get_or p 1 0) x.station))
    at true = record { station = k; store = refl; events = append_none (events_in x.words); frame = refl; unkept = refl; seen = refl }
    at false = record { station = k; store = refl; events = append_none (events_in x.words); frame = refl; unkept = refl; seen = refl }

pub control_untouched : (a : Air) (slot b len : ℕ) (p : List ℕ) (x : Reading) → Untouched x (control_by a slot b len p x)
control_untouched a slot b len p x =
    control_cases (Untouched x) a x (untouched x) slot b len p
    (said_untouched x _ (keeps (checkin_walk uncelled a tt len p x.station)) (short_events (checkin_events ⊥ a len p x.station)).quiet)
    (report_untouched a len p x)
    (said_untouched x _ (keeps (overheard_walk uncelled a tt len p slot x.station)) (short_events (overheard_events ⊥ a len p slot x.station)).quiet)
    (said_untouched x _ (keeps (kids_walk uncelled a tt len p slot x.station)) (short_events (kids_events ⊥ a len p slot x.station)).quiet)
