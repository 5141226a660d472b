-- A control frame leaves the number of cells as it was. Assumes nothing.
use mathlib.Core.Path.{◌≡◌, refl, ◌∙◌}
use mathlib.Core.Bool.{Bool, true, false, cond}
use mathlib.Core.List.{List, []}
use Prim.Native.Nat.{ℕ, zero, suc, ◌+◌}
use lib.Dec.{eqb, leb}
use lib.ListN.{get_or}
use lib.Ieee.{Float}
use Rattle.bits.proofs.Lists.{cond_keeps}
use Rattle.net.specs.declared.Station.{Station}
use Rattle.net.specs.State.{index_of, with_member, member_at, with_hears, also_noted}
use Rattle.net.specs.Net.{Said, said, is_member}
use Rattle.admit.specs.declared.Seat.{Seat}
use Rattle.admit.specs.declared.Seat.TheVariants.{Known, Free, Full}
use Rattle.admit.specs.Admission.{admit_by, seat_of, slot_of}
use Rattle.frames.specs.declared.Air.{Air}
use Rattle.frames.specs.Code.Kinds.{Kind, Nothing, Piece, Checkin, Report, Overheard, Kids}
use Rattle.frames.specs.Control.{each_entry, checkin_frame, checkin_member, seated_in, call_at, with_active, overheard_by, overheard_entry, overheard_frame, relay_of, heard_by, hearing, newcomer, kid_by, kid_entry, kids_frame, is_kid}
use Rattle.frames.specs.Code.Control.{control_says}

-- what each entry keeps, all of them keep
each_keeps : {A : Type 0} (P : A → Type 0) (f : ℕ → A → A) (w len : ℕ) → ((e : ℕ) (x : A) → P x → P (f e x)) → (n e : ℕ) (x : A) → P x → P (each_entry f w len n e x)
unfolding each_entry
each_keeps P f w len k zero e x h = h
each_keeps P f w len k (suc n) e x h =
    cond_keeps P (leb (e + w) len) _ x (λ t. each_keeps P f w len k n (e + w) (f e x) (k e x h)) (λ t. h)

-- ### Check-in

admit_count : (seat : Seat) (s : Station) (call : List ℕ) (via : ℕ) (now : Float) → (admit_by seat s call via now).station.count ≡ s.count
admit_count (Known i) s call via now = refl
admit_count (Free i) s call via now = refl
admit_count Full s call via now = refl

member_in_count : (seat : Seat) (a : Air) (len : ℕ) (p : List ℕ) (d : Said) → (seated_in seat a len p d).station.count ≡ d.station.count
member_in_count seat a len p d = at (eqb (slot_of seat) 255)
  where
    at : (t : Bool)
        → (cond t (with_active d.station) (also_noted (with_member (with_active d.station) (slot_of seat) (checkin_member a len p (member_at (with_active d.station) (slot_of seat)))) (index_of (slot_of seat)) a.level)).count ≡ d.station.count
    at true = refl
    at false = refl

-- ### Overheard

heard_count : (slot c q : ℕ) (s : Station) → (heard_by slot c q s).count ≡ s.count
heard_count slot c q s = at (is_member s.used slot)
  where
    at : (t : Bool) → (cond t (with_hears s (hearing slot c q s.hears)) s).count ≡ s.count
    at true = refl
    at false = refl

overheard_count : (seat : Seat) (a : Air) (p : List ℕ) (e slot via : ℕ) (x : Said) → (overheard_by seat a p e slot via x).station.count ≡ x.station.count
overheard_count (Known i) a p e slot via x = refl
overheard_count (Free c) a p e slot via x =
    let d = admit_by (Free c) x.station (call_at p e) via a.time in
    heard_count slot c (get_or p (e + 5) 0) (with_member d.station c (newcomer p e (member_at d.station c)))
overheard_count Full a p e slot via x = refl

-- ### Children

kid_count : (a : Air) (slot c b : ℕ) (x : Said) → (kid_by a slot c b x).station.count ≡ x.station.count
kid_count a slot c b x = cond_keeps (λ (y : Said). y.station.count ≡ x.station.count) (is_kid x.station c slot) _ x (λ _. refl) (λ _. refl)

-- ### Each

pub control_count : (kind : Kind) (a : Air) (slot len : ℕ) (p : List ℕ) (s : Station) → (control_says kind a slot len p s).station.count ≡ s.count
unfolding checkin_frame overheard_frame overheard_entry kids_frame kid_entry
control_count Nothing a slot len p s = refl
control_count Piece a slot len p s = refl
control_count Checkin a slot len p s =
    let seat = seat_of s (call_at p 1) in
    member_in_count seat a len p (admit_by seat s (call_at p 1) 63 a.time) ∙ admit_count seat s (call_at p 1) 63 a.time
control_count Report a slot len p s = refl
control_count Overheard a slot len p s =
    each_keeps (λ x. x.station.count ≡ s.count) (overheard_entry a p slot (relay_of s slot)) 8 len
    (λ e x h. overheard_count (seat_of x.station (call_at p e)) a p e slot (relay_of s slot) x ∙ h) 32 1 (said s []) refl
control_count Kids a slot len p s =
    each_keeps (λ x. x.station.count ≡ s.count) (kid_entry a p slot) 2 len
    (λ e x h. kid_count a slot (get_or p e 0) (get_or p (e + 1) 0) x ∙ h) 128 1 (said s []) refl
