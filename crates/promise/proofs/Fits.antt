-- What a boat's piece leaves of cells, store and windows, whatever the boat sends. Assumes nothing.
use Rattle.std.specs.Prelude.{is_some}
use mathlib.Core.Path.{◌≡◌, refl, ap, ◌∙◌, subst}
use mathlib.Core.Bool.{Bool, true, false, cond, ◌&&◌}
use mathlib.Core.List.{List}
use Prim.Native.Nat.{ℕ, ◌≤◌}
use lib.ListN.{length}
use lib.Dec.{eqb}
use borrow.Author.Tests.{eqb-true}
use Rattle.bits.proofs.Lists.{never_both}
use Rattle.stream.specs.declared.window.Window.{Window}
use Rattle.stream.specs.Window.{land_of, bar_of}
use Rattle.stream.specs.Table.{Table, Accepted, accept}
use Rattle.stream.proofs.Tables.{Tidy}
use Rattle.stream.proofs.Windows.{Sound}
use Rattle.stream.proofs.Accepts.{accept_cases, accept_tidy, accept_window}
use Rattle.promise.proofs.Ties.{View}
use Rattle.promise.proofs.Pieces.{windows_after, view_after, windows_barred, view_barred}

-- one to 64 cells, all in the store, and no message in two of them; every slot's window in its bounds
pub record FitView (v : View) : Type 0 where
  pub tidy : Tidy v.table v.store
  pub sound : (i : ℕ) → Sound (v.windows i)

-- ---- a piece

pub accept_land : (t : Table) (w : Window) (store : List ℕ) (slot field : ℕ) (p : List ℕ)
    → let x = accept t w store slot field p in x.window ≡ cond (is_some x.landed) (land_of w x.number) (cond x.bars (bar_of w x.number) w)
accept_land t w store slot field p =
    accept_cases t w store slot field p (λ x. x.window ≡ cond (is_some x.landed) (land_of w x.number) (cond x.bars (bar_of w x.number) w))
    (λ e. refl) (λ k e h. refl) (λ k o a q c z. refl) (λ k o q. refl) (λ k o q. refl)

-- a piece that is heard bars nothing
pub accept_heard : (t : Table) (w : Window) (store : List ℕ) (slot field : ℕ) (p : List ℕ) → (accept t w store slot field p).lost ≡ false
    → (accept t w store slot field p).bars ≡ false
accept_heard t w store slot field p =
    accept_cases t w store slot field p (λ x. x.lost ≡ false → x.bars ≡ false)
    (λ e l. refl) (λ k e h l. refl) (λ k o a q c z l. refl) (λ k o q l. absurd (never_both true refl l)) (λ k o q l. refl)

pub accept_bar : (t : Table) (w : Window) (store : List ℕ) (slot field : ℕ) (p : List ℕ) → (accept t w store slot field p).bars ≡ true
    → ((accept t w store slot field p).window ≡ bar_of w (accept t w store slot field p).number) × ((accept t w store slot field p).store ≡ store)
accept_bar t w store slot field p =
    accept_cases t w store slot field p (λ x. x.bars ≡ true → (x.window ≡ bar_of w x.number) × (x.store ≡ store))
    (λ e b. absurd (never_both false b refl)) (λ k e h b. absurd (never_both false b refl)) (λ k o a q c z b. absurd (never_both false b refl))
    (λ k o q b. (refl, refl)) (λ k o q b. absurd (never_both false b refl))

-- what it leaves
module _ (v : View) (slot field : ℕ) (p : List ℕ) (f : FitView v) (short : length p ≤ 255) where
  abbrev r : Accepted
  r = accept v.table (v.windows slot) v.store slot field p

  moved_sound : Sound r.window
  moved_sound = (accept_window v.table (v.windows slot) v.store slot field p f.tidy short (f.sound slot)).0

  -- a message that lands is marked in the boat's window
  module _ (kept : r.lost ≡ false) where
    land_sound : Sound (cond (is_some r.landed) (land_of (v.windows slot) r.number) (v.windows slot))
    land_sound =
        let w = v.windows slot in
        subst Sound
        (accept_land v.table w v.store slot field p
        ∙ ap (λ (b : Bool). cond (is_some r.landed) (land_of w r.number) (cond b (bar_of w r.number) w)) (accept_heard v.table w v.store slot field p kept))
        moved_sound

    after_sound : (i : ℕ) → Sound (windows_after v.windows slot (is_some r.landed) r.number i)
    after_sound i = at (is_some r.landed) land_sound (eqb slot i) refl
      where
        at : (b : Bool) → Sound (cond b (land_of (v.windows slot) r.number) (v.windows slot)) → (t : Bool) → eqb slot i ≡ t → Sound (cond (b && t) (land_of (v.windows i) r.number) (v.windows i))
        at true s true e = subst (λ (y : ℕ). Sound (land_of (v.windows y) r.number)) (eqb-true slot i e) s
        at true s false e = f.sound i
        at false s t e = f.sound i

    pub piece_fit : FitView (view_after v slot r)
    piece_fit = record { tidy = accept_tidy v.table (v.windows slot) v.store slot field p f.tidy short; sound = after_sound }

  -- one that claims too much is barred there
  module _ (bars : r.bars ≡ true) where
    bar_is : (r.window ≡ bar_of (v.windows slot) r.number) × (r.store ≡ v.store)
    bar_is = accept_bar v.table (v.windows slot) v.store slot field p bars

    barred_sound : (i : ℕ) → Sound (windows_barred v.windows slot r.number i)
    barred_sound i = at (eqb slot i) refl
      where
        at : (t : Bool) → eqb slot i ≡ t → Sound (cond t (bar_of (v.windows i) r.number) (v.windows i))
        at true e = subst (λ (y : ℕ). Sound (bar_of (v.windows y) r.number)) (eqb-true slot i e) (subst Sound bar_is.0 moved_sound)
        at false e = f.sound i

    pub barred_fit : FitView (view_barred v slot r)
    barred_fit =
        record { tidy = subst (Tidy r.table) bar_is.1 (accept_tidy v.table (v.windows slot) v.store slot field p f.tidy short); sound = barred_sound }
