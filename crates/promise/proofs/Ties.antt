-- The invariant that ties the station's cells, store and windows to the book, and what a cell that is written anew leaves of it. Assumes nothing.
use Rattle.std.specs.Prelude.{Option, Some, None}
use mathlib.Core.Path.{◌≡◌, refl, sym, ap, ◌∙◌, subst}
use mathlib.Core.Bool.{Bool, true, false, cond}
use mathlib.Core.List.{List, []}
use mathlib.Core.Logic.{⊎_elim}
use Prim.Native.Nat.{ℕ, ◌+◌, ◌/◌, ◌%◌, ◌^◌, ◌≤◌, ◌<◌}
use native.Mathlib.Omega.{arith}
use lib.ListN.{length, get_or, replicate, length-replicate}
use Rattle.bits.specs.Mask.{has_bit}
use Rattle.bits.proofs.Lists.{eq_or_not, never_both}
use Rattle.inbox.specs.declared.cell.Cell.{Cell}
use Rattle.inbox.specs.declared.keep.Kept.TheVariants.{Needless}
use Rattle.inbox.specs.Keeping.{kept_of}
use Rattle.inbox.specs.Cells.{Held, held}
use Rattle.inbox.specs.Stores.{cell_of, body_of}
use Rattle.inbox.specs.Messages.{empty_cell, framed, Cut, shows_of}
use Rattle.inbox.proofs.Joined.{Inv}
use Rattle.inbox.proofs.Parts.{cell_length}
use Rattle.stream.specs.declared.window.Window.{Window}
use Rattle.stream.specs.declared.table.Room.{Room}
use Rattle.stream.specs.declared.table.Room.TheVariants.{Own, Free, Full}
use Rattle.stream.specs.Window.{handed_of, barred_of}
use Rattle.stream.specs.Table.{Table, cell_at, owner_of, is_own, cell_count, place_of, has_room, cell_for, held_for, table_room}
use Rattle.stream.proofs.Rooms.{filling_own, RoomIs, cells_are}
use Rattle.stream.proofs.Tables.{filling, Tidy, table_room_lem}
use Rattle.stream.proofs.Windows.{Sound}
use Rattle.promise.specs.Promise.{Sent, Message, Ledger, same, all_below}
use Rattle.promise.proofs.Ledgers.{Cov, part_of, part_room, same_true, same_self, empty_inv, needless_covered}
use Rattle.promise.proofs.Modest.{shows_modest, empty_modest}

-- the cells, the store, and for each slot its window
pub record View : Type 0 where
  pub table : Table
  pub store : List ℕ
  pub windows : ℕ → Window

-- what a cell is for: nothing; message k of slot s comes into it, or stands in it whole
pub data Use : Type 0 where
  Vacant : Use
  Comes : (s k : ℕ) → Use
  Whole : (s k : ℕ) → Use

-- a cell's owner is slot * 2 ^ 32 + number
abbrev pub use_of : Bool → Bool → ℕ → Use
use_of false landed owner = Vacant
use_of true false owner = Comes (owner / 4294967296) (owner % 4294967296)
use_of true true owner = Whole (owner / 4294967296) (owner % 4294967296)

abbrev pub use_at : Table → ℕ → Use
use_at t c = use_of (has_bit t.busy c) (has_bit t.landed c) (get_or t.owners c 0)

abbrev pub held_at : View → ℕ → Held
held_at v c = held (cell_at v.table c) (cell_of v.store c)

-- a cell that a message of this body comes into, of which f is covered
pub record Coming (body : List ℕ) (f : ℕ → Bool) (handed : Bool) (h : Held) : Type 0 where
  pub not_yet : handed ≡ false
  pub inv : Inv (part_of body) (Cov f) h

-- nothing is known of a cell of a boat that is not watched
abbrev pub FineAt : Sent → Ledger → Use → Held → Type 0
FineAt M l Vacant h = Unit {0}
FineAt M l (Comes s k) h = M.watched s ≡ true → Coming (M.text s k) (l.covered s k) (l.handed s k) h
FineAt M l (Whole s k) h = M.watched s ≡ true → body_of h.bytes ≡ M.text s k

-- but that it is in use: it was entered with the eight bits of the number that its event has
abbrev pub entry_of : Sent → Use → Option Message
entry_of M Vacant = None
entry_of M (Comes s k) = None
entry_of M (Whole s k) = Some (record { slot = s; number = cond (M.watched s) k (k % 256) })

pub record Tie (M : Sent) (v : View) (l : Ledger) (e : ℕ → Option Message) : Type 0 where
  pub tidy : Tidy v.table v.store
  pub sound : (s : ℕ) → Sound (v.windows s)
  -- what is barred claims too much
  pub claimed : (s k : ℕ) → M.watched s ≡ true → barred_of (v.windows s) k ≡ true → 2046 < length (M.text s k)
  -- handed over in the book is handed over in the window
  pub numbers : (s k : ℕ) → M.watched s ≡ true → l.handed s k ≡ handed_of (v.windows s) k
  -- the book alone: handed over is covered whole
  pub says : (s k : ℕ) → l.handed s k ≡ all_below (2 + length (M.text s k)) (l.covered s k)
  pub cells : (c : ℕ) → c < v.table.count → FineAt M l (use_at v.table c) (held_at v c)
  -- a message that has no cell, is not handed over and not barred has no byte covered
  pub bare : (s k : ℕ) → M.watched s ≡ true → l.handed s k ≡ false → barred_of (v.windows s) k ≡ false → ((c : ℕ) → use_at v.table c ≡ Comes s k → ⊥) → (i : ℕ) → l.covered s k i ≡ false
  -- the book's entries are the landed cells
  pub entries : (c : ℕ) → e c ≡ entry_of M (use_at v.table c)

-- ---- uses

pub not_vacant : {A : Type 0} (a b : ℕ) → Vacant ≡ Comes a b → A
not_vacant a b q = absurd (let z : ◌≡◌ {A = ℕ} 0 1 = cc in omega arith)

pub not_whole : {A : Type 0} (s k a b : ℕ) → Whole s k ≡ Comes a b → A
not_whole s k a b q = absurd (let z : ◌≡◌ {A = ℕ} 0 1 = cc in omega arith)

pub comes_is : (s k a b : ℕ) → Comes s k ≡ Comes a b → (s ≡ a) × (k ≡ b)
comes_is s k a b q = (cc, cc)

owner_parts : (s k : ℕ) → k < 2 ^ 32 → (owner_of s k / 4294967296 ≡ s) × (owner_of s k % 4294967296 ≡ k)
owner_parts s k a = (omega arith, omega arith)

parts_owner : (o s k : ℕ) → o / 4294967296 ≡ s → o % 4294967296 ≡ k → o ≡ owner_of s k
parts_owner o s k a b = omega arith

pub use_comes : (a b : Bool) (o s k : ℕ) → a ≡ true → b ≡ false → o ≡ owner_of s k → k < 2 ^ 32 → use_of a b o ≡ Comes s k
use_comes a b o s k p q r z =
    let w = owner_parts s k z in
    ap (λ (t : Bool). use_of t b o) p
    ∙ ap (λ (t : Bool). use_of true t o) q
    ∙ ap (use_of true false) r
    ∙ ap (λ (y : ℕ). Comes y (owner_of s k % 4294967296)) w.0
    ∙ ap (Comes s) w.1

pub use_whole : (a b : Bool) (o s k : ℕ) → a ≡ true → b ≡ true → o ≡ owner_of s k → k < 2 ^ 32 → use_of a b o ≡ Whole s k
use_whole a b o s k p q r z =
    let w = owner_parts s k z in
    ap (λ (t : Bool). use_of t b o) p
    ∙ ap (λ (t : Bool). use_of true t o) q
    ∙ ap (use_of true true) r
    ∙ ap (λ (y : ℕ). Whole y (owner_of s k % 4294967296)) w.0
    ∙ ap (Whole s) w.1

pub use_vacant : (a b : Bool) (o : ℕ) → a ≡ false → use_of a b o ≡ Vacant
use_vacant a b o p = ap (λ (t : Bool). use_of t b o) p

pub comes_filling : (t : Table) (c s k : ℕ) → use_at t c ≡ Comes s k → filling t c (owner_of s k)
comes_filling t c s k = go (has_bit t.busy c) (has_bit t.landed c) refl refl
  where
    go : (a b : Bool) → has_bit t.busy c ≡ a → has_bit t.landed c ≡ b → use_of a b (get_or t.owners c 0) ≡ Comes s k → filling t c (owner_of s k)
    go false b p q r = not_vacant s k r
    go true true p q r = not_whole _ _ s k r
    go true false p q r =
        let w = comes_is _ _ s k r in
        record { taken = p; open_yet = q; holds = parts_owner (get_or t.owners c 0) s k w.0 w.1 }

pub filling_comes : (t : Table) (c s k : ℕ) → filling t c (owner_of s k) → k < 2 ^ 32 → use_at t c ≡ Comes s k
filling_comes t c s k f z = use_comes _ _ _ s k f.taken f.open_yet f.holds z

-- ---- the cell that a piece of message k of slot s would go into

pub record Aim (M : Sent) (v : View) (l : Ledger) (s k c : ℕ) (x : Cell) : Type 0 where
  pub below : c < v.table.count
  pub inv : Inv (part_of (M.text s k)) (Cov (l.covered s k)) (held x (cell_of v.store c))
  pub others : (d : ℕ) → (d ≡ c → ⊥) → use_at v.table d ≡ Comes s k → ⊥
  pub here : (a b : ℕ) → use_at v.table c ≡ Comes a b → (s ≡ a) × (k ≡ b)
  pub unlanded : entry_of M (use_at v.table c) ≡ None

module _ (M : Sent) (v : View) (l : Ledger) (e : ℕ → Option Message) (tie : Tie M v l e)
    (s k : ℕ) (on : M.watched s ≡ true) (low : k < 2 ^ 32) where
  aim_has : (c : ℕ) → c < v.table.count → filling v.table c (owner_of s k) → Aim M v l s k c (cell_at v.table c)
  aim_has c a f =
      let q = filling_comes v.table c s k f low in
      let g : Coming (M.text s k) (l.covered s k) (l.handed s k) (held_at v c) =
      subst (λ (u : Use). FineAt M l u (held_at v c)) q (tie.cells c a) on in
      record {
        below = a;
        inv = g.inv;
        others = λ d z r. z (tie.tidy.one d c (owner_of s k) (comes_filling v.table d s k r) f);
        here = λ a b r. comes_is s k a b (sym q ∙ r);
        unlanded = ap (entry_of M) q;
      }

  abbrev RoomHere : Room → Type 0
  RoomHere = RoomIs v.table.owners v.table.busy v.table.landed (owner_of s k) (cell_count v.table.count)

  -- a piece that changes nothing has its bytes covered: in the cell that the message comes into, and where there is none it is empty
  pub needless_here : (o n : ℕ) (over : Bool)
      → kept_of k o n over (has_room (table_room v.table s k)) (cell_for (table_room v.table s k) (cell_at v.table (place_of (table_room v.table s k)))) ≡ Needless
      → (i : ℕ) → o ≤ i → i < o + n → l.covered s k i ≡ true
  needless_here o n over = go (table_room v.table s k) (table_room_lem v.table v.store tie.tidy s k)
    where
      none_there : (room : Bool) → kept_of k o n over room empty_cell ≡ Needless → (i : ℕ) → o ≤ i → i < o + n → l.covered s k i ≡ true
      none_there room q i a b =
          let zs : List ℕ = replicate 6144 0 in
          let m = length-replicate {A = ℕ} 6144 0 in
          let v₀ = empty_inv [] zs (λ (j : ℕ). false) (omega arith) (omega arith) (λ j. refl) in
          absurd (never_both false (needless_covered [] (λ (j : ℕ). false) empty_cell zs v₀ k o n over room q i a b) refl)

      go : (r : Room) → RoomHere r → kept_of k o n over (has_room r) (cell_for r (cell_at v.table (place_of r))) ≡ Needless
          → (i : ℕ) → o ≤ i → i < o + n → l.covered s k i ≡ true
      go (Own c) w q =
          let m = cells_are v.table.count tie.tidy.most in
          let b = w.below in
          needless_covered (part_of (M.text s k)) (l.covered s k) (cell_at v.table c) (cell_of v.store c) (aim_has c (omega arith) w.filling).inv k o n over true q
      go (Free c) w q = none_there true q
      go Full w q = none_there false q

  -- a piece of a message of at most 2,046 bytes shows no more
  pub shows_none : length (M.text s k) ≤ 2046 → (o : ℕ) (p : List ℕ) → Cut (framed (M.text s k)) o p
      → shows_of (held_for (table_room v.table s k) (cell_at v.table (place_of (table_room v.table s k))) v.store) o p ≡ false
  shows_none small o p cut = go (table_room v.table s k) (table_room_lem v.table v.store tie.tidy s k)
    where
      go : (r : Room) → RoomHere r → shows_of (held_for r (cell_at v.table (place_of r)) v.store) o p ≡ false
      go (Own c) w =
          let n = cells_are v.table.count tie.tidy.most in
          let b = w.below in
          shows_modest (M.text s k) small (Cov (l.covered s k)) (held_at v c) (aim_has c (omega arith) w.filling).inv o p cut
      go (Free c) w = empty_modest (M.text s k) small o p cut
      go Full w = empty_modest (M.text s k) small o p cut

  module _ (hand : l.handed s k ≡ false) (free : barred_of (v.windows s) k ≡ false) where
    aim_new : (c : ℕ) → c < v.table.count → has_bit v.table.busy c ≡ false → ((d : ℕ) → use_at v.table d ≡ Comes s k → ⊥) → Aim M v l s k c empty_cell
    aim_new c a q nowhere =
        let r = tie.tidy.room in
        let n = cell_length v.store c (omega arith) in
        let w = use_vacant (has_bit v.table.busy c) (has_bit v.table.landed c) (get_or v.table.owners c 0) q in
        record {
          below = a;
          inv = empty_inv (part_of (M.text s k)) (cell_of v.store c) (l.covered s k) (part_room (M.text s k)) (omega arith) (tie.bare s k on hand free nowhere);
          others = λ d z r. nowhere d r;
          here = λ a b r. not_vacant a b (sym w ∙ r);
          unlanded = ap (entry_of M) w;
        }

    -- a message for which no own cell was found comes into none
    no_cell_lem : ((d : ℕ) → d < cell_count v.table.count → is_own v.table.busy v.table.landed d (get_or v.table.owners d 0) (owner_of s k) ≡ false)
        → (d : ℕ) → use_at v.table d ≡ Comes s k → ⊥
    no_cell_lem off d q =
        let f = comes_filling v.table d s k q in
        let b = tie.tidy.within d f.taken in
        let n = cells_are v.table.count tie.tidy.most in
        never_both _ (filling_own v.table.owners v.table.busy v.table.landed (owner_of s k) d f) (off d (omega arith))

    aim_by : (r : Room) → RoomHere r → has_room r ≡ true → Aim M v l s k (place_of r) (cell_for r (cell_at v.table (place_of r)))
    aim_by (Own c) w h =
        let n = cells_are v.table.count tie.tidy.most in let b = w.below in aim_has c (omega arith) w.filling
    aim_by (Free c) w h =
        let n = cells_are v.table.count tie.tidy.most in let b = w.below in aim_new c (omega arith) w.unused (no_cell_lem w.none)
    aim_by Full w h = absurd (never_both true refl (sym h))

    pub aim : has_room (table_room v.table s k) ≡ true
        → Aim M v l s k (place_of (table_room v.table s k)) (cell_for (table_room v.table s k) (cell_at v.table (place_of (table_room v.table s k))))
    aim h = aim_by (table_room v.table s k) (table_room_lem v.table v.store tie.tidy s k) h

-- ---- a cell written anew

-- how much of the book another message sees
pub record Apart (s k : ℕ) (l l' : Ledger) : Type 0 where
  pub cov : (a b : ℕ) → same s k a b ≡ false → l'.covered a b ≡ l.covered a b
  pub hand : (a b : ℕ) → same s k a b ≡ false → l'.handed a b ≡ l.handed a b

fine_moves : (M : Sent) (s k : ℕ) (l l' : Ledger) (w : Apart s k l l') (u : Use) (h : Held) → (u ≡ Comes s k → ⊥) → FineAt M l u h → FineAt M l' u h
fine_moves M s k l l' w Vacant h z f = tt
fine_moves M s k l l' w (Comes a b) h z f = at (same s k a b) refl
  where
    at : (t : Bool) → same s k a b ≡ t → M.watched a ≡ true → Coming (M.text a b) (l'.covered a b) (l'.handed a b) h
    at true e on = let q = same_true s k a b e in absurd (z (ap (λ (x : ℕ). Comes x b) (sym q.0) ∙ ap (Comes s) (sym q.1)))
    at false e on =
        record {
          not_yet = w.hand a b e ∙ (f on).not_yet;
          inv = subst (λ (g : ℕ → Bool). Inv (part_of (M.text a b)) (Cov g) h) (sym (w.cov a b e)) (f on).inv;
        }
fine_moves M s k l l' w (Whole a b) h z f = f

module _ (M : Sent) (v : View) (l : Ledger) (e : ℕ → Option Message) (tie : Tie M v l e) (s k c : ℕ) (x : Cell) (m : Aim M v l s k c x)
    (v' : View) (u : Use) (h : Held) (tidy : Tidy v'.table v'.store) (count_same : v'.table.count ≡ v.table.count)
    (use_here : use_at v'.table c ≡ u)
    (held_here : held_at v' c ≡ h)
    (use_there : (d : ℕ) → (d ≡ c → ⊥) → use_at v'.table d ≡ use_at v.table d)
    (held_there : (d : ℕ) → (d ≡ c → ⊥) → d < v.table.count → held_at v' d ≡ held_at v d)
    (l' : Ledger) (w : Apart s k l l') (e' : ℕ → Option Message)
    (sound : (a : ℕ) → Sound (v'.windows a))
    (bars : (a b : ℕ) → barred_of (v'.windows a) b ≡ barred_of (v.windows a) b)
    (numbers : (a b : ℕ) → M.watched a ≡ true → l'.handed a b ≡ handed_of (v'.windows a) b)
    (says : (a b : ℕ) → l'.handed a b ≡ all_below (2 + length (M.text a b)) (l'.covered a b))
    (fine : FineAt M l' u h)
    (stays : l'.handed s k ≡ false → u ≡ Comes s k)
    (entry_here : e' c ≡ entry_of M u)
    (entry-there : (d : ℕ) → (d ≡ c → ⊥) → e' d ≡ e d)
  where
    fine_at : (d : ℕ) → d < v'.table.count → FineAt M l' (use_at v'.table d) (held_at v' d)
    fine_at d a =
        ⊎_elim (λ q.
        subst (λ (y : ℕ). FineAt M l' (use_at v'.table y) (held_at v' y)) (sym q)
        (subst (λ (o : Use). FineAt M l' o (held_at v' c)) (sym use_here)
        (subst (λ (g : Held). FineAt M l' u g) (sym held_here) fine)))
        (λ z.
        subst (λ (o : Use). FineAt M l' o (held_at v' d)) (sym (use_there d z))
        (subst (λ (g : Held). FineAt M l' (use_at v.table d) g) (sym (held_there d z (omega arith)))
        (fine_moves M s k l l' w (use_at v.table d) (held_at v d) (m.others d z) (tie.cells d (omega arith)))))
        (eq_or_not d c)

    bare_at : (a b : ℕ) → M.watched a ≡ true → l'.handed a b ≡ false → barred_of (v'.windows a) b ≡ false → ((d : ℕ) → use_at v'.table d ≡ Comes a b → ⊥) → (i : ℕ) → l'.covered a b i ≡ false
    bare_at a b on hd free nowhere i = at (same s k a b) refl
      where
        at : (t : Bool) → same s k a b ≡ t → l'.covered a b i ≡ false
        at true q =
            let r = same_true s k a b q in
            let hs : l'.handed s k ≡ false = ap (λ (y : ℕ). l'.handed y k) r.0 ∙ ap (l'.handed a) r.1 ∙ hd in
            absurd (nowhere c (use_here ∙ stays hs ∙ ap (λ (y : ℕ). Comes y k) r.0 ∙ ap (Comes a) r.1))
        at false q =
            ap (λ (g : ℕ → Bool). g i) (w.cov a b q)
            ∙ tie.bare a b on (sym (w.hand a b q) ∙ hd) (sym (bars a b) ∙ free)
            (λ d o.
            ⊎_elim (λ j.
            let r = m.here a b (sym (ap (use_at v.table) j) ∙ o) in
            never_both (same s k a b) (ap (λ (y : ℕ). same s k y b) (sym r.0) ∙ ap (λ (y : ℕ). same s k s y) (sym r.1) ∙ same_self s k) q)
            (λ j. nowhere d (use_there d j ∙ o)) (eq_or_not d c))
            i

    pub put_tie : Tie M v' l' e'
    put_tie =
        record {
          tidy = tidy;
          sound = sound;
          claimed = λ a b on q. tie.claimed a b on (sym (bars a b) ∙ q);
          numbers = numbers;
          says = says;
          cells = fine_at;
          bare = bare_at;
          entries = λ d.
              ⊎_elim (λ q. ap e' q ∙ entry_here ∙ sym (ap (entry_of M) (ap (use_at v'.table) q ∙ use_here)))
              (λ z. entry-there d z ∙ tie.entries d ∙ sym (ap (entry_of M) (use_there d z)))
              (eq_or_not d c);
        }
