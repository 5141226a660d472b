-- What the table is known to be, and that a kept piece and a freed cell leave it so. Assumes nothing.
use Rattle.std.specs.Prelude.{is_some}
use mathlib.Core.Path.{◌≡◌, sym, ap, ◌∙◌, subst}
use mathlib.Core.Bool.{Bool, true, false, cond}
use mathlib.Core.List.{List}
use mathlib.Core.Logic.{⊎_elim}
use Prim.Native.Nat.{ℕ, ◌+◌, ◌*◌, ◌^◌, ◌≤◌, ◌<◌}
use native.Mathlib.Omega.{arith}
use lib.ListN.{length, get_or, set, length-set, get_or-replicate, length-replicate}
use lib.Seq.{get_or-set_same, get_or-set_other}
use Rattle.bits.specs.Mask.{has_bit, with_bit, without_bit}
use Rattle.bits.proofs.Laws.{has_none, with_same, with_other, with_fits, without_same, without_other, without_fits}
use Rattle.bits.proofs.Lists.{eq_or_not, never_both}
use Rattle.inbox.specs.Messages.{Fits, empty_cell}
use Rattle.inbox.proofs.Steps.{empty_fits}
use Rattle.stream.specs.declared.table.Room.{Room}
use Rattle.stream.specs.declared.table.Room.TheVariants.{Own, Free, Full}
use Rattle.stream.specs.declared.table.Taken.{Taken}
use Rattle.stream.specs.Table.{Table, no_cell, cell_at, owner_of, cell_count, place_of, has_room, kept_table, freed_table, barred_table, start_table, table_room}
use Rattle.stream.proofs.Rooms.{Filling, filling_own, RoomIs, room_is, cells_are}

-- cell c is filling with the message `owner`
abbrev pub filling : Table → ℕ → ℕ → Type 0
filling t c owner = Filling t.owners t.busy t.landed c owner

-- one to 64 cells, all in the store; only those are taken, and a landed message's cell is taken; a message fills one cell
pub record Tidy (t : Table) (store : List ℕ) : Type 0 where
  pub some : 1 ≤ t.count
  pub most : t.count ≤ 64
  pub room : 6400 * t.count ≤ length store
  pub owners : length t.owners ≡ 64
  pub cells : length t.cells ≡ 64
  pub busy : t.busy < 2 ^ 64
  pub landed : t.landed < 2 ^ 64
  pub within : (c : ℕ) → has_bit t.busy c ≡ true → c < t.count
  pub taken : (c : ℕ) → has_bit t.landed c ≡ true → has_bit t.busy c ≡ true
  pub fits : (c : ℕ) → c < 64 → Fits (cell_at t c)
  pub one : (c d owner : ℕ) → filling t c owner → filling t d owner → c ≡ d

pub start_tidy : (count : ℕ) (store : List ℕ) → 1 ≤ count → count ≤ 64 → 6400 * count ≤ length store → Tidy (start_table count) store
start_tidy count store a b h =
    record {
      some = a;
      most = b;
      room = h;
      owners = length-replicate {A = ℕ} 64 0;
      cells = length-replicate 64 empty_cell;
      busy = omega arith;
      landed = omega arith;
      within = λ c e. absurd (never_both (has_bit 0 c) e (has_none c));
      taken = λ c e. absurd (never_both (has_bit 0 c) e (has_none c));
      fits = λ c l. subst Fits (sym (get_or-replicate 64 c empty_cell no_cell l)) empty_fits;
      one = λ c d o f g. absurd (never_both (has_bit 0 c) f.taken (has_none c));
    }

-- ---- the room that the table has for a message

module _ (t : Table) (store : List ℕ) (tidy : Tidy t store) (slot k : ℕ) where
  pub table_room_lem : RoomIs t.owners t.busy t.landed (owner_of slot k) (cell_count t.count) (table_room t slot k)
  table_room_lem = room_is t.owners t.busy t.landed (owner_of slot k) (cell_count t.count)

  -- the cell that it names is one of the table's, and its bytes are in the store
  pub place_below : place_of (table_room t slot k) < t.count
  place_below = go (table_room t slot k) table_room_lem (cells_are t.count tidy.most)
    where
      go : (r : Room) → RoomIs t.owners t.busy t.landed (owner_of slot k) (cell_count t.count) r → cell_count t.count ≡ t.count → place_of r < t.count
      go (Own c) q e = let l = q.below in omega arith
      go (Free c) q e = let l = q.below in omega arith
      go Full q e = tidy.some

  pub place_in : (place_of (table_room t slot k) < 64) × (6400 * place_of (table_room t slot k) + 6400 ≤ length store)
  place_in = let l = place_below in let m = tidy.most in let r = tidy.room in (omega arith, omega arith)

  -- no other cell is filling with the message
  pub room_only : has_room (table_room t slot k) ≡ true → (d : ℕ) → filling t d (owner_of slot k) → d ≡ place_of (table_room t slot k)
  room_only = go (table_room t slot k) table_room_lem (cells_are t.count tidy.most)
    where
      go : (r : Room) → RoomIs t.owners t.busy t.landed (owner_of slot k) (cell_count t.count) r → cell_count t.count ≡ t.count
          → has_room r ≡ true → (d : ℕ) → filling t d (owner_of slot k) → d ≡ place_of r
      go (Own c) q e h d f = tidy.one d c (owner_of slot k) f q.filling
      go (Free c) q e h d f =
          let l = tidy.within d f.taken in
          absurd
          (never_both _ (filling_own t.owners t.busy t.landed (owner_of slot k) d f) (q.none d (omega arith)))
      go Full q e h d f = let z : ◌≡◌ {A = ℕ} 0 1 = cc in absurd (omega arith)

-- ---- a kept piece

module _ (t : Table) (c owner : ℕ) (x : Taken) where
  landed_other : (j : ℕ) → (c ≡ j → ⊥) → has_bit (kept_table t c owner x).landed j ≡ has_bit t.landed j
  landed_other j n = go (is_some x.landed)
    where
      go : (b : Bool) → has_bit (cond b (with_bit t.landed c) (without_bit t.landed c)) j ≡ has_bit t.landed j
      go true = with_other t.landed c j n
      go false = without_other t.landed c j n

  -- another cell stays as it was
  pub kept_other : (j : ℕ) → (j ≡ c → ⊥)
      → (has_bit (kept_table t c owner x).busy j ≡ has_bit t.busy j)
      × (has_bit (kept_table t c owner x).landed j ≡ has_bit t.landed j)
      × (get_or (kept_table t c owner x).owners j 0 ≡ get_or t.owners j 0)
      × (cell_at (kept_table t c owner x) j ≡ cell_at t j)
  kept_other j n = (
    with_other t.busy c j (λ e. n (sym e)),
    landed_other j (λ e. n (sym e)),
    get_or-set_other t.owners c j owner 0 n,
    get_or-set_other t.cells c j x.cell no_cell n,
  )

  pub filling_other : (j o : ℕ) → (j ≡ c → ⊥) → filling (kept_table t c owner x) j o → filling t j o
  filling_other j o n f =
      let r = kept_other j n in
      record { taken = sym r.0 ∙ f.taken; open_yet = sym r.1 ∙ f.open_yet; holds = sym r.2 ∙ f.holds }

  module _ (store store' : List ℕ) (tidy : Tidy t store) (below : c < t.count) (long : length store' ≡ length store)
      (fit : Fits x.cell) (only : (d : ℕ) → filling t d owner → d ≡ c) where
    one_more : (j d o : ℕ) → filling (kept_table t c owner x) j o → filling (kept_table t c owner x) d o → j ≡ d
    one_more j d o f g =
        ⊎_elim
        (λ p.
        ⊎_elim
        (λ q. p ∙ sym q)
        (λ q. p ∙ sym (only d (subst (filling t d) (sym (owner_at j p f)) (filling_other d o q g))))
        (eq_or_not d c))
        (λ p.
        ⊎_elim
        (λ q. only j (subst (filling t j) (sym (owner_at d q g)) (filling_other j o p f)) ∙ sym q)
        (λ q. tidy.one j d o (filling_other j o p f) (filling_other d o q g))
        (eq_or_not d c))
        (eq_or_not j c)
      where
        owner_at : (i : ℕ) → i ≡ c → filling (kept_table t c owner x) i o → owner ≡ o
        owner_at i e f =
            let l = tidy.owners in
            let m = tidy.most in
            sym (get_or-set_same t.owners c owner 0 (omega arith))
            ∙ ap (λ (y : ℕ). get_or (set t.owners c owner) y 0) (sym e)
            ∙ f.holds

    pub kept_tidy : Tidy (kept_table t c owner x) store'
    kept_tidy =
        let m = tidy.most in
        let r = tidy.room in
        record {
          some = tidy.some;
          most = tidy.most;
          room = omega arith;
          owners = length-set t.owners c owner ∙ tidy.owners;
          cells = length-set t.cells c x.cell ∙ tidy.cells;
          busy = with_fits t.busy c tidy.busy;
          landed = landed_fits (is_some x.landed);
          within = λ j e. ⊎_elim (λ q. subst (λ (y : ℕ). y < t.count) (sym q) below) (λ q. tidy.within j (sym (kept_other j q).0 ∙ e)) (eq_or_not j c);
          taken = λ j e. ⊎_elim (λ q. at_c j q) (λ q. (kept_other j q).0 ∙ tidy.taken j (sym (kept_other j q).1 ∙ e)) (eq_or_not j c);
          fits = λ j l. ⊎_elim (λ q. fits_c j q) (λ q. subst Fits (sym (kept_other j q).3) (tidy.fits j l)) (eq_or_not j c);
          one = one_more;
        }
      where
        landed_fits : (b : Bool) → cond b (with_bit t.landed c) (without_bit t.landed c) < 2 ^ 64
        landed_fits true = with_fits t.landed c tidy.landed
        landed_fits false = without_fits t.landed c tidy.landed

        at_c : (j : ℕ) → j ≡ c → has_bit (with_bit t.busy c) j ≡ true
        at_c j q = let m = tidy.most in ap (has_bit (with_bit t.busy c)) q ∙ with_same t.busy c (omega arith)

        fits_c : (j : ℕ) → j ≡ c → Fits (cell_at (kept_table t c owner x) j)
        fits_c j q =
            let l = tidy.cells in
            let m = tidy.most in
            subst Fits (sym (ap (cell_at (kept_table t c owner x)) q ∙ get_or-set_same t.cells c x.cell no_cell (omega arith))) fit

-- ---- a cell given back

module _ (t : Table) (store : List ℕ) (tidy : Tidy t store) (c : ℕ) where
  kept_bit : (m j : ℕ) → has_bit (without_bit m c) j ≡ true → (j ≡ c → ⊥) × (has_bit m j ≡ true)
  kept_bit m j e =
      let n : j ≡ c → ⊥ = λ q. never_both (has_bit (without_bit m c) j) e (ap (has_bit (without_bit m c)) q ∙ without_same m c) in
      (n, sym (without_other m c j (λ q. n (sym q))) ∙ e)

  freed_filling : (j o : ℕ) → filling (freed_table t c) j o → filling t j o
  freed_filling j o f =
      let r = kept_bit t.busy j f.taken in
      record { taken = r.1; open_yet = sym (without_other t.landed c j (λ q. r.0 (sym q))) ∙ f.open_yet; holds = f.holds }

  -- another cell stays as it was
  pub freed_other : (j : ℕ) → (j ≡ c → ⊥)
      → (has_bit (freed_table t c).busy j ≡ has_bit t.busy j) × (has_bit (freed_table t c).landed j ≡ has_bit t.landed j)
  freed_other j n = (without_other t.busy c j (λ q. n (sym q)), without_other t.landed c j (λ q. n (sym q)))

  pub freed_tidy : Tidy (freed_table t c) store
  freed_tidy =
      record {
        some = tidy.some;
        most = tidy.most;
        room = tidy.room;
        owners = tidy.owners;
        cells = tidy.cells;
        busy = without_fits t.busy c tidy.busy;
        landed = without_fits t.landed c tidy.landed;
        within = λ j e. tidy.within j (kept_bit t.busy j e).1;
        taken = λ j e.
            let r = kept_bit t.landed j e in
            without_other t.busy c j (λ q. r.0 (sym q)) ∙ tidy.taken j r.1;
        fits = tidy.fits;
        one = λ j d o f g. tidy.one j d o (freed_filling j o f) (freed_filling d o g);
      }

-- ---- a message barred: its own cell, if it has one, is given back

module _ (t : Table) (store : List ℕ) (tidy : Tidy t store) where
  pub barred_tidy : (room : Room) → Tidy (barred_table t room) store
  barred_tidy (Own c) = freed_tidy t store tidy c
  barred_tidy (Free c) = tidy
  barred_tidy Full = tidy
