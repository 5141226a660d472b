-- A cell is what the pieces that went into it since it was taken make of an empty one: so after any calls from a start, nobody else writing the store. Assumes nothing.
use Rattle.std.specs.Prelude.{Option}
use mathlib.Core.Path.{◌≡◌, refl, sym, ap, ◌∙◌, subst}
use mathlib.Core.Bool.{Bool, true, false, cond, ◌&&◌}
use mathlib.Core.List.{List, [], ◌∷◌, ◌++◌}
use mathlib.Core.Logic.{inl, ⊎_elim}
use Prim.Native.Nat.{ℕ, ◌+◌, ◌*◌, ◌/◌, ◌%◌, ◌≤◌, ◌<◌}
use native.Mathlib.Omega.{arith}
use lib.Dec.{eqb, ltb}
use lib.Ieee.{Float}
use lib.ListN.{length, get_or}
use lib.Seq.{get_or-set_same}
use borrow.Author.Tests.{eq-eqb, ne_eqb}
use Rattle.bits.specs.Mask.{has_bit, without_bit}
use Rattle.bits.proofs.Laws.{has_none, without_same, without_other}
use Rattle.bits.proofs.Lists.{cond_keeps, cond_true, and_true, eq_or_not, never_both}
use Rattle.wire.specs.Kinds.{t_up}
use Rattle.wire.specs.Numbers.{widened}
use Rattle.words.specs.Words.{Heard, lost, heard, Burst, Parsed, parsed, parse}
use Rattle.words.specs.Fine.{Fine, AllFine, FineBurst}
use Rattle.inbox.specs.declared.cell.Cell.{Cell}
use Rattle.inbox.specs.declared.keep.Kept.TheVariants.{Yes}
use Rattle.inbox.specs.Cells.{Held, held, accept}
use Rattle.inbox.specs.Keeping.{kept_of}
use Rattle.inbox.specs.Messages.{Piece, empty_cell, empty, accept_all}
use Rattle.inbox.specs.Stores.{cell_of}
use Rattle.inbox.proofs.Apart.{in_same, in_other}
use Rattle.inbox.proofs.Joined as joined
use Rattle.inbox.proofs.Rule.{yes_is, kept_room}
use Rattle.inbox.proofs.Steps.{empty_fits}
use Rattle.stream.specs.declared.window.Window.{Window}
use Rattle.stream.specs.declared.table.Room.{Room}
use Rattle.stream.specs.declared.table.Room.TheVariants.{Own, Free, Full}
use Rattle.stream.specs.Window.{fresh_of, barred_of}
use Rattle.stream.specs.Table.{Table, no_cell, cell_at, cell_for, cell_count, owner_of, place_of, has_room, has_own, is_over, joined_of, put_in, table_room, freed_table}
use Rattle.stream.specs.Table as table
use Rattle.stream.proofs.Accepts.{answer_of, cell_in, held_after, put_as, barred_as, accept_cases, after_length}
use Rattle.stream.proofs.Rooms.{RoomIs}
use Rattle.stream.proofs.Tables.{Tidy, table_room_lem, place_in, kept_other}
use Rattle.stream.proofs.Takes.{cell_length}
use Rattle.net.specs.declared.Settings.{Settings}
use Rattle.net.specs.declared.Station.{Station}
use Rattle.net.specs.State.{member_at, table_of}
use Rattle.net.specs.Net.{is_member, new_station}
use Rattle.frames.specs.declared.Air.{Air}
use Rattle.frames.specs.Reading.{Reading}
use Rattle.frames.specs.Frames.{frame_step, read_frames}
use Rattle.rx.specs.Reception.{air_of, ncs_rx}
use Rattle.station.specs.Entries.{Outcome, refused, received_as, receive_of, cell_refusal, free_of, start_refusal}
use Rattle.signoff.specs.SignOff.{is_cell_of, clear_all}
use Rattle.station.specs.SignOff.{sign_off_refusal, sign_off_of}
use Rattle.config.specs.declared.Given.{Given}
use Rattle.promise.specs.Promise.{lent_to, Net, net, of_burst, Call, admission, reception, decision, sending, closing, reading, freeing, charging, signing, asking, posting, result, in_book, is_refused, step, after, started, is_boats, frames_by}
use Rattle.laws.specs.Laws.{from, InCells, also_in, went_by, went_in, went_all, went_rx, went_with, in_cells, StoreOk, StoresOk, AllCut, Splits, AllSplit}
use Rattle.promise.proofs.Ties.{View}
use Rattle.promise.proofs.Quiet.{window_at, view_of}
use Rattle.promise.proofs.WalkFrames.{view_in, is_piece, FrameRead, other, unkept, barred, piece, first_in, rx_end}
use Rattle.promise.proofs.Messages.{admission_kept, decision_kept, sending_kept, closing_kept, reading_kept, charging_kept, asking_kept, posting_kept, same_cond}
use Rattle.promise.proofs.Outcomes.{refused_by, receive_cases, lent_is}
use Rattle.promise.proofs.Signs.{sign_beside, Cleared, cleared}
use Rattle.promise.proofs.Fits.{accept_bar}
use Rattle.promise.proofs.Sounds.{Fit, FitRead, fit_frame, step_read_fit, read_fine, first_fit, quiet_view, step_fit, runs_fit}
use Rattle.promise.proofs.Turns.{start_is}
use Rattle.laws.proofs.LawsParts.{Took, Made, made_splits}

-- ---- one more piece

took_append : (h : Held) (xs : List Piece) (x : Piece) → Took h xs → x.off + length x.bytes ≤ 2048 → joined.Room (accept_all h xs) x.off x.bytes → Took h (xs ++ (x ∷ []))
took_append h [] x t e r = (e, (r, tt))
took_append h (y ∷ xs) x t e r = (t.0, (t.1.0, took_append (accept h y.off y.bytes) xs x t.1.1 e r))

all_append : (h : Held) (xs : List Piece) (x : Piece) → accept_all h (xs ++ (x ∷ [])) ≡ accept (accept_all h xs) x.off x.bytes
all_append h [] x = refl
all_append h (y ∷ xs) x = all_append (accept h y.off y.bytes) xs x

made_more : (h : Held) (xs : List Piece) (o : ℕ) (p : List ℕ) → Made h xs → o + length p ≤ 2048 → joined.Room h o p → Made (accept h o p) (xs ++ (from o p ∷ []))
made_more h xs o p m e r =
    record {
      bytes = m.bytes;
      room = m.room;
      took = took_append (empty m.bytes) xs (from o p) m.took e (subst (λ (g : Held). joined.Room g o p) m.is r);
      is = ap (λ (g : Held). accept g o p) m.is ∙ sym (all_append (empty m.bytes) xs (from o p));
    }

made_first : (bs : List ℕ) (o : ℕ) (p : List ℕ) → 6144 ≤ length bs → o + length p ≤ 2048 → joined.Room (empty bs) o p → Made (accept (empty bs) o p) (from o p ∷ [])
made_first bs o p l e r = record { bytes = bs; room = l; took = (e, (r, tt)); is = refl }

-- ---- every cell that is taken

abbrev pub Traced : InCells → Table → List ℕ → Type 0
Traced f t store = (c : ℕ) → has_bit t.busy c ≡ true → Made (held (cell_at t c) (cell_of store c)) (f c)

also_other : (r : Room) (x : Piece) (f : InCells) (d : ℕ) → (d ≡ place_of r → ⊥) → also_in r x f d ≡ f d
also_other (Own c) x f d n = ap (λ (b : Bool). cond b (f d ++ (x ∷ [])) (f d)) (ne_eqb c d (λ e. n (sym e)))
also_other (Free c) x f d n = ap (λ (b : Bool). cond b (x ∷ []) (f d)) (ne_eqb c d (λ e. n (sym e)))
also_other Full x f d n = refl

-- fewer cells are taken, and the cells stay as they are
fewer_traced : (f : InCells) (t u : Table) (store : List ℕ) → u.cells ≡ t.cells → ((c : ℕ) → has_bit u.busy c ≡ true → has_bit t.busy c ≡ true) → Traced f t store → Traced f u store
fewer_traced f t u store e g d c b = subst (λ (l : List Cell). Made (held (get_or l c no_cell) (cell_of store c)) (f c)) (sym e) (d c (g c b))

-- a cell given back
freed_traced : (f : InCells) (t : Table) (store : List ℕ) (cell : ℕ) → Traced f t store → Traced f (freed_table t cell) store
freed_traced f t store cell = fewer_traced f t (freed_table t cell) store refl still
  where
    still : (j : ℕ) → has_bit (without_bit t.busy cell) j ≡ true → has_bit t.busy j ≡ true
    still j b =
        ⊎_elim (λ e. absurd (never_both _ b (ap (has_bit (without_bit t.busy cell)) (sym e) ∙ without_same t.busy cell)))
        (λ z. sym (without_other t.busy cell j z) ∙ b) (eq_or_not cell j)

module _ (t : Table) (w : Window) (store : List ℕ) (slot field : ℕ) (p : List ℕ) (tidy : Tidy t store) (short : length p ≤ 255) (f : InCells) (old : Traced f t store) where
  abbrev o : ℕ
  o = field % 65536

  module _ (k : ℕ) (yes : answer_of t w store slot k o p ≡ Yes) where
    abbrev c : ℕ
    c = cell_in t slot k

    -- its own cell
    own_made : Made (held_after t store slot k o p) (also_in (table_room t slot k) (from o p) f c)
    own_made = go (table_room t slot k) (table_room_lem t store tidy slot k) yes (place_in t store tidy slot k).1
      where
        go : (r : Room) → RoomIs t.owners t.busy t.landed (owner_of slot k) (cell_count t.count) r
            → kept_of k o (length p) (is_over (barred_of w k) store r (cell_at t (place_of r)) o p) (has_room r) (cell_for r (cell_at t (place_of r))) ≡ Yes → 6400 * place_of r + 6400 ≤ length store
            → Made (joined_of store (place_of r) (cell_for r (cell_at t (place_of r))) o p) (also_in r (from o p) f (place_of r))
        go (Own d) q y l =
            subst (λ (b : Bool). Made (accept (held (cell_at t d) (cell_of store d)) o p) (cond b (f d ++ (from o p ∷ [])) (f d))) (sym (eq-eqb d d refl))
            (made_more (held (cell_at t d) (cell_of store d)) (f d) o p (old d q.filling.taken) (yes_is k o (length p) (is_over (barred_of w k) store (Own d) (cell_at t d) o p) true (cell_at t d) y).fits
            (kept_room k o (is_over (barred_of w k) store (Own d) (cell_at t d) o p) true (cell_at t d) (cell_of store d) p (inl y)))
        go (Free d) q y l =
            let n = cell_length store d l in
            subst (λ (b : Bool). Made (accept (held empty_cell (cell_of store d)) o p) (cond b (from o p ∷ []) (f d))) (sym (eq-eqb d d refl))
            (made_first (cell_of store d) o p (omega arith) (yes_is k o (length p) (is_over (barred_of w k) store (Free d) (cell_at t d) o p) true empty_cell y).fits
            (kept_room k o (is_over (barred_of w k) store (Free d) (cell_at t d) o p) true empty_cell (cell_of store d) p (inl y)))
        go Full q y l = absurd (never_both false (yes_is k o (length p) (is_over (barred_of w k) store Full (cell_at t 0) o p) false empty_cell y).celled refl)

    put_traced : Traced (also_in (table_room t slot k) (from o p) f) (put_as t w store slot k o p).table (put_as t w store slot k o p).store
    put_traced d b = ⊎_elim here there (eq_or_not d c)
      where
        after : Held
        after = held_after t store slot k o p

        now : ℕ → Held
        now d = held (cell_at (put_as t w store slot k o p).table d) (cell_of (put_as t w store slot k o p).store d)

        is_own_lem : now c ≡ after
        is_own_lem =
            let l = tidy.cells in
            let m = place_in t store tidy slot k in
            ap (λ (x : Cell). held x (cell_of (put_as t w store slot k o p).store c)) (get_or-set_same t.cells c after.cell no_cell (omega arith))
            ∙ ap (held after.cell) (in_same store c after.bytes m.1 (after_length t w store slot field p tidy short k yes))

        here : d ≡ c → Made (now d) (also_in (table_room t slot k) (from o p) f d)
        here e =
            subst (λ (y : ℕ). Made (now y) (also_in (table_room t slot k) (from o p) f y)) (sym e)
            (subst (λ (g : Held). Made g (also_in (table_room t slot k) (from o p) f c)) (sym is_own_lem) own_made)

        there : (d ≡ c → ⊥) → Made (now d) (also_in (table_room t slot k) (from o p) f d)
        there n =
            let r = kept_other t c (owner_of slot k) (put_in store c after).taken d n in
            let taken : has_bit t.busy d ≡ true = sym r.0 ∙ b in
            let low = tidy.within d taken in
            let room = tidy.room in
            let same : now d ≡ held (cell_at t d) (cell_of store d) =
            ap (λ (x : Cell). held x (cell_of (put_as t w store slot k o p).store d)) r.3
            ∙ ap (held (cell_at t d)) (in_other store c after.bytes (place_in t store tidy slot k).1 (after_length t w store slot field p tidy short k yes) d n (omega arith)) in
            subst (Made (now d)) (sym (also_other (table_room t slot k) (from o p) f d n)) (subst (λ (g : Held). Made g (f d)) (sym same) (old d taken))

  -- a message that claims too much gives its cell back
  bar_traced : (k : ℕ) → Traced f (barred_as t w store slot k).table store
  bar_traced k =
      cond_keeps (λ (x : Table). Traced f x store) (has_own (table_room t slot k)) (freed_table t (place_of (table_room t slot k))) t
      (λ _. freed_traced f t store (place_of (table_room t slot k)) old) (λ _. old)

  -- a piece, whatever becomes of it
  piece_traced : Traced (went_by (widened (field / 65536 % 256) w.next) t w store slot o p f) (table.accept t w store slot field p).table (table.accept t w store slot field p).store
  piece_traced =
      accept_cases t w store slot field p (λ x. Traced (went_by (widened (field / 65536 % 256) w.next) t w store slot o p f) x.table x.store)
      (λ e. subst (λ (n : Option ℕ). Traced (went_by n t w store slot o p f) t store) (sym e) old)
      (λ k e h. subst (λ (n : Option ℕ). Traced (went_by n t w store slot o p f) t store) (sym e) (rw h old))
      (λ k u a q n z. subst (λ (m : Option ℕ). Traced (went_by m t w store slot o p f) t store) (sym u.is) (rw (u.fresh, q, n) old))
      (λ k u q. subst (λ (m : Option ℕ). Traced (went_by m t w store slot o p f) (barred_as t w store slot k).table store) (sym u.is) (rw (u.fresh, q) (bar_traced k)))
      (λ k u q. subst (λ (m : Option ℕ). Traced (went_by m t w store slot o p f) (put_as t w store slot k o p).table (put_as t w store slot k o p).store) (sym u.is)
      (rw (u.fresh, q) (put_traced k q)))

  -- one that is not kept, and bars nothing, leaves the cells alone
  lost_same : (table.accept t w store slot field p).lost ≡ true → (table.accept t w store slot field p).bars ≡ false → Traced (went_by (widened (field / 65536 % 256) w.next) t w store slot o p f) t store
  lost_same l z =
      let s = accept_cases t w store slot field p (λ x. x.lost ≡ true → x.bars ≡ false → (x.table ≡ t) × (x.store ≡ store))
      (λ e h b. (refl, refl)) (λ k e g h b. (refl, refl)) (λ k u a q n y h b. (refl, refl)) (λ k u q h b. absurd (never_both true refl b))
      (λ k u q h b. absurd (never_both false h refl)) l z in
      subst (λ (x : Table). Traced (went_by (widened (field / 65536 % 256) w.next) t w store slot o p f) x store) s.0
      (subst (Traced (went_by (widened (field / 65536 % 256) w.next) t w store slot o p f) (table.accept t w store slot field p).table) s.1 piece_traced)

-- ---- a reception

abbrev pub TracedIn : InCells → View → Type 0
TracedIn f v = Traced f v.table v.store

went_other : (s : Station) (store : List ℕ) (h : Heard) (f : InCells) → is_piece h s.used ≡ false → went_in s store h f ≡ f
went_other s store lost f q = refl
went_other s store (heard flags field p) f q = rw q refl

went_piece : (s : Station) (store : List ℕ) (flags field : ℕ) (p : List ℕ) (f : InCells) → is_boats flags s.used ≡ true
    → went_in s store (heard flags field p) f ≡ went_by (widened (field / 65536 % 256) (window_at s (flags % 64)).next) (table_of s) (window_at s (flags % 64)) store (flags % 64) (field % 65536) p f
went_piece s store flags field p f b =
    cond_true (is_boats flags s.used) _ f b
    ∙ ap (λ (w : Window). went_by (widened (field / 65536 % 256) w.next) (table_of s) w store (flags % 64) (field % 65536) p f)
    (sym (cond_true (is_member s.used (flags % 64)) (member_at s (flags % 64)).up fresh_of (and_true (eqb (flags / 64) t_up) (is_member s.used (flags % 64)) b).1))

read_traced : (f : InCells) (x y : Reading) (h : Heard) → Fine h → FitRead x → FrameRead x y h → TracedIn f (view_in x) → TracedIn (went_in x.station x.store h f) (view_in y)
read_traced f x y h k fit (other q s) d = subst (λ (g : InCells). TracedIn g (view_in y)) (sym (went_other x.station x.store h f q)) (subst (TracedIn f) (sym s.view) d)
read_traced f x y h k fit (unkept flags field p b q z s) d =
    subst (λ (g : InCells). TracedIn g (view_in y)) (sym (went_piece x.station x.store flags field p f b))
    (subst (TracedIn _) (sym s.view)
    (lost_same (table_of x.station) (window_at x.station (flags % 64)) x.store (flags % 64) field p fit.view.tidy (omega (arith, k.2)) f d q z))
read_traced f x y h k fit (barred flags field p b q s) d =
    let t = table_of x.station in
    let w = window_at x.station (flags % 64) in
    subst (λ (g : InCells). TracedIn g (view_in y)) (sym (went_piece x.station x.store flags field p f b))
    (subst (TracedIn _) (sym s.view)
    (subst (Traced _ (table.accept t w x.store (flags % 64) field p).table) (accept_bar t w x.store (flags % 64) field p q).1
    (piece_traced t w x.store (flags % 64) field p fit.view.tidy (omega (arith, k.2)) f d)))
read_traced f x y h k fit (piece flags field p b q s) d =
    subst (λ (g : InCells). TracedIn g (view_in y)) (sym (went_piece x.station x.store flags field p f b))
    (subst (TracedIn _) (sym s.view)
    (piece_traced (table_of x.station) (window_at x.station (flags % 64)) x.store (flags % 64) field p fit.view.tidy (omega (arith, k.2)) f d))

frames_traced : (a : Air) (fs : List Heard) (x : Reading) (f : InCells) → AllFine fs → FitRead x → TracedIn f (view_in x) → TracedIn (went_all a fs x f) (view_in (read_frames a fs x))
unfolding read_frames went_all
frames_traced a [] x f k fit d = d
frames_traced a (h ∷ fs) x f (AllFine.more g k) fit d =
    frames_traced a fs (frame_step a h x) (went_in x.station x.store h f) k (step_read_fit a h x g fit) (read_traced f x (frame_step a h x) h g fit (fit_frame a h x fit) d)

pub rx_traced : (s : Station) (u : Burst) (snr now : Float) (store : List ℕ) (f : InCells) → AllFine u.frames → Fit (net s store) → TracedIn f (view_of s store)
    → TracedIn (went_rx s u snr now store f) (view_of (ncs_rx s u snr now store).station (ncs_rx s u snr now store).store)
rx_traced s u snr now store f k fit d =
    subst (TracedIn (went_rx s u snr now store f)) (sym (rx_end s u snr now store).view)
    (frames_traced (air_of s u.head snr now) (frames_by (parsed u)) (first_in s u now store) f (read_fine u k) (first_fit s u now store fit) d)

-- ---- the calls

module _ (f : InCells) (n : Net) (fit : Fit n) (d : TracedIn f (view_of n.station n.store)) where
  free_traced : (cell : ℕ) → TracedIn f (view_of (free_of n.station cell).station n.store)
  unfolding free_of
  free_traced cell =
      cond_keeps (λ (o : Outcome). TracedIn f (view_of o.station n.store)) (eqb (cell_refusal n.station.count n.station.landed cell) 0) _ _
      (λ _. freed_traced f (table_of n.station) n.store cell d) (λ _. d)

  sign_traced : (slot : ℕ) → TracedIn f (view_of (sign_off_of n.station slot).station n.store)
  unfolding sign_off_of
  sign_traced slot =
      cond_keeps (λ (o : Outcome). TracedIn f (view_of o.station n.store)) (eqb (sign_off_refusal n.station.used slot) 0) _ _
      (λ _. subst (λ (t : Table). Traced f t n.store) (sym (sign_beside n.station slot).table)
      (fewer_traced f (table_of n.station) (clear_all slot (table_of n.station)) n.store k.cells still d)) (λ _. d)
    where
      k : Cleared slot 64 (table_of n.station) (clear_all slot (table_of n.station))
      k = cleared slot (table_of n.station)

      kept : (t b : Bool) → cond t false b ≡ true → b ≡ true
      kept true b e = absurd (never_both false e refl)
      kept false b e = e

      still : (j : ℕ) → has_bit (clear_all slot (table_of n.station)).busy j ≡ true → has_bit n.station.busy j ≡ true
      still j b = kept (ltb j 64 && is_cell_of (table_of n.station) slot j) (has_bit n.station.busy j) (sym (k.busy j) ∙ b)

  -- a reception, lent the store handed on
  module _ (words : List ℕ) (snr now : Float) (st : List ℕ) where
    abbrev Rx : Parsed Burst → Outcome → Type 0
    Rx w o =
        (refused_by o ≡ false → n.store ≡ st)
        → TracedIn (cond (refused_by o) f (of_burst w f (λ u. went_rx n.station u snr now st f))) (view_of o.station (cond (refused_by o) n.store o.store))

    refused_traced : (w : Parsed Burst) (m : ℕ) → eqb m 0 ≡ false → Rx w (refused m n.station st)
    refused_traced w m q same = rw q d

    done_traced : (u : Burst) → FineBurst u → Rx (parsed u) (received_as (ncs_rx n.station u snr now st))
    done_traced u g same =
        subst (λ (store : List ℕ). TracedIn (went_rx n.station u snr now store f) (view_of (ncs_rx n.station u snr now store).station (ncs_rx n.station u snr now store).store)) (same refl)
        (rx_traced n.station u snr now n.store f g.frames (record { view = fit.view; long = fit.long }) d)

    received_traced : (room : ℕ) → Rx (parse words) (receive_of n.station words snr now st room)
    received_traced room = receive_cases Rx n.station words snr now st room refused_traced (λ u g l. done_traced u g)

  -- one that leaves cells and store alone
  quiet_traced : (c : Call) → view_of (step c n).station (step c n).store ≡ view_of n.station n.store → TracedIn f (view_of (step c n).station (step c n).store)
  quiet_traced c e = subst (TracedIn f) (sym e) d

  -- the store is the same, refused or not
  same_store : (c : Call) → (s : Station) → TracedIn f (view_of s n.store) → TracedIn f (view_of s (cond (is_refused c n) n.store n.store))
  same_store c s t = subst (λ (store : List ℕ). TracedIn f (view_of s store)) (sym (same_cond (is_refused c n) n.store n.store refl)) t

  call_traced : (c : Call) → StoreOk (in_book c) (is_refused c n) → TracedIn (went_with c n f) (view_of (step c n).station (step c n).store)
  unfolding step result went_with
  call_traced (admission packed relay now room) ok = quiet_traced (admission packed relay now room) (quiet_view (admission packed relay now room) n (admission_kept n.station packed relay now room) refl)
  call_traced (reception words snr now lent room numbers) ok =
      received_traced words snr now (lent_to lent n.store) room (lent_is n.store lent (is_refused (reception words snr now lent room numbers) n) ok)
  call_traced (decision now queue room) ok = quiet_traced (decision now queue room) (quiet_view (decision now queue room) n (decision_kept n.station now queue room) refl)
  call_traced (posting slot message queue) ok = quiet_traced (posting slot message queue) (quiet_view (posting slot message queue) n (posting_kept n.station slot message queue) refl)
  call_traced (sending now) ok = quiet_traced (sending now) (quiet_view (sending now) n (sending_kept n.station now) refl)
  call_traced (closing count) ok = quiet_traced (closing count) (quiet_view (closing count) n (closing_kept n.station count) refl)
  call_traced (reading cell lent) ok = quiet_traced (reading cell lent) (quiet_view (reading cell lent) n (reading_kept cell lent n) refl)
  call_traced (freeing cell) ok = same_store (freeing cell) (free_of n.station cell).station (free_traced cell)
  call_traced (charging figures) ok = quiet_traced (charging figures) (quiet_view (charging figures) n (charging_kept figures n) refl)
  call_traced (asking slot) ok = quiet_traced (asking slot) (quiet_view (asking slot) n (asking_kept slot n) refl)
  call_traced (signing slot) ok = same_store (signing slot) (sign_off_of n.station slot).station (sign_traced slot)

calls_traced : (cs : List Call) (n : Net) (f : InCells) → Fit n → TracedIn f (view_of n.station n.store) → StoresOk cs n
    → TracedIn (in_cells cs n f) (view_of (after cs n).station (after cs n).store)
unfolding StoresOk in_cells after
calls_traced [] n f fit d ok = d
calls_traced (c ∷ cs) n f fit d ok = calls_traced cs (step c n) (went_with c n f) (step_fit c n fit) (call_traced f n fit d c ok.0) ok.1

-- ---- the law of parts

cells_split : (n : Net) (f : InCells) → Fit n → TracedIn f (view_of n.station n.store) → AllSplit n f
cells_split n f fit d c number whole low = go (has_bit n.station.busy c) refl
  where
    m : c < 64
    m = omega (arith, fit.view.tidy.most)

    go : (b : Bool) → has_bit n.station.busy c ≡ b → AllCut whole (cond b (f c) []) → Splits number whole (held (cond b (cell_at (table_of n.station) c) empty_cell) (cell_of n.store c))
    go true e cuts = made_splits number whole _ (f c) (fit.view.tidy.fits c m) (d c e) cuts
    go false e cuts =
        let l = cell_length n.store c (omega (arith, fit.view.tidy.room)) in
        made_splits number whole (empty (cell_of n.store c)) [] empty_fits (record { bytes = cell_of n.store c; room = omega arith; took = tt; is = refl }) tt

new_traced : (g : Settings) (count : ℕ) (store : List ℕ) (f : InCells) → TracedIn f (view_of (new_station g count) store)
unfolding new_station
new_traced g count store f c b = absurd (never_both (has_bit 0 c) b (has_none c))

pub all_split : (s : Station) (g : Given) (store : List ℕ) → start_refusal g (length store) ≡ 0 → (cs : List Call) → StoresOk cs (started s g store)
    → AllSplit (after cs (started s g store)) (in_cells cs (started s g store) (λ c. []))
unfolding after
all_split s g store e cs ok =
    let n = started s g store in
    let first = subst (λ (t : Station). TracedIn (λ c. []) (view_of t store)) (sym (start_is s g store e)) (new_traced _ _ store (λ c. [])) in
    cells_split (after cs n) (in_cells cs n (λ c. [])) (runs_fit s g store e cs) (calls_traced cs n (λ c. []) (runs_fit s g store e []) first ok)
