-- The payloads that the station sends are bytes: rows of the frames, and the beacon's own. Assumes nothing.
use mathlib.Core.Path.{◌≡◌, refl, sym, ◌∙◌, subst}
use mathlib.Core.Logic.{◌⊎◌, ⊎_elim}
use Prim.Native.Nat.{ℕ, zero, suc, ◌+◌, ◌-◌, ◌*◌, ◌/◌, ◌%◌, ◌^◌, ◌≤◌, ◌<◌}
use native.Mathlib.Omega.{arith}
use mathlib.Core.Bool.{Bool, true, false, not, cond, ◌||◌}
use mathlib.Core.List.{List, [], ◌++◌}
use lib.Dec.{eqb}
use lib.ListN.{length, get_or, length-append}
use lib.Ieee.{Float, nan, inf, fin}
use Rattle.level.specs.Order.{is_nan}
use Rattle.rounding.specs.Round.{announced}
use Rattle.bits.specs.Loop.{fold}
use Rattle.bits.specs.Mask.{has_bit, both_of, minus_of}
use Rattle.bits.proofs.Laws.{has_both, has_either}
use Rattle.bits.proofs.Lists.{cond_keeps, and_true, or_elim}
use Rattle.wire.specs.Call.{bytes_of, packed}
use Rattle.wire.specs.Kinds.{c_beacon, c_acks, c_tree, c_rxlist}
use Rattle.words.specs.Fine.{Bytes}
use Rattle.words.proofs.Fine.{get_or_bytes}
use Rattle.out.specs.Encode.{ctrl_words, chunk_words}
use Rattle.stream.specs.Window.{bitmap_of}
use Rattle.net.specs.declared.Station.{Station}
use Rattle.net.specs.declared.Settings.{Settings}
use Rattle.net.specs.State.{member_at}
use Rattle.net.specs.Net.{is_member, members_in, times, slot_len}
use Rattle.net.proofs.Laws.{index_is, member_lt, member_is}
use Rattle.roster.specs.Members.{no_member}
use Rattle.bursts.specs.Rows.{member_in, row_if, rows_on, rows_of, ack_row, ack_at, ack_rows, tree_row, tree_at, tree_rows, list_row, list_at, list_rows}
use Rattle.bursts.specs.Bursts.{acked, moved_in, acked_or_moved, thousand, first_ms, or_one, len_ms, two_bytes, timing, name_payload, beacon_payload, beacon_rows, beacon_acks}
use Rattle.promise.specs.Promise.{LinksHold}
use Rattle.laws.proofs.Dues.{relay_is}
use Rattle.laws.proofs.LogsWords.{Frames, frames_both, frames_ctrl, frames_rows}

bytes_append : {a b : List ℕ} → Bytes a → Bytes b → Bytes (a ++ b)
bytes_append Bytes.none k = k
bytes_append (Bytes.more h t) k = Bytes.more h (bytes_append t k)

bytes_of_lem : (n v : ℕ) → Bytes (bytes_of n v)
bytes_of_lem zero v = Bytes.none
bytes_of_lem (suc n) v = Bytes.more {b = v % 256} (omega arith) (bytes_of_lem n (v / 256))

-- ---- rows

-- k bytes
pub record Row (k : ℕ) (r : List ℕ) : Type 0 where
  pub bytes : Bytes r
  pub long : length r ≤ k

module _ (p : ℕ → List ℕ → Bool) (row : ℕ → List ℕ) (k : ℕ) (each : (i : ℕ) (bs : List ℕ) → i < 62 → p i bs ≡ true → Row k (row i)) where
  row_by : (i : ℕ) (bs : List ℕ) (m : ℕ) (t : Bool) → (t ≡ true → Row k (row i)) → Row m bs → Row (m + k) (cond t (bs ++ row i) bs)
  row_by i bs m true f r =
      record { bytes = bytes_append r.bytes (f refl).bytes; long = omega (arith, length-append bs (row i), r.long, (f refl).long) }
  row_by i bs m false f r = record { bytes = r.bytes; long = omega (arith, r.long) }

  rows_from : (n i : ℕ) (bs : List ℕ) (m : ℕ) → i + n ≤ 62 → Row m bs → Row (m + n * k) (fold (row_if p row) n i bs)
  unfolding fold
  rows_from zero i bs m h r = record { bytes = r.bytes; long = omega (arith, r.long) }
  rows_from (suc n) i bs m h r =
      let s = rows_from n (suc i) (row_if p row i bs) (m + k) (omega arith) (row_by i bs m (p i bs) (λ e. each i bs (omega arith) e) r) in
      record { bytes = s.bytes; long = omega (arith, s.long) }

  rows_on_lem : (bs : List ℕ) (m : ℕ) → Row m bs → Row (m + 62 * k) (rows_on p row bs)
  unfolding rows_on
  rows_on_lem bs m r = rows_from 62 0 bs m (omega arith) r

  rows : Row (62 * k) (rows_of p row)
  rows = let r = rows_on_lem [] 0 (record { bytes = Bytes.none; long = omega arith }) in record { bytes = r.bytes; long = omega (arith, r.long) }

ack_row_lem : (s : Station) (i : ℕ) → i < 62 → Row 6 (ack_row s i)
ack_row_lem s i h = record { bytes = Bytes.more {b = i} (omega arith) (bytes_of_lem 5 (packed (member_in s i).call)); long = omega arith }

ack_rows_lem : (s : Station) (mask most : ℕ) → Row 372 (ack_rows s mask most)
ack_rows_lem s mask most = rows (ack_at mask most) (ack_row s) 6 (λ i bs h e. ack_row_lem s i h)

beacon_rows_lem : (s : Station) → Row 744 (beacon_rows s)
unfolding beacon_rows
beacon_rows_lem s =
    let r = rows_on_lem (ack_at (minus_of s.used s.round.toack) 9) (ack_row s) 6 (λ i bs h e. ack_row_lem s i h) (ack_rows s (acked s) 9) 372 (ack_rows_lem s (acked s) 9) in
    record { bytes = r.bytes; long = omega (arith, r.long) }

list_row_lem : (s : Station) (i : ℕ) → i < 62 → Row 3 (list_row s i)
list_row_lem s i h = record { bytes = Bytes.more {b = i} (omega arith) (Bytes.more {b = (member_in s i).up.next % 256} (omega arith) (Bytes.more {b = bitmap_of (member_in s i).up} (omega arith) Bytes.none)); long = omega arith }

list_rows_lem : (s : Station) → Row 186 (list_rows s)
list_rows_lem s = rows (list_at s) (list_row s) 3 (λ i bs h e. list_row_lem s i h)

-- ---- the tree: a member's relay is none or a member

member_used : (m used i : ℕ) → has_bit (both_of m (members_in used)) i ≡ true → has_bit used i ≡ true
member_used m used i e =
    (and_true (has_bit used i) (has_bit (2 ^ 62 - 1) i) (sym (has_both used (2 ^ 62 - 1) i) ∙ (and_true (has_bit m i) (has_bit (members_in used) i) (sym (has_both m (members_in used) i) ∙ e)).1)).0

moved_used : (s : Station) (i : ℕ) → has_bit (acked_or_moved s) i ≡ true → has_bit s.used i ≡ true
moved_used s i e =
    or_elim (has_bit (acked s) i) (has_bit (moved_in s) i) (sym (has_either (acked s) (moved_in s) i) ∙ e)
    (λ q. member_used s.round.toack s.used i q)
    (λ q. member_used s.round.treenews s.used i q)

via_byte : (s : Station) → LinksHold s → (i : ℕ) → i < 62 → has_bit s.used i ≡ true → (member_in s i).via < 256
via_byte s l i h e =
    let m : is_member s.used i ≡ true = member_is s.used i h ∙ e in
    ⊎_elim
    (λ q. let z : (member_in s i).via ≡ 63 = subst (λ (j : ℕ). (get_or s.members j no_member).via ≡ 63) (index_is i h) q in omega arith)
    (λ q. let z : (member_in s i).via < 62 = subst (λ (j : ℕ). (get_or s.members j no_member).via < 62) (index_is i h) (member_lt s.used (member_at s i).via q) in omega arith)
    (relay_is s l i m)

tree_row_lem : (s : Station) (i : ℕ) → i < 62 → (member_in s i).via < 256 → Row 2 (tree_row s i)
tree_row_lem s i h v = record { bytes = Bytes.more {b = i} (omega arith) (Bytes.more v Bytes.none); long = omega arith }

tree_rows_lem : (s : Station) → LinksHold s → Row 124 (tree_rows s (acked_or_moved s) (moved_in s))
tree_rows_lem s l =
    rows (tree_at s (acked_or_moved s) (moved_in s)) (tree_row s) 2
    (λ i bs h e. tree_row_lem s i h (via_byte s l i h (moved_used s i (and_true (has_bit (acked_or_moved s) i) (not (eqb (member_in s i).via 63) || has_bit (moved_in s) i) e).0)))

-- ---- the frames of each burst

more_frames : {n k : ℕ} {fs : List ℕ} → Frames n fs → n ≤ k → Frames k fs
more_frames f h = record { plain = f.plain; good = λ m ws g room q. f.good m ws g room (omega arith) }

pub acks_frames : (s : Station) → LinksHold s
    → Frames 64 (chunk_words c_acks 18 (ack_rows s (acked s) 62) ++ chunk_words c_tree 20 (tree_rows s (acked_or_moved s) (moved_in s)))
acks_frames s l =
    let a = ack_rows_lem s (acked s) 62 in
    let t = tree_rows_lem s l in
    more_frames (frames_both (frames_rows c_acks 18 21 _ (omega arith) (omega arith) a.bytes (omega (arith, a.long)))
    (frames_rows c_tree 20 7 _ (omega arith) (omega arith) t.bytes (omega (arith, t.long)))) (omega arith)

pub list_frames : (s : Station) → Frames 64 (chunk_words c_rxlist 21 (list_rows s))
list_frames s = let r = list_rows_lem s in more_frames (frames_rows c_rxlist 21 9 _ (omega arith) (omega arith) r.bytes (omega (arith, r.long))) (omega arith)

-- the settings that a beacon sends as they are
pub record Sendable (g : Settings) : Type 0 where
  pub name : Bytes g.name
  pub window : g.windowslots < 256

-- the window's timing: two numbers of 16 bits
announced_most : (x : Float) → announced x ≤ 65535
unfolding announced
announced_most nan = omega arith
announced_most (inf true) = omega arith
announced_most (inf false) = omega arith
announced_most (fin true m e) = omega arith
announced_most (fin false m e) = omega arith

len_most : (g : Settings) → len_ms g ≤ 65535
len_most g =
    let x = times (slot_len g) thousand in
    let n = announced x in
    cond_keeps (λ (k : ℕ). k ≤ 65535) (is_nan x) 0 (or_one n) (λ _. omega arith)
    (λ _. cond_keeps (λ (k : ℕ). k ≤ 65535) (eqb n 0) 1 n (λ _. omega arith) (λ _. announced_most x))

two_bytes_lem : (n : ℕ) → n ≤ 65535 → Bytes (two_bytes n)
two_bytes_lem n h = Bytes.more {b = n % 256} (omega arith) (Bytes.more {b = n / 256} (omega arith) Bytes.none)

timing_row : (g : Settings) (acks : ℕ) → Row 4 (timing g acks)
timing_row g acks =
    cond_keeps (Row 4) g.prime (two_bytes (first_ms g acks) ++ two_bytes (len_ms g)) []
    (λ _. record { bytes = bytes_append (two_bytes_lem (first_ms g acks) (announced_most _)) (two_bytes_lem (len_ms g) (len_most g)); long = omega arith })
    (λ _. record { bytes = Bytes.none; long = omega arith })

beacon_row : (g : Settings) (acks : ℕ) → Sendable g → Row 18 (beacon_payload g acks)
unfolding beacon_payload
beacon_row g acks o =
    let b : (i : ℕ) → get_or g.name i 0 < 256 = λ i. get_or_bytes i o.name in
    let t = timing_row g acks in
    let e : length (name_payload g) ≡ 14 = refl in
    record {
      bytes =
          bytes_append
          (bytes_append (Bytes.more {b = c_beacon} (omega arith) (bytes_of_lem 5 (packed g.call)))
          (Bytes.more (b 0) (Bytes.more (b 1) (Bytes.more (b 2) (Bytes.more (b 3) (Bytes.more (b 4) (Bytes.more (b 5) (Bytes.more {b = 1} (omega arith) (Bytes.more o.window Bytes.none)))))))))
          t.bytes;
      long = omega (arith, length-append (name_payload g) (timing g acks), t.long, e);
    }

pub beacon_frames : (s : Station) → Sendable s.settings → Frames 64 (ctrl_words (beacon_payload s.settings (beacon_acks s)) ++ chunk_words c_acks 18 (beacon_rows s))
beacon_frames s o =
    let a = beacon_rows_lem s in
    let p = beacon_row s.settings (beacon_acks s) o in
    more_frames (frames_both (frames_ctrl (beacon_payload s.settings (beacon_acks s)) (omega (arith, p.long)) p.bytes)
    (frames_rows c_acks 18 42 _ (omega arith) (omega arith) a.bytes (omega (arith, a.long)))) (omega arith)
