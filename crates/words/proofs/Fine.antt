-- What parses is in range: its bytes, fields and lengths, and the number of its frames.
-- Assumes nothing.
use mathlib.Core.Path.{◌≡◌, refl, sym, ap, subst}
use mathlib.Core.List.{List, [], ◌∷◌}
use Prim.Native.Nat.{ℕ, zero, suc, ◌<◌}
use native.Mathlib.Omega.{arith}
use lib.ListN.{take, drop, get_or}
use Rattle.words.specs.declared.Item.{Item}
use Rattle.words.specs.declared.Item.TheVariants.{End, Bad, Lost, Frame}
use Rattle.words.specs.declared.Head.{Head}
use Rattle.words.specs.Words.{byte_of, byte_at, unpack, payload, item_at, size_of, Heard, Parsed, parsed, Burst, then_frames, no_more, frames_of, heard_of, parse}
use Rattle.words.specs.Fine.{Bytes, Fine, AllFine, FineBurst}
use Rattle.words.proofs.Laws.{frame_is}
use Rattle.words.proofs.Read.{payload_length}
use Rattle.words.proofs.Walk.{never, goes_before, frames_count, opened}

unpack_bytes : (ws : List ℕ) → Bytes (unpack ws)
unfolding unpack
unpack_bytes [] = Bytes.none
unpack_bytes (w ∷ ws) =
    let p : byte_of w 0 < 256 = omega arith in
    let q : byte_of w 1 < 256 = omega arith in
    let r : byte_of w 2 < 256 = omega arith in
    Bytes.more p (Bytes.more q (Bytes.more r (unpack_bytes ws)))

pub get_or_bytes : {l : List ℕ} (j : ℕ) → Bytes l → get_or l j 0 < 256
get_or_bytes j Bytes.none = omega arith
get_or_bytes zero (Bytes.more h t) = h
get_or_bytes (suc j) (Bytes.more h t) = get_or_bytes j t

-- any byte that is read is a byte
pub byte_below : (l : List ℕ) (j : ℕ) → byte_at l j < 256
unfolding byte_at
byte_below l j = get_or_bytes j (unpack_bytes (drop 2 l))

pub take_bytes : (n : ℕ) {l : List ℕ} → Bytes l → Bytes (take n l)
take_bytes zero h = Bytes.none
take_bytes (suc n) Bytes.none = Bytes.none
take_bytes (suc n) (Bytes.more h t) = Bytes.more h (take_bytes n t)

pub payload_bytes : (ws : List ℕ) (n : ℕ) → Bytes (payload ws n)
unfolding payload
payload_bytes ws n = take_bytes n (unpack_bytes ws)

-- the frame that an item stands for
pub item_fine : (i : Item) (l : List ℕ) → item_at l ≡ i → Fine (heard_of i l)
item_fine End l e = tt
item_fine Bad l e = tt
item_fine Lost l e = tt
item_fine (Frame a b n) l e =
    let f = frame_is l a b n e in
    (omega arith, omega arith, omega (arith, payload_length l a b n e), payload_bytes (drop 2 l) n)

none_fine : (fs : List Heard) → parsed [] ≡ parsed fs → AllFine fs
none_fine fs e = let z : [] ≡ fs = cc in subst AllFine z AllFine.none

no_more_fine : (i : Item) (fs : List Heard) → no_more i ≡ parsed fs → AllFine fs
no_more_fine End fs e = none_fine fs e
no_more_fine Bad fs e = absurd (never e)
no_more_fine Lost fs e = absurd (never e)
no_more_fine (Frame a b n) fs e = absurd (never e)

module _ (l : List ℕ) (rest : Parsed (List Heard)) (fs : List Heard) (ih : (tail : List Heard) → rest ≡ parsed tail → AllFine tail) where
  more_fine : (i : Item) → item_at l ≡ i → then_frames i l rest ≡ parsed fs → AllFine fs
  more_fine End q e = none_fine fs e
  more_fine Bad q e = absurd (never e)
  more_fine Lost q e =
      let g = goes_before (heard_of Lost l) rest fs e in
      subst AllFine (sym g.1) (AllFine.more tt (ih g.0 g.2))
  more_fine (Frame a b n) q e =
      let g = goes_before (heard_of (Frame a b n) l) rest fs e in
      subst AllFine (sym g.1) (AllFine.more (item_fine (Frame a b n) l q) (ih g.0 g.2))

pub frames_fine : (k : ℕ) (l : List ℕ) (fs : List Heard) → frames_of k l ≡ parsed fs → AllFine fs
unfolding frames_of
frames_fine zero l fs e = no_more_fine (item_at l) fs e
frames_fine (suc k) l fs e =
    more_fine l (frames_of k (drop (size_of (item_at l)) l)) fs (λ tail q. frames_fine k (drop (size_of (item_at l)) l) tail q) (item_at l) refl e

pub parse_fine : (ws : List ℕ) (b : Burst) → parse ws ≡ parsed b → FineBurst b
parse_fine ws b e =
    let o = opened ws b e in
    record {
      code = omega (arith, ap (λ (h : Head). h.code) o.head);
      hi = omega (arith, ap (λ (h : Head). h.hi) o.head);
      extra = omega (arith, ap (λ (h : Head). h.extra) o.head);
      frames = frames_fine 64 (drop 1 ws) b.frames o.frames;
      count = frames_count 64 (drop 1 ws) b.frames o.frames;
    }
