-- Item 3's part for one message: with every piece kept by the kept rule, the message lands exactly with the piece that completes the cover, with
-- the bytes that were sent. Assumes nothing.
use Rattle.std.specs.Prelude.{Some, None}
use mathlib.Core.Bool.{true}
use mathlib.Core.List.{List, [], ◌∷◌}
use mathlib.Core.Path.{◌≡◌, ap, ◌∙◌}
use Prim.Native.Nat.{ℕ, ◌≤◌}
use native.Mathlib.Omega.{arith}
use lib.ListN.{length, take, drop}
use borrow.Author.Tests.{le-leb}
use Rattle.bits.proofs.Lists.{cond_true}
use Rattle.inbox.specs.Cells.{Held, accept}
use Rattle.inbox.specs.Messages.{Piece, empty, accept_all, KeptBy, announced, landed, framed, shows_of}
use Rattle.inbox.specs.Stores.{landed_of, body_size, body_of}
use Rattle.inbox.proofs.Joined.{HasRoom, Prefix, Lands, joined_is, lands_exactly}
use Rattle.inbox.proofs.Rule.{kept_room}

kept_of_lem : (number : ℕ) (M : List ℕ) (h : Held) (ps : List Piece) → KeptBy number M h ps → HasRoom M h ps
kept_of_lem number M h [] k = tt
kept_of_lem number M h (p ∷ ps) k = (
  k.0,
  (
    kept_room number p.off (shows_of h p.off p.bytes) true h.cell h.bytes p.bytes k.1.0,
    kept_of_lem number M (accept h p.off p.bytes) ps k.1.1,
  ),
)

pub prefix_by_rule : (number : ℕ) (M bs : List ℕ) (ps : List Piece) → length M ≤ 2048 → 6144 ≤ length bs → KeptBy number M (empty bs) ps
    → Prefix M ps (accept_all (empty bs) ps)
prefix_by_rule number M bs ps small room k = joined_is M bs ps small room (kept_of_lem number M (empty bs) ps k)

pub lands_by_rule : (number : ℕ) (body bs : List ℕ) (ps : List Piece) → length body ≤ 2046 → 6144 ≤ length bs
    → KeptBy number (framed body) (empty bs) ps → Lands body ps (accept_all (empty bs) ps)
lands_by_rule number body bs ps small room k = lands_exactly body bs ps small room (kept_of_lem number (framed body) (empty bs) ps k)

-- ---- a cell that has landed says its message's length, and is read as the message
module _ (body : List ℕ) (ps : List Piece) (h : Held) (l : Lands body ps h) (e : landed h ≡ true) where
  pub says_bytes : landed_of h ≡ Some (length body)
  says_bytes = cond_true (landed h) (Some (announced h.bytes)) None e ∙ ap Some (l.says e)

  pub reads_body : length body ≤ 2046 → body_of h.bytes ≡ body
  reads_body small =
      let n : announced h.bytes ≡ length body = l.says e in
      let s : body_size h.bytes ≡ length body = simp (le-leb (announced h.bytes) 2046 (omega arith)) n in
      ap (λ (x : ℕ). take x (drop 2 h.bytes)) s ∙ l.bytes e
