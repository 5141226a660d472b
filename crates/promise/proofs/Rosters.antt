-- The links of a roster through each change that the station makes to it: a member changed but for its relay, one that loses its relay,
-- one that is moved to a member without a relay, and a newcomer. Assumes nothing.
use mathlib.Core.Path.{◌≡◌, refl, sym, ap, ◌∙◌, subst}
use mathlib.Core.Logic.{◌⊎◌, inl, inr}
use Prim.Native.Nat.{ℕ, zero, suc, ◌<◌}
use native.Mathlib.Omega.{arith}
use mathlib.Core.Bool.{Bool, true, false, cond, ◌&&◌, ◌||◌}
use mathlib.Core.List.{List, [], ◌∷◌}
use lib.ListN.{length, get_or, set, replicate, length-replicate, length-set}
use lib.Seq.{get_or-set_same, get_or-set_other}
use lib.Dec.{T, eqb, ltb}
use borrow.Author.Tests.{ne_eqb}
use Rattle.bits.specs.Mask.{has_bit, with_bit}
use Rattle.bits.proofs.Laws.{has_none, with_same, with_other}
use Rattle.roster.specs.declared.Member.{Member}
use Rattle.roster.specs.Members.{no_member}
use Rattle.net.specs.declared.Station.{Station}
use Rattle.net.specs.State.{index_of, member_at}
use Rattle.net.specs.Net.{is_member}
use Rattle.net.proofs.Laws.{index_is, member_lt, member_is}
use Rattle.promise.specs.Promise.{leads, LinksHold}
use Rattle.promise.proofs.Walk.{RelayOk}
use Rattle.promise.proofs.Trees.{Link, absent, root, via, on_link, leads_by, Real, Tree, NewLink, tree_leads, tree_cut, tree_same, tree_hang, tree_new, tree_none}

-- ---- the invariant

-- a relay of 63 is none
abbrev pub link_via : ℕ → Link
link_via relay = cond (eqb relay 63) root (via relay)

-- the links of a roster, by its mask of used slots and its members
abbrev pub link_in : ℕ → List Member → ℕ → Link
link_in used ms i = cond (is_member used i) (link_via (get_or ms (index_of i) no_member).via) absent

-- there is an order of the slots in which every relay stands later than its boat, every relay is a member, and there are 62 slots
pub record Kept (used : ℕ) (ms : List Member) : Type 0 where
  pub tree : Tree (link_in used ms)
  pub size : length ms ≡ 62

abbrev pub Keeps : Station → Type 0
Keeps s = Kept s.used s.members

real_via : (v : ℕ) → Real (link_via v)
real_via v = go (eqb v 63)
  where
    go : (b : Bool) → Real (cond b root (via v))
    go true = tt
    go false = tt

real_member : (used : ℕ) (ms : List Member) (i : ℕ) → is_member used i ≡ true → Real (link_in used ms i)
real_member used ms i h = rw h (real_via (get_or ms (index_of i) no_member).via)

is_true : (b : Bool) → T b → b ≡ true
is_true true t = refl
is_true false t = absurd t

-- the steps of the statement are steps along these links
leads_is : (s : Station) (k i : ℕ) → leads s k i ≡ leads_by (link_in s.used s.members) k i
unfolding leads leads_by
leads_is s zero i = at (is_member s.used i) (eqb (member_at s i).via 63)
  where
    at : (b c : Bool) → b && c ≡ on_link (cond b (cond c root (via (member_at s i).via)) absent) (λ r. false)
    at true true = refl
    at true false = refl
    at false c = refl
leads_is s (suc k) i = at (is_member s.used i) (eqb (member_at s i).via 63) (leads_is s k (member_at s i).via)
  where
    at : (b c : Bool) → leads s k (member_at s i).via ≡ leads_by (link_in s.used s.members) k (member_at s i).via
        → b && (c || leads s k (member_at s i).via)
        ≡ on_link (cond b (cond c root (via (member_at s i).via)) absent) (λ r. leads_by (link_in s.used s.members) k r)
    at true true q = refl
    at true false q = q
    at false c q = refl

pub kept_holds : (s : Station) → Keeps s → LinksHold s
kept_holds s k i h =
    leads_is s 61 i
    ∙ is_true (leads_by (link_in s.used s.members) 61 i)
    (tree_leads k.tree i (member_lt s.used i h) (real_member s.used s.members i h))

-- ---- no members

pub no_member_lem : (i : ℕ) → is_member 0 i ≡ false
unfolding is_member
no_member_lem i = rw (has_none i) (go (ltb i 62))
  where
    go : (b : Bool) → b && false ≡ false
    go true = refl
    go false = refl

pub kept_none : (m : Member) → Kept 0 (replicate 62 m)
kept_none m =
    record {
      tree = tree_none (link_in 0 (replicate 62 m)) (λ i. rw (no_member_lem i));
      size = length-replicate {A = Member} 62 m;
    }

-- ---- a member changed in its place

pub change : (Q : Member → Member → Type 0) → ((m : Member) → Q m m) → (m : Member) (ms : List Member) (i j : ℕ) → Q m (get_or ms i no_member)
    → Q (get_or (set ms i m) j no_member) (get_or ms j no_member)
change Q r m [] i j h = r no_member
change Q r m (x ∷ ms) zero zero h = h
change Q r m (x ∷ ms) zero (suc j) h = r (get_or ms j no_member)
change Q r m (x ∷ ms) (suc i) zero h = r x
change Q r m (x ∷ ms) (suc i) (suc j) h = change Q r m ms i j h

link_change : (Q : Link → Link → Type 0) → ((w : Link) → Q w w) → (used : ℕ) (m : Member) (ms : List Member) (i : ℕ)
    → Q (link_via m.via) (link_via (get_or ms i no_member).via) → (j : ℕ) → Q (link_in used (set ms i m) j) (link_in used ms j)
link_change Q r used m ms i h j = go (is_member used j)
  where
    go : (b : Bool)
        → Q (cond b (link_via (get_or (set ms i m) (index_of j) no_member).via) absent) (cond b (link_via (get_or ms (index_of j) no_member).via) absent)
    go true = change (λ a b. Q (link_via a.via) (link_via b.via)) (λ a. r (link_via a.via)) m ms i (index_of j) h
    go false = r absent

set_size : (ms : List Member) (i : ℕ) (m : Member) → length ms ≡ 62 → length (set ms i m) ≡ 62
set_size ms i m e = length-set ms i m ∙ e

-- a change that leaves the relay as it is
pub kept_same : (used : ℕ) (ms : List Member) (i : ℕ) (m : Member) → m.via ≡ (get_or ms i no_member).via → Kept used ms → Kept used (set ms i m)
kept_same used ms i m e k =
    record {
      tree = tree_same (link_in used ms) (link_in used (set ms i m)) (link_change (λ a b. a ≡ b) (λ w. refl) used m ms i (ap link_via e)) k.tree;
      size = set_size ms i m k.size;
    }

-- a member that loses its relay
pub kept_cut : (used : ℕ) (ms : List Member) (i : ℕ) (m : Member) → m.via ≡ 63 → Kept used ms → Kept used (set ms i m)
kept_cut used ms i m e k =
    record {
      tree =
          tree_cut (link_in used ms) (link_in used (set ms i m))
          (link_change (λ a b. (a ≡ b) ⊎ (a ≡ root)) (λ w. inl refl) used m ms i (inr (ap link_via e)))
          k.tree;
      size = set_size ms i m k.size;
    }

via_is : (r : ℕ) → r < 62 → link_via r ≡ via r
via_is r h = rw (ne_eqb r 63 (λ e. omega arith))

-- a member that is moved to slot r, whose member has no relay
pub kept_hang : (used : ℕ) (ms : List Member) (c r : ℕ) (m : Member) → m.via ≡ r → (r ≡ c → ⊥) → is_member used r ≡ true
    → (get_or ms r no_member).via ≡ 63 → Kept used ms → Kept used (set ms c m)
kept_hang used ms c r m e n h v k =
    record {
      tree =
          tree_hang (link_in used ms) (link_in used (set ms c m)) r l
          (rw (h, index_is r l, get_or-set_other ms c r m no_member n, v))
          (link_change (λ a b. (a ≡ b) ⊎ (a ≡ via r)) (λ w. inl refl) used m ms c (inr (ap link_via e ∙ via_is r l)))
          k.tree;
      size = set_size ms c m k.size;
    }
  where
    l : r < 62
    l = member_lt used r h

-- ---- a newcomer

pub member_other : (used c i : ℕ) → (i ≡ c → ⊥) → is_member (with_bit used c) i ≡ is_member used i
unfolding is_member
member_other used c i n = rw (with_other used c i (λ e. n (sym e)))

new_link : (used : ℕ) (ms : List Member) (v : ℕ) → RelayOk used v → NewLink (link_in used ms) (link_via v)
new_link used ms v (inl e) = rw e tt
new_link used ms v (inr h) = rw (via_is v (member_lt used v h)) (member_lt used v h, real_member used ms v h)

pub kept_new : (used : ℕ) (ms : List Member) (c : ℕ) (m : Member) → c < 62 → has_bit used c ≡ false → RelayOk used m.via → Kept used ms
    → Kept (with_bit used c) (set ms c m)
kept_new used ms c m l f r k =
    record {
      tree =
          tree_new (link_in used ms) (link_in (with_bit used c) (set ms c m)) c l
          (rw (member_is used c l ∙ f))
          (subst (NewLink (link_in used ms)) (sym here) (new_link used ms m.via r))
          other
          k.tree;
      size = set_size ms c m k.size;
    }
  where
    here : link_in (with_bit used c) (set ms c m) c ≡ link_via m.via
    here =
        let z : length ms ≡ 62 = k.size in
        rw (member_is (with_bit used c) c l ∙ with_same used c (omega arith), index_is c l, get_or-set_same ms c m no_member (omega arith))

    by : (i : ℕ) → (i ≡ c → ⊥) → (b : Bool) → is_member used i ≡ b
        → cond b (link_via (get_or (set ms c m) (index_of i) no_member).via) absent ≡ cond b (link_via (get_or ms (index_of i) no_member).via) absent
    by i n true e =
        let q : index_of i ≡ i = index_is i (member_lt used i e) in
        ap (λ (x : Member). link_via x.via) (get_or-set_other ms c (index_of i) m no_member (λ z. n (sym q ∙ z)))
    by i n false e = refl

    other : (i : ℕ) → (i ≡ c → ⊥) → link_in (with_bit used c) (set ms c m) i ≡ link_in used ms i
    other i n =
        ap (λ (b : Bool). cond b (link_via (get_or (set ms c m) (index_of i) no_member).via) absent) (member_other used c i n)
        ∙ by i n (is_member used i) refl
