-- What leaves every message alone: the cells stay, and each slot's window does, a newcomer's being the fresh one of a slot without a member.
-- Assumes nothing.
use mathlib.Core.Path.{◌≡◌, refl, sym, ap, ◌∙◌}
use mathlib.Core.Bool.{Bool, true, false, cond}
use mathlib.Core.List.{List, [], ◌∷◌}
use mathlib.Core.Logic.{⊎_elim}
use Prim.Native.Nat.{ℕ, zero, suc, ◌<◌}
use lib.ListN.{length, get_or, set, length-set}
use lib.Seq.{get_or-set_other}
use Rattle.bits.specs.Mask.{has_bit, with_bit}
use Rattle.bits.proofs.Laws.{with_other}
use Rattle.bits.proofs.Lists.{le_or_lt, eq_or_not}
use Rattle.stream.specs.declared.window.Window.{Window}
use Rattle.stream.specs.Window.{fresh_of}
use Rattle.stream.specs.Table.{Table}
use Rattle.roster.specs.declared.Member.{Member}
use Rattle.roster.specs.Members.{no_member}
use Rattle.net.specs.declared.Station.{Station}
use Rattle.net.specs.State.{index_of, table_of}
use Rattle.net.specs.Net.{is_member}
use Rattle.net.proofs.Laws.{index_is, member_is, member_none}
use Rattle.promise.proofs.Ties.{View}

-- the window of a slot: a slot without a member has none of its messages yet
abbrev pub window_in : ℕ → List Member → ℕ → Window
window_in used ms i = cond (is_member used i) (get_or ms (index_of i) no_member).up fresh_of

abbrev pub window_at : Station → ℕ → Window
window_at s i = window_in s.used s.members i

-- a station with these cells and members has the messages of s
pub record Kept (s : Station) (t : Table) (used : ℕ) (ms : List Member) : Type 0 where
  pub table : t ≡ table_of s
  pub long : length ms ≡ length s.members
  pub windows : (i : ℕ) → window_in used ms i ≡ window_at s i

abbrev pub Keeps : Station → Station → Type 0
Keeps s r = Kept s (table_of r) r.used r.members

pub kept_self : (s : Station) → Keeps s s
kept_self s = record { table = refl; long = refl; windows = λ i. refl }

-- and as many cells
pub kept_count : {s : Station} {t : Table} {used : ℕ} {ms : List Member} → Kept s t used ms → t.count ≡ s.count
kept_count k = ap (λ (t : Table). t.count) k.table

pub set_up : (ms : List Member) (j : ℕ) (m : Member) (n : ℕ) → m.up ≡ (get_or ms j no_member).up → (get_or (set ms j m) n no_member).up ≡ (get_or ms n no_member).up
set_up [] j m n q = refl
set_up (x ∷ ms) zero m zero q = q
set_up (x ∷ ms) zero m (suc n) q = refl
set_up (x ∷ ms) (suc j) m zero q = refl
set_up (x ∷ ms) (suc j) m (suc n) q = set_up ms j m n q

fresh_up : (ms : List Member) (j : ℕ) (m : Member) → m.up ≡ fresh_of → (get_or (set ms j m) j no_member).up ≡ fresh_of
fresh_up [] j m q = refl
fresh_up (x ∷ ms) zero m q = q
fresh_up (x ∷ ms) (suc j) m q = fresh_up ms j m q

-- one member written, with its window as before
pub kept_same : (s : Station) (t : Table) (used : ℕ) (ms : List Member) (j : ℕ) (m : Member) → m.up ≡ (get_or ms j no_member).up
    → Kept s t used ms → Kept s t used (set ms j m)
kept_same s t used ms j m q k =
    record {
      table = k.table;
      long = length-set ms j m ∙ k.long;
      windows = λ i. ap (λ (y : Window). cond (is_member used i) y fresh_of) (set_up ms j m (index_of i) q) ∙ k.windows i;
    }

fresh_both : (b : Bool) (w : Window) → w ≡ fresh_of → cond b w fresh_of ≡ fresh_of
fresh_both true w q = q
fresh_both false w q = refl

-- a newcomer
pub kept_new : (s : Station) (t : Table) (used : ℕ) (ms : List Member) (c : ℕ) (m : Member) → c < 62 → has_bit used c ≡ false → m.up ≡ fresh_of
    → Kept s t used ms → Kept s t (with_bit used (index_of c)) (set ms (index_of c) m)
kept_new s t used ms c m low free q k =
    record { table = k.table; long = length-set ms (index_of c) m ∙ k.long; windows = λ i. ⊎_elim (here i) (there i) (eq_or_not i c) }
  where
    is_c : index_of c ≡ c
    is_c = index_is c low

    gone : window_in used ms c ≡ fresh_of
    gone = ap (λ (b : Bool). cond b (get_or ms (index_of c) no_member).up fresh_of) (member_is used c low ∙ free)

    here : (i : ℕ) → i ≡ c → window_in (with_bit used (index_of c)) (set ms (index_of c) m) i ≡ window_at s i
    here i e =
        ap (window_in (with_bit used (index_of c)) (set ms (index_of c) m)) e
        ∙ fresh_both (is_member (with_bit used (index_of c)) c) _ (fresh_up ms (index_of c) m q)
        ∙ sym gone
        ∙ ap (window_in used ms) (sym e)
        ∙ k.windows i

    there : (i : ℕ) → (i ≡ c → ⊥) → window_in (with_bit used (index_of c)) (set ms (index_of c) m) i ≡ window_at s i
    there i z =
        ⊎_elim (λ a.
        ap (λ (b : Bool). cond b (get_or (set ms (index_of c) m) (index_of i) no_member).up fresh_of) (member_none (with_bit used (index_of c)) i a)
        ∙ sym (ap (λ (b : Bool). cond b (get_or ms (index_of i) no_member).up fresh_of) (member_none used i a))
        ∙ k.windows i)
        (λ a.
        let n : index_of c ≡ i → ⊥ = λ e. z (sym (sym is_c ∙ e)) in
        ap (λ (b : Bool). cond b (get_or (set ms (index_of c) m) (index_of i) no_member).up fresh_of)
        (member_is (with_bit used (index_of c)) i a ∙ with_other used (index_of c) i n ∙ sym (member_is used i a))
        ∙ ap (λ (y : Member). cond (is_member used i) y.up fresh_of)
        (get_or-set_other ms (index_of c) (index_of i) m no_member (λ e. n (sym e ∙ index_is i a)))
        ∙ k.windows i)
        (le_or_lt 62 i)

-- what the tie speaks of
abbrev pub view_of : Station → List ℕ → View
view_of s store = record { table = table_of s; store = store; windows = window_at s }

pub view_is : (t t' : Table) (store store' : List ℕ) (w w' : ℕ → Window) → t ≡ t' → store ≡ store' → ((i : ℕ) → w i ≡ w' i)
    → ◌≡◌ {A = View} (record { table = t; store = store; windows = w }) (record { table = t'; store = store'; windows = w' })
view_is t t' store store' w w' p q r = λ j. record { table = p j; store = q j; windows = λ i. r i j }

pub kept_view : (s r : Station) (store : List ℕ) → Keeps s r → view_of r store ≡ view_of s store
kept_view s r store k = view_is (table_of r) (table_of s) store store (window_at r) (window_at s) k.table refl k.windows
