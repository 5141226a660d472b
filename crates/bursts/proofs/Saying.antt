-- Loops over the 62 slots that change the station and write words as they go; words said before a fold stand before what it says.
-- Assumes nothing.
use mathlib.Core.Path.{◌≡◌, refl, sym, ap, ◌∙◌}
use mathlib.Core.List.{List, [], ◌++◌}
use Prim.Native.Nat.{ℕ, zero, suc, ◌+◌, ◌-◌, ◌<◌, ◌≤◌}
use Rattle.bits.specs.Loop.{fold}
use Rattle.bits.proofs.Loops.{fold_turn, fold_end}
use Rattle.out.specs.declared.Output.{Output}
use Rattle.out.specs.Outputs.{Writes}
use Rattle.out.proofs.Laws.{writes_then, writes_none, writes_as}
use Rattle.net.specs.declared.Station.{Station}
use Rattle.net.specs.Net.{Said, said, Does}

-- a loop that was lent the output o, before its turn i: the words so far are written, and the turns left give the whole
pub record Going (f : ℕ → Said → Said) (all : Said) (o : Output) (i : ℕ) (s : Station) (m : Output) : Type 0 where
  pub words : List ℕ
  pub wrote : Writes o words m
  pub rest : fold f (62 - i) i (said s words) ≡ all

module _ (f : ℕ → Said → Said) (all : Said) (o : Output) where
  pub going_start : (s : Station) → fold f 62 0 (said s []) ≡ all → Going f all o 0 s o
  going_start s e = record { words = []; wrote = writes_none o; rest = e }

  pub going_turn : {i : ℕ} {s t : Station} {m r : Output} → {vs : List ℕ} → i < 62 → Writes m vs r → Going f all o i s m → ((ws : List ℕ) → f i (said s ws) ≡ said t (ws ++ vs)) → Going f all o (i + 1) t r
  going_turn {i} {s} {t} {m} {r} {vs} h w g e =
      record {
        words = g.words ++ vs;
        wrote = writes_then g.wrote w;
        rest = rw (← e g.words) (sym (fold_turn f 62 i (said s g.words) h) ∙ g.rest);
      }

  pub going_end : {i : ℕ} {s : Station} {m : Output} → 62 ≤ i → Going f all o i s m → Does all s o m
  going_end {i} {s} {m} h g =
      let e : said s g.words ≡ all = sym (fold_end f 62 i (said s g.words) h) ∙ g.rest in
      record { station = ap (λ (x : Said). x.station) e; wrote = writes_as g.wrote (ap (λ (x : Said). x.words) e) }

-- words said before
abbrev pub ahead : List ℕ → Said → Said
ahead ws x = said x.station (ws ++ x.words)

pub fold_ahead : (f : ℕ → Said → Said) (ws : List ℕ) → ((i : ℕ) (x : Said) → f i (ahead ws x) ≡ ahead ws (f i x)) → (n i : ℕ) (x : Said) → fold f n i (ahead ws x) ≡ ahead ws (fold f n i x)
unfolding fold
fold_ahead f ws e zero i x = refl
fold_ahead f ws e (suc n) i x = rw (e i x) (fold_ahead f ws e n (suc i) (f i x))

-- one function after another
pub does_then : {d : Said} {r t : Station} {o m n : Output} {e : Said} → Does d r o m → Does e t m n → Does (ahead d.words e) t o n
does_then p q = record { station = q.station; wrote = writes_then p.wrote q.wrote }

-- the same, said otherwise
pub does_as : {d e : Said} {r : Station} {o m : Output} → Does d r o m → d ≡ e → Does e r o m
does_as p e = rw e at p
