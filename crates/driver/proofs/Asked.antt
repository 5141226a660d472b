-- A start, step by step: what its words say, and the call.
use Rattle.std.proofs.Common.{◌≡◌, ℕ, Bool, true, false, List, [], take, sym, ap, ◌∙◌}
use Rattle.std.specs.Prelude.{Option, Some}
use Rattle.bits.proofs.Lists.{cond_true, cond_false}
use Rattle.words.specs.Words.{payload_at}
use Rattle.net.specs.declared.Station.{Station}
use Rattle.config.specs.declared.Given.{Given}
use Rattle.station.specs.declared.Answered.{Answered}
use Rattle.station.specs.Entries.{Outcome, answered, refused, start_of}
use Rattle.script.specs.declared.action.Command.TheVariants.{Start}
use Rattle.script.specs.Settings.{has_nan, given_at, lent_cells}
use Rattle.driver.specs.declared.memory.Memory.{Memory}
use Rattle.driver.specs.Kept.{kept}
use Rattle.driver.specs.Asked.{flags_of, store_of, started, started_by}

module _ (s : Station) (m : Memory) (ws p : List ℕ) (k : ℕ) (o : Option ℕ) (b : Bool) (w : ws ≡ kept m.words) (r : p ≡ payload_at ws 199) (f : o ≡ flags_of Start ws) (i : o ≡ Some k) (n : b ≡ has_nan p) where
  said : started s m ≡ started_by s m p (Some k)
  said =
      ap (λ (l : List ℕ). started_by s m (payload_at l 199) (flags_of Start l)) (sym w)
      ∙ ap (λ (q : List ℕ). started_by s m q (flags_of Start ws)) (sym r)
      ∙ ap (λ (x : Option ℕ). started_by s m p x) (sym f ∙ i)

  pub start_bad : (a : Answered) → b ≡ true → a ≡ answered (refused 3 s []) 0 → a ≡ answered (started s m) 0
  start_bad a t e = e ∙ ap (λ (x : Outcome). answered x 0) (sym (said ∙ cond_true _ _ _ (sym n ∙ t)))

  pub start_done : (a : Answered) (g : Given) (c z : ℕ) → b ≡ false → c ≡ lent_cells p → z ≡ store_of c 409600 → g ≡ given_at p m.times m.payloads
      → a ≡ answered (start_of s g (take z m.store)) 0 → a ≡ answered (started s m) 0
  start_done a g c z t l y h e =
      e
      ∙ ap (λ (x : Given). answered (start_of s x (take z m.store)) 0) h
      ∙ ap (λ (x : ℕ). answered (start_of s (given_at p m.times m.payloads) (take x m.store)) 0) y
      ∙ ap (λ (x : ℕ). answered (start_of s (given_at p m.times m.payloads) (take (store_of x 409600) m.store)) 0) l
      ∙ ap (λ (x : Outcome). answered x 0) (sym (said ∙ cond_false _ _ _ (sym n ∙ t)))
