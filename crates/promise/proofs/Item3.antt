-- The theorem of item 3. It stands on the definitions that the entry points' contracts name, and assumes nothing.
use mathlib.Core.Path.{◌≡◌}
use mathlib.Core.Bool.{true}
use mathlib.Core.List.{List}
use Prim.Native.Nat.{ℕ, ◌≤◌}
use native.Mathlib.Omega.{arith}
use lib.ListN.{length}
use Rattle.net.specs.declared.Station.{Station}
use Rattle.config.specs.declared.Given.{Given}
use Rattle.station.specs.Entries.{start_refusal}
use Rattle.promise.specs.Promise.{Net, Call, started, after, LinksHold, TurnsHold, empty_view, trace, Stays, empty_book, CallsOk, Messages, Item3}
use Rattle.promise.proofs.Links.{links}
use Rattle.promise.proofs.Turns.{turns}
use Rattle.promise.proofs.Messages.{messages_kept}

pub item_3 : Item3
item_3 s g store e cs =
    record {
      links = links s g store e cs;
      turns = turns s g store e cs;
      messages = λ M small ok. messages_kept M small s g store e cs ok;
    }

-- ---- the same of messages of at most 2,046 bytes alone: those that a cell has room for

pub record ShortPromise (n : Net) (cs : List Call) : Type 0 where
  pub links : LinksHold (after cs n).station
  pub turns : TurnsHold empty_view (trace cs n)
  pub messages : (M : Stays) → ((s t k : ℕ) → M.watched s t ≡ true → length (M.text s t k) ≤ 2046) → CallsOk M cs n empty_book → Messages M n cs

pub item_3_short : (s : Station) (g : Given) (store : List ℕ) → start_refusal g (length store) ≡ 0 → (cs : List Call) → ShortPromise (started s g store) cs
item_3_short s g store e cs =
    let p = item_3 s g store e cs in
    record { links = p.links; turns = p.turns; messages = λ M small ok. p.messages M (λ s t k on. omega (arith, small s t k on)) ok }
