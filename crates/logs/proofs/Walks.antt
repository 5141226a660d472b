-- The walk over the words with a mask is the one pass over the entries with a list. Assumes nothing.
use mathlib.Core.Path.{◌≡◌, refl, ap, ◌∙◌, subst}
use mathlib.Core.Bool.{Bool, true, false, cond, ◌&&◌, ◌||◌}
use mathlib.Core.List.{List, [], ◌∷◌, ◌++◌, append_assoc, append-nil}
use Prim.Native.Nat.{ℕ, zero, suc, ◌+◌, ◌-◌, ◌/◌, ◌%◌, ◌<◌}
use native.Mathlib.Numerals.{add-one}
use native.Mathlib.Omega.{arith}
use lib.Dec.{eqb, ltb}
use borrow.Author.Tests.{ne_eqb, eqb-true}
use Rattle.bits.specs.Mask.{with_bit, without_bit}
use Rattle.bits.proofs.Lists.{cond_false}
use Rattle.wire.specs.Kinds.{tiny, k_poll, k_pollack, k_ack, k_relay}
use Rattle.words.specs.Words.{head_of}
use Rattle.words.specs.declared.Head.{Head}
use Rattle.logs.specs.declared.Watch.{Watch}
use Rattle.logs.specs.Reading.{Entry, mark, poll, pollack, ack, is_mark, has, sending_by, slots_in, entries_from}
use Rattle.logs.specs.Turns.{turn, Running, idle, runs, begun}
use Rattle.std.specs.Prelude.{Option, Some, None, is_some}
use Rattle.logs.specs.Steps.{on, walk, watch, drawn, listed, begins, again, is_slot, polled, slot_after, acked, tiny_sent, sent, word_step, watch_step}
use Rattle.logs.proofs.Sets.{without, is_none, Same, same_none, same_behind, same_without, same_empty}
use Rattle.logs.proofs.Watched.{watched}

-- the walk goes on behind a word: whether it finds no fault
abbrev went : Option Watch → List ℕ → Bool
went x ws = is_some (on x (λ s. walk watch_step s ws))

-- the turn that runs, as the walk has it
abbrev Runs : Option ℕ → ℕ → ℕ → Running → Type 0
Runs slot polls acks idle = slot ≡ None
Runs slot polls acks (runs (turn s p a)) = (slot ≡ Some s) × (polls ≡ p) × (acks ≡ a) × (s < 64)

-- what is to be shown of the words ws, of which the first `left` are a list's
abbrev Goal : List ℕ → ℕ → Type 0
Goal ws left =
    (m : ℕ) (slot : Option ℕ) (p a : ℕ) (due : List ℕ) (r : Running) → Same m due → Runs slot p a r
    → went (Some (watch left m slot p a)) ws ≡ watched (due ++ slots_in left ws) r (entries_from left ws)

-- and of a state t behind a word: it goes on as the pass over the entries es does
abbrev Goes : List ℕ → Option Watch → List ℕ → Running → List Entry → Type 0
Goes ws t due r es = went t ws ≡ watched due r (es ++ entries_from 0 ws)

module _ (ws : List ℕ) (ih : Goal ws 0) (m : ℕ) (slot : Option ℕ) (p a : ℕ) (due : List ℕ) (same : Same m due) where
  next : (m : ℕ) (slot : Option ℕ) (p a : ℕ) (due : List ℕ) (r : Running) → Same m due → Runs slot p a r → went (Some (watch 0 m slot p a)) ws ≡ watched due r (entries_from 0 ws)
  unfolding slots_in
  next m slot p a due r s e = subst (λ (l : List ℕ). went (Some (watch 0 m slot p a)) ws ≡ watched l r (entries_from 0 ws)) (append-nil due) (ih m slot p a due r s e)

  begins_by : (x : ℕ) (b : Bool) → x < 64
      → went (cond b (Some (watch 0 (without_bit m x) (Some x) 1 0)) None) ws ≡ b && watched (without x due) (begun x) (entries_from 0 ws)
  begins_by x true h = next (without_bit m x) (Some x) 1 0 (without x due) (begun x) (same_without m due x same) (refl, refl, refl, h)
  begins_by x false h = refl

  goes_begins : (x : ℕ) → x < 64 → went (begins (watch 0 m slot p a) x) ws ≡ has x due && watched (without x due) (begun x) (entries_from 0 ws)
  unfolding begins
  goes_begins x h = rw (same.bits x h) (begins_by x (has x due) h)

  again_by : (s : ℕ) (b : Bool) → slot ≡ Some s → s < 64
      → went (cond b (Some (watch 0 m slot (p + 1) a)) None) ws ≡ b && watched due (runs (turn s (suc p) a)) (entries_from 0 ws)
  again_by s true e h = next m slot (p + 1) a due (runs (turn s (suc p) a)) same (e, add-one p, refl, h)
  again_by s false e h = refl

  goes_poll : (x : ℕ) (r : Running) → x < 64 → Runs slot p a r → Goes ws (polled (watch 0 m slot p a) x) due r (poll x ∷ [])
  unfolding polled again watched
  goes_poll x idle h e =
      ap (λ (b : Bool). went (cond b (again (watch 0 m slot p a)) (begins (watch 0 m slot p a) x)) ws) (ap (λ (o : Option ℕ). is_slot o x) e) ∙ goes_begins x h
  goes_poll x (runs (turn s q b)) h e =
      rw (← e.1, ← e.2)
      (ap (λ (t : Bool). went (cond t (again (watch 0 m slot p a)) (begins (watch 0 m slot p a) x)) ws) (ap (λ (o : Option ℕ). is_slot o x) e.0)
      ∙ by (eqb x s) (again_by s (ltb p 5) e.0 e.3) (goes_begins x h))
    where
      by : (t : Bool)
          → went (cond (ltb p 5) (Some (watch 0 m slot (p + 1) a)) None) ws ≡ ltb p 5 && watched due (runs (turn s (suc p) a)) (entries_from 0 ws)
          → went (begins (watch 0 m slot p a) x) ws ≡ has x due && watched (without x due) (begun x) (entries_from 0 ws)
          → went (cond t (cond (ltb p 5) (Some (watch 0 m slot (p + 1) a)) None) (begins (watch 0 m slot p a) x)) ws
          ≡ cond t (ltb p 5 && watched due (runs (turn s (suc p) a)) (entries_from 0 ws)) (has x due && watched (without x due) (begun x) (entries_from 0 ws))
      by true f g = f
      by false f g = g

  acked_by : (x : ℕ) (last : Bool) (r : Running) (b c : Bool) → (b ≡ true → Runs (slot_after x last) p (a + 1) r)
      → went (cond b (cond c (Some (watch 0 m (slot_after x last) p (a + 1))) None) None) ws ≡ b && (c && watched due r (entries_from 0 ws))
  acked_by x last r true true f = next m (slot_after x last) p (a + 1) due r same (f refl)
  acked_by x last r true false f = refl
  acked_by x last r false c f = refl

  -- an acknowledgement, where the test of its slot says b
  abbrev acked_on : ℕ → Bool → Bool → Bool
  acked_on x last b = went (cond b (cond (ltb a 4) (Some (watch 0 m (slot_after x last) p (a + 1))) None) None) ws

  goes_pollack : (x : ℕ) (r : Running) → x < 64 → Runs slot p a r → Goes ws (acked (watch 0 m slot p a) x false) due r (pollack x ∷ [])
  unfolding acked watched
  goes_pollack x idle h e = ap (acked_on x false) (ap (λ (o : Option ℕ). is_slot o x) e)
  goes_pollack x (runs (turn s q b)) h e =
      rw (← e.1, ← e.2)
      (ap (acked_on x false) (ap (λ (o : Option ℕ). is_slot o x) e.0)
      ∙ acked_by x false (runs (turn s p (suc a))) (eqb x s) (ltb a 4) (λ t. (ap Some (eqb-true x s t), refl, add-one a, e.3)))

  goes_ack : (x : ℕ) (r : Running) → x < 64 → Runs slot p a r → Goes ws (acked (watch 0 m slot p a) x true) due r (ack x ∷ [])
  unfolding acked watched
  goes_ack x idle h e = ap (acked_on x true) (ap (λ (o : Option ℕ). is_slot o x) e)
  goes_ack x (runs (turn s q b)) h e =
      rw (← e.2) (ap (acked_on x true) (ap (λ (o : Option ℕ). is_slot o x) e.0) ∙ acked_by x true idle (eqb x s) (ltb a 4) (λ t. refl))

  tiny_by : (x : ℕ) (r : Running) (b c d : Bool) → x < 64 → Runs slot p a r
      → Goes ws (cond b (polled (watch 0 m slot p a) x) (cond c (acked (watch 0 m slot p a) x false) (cond d (acked (watch 0 m slot p a) x true) (Some (watch 0 m slot p a))))) due r
      (cond b (poll x ∷ []) (cond c (pollack x ∷ []) (cond d (ack x ∷ []) [])))
  tiny_by x r true c d h e = goes_poll x r h e
  tiny_by x r false true d h e = goes_pollack x r h e
  tiny_by x r false false true h e = goes_ack x r h e
  tiny_by x r false false false h e = next m slot p a due r same e

  sent_by_lem : (h : Head) (r : Running) (b : Bool) → Runs slot p a r
      → Goes ws (cond b (tiny_sent (watch 0 m slot p a) h.hi (h.extra % 64)) (Some (watch 0 m slot p a))) due r
      (cond b
      (cond (eqb h.hi k_poll || eqb h.hi k_relay) (poll (h.extra % 64) ∷ [])
      (cond (eqb h.hi k_pollack) (pollack (h.extra % 64) ∷ [])
      (cond (eqb h.hi k_ack) (ack (h.extra % 64) ∷ []) [])))
      [])
  unfolding tiny_sent
  sent_by_lem h r true e = tiny_by (h.extra % 64) r (eqb h.hi k_poll || eqb h.hi k_relay) (eqb h.hi k_pollack) (eqb h.hi k_ack) (omega arith) e
  sent_by_lem h r false e = next m slot p a due r same e

  goes_sent : (h : Head) (r : Running) → Runs slot p a r → Goes ws (sent (watch 0 m slot p a) h) due r (sending_by h)
  unfolding sent
  goes_sent h r e = sent_by_lem h r (eqb h.code tiny) e

  drawn_by : (n : ℕ) (b : Bool) → Goal ws n
      → went (cond b (Some (watch n 0 None 0 0)) None) ws ≡ b && watched (slots_in n ws) idle (entries_from n ws)
  drawn_by n true g = g 0 None 0 0 [] idle same_none refl
  drawn_by n false g = refl

  goes_drawn : (n : ℕ) (r : Running) → Goal ws n
      → went (drawn (watch 0 m slot p a) n) ws ≡ watched due r (mark (slots_in n ws) ∷ entries_from n ws)
  unfolding drawn watched
  goes_drawn n r g = rw (same_empty m due same) (drawn_by n (is_none due) g)

  word_by_lem : (w : ℕ) (r : Running) (b c : Bool) → Goal ws (w % 64) → Runs slot p a r
      → went (cond b (drawn (watch 0 m slot p a) (w % 64)) (cond c (sent (watch 0 m slot p a) (head_of w)) (Some (watch 0 m slot p a)))) ws
      ≡ watched due r (cond b (mark (slots_in (w % 64) ws) ∷ entries_from (w % 64) ws) (cond c (sending_by (head_of w) ++ entries_from 0 ws) (entries_from 0 ws)))
  word_by_lem w r true c g e = goes_drawn (w % 64) r g
  word_by_lem w r false true g e = goes_sent (head_of w) r e
  word_by_lem w r false false g e = next m slot p a due r same e

listed_is : (n m : ℕ) (slot : Option ℕ) (p a w : ℕ) → watch_step (watch (suc n) m slot p a) w ≡ Some (watch n (with_bit m (w % 64)) slot p a)
unfolding watch_step listed
listed_is n m slot p a w =
    let k : suc n - 1 ≡ n = omega arith in
    cond_false (eqb (suc n) 0) _ _ (ne_eqb (suc n) 0 (λ q. omega arith)) ∙ rw k

walked : (ws : List ℕ) (left : ℕ) → Goal ws left
unfolding walk watch_step word_step slots_in entries_from watched
walked [] left m slot p a due r s e = refl
walked (w ∷ ws) zero m slot p a due r s e =
    rw append-nil (word_by_lem ws (walked ws 0) m slot p a due s w r (is_mark w) (eqb (w / 268435456) 8) (walked ws (w % 64)) e)
walked (w ∷ ws) (suc n) m slot p a due r s e =
    ap (λ (t : Option Watch). went t ws) (listed_is n m slot p a w)
    ∙ rw (← append_assoc due (w % 64 ∷ []) (slots_in n ws)) (walked ws n (with_bit m (w % 64)) slot p a (due ++ (w % 64 ∷ [])) r (same_behind m due (w % 64) s (omega arith)) e)

pub turns_walk : (ws : List ℕ) → went (Some (watch 0 0 None 0 0)) ws ≡ watched [] idle (entries_from 0 ws)
unfolding slots_in
turns_walk ws = walked ws 0 0 None 0 0 [] idle same_none refl
