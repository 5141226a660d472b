-- A frame by its cases, and a control frame by its kinds: what holds where nothing changes, and of what each kind does, holds of the frame read. Assumes nothing.
use mathlib.Core.List.{List}
use Prim.Native.Nat.{ℕ, ◌/◌, ◌%◌}
use lib.Dec.{eqb, leb}
use lib.ListN.{length, get_or}
use Rattle.bits.proofs.Lists.{cond_keeps}
use Rattle.wire.specs.Kinds.{t_up, t_ctrl, c_checkin, c_report, c_overheard, c_kids}
use Rattle.words.specs.Words.{heard}
use Rattle.frames.specs.declared.Air.{Air}
use Rattle.frames.specs.Reading.{Reading, also_said}
use Rattle.frames.specs.Control.{checkin_frame, report_frame, overheard_frame, kids_frame}
use Rattle.frames.specs.Pieces.{piece_frame}
use Rattle.frames.specs.Frames.{control_by, read_frame}

module _ (P : Reading → Type 0) (a : Air) (x : Reading) (same : P x) where
  pub control_cases : (slot b len : ℕ) (p : List ℕ) → P (also_said x (checkin_frame a len p x.station)) → P (report_frame a len p x) → P (also_said x (overheard_frame a len p slot x.station))
      → P (also_said x (kids_frame a len p slot x.station)) → P (control_by a slot b len p x)
  unfolding control_by
  control_cases slot b len p checkin report overheard kids =
      cond_keeps P (eqb b c_checkin) _ _ (λ _. cond_keeps P (leb 7 len) _ x (λ _. checkin) (λ _. same))
      (λ _. cond_keeps P (eqb b c_report) _ _ (λ _. cond_keeps P (leb 12 len) (report_frame a len p x) x (λ _. report) (λ _. same))
      (λ _. cond_keeps P (eqb b c_overheard) _ _ (λ _. overheard) (λ _. cond_keeps P (eqb b c_kids) _ x (λ _. kids) (λ _. same))))

  pub frame_cases : (flags field : ℕ) (p : List ℕ) → P (piece_frame a (flags % 64) field p x) → P (control_by a (flags % 64) (get_or p 0 0) (length p) p x) → P (read_frame a (heard flags field p) x)
  unfolding read_frame
  frame_cases flags field p piece control =
      cond_keeps P (eqb (flags / 64) t_up) (piece_frame a (flags % 64) field p x) _ (λ _. piece)
      (λ _. cond_keeps P (eqb (flags / 64) t_ctrl) _ x (λ _. cond_keeps P (eqb (length p) 0) x (control_by a (flags % 64) (get_or p 0 0) (length p) p x) (λ _. same) (λ _. control)) (λ _. same))
