-- Counters stop at 4,294,967,295 (document 01, 'Member').
use Rattle.std.specs.Prelude.{ℕ, cond, leb}

-- n, or 4,294,967,295 where that is less
unfoldable pub stop : ℕ → ℕ
stop n = cond (leb n 4294967295) n 4294967295
