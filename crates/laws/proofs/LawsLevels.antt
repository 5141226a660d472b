-- Every level up, and every level at which a boat was heard directly, is a value of f32 after any calls from a start, where those handed in are: so the law of
-- smoothing holds of each. Assumes nothing.
use mathlib.Core.Path.{◌≡◌, subst}
use mathlib.Core.List.{List, [], ◌∷◌}
use Prim.Native.Nat.{ℕ, ◌%◌}
use lib.Dec.{T, eqb}
use lib.ListN.{length}
use lib.Ieee.{Float, binary32, fits, mul, of_int}
use lib.Ieee.Fits.{add-fits, sub-fits}
use lib.IntN.{pos}
use Rattle.bits.proofs.Lists.{cond_keeps}
use Rattle.level.specs.declared.Level.{Level}
use Rattle.level.specs.declared.Level.TheVariants.{Unheard, Decibels}
use Rattle.level.specs.Consts.{zero_time, half, twenty_four}
use Rattle.level.specs.Levels.{smoothed}
use Rattle.rounding.proofs.Between.{smoothed_between}
use Rattle.wire.specs.Fields.{field_db, snr_from_q}
use Rattle.roster.specs.declared.Member.{Member}
use Rattle.roster.specs.Members.{new_member}
use Rattle.net.specs.declared.Station.{Station}
use Rattle.net.specs.declared.Settings.{Settings}
use Rattle.net.specs.State.{index_of}
use Rattle.net.specs.Net.{new_station, blank_call}
use Rattle.config.specs.declared.Given.{Given}
use Rattle.station.specs.Entries.{start_refusal}
use Rattle.promise.specs.Promise.{Call, after, started}
use Rattle.laws.specs.Laws.{LevelsOk, Smooths}
use Rattle.promise.proofs.Walk.{Allowed, Field, burst, told, caps, version, heard, down, received, direct, reached}
use Rattle.promise.proofs.WalkRoster.{Every, Each, every, every_new}
use Rattle.promise.proofs.WalkCalls.{levels, LevelsIn, always_level}

-- ---- the invariant

abbrev LevelFits : Level → Type 0
LevelFits Unheard = Unit {0}
LevelFits (Decibels x) = T (fits binary32 x)

-- promotion takes the direct level for the level up
abbrev MemberFits : Member → Type 0
MemberFits m = LevelFits m.snrup × LevelFits m.direct

abbrev Fits : Station → Type 0
Fits s = Every MemberFits s

-- ---- levels

smoothed_fits : (l : Level) (x : Float) → T (fits binary32 x) → T (fits binary32 (smoothed l x))
smoothed_fits Unheard x f = f
smoothed_fits (Decibels old) x f = add-fits binary32 (mul binary32 half old) (mul binary32 half x)

field_fits : (q : ℕ) → T (fits binary32 (field_db q))
unfolding field_db
field_fits q = sub-fits binary32 (of_int binary32 (pos (q % 64))) twenty_four

heard_fits : (q : ℕ) → LevelFits (snr_from_q q)
unfolding snr_from_q
heard_fits q = cond_keeps LevelFits (eqb (q % 64) 63) Unheard (Decibels (field_db q)) (λ _. tt) (λ _. field_fits q)

-- ---- each change

abbrev Ok : Float → Type 0
Ok x = T (fits binary32 x)

abbrev Kinds : Allowed
Kinds = levels Ok

field_kept : (m k : Member) → Field Kinds m k → MemberFits m → MemberFits k
field_kept m k (burst n) l = l
field_kept m k told l = l
field_kept m k (caps n) l = l
field_kept m k (version n) l = l
field_kept m k (heard now) l = l
field_kept m k (down q) l = l
field_kept m k (received x d now ok) l = (smoothed_fits m.snrup x ok, l.1)
field_kept m k (direct x ok) l = (l.0, ok)
field_kept m k (reached q now) l = (heard_fits q, l.1)

each_kept : Each Kinds MemberFits
each_kept =
    record {
      field = field_kept;
      missed = λ m n l. l;
      marked = λ m next marks tried l. l;
      promoted = λ m snr d l. (subst LevelFits d l.1, tt);
      moved = λ m r l. l;
      landed = λ m number n l. l;
      barred = λ m number l. l;
      entered = λ call v now. (tt, tt);
      cut = λ m limit l. (tt, l.1);
    }

station_fits : (g : Settings) (count : ℕ) → Fits (new_station g count)
unfolding new_station
station_fits g count = every_new MemberFits 62 (new_member blank_call 63 zero_time) (tt, tt) (tt, tt)

-- ---- the law

smooths_of : (s : Station) → Fits s → Smooths s
smooths_of s l i old x e f u v =
    smoothed_between old x (subst LevelFits e (l (index_of i)).0) f u v

levels_in : (cs : List Call) → LevelsOk cs → LevelsIn Ok cs
levels_in [] f = tt
levels_in (c ∷ cs) f = (f.0, levels_in cs f.1)

pub smooths : (s : Station) (g : Given) (store : List ℕ) → start_refusal g (length store) ≡ 0 → (cs : List Call) → LevelsOk cs
    → Smooths (after cs (started s g store)).station
smooths s g store e cs f =
    smooths_of (after cs (started s g store)).station (always_level Ok Fits (every Kinds MemberFits each_kept) s g store e (station_fits _ _) cs (levels_in cs f))
