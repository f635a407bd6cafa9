-- The square root (rules 7.5 and 7.8), to nearest over whole numbers. Definitions only.
-- For x = n * 2 ^ -149 the root is √(n * 2 ^ 149) times 2 ^ -149, so all is said about the whole number n * 2 ^ 149.
-- proofs/Nearest.antt shows that this is the nearest value and that no second one is, and proofs/Special.antt that no tie comes up.
use Rattle.std.specs.Prelude.{ℕ, zero, suc, ◌+◌, ◌-◌, ◌*◌, ◌/◌, ◌^◌, ◌<◌, true, false, cond, nat_le, Float}
use Rattle.std.specs.Float.{nan, inf, fin}
use Rattle.std.specs.Float.Ieee.{size, odd}
use Rattle.ieee.specs.Units.{wholes}

-- the whole part of the root of an a below 4 ^ j, binary digit by digit: r is twice the root of a / 4
abbrev pub digit : ℕ → ℕ → ℕ
digit r a = cond (nat_le ((r + 1) * (r + 1)) a) (r + 1) r

unfoldable pub root_down : ℕ → ℕ → ℕ
root_down zero a = 0
root_down (suc j) a = digit (2 * root_down j (a / 4)) a

-- the whole number nearest to the root of an a below 4 ^ 24; s is the whole part
abbrev pub nearer : ℕ → ℕ → ℕ
nearer s a = cond (nat_le a (s * s + s)) s (s + 1)

unfoldable pub root_near : ℕ → ℕ
unfolding root_down
root_near a = nearer (root_down 24 a) a

-- The root of n * 2 ^ -149, for n above 0. The root of v = n * 2 ^ 149 has half as many digits as v, rounded up. The format keeps 24 of them and drops k,
-- so it is c * 2 ^ k, with c the whole number nearest to the root of v / 2 ^ (k + k).
unfoldable pub root_wholes : ℕ → Float
unfolding size odd root_near
root_wholes n =
    let v = n * 2 ^ 149 in
    let k = (size v + 1) / 2 - 24 in
    odd 24 false (root_near (v / 2 ^ (k + k))) k 149

-- Rust's `x.sqrt()`: both zeros are their own roots, and so is +∞; NaN and what is below 0 have the root NaN
unfoldable pub root : Float → Float
unfolding wholes root_wholes
root nan = nan
root (inf s) = cond s nan (inf false)
root (fin s zero e) = fin s zero e
root (fin true (suc m) e) = nan
root (fin false (suc m) e) = root_wholes (wholes (fin false (suc m) e))

-- rule 7.8, nearest: c * 2 ^ -149 is nearer to the root of n * 2 ^ -149 than y * 2 ^ -149 is. The root lies on c's side of the mean of the two,
-- which is said with both sides squared and four times as large.
pub record Nearer (n c y : ℕ) : Type 0 where
  pub above : c < y → 4 * (n * 2 ^ 149) < (c + y) * (c + y)
  pub under : y < c → (c + y) * (c + y) < 4 * (n * 2 ^ 149)
