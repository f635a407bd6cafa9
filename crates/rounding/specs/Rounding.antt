-- Rounding to nearest, ties to even, as IEEE 754-2019 has it (3.3, 4.3.1), over whole numbers. A fraction num / den, den above 0, is rounded to a multiple of a format's smallest value. Definitions only.
use Rattle.std.specs.Prelude.{ℕ, suc, ◌+◌, ◌-◌, ◌*◌, ◌/◌, ◌%◌, ◌^◌, ◌≤◌, ◌<◌, ◌≡◌}
use Rattle.std.specs.Float.{Format}
use Rattle.std.specs.Float.Ieee.{prec, emax, low, size}

-- 3.3: the values of a format, in units of its smallest one: c * 2 ^ k with c of `prec` binary digits at most, and k below 2 * emax
pub record Held (f : Format) (v : ℕ) : Type 0 where
  pub digits : ℕ
  pub shift : ℕ
  pub few : digits < 2 ^ prec f
  pub in_range : shift < 2 * emax f
  pub is : v ≡ digits * 2 ^ shift

-- how far v units are from num / den, in units and den times as large: the size of v * den - num * 2 ^ low
abbrev pub away : Format → ℕ → ℕ → ℕ → ℕ
away f num den v = (v * den - num * 2 ^ low f) + (num * 2 ^ low f - v * den)

-- the last digit of v units that the format keeps
abbrev pub last_digit : Format → ℕ → ℕ
last_digit f v = v / 2 ^ (size v - prec f) % 2

-- rule 7.1; 4.3.1, roundTiesToEven: v units are a value of the format, none is nearer to num / den, and if another is as near, v's last digit is even
pub record Rounded (f : Format) (num den v : ℕ) : Type 0 where
  pub held : Held f v
  pub nearest : (w : ℕ) → Held f w → away f num den v ≤ away f num den w
  pub even : (w : ℕ) → Held f w → (w ≡ v → ⊥) → away f num den w ≡ away f num den v → last_digit f v ≡ 0

-- 4.3.1: a size from here on becomes an infinity. It is 2 ^ emax * (2 - 2 ^ -prec), in binary32 2 ^ 128 - 2 ^ 103
abbrev pub overflows_from : Format → ℕ
overflows_from f = 2 ^ suc (emax f) - 2 ^ (emax f - prec f)
